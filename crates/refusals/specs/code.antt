-- Mirrors of code: `Said`, what a line says at a cursor.
pub mod Said
