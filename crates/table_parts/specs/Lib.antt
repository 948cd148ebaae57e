-- A table's block by its parts. Mirrors of code: `code`.
pub mod code
