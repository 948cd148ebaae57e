-- Laws of this crate: `Laws`, that a mark is read as it was made, and what each mark is; `Followed`, of a path followed digit by
-- digit; `Literals`, that the mark found at a path is that of the literal that has that path.
pub mod Laws
pub mod Followed
pub mod Literals
