-- Laws of places: `Ways` of following terms downward, a step at a time; `Literals` of the path of each kind
-- of literal; `Sides` of a term's numbers; `Laws` of what a caller may rely on.
pub mod Ways
pub mod Literals
pub mod Sides
pub mod Laws
