-- Laws of saved tracks read: `Gone`, all the lines, one part behind the other; what the columns of a checked table make of the
-- marks: `MarksTold`, what the marks of nodes tell, and `RuleLaws`, the reader's rules by marks are the document's; and
-- `Promises`, what reading owes.
pub mod Gone
pub mod MarksTold
pub mod RuleLaws
pub mod Promises
