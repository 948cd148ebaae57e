-- How a number tells a literal of a table: 1 the left-hand side of definition 00, 2 + 2t the own literal of term t, 3 + 2t the
-- event of prefix t; 0 tells none.
use Rattle.std.specs.Prelude.{ℕ, ◌+◌, ◌*◌, ◌-◌, ◌/◌, ◌%◌, Bool, ◌&&◌, leb, ltb, eqb}
use Rattle.lines.specs.Line.{choose}
use Rattle.frames.specs.TableFrame.{term_room}
use Rattle.places.specs.declared.Literal.{Literal}
use Rattle.places.specs.declared.Literal.TheVariants.{Left, Own, Event}

-- the mark of node 0
abbrev pub start_mark : ℕ
start_mark = 1

-- the marks of term t: its own literal's, and a prefix's event's; they are a term's whatever the number t is
unfoldable pub own_mark : ℕ → ℕ
own_mark t = 2 * (t % term_room) + 2

unfoldable pub event_mark : ℕ → ℕ
event_mark t = 2 * (t % term_room) + 3

-- the number of the term that a mark is of
unfoldable pub term_of : ℕ → ℕ
term_of m = (m - 2) / 2

-- a mark is of a term's own literal, or of a prefix's event
unfoldable pub is_own : ℕ → Bool
is_own m = leb 2 m && eqb (m % 2) 0

unfoldable pub is_event : ℕ → Bool
is_event m = leb 2 m && eqb (m % 2) 1

-- the literal that a mark is of
unfoldable pub literal : ℕ → Literal
literal m = choose (ltb m 2) (Left 0) (choose (eqb (m % 2) 0) (Own (term_of m)) (Event (term_of m)))
