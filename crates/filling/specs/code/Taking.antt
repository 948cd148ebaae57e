-- What taking a frame in does to what the loop over a table's lines keeps. The path lengths of the terms due are
-- `depth`, of the next, and behind it the others in the array `waiting`, the last of them first.
use Rattle.std.specs.Prelude.{ℕ, ◌+◌, ◌-◌, ◌≤◌, ◌≡◌, List, get_or, set, eqb}
use Rattle.lines.specs.Line.{choose}
use Rattle.kinds.specs.Kind.{subterms}
use Rattle.frames.specs.TableFrame.{refusal, term_room, definition_room}
use Rattle.frames.specs.declared.Frame.{Frame}
use Rattle.frames.specs.declared.Frame.TheVariants.{Opening, Definition, Term, Closing, Wrong}
use Rattle.frames.specs.declared.Seen.{Seen}

-- a frame that meets no refusal, by what is within its rooms
pub record Ready (f : Frame) (s : Seen) : Type 0 where
  pub fine : refusal f s ≡ 0
  pub definitions_fit : s.definitions ≤ definition_room
  pub begun_fit : s.begun ≤ s.definitions
  pub terms_fit : s.terms ≤ term_room
  pub due_fit : s.due ≤ s.depth + 1

-- the last of the others' path lengths
unfoldable pub topmost : ℕ → List ℕ → ℕ
topmost n waiting = choose (eqb n 0) 0 (get_or waiting (n - 1) 0)

-- with other terms, another number of them due, and another path length of the next
abbrev pub moved : Seen → ℕ → ℕ → ℕ → Seen
moved s t d p = record {
  definitions = s.definitions;
  events = s.events;
  begun = s.begun;
  terms = t;
  due = d;
  depth = p;
}

unfoldable pub owed : ℕ → Seen → List ℕ → Seen
owed k s waiting =
    moved s (s.terms + 1) (s.due - 1 + subterms k)
    (choose (eqb (subterms k) 0) (topmost (s.due - 1) waiting) (s.depth + 1))

unfoldable pub pushed : ℕ → Seen → List ℕ → List ℕ
pushed k s waiting = choose (eqb (subterms k) 2) (set waiting (s.due - 1) (s.depth + 1)) waiting

unfoldable pub started : Seen → Seen
started s = record {
  definitions = s.definitions;
  events = s.events;
  begun = s.begun + 1;
  terms = s.terms;
  due = 1;
  depth = 0;
}

-- by the frame
unfoldable pub seen_then : Frame → Seen → List ℕ → Seen
seen_then Wrong s w = s
seen_then (Opening ed dd ee) s w = s
seen_then (Definition n) s w = started s
seen_then (Term k p) s w = owed k s w
seen_then (Closing t) s w = s

unfoldable pub waiting_then : Frame → Seen → List ℕ → List ℕ
waiting_then Wrong s w = w
waiting_then (Opening ed dd ee) s w = w
waiting_then (Definition n) s w = w
waiting_then (Term k p) s w = pushed k s w
waiting_then (Closing t) s w = w

unfoldable pub roots_then : Frame → Seen → List ℕ → List ℕ
roots_then Wrong s rs = rs
roots_then (Opening ed dd ee) s rs = rs
roots_then (Definition n) s rs = set rs s.begun s.terms
roots_then (Term k p) s rs = rs
roots_then (Closing t) s rs = rs

-- a term's column, with the term's own number of it
unfoldable pub column_then : (ℕ → ℕ → ℕ) → Frame → Seen → List ℕ → List ℕ
column_then of Wrong s xs = xs
column_then of (Opening ed dd ee) s xs = xs
column_then of (Definition n) s xs = xs
column_then of (Term k p) s xs = set xs s.terms (of k p)
column_then of (Closing t) s xs = xs
