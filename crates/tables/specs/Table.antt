-- Document 01, 'Lines' (Table), 'Room' and 'Numbers of refusal', 1 to 6: what a table's text says, or the
-- refusal of its first failing line.
use Rattle.std.specs.Prelude.{ℕ, ◌+◌, ◌-◌, List, [], ◌∷◌, ◌++◌, length, drop, replicate, leb}
use Rattle.std.proofs.Math.Option.{Option, none, some}
use Rattle.lines.specs.Line.{choose, lines}
use Rattle.lines.specs.Judging.{Judged, refused, Judging, judged_from}
use Rattle.desk_lines.specs.DeskLine.{desk_frame}
use Rattle.kinds.specs.Kind.{subterms}
use Rattle.frames.specs.TableFrame.{frame_of, refusal, first_refusal, closes}
use Rattle.frames.specs.declared.Frame.{Frame}
use Rattle.frames.specs.declared.Frame.TheVariants.{Opening, Definition, Term, Closing, Wrong}
use Rattle.frames.specs.declared.Seen.{Seen}

-- the room of a table's text
abbrev pub text_room : ℕ
text_room = 32768

-- a term as its line has it: the definition that it stands in, its kind, and its payload as a number
pub record Item : Type 0 where
  pub definition : ℕ
  pub kind : ℕ
  pub payload : ℕ

-- what the lines so far have said: line 1's two numbers; for each definition begun, how many terms stand before
-- it; the terms; and the path lengths of the terms that the definition begun still lacks, the next one first
pub record Sofar : Type 0 where
  pub definitions : ℕ
  pub events : ℕ
  pub roots : List ℕ
  pub terms : List Item
  pub due : List ℕ

-- the path length of the next term due
unfoldable pub next_due : List ℕ → ℕ
next_due [] = 0
next_due (d ∷ ds) = d

-- what a line is judged by
unfoldable pub seen : Sofar → Seen
seen s = record {
  definitions = s.definitions;
  events = s.events;
  begun = length s.roots;
  terms = length s.terms;
  due = length s.due;
  depth = next_due s.due;
}

-- what is said once a frame is taken in. A definition's root is due at the empty path; a
-- term's subterms at one digit more
unfoldable pub taken : Sofar → Frame → Sofar
taken s Wrong = s
taken s (Opening ed dd ee) =
    record { definitions = dd; events = ee; roots = []; terms = []; due = [] }
taken s (Definition n) = record {
  definitions = s.definitions;
  events = s.events;
  roots = s.roots ++ (length s.terms ∷ []);
  terms = s.terms;
  due = 0 ∷ [];
}
taken s (Term k p) = record {
  definitions = s.definitions;
  events = s.events;
  roots = s.roots;
  terms = s.terms ++ (record { definition = length s.roots - 1; kind = k; payload = p } ∷ []);
  due = replicate (subterms k) (next_due s.due + 1) ++ drop 1 s.due;
}
taken s (Closing t) = s

-- nothing said yet
abbrev pub unopened : Sofar
unopened = record { definitions = 0; events = 0; roots = []; terms = []; due = [] }

-- how far a table's lines have come: before line 1, within, or behind the last line
pub data Stage : Type 0 where
  at_start : Stage
  within : Sofar → Stage
  closed : Sofar → Stage

-- what the table says, behind its last line
unfoldable pub whole_at : Stage → Option Sofar
whole_at at_start = none
whole_at (within s) = none
whole_at (closed s) = some s

-- the number that a line's bytes meet; behind the last line any are a frame out of place
unfoldable pub number_met : Stage → List ℕ → ℕ
number_met at_start bs = first_refusal (frame_of bs)
number_met (within s) bs = refusal (frame_of bs) (seen s)
number_met (closed s) bs = 2

-- how far the lines have come behind one that meets none
unfoldable pub stage_behind : Stage → List ℕ → Stage
stage_behind at_start bs = within (taken unopened (frame_of bs))
stage_behind (within s) bs = choose (closes (frame_of bs)) (closed s) (within (taken s (frame_of bs)))
stage_behind (closed s) bs = closed s

-- how a table's lines are judged
abbrev pub table_lines : Judging Stage Sofar
table_lines = record { reads = desk_frame; whole = whole_at; number = number_met; behind = stage_behind }

-- what a table's text is: number 6 is tested first
unfoldable pub judged : List ℕ → Judged Sofar
judged text =
    choose (leb (length text) text_room) (judged_from table_lines at_start 1 (lines text)) (refused 6 0)
