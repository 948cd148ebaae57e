-- A run: where it starts, what an address makes of it, and the rooms. Document 01, 'Steps and addresses',
-- 'Room' and 'Numbers of refusal', 7 to 11.
use Rattle.std.specs.Prelude.{ℕ, zero, suc, ◌≡◌, List, [], ◌∷◌, ◌++◌, length, ltb}
use Rattle.std.proofs.Math.Option.{Option, none, some}
use Rattle.lines.specs.Line.{choose}
use Rattle.terms.specs.Term.{Term}
use Rattle.rules.specs.declared.Event.{Event}
use Rattle.rules.specs.Process.{Address, Process, main, cells}
use Rattle.rules.specs.Track.{Label, Pair, At, Outcome}
use Rattle.rules.specs.Step.{Stepped, step}

-- the control with its current reference, the next fresh one, and the track: labels, arcs and meetings in the
-- order made
pub record State : Type 0 where
  pub process : Process
  pub reference : ℕ
  pub fresh : ℕ
  pub labels : List Label
  pub arcs : List Pair
  pub meetings : List Pair

-- control starts as a call of definition 00, current reference 0, next fresh reference 1
abbrev pub start : State
start = record { process = main; reference = 0; fresh = 1; labels = []; arcs = []; meetings = [] }

abbrev pub stands : State → At
stands s = record { reference = s.reference; fresh = s.fresh; arcs = s.arcs }

-- the state behind a derivation
unfoldable pub after : State → Outcome → State
after s r = record {
  process = r.process;
  reference = r.reference;
  fresh = r.fresh;
  labels = s.labels ++ r.labels;
  arcs = s.arcs ++ r.arcs;
  meetings = s.meetings ++ r.meetings;
}

-- the rooms of a run
abbrev pub cell_room : ℕ
cell_room = 1024

abbrev pub node_room : ℕ
node_room = 4096

abbrev pub arc_room : ℕ
arc_room = 8192

abbrev pub meeting_room : ℕ
meeting_room = 4096

-- the lowest number of the rooms that a state passes, 0 where it passes none
unfoldable pub over_room : State → ℕ
over_room s =
    choose (ltb cell_room (cells s.process)) 8
    (choose (ltb node_room (length s.labels)) 9
    (choose (ltb arc_room (length s.arcs)) 10
    (choose (ltb meeting_room (length s.meetings)) 11 0)))

-- what an address is: a step with its event and the state behind it, or a refusal
pub data Answer : Type 0 where
  accepted : Event → State → Answer
  refused : ℕ → Answer

unfoldable pub within_room : ℕ → Event → State → Answer
within_room zero e s = accepted e s
within_room (suc n) e s = refused (suc n)

-- all digits are used
unfoldable pub whole : Address → Event → State → Answer
whole [] e s = within_room (over_room s) e s
whole (d ∷ a) e s = refused 7

unfoldable pub answered : State → Option Stepped → Answer
answered s none = refused 7
answered s (some x) = whole x.unused x.outcome.event (after s x.outcome)

unfoldable pub answer : List Term → State → Address → Answer
answer ts s a = answered s (step ts s.process (stands s) a)

-- the states that accepted steps reach
pub data Reached (ts : List Term) : State → Type 0 where
  begun : Reached ts start
  goes_on : {s t : State} (a : Address) (e : Event) → Reached ts s → answer ts s a ≡ accepted e t → Reached ts t
