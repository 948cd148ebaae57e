-- What it is for lent words to hold a run: the state that accepted steps reach is told by them. `start` makes it so, and
-- every step keeps it, accepted or refused. And what the doors' answers are of such a run, by document 01's account in
-- `Run` of rules.
use Rattle.std.specs.Prelude.{ℕ, zero, suc, ◌≤◌, ◌<◌, ◌≡◌, List, [], length}
use Rattle.std.proofs.Math.Option.{Option, none, some}
use Rattle.std.proofs.Math.ListN.{get_elem?}
use Rattle.frames.specs.TableFrame.{term_room}
use Rattle.terms.specs.Term.{Term, Within}
use Rattle.rules.specs.Process.{Address}
use Rattle.rules.specs.Process as Process
use Rattle.rules.specs.Run.{State, start, Reached}
use Rattle.rules.specs.Run as Run
use Rattle.plans.specs.words.Plan.{Layout, around}
use Rattle.plans.specs.words.Plan as Plan
use Rattle.control.specs.declared.Run as Lent
use Rattle.control.specs.words.Words.{node, track_words}
use Rattle.control.specs.words.Control.{label, state, first, second_side, resting}
use Rattle.looking.specs.code.Looking.{digit_at}
use Rattle.control.specs.words.Views.{arcs_of, meetings_of, marked}
use Rattle.offers.specs.words.Told.{Low, Controls}
use Rattle.counting.specs.code.Counting.{reference, fresh, cells, nodes, arcs, meetings}
use Rattle.runs.specs.Answer.{Answer, Accepted, Refused}
use Rattle.rules.specs.Track.{lookup}
use Rattle.rules.specs.Addressed.{digit_of, with_digit, answered}

-- a table whose definitions a plan and its sets hold: definition 00 begins it, every definition that it calls is there, and
-- the sequences around its terms are terms
pub record Table (l : Layout) (p x : List ℕ) (ts : List Term) : Type 0 where
  pub held : Plan.HoldsTable l p x ts
  pub low : Low l
  pub first : l.root 0 ≡ 0
  pub some_first : get_elem? ts 0 ≡ none → ⊥
  pub numbered : (t : ℕ) → around p t ≤ term_room
  pub events : ℕ
  pub within : (n : ℕ) (t : Term) → get_elem? ts n ≡ some t → Within (length ts) events t

-- the words tell a state
pub record Tells (l : Layout) (p x w g c : List ℕ) (s : State) : Type 0 where
  pub controls : Controls l p x w s.reference s.process
  pub begins : s.reference ≡ 0 → s ≡ start
  pub reference_is : reference c ≡ s.reference
  pub fresh_is : fresh c ≡ s.fresh
  pub cells_are : cells c ≡ Process.cells s.process
  pub nodes_are : nodes c ≡ length s.labels
  pub arcs_are : arcs c ≡ length s.arcs
  pub meetings_are : meetings c ≡ length s.meetings
  pub labels_told : (j : ℕ) → marked l w j ≡ lookup j s.labels
  pub arcs_told : arcs_of g (arcs c) ≡ s.arcs
  pub meetings_told : meetings_of g (meetings c) ≡ s.meetings

-- words that are whole, and clean behind what is drawn; reference 0 rests, and a reference without a label has no sides
pub record Whole (w g c : List ℕ) : Type 0 where
  pub whole_nodes : length w ≡ 65544
  pub whole_track : length g ≡ track_words
  pub clean : (j i : ℕ) → fresh c ≤ j → i < 8 → node i w j ≡ 0
  pub first_rests : state w 0 ≡ resting
  pub sideless : (j : ℕ) → label w j ≡ 0 → (first w j ≡ 0) × (second_side w j ≡ 0)

-- the words hold a run
pub record Holds (l : Layout) (p x : List ℕ) (ts : List Term) (w g c : List ℕ) (s : State) : Type 0 where
  pub reached : Reached ts s
  pub tells : Tells l p x w g c s
  pub whole : Whole w g c

-- the address that n digits from a place on are; none where one of them is no digit
unfoldable pub address_from : List ℕ → ℕ → ℕ → ℕ → Option Address
address_from ds count at zero = some []
address_from ds count at (suc n) = with_digit (digit_of (digit_at ds count at)) (address_from ds count (suc at) n)

-- the address of a step by the first `count` of the digits
abbrev pub addressed : List ℕ → ℕ → Option Address
addressed ds count = address_from ds count 0 count

-- the answer's case for each of document 01's, with its number and value
unfoldable pub told : Run.Answer → Answer
told (Run.accepted e s) = Accepted (record { event = e })
told (Run.refused n) = Refused n

-- the state behind an answer: a refused step leaves it as it was
unfoldable pub behind : State → Run.Answer → State
behind s (Run.accepted e t) = t
behind s (Run.refused n) = s

-- what a run is lent: nodes, track and counters
pub record Words : Type 0 where
  pub nodes : List ℕ
  pub track : List ℕ
  pub counters : List ℕ

abbrev pub lent : List ℕ → List ℕ → List ℕ → Words
lent w g c = record { nodes = w; track = g; counters = c }

-- those of a run
abbrev pub words_of : Lent.Run → Words
words_of r = lent r.words.nodes r.words.track r.counters

-- what a step by the first `count` of the digits owes a run: its answer is document 01's, and the words after it hold the
-- state behind it
abbrev pub Keeps : List ℕ → List ℕ → ℕ → List ℕ → Words → Answer → Words → Type 0
Keeps p x count ds v r v' =
    (l : Layout) (ts : List Term) (s : State) → Table l p x ts → Holds l p x ts v.nodes v.track v.counters s
    → (r ≡ told (answered ts s (addressed ds count)))
    × Holds l p x ts v'.nodes v'.track v'.counters (behind s (answered ts s (addressed ds count)))

-- what a start owes: the words hold a run of any table, at its start
abbrev pub Begins : Words → Type 0
Begins v = (l : Layout) (p x : List ℕ) (ts : List Term) → Holds l p x ts v.nodes v.track v.counters start
