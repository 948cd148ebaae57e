-- What a step that the words go through owes the step of the rules: `Ready`, what it finds; `Fits`, the rooms of what it
-- comes to; `Goes`, the same event, digits, cells and reference, the same labels, arcs, meetings and event nodes added,
-- and words that hold the same process. `Ends` is the same of a part before the sequences around it see its event.
-- Assumes nothing.
use Rattle.std.proofs.Common.{ℕ, ◌+◌, ◌-◌, ◌≤◌, ◌<◌, ◌≡◌, List, [], length}
use Rattle.rules.specs.declared.Event.TheVariants.{Tick as ✓}
use Rattle.rules.specs.Process.{Process, Ω, cells}
use Rattle.rules.specs.Track.{At, Outcome}
use Rattle.rules.specs.Step.{Stepped}
use Rattle.rules.proofs.Climbing.{Up}
use Rattle.rules.proofs.Marked.{Fit, past}
use Rattle.rules.proofs.Holding.{held}
use Rattle.plans.specs.words.Plan.{Layout}
use Rattle.control.specs.words.Words.{node, reference_room, track_words}
use Rattle.control.specs.words.Control.{label, state, at_end, Around, HoldsControl}
use Rattle.control.specs.words.Views.{arcs_of}
use Rattle.leaves.specs.code.Leaves.{Done}
use Rattle.step_laws.proofs.Writing.{Words, Added, Writes}

-- where what stands at reference n stands
abbrev pub at_words : ℕ → Words → At
at_words n u = record {
  reference = n;
  fresh = u.tally.fresh;
  arcs = arcs_of u.track u.tally.arcs;
}

-- the words that a step comes to
abbrev pub words_of : Done → Words
words_of d = record { tally = d.taken.tally; nodes = d.nodes; track = d.track }

-- what an outcome adds
abbrev pub added : Outcome → Added
added r = record { labels = r.labels; arcs = r.arcs; meetings = r.meetings; met = r.met }

-- words that are whole, clean behind what is drawn, and whose arcs climb
pub record Sound (u : Words) : Type 0 where
  pub whole_nodes : length u.nodes ≡ 65544
  pub whole_track : length u.track ≡ track_words
  pub clean : (j i : ℕ) → u.tally.fresh ≤ j → i < 8 → node i u.nodes j ≡ 0
  pub up : Up u.tally.fresh (arcs_of u.track u.tally.arcs)

-- the rooms of an outcome
pub record Fits (u : Words) (r : Outcome) : Type 0 where
  pub fresh_fits : r.fresh ≤ reference_room
  pub nodes_fit : u.tally.nodes + length r.labels ≤ 4096
  pub arcs_fit : u.tally.arcs + length r.arcs ≤ 8192
  pub meetings_fit : u.tally.meetings + length r.meetings ≤ 4096
  pub met_fit : u.tally.met + length r.met ≤ 4096
  pub cells_fit : cells r.process ≤ 1024

module _ (l : Layout) (p x : List ℕ) (count : ℕ) where
  -- words that hold a process at reference n, each of whose references is drawn and held once
  pub record Ready (n b : ℕ) (P : Process) (ks : List ℕ) (u : Words) : Type 0 where
    pub sound : Sound u
    pub holds : HoldsControl l p x u.nodes n b P ks
    pub fit : Fit P
    pub once : (j : ℕ) → held j n P ≤ past j u.tally.fresh

  -- the same event, digits, cells and reference, and the same track
  pub record Matches (own : ℕ → ℕ) (u : Words) (y : Stepped) (d : Done) : Type 0 where
    pub writes : Writes l own u (words_of d) (added y.outcome)
    pub fresh_is : d.taken.tally.fresh ≡ y.outcome.fresh
    pub event_is : d.taken.event ≡ y.outcome.event
    pub reference_is : d.taken.reference ≡ y.outcome.reference
    pub at_is : d.taken.at ≡ count - length y.unused

  -- the whole of a part's step
  pub record Goes (n b : ℕ) (P : Process) (u : Words) (y : Stepped) (d : Done) : Type 0 where
    pub matches : Matches (λ j. held j n P) u y d
    pub size_is : d.taken.size ≡ cells y.outcome.process
    pub holds : HoldsControl l p x d.nodes y.outcome.reference b y.outcome.process []

  -- a part's step before the sequences ks around it see its event: they stand around what it comes to; of a ✓, which
  -- leaves Ω, they stand around the term t with frame f that it came from
  pub record Ends (n b t f : ℕ) (ks : List ℕ) (P : Process) (u : Words) (y : Stepped) (d : Done) : Type 0 where
    pub matches : Matches (λ j. held j n P) u y d
    pub size_is : d.taken.size ≡ length ks + cells y.outcome.process
    pub chain : Around p d.nodes t f b ks
    pub goes_on : (y.outcome.event ≡ ✓ → ⊥) → HoldsControl l p x d.nodes y.outcome.reference b y.outcome.process ks
    pub at_Ω : y.outcome.event ≡ ✓ → y.outcome.process ≡ Ω
    pub Ω-there : y.outcome.event ≡ ✓ → (state d.nodes y.outcome.reference ≡ at_end)
        × (label d.nodes y.outcome.reference ≡ 0) × (b < y.outcome.reference)
        × (u.tally.fresh ≤ y.outcome.reference) × (y.outcome.reference < y.outcome.fresh)
