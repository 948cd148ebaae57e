-- The mission, demand 3: both orders of two steps are accepted, or both refused by one room; they end in the same process apart
-- from reference numbers, and save the same bytes.
use Rattle.std.specs.Prelude.{ℕ, ◌<◌, ◌≡◌, List, length}
use Rattle.terms.specs.Term.{Term}
use Rattle.rules.specs.declared.Event.{Event}
use Rattle.rules.specs.Process.{Address, cells}
use Rattle.rules.specs.Run.{State, over_room, accepted, refused, answer}
use Rattle.graphs.specs.Graph.{graph_of}
use Rattle.graphs.specs.Saved.{saved}
use Rattle.graphs.specs.Renumbering.{Renumbers}
use Rattle.exchange.specs.Renamed.{renamed}

-- the room counters of two states are the same: control cells, labelled nodes, arcs and meetings
abbrev pub SameCounters : State → State → Type 0
SameCounters s t = (cells s.process ≡ cells t.process) × (length s.labels ≡ length t.labels)
    × (length s.arcs ≡ length t.arcs) × (length s.meetings ≡ length t.meetings)

-- What comes of two addresses a and b that are both accepted in state s, a with event e to state s₁ and b with
-- event f to state s₂, when each is taken behind the other
pub record BothOrders (ts : List Term) (a b : Address) (s s₁ s₂ : State) (e f : Event) : Type 0 where
  -- the states behind a and then b, and behind b and then a
  pub first_then : State
  pub second_then : State
  -- they make the same counters, so both meet a room limit, the same, or neither does
  pub counters : SameCounters first_then second_then
  pub rooms : over_room first_then ≡ over_room second_then
  -- where neither does, both orders are accepted, with the same events
  pub both_accepted : over_room first_then ≡ 0
      → (answer ts s₁ b ≡ accepted f first_then) × (answer ts s₂ a ≡ accepted e second_then)
  pub both_refused : (over_room first_then ≡ 0 → ⊥)
      → (answer ts s₁ b ≡ refused (over_room first_then)) × (answer ts s₂ a ≡ refused (over_room first_then))
  -- reference numbers, one to one; all that had been drawn in s stay
  pub φ : ℕ → ℕ
  pub ψ : ℕ → ℕ
  pub back : (n : ℕ) → ψ (φ n) ≡ n
  pub forth : (n : ℕ) → φ (ψ n) ≡ n
  pub fixes : (n : ℕ) → n < s.fresh → φ n ≡ n
  -- apart from them the process is the same, and so is the track
  pub process : second_then.process ≡ renamed φ first_then.process
  pub reference : second_then.reference ≡ φ first_then.reference
  pub fresh : second_then.fresh ≡ first_then.fresh
  pub renumbers : Renumbers φ ψ (graph_of first_then) (graph_of second_then)
  -- and the same bytes are saved
  pub same_bytes : over_room first_then ≡ 0 → saved (graph_of first_then) ≡ saved (graph_of second_then)
