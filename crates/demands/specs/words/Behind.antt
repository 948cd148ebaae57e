-- What two runs' words have in common behind two steps in either order.
use Rattle.std.specs.Prelude.{ℕ, ◌≤◌, ◌≡◌, List, length}
use Rattle.tables.specs.Table.{Sofar}
use Rattle.rules.specs.Run.{State}
use Rattle.graphs.specs.Graph.{graph_of}
use Rattle.graphs.specs.Saved.{saved}
use Rattle.exchange.specs.Renamed.{renamed}
use Rattle.writing.specs.Answers.{Saved}
use Rattle.runs.specs.words.Held.{Words}
use Rattle.demands.specs.words.Words.{HoldsRun, SavesWords}
use Rattle.demands.specs.words.Bytes.{bytes_of}
use Rattle.runs.specs.Answer.{Answer, Refused}

-- words that hold what both orders come to: the states behind a and then b, and behind b and then a, are the same
-- process apart from reference numbers, which are renamed one to one, and their saves leave the same bytes
pub record SameBehind (ks os xs rs p x : List ℕ) (t : Sofar) (v v' : Words) : Type 0 where
  pub first_then : State
  pub second_then : State
  pub held : HoldsRun p x t v first_then
  pub held' : HoldsRun p x t v' second_then
  pub φ : ℕ → ℕ
  pub ψ : ℕ → ℕ
  pub back : (n : ℕ) → ψ (φ n) ≡ n
  pub forth : (n : ℕ) → φ (ψ n) ≡ n
  pub process : second_then.process ≡ renamed φ first_then.process
  pub reference : second_then.reference ≡ φ first_then.reference
  pub same_length : length (saved (graph_of first_then)) ≡ length (saved (graph_of second_then))
  pub same_bytes : (slice after slice' after' : List ℕ) (r r' : Saved)
      → SavesWords ks os xs rs v slice r after → SavesWords ks os xs rs v' slice' r' after'
      → length (saved (graph_of first_then)) ≤ length slice → length (saved (graph_of first_then)) ≤ length slice'
      → bytes_of r after ≡ bytes_of r' after'

-- both orders meet a room limit, the same
abbrev pub BothRefused : Answer → Answer → Type 0
BothRefused r r' = (n : ℕ) × (8 ≤ n) × (n ≤ 11) × (r ≡ Refused n) × (r' ≡ Refused n)
