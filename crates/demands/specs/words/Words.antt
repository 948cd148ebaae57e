-- The words of a run, and what the doors promise of them: a step by an address, and a save. The graph that columns
-- tell, and what writing promises of it.
use Rattle.std.specs.Prelude.{ℕ, ◌≡◌, List, length}
use Rattle.tables.specs.Table.{Sofar}
use Rattle.tables.specs.words.Columns.{kinds, payloads, afters, roots}
use Rattle.terms.specs.Term.{definitions_of}
use Rattle.columns.specs.words.Columns.{columns}
use Rattle.rules.specs.declared.Event.{Event}
use Rattle.rules.specs.Run.{State}
use Rattle.plans.specs.code.Laid.{laid_out}
use Rattle.plans.specs.words.Layout.{layout}
use Rattle.runs.specs.words.Held.{Words, Holds, Keeps}
use Rattle.runs.specs.Answer.{Answer, Accepted}
use Rattle.graphs.specs.Graph.{Graph}
use Rattle.graphs.specs.Saved.{graph_text}
use Rattle.links.specs.declared.GraphCounts.{GraphCounts}
use Rattle.framing.specs.words.Told.{graph_told}
use Rattle.writing.specs.words.Slice.{with_slice, written}
use Rattle.writing.specs.Answers.{Saved}
use Rattle.saving.specs.words.Kept.{Saves}

-- the plan that is laid out from a table's columns, and the sets that go with it
pub record Planned (p x : List ℕ) (t : Sofar) : Type 0 where
  pub plan_is : p ≡ laid_out (length t.terms) (kinds t) (payloads t) (afters t) (roots t)
  pub sets_are : x ≡ payloads t

-- words that hold a run of a table
abbrev pub HoldsRun : List ℕ → List ℕ → Sofar → Words → State → Type 0
HoldsRun p x t v s = Holds (layout t) p x (definitions_of t) v.nodes v.track v.counters s

-- an outcome that a step by the first `count` of the digits may have
abbrev pub Steps : List ℕ → List ℕ → List ℕ → ℕ → Words → Answer → Words → Type 0
Steps p x ds count v r v' =
    Keeps p x count ds v r v'

-- an answer that shows an event
abbrev pub shows : Event → Answer
shows e = Accepted (record { event = e })

-- an outcome that a save may have
abbrev pub SavesWords : List ℕ → List ℕ → List ℕ → List ℕ → Words → List ℕ → Saved → List ℕ → Type 0
SavesWords ks os xs rs v slice r slice' = Saves (columns ks os xs rs) v slice r slice'

-- an outcome that writing a graph in columns may have
abbrev pub Writes : Graph → List ℕ → Saved → List ℕ → Type 0
Writes g slice r slice' = with_slice r slice' ≡ written (graph_text g) slice

-- the graph that columns tell, with the places of a table's columns
abbrev pub told_by : List ℕ → List ℕ → List ℕ → List ℕ → List ℕ → List ℕ → GraphCounts → Graph
told_by ks os xs rs labels graph n = graph_told (columns ks os xs rs) labels graph n
