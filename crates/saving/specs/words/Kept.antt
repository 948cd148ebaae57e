-- What saving owes: document 01's saved text of the run that the words hold.
use Rattle.std.specs.Prelude.{ℕ, ◌≡◌, List}
use Rattle.columns.specs.words.Columns.{Columns, with_payloads}
use Rattle.tables.specs.Table.{Sofar}
use Rattle.tables.specs.words.Columns.{TableOf}
use Rattle.terms.specs.Term.{definitions_of}
use Rattle.rules.specs.Run.{State}
use Rattle.plans.specs.words.Layout.{layout}
use Rattle.runs.specs.words.Held.{Words, Holds}
use Rattle.graphs.specs.Graph.{graph_of}
use Rattle.graphs.specs.Saved.{saved}
use Rattle.writing.specs.words.Slice.{with_slice, written}
use Rattle.writing.specs.Answers.{Saved}

-- what saving owes a run of a checked table, whose payloads it does not look at: where the words hold it, the answer and the
-- slice are those of its saved text
abbrev pub Saves : Columns → Words → List ℕ → Saved → List ℕ → Type 0
Saves c v slice r slice' =
    (text ps p x : List ℕ) (t : Sofar) (s : State) → TableOf text (with_payloads ps c) t
    → Holds (layout t) p x (definitions_of t) v.nodes v.track v.counters s
    → with_slice r slice' ≡ written (saved (graph_of s)) slice
