-- What reading owes: for the columns of a checked table, document 01's account of the text.
use Rattle.std.specs.Prelude.{ℕ, ◌≡◌, List, length}
use Rattle.tables.specs.Table.{Sofar}
use Rattle.tables.specs.words.Columns.{TableOf}
use Rattle.terms.specs.Term.{definitions_of}
use Rattle.graphs.specs.Shape.{read}
use Rattle.reading.specs.code.Outcome.{with_graph, by_outcome}
use Rattle.reading.specs.Answers.{Read}
use Rattle.columns.specs.words.Columns.{Columns, with_owners}

-- what reading owes a table of d definitions, whose owners it does not look at: the answer and the columns afterwards are those
-- of the document's reader
abbrev pub Reads : ℕ → Columns → List ℕ → List ℕ → List ℕ → Read → List ℕ → List ℕ → Type 0
Reads d c t labels graph r labels' graph' =
    (text os : List ℕ) (s : Sofar) → TableOf text (with_owners os c) s → d ≡ length (definitions_of s)
    → with_graph r labels' graph'
    ≡ by_outcome c.kinds c.after c.roots (read (definitions_of s) t) labels graph
