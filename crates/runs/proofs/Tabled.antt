-- The plan that is laid out from a checked table, the table's sets and its definitions are a table for runs.
-- The plan holds the definitions and keeps to its rooms; the table's trees are within its definitions and
-- events, and there is one. Assumes nothing.
use Rattle.std.proofs.Common.{ℕ, ◌<◌, ◌≡◌, List, [], ◌∷◌, arith, length}
use Rattle.std.proofs.Math.Option.{none}
use Rattle.std.proofs.Math.ListN.{get_elem?}
use Rattle.lines.specs.Judging.{accepted}
use Rattle.tables.specs.Table.{Sofar, judged}
use Rattle.tables.specs.words.Columns.{kinds, payloads, afters, roots}
use Rattle.terms.specs.Term.{Term, definitions_of}
use Rattle.terms.proofs.Trees.{each_at, checked_trees}
use Rattle.plans.specs.code.Laid.{laid_out}
use Rattle.plans.specs.words.Layout.{layout}
use Rattle.plans.proofs.LaidTable.{checked_planned}
use Rattle.plans.proofs.LaidRooms.{layout_low, laid_out_numbered, layout_first}
use Rattle.runs.specs.words.Held.{Table}

-- some definitions have a first
has_first : (ts : List Term) → 0 < length ts → get_elem? ts 0 ≡ none → ⊥
has_first [] many e = omega arith
has_first (t ∷ ts) many e = let z : ◌≡◌ {A = ℕ} 0 1 = cc in omega arith

-- a checked table is one for runs
pub checked_table : (text : List ℕ) (s : Sofar) → judged text ≡ accepted s
    → Table (layout s) (laid_out (length s.terms) (kinds s) (payloads s) (afters s) (roots s)) (payloads s)
    (definitions_of s)
checked_table text s q =
    let table = checked_trees text s q in
    record {
      held = checked_planned text s q;
      low = layout_low s;
      first = layout_first text s q;
      some_first = has_first (definitions_of s) (omega (arith, table.many, table.some_definitions));
      numbered = laid_out_numbered (kinds s) (payloads s) (afters s) (roots s) (length s.terms);
      events = s.events;
      within = λ n t e. rw table.many
          (each_at s.definitions s.events (definitions_of s) table.each n t e).1;
    }
