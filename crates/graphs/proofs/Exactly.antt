-- Two runs of one table save equal bytes exactly when one is a renumbering of the other. Equal bytes are the
-- text of one canonical graph, to which the references of both are renumbered; and what a renumbering carries to
-- each other has one canonical graph. Assumes nothing.
use Rattle.std.specs.Prelude.{ℕ, ◌≤◌, ◌<◌, ◌≡◌, List, ◌↔◌, length}
use Rattle.std.proofs.Common.{sym, ap, subst}
use Rattle.std.proofs.Math.Option.{some}
use Rattle.std.proofs.Math.ListN.{get_elem?}
use Rattle.terms.specs.Term.{Term, Shallow}
use Rattle.rules.specs.Run.{State, Reached}
use Rattle.graphs.specs.Graph.{graph_of}
use Rattle.graphs.specs.Saved.{canonical, graph_text, saved}
use Rattle.graphs.proofs.Canonical.{reference_of, number_of}
use Rattle.graphs.specs.Renumbering.{Renumbers, Renumbering}
use Rattle.graphs.proofs.Renumbered.{renumbered_canonical, renumbers_back, renumbers_then}
use Rattle.graphs.proofs.Tracked.{run_narrow}
use Rattle.graphs.proofs.Spelled.{text_one}
use Rattle.graphs.proofs.Accepted.{run_fits}
use Rattle.graphs.proofs.Kept.{saved_tells}

-- "Two runs of one table save equal bytes exactly when a renumbering that fixes the start node carries the saved
-- nodes, places, arcs and meetings of one onto the other"
pub saved_equal_exactly : (ts : List Term) {s t : State} → Reached ts s → Reached ts t
    → ((k : ℕ) (u : Term) → get_elem? ts k ≡ some u → Shallow 0 u) → 0 < length ts → length ts ≤ 256
    → (saved (graph_of s) ≡ saved (graph_of t)) ↔ Renumbering (graph_of s) (graph_of t)
saved_equal_exactly ts {s = s} {t = t} p q shallow some_Is_first few = (equal, renumbered)
  where
    equal : saved (graph_of s) ≡ saved (graph_of t) → Renumbering (graph_of s) (graph_of t)
    equal e =
        let g = graph_of s in
        let h = graph_of t in
        let one = text_one (run_fits ts p shallow some_Is_first few) (run_fits ts q shallow some_Is_first few) e in
        let on = subst (Renumbers (number_of g) (reference_of g) g) one (saved_tells ts p) in
        let back = renumbers_back (number_of h) (reference_of h) h (canonical h) (saved_tells ts q) in (
          λ n. reference_of h (number_of g n),
          λ n. reference_of g (number_of h n),
          renumbers_then (number_of g) (reference_of g) (reference_of h) (number_of h) g (canonical h) h on back,
        )

    renumbered : Renumbering (graph_of s) (graph_of t) → saved (graph_of s) ≡ saved (graph_of t)
    renumbered (φ, ψ, r) =
        let narrow = run_narrow ts p in
        let narrow' = run_narrow ts q in
        ap graph_text (sym (renumbered_canonical φ ψ (graph_of s) (graph_of t) r narrow narrow'))
