-- How deep a step may be gone: an untouched term needs at most two calls a level, of which it has at most 66
-- where no path is longer than 64 digits; an entered choice or parallel needs one more than its sides, and
-- has one cell more than they have. So a process needs at most 132 calls more than it has cells. Assumes
-- nothing.
use Rattle.std.proofs.Common.{ℕ, ◌+◌, ◌*◌, ◌≤◌, sym, subst, true, false, List, [], ◌∷◌, arith, length}
use Rattle.std.proofs.Math.Option.{none, some}
use Rattle.frames.specs.TableFrame.{path_room}
use Rattle.terms.specs.Term.{external, parallel, Term}
use Rattle.terms.specs.Term as Term
use Rattle.places.specs.Place.{Place}
use Rattle.rules.specs.Process.{Process, leaf, prefix, internal, split, sequence, Ω, ⊥', cells, joined}
use Rattle.rules.specs.Process.{untouched, below}
use Rattle.plans.specs.words.Plan.{Layout}
use Rattle.control.specs.words.Control.{Untouched, HoldsControl}
use Rattle.weighing.proofs.TermTold.{levels, levels_some, planned_levels}
use Rattle.step_laws.proofs.Nesting.{needs}

-- two calls a level
tree_needs : (v : Place) (t : Term) → needs (untouched v t) ≤ 2 * levels t
unfolding needs untouched joined levels
tree_needs v (Term.leaf f) = omega arith
tree_needs v (Term.prefix e t) = omega arith
tree_needs v (Term.binary Term.internal t s) = omega (arith, levels_some t)
tree_needs v (Term.binary external t s) = omega (arith, tree_needs (below v 1) t, tree_needs (below v 2) s)
tree_needs v (Term.binary Term.sequence t s) = omega (arith, tree_needs (below v 1) t)
tree_needs v (Term.binary (parallel z) t s) =
    omega (arith, tree_needs (below v 1) t, tree_needs (below v 2) s)

module _ (l : Layout) (p x w : List ℕ) (short : (i : ℕ) → length (l.place i).path ≤ path_room) where
  untouched_needs : (i o : ℕ) (P : Process) → Untouched l p x w i o P → needs P ≤ 132
  untouched_needs i o P u =
      subst (λ R. needs R ≤ 132) (sym u.is)
      (omega (
        arith,
        tree_needs (l.place i) u.tree,
        planned_levels l p x short i o u.tree
            u.planned,
      ))

  pub needs_bound : (n b : ℕ) (P : Process) (ks : List ℕ) → HoldsControl l p x w n b P ks → needs P ≤ cells P + 132
  unfolding needs cells
  needs_bound n b (leaf v f) ks h = omega arith
  needs_bound n b (prefix v e P) ks h = omega arith
  needs_bound n b (internal v P Q) ks h = omega arith
  needs_bound n b (split v k none none P Q) ks h =
      let few : needs (split v k none none P Q) ≤ 132 = untouched_needs _ _ (split v k none none P Q)
      h.untouched_there in
      omega (arith, few)
  needs_bound n b (split v k (some i) none P Q) ks h =
      omega (arith, needs_bound i _ P [] h.3, untouched_needs _ _ Q h.4)
  needs_bound n b (split v k none (some j) P Q) ks h =
      omega (arith, untouched_needs _ _ P h.3, needs_bound j _ Q [] h.4)
  needs_bound n b (split v k (some i) (some j) P Q) ks h =
      omega (arith, needs_bound i _ P [] h.3, needs_bound j _ Q [] h.4)
  needs_bound n b (sequence v false P Q) ks h =
      let few : needs (sequence v false P Q) ≤ 132 = untouched_needs _ _ (sequence v false P Q)
      h.untouched_there in
      omega (arith, few)
  needs_bound n b (sequence v true P Q) ks h = omega (arith, needs_bound n b P (h.0 ∷ ks) h.2)
  needs_bound n b Ω ks h = omega arith
  needs_bound n b ⊥' ks h = omega arith
