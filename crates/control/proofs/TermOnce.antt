-- A plan holds one term at a number, where its table has every definition that the term calls. The kind tells a term's form
-- and operator, the sets tell a parallel's, and a call's operand is the root of the definition whose place stands there. By
-- induction over both terms. Assumes nothing.
use Rattle.std.proofs.Common.{ℕ, suc, ◌≡◌, refl, sym, ap, subst, ◌∙◌, List, arith}
use Rattle.std.proofs.Math.Option.{Option, none, some}
use Rattle.std.proofs.Math.ListN.{get_elem?}
use Rattle.kinds.specs.Kind.{subterms}
use Rattle.terms.specs.Term.{Leaf, call, SKIP, STOP, Operator, internal, external, sequence, parallel, Term}
use Rattle.terms.specs.Term.{leaf, prefix, binary, leaf_kind, leaf_of, operator_kind, operator_payload, operator_of}
use Rattle.terms.proofs.Trees.{leaf_subterms, operator_subterms}
use Rattle.places.specs.Place.{Place}
use Rattle.rules.specs.Process.{Process, below, joined, untouched}
use Rattle.rules.proofs.Ranged.{Calls}
use Rattle.plans.specs.words.Plan.{Layout, kind, operand, second, Leads, Planned, HoldsTable}
use Rattle.control.specs.words.Control.{Untouched}

-- an operator is told by its kind and payload
operator_told : (o : Operator) (k s : ℕ) → k ≡ operator_kind o → s ≡ operator_payload o → o ≡ operator_of k s
unfolding operator_kind operator_payload operator_of
operator_told internal k s h e = rw h
operator_told external k s h e = rw h
operator_told sequence k s h e = rw h
operator_told (parallel y) k s h e = rw (h, e)

-- how many subterms a term has, by its form
abbrev branches : Term → ℕ
branches (leaf f) = 0
branches (prefix e t) = 1
branches (binary o t u) = 2

module _ (l : Layout) (p x : List ℕ) where
  branches_told : (t : Term) (i o : ℕ) → Planned l p x i o t → subterms (kind p i) ≡ branches t
  unfolding subterms
  branches_told (leaf f) i o h = ap subterms h.0 ∙ leaf_subterms f
  branches_told (prefix e t) i o h = rw h.0
  branches_told (binary q t u) i o h = ap subterms h.0 ∙ operator_subterms q

  same_branches : (t u : Term) (i o q : ℕ) → Planned l p x i o t → Planned l p x i q u → branches t ≡ branches u
  same_branches t u i o q h k = sym (branches_told t i o h) ∙ branches_told u i q k

-- the calls of both sides
joined_calls : (ts : List Term) (o : Operator) (v : Place) (P Q : Process) → Calls ts (joined o v P Q)
    → Calls ts P × Calls ts Q
unfolding joined
joined_calls ts internal v P Q c = c
joined_calls ts external v P Q c = c
joined_calls ts sequence v P Q c = c
joined_calls ts (parallel y) v P Q c = c

module _ (l : Layout) (p x : List ℕ) (ts : List Term) (table : HoldsTable l p x ts) where
  -- the definition that a call leads to
  led_told : (i m : ℕ) → operand p i ≡ l.root m → (get_elem? ts m ≡ none → ⊥)
      → m ≡ (l.place (operand p i)).definition
  led_told i m e there = go (get_elem? ts m) refl
    where
      go : (o : Option Term) → get_elem? ts m ≡ o → m ≡ (l.place (operand p i)).definition
      go none q = absurd (there q)
      go (some t) q = rw e (ap (λ (v : Place). v.definition) (sym (table m t q).0))

  leaf_told : (f : Leaf) (i : ℕ) (v : Place) → kind p i ≡ leaf_kind f → Leads l p i f → Calls ts (untouched v (leaf f))
      → f ≡ leaf_of (kind p i) (l.place (operand p i)).definition
  unfolding leaf_kind leaf_of untouched
  leaf_told (call m) i v h e c = rw h (ap call (led_told i m e c))
  leaf_told SKIP i v h e c = rw h
  leaf_told STOP i v h e c = rw h

  -- one term at a number
  term_once : (t u : Term) (i o q : ℕ) (v : Place) → Planned l p x i o t → Planned l p x i q u
      → Calls ts (untouched v t) → Calls ts (untouched v u) → t ≡ u
  unfolding untouched
  term_once (leaf f) (leaf g) i o q v h k c d =
      ap leaf (leaf_told f i v h.0 h.2 c ∙ sym (leaf_told g i v k.0 k.2 d))
  term_once (leaf f) (prefix e u) i o q v h k c d =
      absurd (omega (arith, same_branches l p x (leaf f) (prefix e u) i o q h k))
  term_once (leaf f) (binary b u u') i o q v h k c d =
      absurd (omega (arith, same_branches l p x (leaf f) (binary b u u') i o q h k))
  term_once (prefix e t) (leaf g) i o q v h k c d =
      absurd (omega (arith, same_branches l p x (prefix e t) (leaf g) i o q h k))
  term_once (prefix e t) (prefix e' u) i o q v h k c d =
      let event : e ≡ e' = sym h.2 ∙ k.2 in
      let below_it : t ≡ u = term_once t u (suc i) o q (below v 2) h.6 k.6 c d in
      cc
  term_once (prefix e t) (binary b u u') i o q v h k c d =
      absurd (omega (arith, same_branches l p x (prefix e t) (binary b u u') i o q h k))
  term_once (binary a t t') (leaf g) i o q v h k c d =
      absurd (omega (arith, same_branches l p x (binary a t t') (leaf g) i o q h k))
  term_once (binary a t t') (prefix e u) i o q v h k c d =
      absurd (omega (arith, same_branches l p x (binary a t t') (prefix e u) i o q h k))
  term_once (binary a t t') (binary b u u') i o q v h k c d =
      let c' = joined_calls ts a v _ _ c in
      let d' = joined_calls ts b v _ _ d in
      let operator : a ≡ b = operator_told a _ _ h.0 h.2 ∙ sym (operator_told b _ _ k.0 k.2) in
      let first : t ≡ u = term_once t u (suc i) _ _ (below v 1) h.5 k.5 c'.0 d'.0 in
      let other : t' ≡ u' = term_once t' u' (second p i) _ _ (below v 2) h.6 k.6 c'.1 d'.1 in
      cc

  -- and so one process, before any step
  pub untouched_once : (w : List ℕ) (i o q : ℕ) (P Q : Process) → Untouched l p x w i o P → Untouched l p x w i q Q
      → Calls ts P → Calls ts Q → P ≡ Q
  untouched_once w i o q P Q h k c d =
      let same = term_once h.tree k.tree i o q (l.place i) h.planned k.planned
      (subst (λ R. Calls ts R) h.is c) (subst (λ R. Calls ts R) k.is d) in
      h.is ∙ ap (untouched (l.place i)) same ∙ sym k.is
