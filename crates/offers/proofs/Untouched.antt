-- What following a term downward tells is what the term offers before any step: by induction on the term along
-- the plan that holds it, where the levels left reach past the longest path and the end is past its terms. A layout
-- whose places have at most 64 digits bounds the depth of every term that a plan holds; its terms stand in preorder,
-- and none past the plan's room. Assumes nothing.
use Rattle.std.proofs.Common.{ℕ, suc, ◌+◌, ◌-◌, ◌*◌, ◌≤◌, ◌<◌, ◌≡◌, refl, ap, sym, ◌∙◌, Bool, true, false}
use Rattle.std.proofs.Common.{List, [], ◌∷◌, arith, add-one, length, get_or, length-append, ltb, lt-ltb}
use Rattle.std.proofs.Common.{ltb-true, mod-eq_of_lt}
use Rattle.lines.specs.Line.{choose}
use Rattle.frames.specs.TableFrame.{term_room, path_room, event_room}
use Rattle.kinds.specs.Kind as Kind
use Rattle.terms.specs.Term.{Leaf, call, SKIP, STOP, Operator, external, parallel, Term, Shallow, leaf_kind}
use Rattle.terms.specs.Term.{operator_kind, operator_payload, size}
use Rattle.terms.specs.Term as Term
use Rattle.terms.proofs.Held.{size_some}
use Rattle.places.specs.Place.{Place}
use Rattle.columns.specs.words.Columns.{look}
use Rattle.columns.proofs.Laws.{look_in}
use Rattle.rules.specs.Process.{below, joined, untouched}
use Rattle.rules.specs.Step.{at_Ω}
use Rattle.rules.specs.Offers.{leaf_offers, offers_τ, offers-✓, offers_event, plain_τ}
use Rattle.plans.specs.words.Plan.{Layout, word, kind, operand, second, Planned, first_around, second_around}
use Rattle.offering.specs.code.Offering.{Offer, own, settled, combined}
use Rattle.offering.proofs.Returns.{same_offers}
use Rattle.offers.specs.code.Following.{by_kind, of_term, levels}
use Rattle.offers.specs.words.Told.{offer_of, Low}
use Rattle.offers.proofs.Returns.{one_less, first_in, order_is, term_more}

-- a term with a kind is one of the plan's
pub in_plan : (p : List ℕ) (i : ℕ) → 0 < kind p i → i < term_room
unfolding word
in_plan p i h = go (ltb i term_room) refl h
  where
    go : (b : Bool) → ltb i term_room ≡ b → 0 < choose b (get_or p (4 * i + 0) 0) 0 → i < term_room
    go true e h = ltb-true i term_room e
    go false e h = absurd (omega arith)

pub some_kind : (o : Operator) → 0 < operator_kind o
unfolding operator_kind
some_kind Term.internal = omega arith
some_kind external = omega arith
some_kind Term.sequence = omega arith
some_kind (parallel y) = omega arith

-- no term is Ω
pub no_Ω : (v : Place) (t : Term) → at_Ω (untouched v t) ≡ false
unfolding at_Ω untouched joined
no_Ω v (Term.leaf l) = refl
no_Ω v (Term.prefix e t) = refl
no_Ω v (Term.binary Term.internal t u) = refl
no_Ω v (Term.binary external t u) = refl
no_Ω v (Term.binary Term.sequence t u) = refl
no_Ω v (Term.binary (parallel y) t u) = refl

-- the place one digit below has a path one digit longer
longer : (q v : Place) (d : ℕ) → q ≡ below v d → length q.path ≡ length v.path + 1
longer q v d h = ap (λ (r : Place). length r.path) h ∙ length-append v.path (d ∷ [])

-- by its kind, its operand, its set and what its subterms offer, a term offers what it does before any step
leaf_told : (v : Place) (f : Leaf) (e y : ℕ) (c : Bool) (l r : Offer)
    → by_kind (leaf_kind f) e y c l r ≡ offer_of (untouched v (Term.leaf f))
unfolding by_kind own leaf_kind leaf_offers offers_τ offers-✓ offers_event plain_τ untouched
leaf_told v (call d) e y c l r = refl
leaf_told v SKIP e y c l r = refl
leaf_told v STOP e y c l r = refl

prefix_told : (v : Place) (e y : ℕ) (t : Term) (c : Bool) (l r : Offer) → e < event_room
    → by_kind Kind.prefix e y c l r ≡ offer_of (untouched v (Term.prefix e t))
unfolding by_kind own offers_τ offers-✓ offers_event plain_τ untouched
prefix_told v e y t c l r h =
    let byte : e < 256 = omega arith in
    same_offers false false false _ _ (λ k. simp (mod-eq_of_lt byte, lt-ltb e event_room h))

binary_told : (v : Place) (o : Operator) (e : ℕ) (t u : Term)
    → by_kind (operator_kind o) e (operator_payload o) true
    (offer_of (untouched (below v 1) t)) (offer_of (untouched (below v 2) u))
    ≡ offer_of (untouched v (Term.binary o t u))
unfolding by_kind own combined settled operator_kind operator_payload
    offers_τ offers-✓ offers_event plain_τ untouched joined
binary_told v Term.internal e t u = refl
binary_told v external e t u = refl
binary_told v Term.sequence e t u = refl
binary_told v (parallel y) e t u = simp (no_Ω (below v 1) t, no_Ω (below v 2) u)

some_leaf : (f : Leaf) → 0 < leaf_kind f
unfolding leaf_kind
some_leaf (call d) = omega arith
some_leaf SKIP = omega arith
some_leaf STOP = omega arith

module _ (l : Layout) (p x : List ℕ) where
  -- from the offers of the subterms, which stand in order, with a level more
  told_binary : (v : Place) (q : Operator) (t u : Term) (i o end f g : ℕ) → Planned l p x i o (Term.binary q t u)
      → second p i < end → f ≡ suc g → of_term g p x (suc i) (second p i) ≡ offer_of (untouched (below v 1) t)
      → of_term g p x (second p i) end ≡ offer_of (untouched (below v 2) u)
      → of_term f p x i end ≡ offer_of (untouched v (Term.binary q t u))
  told_binary v q t u i o end f g h inside more left right =
      let there = in_plan p i (omega (arith, h.0, some_kind q)) in
      let set_is : look term_room x i ≡ operator_payload q = sym (look_in term_room x i there) ∙ h.2 in
      let behind : suc i < second p i = omega (arith, h.7, size_some t) in
      rw (
        term_more p x i end f g more,
        h.0,
        set_is,
        ← first_in i there,
        add-one,
        order_is (suc i) (second p i) end behind inside,
        left,
        right,
      )
      (binary_told v q (operand p i) t u)

  -- where n digits lead to a term, the levels left reach past 64, and its terms stand before the end
  pub term_told : (t : Term) (v : Place) (i o end n f : ℕ) → Planned l p x i o t → i + size t ≤ end → Shallow n t
      → path_room < n + f → of_term f p x i end ≡ offer_of (untouched v t)
  unfolding size
  term_told (Term.leaf q) v i o end n f h fit s m =
      let more = one_less f (λ z. omega arith) in
      rw (term_more p x i end f (f - 1) more, h.0) (leaf_told v q _ _ _ _ _)
  term_told (Term.prefix e t) v i o end n f h fit s m =
      let more = one_less f (λ z. omega arith) in
      rw (term_more p x i end f (f - 1) more, h.0, h.2) (prefix_told v e _ t _ _ _ h.3)
  term_told (Term.binary q t u) v i o end n f h fit s m =
      let more = one_less f (λ z. omega arith) in
      let next = h.7 in
      told_binary v q t u i o end f (f - 1) h (omega (arith, size_some u)) more
      (term_told t (below v 1) (suc i) (first_around q i o) (second p i) (n + 1) (f - 1) h.5 (omega arith)
      s.1.0 (omega arith))
      (term_told u (below v 2) (second p i) (second_around q o) end (n + 1) (f - 1) h.6 (omega arith)
      s.1.1 (omega arith))

  -- the terms of a term that a plan holds are the plan's
  planned_inside : (t : Term) (i o : ℕ) → Planned l p x i o t → i + size t ≤ term_room
  unfolding size
  planned_inside (Term.leaf q) i o h = let there = in_plan p i (omega (arith, h.0, some_leaf q)) in omega arith
  planned_inside (Term.prefix e t) i o h = omega (arith, planned_inside t (suc i) o h.6)
  planned_inside (Term.binary q t u) i o h =
      omega (arith, h.7, planned_inside u (second p i) (second_around q o) h.6)

  -- a term that a plan holds is no deeper than the layout's places are long
  module _ (low : Low l) where
    pub planned_shallow : (t : Term) (i o : ℕ) → Planned l p x i o t → Shallow (length (l.place i).path) t
    planned_shallow (Term.leaf q) i o h = low i
    planned_shallow (Term.prefix e t) i o h =
        let more = longer (l.place (suc i)) (l.place i) 2 h.5 in
        let deep : length (l.place i).path + 1 ≤ path_room = omega (arith, low (suc i)) in
        (deep, rw (← more) (planned_shallow t (suc i) o h.6))
    planned_shallow (Term.binary q t u) i o h =
        let more = longer (l.place (suc i)) (l.place i) 1 h.3 in
        let more_right = longer (l.place (second p i)) (l.place i) 2 h.4 in (
          low i,
          (
            rw (← more) (planned_shallow t (suc i) (first_around q i o) h.5),
            rw (← more_right) (planned_shallow u (second p i) (second_around q o) h.6),
          ),
        )

    pub untouched_told : (t : Term) (v : Place) (i o : ℕ) → Planned l p x i o t
        → of_term levels p x i term_room ≡ offer_of (untouched v t)
    untouched_told t v i o h =
        term_told t v i o term_room (length (l.place i).path) levels h (planned_inside t i o h)
        (planned_shallow t i o h) (omega arith)
