-- Lists of pairs are told by what they join. The first of ascending pairs is before all others, so
-- ascending lists that join the same have the same first, and the same rest; and a test that every listed
-- pair passes is one that every joined pair of numbers passes. Assumes nothing.
use Rattle.std.proofs.Common.{ℕ, ◌<◌, ◌≡◌, refl, sym, ap, ◌∙◌, subst, Bool, true, false, ◌&&◌, ◌||◌, List, []}
use Rattle.std.proofs.Common.{◌∷◌, ◌++◌, ◌⊎◌, inl, inr, arith, ltb, eqb, eqb-true, eq-eqb, ltb-true, lt-ltb}
use Rattle.std.proofs.Common.{le-ltb}
use Rattle.std.proofs.Math.Bool.{or-true, or_assoc}
use Rattle.lines.proofs.Digits.{both}
use Rattle.rules.specs.Track.{Pair, pair}
use Rattle.rules.proofs.Offered.{or_either}
use Rattle.graphs.specs.Graph.{joins}
use Rattle.graphs.specs.Parsed.{ends_below}
use Rattle.graphs.specs.Shape.{every, before, before_first, ascends}

-- a test that does not hold is false
pub refuted : (b : Bool) → (b ≡ true → ⊥) → b ≡ false
refuted true h = absurd (h refl)
refuted false h = refl

-- two tests that imply each other are the same
pub agree : (a b : Bool) → (a ≡ true → b ≡ true) → (b ≡ true → a ≡ true) → a ≡ b
agree true b h k = sym (h refl)
agree false b h k = sym (refuted b (λ e. let z = k e in let w : ◌≡◌ {A = ℕ} 0 1 = cc in omega arith))

-- two lists in a row join what the one or the other joins
pub joins_append : (as' bs : List Pair) (i j : ℕ) → joins (as' ++ bs) i j ≡ joins as' i j || joins bs i j
unfolding joins
joins_append [] bs i j = refl
joins_append (a ∷ as') bs i j =
    rw (joins_append as' bs i j) (sym (or_assoc (eqb i a.from && eqb j a.to) _ _))

-- a is before b, as a fact
pub data Before (a b : Pair) : Type 0 where
  sooner : a.from < b.from → Before a b
  beside : a.from ≡ b.from → a.to < b.to → Before a b

-- it is so where the test holds
before_true : (a b : Pair) → before a b ≡ true → Before a b
unfolding before
before_true a b e = go (or_either (ltb a.from b.from) _ e)
  where
    go : (ltb a.from b.from ≡ true) ⊎ (eqb a.from b.from && ltb a.to b.to ≡ true)
        → Before a b
    go (inl l) = sooner (ltb-true _ _ l)
    go (inr l) =
        let (same, less) = both (eqb a.from b.from) _ l in
        beside (eqb-true _ _ same) (ltb-true _ _ less)

-- and the test holds where it is so
pub true_before : {a b : Pair} → Before a b → before a b ≡ true
unfolding before
true_before (sooner l) = rw (lt-ltb _ _ l)
true_before {a = a} {b = b} (beside e l) =
    rw (le-ltb a.from b.from (omega arith), eq-eqb _ _ e, lt-ltb _ _ l)

-- what is before what is before a pair is before the pair
before_trans : {a b c : Pair} → Before a b → Before b c → Before a c
before_trans (sooner l) (sooner m) = sooner (omega arith)
before_trans (sooner l) (beside e m) = sooner (omega arith)
before_trans (beside e l) (sooner m) = sooner (omega arith)
before_trans (beside e l) (beside f m) = beside (omega arith) (omega arith)

-- no pair is before itself
before_itself : {a b : Pair} → Before a b → a ≡ b → ⊥
before_itself (sooner l) e = let same = ap (λ c. c.from) e in omega arith
before_itself (beside f l) e = let same = ap (λ c. c.to) e in omega arith

-- what is joined is the first pair or joined by the others
listed : (a : Pair) (as' : List Pair) (i j : ℕ) → joins (a ∷ as') i j ≡ true
    → (a ≡ pair i j) ⊎ (joins as' i j ≡ true)
unfolding joins
listed a as' i j e = go (or_either (eqb i a.from && eqb j a.to) _ e)
  where
    go : (eqb i a.from && eqb j a.to ≡ true) ⊎ (joins as' i j ≡ true)
        → (a ≡ pair i j) ⊎ (joins as' i j ≡ true)
    go (inl l) =
        let (one, two) = both (eqb i a.from) _ l in
        let p = eqb-true i a.from one in
        let q = eqb-true j a.to two in
        inl (sym (ap (λ k. pair k j) p ∙ ap (λ k. pair a.from k) q))
    go (inr l) = inr l

-- the first is joined
first_listed : (a : Pair) (as' : List Pair) → joins (a ∷ as') a.from a.to ≡ true
unfolding joins
first_listed a as' = rw (eq-eqb a.from a.from refl, eq-eqb a.to a.to refl)

-- and so is what the others join
later_listed : (a : Pair) (as' : List Pair) (i j : ℕ) → joins as' i j ≡ true → joins (a ∷ as') i j ≡ true
unfolding joins
later_listed a as' i j e = rw e (or-true (eqb i a.from && eqb j a.to))

-- the first of ascending pairs is before all others
ascends_first : (a : Pair) (as' : List Pair) → ascends (a ∷ as') ≡ true → (i j : ℕ) → joins as' i j ≡ true
    → Before a (pair i j)
unfolding ascends before_first joins
ascends_first a [] e i j h = let z : ◌≡◌ {A = ℕ} 0 1 = cc in absurd (omega arith)
ascends_first a (b ∷ as') e i j h =
    let (near, further) = both (before a b) _ e in
    go (before_true a b near) (ascends_first b as' further i j) (listed b as' i j h)
  where
    go : Before a b → (joins as' i j ≡ true → Before b (pair i j)) → (b ≡ pair i j) ⊎ (joins as' i j ≡ true)
        → Before a (pair i j)
    go near further (inl e) = subst (λ c. Before a c) e near
    go near further (inr h) = before_trans near (further h)

-- and is not listed again
pub ascends_once : (a : Pair) (as' : List Pair) → ascends (a ∷ as') ≡ true
    → joins as' a.from a.to ≡ false
ascends_once a as' e =
    refuted (joins as' a.from a.to)
    (λ h. before_itself (ascends_first a as' e a.from a.to h) refl)

module _ (a b : Pair) (as' bs : List Pair) (up : ascends (a ∷ as') ≡ true)
    (same : (i j : ℕ) → joins (a ∷ as') i j ≡ joins (b ∷ bs) i j) where
  -- the first of ascending pairs is the first of the others, or behind it
  first_there : ascends (b ∷ bs) ≡ true → (b ≡ a) ⊎ Before b a
  first_there vp = go (listed b bs a.from a.to (sym (same a.from a.to) ∙ first_listed a as'))
    where
      go : (b ≡ a) ⊎ (joins bs a.from a.to ≡ true) → (b ≡ a) ⊎ Before b a
      go (inl e) = inl e
      go (inr h) = inr (ascends_first b bs vp a.from a.to h)

  -- where the first are the same, what the rest joins is joined by the other rest
  rest_there : a ≡ b → (i j : ℕ) → joins as' i j ≡ true → joins bs i j ≡ true
  rest_there first i j h = go (listed b bs i j (sym (same i j) ∙ later_listed a as' i j h))
    where
      go : (b ≡ pair i j) ⊎ (joins bs i j ≡ true) → joins bs i j ≡ true
      go (inl e) = absurd (before_itself (ascends_first a as' up i j h) (first ∙ e))
      go (inr k) = k

-- all but the first ascend
pub ascends_rest : (a : Pair) (as' : List Pair) → ascends (a ∷ as') ≡ true → ascends as' ≡ true
unfolding ascends
ascends_rest a as' e = (both (before_first a as') _ e).1

-- no pairs do not join the same as some
nothing_first : (b : Pair) (bs : List Pair) → ((i j : ℕ) → joins [] i j ≡ joins (b ∷ bs) i j) → ⊥
unfolding joins
nothing_first b bs h =
    let e = h b.from b.to ∙ first_listed b bs in
    let z : ◌≡◌ {A = ℕ} 0 1 = cc in omega arith

-- ascending lists that join the same are the same
pub ascending_same : (as' bs : List Pair) → ascends as' ≡ true → ascends bs ≡ true
    → ((i j : ℕ) → joins as' i j ≡ joins bs i j) → as' ≡ bs
ascending_same [] [] up vp h = refl
ascending_same [] (b ∷ bs) up vp h = absurd (nothing_first b bs h)
ascending_same (a ∷ as') [] up vp h = absurd (nothing_first a as' (λ i j. sym (h i j)))
ascending_same (a ∷ as') (b ∷ bs) up vp h =
    let first = go (first_there a b as' bs up h vp) (first_there b a bs as' vp back up) in
    let rest = ascending_same as' bs (ascends_rest a as' up) (ascends_rest b bs vp) (λ i j.
    agree (joins as' i j) (joins bs i j) (rest_there a b as' bs up h first i j)
    (rest_there b a bs as' vp back (sym first) i j)) in
    cc
  where
    back : (i j : ℕ) → joins (b ∷ bs) i j ≡ joins (a ∷ as') i j
    back i j = sym (h i j)

    go : (b ≡ a) ⊎ Before b a → (a ≡ b) ⊎ Before a b → a ≡ b
    go (inl e) k = sym e
    go (inr l) (inl e) = e
    go (inr l) (inr m) = absurd (before_itself (before_trans l m) refl)

-- a test of all that is joined is a test of all pairs
pub every_joined : (p : Pair → Bool) (as' : List Pair)
    → ((i j : ℕ) → joins as' i j ≡ true → p (pair i j) ≡ true)
    → every p as' ≡ true
unfolding every
every_joined p [] h = refl
every_joined p (a ∷ as') h =
    rw (h a.from a.to (first_listed a as'))
    (every_joined p as' (λ i j e. h i j (later_listed a as' i j e)))

-- and the other way round
pub joined_every : (p : Pair → Bool) (as' : List Pair) → every p as' ≡ true → (i j : ℕ) → joins as' i j ≡ true
    → p (pair i j) ≡ true
unfolding every joins
joined_every p [] h i j e = let z : ◌≡◌ {A = ℕ} 0 1 = cc in absurd (omega arith)
joined_every p (a ∷ as') h i j e =
    let (first, rest) = both (p a) _ h in
    go first (joined_every p as' rest i j) (listed a as' i j e)
  where
    go : p a ≡ true → (joins as' i j ≡ true → p (pair i j) ≡ true) → (a ≡ pair i j) ⊎ (joins as' i j ≡ true)
        → p (pair i j) ≡ true
    go first rest (inl e) = sym (ap p e) ∙ first
    go first rest (inr k) = rest k

-- both ends below n, as a fact
pub ends_inside : (n i j : ℕ) → ends_below n (pair i j) ≡ true → (i < n) × (j < n)
unfolding ends_below
ends_inside n i j e = let (one, two) = both (ltb i n) _ e in (ltb-true i n one, ltb-true j n two)

-- and the other way round
pub inside_ends : (n i j : ℕ) → (i < n) × (j < n) → ends_below n (pair i j) ≡ true
unfolding ends_below
inside_ends n i j (p, q) = rw (lt-ltb i n p, lt-ltb j n q)
