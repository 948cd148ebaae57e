-- The numbers of a side are a run: they begin one behind the numbers in front of it, and there are as many as the
-- side has terms. So a path begins with a term's path and a side's digit exactly where its number is one of the
-- run's: going down both paths together, either both go into one side, or they part into two sides, whose runs are
-- apart. Assumes nothing.
use Rattle.std.proofs.Common.{ℕ, ◌+◌, ◌≤◌, ◌<◌, ◌≡◌, refl, sym, ap, ◌∙◌, Bool, true, false, ◌&&◌, List, []}
use Rattle.std.proofs.Common.{◌∷◌, ◌++◌, ◌⊎◌, inl, inr, arith, add_assoc, leb, ltb, eqb, ltb-true, ltb-false}
use Rattle.std.proofs.Common.{lt-ltb, le-ltb, leb-true, leb-false, le-leb, eq-eqb, ne_eqb}
use Rattle.std.proofs.lemmas.Bool.{lt-leb}
use Rattle.terms.specs.Term.{Term, size}
use Rattle.places.specs.Place.{path_in, term_at, IsPrefix, PrefixAt, begins}
use Rattle.places.proofs.Sides.{Side, only, first, second, by_number, side_first, side_inside, side_at}
use Rattle.places.proofs.Sides.{path_root, term_root}

-- number j is one of n from number k on
unfoldable pub runs : ℕ → ℕ → ℕ → Bool
runs k n j = leb k j && ltb j (k + n)

-- in it, in front of it, behind it
module _ (k n j : ℕ) where
  pub runs_in : k ≤ j → j < k + n → runs k n j ≡ true
  unfolding runs
  runs_in h l = rw (le-leb k j h, lt-ltb j (k + n) l)

  pub runs_before : j < k → runs k n j ≡ false
  unfolding runs
  runs_before h = rw (lt-leb k j h)

  pub runs_behind : k + n ≤ j → runs k n j ≡ false
  unfolding runs
  runs_behind h = rw (le-leb k j (omega arith), le-ltb j (k + n) h)

  pub runs_true : runs k n j ≡ true → (k ≤ j) × (j < k + n)
  unfolding runs
  runs_true h = go (leb k j) (ltb j (k + n)) refl refl h
    where
      go : (a b : Bool) → leb k j ≡ a → ltb j (k + n) ≡ b → (a && b) ≡ true → (k ≤ j) × (j < k + n)
      go true true p q e = (leb-true k j p, ltb-true j (k + n) q)
      go true false p q e = let z : ◌≡◌ {A = ℕ} 0 1 = cc in absurd (omega arith)
      go false b p q e = let z : ◌≡◌ {A = ℕ} 0 1 = cc in absurd (omega arith)

-- a run and a number moved by the same
pub runs_moved : (d k n j : ℕ) → runs (d + k) n (d + j) ≡ runs k n j
unfolding runs
runs_moved d k n j = go (leb k j) (ltb j (k + n)) refl refl
  where
    go : (a b : Bool) → leb k j ≡ a → ltb j (k + n) ≡ b
        → (leb (d + k) (d + j) && ltb (d + j) (d + k + n)) ≡ (a && b)
    go true true p q =
        let i = leb-true k j p in
        let l = ltb-true j (k + n) q in
        rw (le-leb (d + k) (d + j) (omega arith), lt-ltb (d + j) (d + k + n) (omega arith))
    go true false p q =
        let i = leb-true k j p in
        let l = ltb-false j (k + n) q in
        rw (le-leb (d + k) (d + j) (omega arith), le-ltb (d + j) (d + k + n) (omega arith))
    go false b p q = let i = leb-false k j p in rw (lt-leb (d + k) (d + j) (omega arith))

-- what may stand behind the path of number j: nothing, or a prefix's event
abbrev pub Tail : Term → ℕ → List ℕ → Type 0
Tail T j r = (r ≡ []) ⊎ (PrefixAt T j × (r ≡ 1 ∷ []))

-- a number in one of a term's sides
record Inward (T : Term) (j : ℕ) : Type 0 where
  side : Term
  digit : ℕ
  begin : ℕ
  number : ℕ
  is : Side T digit begin side
  inside : number < size side
  sum : j ≡ begin + number

-- a number is the term's own, or in one of its sides
stands : (T : Term) (j : ℕ) → j < size T → (j ≡ 0) ⊎ Inward T j
stands =
    by_number (λ T j. (j ≡ 0) ⊎ Inward T j) (λ T. inl refl)
    λ T t x k n s h further.
    inr (record { side = t; digit = x; begin = k; number = n; is = s; inside = h; sum = refl })

-- two sides of a term are the same, or have other digits and are apart
abbrev Alike : ℕ → ℕ → Term → ℕ → ℕ → Term → Type 0
Alike x k t y l u =
    ((x ≡ y) × (k ≡ l) × (t ≡ u)) ⊎ ((x ≡ y → ⊥) × ((k + size t ≤ l) ⊎ (l + size u ≤ k)))

alike : {T t u : Term} {x y k l : ℕ} → Side T x k t → Side T y l u → Alike x k t y l u
unfolding size
alike (only e t) (only _ _) = inl (refl, refl, refl)
alike (first o t u) (first _ _ _) = inl (refl, refl, refl)
alike (first o t u) (second _ _ _) = inr (λ e. omega arith, inl (omega arith))
alike (second o t u) (first _ _ _) = inr (λ e. omega arith, inr (omega arith))
alike (second o t u) (second _ _ _) = inl (refl, refl, refl)

-- a prefix's side has digit 2
prefix_digit : {T t : Term} {x k : ℕ} → Side T x k t → IsPrefix T → x ≡ 2
prefix_digit (only e t) p = refl
prefix_digit (first o t u) p = absurd p
prefix_digit (second o t u) p = absurd p

-- what stands at a term itself begins with no side's digit
root_tail : {T t : Term} {x k : ℕ} (q r : List ℕ) → Side T x k t → Tail T 0 r → begins (x ∷ q) r ≡ false
unfolding begins
root_tail q r s (inl e) = rw e
root_tail {T = T} q r s (inr (p, e)) = rw (e, prefix_digit s (rw (term_root T) at p))

-- a number's term ends where or before the whole does
pub term_fits : (T : Term) (n : ℕ) → n < size T → n + size (term_at T n) ≤ size T
term_fits =
    by_number (λ T n. n + size (term_at T n) ≤ size T) (λ T. rw (term_root T) (omega arith))
    λ T t x k n s h further. rw (side_at n s h).1 (omega (arith, further, side_inside s))

-- the path of number j of T, with its tail, begins with that of number i and the digit of a side of number i
-- exactly where j is one of the side's numbers
abbrev pub Begins : Term → ℕ → Type 0
Begins T i = (j : ℕ) → j < size T → (r : List ℕ) → Tail T j r → (u : Term) (x k : ℕ) → Side (term_at T i) x k u
    → begins (path_in T i ++ (x ∷ [])) (path_in T j ++ r) ≡ runs (i + k) (size u) j

-- of the term itself
root_begins : (T : Term) → Begins T 0
unfolding begins
root_begins T j h r tail u x k s = rw (path_root T) (go (stands T j h) (rw (term_root T) at s))
  where
    go : (j ≡ 0) ⊎ Inward T j → Side T x k u → begins (x ∷ []) (path_in T j ++ r) ≡ runs (0 + k) (size u) j
    go (inl z) s =
        let first = side_first s in
        rw (z, path_root T)
        (root_tail [] r s (rw z at tail) ∙ sym (runs_before (0 + k) (size u) 0 (omega arith)))
    go (inr m) s = rw (m.sum, (side_at m.number m.is m.inside).0) (by_sides (alike s m.is))
      where
        by_sides : Alike x k u m.digit m.begin m.side
            → (eqb x m.digit && true) ≡ runs (0 + k) (size u) (m.begin + m.number)
        by_sides (inl (same, start, t)) =
            let inside = m.inside in
            rw (eq-eqb x m.digit same)
            (sym (runs_in (0 + k) (size u) _ (omega arith) (omega (arith, inside, ap size t))))
        by_sides (inr (other, inl before)) =
            rw (ne_eqb x m.digit other) (sym (runs_behind (0 + k) (size u) _ (omega arith)))
        by_sides (inr (other, inr behind)) =
            let inside = m.inside in
            rw (ne_eqb x m.digit other) (sym (runs_before (0 + k) (size u) _ (omega arith)))

-- and inward
side_begins_inward : (T t : Term) (y l i : ℕ) → Side T y l t → i < size t → Begins t i → Begins T (l + i)
unfolding begins
side_begins_inward T t y l i z h further j b r tail u x k s =
    rw (side_at i z h).0 (go (stands T j b) (rw (side_at i z h).1 at s))
  where
    together : Side (term_at t i) x k u → (v : Term) (m n : ℕ) → l ≡ m → t ≡ v → n < size v → Tail v n r
        → begins (path_in t i ++ (x ∷ [])) (path_in v n ++ r) ≡ runs (l + i + k) (size u) (m + n)
    together s v m n start is inside tail =
        rw (← start, ← is, add_assoc l i k, runs_moved l (i + k) (size u) n)
        (further n (rw (← is) at inside) r (rw (← is) at tail) u x k s)

    go : (j ≡ 0) ⊎ Inward T j → Side (term_at t i) x k u
        → begins (y ∷ path_in t i ++ (x ∷ [])) (path_in T j ++ r) ≡ runs (l + i + k) (size u) j
    go (inl e) s =
        let first = side_first s in
        rw (e, path_root T)
        (root_tail (path_in t i ++ (x ∷ [])) r z (rw e at tail)
        ∙ sym (runs_before (l + i + k) (size u) 0 (omega arith)))
    go (inr m) s = rw (m.sum, (side_at m.number m.is m.inside).0) (by_sides (alike z m.is))
      where
        n : ℕ
        n = m.number

        tail_inward : Tail T j r → Tail m.side n r
        tail_inward (inl e) = inl e
        tail_inward (inr (p, e)) = inr (rw (m.sum, (side_at n m.is m.inside).1) at p, e)

        apart : (y ≡ m.digit → ⊥) → runs (l + i + k) (size u) (m.begin + n) ≡ false
            → (eqb y m.digit && begins (path_in t i ++ (x ∷ [])) (path_in m.side n ++ r))
            ≡ runs (l + i + k) (size u) (m.begin + n)
        apart other out = rw (ne_eqb y m.digit other) (sym out)

        by_sides : Alike y l t m.digit m.begin m.side
            → (eqb y m.digit && begins (path_in t i ++ (x ∷ [])) (path_in m.side n ++ r))
            ≡ runs (l + i + k) (size u) (m.begin + n)
        by_sides (inl (same, start, is)) =
            rw (eq-eqb y m.digit same)
            (together s m.side m.begin n start is m.inside (tail_inward tail))
        by_sides (inr (other, inl before)) =
            let within = term_fits t i h in
            let inside = side_inside s in
            apart other (runs_behind (l + i + k) (size u) _ (omega arith))
        by_sides (inr (other, inr behind)) =
            let inside = m.inside in
            apart other (runs_before (l + i + k) (size u) _ (omega arith))

-- so it is for any two numbers
pub side_begins : (T : Term) (i : ℕ) → i < size T → Begins T i
side_begins = by_number Begins root_begins side_begins_inward
