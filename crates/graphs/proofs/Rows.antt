-- What the rows of a numbered graph list. A row is told by its `joins`: a pair is listed exactly where both
-- of its numbers have references that pass the test. Rows ascend, and an ascending list of pairs is known
-- by its `joins`; so the rows of numbers in order give back an ascending list, and where references are
-- distinct each pair of references is listed at most once. Assumes nothing.
use Rattle.std.proofs.Common.{ℕ, zero, suc, ◌+◌, ◌≤◌, ◌<◌, ◌≡◌, refl, sym, ap, ◌∙◌, Bool, true, false, ◌&&◌}
use Rattle.std.proofs.Common.{◌||◌, List, [], ◌∷◌, ◌++◌, ◌⊎◌, inl, inr, ⊎_elim, arith, add-suc, suc-add}
use Rattle.std.proofs.Common.{zero-add, length, length-append, ltb, eqb, eqb-true, eq-eqb, ne_eqb, ltb-true}
use Rattle.std.proofs.Common.{ltb-false, lt-ltb, le-ltb}
use Rattle.std.proofs.lemmas.Bool.{eqb-false}
use Rattle.std.proofs.Math.Bool.{and-true, and-false, or-false}
use Rattle.std.proofs.Math.Option.{Option, none, some}
use Rattle.std.proofs.Math.ListN.{get_elem?}
use Rattle.lines.specs.Line.{choose}
use Rattle.lines.proofs.Digits.{both}
use Rattle.rules.specs.Track.{Pair, pair}
use Rattle.rules.proofs.Offered.{or_either}
use Rattle.graphs.specs.Graph.{joins, meets}
use Rattle.graphs.specs.Walk.{among}
use Rattle.graphs.specs.Saved.{row, rows, rows_up}
use Rattle.graphs.specs.Parsed.{ends_below}
use Rattle.graphs.specs.Shape.{every, before_first, ascends, upward, from_on}
use Rattle.graphs.proofs.Walking.{Distinct, among_first, among_rest}
use Rattle.graphs.proofs.References.{element_inside, among_apart, from_on_inside, from_on_outside}
use Rattle.graphs.proofs.Pairs.{refuted, joins_append, Before, true_before, ascending_same}
use Rattle.graphs.proofs.Pairs.{every_joined, joined_every, ends_inside, inside_ends, sooner, beside}

-- the reference of number j, where references are numbered from s on
unfoldable pub reference_at : ℕ → List ℕ → ℕ → Option ℕ
reference_at s [] j = none
reference_at s (m ∷ ms) j = choose (eqb j s) (some m) (reference_at (suc s) ms j)

-- no number below s has one
pub reference_below : (s : ℕ) (ms : List ℕ) (j : ℕ) → j < s → reference_at s ms j ≡ none
unfolding reference_at
reference_below s [] j h = refl
reference_below s (m ∷ ms) j h =
    rw (ne_eqb j s (λ e. omega arith)) (reference_below (suc s) ms j (omega arith))

-- those from s on have them in turn
reference_behind : (s : ℕ) (ms : List ℕ) (d : ℕ) → reference_at s ms (s + d) ≡ get_elem? ms d
unfolding reference_at
reference_behind s [] d = refl
reference_behind s (m ∷ ms) zero = rw (eq-eqb (s + 0) s (omega arith))
reference_behind s (m ∷ ms) (suc d) =
    rw (ne_eqb (s + suc d) s (λ e. omega arith), add-suc, ← suc-add s d) (reference_behind (suc s) ms d)

-- numbered from 0 on, number j has the one at j
pub reference_first : (ms : List ℕ) (j : ℕ) → reference_at 0 ms j ≡ get_elem? ms j
reference_first ms j = rw zero-add at (reference_behind 0 ms j)

-- what a test says of two references, where there are both
unfoldable pub tested : (ℕ → ℕ → Bool) → Option ℕ → Option ℕ → Bool
tested t none y = false
tested t (some n) none = false
tested t (some n) (some m) = t n m

-- what a row joins
row_joins : (t : ℕ → ℕ → Bool) (k n s : ℕ) (ms : List ℕ) (i j : ℕ)
    → joins (row t k n s ms) i j ≡ eqb i k && tested t (some n) (reference_at s ms j)
unfolding joins row reference_at tested
row_joins t k n s [] i j = sym (and-false (eqb i k))
row_joins t k n s (m ∷ ms) i j = go (t n m) (eqb j s) refl refl (row_joins t k n (suc s) ms i j)
  where
    go : (c b : Bool) → t n m ≡ c → eqb j s ≡ b
        → joins (row t k n (suc s) ms) i j ≡ eqb i k && tested t (some n) (reference_at (suc s) ms j)
        → joins (choose c (pair k s ∷ row t k n (suc s) ms) (row t k n (suc s) ms)) i j
        ≡ eqb i k && tested t (some n) (choose b (some m) (reference_at (suc s) ms j))
    go true true e f further =
        let gone = reference_below (suc s) ms j (omega (arith, eqb-true j s f)) in
        simp (further, gone, e, f, and-true, and-false, or-false)
    go true false e f further = simp (further, f, and-false)
    go false true e f further =
        let gone = reference_below (suc s) ms j (omega (arith, eqb-true j s f)) in
        simp (further, gone, e)
    go false false e f further = further

-- what rows join: numbers whose references pass the test
rows_told : (t : ℕ → ℕ → Bool) (o : List ℕ) (k : ℕ) (ns : List ℕ) (i j : ℕ)
    → joins (rows t o k ns) i j ≡ tested t (reference_at k ns i) (reference_at 0 o j)
unfolding joins rows reference_at tested
rows_told t o k [] i j = refl
rows_told t o k (n ∷ ns) i j =
    joins_append (row t k n 0 o) _ i j
    ∙ rw (row_joins t k n 0 o i j, rows_told t o (suc k) ns i j) (go (eqb i k) refl)
  where
    go : (b : Bool) → eqb i k ≡ b
        → (b && tested t (some n) (reference_at 0 o j))
        || tested t (reference_at (suc k) ns i) (reference_at 0 o j)
        ≡ tested t (choose b (some n) (reference_at (suc k) ns i)) (reference_at 0 o j)
    go true e = rw (reference_below (suc k) ns i (omega (arith, eqb-true i k e))) (or-false _)
    go false e = refl

-- what rows of those behind join: the same, the smaller number first
rows_up_told : (t : ℕ → ℕ → Bool) (k : ℕ) (ns : List ℕ) (i j : ℕ)
    → joins (rows_up t k ns) i j ≡ ltb i j && tested t (reference_at k ns i) (reference_at k ns j)
unfolding joins rows_up reference_at tested
rows_up_told t k [] i j = sym (and-false (ltb i j))
rows_up_told t k (n ∷ ns) i j =
    joins_append (row t k n (suc k) ns) _ i j
    ∙ rw (row_joins t k n (suc k) ns i j, rows_up_told t (suc k) ns i j) (go (eqb i k) (eqb j k) refl refl)
  where
    go : (b c : Bool) → eqb i k ≡ b → eqb j k ≡ c
        → (b && tested t (some n) (reference_at (suc k) ns j))
        || (ltb i j && tested t (reference_at (suc k) ns i) (reference_at (suc k) ns j))
        ≡ ltb i j && tested t (choose b (some n) (reference_at (suc k) ns i))
        (choose c (some n) (reference_at (suc k) ns j))
    go true true e f =
        rw (
          reference_below (suc k) ns i (omega (arith, eqb-true i k e)),
          reference_below (suc k) ns j (omega (arith, eqb-true j k f)),
          le-ltb i j (omega (arith, eqb-true i k e, eqb-true j k f)),
        )
    go true false e f = upper (ltb i j) refl
      where
        upper : (u : Bool) → ltb i j ≡ u → tested t (some n) (reference_at (suc k) ns j)
            || (u && tested t (reference_at (suc k) ns i) (reference_at (suc k) ns j))
            ≡ u && tested t (some n) (reference_at (suc k) ns j)
        upper true l = rw (reference_below (suc k) ns i (omega (arith, eqb-true i k e))) (or-false _)
        upper false l =
            rw (reference_below (suc k) ns j (nearer (ltb-false i j l) (eqb-true i k e) (eqb-false j k f)))
          where
            nearer : j ≤ i → i ≡ k → (j ≡ k → ⊥) → j < suc k
            nearer p q r = omega arith
    go false true e f = upper (ltb i j) refl
      where
        upper : (u : Bool) → ltb i j ≡ u
            → (u && tested t (reference_at (suc k) ns i) (reference_at (suc k) ns j))
            ≡ u && tested t (reference_at (suc k) ns i) (some n)
        upper true l =
            rw (reference_below (suc k) ns i (omega (arith, ltb-true i j l, eqb-true j k f)))
        upper false l = refl
    go false false e f = refl

-- two numbers are joined as their references are tested
module _ (t : ℕ → ℕ → Bool) (o : List ℕ) (i j : ℕ) where
  pub rows_joins : joins (rows t o 0 o) i j ≡ tested t (get_elem? o i) (get_elem? o j)
  rows_joins = rows_told t o 0 o i j ∙ rw (reference_first o i, reference_first o j)

  -- or the smaller with the larger alone
  pub rows_up_joins : joins (rows_up t 0 o) i j ≡ ltb i j && tested t (get_elem? o i) (get_elem? o j)
  rows_up_joins = rows_up_told t 0 o i j ∙ rw (reference_first o i, reference_first o j)

  -- who passes a test is there
  pub tested_inside : tested t (get_elem? o i) (get_elem? o j) ≡ true → (i < length o) × (j < length o)
  unfolding tested
  tested_inside e = go (get_elem? o i) (get_elem? o j) refl refl e
    where
      go : (x y : Option ℕ) → get_elem? o i ≡ x → get_elem? o j ≡ y → tested t x y ≡ true
          → (i < length o) × (j < length o)
      go none y p q e = let z : ◌≡◌ {A = ℕ} 0 1 = cc in absurd (omega arith)
      go (some n) none p q e = let z : ◌≡◌ {A = ℕ} 0 1 = cc in absurd (omega arith)
      go (some n) (some m) p q e = (element_inside o i n p, element_inside o j m q)

  -- so what is joined is below the count
  pub rows_inside : joins (rows t o 0 o) i j ≡ true → (i < length o) × (j < length o)
  rows_inside e = tested_inside (sym rows_joins ∙ e)

  -- and the first of the two below the second
  pub rows_up_inside : joins (rows_up t 0 o) i j ≡ true → (i < j) × (j < length o)
  rows_up_inside e =
      let (up, here) = both (ltb i j) _ (sym rows_up_joins ∙ e) in
      (ltb-true i j up, (tested_inside here).1)

-- pairs in rows: those of number i, and then those of larger numbers
data Rowed : ℕ → List Pair → Type 0 where
  done : {i : ℕ} → Rowed i []
  further : (t : ℕ → ℕ → Bool) (i n j : ℕ) (ms : List ℕ) {as' : List Pair} → Rowed (suc i) as'
      → Rowed i (row t i n j ms ++ as')

-- each with all
rows_rowed : (t : ℕ → ℕ → Bool) (o : List ℕ) (i : ℕ) (ns : List ℕ) → Rowed i (rows t o i ns)
unfolding rows
rows_rowed t o i [] = done
rows_rowed t o i (n ∷ ns) = further t i n 0 o (rows_rowed t o (suc i) ns)

-- each with those behind it
rows_up_rowed : (t : ℕ → ℕ → Bool) (i : ℕ) (ns : List ℕ) → Rowed i (rows_up t i ns)
unfolding rows_up
rows_up_rowed t i [] = done
rows_up_rowed t i (n ∷ ns) = further t i n (suc i) ns (rows_up_rowed t (suc i) ns)

module _ (t : ℕ → ℕ → Bool) (i n : ℕ) (as' : List Pair) where
  -- what is before a row and what follows is before the first of both
  row_first : (a : Pair) (j : ℕ) (ms : List ℕ) → ((k : ℕ) → j ≤ k → Before a (pair i k))
      → before_first a as' ≡ true → before_first a (row t i n j ms ++ as') ≡ true
  unfolding row before_first
  row_first a j [] h e = e
  row_first a j (m ∷ ms) h e = go (t n m) (row_first a (suc j) ms (λ k l. h k (omega arith)) e)
    where
      go : (b : Bool) → before_first a (row t i n (suc j) ms ++ as') ≡ true
          → before_first a (choose b (pair i j ∷ row t i n (suc j) ms) (row t i n (suc j) ms) ++ as') ≡ true
      go true e = true_before (h j (omega arith))
      go false e = e

  -- a row ascends, with what follows
  row_ascends : (j : ℕ) (ms : List ℕ) → ((k : ℕ) → before_first (pair i k) as' ≡ true) → ascends as' ≡ true
      → ascends (row t i n j ms ++ as') ≡ true
  unfolding row ascends
  row_ascends j [] h e = e
  row_ascends j (m ∷ ms) h e = go (t n m) (row_ascends (suc j) ms h e)
    where
      go : (b : Bool) → ascends (row t i n (suc j) ms ++ as') ≡ true
          → ascends (choose b (pair i j ∷ row t i n (suc j) ms) (row t i n (suc j) ms) ++ as') ≡ true
      go true e = rw (row_first (pair i j) (suc j) ms (λ k l. beside refl (omega arith)) (h j)) e
      go false e = e

-- what is from a smaller number is before the first
rowed_first : {i : ℕ} {as' : List Pair} (a : Pair) → a.from < i → Rowed i as' → before_first a as' ≡ true
unfolding before_first
rowed_first a l done = refl
rowed_first a l (further t i n j ms {as' = as'} r) =
    row_first t i n as' a j ms (λ k m. sooner l) (rowed_first a (omega arith) r)

-- pairs in rows ascend
rowed_ascends : {i : ℕ} {as' : List Pair} → Rowed i as' → ascends as' ≡ true
unfolding ascends
rowed_ascends done = refl
rowed_ascends (further t i n j ms {as' = as'} r) =
    row_ascends t i n as' j ms (λ k. rowed_first (pair i k) (omega arith) r) (rowed_ascends r)

module _ (t : ℕ → ℕ → Bool) (o : List ℕ) where
  -- what is listed ascends
  pub rows_ascend : ascends (rows t o 0 o) ≡ true
  rows_ascend = rowed_ascends (rows_rowed t o 0 o)

  pub rows_up_ascend : ascends (rows_up t 0 o) ≡ true
  rows_up_ascend = rowed_ascends (rows_up_rowed t 0 o)

  -- both ends of what is listed are numbers of references
  pub rows_below : every (ends_below (length o)) (rows t o 0 o) ≡ true
  rows_below = every_joined _ _ (λ i j e. inside_ends _ i j (rows_inside t o i j e))

  pub rows_up_below : every (ends_below (length o)) (rows_up t 0 o) ≡ true
  rows_up_below =
      every_joined _ _ (λ i j e.
      let (less, inside) = rows_up_inside t o i j e in inside_ends _ i j (omega arith, inside))

  -- and of those behind, is from the smaller number
  pub rows_up_upward : every upward (rows_up t 0 o) ≡ true
  unfolding upward
  rows_up_upward = every_joined _ _ (λ i j e. lt-ltb i j (rows_up_inside t o i j e).0)

-- a test of numbers in order
tested_numbers : (t : ℕ → ℕ → Bool) (n i j : ℕ) → (t i j ≡ true → (i < n) × (j < n))
    → tested t (get_elem? (from_on 0 n) i) (get_elem? (from_on 0 n) j) ≡ t i j
unfolding tested
tested_numbers t n i j inside = go (ltb i n) (ltb j n) refl refl
  where
    outside : (n ≤ i) ⊎ (n ≤ j) → t i j ≡ false
    outside (inl h) = refuted (t i j) (λ e. let (p, q) = inside e in omega arith)
    outside (inr h) = refuted (t i j) (λ e. let (p, q) = inside e in omega arith)

    go : (a b : Bool) → ltb i n ≡ a → ltb j n ≡ b
        → tested t (get_elem? (from_on 0 n) i) (get_elem? (from_on 0 n) j) ≡ t i j
    go true true p q =
        rw (
          from_on_inside 0 n i (ltb-true i n p),
          from_on_inside 0 n j (ltb-true j n q),
          zero-add i,
          zero-add j,
        )
    go true false p q =
        rw (from_on_inside 0 n i (ltb-true i n p), from_on_outside 0 n j (ltb-false j n q))
        (sym (outside (inr (ltb-false j n q))))
    go false b p q = rw (from_on_outside 0 n i (ltb-false i n p)) (sym (outside (inl (ltb-false i n p))))

-- the rows of an ascending list's numbers in order are the list
pub rows_again : (n : ℕ) (as' : List Pair) → ascends as' ≡ true → every (ends_below n) as' ≡ true
    → rows (joins as') (from_on 0 n) 0 (from_on 0 n) ≡ as'
rows_again n as' up ends =
    ascending_same _ as' (rows_ascend (joins as') (from_on 0 n)) up (λ i j.
    rows_joins (joins as') (from_on 0 n) i j ∙ tested_numbers (joins as') n i j (λ e.
    ends_inside n i j (joined_every (ends_below n) as' ends i j e)))

-- the same of a list of upward pairs
pub rows_up_again : (n : ℕ) (ms : List Pair) → ascends ms ≡ true → every upward ms ≡ true
    → every (ends_below n) ms ≡ true → rows_up (meets ms) 0 (from_on 0 n) ≡ ms
unfolding upward
rows_up_again n ms up to ends =
    ascending_same _ ms (rows_up_ascend (meets ms) (from_on 0 n)) up (λ i j.
    rows_up_joins (meets ms) (from_on 0 n) i j
    ∙ ap (λ b. ltb i j && b) (tested_numbers (meets ms) n i j (λ e. inside i j (or_either _ _ e)))
    ∙ go i j (ltb i j) refl)
  where
    less : (i j : ℕ) → joins ms i j ≡ true → i < j
    less i j e = ltb-true i j (joined_every upward ms to i j e)

    inside : (i j : ℕ) → (joins ms i j ≡ true) ⊎ (joins ms j i ≡ true) → (i < n) × (j < n)
    inside i j (inl e) = ends_inside n i j (joined_every (ends_below n) ms ends i j e)
    inside i j (inr e) = let (p, q) = ends_inside n j i (joined_every (ends_below n) ms ends j i e) in (q, p)

    go : (i j : ℕ) (b : Bool) → ltb i j ≡ b → b && meets ms i j ≡ joins ms i j
    go i j true e =
        rw (refuted (joins ms j i) (λ h. omega (arith, ltb-true i j e, less j i h))) (or-false _)
    go i j false e = sym (refuted (joins ms i j) (λ h. omega (arith, ltb-false i j e, less i j h)))

-- a test of two parts lists no more than both
module _ (v t u : ℕ → ℕ → Bool) (parts : (n m : ℕ) → v n m ≡ t n m || u n m) where
  row_parts : (i n j : ℕ) (ms : List ℕ)
      → length (row v i n j ms) ≤ length (row t i n j ms) + length (row u i n j ms)
  unfolding row
  row_parts i n j [] = omega arith
  row_parts i n j (m ∷ ms) = rw (parts n m) (go (t n m) (u n m) (row_parts i n (suc j) ms))
    where
      go : (a b : Bool)
          → length (row v i n (suc j) ms) ≤ length (row t i n (suc j) ms) + length (row u i n (suc j) ms)
          → length (choose (a || b) (pair i j ∷ row v i n (suc j) ms) (row v i n (suc j) ms))
          ≤ length (choose a (pair i j ∷ row t i n (suc j) ms) (row t i n (suc j) ms))
          + length (choose b (pair i j ∷ row u i n (suc j) ms) (row u i n (suc j) ms))
      go true true h = omega arith
      go true false h = omega arith
      go false true h = omega arith
      go false false h = omega arith

  rows_parts : (o : List ℕ) (i : ℕ) (ns : List ℕ)
      → length (rows v o i ns) ≤ length (rows t o i ns) + length (rows u o i ns)
  unfolding rows
  rows_parts o i [] = omega arith
  rows_parts o i (n ∷ ns) =
      simp length-append (omega (arith, row_parts i n 0 o, rows_parts o (suc i) ns))

  rows_up_parts : (i : ℕ) (ns : List ℕ)
      → length (rows_up v i ns) ≤ length (rows_up t i ns) + length (rows_up u i ns)
  unfolding rows_up
  rows_up_parts i [] = omega arith
  rows_up_parts i (n ∷ ns) =
      simp length-append (omega (arith, row_parts i n (suc i) ns, rows_up_parts (suc i) ns))

module _ (t : ℕ → ℕ → Bool) where
  -- a test that nothing passes lists nothing
  row_none : (i n j : ℕ) (ms : List ℕ) → ((m : ℕ) → among m ms ≡ true → t n m ≡ false)
      → length (row t i n j ms) ≡ 0
  unfolding row
  row_none i n j [] h = refl
  row_none i n j (m ∷ ms) h =
      rw (h m (among_first m ms)) (row_none i n (suc j) ms (λ k e. h k (among_rest k m ms e)))

  -- one that at most one of distinct references passes lists at most one
  row_one : (i n j x : ℕ) (ms : List ℕ) → Distinct ms → ((m : ℕ) → t n m ≡ true → m ≡ x)
      → length (row t i n j ms) ≤ 1
  unfolding row
  row_one i n j x [] d h = omega arith
  row_one i n j x (m ∷ ms) d h = go (t n m) refl (row_one i n (suc j) x ms d.1 h)
    where
      go : (b : Bool) → t n m ≡ b → length (row t i n (suc j) ms) ≤ 1
          → length (choose b (pair i j ∷ row t i n (suc j) ms) (row t i n (suc j) ms)) ≤ 1
      go true e k =
          let rest = row_none i n (suc j) ms (λ l there. refuted (t n l) (λ f.
          among_apart l m ms there d.0 (h l f ∙ sym (h m e)))) in
          omega arith
      go false e k = k

  -- in rows too
  rows_none : (o : List ℕ) (i : ℕ) (ns : List ℕ) → ((n m : ℕ) → among n ns ≡ true → t n m ≡ false)
      → length (rows t o i ns) ≡ 0
  unfolding rows
  rows_none o i [] h = refl
  rows_none o i (n ∷ ns) h =
      simp (
        length-append,
        row_none i n 0 o (λ m e. h n m (among_first n ns)),
        rows_none o (suc i) ns (λ k m e. h k m (among_rest k n ns e)),
      )

  rows_up_none : (i : ℕ) (ns : List ℕ) → ((n m : ℕ) → among n ns ≡ true → among m ns ≡ true → t n m ≡ false)
      → length (rows_up t i ns) ≡ 0
  unfolding rows_up
  rows_up_none i [] h = refl
  rows_up_none i (n ∷ ns) h =
      simp (
        length-append,
        row_none i n (suc i) ns (λ m e. h n m (among_first n ns) (among_rest m n ns e)),
        rows_up_none (suc i) ns (λ k m e f. h k m (among_rest k n ns e) (among_rest m n ns f)),
      )

  -- a test of one pair of references lists at most one, where they are distinct
  rows_one : (x y : ℕ) (o : List ℕ) (i : ℕ) (ns : List ℕ) → Distinct o → Distinct ns
      → ((n m : ℕ) → t n m ≡ true → (n ≡ x) × (m ≡ y)) → length (rows t o i ns) ≤ 1
  unfolding rows
  rows_one x y o i [] d e h = omega arith
  rows_one x y o i (n ∷ ns) d (gone, e) h =
      simp length-append (go (eqb n x) refl (rows_one x y o (suc i) ns d e h))
    where
      go : (b : Bool) → eqb n x ≡ b → length (rows t o (suc i) ns) ≤ 1
          → length (row t i n 0 o) + length (rows t o (suc i) ns) ≤ 1
      go true s k =
          let first = row_one i n 0 y o d (λ m p. (h n m p).1) in
          let rest = rows_none o (suc i) ns (λ l m there. refuted (t l m) (λ p.
          among_apart l n ns there gone ((h l m p).0 ∙ sym (eqb-true n x s)))) in
          omega arith
      go false s k =
          let first = row_none i n 0 o (λ m there. refuted (t n m) (λ p. eqb-false n x s (h n m p).0)) in
          omega arith

  -- and so does a test of two references, in either order
  rows_up_one : (x y i : ℕ) (ns : List ℕ) → Distinct ns
      → ((n m : ℕ) → t n m ≡ true → ((n ≡ x) × (m ≡ y)) ⊎ ((n ≡ y) × (m ≡ x))) → length (rows_up t i ns) ≤ 1
  unfolding rows_up
  rows_up_one x y i [] e h = omega arith
  rows_up_one x y i (n ∷ ns) (gone, e) h =
      simp length-append (go (eqb n x) (eqb n y) refl refl (rows_up_one x y (suc i) ns e h))
    where
      other : (z m : ℕ) → ((n ≡ x) × (z ≡ y)) ⊎ ((n ≡ y) × (z ≡ x)) → t n m ≡ true → m ≡ z
      other z m (inl (p, q)) s = ⊎_elim (λ r. r.1 ∙ sym q) (λ r. r.1 ∙ sym p ∙ r.0 ∙ sym q) (h n m s)
      other z m (inr (p, q)) s = ⊎_elim (λ r. r.1 ∙ sym p ∙ r.0 ∙ sym q) (λ r. r.1 ∙ sym q) (h n m s)

      found : (z : ℕ) → ((n ≡ x) × (z ≡ y)) ⊎ ((n ≡ y) × (z ≡ x))
          → length (row t i n (suc i) ns) + length (rows_up t (suc i) ns) ≤ 1
      found z w =
          let first = row_one i n (suc i) z ns e (λ m s. other z m w s) in
          let rest = rows_up_none (suc i) ns (λ l m p q. refuted (t l m) (λ s. never l m p q w (h l m s))) in
          omega arith
        where
          never : (l m : ℕ) → among l ns ≡ true → among m ns ≡ true
              → ((n ≡ x) × (z ≡ y)) ⊎ ((n ≡ y) × (z ≡ x))
              → ((l ≡ x) × (m ≡ y)) ⊎ ((l ≡ y) × (m ≡ x)) → ⊥
          never l m p q (inl (a, b)) (inl (c, d)) = among_apart l n ns p gone (c ∙ sym a)
          never l m p q (inl (a, b)) (inr (c, d)) = among_apart m n ns q gone (d ∙ sym a)
          never l m p q (inr (a, b)) (inl (c, d)) = among_apart m n ns q gone (d ∙ sym a)
          never l m p q (inr (a, b)) (inr (c, d)) = among_apart l n ns p gone (c ∙ sym a)

      go : (b c : Bool) → eqb n x ≡ b → eqb n y ≡ c → length (rows_up t (suc i) ns) ≤ 1
          → length (row t i n (suc i) ns) + length (rows_up t (suc i) ns) ≤ 1
      go true c p q k = found y (inl (eqb-true n x p, refl))
      go false true p q k = found x (inr (eqb-true n y q, refl))
      go false false p q k =
          let first = row_none i n (suc i) ns (λ m there. refuted (t n m) (λ s.
          ⊎_elim (λ r. eqb-false n x p r.0) (λ r. eqb-false n y q r.0) (h n m s))) in
          omega arith

-- n and m are the ends of a pair
is_pair : Pair → ℕ → ℕ → Bool
is_pair a n m = eqb n a.from && eqb m a.to

-- they are where the test holds
pair_is : (a : Pair) (n m : ℕ) → is_pair a n m ≡ true → (n ≡ a.from) × (m ≡ a.to)
unfolding is_pair
pair_is a n m e = let (p, q) = both (eqb n a.from) _ e in (eqb-true _ _ p, eqb-true _ _ q)

-- where references are distinct, no more is listed of some pairs than there are
pub rows_few : (o : List ℕ) → Distinct o → (as' : List Pair) → length (rows (joins as') o 0 o) ≤ length as'
unfolding joins is_pair
rows_few o d [] = omega (arith, rows_none (joins []) o 0 o (λ n m e. refl))
rows_few o d (a ∷ as') =
    omega (
      arith,
      rows_parts (joins (a ∷ as')) (is_pair a) (joins as') (λ n m. refl) o 0 o,
      rows_one (is_pair a) a.from a.to o 0 o d d (pair_is a),
      rows_few o d as',
    )

-- nor of what meets, in either order
pub rows_up_few : (o : List ℕ) → Distinct o → (ms : List Pair) → length (rows_up (meets ms) 0 o) ≤ length ms
unfolding joins is_pair
rows_up_few o d [] = omega (arith, rows_up_none (meets []) 0 o (λ n m e f. refl))
rows_up_few o d (a ∷ ms) =
    omega (
      arith,
      rows_up_parts (meets (a ∷ ms)) (λ n m. is_pair a n m || is_pair a m n) (meets ms) regrouped 0 o,
      rows_up_one (λ n m. is_pair a n m || is_pair a m n) a.from a.to 0 o d ends,
      rows_up_few o d ms,
    )
  where
    cross : (p q r s : Bool) → (p || q) || (r || s) ≡ (p || r) || (q || s)
    cross true q r s = refl
    cross false true true s = refl
    cross false true false s = refl
    cross false false r s = refl

    regrouped : (n m : ℕ) → meets (a ∷ ms) n m ≡ (is_pair a n m || is_pair a m n) || meets ms n m
    regrouped n m = cross (is_pair a n m) (joins ms n m) (is_pair a m n) (joins ms m n)

    ends : (n m : ℕ) → is_pair a n m || is_pair a m n ≡ true
        → ((n ≡ a.from) × (m ≡ a.to)) ⊎ ((n ≡ a.to) × (m ≡ a.from))
    ends n m e =
        ⊎_elim (λ p. inl (pair_is a n m p)) (λ p. let (x, y) = pair_is a m n p in inr (y, x))
        (or_either (is_pair a n m) (is_pair a m n) e)
