-- The numbers of references, and pairs by them. The column of numbers has one more than a reference's
-- number in the order, and 0 for a reference that the order has not; so pairs by their numbers join two
-- numbers exactly where the pairs join their references, and no more often than these are joined. Assumes
-- nothing.
use Rattle.std.proofs.Common.{ℕ, zero, suc, ◌+◌, ◌≤◌, ◌<◌, ◌≡◌, refl, sym, ap, ap₂, ◌∙◌, Bool, true, false}
use Rattle.std.proofs.Common.{◌&&◌, ◌||◌, List, [], ◌∷◌, ◌++◌, ◌⊎◌, inl, inr, ⊎_elim, arith, zero-add, length}
use Rattle.std.proofs.Common.{get_or, set, replicate, length-set, get_or-set_same, get_or-set_other, ltb, eqb}
use Rattle.std.proofs.Common.{eqb-true, eq-eqb, ltb-true, ltb-false, lt-ltb}
use Rattle.std.proofs.lemmas.Bool.{eqb-false}
use Rattle.std.proofs.lemmas.List.{length-replicate, get_or-replicate}
use Rattle.std.proofs.Math.Bool.{and-false, and_comm, or-true, or-false, or_comm}
use Rattle.std.proofs.Math.Option.{Option, none, some, some-injective}
use Rattle.std.proofs.Math.ListN.{get_elem?}
use Rattle.std.proofs.Math.Dec.{eqb-suc-zero, eqb-suc-suc}
use Rattle.lines.specs.Line.{choose}
use Rattle.lines.proofs.Digits.{both}
use Rattle.columns.specs.words.Columns.{look}
use Rattle.columns.proofs.Laws.{look_in}
use Rattle.control.specs.words.Words.{reference_room}
use Rattle.rules.specs.Track.{Pair, pair}
use Rattle.rules.proofs.Offered.{or_left, or_right, or_either}
use Rattle.rules.proofs.Weighed.{arc, between, share_is, sum}
use Rattle.graphs.specs.Graph.{joins}
use Rattle.graphs.specs.Walk.{among}
use Rattle.graphs.proofs.Walking.{Distinct, Within, among_first, among_cases, among_none, among_neither}
use Rattle.graphs.proofs.Walking.{within_rest}
use Rattle.graphs.proofs.References.{number_in, number_there, number_again, element_there, element_inside}
use Rattle.graphs.proofs.References.{element_among}
use Rattle.graphs.proofs.Pairs.{agree, joins_append}
use Rattle.graphs.proofs.Rows.{tested}
use Rattle.links.specs.words.Columns.{at}
use Rattle.walks.specs.code.Walked.{numbers_from, numbers}
use Rattle.pairing.specs.code.Renumbered.{renumbered_one, renumbered}
use Rattle.sorting.proofs.Ordering.{times}

-- a word that is put in a column is read, and any other stays
at_same : (w : List ℕ) (n v : ℕ) → n < reference_room → length w ≡ reference_room → at (set w n v) n ≡ v
at_same w n v h long =
    sym (look_in reference_room (set w n v) n h) ∙ get_or-set_same w n v 0 (omega arith)

at_other : (w : List ℕ) (m n v : ℕ) → (n ≡ m → ⊥) → at (set w m v) n ≡ at w n
unfolding look
at_other w m n v other = rw (get_or-set_other w m n v 0 other)

-- a column of zeros
at_zeros : (n : ℕ) → at (replicate reference_room 0) n ≡ 0
unfolding look
at_zeros n = go (ltb n reference_room) refl
  where
    go : (b : Bool) → ltb n reference_room ≡ b
        → ◌≡◌ {A = ℕ} (choose b (get_or (replicate reference_room 0) n 0) 0) 0
    go true e = get_or-replicate {A = ℕ} reference_room n 0 0 (ltb-true n reference_room e)
    go false e = refl

-- a reference that the order has not keeps its word
numbers_other : (k : ℕ) (o w : List ℕ) (n : ℕ) → among n o ≡ false → at (numbers_from k o w) n ≡ at w n
unfolding numbers_from
numbers_other k [] w n e = refl
numbers_other k (m ∷ o) w n e =
    let (other, rest) = among_neither n m o e in
    numbers_other (suc k) o (set w m (suc k)) n rest ∙ at_other w m n (suc k) other

-- one that it has gets one more than its number
numbers_here : (k : ℕ) (o w : List ℕ) → length w ≡ reference_room → Distinct o
    → Within (λ n. n < reference_room) o → (n : ℕ) → among n o ≡ true
    → at (numbers_from k o w) n ≡ suc (k + number_in o n)
unfolding numbers_from number_in
numbers_here k [] w long d inside n e = absurd (among_none n e)
numbers_here k (m ∷ o) w long (gone, d) inside n e =
    go (eqb n m) refl (numbers_here (suc k) o (set w m (suc k)) (length-set w m (suc k) ∙ long) d
    (within_rest (λ n. n < reference_room) m o inside) n)
  where
    go : (b : Bool) → eqb n m ≡ b
        → (among n o ≡ true → at (numbers_from (suc k) o (set w m (suc k))) n ≡ suc (suc k + number_in o n))
        → at (numbers_from (suc k) o (set w m (suc k))) n ≡ suc (k + choose b 0 (suc (number_in o n)))
    go true i further =
        let same = eqb-true n m i in
        rw same (numbers_other (suc k) o (set w m (suc k)) m gone
        ∙ at_same w m (suc k) (inside m (among_first m o)) long ∙ omega arith)
    go false i further =
        further (⊎_elim (λ same. absurd (eqb-false n m i same)) (λ there. there) (among_cases n m o e))
        ∙ omega arith

-- one more than the number of each reference, 0 where it has none
abbrev pub Numbers : List ℕ → List ℕ → Type 0
Numbers o ns = (n : ℕ) → at ns n ≡ choose (among n o) (suc (number_in o n)) 0

-- an element of an order is a reference
unfoldable stands : Option ℕ → ℕ → Bool
stands none a = false
stands (some n) a = eqb n a

-- what two numbers ask of pairs: the one way, or either way from the lower to the higher
unfoldable pub way : Bool → ℕ → ℕ → Bool → Bool → Bool
way false i j a b = a
way true i j a b = ltb i j && (a || b)

-- of no pairs nothing, and of two lists what they ask of the one or the other
way_none : (either : Bool) (i j : ℕ) → way either i j false false ≡ false
unfolding way
way_none false i j = refl
way_none true i j = and-false (ltb i j)

way_more : (either : Bool) (i j : ℕ) (a b c e : Bool)
    → way either i j (a || c) (b || e) ≡ way either i j a b || way either i j c e
unfolding way
way_more false i j a b c e = refl
way_more true i j a b c e = go (ltb i j) a b
  where
    go : (l a b : Bool) → l && ((a || c) || (b || e)) ≡ (l && (a || b)) || (l && (c || e))
    go false a b = refl
    go true true b = refl
    go true false true = or-true c
    go true false false = refl

-- two numbers are those of a pair
two_are : (i j p q : ℕ) → eqb i p && eqb j q ≡ true → (i ≡ p) × (j ≡ q)
two_are i j p q e = let (one, two) = both (eqb i p) _ e in (eqb-true i p one, eqb-true j q two)

are_two : (i j p q : ℕ) → i ≡ p → j ≡ q → eqb i p && eqb j q ≡ true
are_two i j p q e f = rw (eq-eqb i p e, eq-eqb j q f)

-- what a pair of different numbers joins, the lower one first
upward_joins : (p q i j : ℕ) → p < q
    → joins (pair p q ∷ []) i j ≡ ltb i j && ((eqb i p && eqb j q) || (eqb j p && eqb i q))
unfolding joins
upward_joins p q i j h =
    or-false (eqb i p && eqb j q)
    ∙ agree _ _
    (λ e. let (a, b) = two_are i j p q e in rw (lt-ltb i j (omega arith), are_two i j p q a b))
    (λ e.
    let (up, those) = both (ltb i j) _ e in
    here (ltb-true i j up) (or_either (eqb i p && eqb j q) (eqb j p && eqb i q) those))
  where
    here : i < j → (eqb i p && eqb j q ≡ true) ⊎ (eqb j p && eqb i q ≡ true) → eqb i p && eqb j q ≡ true
    here up (inl e) = e
    here up (inr e) = let (a, b) = two_are j i p q e in absurd (omega arith)

-- what a pair by its numbers joins, where these are not the same
one_joins : (either : Bool) (x y i j : ℕ) → (either ≡ true → (k : ℕ) → x ≡ suc k → y ≡ suc k → ⊥)
    → joins (renumbered_one either x y) i j
    ≡ way either i j (eqb (suc i) x && eqb (suc j) y) (eqb (suc j) x && eqb (suc i) y)
unfolding renumbered_one joins way
one_joins either zero y i j apart = rw (eqb-suc-zero i, eqb-suc-zero j) (sym (way_none either i j))
one_joins either (suc x) zero i j apart =
    rw (eqb-suc-zero i, eqb-suc-zero j, and-false (eqb (suc i) (suc x)), and-false (eqb (suc j) (suc x)))
    (sym (way_none either i j))
one_joins false (suc x) (suc y) i j apart = rw (eqb-suc-suc i x, eqb-suc-suc j y) (or-false _)
one_joins true (suc x) (suc y) i j apart =
    rw (eqb-suc-suc i x, eqb-suc-suc j y, eqb-suc-suc j x, eqb-suc-suc i y) (go (ltb y x) refl)
  where
    go : (b : Bool) → ltb y x ≡ b → joins (choose b (pair y x) (pair x y) ∷ []) i j
        ≡ ltb i j && ((eqb i x && eqb j y) || (eqb j x && eqb i y))
    go true e =
        upward_joins y x i j (ltb-true y x e)
        ∙ ap (λ b. ltb i j && b)
        (or_comm (eqb i y && eqb j x) _
        ∙ ap₂ ◌||◌ (and_comm (eqb j y) (eqb i x)) (and_comm (eqb i y) (eqb j x)))
    go false e = upward_joins x y i j (less (ltb-false y x e) (λ same. apart refl x refl (ap suc (sym same))))
      where
        less : x ≤ y → (x ≡ y → ⊥) → x < y
        less h other = omega arith

-- what a test says of two elements, by no pair and by one more
tested_nothing : (x y : Option ℕ) → tested (joins []) x y ≡ false
unfolding tested joins
tested_nothing none y = refl
tested_nothing (some n) none = refl
tested_nothing (some n) (some m) = refl

tested_more : (a : Pair) (as' : List Pair) (x y : Option ℕ)
    → tested (joins (a ∷ as')) x y ≡ (stands x a.from && stands y a.to) || tested (joins as') x y
unfolding tested joins stands
tested_more a as' none y = refl
tested_more a as' (some n) none = sym (or-false _ ∙ and-false (eqb n a.from))
tested_more a as' (some n) (some m) = refl

-- the column of numbers of distinct references in range
pub numbers_told : (o : List ℕ) → Distinct o → Within (λ n. n < reference_room) o → Numbers o (numbers o)
numbers_told o d inside n = go (among n o) refl
  where
    go : (b : Bool) → among n o ≡ b → at (numbers o) n ≡ choose b (suc (number_in o n)) 0
    go true e =
        numbers_here 0 o _ (length-replicate {A = ℕ} reference_room 0) d inside n e
        ∙ rw (zero-add (number_in o n))
    go false e = numbers_other 0 o _ n e ∙ at_zeros n

-- a pair counts where its ends are
pair_counts : {n m : ℕ} {a : Pair} → n ≡ a.from → m ≡ a.to → arc n m a ≡ 1
pair_counts {n = n} {m = m} {a = a} e f =
    share_is n a.from _ (eq-eqb n a.from e) ∙ share_is m a.to 1 (eq-eqb m a.to f)

-- one pair more is there once more at most, and only as itself
times_more : (i j p q k : ℕ) (ps : List Pair) → (i ≡ p → j ≡ q → 1 ≤ k)
    → times i j (pair p q ∷ ps) ≤ times i j ps + k
unfolding times
times_more i j p q k ps h = go (eqb i p && eqb j q) refl
  where
    go : (b : Bool) → eqb i p && eqb j q ≡ b → choose b (suc (times i j ps)) (times i j ps) ≤ times i j ps + k
    go true e = let (a, b) = two_are i j p q e in omega (arith, h a b)
    go false e = omega arith

-- distinct references, with their numbers
module _ (o ns : List ℕ) (d : Distinct o) (tells : Numbers o ns) where
  -- no number passes how many there are
  pub numbers_most : (n : ℕ) → at ns n ≤ length o
  numbers_most n = rw (tells n) (go (among n o) refl)
    where
      go : (b : Bool) → among n o ≡ b → choose b (suc (number_in o n)) 0 ≤ length o
      go true e = omega (arith, (number_there o n e).0)
      go false e = omega arith

  -- what stands at the number that a reference has
  number_is : (a k : ℕ) → at ns a ≡ suc k → (k < length o) × (get_or o k 0 ≡ a)
  number_is a k e = go (among a o) refl (sym (tells a) ∙ e)
    where
      go : (b : Bool) → among a o ≡ b → choose b (suc (number_in o a)) 0 ≡ suc k
          → (k < length o) × (get_or o k 0 ≡ a)
      go true i e =
          let same : number_in o a ≡ k = omega (arith, e) in
          rw (← same) (number_there o a i)
      go false i e = absurd (omega (arith, e))

  -- a reference has a number where it stands there
  number_stands : (i a : ℕ) → eqb (suc i) (at ns a) ≡ stands (get_elem? o i) a
  unfolding stands
  number_stands i a = agree _ _ forth (back (get_elem? o i) refl)
    where
      forth : eqb (suc i) (at ns a) ≡ true → stands (get_elem? o i) a ≡ true
      forth e =
          let (here, is) = number_is a i (sym (eqb-true (suc i) _ e)) in
          rw (element_there o i here, is) (eq-eqb a a refl)

      back : (x : Option ℕ) → get_elem? o i ≡ x → stands x a ≡ true → eqb (suc i) (at ns a) ≡ true
      back none f e = let z : ◌≡◌ {A = ℕ} 0 1 = cc in absurd (omega arith)
      back (some n) f e =
          let here = element_inside o i n f in
          let is : get_or o i 0 ≡ a =
          some-injective _ _ (sym (element_there o i here) ∙ f) ∙ eqb-true n a e in
          let there : among a o ≡ true = rw is at (element_among o i here) in
          let number : number_in o a ≡ i = rw is at (number_again o d i here) in
          rw (tells a, there, number) (eq-eqb (suc i) (suc i) refl)

  -- pairs by their numbers join two numbers where the pairs join their references
  pub renumbered_joins : (either : Bool) (as' : List Pair)
      → (either ≡ true → (n : ℕ) → joins as' n n ≡ true → ⊥)
      → (i j : ℕ) → joins (renumbered either ns as') i j
      ≡ way either i j (tested (joins as') (get_elem? o i) (get_elem? o j))
      (tested (joins as') (get_elem? o j) (get_elem? o i))
  unfolding renumbered joins
  renumbered_joins either [] apart i j =
      rw (tested_nothing (get_elem? o i) (get_elem? o j), tested_nothing (get_elem? o j) (get_elem? o i))
      (sym (way_none either i j))
  renumbered_joins either (a ∷ as') apart i j =
      joins_append (renumbered_one either (at ns a.from) (at ns a.to)) _ i j
      ∙ rw (
        one_joins either (at ns a.from) (at ns a.to) i j here,
        renumbered_joins either as' (λ e n h. apart e n (or_right (eqb n a.from && eqb n a.to) _ h)) i j,
        number_stands i a.from,
        number_stands j a.to,
        number_stands j a.from,
        number_stands i a.to,
        tested_more a as' (get_elem? o i) (get_elem? o j),
        tested_more a as' (get_elem? o j) (get_elem? o i),
      )
      (sym (way_more either i j _ _ _ _))
    where
      here : either ≡ true → (k : ℕ) → at ns a.from ≡ suc k → at ns a.to ≡ suc k → ⊥
      here e k p q =
          let one = (number_is a.from k p).1 in
          let two = (number_is a.to k q).1 in
          let n : ℕ = get_or o k 0 in
          apart e n (or_left _ (joins as' n n) (are_two n n a.from a.to one two))

  -- how often a pair by its numbers is there counts in how often its references are joined
  module _ (i j : ℕ) where
    abbrev one_way : Pair → ℕ
    one_way = arc (get_or o i 0) (get_or o j 0)

    abbrev other_way : Pair → ℕ
    other_way = arc (get_or o j 0) (get_or o i 0)

    one_times : (either : Bool) (a : Pair) (x y : ℕ) → at ns a.from ≡ x → at ns a.to ≡ y
        → (ps : List Pair) → times i j (renumbered_one either x y ++ ps)
        ≤ times i j ps + (one_way a + choose either (other_way a) 0)
    unfolding renumbered_one
    one_times either a zero y e f ps = omega arith
    one_times either a (suc x) zero e f ps = omega arith
    one_times either a (suc x) (suc y) e f ps = go either
      where
        straight : (k : ℕ) → times i j (pair x y ∷ ps) ≤ times i j ps + (one_way a + k)
        straight k =
            times_more i j x y _ ps (λ p q.
            omega (
              arith,
              pair_counts {a = a} (number_is a.from i (e ∙ ap suc (sym p))).1
                  (number_is a.to j (f ∙ ap suc (sym q))).1,
            ))

        turned : times i j (pair y x ∷ ps) ≤ times i j ps + (one_way a + other_way a)
        turned =
            times_more i j y x _ ps (λ p q.
            omega (
              arith,
              pair_counts {a = a} (number_is a.from j (e ∙ ap suc (sym q))).1
                  (number_is a.to i (f ∙ ap suc (sym p))).1,
            ))

        go : (either : Bool) → times i j (choose (either && ltb y x) (pair y x) (pair x y) ∷ ps)
            ≤ times i j ps + (one_way a + choose either (other_way a) 0)
        go false = straight 0
        go true = which (ltb y x)
          where
            which : (b : Bool) → times i j (choose b (pair y x) (pair x y) ∷ ps)
                ≤ times i j ps + (one_way a + other_way a)
            which true = turned
            which false = straight (other_way a)

    -- so it is there no more often than these are
    pub renumbered_times : (either : Bool) (as' : List Pair) → times i j (renumbered either ns as')
        ≤ between (get_or o i 0) (get_or o j 0) as' + choose either (between (get_or o j 0) (get_or o i 0) as') 0
    unfolding renumbered sum times
    renumbered_times either [] = omega arith
    renumbered_times either (a ∷ as') =
        go either (one_times either a _ _ refl refl (renumbered either ns as')) (renumbered_times either as')
      where
        go : (either : Bool)
            → times i j (renumbered_one either (at ns a.from) (at ns a.to) ++ renumbered either ns as')
            ≤ times i j (renumbered either ns as') + (one_way a + choose either (other_way a) 0)
            → times i j (renumbered either ns as') ≤ sum one_way as' + choose either (sum other_way as') 0
            → times i j (renumbered_one either (at ns a.from) (at ns a.to) ++ renumbered either ns as')
            ≤ one_way a + sum one_way as' + choose either (other_way a + sum other_way as') 0
        go false h k = omega (arith, h, k)
        go true h k = omega (arith, h, k)
