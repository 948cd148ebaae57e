-- References in a list, by their numbers. Each number below the length has its reference, each reference
-- that is among them a number, and of distinct references only one; the numbers from 0 on have themselves.
-- By induction over the list. Assumes nothing.
use Rattle.std.proofs.Common.{ℕ, zero, suc, ◌+◌, ◌≤◌, ◌<◌, ◌≡◌, refl, sym, ap, ◌∙◌, Bool, true, false, List}
use Rattle.std.proofs.Common.{[], ◌∷◌, map, ◌⊎◌, inl, inr, ⊎_elim, arith, add-zero, add-suc, suc-add, length}
use Rattle.std.proofs.Common.{get_or, eqb, eqb-true, eq-eqb}
use Rattle.std.proofs.lemmas.Bool.{eqb-false}
use Rattle.std.proofs.Math.Bool.{and-false}
use Rattle.std.proofs.Math.Option.{none, some}
use Rattle.std.proofs.Math.ListN.{get_elem?}
use Rattle.lines.specs.Line.{choose}
use Rattle.lines.proofs.Digits.{both}
use Rattle.graphs.specs.Graph.{keep}
use Rattle.graphs.specs.Walk.{among}
use Rattle.graphs.specs.Shape.{from_on, same}
use Rattle.graphs.proofs.Walking.{Distinct, Within, among_first, among_rest, among_cases, among_none}
use Rattle.graphs.proofs.Walking.{among_only, within_rest, among_neither, OneToOne}
use Rattle.graphs.proofs.Ordered.{among_keep}

-- an element that is there has a number below the length
pub element_inside : (o : List ℕ) (i n : ℕ) → get_elem? o i ≡ some n → i < length o
element_inside [] i n e = let z : ◌≡◌ {A = ℕ} 0 1 = cc in absurd (omega arith)
element_inside (m ∷ o) zero n e = omega arith
element_inside (m ∷ o) (suc i) n e = omega (arith, element_inside o i n e)

-- and below the length there is one
pub element_there : (o : List ℕ) (i : ℕ) → i < length o → get_elem? o i ≡ some (get_or o i 0)
element_there [] i h = absurd (omega arith)
element_there (n ∷ o) zero h = refl
element_there (n ∷ o) (suc i) h = element_there o i (omega arith)

-- past it there is none
pub element_outside : (o : List ℕ) (i : ℕ) → length o ≤ i → get_elem? o i ≡ none
element_outside [] i h = refl
element_outside (n ∷ o) zero h = absurd (omega arith)
element_outside (n ∷ o) (suc i) h = element_outside o i (omega arith)

-- each is among all
pub element_among : (o : List ℕ) (i : ℕ) → i < length o → among (get_or o i 0) o ≡ true
element_among [] i h = absurd (omega arith)
element_among (n ∷ o) zero h = among_first n o
element_among (n ∷ o) (suc i) h = among_rest (get_or o i 0) n o (element_among o i (omega arith))

-- who is among references is not one that is not
pub among_apart : (l n : ℕ) (ns : List ℕ) → among l ns ≡ true → among n ns ≡ false → l ≡ n → ⊥
among_apart l n ns there gone e =
    let clash = sym there ∙ ap (λ r. among r ns) e ∙ gone in
    let z : ◌≡◌ {A = ℕ} 0 1 = cc in omega arith

-- distinct ones have distinct numbers
pub distinct_numbers : (o : List ℕ) → Distinct o → OneToOne (λ i. i < length o) (λ i. get_or o i 0)
distinct_numbers [] d i j p q e = absurd (omega arith)
distinct_numbers (n ∷ o) d zero zero p q e = refl
distinct_numbers (n ∷ o) d zero (suc j) p q e =
    absurd (among_apart (get_or o j 0) n o (element_among o j (omega arith)) d.0 (sym e))
distinct_numbers (n ∷ o) d (suc i) zero p q e =
    absurd (among_apart (get_or o i 0) n o (element_among o i (omega arith)) d.0 e)
distinct_numbers (n ∷ o) d (suc i) (suc j) p q e =
    ap suc (distinct_numbers o d.1 i j (omega arith) (omega arith) e)

-- the number of a reference
unfoldable pub number_in : List ℕ → ℕ → ℕ
number_in [] n = 0
number_in (m ∷ ms) n = choose (eqb n m) 0 (suc (number_in ms n))

-- it is below the length, and the reference stands there
pub number_there : (o : List ℕ) (n : ℕ) → among n o ≡ true
    → (number_in o n < length o) × (get_or o (number_in o n) 0 ≡ n)
unfolding number_in
number_there [] n e = absurd (among_none n e)
number_there (m ∷ ms) n e = go (eqb n m) refl (λ there. number_there ms n there) (among_cases n m ms e)
  where
    go : (b : Bool) → eqb n m ≡ b
        → (among n ms ≡ true → (number_in ms n < length ms) × (get_or ms (number_in ms n) 0 ≡ n))
        → (n ≡ m) ⊎ (among n ms ≡ true)
        → (choose b 0 (suc (number_in ms n)) < suc (length ms))
        × (get_or (m ∷ ms) (choose b 0 (suc (number_in ms n))) 0 ≡ n)
    go true e further c = (omega arith, sym (eqb-true n m e))
    go false e further (inl is) = absurd (eqb-false n m e is)
    go false e further (inr there) = let (inside, is) = further there in (omega arith, is)

-- and the number of what stands there is that
pub number_again : (o : List ℕ) → Distinct o → (k : ℕ) → k < length o → number_in o (get_or o k 0) ≡ k
number_again o d k l =
    let (inside, is) = number_there o (get_or o k 0) (element_among o k l) in
    distinct_numbers o d (number_in o (get_or o k 0)) k inside l is

-- the numbers in order: each is its own, below the count
pub from_on_inside : (k n i : ℕ) → i < n → get_elem? (from_on k n) i ≡ some (k + i)
unfolding from_on
from_on_inside k zero i h = absurd (omega arith)
from_on_inside k (suc n) zero h = rw (add-zero k)
from_on_inside k (suc n) (suc i) h = rw (add-suc, ← suc-add k i) (from_on_inside (suc k) n i (omega arith))

-- past the count there is none
pub from_on_outside : (k n i : ℕ) → n ≤ i → get_elem? (from_on k n) i ≡ none
unfolding from_on
from_on_outside k zero i h = refl
from_on_outside k (suc n) zero h = absurd (omega arith)
from_on_outside k (suc n) (suc i) h = from_on_outside (suc k) n i (omega arith)

-- distinct ones that are all the same are at most one
pub few_alike : (xs : List ℕ) → Distinct xs → ((n m : ℕ) → among n xs ≡ true → among m xs ≡ true → n ≡ m)
    → length xs ≤ 1
few_alike [] d h = omega arith
few_alike (x ∷ []) d h = omega arith
few_alike (x ∷ y ∷ xs) d h =
    absurd ((among_neither x y xs d.0).0
    (h x y (among_first x (y ∷ xs)) (among_rest y x (y ∷ xs) (among_first y xs))))

-- and at most one is the same
pub alike_few : (xs : List ℕ) → length xs ≤ 1 → (n m : ℕ) → among n xs ≡ true → among m xs ≡ true → n ≡ m
alike_few [] l n m p q = absurd (among_none n p)
alike_few (x ∷ []) l n m p q = among_only n x p ∙ sym (among_only m x q)
alike_few (x ∷ y ∷ xs) l n m p q = absurd (omega arith)

-- those of distinct ones that pass a test are distinct
pub keep_distinct : (t : ℕ → Bool) (xs : List ℕ) → Distinct xs → Distinct (keep t xs)
unfolding keep
keep_distinct t [] d = tt
keep_distinct t (x ∷ xs) (gone, d) = go (t x) (keep_distinct t xs d)
  where
    go : (b : Bool) → Distinct (keep t xs) → Distinct (choose b (x ∷ keep t xs) (keep t xs))
    go true e = (among_keep t x xs ∙ rw gone (and-false (t x)), e)
    go false e = e

-- lists that a one-to-one map takes to the same are the same
pub map_apart : (D : ℕ → Type 0) (φ : ℕ → ℕ) → OneToOne D φ → (xs ys : List ℕ) → Within D xs → Within D ys
    → map φ xs ≡ map φ ys → xs ≡ ys
map_apart D φ apart [] [] p q e = refl
map_apart D φ apart [] (y ∷ ys) p q e = let z : ◌≡◌ {A = ℕ} 0 1 = cc in absurd (omega arith)
map_apart D φ apart (x ∷ xs) [] p q e = let z : ◌≡◌ {A = ℕ} 0 1 = cc in absurd (omega arith)
map_apart D φ apart (x ∷ xs) (y ∷ ys) p q e =
    let first = apart x y (p x (among_first x xs)) (q y (among_first y ys)) (cc) in
    let rest = map_apart D φ apart xs ys (within_rest D x xs p) (within_rest D y ys q) (cc) in
    cc

-- the elements of the numbers in order
pub map_numbers : (o ys : List ℕ) (k : ℕ) → ((i : ℕ) → get_or o (k + i) 0 ≡ get_or ys i 0)
    → map (λ i. get_or o i 0) (from_on k (length ys)) ≡ ys
unfolding from_on
map_numbers o [] k h = refl
map_numbers o (y ∷ ys) k h =
    let first : get_or o k 0 ≡ y = rw add-zero at (h 0) in
    let rest = map_numbers o ys (suc k)
    (λ i. ap (λ j. get_or o j 0) (suc-add k i ∙ sym (add-suc k i)) ∙ h (suc i)) in
    cc

-- who is among the numbers from k on
pub from_on_among : (k n i : ℕ) → among i (from_on k n) ≡ true → (k ≤ i) × (i < k + n)
unfolding from_on
from_on_among k zero i e = absurd (among_none i e)
from_on_among k (suc n) i e =
    ⊎_elim (λ is. (omega arith, omega arith))
    (λ there. let (low, high) = from_on_among (suc k) n i there in (omega arith, omega arith))
    (among_cases i k (from_on (suc k) n) e)

-- the test of two lists says that they are the same
pub same_true : (xs ys : List ℕ) → same xs ys ≡ true → xs ≡ ys
unfolding same
same_true [] [] e = refl
same_true [] (y ∷ ys) e = let z : ◌≡◌ {A = ℕ} 0 1 = cc in absurd (omega arith)
same_true (x ∷ xs) [] e = let z : ◌≡◌ {A = ℕ} 0 1 = cc in absurd (omega arith)
same_true (x ∷ xs) (y ∷ ys) e =
    let (first, rest) = both (eqb x y) _ e in
    let is = eqb-true x y first in
    let are = same_true xs ys rest in
    cc

-- and holds of a list and itself
pub same_itself : (xs : List ℕ) → same xs xs ≡ true
unfolding same
same_itself [] = refl
same_itself (x ∷ xs) = rw (eq-eqb x x refl) (same_itself xs)
