-- Distinct references get their numbers in order: the one at number i gets i + 1. So if each number below n has one more than
-- itself, and n references got numbers, reference i stands at number i; and the other way round. Assumes nothing.
use Rattle.std.proofs.Common.{ℕ, zero, suc, ◌+◌, ◌≤◌, ◌<◌, ◌≡◌, refl, sym, ap, ◌∙◌, Bool, true, false, ◌&&◌}
use Rattle.std.proofs.Common.{List, [], ◌∷◌, arith, add-zero, zero-add, add-suc, suc-add, add-one, length}
use Rattle.std.proofs.Common.{get_or, set, replicate, length-set, get_or-set_same, get_or-set_other}
use Rattle.std.proofs.Common.{ext_get_or, eqb, eqb-true, eq-eqb}
use Rattle.std.proofs.lemmas.List.{length-replicate}
use Rattle.lines.proofs.Digits.{both}
use Rattle.columns.proofs.Laws.{look_in}
use Rattle.control.specs.words.Words.{reference_room}
use Rattle.graphs.specs.Walk.{among}
use Rattle.graphs.specs.Shape.{same, every, from_on}
use Rattle.graphs.proofs.Walking.{Distinct, among_neither, walk_distinct}
use Rattle.graphs.proofs.Pairs.{agree}
use Rattle.graphs.proofs.References.{number_in, number_there, same_true, same_itself}
use Rattle.links.specs.words.Columns.{at}
use Rattle.links.specs.code.Linked.{side_words, on}
use Rattle.walks.specs.code.Walked.{first, walked, numbers_from, numbers}
use Rattle.walks.proofs.Numbering.{has_number}

-- a word stays where its reference gets no number
number_stays : (k : ℕ) (ns w : List ℕ) (n v : ℕ) → among n ns ≡ false → get_or w n 0 ≡ v
    → get_or (numbers_from k ns w) n 0 ≡ v
unfolding numbers_from
number_stays k [] w n v h e = e
number_stays k (x ∷ ns) w n v h e =
    let (other, rest) = among_neither n x ns h in
    number_stays (suc k) ns (set w x (suc k)) n v rest (get_or-set_other w x n (suc k) 0 other ∙ e)

-- of distinct references each gets its number
number_given : (k : ℕ) (ns w : List ℕ) → Distinct ns → (i : ℕ) → i < length ns → get_or ns i 0 < length w
    → get_or (numbers_from k ns w) (get_or ns i 0) 0 ≡ suc (k + i)
unfolding numbers_from
number_given k [] w d i h inside = absurd (omega arith)
number_given k (x ∷ ns) w d zero h inside =
    rw (add-zero k)
    (number_stays (suc k) ns (set w x (suc k)) x (suc k) d.0 (get_or-set_same w x (suc k) 0 inside))
number_given k (x ∷ ns) w d (suc i) h inside =
    rw (add-suc k i, ← suc-add k i)
    (number_given (suc k) ns (set w x (suc k)) d.1 i (omega arith) (rw (length-set w x (suc k)) inside))

-- and has it in the column
number_at : (o : List ℕ) → Distinct o → (i : ℕ) → i < length o → get_or o i 0 < reference_room
    → at (numbers o) (get_or o i 0) ≡ suc i
number_at o d i h inside =
    let room : get_or o i 0 < length {A = ℕ} (replicate reference_room 0) =
    rw (length-replicate {A = ℕ} reference_room 0) inside in
    sym (look_in reference_room (numbers o) (get_or o i 0) inside)
    ∙ number_given 0 o (replicate reference_room 0) d i h room ∙ ap suc (zero-add i)

-- the numbers from k on, each at its place
from_on_length : (k n : ℕ) → length (from_on k n) ≡ n
unfolding from_on
from_on_length k zero = refl
from_on_length k (suc n) = ap suc (from_on_length (suc k) n)

from_on_at : (k n i : ℕ) → i < n → get_or (from_on k n) i 0 ≡ k + i
unfolding from_on
from_on_at k zero i h = absurd (omega arith)
from_on_at k (suc n) zero h = sym (add-zero k)
from_on_at k (suc n) (suc i) h = from_on_at (suc k) n i (omega arith) ∙ (suc-add k i ∙ sym (add-suc k i))

-- a test that every one of them passes, each passes, and the other way round
pub every_number : (t : ℕ → Bool) (k n : ℕ) → every t (from_on k n) ≡ true → (i : ℕ) → i < n → t (k + i) ≡ true
unfolding every from_on
every_number t k zero e i h = absurd (omega arith)
every_number t k (suc n) e zero h = rw (add-zero k) (both (t k) _ e).0
every_number t k (suc n) e (suc i) h =
    rw (add-suc k i, ← suc-add k i) (every_number t (suc k) n (both (t k) _ e).1 i (omega arith))

number_every : (t : ℕ → Bool) (k n : ℕ) → ((i : ℕ) → i < n → t (k + i) ≡ true) → every t (from_on k n) ≡ true
unfolding every from_on
number_every t k zero h = refl
number_every t k (suc n) h =
    let here : t k ≡ true = rw (add-zero k) at (h 0 (omega arith)) in
    rw here
    (number_every t (suc k) n (λ i l. rw (suc-add k i, ← add-suc k i) (h (suc i) (omega arith))))

-- each of n numbers has one more than itself
abbrev pub Ordered : List ℕ → ℕ → Bool
Ordered w n = every (λ k. eqb (at w k) (k + 1)) (from_on 0 n)

module _ (o : List ℕ) (d : Distinct o) (n : ℕ) (room : n ≤ reference_room) where
  -- where they do, each stands at its place
  placed : length o ≡ n → Ordered (numbers o) n ≡ true → (k : ℕ) → k < n → get_or o k 0 ≡ k
  placed many e k h =
      let word : at (numbers o) k ≡ k + 1 =
      rw (zero-add k) at (eqb-true (at (numbers o) (0 + k)) (0 + k + 1) (every_number _ 0 n e k h)) in
      let is = look_in reference_room (numbers o) k (omega arith) in
      let (inside, there) = number_there o k (has_number o k (omega arith) (λ z. omega arith)) in
      let given : at (numbers o) k ≡ suc (number_in o k) =
      rw there at (number_at o d (number_in o k) inside (rw there (omega arith))) in
      let number : number_in o k ≡ k = omega arith in
      rw number at there

  -- so does each of the numbers in order
  in_place : o ≡ from_on 0 n → (k : ℕ) → k < n → get_or o k 0 ≡ k
  in_place e k h = ap (λ (l : List ℕ). get_or l k 0) e ∙ from_on_at 0 n k h ∙ zero-add k

  -- so n references got numbers in order where they are the numbers below n
  pub order_tested : (eqb (length o) n && Ordered (numbers o) n) ≡ same o (from_on 0 n)
  order_tested = agree _ _ to from
    where
      to : (eqb (length o) n && Ordered (numbers o) n) ≡ true → same o (from_on 0 n) ≡ true
      to e =
          let (count, words) = both (eqb (length o) n) _ e in
          let many = eqb-true (length o) n count in
          let is : o ≡ from_on 0 n = ext_get_or 0 o (from_on 0 n) (many ∙ sym (from_on_length 0 n))
          (λ i h. placed many words i (omega arith) ∙ sym (from_on_at 0 n i (omega arith) ∙ zero-add i)) in
          rw is (same_itself (from_on 0 n))

      from : same o (from_on 0 n) ≡ true → (eqb (length o) n && Ordered (numbers o) n) ≡ true
      from e =
          let is = same_true o (from_on 0 n) e in
          let many : length o ≡ n = ap length is ∙ from_on_length 0 n in
          rw (eq-eqb (length o) n many)
          (number_every _ 0 n (λ k h. ordered is many k h))
        where
          ordered : o ≡ from_on 0 n → length o ≡ n → (k : ℕ) → k < n → eqb (at (numbers o) (0 + k)) (0 + k + 1) ≡ true
          ordered is many k h =
              let stands = in_place is k h in
              let word = rw stands at (number_at o d k (omega arith) (rw stands (omega arith))) in
              rw (zero-add k) (eq-eqb (at (numbers o) k) (k + 1) (word ∙ sym (add-one k)))

-- a walk gives each number once
pub walked_distinct : (ms w : List ℕ) → Distinct (walked ms w)
unfolding walked
walked_distinct ms w = walk_distinct (on w) side_words (first ms) [] tt
