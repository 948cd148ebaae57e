-- What the functions of `plans::laying` leave, by how they return: a word put or passed over, a term's own
-- words, what its subterms are told, its turn, and the turns of all terms. Assumes nothing.
use Rattle.std.proofs.Common.{ℕ, suc, ◌+◌, ◌*◌, ◌%◌, min, ◌≤◌, ◌<◌, ◌≡◌, ap, ◌∙◌, List, arith, add-one}
use Rattle.std.proofs.Common.{get_or, set, lt-ltb, le-ltb, eq-eqb, ne_eqb}
use Rattle.frames.specs.TableFrame.{term_room, definition_room}
use Rattle.kinds.specs.Kind as Kind
use Rattle.kinds.specs.Kind.{subterms}
use Rattle.kinds.proofs.KindLaws.{subterms_most}
use Rattle.columns.specs.words.Columns.{look}
use Rattle.plans.specs.words.Plan.{word}
use Rattle.plans.specs.code.Laid.{put, operand_of, second_of, own_words, through, inward, told, laid}
use Rattle.plans.specs.code.Laid.{turns, laid_out}
use Rattle.plans.proofs.Laws.{word_in}

module _ (k t v : ℕ) (w : List ℕ) where
  pub put_in : t < term_room → set w (4 * t + k) v ≡ put k t v w
  unfolding put
  put_in h = simp (lt-ltb t term_room h)

  pub put_out : term_room ≤ t → w ≡ put k t v w
  unfolding put
  put_out h = simp (le-ltb t term_room h)

-- the operand
module _ (k p : ℕ) (rs : List ℕ) where
  pub operand_prefix : k ≡ Kind.prefix → p % 65536 ≡ operand_of k p rs
  unfolding operand_of
  operand_prefix e = simp (eq-eqb k Kind.prefix e)

  pub operand_call : k ≡ Kind.call → look definition_room rs p ≡ operand_of k p rs
  unfolding operand_of
  operand_call e = rw e

-- the second subterm, where there are n
module _ (k i : ℕ) (xs : List ℕ) (n : ℕ) (count : n ≡ subterms k) where
  pub second_two : n ≡ 2 → look term_room xs (i + 1) ≡ second_of k i xs
  unfolding second_of
  second_two e = rw (add-one i, ← count, e)

  pub second_none : (n ≡ 2 → ⊥) → 0 ≡ second_of k i xs
  unfolding second_of
  second_none h = rw (← count) (simp (ne_eqb n 2 h))

-- the sequence around the subterms
module _ (k o : ℕ) where
  pub inward_sequence : (i : ℕ) → k ≡ Kind.sequence → i + 1 ≡ inward k i o
  unfolding inward
  inward_sequence i e = rw (e, add-one i)

  pub inward_others : (i : ℕ) → (k ≡ Kind.sequence → ⊥) → through k o ≡ inward k i o
  unfolding inward
  inward_others i h = simp (ne_eqb k Kind.sequence h)

-- a term's own words
pub own_put : (k v s i : ℕ) (w x y z : List ℕ) → x ≡ put 0 i k w → y ≡ put 1 i v x → z ≡ put 2 i s y
    → z ≡ own_words k v s i w
unfolding own_words
own_put k v s i w x y z kind operand second = second ∙ ap (put 2 i s) (operand ∙ ap (put 1 i v) kind)

-- a term's turn, by how many subterms it has
module _ (k v s i : ℕ) (w x : List ℕ) (n : ℕ) (own : x ≡ own_words k v s i w) (count : n ≡ subterms k) where
  pub laid_none : n ≡ 0 → x ≡ laid k v s i w
  unfolding laid told
  laid_none e = rw (← count, e) own

  module _ (a : ℕ) (y : List ℕ) (room : i < term_room) (first : a ≡ inward k i (get_or w (4 * i + 3) 0))
      (tells : y ≡ put 3 (i + 1) a x) where
    first_put : y ≡ put 3 (suc i) (inward k i (word 3 w i)) (own_words k v s i w)
    first_put = rw (tells, add-one i, first, word_in 3 w i room, own)

    pub laid_one : n ≡ 1 → y ≡ laid k v s i w
    unfolding laid told
    laid_one e = rw (← count, e) first_put

    pub laid_two : (b : ℕ) (z : List ℕ) → b ≡ through k (get_or w (4 * i + 3) 0) → z ≡ put 3 s b y
        → (n ≡ 0 → ⊥) → (n ≡ 1 → ⊥) → z ≡ laid k v s i w
    unfolding laid told
    laid_two b z other tells_too more most =
        let two : n ≡ 2 = omega (arith, subterms_most k) in
        rw (← count, two, tells_too, other, word_in 3 w i room, first_put)

-- the turns, one more and all of them
module _ (ks ps xs rs : List ℕ) where
  pub turn_more : (i v s : ℕ) (w x : List ℕ) → v ≡ operand_of (get_or ks i 0) (get_or ps i 0) rs
      → s ≡ second_of (get_or ks i 0) i xs → w ≡ turns i ks ps xs rs → x ≡ laid (get_or ks i 0) v s i w
      → x ≡ turns (i + 1) ks ps xs rs
  unfolding turns
  turn_more i v s w x operand second before on = rw (add-one i, on, operand, second, before)

  pub turns_all : (n t : ℕ) → t ≡ min n term_room → turns t ks ps xs rs ≡ laid_out n ks ps xs rs
  unfolding laid_out
  turns_all n t all = ap (λ (m : ℕ). turns m ks ps xs rs) all
