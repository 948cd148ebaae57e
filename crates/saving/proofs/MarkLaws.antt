-- The marks that are taken from a run's nodes, one after the other: a reference more is a mark more behind
-- those in front, which is one word more of the column. Assumes nothing.
use Rattle.std.proofs.Common.{ℕ, zero, suc, ◌+◌, ◌*◌, ◌<◌, ◌≡◌, refl, sym, ap, ◌∙◌, List, [], ◌∷◌, ◌++◌}
use Rattle.std.proofs.Common.{add-zero, arith, length, get_or, set, replicate, lt-ltb}
use Rattle.tables.proofs.Kept.{sets_snoc}
use Rattle.control.specs.words.Words.{reference_room, node}
use Rattle.control.specs.words.Control.{label}
use Rattle.walks.specs.code.Walked.{laid}
use Rattle.saving.specs.code.Saving.{marks_from}

-- as many marks as references
pub marks_length : (w : List ℕ) (k n : ℕ) → length (marks_from w k n) ≡ n
unfolding marks_from
marks_length w k zero = refl
marks_length w k (suc n) = ap suc (marks_length w (suc k) n)

-- before the first mark the column is blank
pub none_taken : (w : List ℕ) → replicate reference_room 0 ≡ laid (marks_from w 0 0)
unfolding marks_from
none_taken w = refl

-- one more reference
marks_more : (w : List ℕ) (k n : ℕ) → marks_from w k (suc n) ≡ marks_from w k n ++ (label w (k + n) ∷ [])
unfolding marks_from
marks_more w k zero = ap (λ (m : ℕ). label w m ∷ []) (sym (add-zero k))
marks_more w k (suc n) =
    let next : suc k + n ≡ k + suc n = omega arith in
    ap (λ (l : List ℕ). label w k ∷ l) (marks_more w (suc k) n ∙ rw next)

-- a reference in range has the word of its label
label_inside : (w : List ℕ) (n : ℕ) → n < reference_room → label w n ≡ get_or w (8 * n + 0) 0
unfolding node
label_inside w n h = rw (lt-ltb n reference_room h)

-- the next mark put behind those in front
pub mark_taken : (w ms : List ℕ) (n : ℕ) → n < reference_room → ms ≡ laid (marks_from w 0 n)
    → set ms n (get_or w (8 * n + 0) 0) ≡ laid (marks_from w 0 (n + 1))
mark_taken w ms n h front =
    let next : n + 1 ≡ suc n = omega arith in
    let here : 0 + n ≡ n = omega arith in
    rw (next, marks_more w 0 n, here, label_inside w n h, front)
    (sets_snoc (replicate reference_room 0) 0 (marks_from w 0 n) _ n (omega (arith, marks_length w 0 n)))
