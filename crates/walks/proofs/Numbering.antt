-- Numbers given to references one after the other: who has none has the word that there was, who has one has a word
-- that is not 0, and one reference more is one word more. Assumes nothing.
use Rattle.std.proofs.Common.{ℕ, suc, ◌+◌, ◌<◌, ◌≡◌, refl, ap, ◌∙◌, Bool, true, false, List, [], ◌∷◌, ◌++◌}
use Rattle.std.proofs.Common.{⊎_elim, arith, add-zero, add-one, length, get_or, set, replicate, length-set}
use Rattle.std.proofs.Common.{get_or-set_same, get_or-set_other, eqb, eqb-true}
use Rattle.std.proofs.lemmas.Bool.{eqb-false}
use Rattle.std.proofs.lemmas.List.{map-append, length-replicate, length-map, get_or-replicate}
use Rattle.tables.proofs.Kept.{sets_snoc}
use Rattle.control.specs.words.Words.{reference_room}
use Rattle.graphs.specs.Walk.{among}
use Rattle.graphs.proofs.Walking.{among_none, among_cases, among_neither}
use Rattle.links.specs.words.Columns.{at}
use Rattle.walks.specs.code.Walked.{numbers_from, numbers, laid, marks_by}

-- who is not among them keeps the word that there was
numbers_other : (k : ℕ) (ns w : List ℕ) (n : ℕ) → among n ns ≡ false → get_or (numbers_from k ns w) n 0 ≡ get_or w n 0
unfolding numbers_from
numbers_other k [] w n h = refl
numbers_other k (x ∷ ns) w n h =
    let (other, rest) = among_neither n x ns h in
    numbers_other (suc k) ns (set w x (suc k)) n rest ∙ get_or-set_other w x n (suc k) 0 other

-- a word that is put there is not 0
put_there : (w : List ℕ) (x k n : ℕ) → n < length w → n ≡ x → 0 < get_or (set w x (suc k)) n 0
put_there w x k n l e = rw (← e, get_or-set_same w n (suc k) 0 l) (omega arith)

-- and stays so
numbers_stay : (k : ℕ) (ns w : List ℕ) (n : ℕ) → n < length w → 0 < get_or w n 0
    → 0 < get_or (numbers_from k ns w) n 0
unfolding numbers_from
numbers_stay k [] w n l h = h
numbers_stay k (x ∷ ns) w n l h =
    numbers_stay (suc k) ns (set w x (suc k)) n (rw (length-set w x (suc k)) l) (go (eqb n x) refl)
  where
    go : (b : Bool) → eqb n x ≡ b → 0 < get_or (set w x (suc k)) n 0
    go true e = put_there w x k n l (eqb-true n x e)
    go false e = rw (get_or-set_other w x n (suc k) 0 (eqb-false n x e)) h

-- who is among them has a number
numbers_given : (k : ℕ) (ns w : List ℕ) (n : ℕ) → n < length w → among n ns ≡ true
    → 0 < get_or (numbers_from k ns w) n 0
unfolding numbers_from
numbers_given k [] w n l h = absurd (among_none n h)
numbers_given k (x ∷ ns) w n l h =
    let l' : n < length (set w x (suc k)) = rw (length-set w x (suc k)) l in
    ⊎_elim (λ e. numbers_stay (suc k) ns (set w x (suc k)) n l' (put_there w x k n l e))
    (λ i. numbers_given (suc k) ns (set w x (suc k)) n l' i) (among_cases n x ns h)

-- a reference has the word 0 where it has no number, and only there
pub unnumbered : (s : List ℕ) (n : ℕ) → n < reference_room → get_or (numbers s) n 0 ≡ 0 → among n s ≡ false
unnumbered s n l z = go (among n s) refl
  where
    go : (b : Bool) → among n s ≡ b → b ≡ false
    go true e =
        let inside : n < length {A = ℕ} (replicate reference_room 0) = rw (length-replicate {A = ℕ} reference_room 0) l in
        absurd (omega (arith, numbers_given 0 s (replicate reference_room 0) n inside e))
    go false e = refl

pub has_number : (s : List ℕ) (n : ℕ) → n < reference_room → (get_or (numbers s) n 0 ≡ 0 → ⊥) → among n s ≡ true
has_number s n l some_word = go (among n s) refl
  where
    go : (b : Bool) → among n s ≡ b → b ≡ true
    go true e = refl
    go false e =
        let blank = numbers_other 0 s (replicate reference_room 0) n e in
        absurd (some_word (blank ∙ get_or-replicate reference_room n 0 0 l))

-- one more gets the next number
numbers_more : (k : ℕ) (ns w : List ℕ) (n c : ℕ) → c ≡ k + length ns
    → set (numbers_from k ns w) n (suc c) ≡ numbers_from k (ns ++ (n ∷ [])) w
unfolding numbers_from
numbers_more k [] w n c e = ap (λ j. set w n (suc j)) (e ∙ add-zero k)
numbers_more k (x ∷ ns) w n c e = numbers_more (suc k) ns (set w x (suc k)) n c (omega arith)

pub next_number : (s : List ℕ) (n c : ℕ) → length s ≡ c → set (numbers s) n (c + 1) ≡ numbers (s ++ (n ∷ []))
next_number s n c e = rw add-one (numbers_more 0 s (replicate reference_room 0) n c (omega arith))

-- and the next label
pub next_label : (ms s : List ℕ) (n c : ℕ) → length s ≡ c
    → set (laid (marks_by ms s)) c (at ms n) ≡ laid (marks_by ms (s ++ (n ∷ [])))
next_label ms s n c e =
    rw (map-append (at ms) s (n ∷ []))
    (sets_snoc (replicate reference_room 0) 0 (marks_by ms s) (at ms n) c (omega (arith, length-map s (at ms))))
