-- What the words of the references are after one is put: that word is the value, and every other word of every
-- reference is as before. Word i of reference n is number 8n + i of the list, so that no two words share one.
-- Assumes nothing.
use Rattle.std.proofs.Common.{ℕ, ◌+◌, ◌*◌, ◌%◌, ◌<◌, ◌≡◌, refl, ◌∙◌, Bool, true, false, List, mod-eq_of_lt}
use Rattle.std.proofs.Common.{arith, get_or, set, length, length-set, get_or-set_same, get_or-set_other}
use Rattle.std.proofs.Common.{ltb, lt-ltb}
use Rattle.lines.specs.Line.{choose}
use Rattle.control.specs.words.Words.{reference_room, node, put}

-- as many words as the references of a run have
abbrev pub Whole : List ℕ → Type 0
Whole w = length w ≡ 65544

module _ (i : ℕ) (w : List ℕ) (n v : ℕ) where
  pub put_length : length (put i w n v) ≡ length w
  unfolding put
  put_length = go (ltb n reference_room)
    where
      go : (b : Bool) → length (choose b (set w (8 * n + i) (v % 65536)) w) ≡ length w
      go true = length-set w (8 * n + i) (v % 65536)
      go false = refl

  pub put_whole : Whole w → Whole (put i w n v)
  put_whole h = put_length ∙ h

  pub put_same : n < reference_room → i < 8 → Whole w → v < 65536 → node i (put i w n v) n ≡ v
  unfolding node put
  put_same h k l s =
      let there : 8 * n + i < length w = omega arith in
      simp (lt-ltb n reference_room h) (get_or-set_same w (8 * n + i) (v % 65536) 0 there ∙ mod-eq_of_lt s)

  pub put_other : (j m : ℕ) → (i ≡ j → n ≡ m → ⊥) → i < 8 → j < 8 → node j (put i w n v) m ≡ node j w m
  unfolding node put
  put_other j m other k l = go (ltb n reference_room) (ltb m reference_room)
    where
      go : (a b : Bool)
          → choose b (get_or (choose a (set w (8 * n + i) (v % 65536)) w) (8 * m + j) 0) 0
          ≡ choose b (get_or w (8 * m + j) 0) 0
      go true true = get_or-set_other w (8 * n + i) (8 * m + j) (v % 65536) 0
          (λ (e : 8 * m + j ≡ 8 * n + i). other (omega arith) (omega arith))
      go true false = refl
      go false true = refl
      go false false = refl
