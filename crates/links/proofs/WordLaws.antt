-- What is put where a word is in range, and what a word tells of its place: one that is not 0 is in range. Assumes nothing.
use Rattle.std.proofs.Common.{ℕ, ◌%◌, ◌<◌, ◌≡◌, refl, sym, ◌∙◌, Bool, true, false, List, set, ltb, ltb-true, ltb-false}
use Rattle.std.proofs.Common.{lt-ltb}
use Rattle.columns.specs.words.Columns.{look}
use Rattle.columns.proofs.Laws.{look_out}
use Rattle.links.specs.words.Columns.{put}

pub put_in : (n : ℕ) (w : List ℕ) (i v : ℕ) → i < n → set w i (v % 65536) ≡ put n w i v
unfolding put
put_in n w i v h = simp (lt-ltb i n h)

-- a word that is not 0 is in range
pub look_inside : (n : ℕ) (xs : List ℕ) (i v : ℕ) → v ≡ look n xs i → (v ≡ 0 → ⊥) → i < n
look_inside n xs i v e some_word = go (ltb i n) refl
  where
    go : (b : Bool) → ltb i n ≡ b → i < n
    go true h = ltb-true i n h
    go false h = absurd (some_word (e ∙ sym (look_out n xs i (ltb-false i n h))))
