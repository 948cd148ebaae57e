-- What a column has at a number: its word in range, and 0 out of it. Assumes nothing.
use Rattle.std.proofs.Common.{◌≡◌, refl, sym, ℕ, ◌≤◌, ◌<◌, Bool, true, false, List, length, get_or, ltb, arith}
use Rattle.std.proofs.Common.{lt-ltb, le-ltb, ltb-false}
use Rattle.std.proofs.lemmas.List.{get_or_past}
use Rattle.lines.specs.Line.{choose}
use Rattle.columns.specs.words.Columns.{look}

module _ (n : ℕ) (xs : List ℕ) (i : ℕ) where
  pub look_in : i < n → get_or xs i 0 ≡ look n xs i
  unfolding look
  look_in h = simp (lt-ltb i n h)

  pub look_out : n ≤ i → 0 ≡ look n xs i
  unfolding look
  look_out h = simp (le-ltb i n h)

  -- a list that is as long has nothing past the end
  pub look_whole : length xs ≡ n → look n xs i ≡ get_or xs i 0
  unfolding look
  look_whole e = go (ltb i n) refl
    where
      go : (b : Bool) → ltb i n ≡ b → choose b (get_or xs i 0) 0 ≡ get_or xs i 0
      go true h = refl
      go false h = sym (get_or_past xs i 0 (omega (arith, ltb-false i n h)))
