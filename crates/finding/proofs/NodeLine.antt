-- The mark of a node by its line: each test on the bytes of the line is one of the definition's, and behind them the mark is found
-- by the line's path. Assumes nothing.
use Rattle.std.proofs.Common.{◌≡◌, ℕ, ◌/◌, true, false, ◌&&◌, eqb, List, [], ◌∷◌, length, get_or, drop, sym}
use Rattle.std.proofs.Common.{refl, arith, length-drop, drop_of_length-le, drop-cons, eq-eqb, ne_eqb}
use Rattle.std.proofs.Math.Bool.{and-false}
use Rattle.lines.specs.Line.{choose, number_at}
use Rattle.numbers.specs.code.Numbers.{read_bytes, byte_at}
use Rattle.numbers.proofs.Laws.{read_length}
use Rattle.columns.specs.words.Columns.{look}
use Rattle.places.specs.Place.{left_path}
use Rattle.marks.specs.words.Mark.{start_mark}
use Rattle.marks.specs.code.Followed.{find}
use Rattle.graphs.specs.Shape.{same}
use Rattle.graphs.specs.Parsed.{place_at}
use Rattle.finding.specs.code.Found.{start_here, mark_of}
use Rattle.finding.specs.words.Node.{label_at}

-- a list of another length is not the path 0
same_one : (l : List ℕ) → (length l ≡ 1 → ⊥) → same l left_path ≡ false
unfolding same
same_one [] h = refl
same_one (x ∷ []) h = absurd (h refl)
same_one (x ∷ y ∷ l) h = and-false (eqb x 0)

-- the bytes of characters
module _ (cs : List ℕ) where
  abbrev bs : List ℕ
  bs = read_bytes cs

  -- the mark of node 0
  abbrev start : ℕ
  start = start_here (place_at bs)

  pub start_length : (length cs / 2 ≡ 6 → ⊥) → 0 ≡ start
  start_length h =
      let other = same_one (drop 5 bs) (λ q. h (omega (arith, read_length cs, length-drop 5 bs, q))) in
      simp (other, and-false (eqb (get_or bs 3 0) 0))

  module _ {k : ℕ} (definition : k ≡ byte_at cs 3) where
    pub start_definition : (k ≡ 0 → ⊥) → 0 ≡ start
    start_definition h = simp (sym definition, ne_eqb k 0 h)

    module _ (long : length cs / 2 ≡ 6) (first : k ≡ 0) {x : ℕ} (digit : x ≡ byte_at cs 5) where
      start_by : start ≡ choose (eqb x 0 && true) start_mark 0
      unfolding same
      start_by =
          let six : length bs ≡ 6 = omega (arith, read_length cs) in
          let path = drop-cons bs 5 0 (omega arith) in
          let ends = drop_of_length-le bs {i = 6} (omega arith) in
          simp (sym definition, eq-eqb k 0 first, path, ends, sym digit)

      pub start_path : (x ≡ 0 → ⊥) → 0 ≡ start
      start_path h = rw start_by (simp (ne_eqb x 0 h))

      pub start_fits : x ≡ 0 → start_mark ≡ start
      start_fits h = rw start_by (simp (eq-eqb x 0 h))

  -- the mark of node k
  module _ (ks xs rs : List ℕ) (k : ℕ) {i : ℕ} (number : i ≡ number_at 1 bs) where
    pub mark_other : (i ≡ k → ⊥) → 0 ≡ mark_of ks xs rs k (label_at bs)
    unfolding mark_of
    mark_other h = rw (← number) (simp (ne_eqb i k h))

    module _ (own : i ≡ k) where
      pub mark_start : k ≡ 0 → {m : ℕ} → m ≡ start → m ≡ mark_of ks xs rs k (label_at bs)
      unfolding mark_of
      mark_start z e = rw (← number) (simp (eq-eqb i k own, eq-eqb k 0 z) e)

      pub mark_found : (k ≡ 0 → ⊥) → {d t m : ℕ} → d ≡ byte_at cs 3 → t ≡ look 64 rs d
          → m ≡ find ks xs t (drop 5 bs) → m ≡ mark_of ks xs rs k (label_at bs)
      unfolding mark_of
      mark_found z {d} {t} {m} p q e =
          rw (← number) (simp (eq-eqb i k own, ne_eqb k 0 z, sym p, sym q) e)
