-- The mark at a path, a digit at a time: what is found from a term on by the digits from byte i on is what is found from the next
-- term on by those behind it. Assumes nothing.
use Rattle.std.proofs.Common.{◌≡◌, ℕ, suc, ◌+◌, ◌/◌, ◌<◌, ◌≤◌, Bool, true, false, eqb, List, length}
use Rattle.std.proofs.Common.{drop, sym, arith, drop_of_length-le, drop-cons, eq-eqb, ne_eqb, eqb-true}
use Rattle.std.proofs.lemmas.Bool.{eqb-false}
use Rattle.lines.specs.Line.{choose}
use Rattle.numbers.specs.code.Numbers.{read_bytes, byte_at}
use Rattle.numbers.proofs.Laws.{read_length}
use Rattle.kinds.specs.Kind.{subterms}
use Rattle.columns.specs.words.Columns.{look}
use Rattle.marks.specs.words.Mark.{event_mark}
use Rattle.marks.specs.code.Followed.{own_here, event_end, find}

-- the bytes of characters, and columns of a table
module _ (cs ks xs : List ℕ) where
  abbrev bs : List ℕ
  bs = read_bytes cs

  -- at the path's end
  pub found_end : (t i : ℕ) → length cs / 2 ≤ i → own_here t ≡ find ks xs t (drop i bs)
  unfolding find
  found_end t i h = rw (drop_of_length-le bs {i = i} (omega (arith, read_length cs)))

  -- one digit more, from a term with n subterms
  module _ (t i : ℕ) (more : i < length cs / 2) {x n : ℕ} (digit : x ≡ byte_at cs i)
      (count : n ≡ subterms (look 1024 ks t)) where
    abbrev behind : List ℕ
    behind = drop (suc i) bs

    step : find ks xs t (drop i bs)
        ≡ choose (eqb n 0) 0
        (choose (eqb x 1) (choose (eqb n 2) (find ks xs (suc t) behind) (event_end t behind))
        (choose (eqb x 2) (find ks xs (choose (eqb n 2) (look 1024 xs (suc t)) (suc t)) behind) 0))
    unfolding find
    step = rw (drop-cons bs i 0 (omega (arith, read_length cs)), ← count, ← digit)

    pub found_leaf : n ≡ 0 → 0 ≡ find ks xs t (drop i bs)
    found_leaf h = rw step (simp (eq-eqb n 0 h))

    module _ (inner : n ≡ 0 → ⊥) where
      module _ (one : x ≡ 1) where
        pub found_first : n ≡ 2 → find ks xs t (drop i bs) ≡ find ks xs (t + 1) (drop (i + 1) bs)
        found_first h =
            let u : t + 1 ≡ suc t = omega arith in
            let j : i + 1 ≡ suc i = omega arith in
            rw (u, j, step) (simp (ne_eqb n 0 inner, eq-eqb x 1 one, eq-eqb n 2 h))

        module _ (prefix : n ≡ 2 → ⊥) where
          event_is : find ks xs t (drop i bs) ≡ event_end t behind
          event_is = rw step (simp (ne_eqb n 0 inner, eq-eqb x 1 one, ne_eqb n 2 prefix))

          pub found_event : {b : Bool} {m : ℕ} → m ≡ choose b (event_mark t) 0
              → b ≡ eqb (i + 1) (length cs / 2) → m ≡ find ks xs t (drop i bs)
          unfolding event_end
          found_event {b} {m} e q = rw event_is (go b e q)
            where
              go : (b : Bool) → m ≡ choose b (event_mark t) 0 → b ≡ eqb (i + 1) (length cs / 2)
                  → m ≡ event_end t behind
              go true e q =
                  let l = eqb-true (i + 1) (length cs / 2) (sym q) in
                  rw (drop_of_length-le bs {i = suc i} (omega (arith, read_length cs, l))) e
              go false e q =
                  let l = eqb-false (i + 1) (length cs / 2) (sym q) in
                  rw (drop-cons bs (suc i) 0 (omega (arith, read_length cs, l, more))) e

      module _ (other : x ≡ 1 → ⊥) where
        pub found_astray : (x ≡ 2 → ⊥) → 0 ≡ find ks xs t (drop i bs)
        found_astray h = rw step (simp (ne_eqb n 0 inner, ne_eqb x 1 other, ne_eqb x 2 h))

        pub found_last : x ≡ 2 → {u : ℕ} → u ≡ choose (eqb n 2) (look 1024 xs (t + 1)) (t + 1)
            → find ks xs t (drop i bs) ≡ find ks xs u (drop (i + 1) bs)
        found_last h e =
            let v : t + 1 ≡ suc t = omega arith in
            let j : i + 1 ≡ suc i = omega arith in
            rw (e, v, j, step) (simp (ne_eqb n 0 inner, ne_eqb x 1 other, eq-eqb x 2 h))
