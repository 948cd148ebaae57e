-- A line of a table or a script is exactly one in the words of the request: what its strict spelling makes of it takes no more and
-- no less. Assumes nothing.
use Rattle.std.specs.Prelude.{ℕ, ◌≤◌, ◌<◌, ◌%◌, ◌≡◌, refl, Bool, true, false, List, [], ◌∷◌, ◌++◌, map}
use Rattle.std.specs.Prelude.{length, leb, ltb}
use Rattle.std.proofs.Common.{sym, ap, ◌∙◌, arith, le-leb, leb-true, leb-false, ltb-true, lt-ltb}
use Rattle.std.proofs.lemmas.List.{length-map}
use Rattle.std.proofs.Math.Option.{some}
use Rattle.lines.specs.Line.{Raw, full, open_ended, digit, bytes, frame}
use Rattle.lines.proofs.Digits.{Digits, no_more, one_more, pair_some, bytes_even}
use Rattle.lines.proofs.Laws.{frame_some}
use Rattle.desk_lines.specs.DeskLine.{small, strict, desk_frame}
use Rattle.desk_lines.proofs.Capitals as of
use Rattle.desk_lines.proofs.Ends.{Return, no_return, one_return, digits_strict}
use Rattle.desk_lines.proofs.Laws.{spelled}
use Rattle.respelling.specs.Worded.{Digit, decimal, letter, capital, Pairs, no_pair, pair_first}
use Rattle.respelling.specs.Worded.{End, by_LF, by_CR_LF, Worded, worded}

-- a digit by the words is one in small letters
counts : (c : ℕ) → true ≡ ltb (digit (small c)) 16 → digit (small c) < 16
counts c e = ltb-true (digit (small c)) 16 (sym e)

digit_counts : {c : ℕ} → Digit c → digit (small c) < 16
digit_counts {c} (decimal h k) = counts c (of.decimal c h k)
digit_counts {c} (letter h k) = counts c (sym (le-leb c 102 k) ∙ of.letter c h)
digit_counts {c} (capital h k) = counts c (sym (le-leb c 70 k) ∙ of.capital c h (omega arith))

-- and back, by where it stands
digit_worded : (c : ℕ) → digit (small c) < 16 → Digit c
digit_worded c h = by_48 (leb 48 c) refl
  where
    is : (b : Bool) → of.IsDigit c b → b ≡ true
    is b e = e ∙ lt-ltb (digit (small c)) 16 h

    never : {A : Type 0} → of.IsDigit c false → A
    never e = let z : false ≡ true = is false e in let y : ◌≡◌ {A = ℕ} 0 1 = cc in absurd (omega arith)

    by_65 : 57 < c → c < 97 → (b : Bool) → leb 65 c ≡ b → Digit c
    by_65 low high true e =
        let above = leb-true 65 c e in
        capital above (leb-true c 70 (is (leb c 70) (of.capital c above high)))
    by_65 low high false e = never (of.between_digits c low (leb-false 65 c e))

    by_97 : 57 < c → (b : Bool) → leb 97 c ≡ b → Digit c
    by_97 low true e =
        let above = leb-true 97 c e in
        letter above (leb-true c 102 (is (leb c 102) (of.letter c above)))
    by_97 low false e = by_65 low (leb-false 97 c e) (leb 65 c) refl

    by_57 : 48 ≤ c → (b : Bool) → leb c 57 ≡ b → Digit c
    by_57 low true e = decimal low (leb-true c 57 e)
    by_57 low false e = by_97 (leb-false c 57 e) (leb 97 c) refl

    by_48 : (b : Bool) → leb 48 c ≡ b → Digit c
    by_48 true e = by_57 (leb-true 48 c e) (leb c 57) refl
    by_48 false e = never (of.below_digits c (leb-false 48 c e))

-- pairs of them stand for bytes, and back
pairs_digits : (cs : List ℕ) → Pairs cs → Digits (map small cs) × (length cs % 2 ≡ 0)
pairs_digits [] no_pair = (no_more, refl)
pairs_digits (h ∷ l ∷ cs) (pair_first p q t) =
    let r = pairs_digits cs t in
    (one_more (digit_counts p) (one_more (digit_counts q) r.0), omega (arith, r.1))
pairs_digits (h ∷ []) x4 = elim x4 [ ]

pairs_worded : (cs bs : List ℕ) → bytes (map small cs) ≡ some bs → Pairs cs
unfolding bytes
pairs_worded [] bs e = no_pair
pairs_worded (h ∷ []) bs e = let z : ◌≡◌ {A = ℕ} 0 1 = cc in absurd (omega arith)
pairs_worded (h ∷ l ∷ cs) bs e =
    let r = pair_some (digit (small h)) (digit (small l)) (bytes (map small cs)) bs e in
    pair_first (digit_worded h r.0) (digit_worded l r.1) (pairs_worded cs r.2.0 r.2.1)

returned : (end : List ℕ) → End end → Return end
returned [] by_LF = no_return
returned (x ∷ xs) by_CR_LF = one_return

-- a line by the words has bytes
pub worded_read : (line : Raw) → Worded line → (bs : List ℕ) × (desk_frame line ≡ some bs)
unfolding desk_frame
worded_read line (worded {h} {l} {cs} {end} p q t e) =
    let ds = h ∷ l ∷ cs in
    let r = pairs_digits ds (pair_first p q t) in
    let b = bytes_even (map small ds) r.0 (rw (length-map ds small) r.1) in
    let spelled = digits_strict ds end r.0 (returned end e) in
    (b.0, ap frame spelled ∙ frame_some (map small ds) b.0 (omega arith) b.1)

-- and what has bytes is a line by the words
ended : (rs : List ℕ) → Return rs → End rs
ended [] no_return = by_LF
ended (x ∷ xs) one_return = by_CR_LF

at_least_two : (own rs : List ℕ) → 2 ≤ length own → Pairs own → End rs → Worded (full (own ++ rs))
at_least_two [] rs h t e = absurd (omega arith)
at_least_two (h ∷ l ∷ cs) rs n (pair_first p q t) e = worded p q t e
at_least_two (h ∷ []) rs n t e = elim t [ ]

pub read_worded : (line : Raw) (bs : List ℕ) → desk_frame line ≡ some bs → Worded line
unfolding desk_frame strict frame
read_worded (open_ended cs) bs e = let z : ◌≡◌ {A = ℕ} 0 1 = cc in absurd (omega arith)
read_worded (full cs) bs e =
    let s = spelled cs bs e in
    let two : 2 ≤ length s.own = omega (arith, s.counted, s.some_bytes) in
    rw s.whole (at_least_two s.own s.rs two (pairs_worded s.own bs s.stands) (ended s.rs s.return))
