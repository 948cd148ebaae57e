-- The end of a desk's line: the CR in front of the LF is no part of what the line says, and one anywhere else breaks it.
-- Assumes nothing.
use Rattle.std.proofs.Common.{Some, None, ℕ, ◌≤◌, ◌<◌, ◌+◌, ◌≡◌, refl, ap, ◌∙◌, Bool, true, false, List, []}
use Rattle.std.proofs.Common.{◌∷◌, ◌++◌, map, append-nil, arith, add-one, length, drop, get_or}
use Rattle.std.proofs.Common.{drop_of_length-le, eqb, ltb, drop-cons, eq-eqb, ne_eqb, ltb-true, ltb-false}
use Rattle.std.proofs.lemmas.List.{map-append}
use Rattle.std.proofs.Math.Option.{none}
use Rattle.lines.specs.Line.{digit, LF, Raw, full, open_ended, frame, characters}
use Rattle.lines.proofs.Digits.{Digits, one_more, Inline, none_inline, inline, frame_broken}
use Rattle.desk_lines.specs.DeskLine.{CR, small, without_CR, strict, desk_frame}
use Rattle.desk_lines.specs.code.Ends.{behind_feed, behind}
use Rattle.desk_lines.proofs.Capitals.{digit_CR, digits_inline}

-- what stands between a line's digits and its LF: nothing, or one CR
pub data Return : List ℕ → Type 0 where
  no_return : Return []
  one_return : Return (CR ∷ [])

-- it is the last of some characters alone that may go
pub without_seam : (ds : List ℕ) (x : ℕ) (ys : List ℕ) → without_CR (ds ++ x ∷ ys) ≡ ds ++ without_CR (x ∷ ys)
unfolding without_CR
without_seam [] x ys = refl
without_seam (c ∷ []) x ys = refl
without_seam (c ∷ d ∷ ds) x ys = ap (λ (l : List ℕ). c ∷ l) (without_seam (d ∷ ds) x ys)

-- digits keep all of them
digit_no_return : (c : ℕ) → digit (small c) < 16 → eqb c CR ≡ false
digit_no_return c h = ne_eqb c CR (λ e. let d : digit (small c) ≡ 16 = ap (λ (x : ℕ). digit (small x)) e ∙ digit_CR in omega arith)

pub digits_kept : (ds : List ℕ) → Digits (map small ds) → without_CR ds ≡ ds
unfolding without_CR
digits_kept [] t = refl
digits_kept (c ∷ []) (one_more h t) = simp (digit_no_return c h)
digits_kept (c ∷ d ∷ ds) (one_more h t) = ap (λ (l : List ℕ). c ∷ l) (digits_kept (d ∷ ds) t)

-- the strict spelling of a line of digits, however it ends
pub digits_strict : (ds rs : List ℕ) → Digits (map small ds) → Return rs → strict (full (ds ++ rs)) ≡ full (map small ds)
unfolding strict without_CR
digits_strict ds [] t no_return = rw (append-nil ds, digits_kept ds t)
digits_strict ds (x ∷ xs) t one_return = rw (without_seam ds CR [], append-nil ds)

-- such a line has no LF inside
inline_both : (ds es : List ℕ) → Inline ds → Inline es → Inline (ds ++ es)
inline_both [] es none_inline u = u
inline_both (c ∷ ds) es (inline h t) u = inline h (inline_both ds es t u)

return_inline : (rs : List ℕ) → Return rs → Inline rs
return_inline [] no_return = none_inline
return_inline (x ∷ xs) one_return = inline refl none_inline

pub ended_inline : (ds rs : List ℕ) → Digits (map small ds) → Return rs → Inline (ds ++ rs)
ended_inline ds rs t r = inline_both ds rs (digits_inline ds t) (return_inline rs r)

-- a character that stays where it stands
first_kept : (x : ℕ) (ys : List ℕ) → (x ≡ CR → ys ≡ [] → ⊥) → (zs : List ℕ) × (without_CR (x ∷ ys) ≡ x ∷ zs)
unfolding without_CR
first_kept x [] h = ([], simp (ne_eqb x CR (λ e. h e refl)))
first_kept x (y ∷ ys) h = (without_CR (y ∷ ys), refl)

-- a line in which one that is no digit stays is no line
pub desk_broken : (l : Raw) (ds : List ℕ) (x : ℕ) (ys : List ℕ) → characters l ≡ ds ++ x ∷ ys → 16 ≤ digit (small x)
    → (x ≡ CR → ys ≡ [] → ⊥) → desk_frame l ≡ none
unfolding desk_frame strict characters frame
desk_broken (open_ended cs) ds x ys e h k = refl
desk_broken (full cs) ds x ys e h k =
    let kept = first_kept x ys k in
    let spelled : map small (without_CR cs) ≡ map small ds ++ small x ∷ map small kept.0 =
    rw (e, without_seam ds x ys, kept.1, map-append) in
    frame_broken (full (map small (without_CR cs))) (map small ds) (small x) (map small kept.0) spelled h

-- where the next line begins, by what stands at a place of a text
module _ (s : List ℕ) (i : ℕ) where
  pub behind_nothing : length s ≤ i → behind i (drop i s) ≡ None
  unfolding behind
  behind_nothing h = rw (drop_of_length-le s h)

  pub behind_LF : i < length s → get_or s i 0 ≡ LF → behind i (drop i s) ≡ Some (i + 1)
  unfolding behind
  behind_LF h e = rw (drop-cons s i 0 h) (simp (eq-eqb _ LF e))

  pub behind_other : i < length s → (get_or s i 0 ≡ LF → ⊥) → (get_or s i 0 ≡ CR → ⊥) → behind i (drop i s) ≡ None
  unfolding behind
  behind_other h e k = rw (drop-cons s i 0 h) (simp (ne_eqb _ LF e, ne_eqb _ CR k))

  module _ (h : i < length s) (e : get_or s i 0 ≡ CR) where
    behind_CR : behind i (drop i s) ≡ behind_feed (i + 1) (drop (i + 1) s)
    unfolding behind
    behind_CR = rw (drop-cons s i 0 h, e, add-one)

    pub behind_CR_LF : i + 1 < length s → get_or s (i + 1) 0 ≡ LF → behind i (drop i s) ≡ Some (i + 2)
    unfolding behind_feed
    behind_CR_LF k q =
        let two : i + 1 + 1 ≡ i + 2 = omega arith in
        behind_CR ∙ rw (drop-cons s (i + 1) 0 k) (simp (eq-eqb _ LF q, two))

    pub behind_CR_alone : (i + 1 < length s → get_or s (i + 1) 0 ≡ LF → ⊥) → behind i (drop i s) ≡ None
    unfolding behind_feed
    behind_CR_alone other = behind_CR ∙ go (ltb (i + 1) (length s)) refl
      where
        go : (b : Bool) → ltb (i + 1) (length s) ≡ b → behind_feed (i + 1) (drop (i + 1) s) ≡ None
        go true b = let more = ltb-true (i + 1) (length s) b in rw (drop-cons s (i + 1) 0 more) (simp (ne_eqb _ LF (other more)))
        go false b = rw (drop_of_length-le s (ltb-false (i + 1) (length s) b))
