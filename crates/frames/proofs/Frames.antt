-- What frame characters stand for: their bytes have a tag, the tag has a shape, and the shape has a count of
-- bytes, which fits or does not. Assumes nothing.
use Rattle.std.proofs.Common.{ℕ, ◌≤◌, ◌<◌, ◌-◌, ◌+◌, ◌*◌, ◌/◌, ◌≡◌, Bool, true, false, List, length, take}
use Rattle.std.proofs.Common.{drop, get_or, eqb, leb, refl, sym, ap, ◌∙◌, arith, length-drop, le-leb}
use Rattle.std.proofs.Common.{leb-true, eq-eqb, ne_eqb}
use Rattle.std.proofs.lemmas.Bool.{lt-leb}
use Rattle.std.proofs.Math.Seq.{take_all}
use Rattle.lines.specs.Line.{choose, number}
use Rattle.numbers.specs.code.Numbers.{read_bytes, byte_at, number_of}
use Rattle.numbers.proofs.Laws.{read_length, read_drop, number_read}
use Rattle.kinds.specs.Kind.{known, payload_bytes}
use Rattle.frames.specs.TableFrame.{frame_of}
use Rattle.frames.specs.declared.Frame.{Frame}
use Rattle.frames.specs.declared.Frame.TheVariants.{Opening, Definition, Term, Closing, Wrong}

-- what bytes with the tag t are: f where there are n of them, and wrong where not
pub record Shape (bs : List ℕ) (t n : ℕ) (f : Frame) : Type 0 where
  pub by_count : get_or bs 0 0 ≡ t → choose (eqb (length bs) n) f Wrong ≡ frame_of bs

module _ (bs : List ℕ) where
  pub opening : {ed dd ee : ℕ} → ed ≡ get_or bs 1 0 → dd ≡ get_or bs 2 0 → ee ≡ get_or bs 3 0
      → Shape bs 0x10 4 (Opening ed dd ee)
  unfolding frame_of
  opening p q r = record { by_count = λ h. rw (p, q, r, h) }

  pub definition : {n : ℕ} → n ≡ get_or bs 1 0 → Shape bs 0x11 2 (Definition n)
  unfolding frame_of
  definition p = record { by_count = λ h. rw (p, h) }

  pub closing : {n : ℕ} → n ≡ number (drop 1 bs) → Shape bs 0x1f 3 (Closing n)
  unfolding frame_of
  closing p = record { by_count = λ h. rw (p, h) }

  module _ {k : ℕ} (kind : k ≡ get_or bs 1 0) where
    pub term : {w p : ℕ} → 1 ≤ k → k ≤ 8 → w ≡ payload_bytes k → p ≡ number (drop 2 bs)
        → Shape bs 0x12 (2 + w) (Term k p)
    unfolding frame_of known
    term h j e p =
        let from = rw kind at (le-leb 1 k h) in
        let to = rw kind at (le-leb k 8 j) in
        record { by_count = λ t. simp (e, p, kind, t, from, to) }

    -- a kind that the table of kinds does not have
    pub no_kind : get_or bs 0 0 ≡ 0x12 → (1 ≤ k → k ≤ 8 → ⊥) → Wrong ≡ frame_of bs
    unfolding frame_of known
    no_kind t h = go (leb 1 k) refl
      where
        go : (b : Bool) → leb 1 k ≡ b → Wrong ≡ frame_of bs
        go false e = simp (t, rw kind at e)
        go true e =
            let above : 8 < k = omega (arith, h (leb-true 1 k e)) in
            simp (t, rw kind at e, rw kind at (lt-leb k 8 above))

  pub no_tag : {t : ℕ} → t ≡ get_or bs 0 0 → (t ≡ 0x12 → ⊥) → (t ≡ 0x11 → ⊥) → (t ≡ 0x1f → ⊥) → (t ≡ 0x10 → ⊥)
      → Wrong ≡ frame_of bs
  unfolding frame_of
  no_tag {t} e p q r s = simp (sym e, ne_eqb t 0x12 p, ne_eqb t 0x11 q, ne_eqb t 0x1f r, ne_eqb t 0x10 s)

-- the bytes of characters
module _ (cs : List ℕ) where
  abbrev bs : List ℕ
  bs = read_bytes cs

  pub fits : {t n : ℕ} {f : Frame} → Shape bs t n f → byte_at cs 0 ≡ t → length cs / 2 ≡ n → f ≡ frame_of bs
  fits {t} {n} {f} s tag h = rw (eq-eqb (length bs) n (read_length cs ∙ h)) at (s.by_count tag)

  pub misfits : {t n : ℕ} {f : Frame} → Shape bs t n f → byte_at cs 0 ≡ t → (length cs / 2 ≡ n → ⊥)
      → Wrong ≡ frame_of bs
  misfits {t} {n} {f} s tag h = rw (ne_eqb (length bs) n (λ q. h (sym (read_length cs) ∙ q))) at (s.by_count tag)

  pub number_behind : (k : ℕ) {n : ℕ} → n ≡ number_of 0 (take (length cs - 2 * k) (drop (2 * k) cs))
      → length cs / 2 - k ≤ 8 → n ≡ number (drop k bs)
  number_behind k e h =
      let whole = take_all (length cs - 2 * k) (drop (2 * k) cs) (omega (arith, length-drop (2 * k) cs)) in
      let eight : length (drop (2 * k) cs) / 2 ≤ 8 = omega (arith, length-drop (2 * k) cs) in
      e ∙ rw whole (number_read (drop (2 * k) cs) eight ∙ ap number (read_drop cs k))
