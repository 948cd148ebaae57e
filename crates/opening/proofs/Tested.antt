-- What the tests on a line's characters make of its frame: the first byte and the length tell whether the frame is the one
-- that is due. Assumes nothing.
use Rattle.std.specs.Prelude.{ℕ, ◌/◌, true, false, List, length, get_or, eqb, ◌≡◌}
use Rattle.std.proofs.Common.{sym, ◌∙◌, eq-eqb, ne_eqb}
use Rattle.std.proofs.Math.Bool.{and-false}
use Rattle.lines.specs.Line.{number_at}
use Rattle.numbers.specs.code.Numbers.{read_bytes, byte_at}
use Rattle.numbers.proofs.Laws.{read_length}
use Rattle.graphs.specs.Parsed.{opening, formed, frame_of, the_last, refusal, first_refusal}
use Rattle.opening.proofs.Dues.{last_is, opening_is, no_last, no_opening}

-- the bytes of characters
module _ (cs : List ℕ) where
  abbrev bs : List ℕ
  bs = read_bytes cs

  -- a first byte, or a length, that is not the frame's
  pub other_tag : (t n : ℕ) {b : ℕ} → b ≡ byte_at cs 0 → (b ≡ t → ⊥) → formed t n bs ≡ false
  other_tag t n {b} e h = simp (sym e, ne_eqb b t h)

  pub other_count : (t n : ℕ) → (length bs ≡ n → ⊥) → formed t n bs ≡ false
  other_count t n h = simp (ne_eqb (length bs) n h, and-false (eqb (get_or bs 0 0) t))

  pub right : (t n : ℕ) {b : ℕ} → b ≡ byte_at cs 0 → b ≡ t → length bs ≡ n → formed t n bs ≡ true
  right t n {b} e h l = simp (sym e, eq-eqb b t h, eq-eqb (length bs) n l)

  -- where the last line is due
  pub last_length : (length cs / 2 ≡ 1 → ⊥) → 2 ≡ refusal 0 0 the_last (frame_of bs)
  last_length h = sym (no_last bs 0 0 (other_count 0x3f 1 (λ q. h (sym (read_length cs) ∙ q))))

  pub last_tag : {b : ℕ} → b ≡ byte_at cs 0 → (b ≡ 0x3f → ⊥) → 2 ≡ refusal 0 0 the_last (frame_of bs)
  last_tag first h = sym (no_last bs 0 0 (other_tag 0x3f 1 first h))

  pub last_fits : {b : ℕ} → b ≡ byte_at cs 0 → length cs / 2 ≡ 1 → b ≡ 0x3f → 0 ≡ refusal 0 0 the_last (frame_of bs)
  unfolding refusal
  last_fits first l h = rw (last_is bs (right 0x3f 1 first h (read_length cs ∙ l)))

  -- line 1
  pub opening_length : (length cs / 2 ≡ 8 → ⊥) → 2 ≡ first_refusal (frame_of bs)
  opening_length h =
      sym (no_opening bs (other_count 0x30 8 (λ q. h (sym (read_length cs) ∙ q))))

  pub opening_tag : {b : ℕ} → b ≡ byte_at cs 0 → (b ≡ 0x30 → ⊥) → 2 ≡ first_refusal (frame_of bs)
  opening_tag first h = sym (no_opening bs (other_tag 0x30 8 first h))

  module _ (long : length cs / 2 ≡ 8) {b e n a s : ℕ} (first : b ≡ byte_at cs 0) (tagged : b ≡ 0x30)
      (edition : e ≡ byte_at cs 1) (nodes : n ≡ number_at 2 bs) (arcs : a ≡ number_at 4 bs)
      (meetings : s ≡ number_at 6 bs) where
    pub opening_read : frame_of bs ≡ opening e n a s
    opening_read =
        opening_is bs (right 0x30 8 first tagged (read_length cs ∙ long)) ∙ rw (edition, nodes, arcs, meetings)
