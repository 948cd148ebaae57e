-- The listing's lines, put one part behind another. A byte in front of a line makes a longer line, so a step's and a status's
-- line go by their bytes. A copied text is put where all its characters are, or where the slice has no room for more of
-- them. Assumes nothing.
use Rattle.std.proofs.Common.{ℕ, zero, suc, ◌+◌, ◌-◌, ◌≤◌, ◌<◌, min, ◌≡◌, refl, sym, ◌∙◌, List, [], ◌∷◌, append_assoc}
use Rattle.std.proofs.Common.{length, set, take, arith, length-set, length-take-le, take-take, drop-drop}
use Rattle.std.proofs.lemmas.List.Edits.{sets, sets-eq}
use borrow.Rule.Slice.PartMut.{put_mid}
use Rattle.std.proofs.Math.Seq.{set_out}
use Rattle.lines.specs.Line.{hex, text, LF, two}
use Rattle.spelling.specs.words.Puts.{Puts}
use Rattle.spelling.proofs.Putting.{puts_then}
use Rattle.telling.specs.ListingFrame.{refusal_frame, alone}

-- a byte in front of a line
pub byte_first : {a b c : ℕ} {s t u : List ℕ} (x : ℕ) (bs : List ℕ) → Puts a (hex (x ∷ [])) s t b
    → Puts b (text (bs ∷ [])) t u c
    → Puts a (text ((x ∷ bs) ∷ [])) s u c
unfolding hex text
byte_first x bs p q = puts_then p q

-- a refusal's line
pub refusal_spelt : {a b c d e : ℕ} {s t u v w : List ℕ} (r n : ℕ) → Puts a (hex (0x4e ∷ [])) s t b
    → Puts b (hex (r ∷ [])) t u c
    → Puts c (hex (two n)) u v d
    → Puts d (LF ∷ []) v w e
    → Puts a (alone r n) s w e
unfolding hex text two refusal_frame
refusal_spelt r n p q o l = puts_then (puts_then (puts_then p q) o) l

-- behind the last character, or past the end of a slice, nothing is set
sets_none : (t : List ℕ) (b : ℕ) (ys : List ℕ) → min (b + length ys) (length t) ≤ b → sets t b ys ≡ t
sets_none t b [] h = refl
sets_none t b (y ∷ ys) h =
    let past : length t ≤ b = omega arith in
    rw (set_out t b y past) (sets_none t (suc b) ys (omega arith))

-- so characters may be cut where the slice goes no further
sets_room : (t : List ℕ) (b k : ℕ) (ys : List ℕ) → min (b + length ys) (length t) ≤ b + k
    → sets t b (take k ys) ≡ sets t b ys
sets_room t b zero ys h = sym (sets_none t b ys (omega arith))
sets_room t b (suc k) [] h = refl
sets_room t b (suc k) (y ∷ ys) h = sets_room (set t b y) (suc b) k ys (omega (arith, length-set t b y))

-- n characters are put, as far as the slice goes
module _ (cs : List ℕ) {t : List ℕ} (a n : ℕ) (have : n ≤ length cs) where
  set_is_put : {u : List ℕ} → u ≡ sets t a (take n cs) → Puts a (take n cs) t u (a + n)
  set_is_put e = let all : length (take n cs) ≡ n = length-take-le n cs have in record { ends = omega arith; stands = e }

  pub copy_put : {ys : List ℕ} (r : ℕ) → a < r → r ≡ min (a + n) (length t) → ys ≡ take (r - a) cs
      → Puts a (take n cs) t (put_mid a (r - a) t ys) (a + n)
  copy_put {ys} r h e f =
      let many : length ys ≡ r - a = rw f (length-take-le (r - a) cs (omega arith)) in
      let behind : r ≡ a + length ys = omega arith in
      let cut : take (r - a) (take n cs) ≡ ys = take-take (r - a) n cs (omega arith) ∙ sym f in
      set_is_put
      (rw drop-drop
      (sym (sym (sets_room t a (r - a) (take n cs) (omega (arith, length-take-le n cs have)))
      ∙ rw cut (sets-eq ys t a (omega arith) ∙ rw many (append_assoc (take a t) ys _)))))

  pub none_put : min (a + n) (length t) ≤ a → Puts a (take n cs) t t (a + n)
  none_put h = set_is_put (sym (sets_none t a (take n cs) (omega (arith, length-take-le n cs have))))
