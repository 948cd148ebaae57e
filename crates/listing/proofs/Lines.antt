-- The listing's lines, put one part behind another. A byte in front of a line makes a longer line, so a step's and
-- a status's line go by their bytes. A copied text is put where all its characters are, or where the slice has no
-- room for more of them; so a track is told that was saved within its room, and refusal 12 for any other. Assumes
-- nothing.
use Rattle.std.proofs.Common.{ℕ, zero, suc, ◌≤◌, ◌<◌, ◌≡◌, refl, sym, ap, ◌∙◌, Bool, true, false, List, arith}
use Rattle.std.proofs.Common.{length, take, take_at, leb, leb-true, leb-false, le-leb}
use Rattle.std.proofs.lemmas.Bool.{lt-leb}
use Rattle.std.proofs.lemmas.List.Edits.{sets, sets-eq}
use Rattle.std.proofs.Math.Seq.{length-sets}
use Rattle.lines.specs.Line.{choose}
use Rattle.spelling.specs.words.Puts.{Puts}
use Rattle.writing.specs.words.Slice.{Put, with_slice, written}
use Rattle.writing.specs.Answers.{Saved, Written, Short}
use Rattle.writing.proofs.Whole.{written_whole}
use Rattle.telling.specs.ListingFrame.{alone}
use Rattle.listing.specs.Listing.{save_room, within_room}
use Rattle.listing.specs.code.Told.{stop_text}

-- a script that no refusal has ended tells none
pub stop_none : {a : ℕ} {s : List ℕ} (r n : ℕ) → r ≡ 0 → Puts a (stop_text r n) s s a
unfolding stop_text
stop_none {a} {s} r n e = rw e (record { ends = omega arith; stands = refl })

-- one that a refusal has ended tells it
pub stop_told : (r n : ℕ) → (r ≡ 0 → ⊥) → stop_text r n ≡ alone r n
unfolding stop_text
stop_told zero n h = absurd (h refl)
stop_told (suc r) n h = refl

-- a text in front of a slice that has room for it is the slice's first characters
first_characters : (t lent : List ℕ) → length t ≤ length lent → take (length t) (sets lent 0 t) ≡ t
first_characters t lent h = rw (sets-eq t lent 0 (omega arith)) (take_at t _ (length t) refl)

-- what a text is told as, by whether the slice has room for it
module _ (t slice : List ℕ) where
  -- one that is told as written is within the room, and its length is told
  written_fits : (n : ℕ) → (written t slice).answer ≡ Written n → (n ≡ length t) × (length t ≤ length slice)
  unfolding written
  written_fits n = go (leb (length t) (length slice)) refl
    where
      go : (fits : Bool) → leb (length t) (length slice) ≡ fits
          → (choose fits (with_slice (Written (length t)) (sets slice 0 t)) (with_slice (Short (length t)) slice)).answer
          ≡ Written n
          → (n ≡ length t) × (length t ≤ length slice)
      go true e p = (cc, leb-true (length t) (length slice) e)
      go false e p = let z : ◌≡◌ {A = ℕ} 0 1 = cc in absurd (omega arith)

  -- one that is not passes the room
  short_passes : (n : ℕ) → (written t slice).answer ≡ Short n → length slice < length t
  unfolding written
  short_passes n = go (leb (length t) (length slice)) refl
    where
      go : (fits : Bool) → leb (length t) (length slice) ≡ fits
          → (choose fits (with_slice (Written (length t)) (sets slice 0 t)) (with_slice (Short (length t)) slice)).answer
          ≡ Short n
          → length slice < length t
      go true e p = let z : ◌≡◌ {A = ℕ} 0 1 = cc in absurd (omega arith)
      go false e p = leb-false (length t) (length slice) e

-- a track in an array that has its room
module _ (t lent : List ℕ) {kept : List ℕ} {r : Saved} (is : with_slice r kept ≡ written t lent)
    (sized : length lent ≡ save_room) where
  answer_is : r ≡ (written t lent).answer
  answer_is = ap (λ (q : Put). q.answer) is

  -- where it was not written, refusal 12 is told
  pub track_short : {a b n : ℕ} {s u : List ℕ} → r ≡ Short n → Puts a (alone 12 0) s u b → Puts a (within_room t) s u b
  unfolding within_room
  track_short {n = n} e p =
      let over = short_passes t lent n (sym answer_is ∙ e) in
      let test : leb (length t) save_room ≡ false = lt-leb (length t) save_room (omega arith) in
      simp test p

  module _ {n : ℕ} (told : r ≡ Written n) where
    -- where it was, it stands in front of the slice
    track_in_front : (n ≡ length t) × (n ≤ save_room) × (kept ≡ sets lent 0 t)
    track_in_front =
        let fits = written_fits t lent n (sym answer_is ∙ told) in
        (fits.0, omega arith, ap (λ (q : Put). q.slice) (is ∙ written_whole t lent fits.1))

    -- so it is within it
    pub track_fits : (n ≤ length kept) × (n ≤ save_room)
    track_fits =
        let front = track_in_front in
        let same : length kept ≡ length lent = ap length front.2 ∙ length-sets lent 0 t in
        omega arith

    -- and the slice's first characters are told
    pub track_whole : {a b : ℕ} {s u : List ℕ} → Puts a (take n kept) s u b → Puts a (within_room t) s u b
    unfolding within_room
    track_whole p =
        let front = track_in_front in
        let test : leb (length t) save_room ≡ true = le-leb (length t) save_room (omega arith) in
        let whole : take n kept ≡ t = rw (front.2, front.0) (first_characters t lent (omega arith)) in
        simp test (rw whole at p)
