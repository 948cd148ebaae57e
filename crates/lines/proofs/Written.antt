-- A text of frames reads back as those frames, and no other text does. A digit and its character determine
-- each other, so bytes and their hexadecimal do, and with them a frame and its line; the text follows line by
-- line. Assumes nothing.
use Rattle.std.proofs.Common.{ℕ, ◌<◌, ◌-◌, ◌+◌, ◌*◌, ◌/◌, ◌%◌, ◌≡◌, refl, ap, ◌∙◌, Bool, true, false, ◌&&◌}
use Rattle.std.proofs.Common.{List, [], ◌∷◌, ◌++◌, map, arith, leb, ltb, eqb, le-leb, leb-true, ltb-true}
use Rattle.std.proofs.Common.{ltb-false, lt-ltb, le-ltb}
use Rattle.std.proofs.lemmas.Bool.{lt-leb}
use Rattle.std.proofs.Math.Option.{some}
use Rattle.lines.specs.Line.{choose, digit, character, pair, bytes, hex, LF}
use Rattle.lines.specs.Line.{Raw, full, open_ended, before, lines, frame, text}
use Rattle.lines.specs.Line.{Bytes, no_bytes, byte_first, Frames, no_frames, frame_first}
use Rattle.lines.proofs.Digits.{both, Digits, no_more, one_more, digits_inline, pair_some, lines_full}
use Rattle.lines.proofs.Laws.{lines_first, bytes_length}

-- a digit's character counts as the digit
digit_of_character : (d : ℕ) → d < 16 → digit (character d) ≡ d
unfolding digit character
digit_of_character d h = go (ltb d 10) refl
  where
    go : (b : Bool) → ltb d 10 ≡ b → digit (choose b (48 + d) (87 + d)) ≡ d
    go true e =
        let l = ltb-true d 10 e in
        simp (le-leb 48 (48 + d) (omega arith), le-leb (48 + d) 57 (omega arith)) (omega arith)
    go false e =
        let l = ltb-false d 10 e in
        let c : ℕ = 87 + d in
        let no_decimal = lt-leb c 57 (omega arith) in
        let letter : leb 97 c && leb c 102 ≡ true =
        simp (le-leb 97 c (omega arith), le-leb c 102 (omega arith)) in
        simp (le-leb 48 c (omega arith), no_decimal, letter) (omega arith)

-- a character that is a digit is that digit's
character_of_digit : (c : ℕ) → digit c < 16 → character (digit c) ≡ c
unfolding digit character
character_of_digit c h = go (leb 48 c && leb c 57) (leb 97 c && leb c 102) refl refl h
  where
    go : (p q : Bool) → leb 48 c && leb c 57 ≡ p → leb 97 c && leb c 102 ≡ q
        → choose p (c - 48) (choose q (c - 87) 16) < 16
        → character (choose p (c - 48) (choose q (c - 87) 16)) ≡ c
    go true q e f h =
        let i = both (leb 48 c) (leb c 57) e in
        let l = leb-true 48 c i.0 in
        let m = leb-true c 57 i.1 in
        simp (lt-ltb (c - 48) 10 (omega arith)) (omega arith)
    go false true e f h =
        let i = both (leb 97 c) (leb c 102) f in
        let l = leb-true 97 c i.0 in
        simp (le-ltb (c - 87) 10 (omega arith)) (omega arith)
    go false false e f h = absurd (omega arith)

-- bytes are written in digits
hex_digits : (bs : List ℕ) → Bytes bs → Digits (hex bs)
unfolding hex
hex_digits [] no_bytes = no_more
hex_digits (b ∷ bs) (byte_first h t) =
    let u = digit_of_character (b / 16) (omega arith) in
    let v = digit_of_character (b % 16) (omega arith) in
    let p : digit (character (b / 16)) < 16 = omega arith in
    let q : digit (character (b % 16)) < 16 = omega arith in
    one_more p (one_more q (hex_digits bs t))

-- hexadecimal reads back as the bytes that it was written from
pub hex_bytes : (bs : List ℕ) → Bytes bs → bytes (hex bs) ≡ some bs
unfolding hex bytes pair
hex_bytes [] no_bytes = refl
hex_bytes (b ∷ bs) (byte_first h t) =
    let u = digit_of_character (b / 16) (omega arith) in
    let v = digit_of_character (b % 16) (omega arith) in
    let e : b / 16 * 16 + b % 16 ≡ b = omega arith in
    simp (u, v, hex_bytes bs t, lt-ltb (b / 16) 16 (omega arith), lt-ltb (b % 16) 16 (omega arith), e)

-- and is the only spelling of them
pub bytes_hex : (cs bs : List ℕ) → bytes cs ≡ some bs → cs ≡ hex bs
unfolding hex bytes
bytes_hex [] bs e = let n : bs ≡ [] = cc in rw n
bytes_hex (h ∷ []) bs e = let z : ◌≡◌ {A = ℕ} 0 1 = cc in absurd (omega arith)
bytes_hex (h ∷ l ∷ cs) bs e =
    let r = pair_some (digit h) (digit l) (bytes cs) bs e in
    let u : (digit h * 16 + digit l) / 16 ≡ digit h = omega arith in
    let v : (digit h * 16 + digit l) % 16 ≡ digit l = omega arith in
    let rest = ap (λ (x : List ℕ). h ∷ l ∷ x) (bytes_hex cs r.2.0 r.2.1) in
    rw r.2.2 (simp (u, v, character_of_digit h r.0, character_of_digit l r.1) rest)

-- what is read is bytes
pub read_bytes : (cs bs : List ℕ) → bytes cs ≡ some bs → Bytes bs
unfolding bytes
read_bytes [] bs e = let n : bs ≡ [] = cc in rw n no_bytes
read_bytes (h ∷ []) bs e = let z : ◌≡◌ {A = ℕ} 0 1 = cc in absurd (omega arith)
read_bytes (h ∷ l ∷ cs) bs e =
    let r = pair_some (digit h) (digit l) (bytes cs) bs e in
    let p : digit h * 16 + digit l < 256 = omega arith in
    rw r.2.2 (byte_first p (read_bytes cs r.2.0 r.2.1))

-- the first line of a text of frames is the first frame's
pub written_first : (bs : List ℕ) (fs : List (List ℕ)) → Bytes bs
    → lines (text (bs ∷ fs)) ≡ full (hex bs) ∷ lines (text fs)
unfolding text
written_first bs fs h = lines_full (hex bs) (text fs) (digits_inline (hex_digits bs h))

-- and has that frame
pub written_frame : (b : ℕ) (bs : List ℕ) → Bytes (b ∷ bs) → frame (full (hex (b ∷ bs))) ≡ some (b ∷ bs)
unfolding frame hex
written_frame b bs h = hex_bytes (b ∷ bs) h

-- a text of frames reads back as those frames
pub frames_back : (fs : List (List ℕ)) → Frames fs → map frame (lines (text fs)) ≡ map some fs
unfolding text lines
frames_back [] no_frames = refl
frames_back ([] ∷ fs) f = elim f [ ]
frames_back ((b ∷ bs) ∷ fs) (frame_first h t) =
    simp (written_first (b ∷ bs) fs h, written_frame b bs h, frames_back fs t)

-- only the empty text has no lines
before_some : (c : ℕ) (ls : List Raw) → before c ls ≡ [] → ⊥
unfolding before
before_some c [] e = let z : ◌≡◌ {A = ℕ} 0 1 = cc in omega arith
before_some c (full cs ∷ ls) e = let z : ◌≡◌ {A = ℕ} 0 1 = cc in omega arith
before_some c (open_ended cs ∷ ls) e = let z : ◌≡◌ {A = ℕ} 0 1 = cc in omega arith

no_lines : (t : List ℕ) → lines t ≡ [] → t ≡ []
unfolding lines
no_lines [] e = refl
no_lines (c ∷ cs) e = absurd (go (eqb c LF) e)
  where
    go : (b : Bool) → choose b (full [] ∷ lines cs) (before c (lines cs)) ≡ [] → ⊥
    go true e = let z : ◌≡◌ {A = ℕ} 0 1 = cc in omega arith
    go false e = before_some c (lines cs) e

-- a line with a frame is that frame, written
pub line_written : (l : Raw) (bs : List ℕ) → frame l ≡ some bs → l ≡ full (hex bs)
unfolding frame
line_written (open_ended cs) bs e = let z : ◌≡◌ {A = ℕ} 0 1 = cc in absurd (omega arith)
line_written (full []) bs e = let z : ◌≡◌ {A = ℕ} 0 1 = cc in absurd (omega arith)
line_written (full (c ∷ cs)) bs e = ap full (bytes_hex (c ∷ cs) bs e)

-- a frame is bytes, at least one
frame_bytes : (l : Raw) (bs : List ℕ) (fs : List (List ℕ)) → frame l ≡ some bs → Frames fs → Frames (bs ∷ fs)
unfolding frame
frame_bytes (open_ended cs) bs fs e t = let z : ◌≡◌ {A = ℕ} 0 1 = cc in absurd (omega arith)
frame_bytes (full []) bs fs e t = let z : ◌≡◌ {A = ℕ} 0 1 = cc in absurd (omega arith)
frame_bytes (full (c ∷ cs)) [] fs e t = absurd (omega (arith, bytes_length (c ∷ cs) [] e))
frame_bytes (full (c ∷ cs)) (b ∷ bs) fs e t = frame_first (read_bytes (c ∷ cs) (b ∷ bs) e) t

-- the first of lines that are all framed
record Framed (bs : List ℕ) (fs : List (List ℕ)) (ls : List Raw) : Type 0 where
  line : Raw
  others : List Raw
  first : ls ≡ line ∷ others
  frames : frame line ≡ some bs
  behind : map frame others ≡ map some fs

framed : (bs : List ℕ) (fs : List (List ℕ)) (ls : List Raw) → map frame ls ≡ map some (bs ∷ fs)
    → Framed bs fs ls
framed bs fs [] e = let z : ◌≡◌ {A = ℕ} 0 1 = cc in absurd (omega arith)
framed bs fs (l ∷ ls) e = record { line = l; others = ls; first = refl; frames = cc; behind = cc }

none_framed : (ls : List Raw) → map frame ls ≡ map {A = List ℕ} some [] → ls ≡ []
none_framed [] e = refl
none_framed (l ∷ ls) e = let z : ◌≡◌ {A = ℕ} 0 1 = cc in absurd (omega arith)

-- and no other text does: a text whose lines are all framed is the text of its frames
pub text_back : (fs : List (List ℕ)) (t : List ℕ) → map frame (lines t) ≡ map some fs → t ≡ text fs
unfolding text
text_back [] t e = no_lines t (none_framed (lines t) e)
text_back (bs ∷ fs) t e =
    let f = framed bs fs (lines t) e in
    let w = line_written f.line bs f.frames in
    let r = lines_first t (hex bs) f.others (f.first ∙ ap (λ (l : Raw). l ∷ f.others) w) in
    let m : r.0 ≡ text fs = text_back fs r.0 (rw r.2 at f.behind) in
    r.1 ∙ ap (λ (x : List ℕ). hex bs ++ LF ∷ x) m

-- what is read is frames
pub read_frames : (fs : List (List ℕ)) (ls : List Raw) → map frame ls ≡ map some fs → Frames fs
read_frames [] ls e = no_frames
read_frames (bs ∷ fs) ls e =
    let f = framed bs fs ls e in
    frame_bytes f.line bs fs f.frames (read_frames fs f.others f.behind)
