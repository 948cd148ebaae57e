-- A text respelled: its lines are the text's own, each respelled, so it is read alike, strictly too, and it is no longer. Lines
-- and text go into each other: a text is its lines joined, and lines that a text can have are those of the joined text.
-- Assumes nothing.
use Rattle.std.proofs.Common.{ℕ, ◌≤◌, ◌≡◌, refl, ap, ◌∙◌, Bool, true, false, List, [], ◌∷◌, map, append-nil}
use Rattle.std.proofs.Common.{arith, length, length-append, eqb, eqb-true}
use Rattle.lines.specs.Line.{choose, LF, Raw, full, open_ended, before, lines, frame, characters}
use Rattle.lines.proofs.Digits.{Inline, none_inline, inline, lines_full, lines_open}
use Rattle.desk_lines.specs.DeskLine.{desk_frame}
use Rattle.desk_lines.specs.Respelled.{SaidAlike, respelled_line, joined, respelled}
use Rattle.desk_lines.proofs.Spelling.{respelled_same, respelled_strictly, respelled_full, respelled_open}

-- lines that a text can have: no LF stands in one, and only the last may be without its own
pub data Lines : List Raw → Type 0 where
  no_lines : Lines []
  full_first : {cs : List ℕ} {ls : List Raw} → Inline cs → Lines ls → Lines (full cs ∷ ls)
  open_last : {c : ℕ} {cs : List ℕ} → Inline (c ∷ cs) → Lines (open_ended (c ∷ cs) ∷ [])

lines_before : (c : ℕ) (ls : List Raw) → eqb c LF ≡ false → Lines ls → Lines (before c ls)
unfolding before
lines_before c [] h no_lines = open_last (inline h none_inline)
lines_before c (full cs ∷ ls) h (full_first t u) = full_first (inline h t) u
lines_before c (open_ended (d ∷ cs) ∷ ls) h (open_last t) = open_last (inline h t)
lines_before c (open_ended [] ∷ ls) h x6 = elim x6 [ ]

pub lines_of : (t : List ℕ) → Lines (lines t)
unfolding lines
lines_of [] = no_lines
lines_of (c ∷ t) = go (eqb c LF) refl (lines_of t)
  where
    go : (b : Bool) → eqb c LF ≡ b → Lines (lines t) → Lines (choose b (full [] ∷ lines t) (before c (lines t)))
    go true e u = full_first none_inline u
    go false e u = lines_before c (lines t) e u

-- a text is its lines joined
joined_before : (c : ℕ) (ls : List Raw) → joined (before c ls) ≡ c ∷ joined ls
unfolding joined before
joined_before c [] = refl
joined_before c (full cs ∷ ls) = refl
joined_before c (open_ended cs ∷ ls) = refl

pub joined_back : (t : List ℕ) → joined (lines t) ≡ t
unfolding joined lines
joined_back [] = refl
joined_back (c ∷ t) = go (eqb c LF) refl (joined_back t)
  where
    go : (b : Bool) → eqb c LF ≡ b → joined (lines t) ≡ t
        → joined (choose b (full [] ∷ lines t) (before c (lines t))) ≡ c ∷ t
    go true e back = rw (eqb-true c LF e, back)
    go false e back = rw (joined_before c (lines t), back)

-- and such lines are those of the joined text
pub joined_lines : (ls : List Raw) → Lines ls → lines (joined ls) ≡ ls
unfolding joined lines
joined_lines [] no_lines = refl
joined_lines (full cs ∷ ls) (full_first t u) = rw (lines_full cs (joined ls) t, joined_lines ls u)
joined_lines (open_ended (c ∷ cs) ∷ []) (open_last t) = ap lines (append-nil (c ∷ cs)) ∙ lines_open c cs t
joined_lines (open_ended [] ∷ ls) x5 = elim x5 [ ]
joined_lines (open_ended (c ∷ cs) ∷ (_ ∷ _)) x9 = elim x9 [ ]

-- respelled lines are such lines, and no longer
pub respelled_lines : (ls : List Raw) → Lines ls → Lines (map respelled_line ls)
unfolding characters
respelled_lines [] no_lines = no_lines
respelled_lines (full cs ∷ ls) (full_first t u) =
    let r = respelled_full cs in
    rw r.1 (full_first (r.2.stays_inline t) (respelled_lines ls u))
respelled_lines (open_ended (c ∷ cs) ∷ []) (open_last t) = rw (respelled_open (c ∷ cs)) (open_last t)
respelled_lines (open_ended [] ∷ ls) x5 = elim x5 [ ]
respelled_lines (open_ended (c ∷ cs) ∷ (_ ∷ _)) x9 = elim x9 [ ]

pub joined_shorter : (ls : List Raw) → length (joined (map respelled_line ls)) ≤ length (joined ls)
unfolding joined characters
joined_shorter [] = omega arith
joined_shorter (full cs ∷ ls) =
    let r = respelled_full cs in
    let rest = joined (map respelled_line ls) in
    rw r.1
    (omega (arith, length-append r.0 (LF ∷ rest), length-append cs (LF ∷ joined ls), joined_shorter ls, r.2.no_longer))
joined_shorter (open_ended cs ∷ ls) =
    let rest = joined (map respelled_line ls) in
    rw (respelled_open cs) (omega (arith, length-append cs rest, length-append cs (joined ls), joined_shorter ls))

-- the lines of a text respelled are its lines, each respelled
pub lines_respelled : (t : List ℕ) → lines (respelled t) ≡ map respelled_line (lines t)
unfolding respelled
lines_respelled t = joined_lines (map respelled_line (lines t)) (respelled_lines (lines t) (lines_of t))

-- they are read alike, and strictly so
pub frames_same : (ls : List Raw) → SaidAlike (map respelled_line ls) ls
frames_same [] = refl
frames_same (l ∷ ls) = rw (respelled_same l, frames_same ls)

frames_strict : (ls : List Raw) → map frame (map respelled_line ls) ≡ map desk_frame ls
frames_strict [] = refl
frames_strict (l ∷ ls) = rw (respelled_strictly l, frames_strict ls)

pub respelled_read_strictly : (t : List ℕ) → map frame (lines (respelled t)) ≡ map desk_frame (lines t)
respelled_read_strictly t = rw (lines_respelled t) (frames_strict (lines t))
