-- Document 01, 'Lines' (Table), 'Room' and 'Numbers of refusal': the frames of a table, and the number of
-- refusal, 2 to 5, that a frame meets by what the lines before it have said. The enums and the record that
-- the code hands about (`Frame`, `Seen`) are declared in src/.
use Rattle.std.specs.Prelude.{ℕ, ◌+◌, ◌^◌, Bool, true, false, ◌&&◌, ◌||◌, not, List, length, get_or, drop, leb, ltb, eqb}
use Rattle.lines.specs.Line.{choose, number}
use Rattle.kinds.specs.Kind.{call, prefix, parallel, known, payload_bytes}
use Rattle.frames.specs.declared.Frame.{Frame}
use Rattle.frames.specs.declared.Frame.TheVariants.{Opening, Definition, Term, Closing, Wrong}
use Rattle.frames.specs.declared.Seen.{Seen}

-- the rooms that a line can pass
abbrev pub term_room : ℕ
term_room = 1024

abbrev pub path_room : ℕ
path_room = 64

-- the most definitions and events that a table has
abbrev pub definition_room : ℕ
definition_room = 64

abbrev pub event_room : ℕ
event_room = 64

-- the frame of a line's bytes: `10 01 dd ee`, `11 nn`, `12 kk ..` or `1f tttt`; any other bytes are wrong
unfoldable pub frame_of : List ℕ → Frame
frame_of bs =
    choose (eqb (get_or bs 0 0) 0x12)
    (choose (known (get_or bs 1 0) && eqb (length bs) (2 + payload_bytes (get_or bs 1 0)))
    (Term (get_or bs 1 0) (number (drop 2 bs)))
    Wrong)
    (choose (eqb (get_or bs 0 0) 0x11 && eqb (length bs) 2)
    (Definition (get_or bs 1 0))
    (choose (eqb (get_or bs 0 0) 0x1f && eqb (length bs) 3)
    (Closing (number (drop 1 bs)))
    (choose (eqb (get_or bs 0 0) 0x10 && eqb (length bs) 4)
    (Opening (get_or bs 1 0) (get_or bs 2 0) (get_or bs 3 0))
    Wrong)))

-- the number that a payload is below: a definition of the table, an event of it, or a
-- set whose bits are all events'
unfoldable pub limit : Seen → ℕ → ℕ
limit s k =
    choose (eqb k call) s.definitions
    (choose (eqb k prefix) s.events
    (choose (eqb k parallel) (2 ^ s.events) 1))

-- the length of the longest path that a term's own literals have: a prefix's event stands one below it
unfoldable pub longest : Seen → ℕ → ℕ
longest s k = choose (eqb k prefix) (s.depth + 1) s.depth

-- the number of refusal that a frame meets after line 1, the lowest where there are
-- several, and 0 where it meets none
unfoldable pub refusal : Frame → Seen → ℕ
refusal Wrong s = 2
refusal (Opening ed dd ee) s = 2
refusal (Definition n) s =
    choose (not (eqb n s.begun) || leb s.definitions n) 3
    (choose (not (eqb s.due 0)) 4 0)
refusal (Term k p) s =
    choose (eqb s.begun 0) 2
    (choose (leb (limit s k) p) 3
    (choose (eqb s.due 0) 4
    (choose (leb term_room s.terms || ltb path_room (longest s k)) 5 0)))
refusal (Closing t) s =
    choose (not (eqb t s.terms)) 3
    (choose (not (eqb s.due 0) || ltb s.begun s.definitions) 4 0)

-- the number that line 1 meets
unfoldable pub first_refusal : Frame → ℕ
first_refusal Wrong = 2
first_refusal (Opening ed dd ee) = choose (eqb ed 1 && (leb 1 dd && (leb dd definition_room && leb ee event_room))) 0 3
first_refusal (Definition n) = 2
first_refusal (Term k p) = 2
first_refusal (Closing t) = 2

-- the table's last line
unfoldable pub closes : Frame → Bool
closes Wrong = false
closes (Opening ed dd ee) = false
closes (Definition n) = false
closes (Term k p) = false
closes (Closing t) = true
