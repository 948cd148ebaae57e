-- What a step looks up on its way, whatever the words hold.
use Rattle.std.specs.Prelude.{ℕ, zero, suc, ◌+◌, ◌*◌, Bool, ◌&&◌, ◌||◌, not, List, get_or, eqb, ltb, leb}
use Rattle.lines.specs.Line.{choose}
use Rattle.kinds.specs.Kind as Kind
use Rattle.frames.specs.TableFrame.{term_room}
use Rattle.control.specs.words.Words.{track_word}
use Rattle.control.specs.words.Control as Control
use Rattle.columns.specs.words.Columns.{look}

-- the digit at a place of an address, 0 behind its last
unfoldable pub digit_at : List ℕ → ℕ → ℕ → ℕ
digit_at ds count at = choose (ltb at count && ltb at 1024) (get_or ds at 0) 0

unfoldable pub is_split : ℕ → Bool
is_split k = eqb k Kind.external || eqb k Kind.parallel

-- a digit that names a side, or both
unfoldable pub is_side : ℕ → Bool
is_side d = leb 1 d && leb d 3

-- of two sides, the one that a digit goes to first
unfoldable pub taken : ℕ → ℕ → ℕ → ℕ
taken d a b = choose (eqb d 2) b a

-- a sequence is around, by a frame or in the plan
unfoldable pub is_within : Bool → ℕ → Bool
is_within nested o = nested || not (eqb o 0)

-- a term's set
abbrev pub set_of : List ℕ → ℕ → ℕ
set_of x t = look term_room x t

abbrev pub beyond : List ℕ → ℕ → ℕ → ℕ → ℕ
beyond = Control.beyond

unfoldable pub inside : List ℕ → ℕ → ℕ → ℕ → ℕ → ℕ
inside p k t n f = choose (eqb k Kind.parallel) n (beyond p t n f)

unfoldable pub leads : ℕ → ℕ → ℕ → Bool
leads j m n = eqb j m || eqb j n

-- how many of arcs i to i + n, of those that there is room for, lead to one of two references
unfoldable pub parents : List ℕ → ℕ → ℕ → ℕ → ℕ → ℕ
parents w a b i zero = 0
parents w a b i (suc n) =
    choose (ltb i 8192)
    (choose (leads (track_word w (2 * i + 1)) a b) 1 0 + parents w a b (suc i) n)
    0
