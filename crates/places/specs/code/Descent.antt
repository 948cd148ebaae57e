-- What following terms downward computes, whatever the columns hold: from term i, in at most so many
-- digits, to term j, by the subterm that j stands in. `proofs/Laws.antt` shows that it is the path
-- where the columns hold a term.
use Rattle.std.specs.Prelude.{ℕ, zero, suc, ◌+◌, ◌&&◌, List, [], ◌∷◌, length, ltb, leb, eqb, Some, None}
use Rattle.std.specs.Prelude as std
use Rattle.std.proofs.Math.Option.{Option, none, some}
use Rattle.lines.specs.Line.{choose}
use Rattle.frames.specs.TableFrame.{term_room, path_room, definition_room}
use Rattle.kinds.specs.Kind.{subterms, prefix}
use Rattle.places.specs.Place.{left_path, event_path}
use Rattle.places.specs.declared.Literal.{Literal}
use Rattle.places.specs.declared.Literal.TheVariants.{Left, Own, Event}
use Rattle.places.specs.declared.Placed.{Placed}
use Rattle.columns.specs.words.Columns.{Columns, look}

-- the way from a term i of n subterms to term j: to its second subterm, or to its first, by the digit 1 where
-- it has two; a prefix's only subterm is by the digit 2
unfoldable pub next : ℕ → List ℕ → ℕ → ℕ → ℕ
next n xs i j = choose (eqb n 2 && leb (look term_room xs (i + 1)) j) (look term_room xs (i + 1)) (i + 1)

unfoldable pub digit : ℕ → List ℕ → ℕ → ℕ → ℕ
digit n xs i j = choose (eqb n 2 && ltb j (look term_room xs (i + 1))) 1 2

-- a digit in front of a path
unfoldable pub below : ℕ → Option (List ℕ) → Option (List ℕ)
below x none = none
below x (some w) = some (x ∷ w)

unfoldable pub descended : ℕ → List ℕ → List ℕ → ℕ → ℕ → Option (List ℕ)
descended zero ks xs i j = choose (eqb i j) (some []) none
descended (suc f) ks xs i j =
    choose (eqb i j) (some [])
    (choose (eqb (subterms (look term_room ks i)) 0) none
    (below (digit (subterms (look term_room ks i)) xs i j)
    (descended f ks xs (next (subterms (look term_room ks i)) xs i j) j)))

-- where a path ends that begins at a depth
unfoldable pub reached : ℕ → Option (List ℕ) → std.Option ℕ
reached d none = None
reached d (some w) = Some (d + length w)

-- the digits of a path that there may be
unfoldable pub digits : Option (List ℕ) → List ℕ
digits none = []
digits (some w) = w

-- the path of a term, of at most so many digits
unfoldable pub path_of : ℕ → Columns → ℕ → Option (List ℕ)
path_of most c n =
    descended most c.kinds c.after (look definition_room c.roots (look term_room c.owners n)) n

-- the event's digit behind its prefix's path
unfoldable pub with_event : Option (List ℕ) → Option (List ℕ)
with_event none = none
with_event (some w) = some (event_path w)

-- the path of a prefix's event; none where the term is no prefix
unfoldable pub event_of : Columns → ℕ → Option (List ℕ)
event_of c n = choose (eqb (look term_room c.kinds n) prefix) (with_event (path_of 63 c n)) none

-- the path of a literal
unfoldable pub literal_path : Columns → Literal → Option (List ℕ)
literal_path c (Left d) = some left_path
literal_path c (Own n) = path_of path_room c n
literal_path c (Event n) = event_of c n

-- the definition of a literal
unfoldable pub literal_definition : Columns → Literal → ℕ
literal_definition c (Left d) = d
literal_definition c (Own n) = look term_room c.owners n
literal_definition c (Event n) = look term_room c.owners n

-- the answer of n digits in definition d
abbrev pub at : ℕ → ℕ → std.Option Placed
at d n = Some (record { definition = d; length = n })

-- the answer: the definition and how many digits the path has
unfoldable pub told : ℕ → Option (List ℕ) → std.Option Placed
told d none = None
told d (some w) = at d (length w)

unfoldable pub answer : Columns → Literal → std.Option Placed
answer c l = told (literal_definition c l) (literal_path c l)
