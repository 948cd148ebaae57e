-- Where the arcs of a graph in columns lead, by the marks of their ends: two words for each reference, one for each side.
use Rattle.std.specs.Prelude.{ℕ, zero, suc, ◌+◌, ◌*◌, Bool, true, ◌&&◌, ◌||◌, not, List, [], ◌∷◌, ◌++◌, leb, ltb, eqb, Option, None, Some}
use Rattle.lines.specs.Line.{choose}
use Rattle.kinds.specs.Kind as Kind
use Rattle.frames.specs.TableFrame.{term_room}
use Rattle.columns.specs.words.Columns.{look}
use Rattle.marks.specs.words.Mark.{term_of, is_own}
use Rattle.control.specs.words.Words.{reference_room}
use Rattle.rules.specs.Track.{Pair}
use Rattle.links.specs.words.Columns.{put, at}

-- the words of sides: the word of side x of reference n is number 2 n + x
abbrev pub side_words : ℕ
side_words = 16388

-- a mark is an external choice's or a parallel's
unfoldable pub splits : List ℕ → ℕ → Bool
splits ks m =
    is_own m
    && (eqb (look term_room ks (term_of m)) Kind.external || eqb (look term_room ks (term_of m)) Kind.parallel)

-- the side of term t that term u stands in, 0 where it stands in neither
unfoldable pub side_of : List ℕ → ℕ → ℕ → ℕ
side_of xs t u =
    choose (leb u t) 0
    (choose (ltb u (look term_room xs (t + 1))) 1 (choose (ltb u (look term_room xs t)) 2 0))

-- the side that an arc from mark m to mark n leads to; all arcs of a node with no sides lead to its second
unfoldable pub slot : List ℕ → List ℕ → ℕ → ℕ → ℕ
slot ks xs m n = choose (splits ks m) (choose (ltb n 2) 0 (side_of xs (term_of m) (term_of n))) 2

-- a side by its number, none where that is 0
abbrev pub told : ℕ → Option ℕ
told zero = None
told (suc s) = Some (suc s)

module _ (ms ks xs : List ℕ) where
  -- an end of an arc has no mark
  unfoldable pub bare : Pair → Bool
  bare a = eqb (at ms a.from) 0 || eqb (at ms a.to) 0

  abbrev pub arc_slot : Pair → ℕ
  arc_slot a = slot ks xs (at ms a.from) (at ms a.to)

  -- an arc leads to a side that is free
  unfoldable pub free : List ℕ → Pair → Bool
  free w a = not (eqb (arc_slot a) 0) && eqb (look side_words w (2 * a.from + arc_slot a)) 0

  -- the words with an arc: one more than where it leads
  unfoldable pub with_arc : List ℕ → Pair → List ℕ
  with_arc w a =
      choose (bare a) w
      (choose (free w a) (put side_words w (2 * a.from + arc_slot a) (suc a.to)) w)

  unfoldable pub linked : List ℕ → List Pair → List ℕ
  linked w [] = w
  linked w (a ∷ as') = linked (with_arc w a) as'

  -- each arc between marks leads to a side that is free
  unfoldable pub all_fit : List ℕ → List Pair → Bool
  all_fit w [] = true
  all_fit w (a ∷ as') = (bare a || free w a) && all_fit (with_arc w a) as'

-- where a word of sides leads
unfoldable pub target : ℕ → List ℕ
target zero = []
target (suc n) = choose (ltb n reference_room) (n ∷ []) []

-- where a reference leads, the first side first
unfoldable pub on : List ℕ → ℕ → List ℕ
on w n = target (look side_words w (2 * n + 1)) ++ target (look side_words w (2 * n + 2))
