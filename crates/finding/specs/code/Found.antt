-- The mark of a node by its label and the columns of a table, whatever they hold: the start's, or that of the literal at its
-- place, found from the definition's root on. 0 where there is none.
use Rattle.std.specs.Prelude.{ℕ, suc, ◌&&◌, List, [], ◌∷◌, eqb}
use Rattle.lines.specs.Line.{choose}
use Rattle.frames.specs.TableFrame.{definition_room}
use Rattle.places.specs.Place.{Place, left_path}
use Rattle.marks.specs.words.Mark.{start_mark}
use Rattle.marks.specs.code.Followed.{find}
use Rattle.columns.specs.words.Columns.{look}
use Rattle.rules.specs.Track.{Label}
use Rattle.graphs.specs.Shape.{same}

-- node 0, where its place is path 0 of definition 00
abbrev pub start_here : Place → ℕ
start_here w = choose (eqb w.definition 0 && same w.path left_path) start_mark 0

module _ (ks xs rs : List ℕ) where
  -- the mark of node k: the start's for node 0, and for any other its literal's; 0 where its line has another number, or a
  -- place that is not its
  unfoldable pub mark_of : ℕ → Label → ℕ
  mark_of k l =
      choose (eqb l.reference k)
      (choose (eqb k 0) (start_here l.place)
      (find ks xs (look definition_room rs l.place.definition) l.place.path))
      0

  -- the marks of nodes from number k on
  unfoldable pub marks_of : ℕ → List Label → List ℕ
  marks_of k [] = []
  marks_of k (l ∷ ls) = mark_of k l ∷ marks_of (suc k) ls
