-- The mark of the literal at a path from a term on, by the columns of a table, whatever they hold: the path is followed digit by
-- digit. 0 where there is no literal. `proofs/Literals.antt` shows that it is the literal that has that path where the columns
-- hold the term.
use Rattle.std.specs.Prelude.{ℕ, suc, List, [], ◌∷◌, ltb, eqb}
use Rattle.lines.specs.Line.{choose}
use Rattle.kinds.specs.Kind.{subterms}
use Rattle.frames.specs.TableFrame.{term_room}
use Rattle.columns.specs.words.Columns.{look}
use Rattle.marks.specs.words.Mark.{own_mark, event_mark}

-- the own literal of term t, where there is such a term
abbrev pub own_here : ℕ → ℕ
own_here t = choose (ltb t term_room) (own_mark t) 0

-- a prefix's event, where the path ends there
unfoldable pub event_end : ℕ → List ℕ → ℕ
event_end t [] = event_mark t
event_end t (x ∷ w) = 0

module _ (ks xs : List ℕ) where
  -- the mark at a path from term t on: of a term with n subterms, digit 1 leads to the first of two or a prefix's event, and
  -- digit 2 to the last
  unfoldable pub find : ℕ → List ℕ → ℕ
  find t [] = own_here t
  find t (x ∷ w) =
      choose (eqb (subterms (look term_room ks t)) 0) 0
      (choose (eqb x 1)
      (choose (eqb (subterms (look term_room ks t)) 2) (find (suc t) w) (event_end t w))
      (choose (eqb x 2)
      (find (choose (eqb (subterms (look term_room ks t)) 2) (look term_room xs (suc t)) (suc t)) w)
      0))
