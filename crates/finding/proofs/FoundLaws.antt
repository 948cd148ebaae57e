-- The mark at a place is that of the literal that the table has there, and no literal's mark is 0. So a node has a mark exactly
-- where its line has its number and a place that is its. Assumes nothing.
use Rattle.std.proofs.Common.{◌≡◌, ℕ, suc, ◌+◌, ◌<◌, Bool, true, false, not, ◌&&◌, eqb, List, [], ◌∷◌, length}
use Rattle.std.proofs.Common.{refl, ap, ◌∙◌, ap₂, ne_eqb, eqb-true}
use Rattle.std.proofs.Math.Option.{Option, none, some}
use Rattle.lines.specs.Line.{choose}
use Rattle.lines.specs.Judging.{accepted}
use Rattle.frames.specs.TableFrame.{definition_room}
use Rattle.tables.specs.Table.{Sofar, judged}
use Rattle.tables.specs.words.Columns.{kinds, afters, roots}
use Rattle.terms.specs.Term.{Term, definitions_of}
use Rattle.terms.proofs.Trees.{listed}
use Rattle.columns.specs.words.Columns.{look}
use Rattle.places.specs.Place.{Place, left_path, Literal, own, event}
use Rattle.places.proofs.Laws.{checked_roots}
use Rattle.marks.specs.words.Mark.{own_mark, event_mark}
use Rattle.marks.specs.code.Followed.{find}
use Rattle.marks.proofs.Laws.{own_some, event_some}
use Rattle.marks.proofs.Literals.{mark_of_literal, find_literal}
use Rattle.rules.specs.Track.{Label}
use Rattle.graphs.specs.Shape.{same, every, in_order, in_definition, there, literal_of, placed}
use Rattle.graphs.proofs.Spelled.{Each, each_none, each_first}
use Rattle.finding.specs.code.Found.{start_here, mark_of, marks_of}

-- as many marks as labels
pub marks_length : (ks xs rs : List ℕ) (k : ℕ) (ls : List Label) → length (marks_of ks xs rs k ls) ≡ length ls
unfolding marks_of
marks_length ks xs rs k [] = refl
marks_length ks xs rs k (l ∷ ls) = ap suc (marks_length ks xs rs (suc k) ls)

-- two tests of two things each, the other way about
crossed : (a b c d : Bool) → (a && b) && (c && d) ≡ (a && c) && (b && d)
crossed true true c d = refl
crossed true false true d = refl
crossed true false false d = refl
crossed false b c d = refl

-- labels whose places are of the first d definitions
abbrev pub DefinitionsBelow : ℕ → List Label → Type 0
DefinitionsBelow d ls = Each (λ (l : Label). l.place.definition < d) ls

-- a literal's mark is not 0
mark_there : (ts : List Term) (r : ℕ) (o : Option Literal) → not (eqb (mark_of_literal r o) 0) ≡ there ts o
unfolding mark_of_literal there
mark_there ts r none = refl
mark_there ts r (some (own n)) = rw (ne_eqb (own_mark (r + n)) 0 (own_some (r + n)))
mark_there ts r (some (event n)) = rw (ne_eqb (event_mark (r + n)) 0 (event_some (r + n)))

-- a checked table
module _ (text : List ℕ) (s : Sofar) (q : judged text ≡ accepted s) where
  abbrev ts : List Term
  ts = definitions_of s

  -- the mark at a place is that of its literal there
  find_place : (w : Place) → w.definition < length ts
      → find (kinds s) (afters s) (look definition_room (roots s) w.definition) w.path
      ≡ mark_of_literal (look definition_room (roots s) w.definition) (literal_of ts w)
  unfolding in_definition
  find_place w h =
      let (T, e) = listed ts w.definition h in
      find_literal _ _ T (checked_roots text s q w.definition T e) w.path ∙ rw e

  -- a node has a mark exactly where its line has its number and a place that is its
  pub mark_placed : (k : ℕ) (l : Label) → l.place.definition < length ts
      → not (eqb (mark_of (kinds s) (afters s) (roots s) k l) 0) ≡ eqb l.reference k && placed ts l
  unfolding mark_of placed
  mark_placed k l h = go (eqb l.reference k) refl
    where
      first : (b : Bool) → not (eqb (choose b 1 0) 0) ≡ b
      first true = refl
      first false = refl

      by_number : (b : Bool) (c : Bool) → eqb k 0 ≡ b
          → not (eqb (choose b (choose c 1 0)
          (find (kinds s) (afters s) (look definition_room (roots s) l.place.definition) l.place.path)) 0)
          ≡ choose b c (there ts (literal_of ts l.place))
      by_number true c e = first c
      by_number false c e =
          ap (λ (m : ℕ). not (eqb m 0)) (find_place l.place h)
          ∙ mark_there ts _ (literal_of ts l.place)

      go : (b : Bool) → eqb l.reference k ≡ b
          → not (eqb (choose b
          (choose (eqb k 0) (start_here l.place)
          (find (kinds s) (afters s) (look definition_room (roots s) l.place.definition) l.place.path))
          0) 0)
          ≡ b && choose (eqb l.reference 0) (eqb l.place.definition 0 && same l.place.path left_path)
          (there ts (literal_of ts l.place))
      go true e = rw (eqb-true l.reference k e) (by_number (eqb k 0) _ refl)
      go false e = refl

  -- so do all, where nodes come in number order and have such places
  marks_from : (k : ℕ) {ls : List Label} → DefinitionsBelow (length ts) ls
      → every (λ m. not (eqb m 0)) (marks_of (kinds s) (afters s) (roots s) k ls)
      ≡ in_order k ls && every (placed ts) ls
  unfolding every in_order marks_of
  marks_from k each_none = refl
  marks_from k (each_first {x = l} {xs = ls} h hs) =
      ap₂ ◌&&◌ (mark_placed k l h) (marks_from (suc k) hs)
      ∙ crossed (eqb l.reference k) (placed ts l) (in_order (suc k) ls) (every (placed ts) ls)

  pub marks_shaped : {ls : List Label} → DefinitionsBelow (length ts) ls
      → every (λ m. not (eqb m 0)) (marks_of (kinds s) (afters s) (roots s) 0 ls)
      ≡ in_order 0 ls && every (placed ts) ls
  marks_shaped h = marks_from 0 h
