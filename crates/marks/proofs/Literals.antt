-- The mark found at a path is that of the literal that has that path: where the columns hold a term, following a path by the
-- columns and following it by the term lead to one number, by induction over the term; and the literals of a term have one path
-- each. Assumes nothing.
use Rattle.std.proofs.Common.{◌≡◌, ℕ, suc, ◌+◌, ◌*◌, ◌<◌, ◌≤◌, Bool, true, false, eqb, ◌⊎◌, List, [], ◌∷◌}
use Rattle.std.proofs.Common.{sym, refl, ap, ◌∙◌, inl, inr, add-one, arith, lt-ltb}
use Rattle.std.proofs.Math.Option.{Option, none, some}
use Rattle.lines.specs.Line.{choose}
use Rattle.kinds.specs.Kind.{subterms}
use Rattle.frames.specs.TableFrame.{term_room}
use Rattle.terms.specs.Term.{Term, leaf, prefix, binary, size}
use Rattle.terms.specs.words.Held.{HoldsTerm}
use Rattle.terms.proofs.Trees.{leaf_subterms, prefix_subterms, operator_subterms}
use Rattle.terms.proofs.Held.{size_some, holds_behind}
use Rattle.columns.specs.words.Columns.{Columns, look}
use Rattle.columns.proofs.Laws.{look_in}
use Rattle.places.specs.Place.{path_in, PrefixAt, event_path, Literal, own, event, shifted, event_end, literal_at}
use Rattle.places.proofs.Sides.{prefix_inside}
use Rattle.places.proofs.Laws.{own_found, event_found, own_only, event_only, root, Defined}
use Rattle.marks.specs.words.Mark.{own_mark, event_mark}
use Rattle.marks.specs.code.Followed.{find}
use Rattle.marks.specs.code.Followed as Followed
use Rattle.marks.proofs.Laws.{own_is, event_is}

-- the mark of a literal of a definition whose root is number r, 0 where there is none
unfoldable pub mark_of_literal : ℕ → Option Literal → ℕ
mark_of_literal r none = 0
mark_of_literal r (some (own n)) = own_mark (r + n)
mark_of_literal r (some (event n)) = event_mark (r + n)

mark_shifted : (i k : ℕ) (o : Option Literal) → mark_of_literal (i + k) o ≡ mark_of_literal i (shifted k o)
unfolding mark_of_literal shifted
mark_shifted i k none = refl
mark_shifted i k (some (own n)) = ap own_mark (omega arith)
mark_shifted i k (some (event n)) = ap event_mark (omega arith)

mark_chosen : (i : ℕ) (b : Bool) (o p : Option Literal)
    → mark_of_literal i (choose b o p) ≡ choose b (mark_of_literal i o) (mark_of_literal i p)
mark_chosen i true o p = refl
mark_chosen i false o p = refl

-- the mark of an event that a path ends at
mark_ended : (i : ℕ) (w : List ℕ) → Followed.event_end i w ≡ mark_of_literal i (event_end w)
unfolding mark_of_literal event_end Followed.event_end
mark_ended i [] = ap event_mark (omega arith)
mark_ended i (x ∷ w) = refl

-- a step along a path, by how many subterms the term has
module _ (ks xs : List ℕ) (i x : ℕ) (w : List ℕ) where
  find_none : subterms (look term_room ks i) ≡ 0 → find ks xs i (x ∷ w) ≡ 0
  unfolding find
  find_none e = rw e

  find_one : subterms (look term_room ks i) ≡ 1
      → find ks xs i (x ∷ w)
      ≡ choose (eqb x 1) (Followed.event_end i w) (choose (eqb x 2) (find ks xs (suc i) w) 0)
  unfolding find
  find_one e = rw e

  find_two : subterms (look term_room ks i) ≡ 2
      → find ks xs i (x ∷ w)
      ≡ choose (eqb x 1) (find ks xs (suc i) w) (choose (eqb x 2) (find ks xs (look term_room xs (suc i)) w) 0)
  unfolding find
  find_two e = rw e

find_here : (ks xs : List ℕ) (i : ℕ) → i < term_room → find ks xs i [] ≡ mark_of_literal i (some (own 0))
unfolding find mark_of_literal
find_here ks xs i h = rw (lt-ltb i term_room h) (ap own_mark (omega arith))

module _ (ks ps xs : List ℕ) where
  -- where columns hold a term, the mark at a path from it on is that of its literal there
  find_held : (t : Term) (w : List ℕ) (i : ℕ) → HoldsTerm ks ps xs i t → i + size t ≤ term_room
      → find ks xs i w ≡ mark_of_literal i (literal_at t w)
  unfolding size literal_at mark_of_literal
  find_held (leaf l) [] i h b = find_here ks xs i (omega arith)
  find_held (leaf l) (x ∷ w) i h b =
      let kind = look_in term_room ks i (omega arith) in
      find_none ks xs i x w (ap subterms (sym kind ∙ h.0) ∙ leaf_subterms l)
  find_held (prefix e t) [] i h b = find_here ks xs i (omega arith)
  find_held (prefix e t) (x ∷ w) i h b =
      let kind = look_in term_room ks i (omega arith) in
      let inward = find_held t w (suc i) h.3 (omega arith) in
      find_one ks xs i x w (ap subterms (sym kind ∙ h.0) ∙ prefix_subterms)
      ∙ rw (
        mark_chosen i (eqb x 1),
        mark_chosen i (eqb x 2),
        ← mark_ended i w,
        ← mark_shifted i 1 (literal_at t w),
        add-one i,
        inward,
      )
  find_held (binary o t u) [] i h b = find_here ks xs i (omega arith)
  find_held (binary o t u) (x ∷ w) i h b =
      let kind = look_in term_room ks i (omega arith) in
      let behind = holds_behind ks ps xs (suc i) t h.3 in
      let near : suc i < term_room = omega (arith, size_some u) in
      let second : look term_room xs (suc i) ≡ i + (1 + size t) =
      sym (look_in term_room xs (suc i) near) ∙ behind ∙ omega arith in
      let there = look_in term_room xs (suc i) near ∙ second in
      let left = find_held t w (suc i) h.3 (omega arith) in
      let right = find_held u w (i + (1 + size t)) (rw there at h.4) (omega arith) in
      find_two ks xs i x w (ap subterms (sym kind ∙ h.0) ∙ operator_subterms o)
      ∙ rw (
        mark_chosen i (eqb x 1),
        mark_chosen i (eqb x 2),
        ← mark_shifted i 1 (literal_at t w),
        add-one i,
        ← mark_shifted i (1 + size t) (literal_at u w),
        left,
        second,
        right,
      )

-- path w leads from a term whose number is r to the literal of mark m: which literal it is, and that w is its path
pub data Finds (T : Term) (r : ℕ) (w : List ℕ) (m : ℕ) : Type 0 where
  finds_own : (n : ℕ) → literal_at T w ≡ some (own n) → n < size T → w ≡ path_in T n → m ≡ 2 + 2 * (r + n)
      → Finds T r w m
  finds_event : (n : ℕ) → literal_at T w ≡ some (event n) → PrefixAt T n → w ≡ event_path (path_in T n)
      → m ≡ 3 + 2 * (r + n) → Finds T r w m

-- columns that hold definition k
module _ (c : Columns) (k : ℕ) (T : Term) (there : Defined c k T) where
  -- the mark that is found at a path from its root on
  abbrev found_at : List ℕ → ℕ
  found_at w = find c.kinds c.after (root c k) w

  -- it is that of the literal there
  pub find_literal : (w : List ℕ) → found_at w ≡ mark_of_literal (root c k) (literal_at T w)
  find_literal w = find_held c.kinds there.payloads c.after T w _ there.held there.fits

  -- so a literal's own path leads to its mark
  module _ (n : ℕ) where
    pub find_own : n < size T → found_at (path_in T n) ≡ 2 + 2 * (root c k + n)
    unfolding mark_of_literal
    find_own h =
        let inside : root c k + n < 1024 = omega (arith, there.fits) in
        find_literal (path_in T n) ∙ rw (own_found T n h) (own_is (root c k + n) inside)

    pub find_event : PrefixAt T n → found_at (event_path (path_in T n)) ≡ 3 + 2 * (root c k + n)
    unfolding mark_of_literal
    find_event p =
        let inside : root c k + n < 1024 = omega (arith, there.fits, prefix_inside T n p) in
        find_literal (event_path (path_in T n)) ∙ rw (event_found T n p) (event_is (root c k + n) inside)

  -- and a mark that is found at a path is of the literal that has that path, or 0 where none has it
  pub found : (w : List ℕ) → ((literal_at T w ≡ none) × (found_at w ≡ 0)) ⊎ Finds T (root c k) w (found_at w)
  unfolding mark_of_literal
  found w = go (literal_at T w) refl
    where
      go : (o : Option Literal) → literal_at T w ≡ o
          → ((literal_at T w ≡ none) × (found_at w ≡ 0)) ⊎ Finds T (root c k) w (found_at w)
      go none e = inl (e, find_literal w ∙ rw e)
      go (some (own n)) e =
          let (h, p) = own_only T w n e in
          inr (finds_own n e h p (ap found_at p ∙ find_own n h))
      go (some (event n)) e =
          let (h, p) = event_only T w n e in
          inr (finds_event n e h p (ap found_at p ∙ find_event n h))
