-- What the marks of a graph in columns tell of a checked table. A mark is the start's or that of a literal of one
-- definition's tree, its own or its event; its number lies in the run of a side exactly where its path begins with
-- that side's, so columns tell which literals split and which side of a literal another stands on. Assumes nothing.
use Rattle.std.proofs.Common.{ℕ, zero, suc, ◌+◌, ◌*◌, ◌≤◌, ◌<◌, ◌≡◌, refl, sym, ap, subst, ◌∙◌, Bool, true}
use Rattle.std.proofs.Common.{false, ◌&&◌, ◌||◌, not, List, [], ◌∷◌, ◌++◌, append-nil, inl, inr, arith}
use Rattle.std.proofs.Common.{add_assoc, add-one, length, get_or, leb, ltb, eqb, eqb-true, ne_eqb, ltb-true}
use Rattle.std.proofs.Common.{ltb-false, le-ltb, leb-true, leb-false}
use Rattle.std.proofs.lemmas.Bool.{eqb-false}
use Rattle.std.proofs.Math.Bool.{and-false}
use Rattle.std.proofs.Math.Option.{Option, none, some, some-injective}
use Rattle.std.proofs.Math.ListN.{get_elem?}
use Rattle.lines.specs.Line.{choose}
use Rattle.lines.specs.Judging.{accepted}
use Rattle.kinds.specs.Kind as Kind
use Rattle.frames.specs.TableFrame.{term_room, definition_room}
use Rattle.tables.specs.Table.{Sofar, judged}
use Rattle.tables.specs.words.Columns.{kinds, owners, afters, roots}
use Rattle.terms.specs.Term.{Term, Operator, call, SKIP, STOP, internal, external, sequence, parallel, size}
use Rattle.terms.specs.Term.{leaf_kind, operator_kind, definitions_of}
use Rattle.terms.specs.words.Held.{HoldsTerm}
use Rattle.terms.proofs.Held.{holds_behind, size_some}
use Rattle.places.specs.Place.{Place, path_in, term_at, left_path, begins, under}
use Rattle.columns.specs.words.Columns.{look, columns}
use Rattle.columns.proofs.Laws.{look_in}
use Rattle.places.proofs.Sides.{Side, first, second, side_inside}
use Rattle.places.proofs.Laws.{own_found, event_found, left_apart, holds_at, Defined, checked_roots}
use Rattle.marks.proofs.Laws.{Read, unmarked, at_start, at_own, at_event, read, low_read, own_read, event_read}
use Rattle.marks.proofs.Laws.{low_tested, own_tested, event_tested, term_is}
use Rattle.rules.specs.Track.{lookup}
use Rattle.plans.specs.words.Plan.{Layout}
use Rattle.plans.specs.words.Layout.{layout}
use Rattle.plans.proofs.LaidMarks.{InTable, own_sited, event_sited}
use Rattle.control.specs.words.Views.{literal_place, place_told}
use Rattle.graphs.specs.Graph.{Graph, present, labelled}
use Rattle.graphs.specs.Shape.{in_definition, in_term, splits_term, splits_literal}
use Rattle.graphs.specs.Shape as Shape
use Rattle.graphs.proofs.Pairs.{refuted}
use Rattle.links.specs.words.Columns.{at}
use Rattle.links.specs.code.Linked.{splits, side_of, slot}
use Rattle.walks.proofs.SideLaws.{runs, runs_in, runs_before, runs_behind, runs_true, runs_moved, Tail}
use Rattle.walks.proofs.SideLaws.{term_fits, side_begins}

-- the place that a mark tells; 0 is no mark
unfoldable pub mark_told : Layout → ℕ → Option Place
mark_told l m = choose (eqb m 0) none (some (place_told l m))

-- marks that tell a graph's labels, each of which stands in a definition
pub record Telling (s : Sofar) (ms : List ℕ) (g : Graph) : Type 0 where
  pub told : (n : ℕ) → lookup n g.labels ≡ mark_told (layout s) (at ms n)
  pub sited : (n : ℕ) (w : Place) → lookup n g.labels ≡ some w → w.definition ≡ definition_room → ⊥

-- a mark and its place: the start's, or a literal's of a tree
data Marks (s : Sofar) (m : ℕ) (w : Place) : Type 0 where
  start : m ≡ 1 → w ≡ record { definition = 0; path = left_path } → Marks s m w
  literal : (t : ℕ) (b : InTable s t) (r : List ℕ) → Tail b.tree b.number r → m ≡ 2 + 2 * t + length r
      → w ≡ record { definition = b.definition; path = path_in b.tree b.number ++ r } → Marks s m w

-- a tail has at most one digit
tail_short : (T : Term) (j : ℕ) (r : List ℕ) → Tail T j r → length r ≤ 1
tail_short T j r (inl e) = omega (arith, ap length e)
tail_short T j r (inr (p, e)) = omega (arith, ap length e)

-- a kind that splits is that of a term that does
kind_splits : (ks ps xs : List ℕ) (i : ℕ) (ts : List Term) (T : Term) → HoldsTerm ks ps xs i T
    → (eqb (get_or ks i 0) Kind.external || eqb (get_or ks i 0) Kind.parallel) ≡ splits_term ts (some T)
unfolding leaf_kind operator_kind splits_term
kind_splits ks ps xs i ts (Term.leaf (call d)) h = rw h.0
kind_splits ks ps xs i ts (Term.leaf SKIP) h = rw h.0
kind_splits ks ps xs i ts (Term.leaf STOP) h = rw h.0
kind_splits ks ps xs i ts (Term.prefix e t) h = rw h.0
kind_splits ks ps xs i ts (Term.binary internal t u) h = rw h.0
kind_splits ks ps xs i ts (Term.binary external t u) h = rw h.0
kind_splits ks ps xs i ts (Term.binary sequence t u) h = rw h.0
kind_splits ks ps xs i ts (Term.binary (parallel x) t u) h = rw h.0

-- what splits has two sides
two_sides : (ts : List Term) (T : Term) → splits_term ts (some T) ≡ true
    → (o : Operator) × (t : Term) × (u : Term) × (T ≡ Term.binary o t u)
unfolding splits_term
two_sides ts (Term.leaf l) e = let z : ◌≡◌ {A = ℕ} 0 1 = cc in absurd (omega arith)
two_sides ts (Term.prefix x t) e = let z : ◌≡◌ {A = ℕ} 0 1 = cc in absurd (omega arith)
two_sides ts (Term.binary o t u) e = (o, t, u, refl)

-- a side by where the numbers of both end
side_runs : (xs : List ℕ) (t a c u : ℕ) → look term_room xs (t + 1) ≡ t + (1 + a)
    → look term_room xs t ≡ t + (1 + a) + c
    → (eqb (side_of xs t u) 1 ≡ runs (t + 1) a u)
    × (eqb (side_of xs t u) 2 ≡ runs (t + (1 + a)) c u)
unfolding side_of
side_runs xs t a c u behind_first behind_all =
    rw (behind_first, behind_all)
    (go (leb u t) (ltb u (t + (1 + a))) (ltb u (t + (1 + a) + c)) refl refl refl)
  where
    go : (h i j : Bool) → leb u t ≡ h → ltb u (t + (1 + a)) ≡ i → ltb u (t + (1 + a) + c) ≡ j
        → (eqb (choose h 0 (choose i 1 (choose j 2 0))) 1 ≡ runs (t + 1) a u)
        × (eqb (choose h 0 (choose i 1 (choose j 2 0))) 2 ≡ runs (t + (1 + a)) c u)
    go true i j p q r =
        let l = leb-true u t p in
        (sym (runs_before (t + 1) a u (omega arith)), sym (runs_before (t + (1 + a)) c u (omega arith)))
    go false true j p q r =
        let l = leb-false u t p in
        let k = ltb-true u (t + (1 + a)) q in
        (sym (runs_in (t + 1) a u (omega arith) (omega arith)), sym (runs_before (t + (1 + a)) c u k))
    go false false true p q r =
        let k = ltb-false u (t + (1 + a)) q in
        let l = ltb-true u (t + (1 + a) + c) r in
        (sym (runs_behind (t + 1) a u (omega arith)), sym (runs_in (t + (1 + a)) c u k l))
    go false false false p q r =
        let k = ltb-false u (t + (1 + a)) q in
        let l = ltb-false u (t + (1 + a) + c) r in
        (sym (runs_behind (t + 1) a u (omega arith)), sym (runs_behind (t + (1 + a)) c u l))

-- the left-hand side's path is under no side
left_outside : (p : List ℕ) (x : ℕ) → 1 ≤ x → begins (p ++ (x ∷ [])) left_path ≡ false
unfolding begins
left_outside [] x h = rw (ne_eqb x 0 (λ e. omega arith))
left_outside (y ∷ []) x h = and-false (eqb y 0)
left_outside (y ∷ z ∷ p) x h = and-false (eqb y 0)

-- slot x is where an arc from a literal at w to one at v leads: the second side where w does not split, and else the
-- side that v is on
pub record Leads (ts : List Term) (w v : Place) (x : ℕ) : Type 0 where
  pub whole : Shape.splits ts w ≡ false → x ≡ 2
  pub sided : Shape.splits ts w ≡ true → (y : ℕ) → 1 ≤ y → y ≤ 2 → eqb x y ≡ under w y v

-- a checked table
module _ (text : List ℕ) (s : Sofar) (q : judged text ≡ accepted s) where
  abbrev ts : List Term
  ts = definitions_of s

  abbrev root : ℕ → ℕ
  root = look definition_room (roots s)

  -- a mark of a place in a definition
  marks : (m : ℕ) → (m ≡ 0 → ⊥) → ((place_told (layout s) m).definition ≡ definition_room → ⊥)
      → Marks s m (place_told (layout s) m)
  unfolding literal_place
  marks m some_mark away = go (read m)
    where
      go : Read m → Marks s m (place_told (layout s) m)
      go (unmarked e) = absurd (some_mark e)
      go (at_start e) = start e (rw (low_read m (omega arith)))
      go (at_own t e) =
          let (b, place) = own_sited text s q t (rw (own_read m t e) at away) in
          literal t b [] (inl refl) (omega arith)
          (rw (own_read m t e) (place ∙ rw (append-nil (path_in b.tree b.number))))
      go (at_event t e) =
          let (b, p, place) = event_sited text s q t (rw (event_read m t e) at away) in
          literal t b (1 ∷ []) (inr (p, refl)) (omega arith) (rw (event_read m t e) place)

  -- what the columns have of a number of a tree, with its term
  module _ (t : ℕ) (b : InTable s t) where
    defined : Defined (columns (kinds s) (owners s) (afters s) (roots s)) b.definition b.tree
    defined = checked_roots text s q b.definition b.tree b.is

    -- they hold its term
    held : HoldsTerm (kinds s) defined.payloads (afters s) t (term_at b.tree b.number)
    held =
        subst (λ i. HoldsTerm (kinds s) defined.payloads (afters s) i (term_at b.tree b.number)) (sym b.sum)
        (holds_at (kinds s) defined.payloads (afters s) b.tree b.number b.inside
        (root b.definition) defined.held)

    fits : t + size (term_at b.tree b.number) ≤ term_room
    fits = omega (arith, b.sum, defined.fits, term_fits b.tree b.number b.inside)

    -- the column of kinds tells which terms split
    kind_told : (eqb (look term_room (kinds s) t) Kind.external || eqb (look term_room (kinds s) t) Kind.parallel)
        ≡ splits_term ts (some (term_at b.tree b.number))
    kind_told =
        let few = size_some (term_at b.tree b.number) in
        let room = fits in
        rw (← look_in term_room (kinds s) t (omega arith))
        (kind_splits (kinds s) defined.payloads (afters s) t ts (term_at b.tree b.number) held)

  -- a mark that splits is of a literal that does
  mark_splits : (m : ℕ) (w : Place) → Marks s m w → splits (kinds s) m ≡ Shape.splits ts w
  unfolding splits splits_literal in_term in_definition
  mark_splits m w (start e p) = rw ((low_tested m (omega arith)).0, p) (go (get_elem? ts 0))
    where
      go : (o : Option Term) → false ≡ splits_literal ts o (in_definition o left_path)
      go none = refl
      go (some T) = rw (left_apart T)
  mark_splits m w (literal t b r (inl none-behind) e p) =
      let is : m ≡ 2 + 2 * t = omega (arith, ap length none-behind) in
      let path = append-nil (path_in b.tree b.number) in
      rw (p, b.is, none-behind, path, own_found b.tree b.number b.inside)
      (rw ((own_tested m t is).0, term_is m t 0 (omega arith) (omega arith)) (kind_told t b))
  mark_splits m w (literal t b r (inr (prefix, behind)) e p) =
      let is : m ≡ 3 + 2 * t = omega (arith, ap length behind) in
      rw (p, b.is, behind, event_found b.tree b.number prefix) (rw (event_tested m t is).0)

  -- a literal is under a side exactly where its number is one of the side's
  under_runs : (d d' : ℕ) (T T' : Term) → get_elem? ts d ≡ some T → get_elem? ts d' ≡ some T' → (i j : ℕ) → i < size T
      → j < size T' → (r : List ℕ) → Tail T' j r → (u : Term) (x k : ℕ) → Side (term_at T i) x k u
      → (eqb d' d && begins (path_in T i ++ (x ∷ [])) (path_in T' j ++ r))
      ≡ runs (root d + i + k) (size u) (root d' + j)
  under_runs d d' T T' is is' i j h l r tail u x k side = go (eqb d' d) refl
    where
      go : (b : Bool) → eqb d' d ≡ b → (b && begins (path_in T i ++ (x ∷ [])) (path_in T' j ++ r))
          ≡ runs (root d + i + k) (size u) (root d' + j)
      go true e =
          let one : d' ≡ d = eqb-true d' d e in
          let tree : T' ≡ T = some-injective _ _ (sym is' ∙ ap (get_elem? ts) one ∙ is) in
          rw (one, tree, add_assoc (root d) i k, runs_moved (root d) (i + k) (size u) j)
          (side_begins T i h j (rw tree at l) r (rw tree at tail) u x k side)
      go false e =
          sym (refuted (runs (root d + i + k) (size u) (root d' + j)) (λ yes.
          let (from, to) = runs_true (root d + i + k) (size u) (root d' + j) yes in
          let inside = side_inside side in
          let fitting = term_fits T i h in
          let own = (checked_roots text s q d T is).owned (root d' + j) (omega arith) (omega arith) in
          let other = (checked_roots text s q d' T' is').owned (root d' + j) (omega arith) (omega arith) in
          eqb-false d' d e (sym other ∙ own)))

  -- a literal that splits: a term's own, with two sides
  record Splitter (m : ℕ) (w : Place) : Type 0 where
    term : ℕ
    of : InTable s term
    mark : m ≡ 2 + 2 * term
    place : w ≡ record { definition = of.definition; path = path_in of.tree of.number }
    operator : Operator
    left : Term
    right : Term
    is : term_at of.tree of.number ≡ Term.binary operator left right

  -- the mark tells which
  splitter : (m : ℕ) (w : Place) → splits (kinds s) m ≡ true → Marks s m w → Splitter m w
  unfolding splits
  splitter m w h (start e p) =
      let no = rw (low_tested m (omega arith)).0 at h in
      let z : ◌≡◌ {A = ℕ} 0 1 = cc in absurd (omega arith)
  splitter m w h (literal t b r (inl none-behind) e p) =
      let mark : m ≡ 2 + 2 * t = omega (arith, ap length none-behind) in
      let splitting = rw ((own_tested m t mark).0, term_is m t 0 (omega arith) (omega arith)) at h in
      let (o, a, c, is) = two_sides ts (term_at b.tree b.number) (sym (kind_told t b) ∙ splitting) in
      record {
        term = t;
        of = b;
        mark = mark;
        place = p ∙ rw (none-behind, append-nil (path_in b.tree b.number));
        operator = o;
        left = a;
        right = c;
        is = is;
      }
  splitter m w h (literal t b r (inr (prefix, behind)) e p) =
      let no = rw (event_tested m t (omega (arith, ap length behind))).0 at h in
      let z : ◌≡◌ {A = ℕ} 0 1 = cc in absurd (omega arith)

  -- the numbers behind its sides
  module _ (m : ℕ) (w : Place) (p : Splitter m w) where
    behind_sides : (look term_room (afters s) (p.term + 1) ≡ p.term + (1 + size p.left))
        × (look term_room (afters s) p.term ≡ p.term + (1 + size p.left) + size p.right)
    unfolding size
    behind_sides =
        let b = p.of in
        let columns_hold = rw p.is at (held p.term b) in
        let room = rw p.is at (fits p.term b) in
        let some_right = size_some p.right in
        let ps = (defined p.term b).payloads in
        let first_ends = holds_behind (kinds s) ps (afters s) (suc p.term) p.left columns_hold.3 in
        let whole = Term.binary p.operator p.left p.right in
        let all_ends = holds_behind (kinds s) ps (afters s) p.term whole columns_hold in (
          rw (add-one, ← look_in term_room (afters s) (suc p.term) (omega arith)) (omega arith),
          rw (← look_in term_room (afters s) p.term (omega arith)) (omega arith),
        )

    -- a literal is under one of its sides where its number is one of that side's
    under_side : (t : ℕ) (b : InTable s t) (r : List ℕ) → Tail b.tree b.number r → (v : Place)
        → v ≡ record { definition = b.definition; path = path_in b.tree b.number ++ r }
        → (u : Term) (x k : ℕ) → Side (Term.binary p.operator p.left p.right) x k u
        → runs (p.term + k) (size u) t ≡ under w x v
    unfolding under
    under_side t b r tail v e u x k side =
        let a = p.of in
        rw (p.place, e)
        (rw (← a.sum, ← b.sum) at (sym (under_runs a.definition b.definition a.tree b.tree a.is b.is
        a.number b.number a.inside b.inside r tail u x k (rw p.is side))))

    -- so an arc leads to the side that its target is under
    splitter_leads : splits (kinds s) m ≡ true → (m' : ℕ) (v : Place) → Marks s m' v → (x : ℕ) → 1 ≤ x → x ≤ 2
        → eqb (slot (kinds s) (afters s) m m') x ≡ under w x v
    unfolding slot under
    splitter_leads h m' v (start e at_left) x least most =
        rw (h, e, p.place, at_left, left_outside (path_in p.of.tree p.of.number) x least)
        (ne_eqb 0 x (λ z. omega arith) ∙ sym (and-false (eqb 0 p.of.definition)))
    splitter_leads h m' v (literal t b r tail e at-v) x least most =
        let from = term_is m p.term 0 (omega arith) (omega (arith, p.mark)) in
        let to = term_is m' t (length r) (tail_short b.tree b.number r tail) e in
        rw (h, le-ltb m' 2 (omega arith), from, to) (go x least most)
      where
        by_number : (eqb (side_of (afters s) p.term t) 1 ≡ runs (p.term + 1) (size p.left) t)
            × (eqb (side_of (afters s) p.term t) 2 ≡ runs (p.term + (1 + size p.left)) (size p.right) t)
        by_number =
            let (behind_first, behind_all) = behind_sides in
            side_runs (afters s) p.term (size p.left) (size p.right) t behind_first behind_all

        go : (x : ℕ) → 1 ≤ x → x ≤ 2 → eqb (side_of (afters s) p.term t) x ≡ under w x v
        go zero least most = absurd (omega arith)
        go (suc zero) least most =
            by_number.0 ∙ under_side t b r tail v at-v p.left 1 1 (first p.operator p.left p.right)
        go (suc (suc zero)) least most =
            by_number.1 ∙ under_side t b r tail v at-v p.right 2 _ (second p.operator p.left p.right)
        go (suc (suc (suc x))) least most = absurd (omega arith)

  -- a graph that marks tell
  module _ (ms : List ℕ) (g : Graph) (tells : Telling s ms g) where
    -- a reference is labelled where it has a mark
    pub labelled_told : (n : ℕ) → labelled g n ≡ not (eqb (at ms n) 0)
    unfolding mark_told present
    labelled_told n = rw (tells.told n) (go (eqb (at ms n) 0))
      where
        go : (b : Bool) → present (choose b none (some (place_told (layout s) (at ms n)))) ≡ not b
        go true = refl
        go false = refl

    -- with the mark of its place
    label_marks : (n : ℕ) (w : Place) → lookup n g.labels ≡ some w → Marks s (at ms n) w
    unfolding mark_told
    label_marks n w e = go (eqb (at ms n) 0) refl (sym (tells.told n) ∙ e)
      where
        go : (b : Bool) → eqb (at ms n) 0 ≡ b → choose b none (some (place_told (layout s) (at ms n))) ≡ some w
            → Marks s (at ms n) w
        go true z i = let z : ◌≡◌ {A = ℕ} 0 1 = cc in absurd (omega arith)
        go false z i =
            let same : place_told (layout s) (at ms n) ≡ w = some-injective _ _ i in
            rw same at (marks (at ms n) (eqb-false (at ms n) 0 z) (rw (← same) at (tells.sited n w e)))

    -- the mark of a place splits where the place does
    pub splits_told : (n : ℕ) (w : Place) → lookup n g.labels ≡ some w
        → splits (kinds s) (at ms n) ≡ Shape.splits (definitions_of s) w
    splits_told n w e = mark_splits (at ms n) w (label_marks n w e)

    -- the marks of two places tell where an arc from the one to the other leads
    pub slot_told : (n m : ℕ) (w v : Place) → lookup n g.labels ≡ some w → lookup m g.labels ≡ some v
        → Leads (definitions_of s) w v (slot (kinds s) (afters s) (at ms n) (at ms m))
    unfolding slot
    slot_told n m w v e i = go (splits (kinds s) (at ms n)) refl
      where
        not_both : (b : Bool) {A : Type 0} → b ≡ true → b ≡ false → A
        not_both b p q = let z : ◌≡◌ {A = ℕ} 0 1 = cc in absurd (omega arith)

        go : (b : Bool) → splits (kinds s) (at ms n) ≡ b
            → Leads (definitions_of s) w v (slot (kinds s) (afters s) (at ms n) (at ms m))
        go true h =
            let p = splitter (at ms n) w h (label_marks n w e) in
            record {
              whole = λ no. not_both _ h (splits_told n w e ∙ no);
              sided = λ _. splitter_leads (at ms n) w p h (at ms m) v (label_marks m v i);
            }
        go false h =
            record {
              whole = λ _. rw h;
              sided = λ yes. not_both _ (splits_told n w e ∙ yes) h;
            }
