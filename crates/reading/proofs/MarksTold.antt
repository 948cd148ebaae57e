-- What the marks of nodes in number order tell, where each has a place that is its: the place, and of a prefix's event the
-- event. A mark is 0 where there is no node, 1 at the left-hand side of definition 00, and else that of the literal at its
-- place, whose number the layout and the columns have there. Assumes nothing.
use Rattle.std.proofs.Common.{ℕ, zero, suc, ◌+◌, ◌*◌, ◌≤◌, ◌<◌, subst, ◌≡◌, refl, sym, ap, ap₂, ◌∙◌, Bool}
use Rattle.std.proofs.Common.{true, false, ◌&&◌, List, ⊎_elim, arith, add-zero, zero-add, length, get_or}
use Rattle.std.proofs.Common.{replicate, eqb, ltb, eqb-true, eq-eqb, ne_eqb, ltb-true, ltb-false}
use Rattle.std.proofs.lemmas.List.Edits.{sets}
use Rattle.std.proofs.Math.Option.{Option, none, some}
use Rattle.std.proofs.Math.ListN.{get_elem?, get_or-eq_default}
use Rattle.lines.specs.Line.{choose}
use Rattle.lines.specs.Judging.{accepted}
use Rattle.lines.proofs.Digits.{both}
use Rattle.frames.specs.TableFrame.{term_room, definition_room}
use Rattle.tables.specs.Table.{Sofar, judged}
use Rattle.tables.specs.words.Columns.{kinds, payloads, afters, roots}
use Rattle.tables.proofs.Whole.{zeros_column}
use Rattle.terms.specs.Term.{Term, leaf, prefix, binary, definitions_of}
use Rattle.terms.specs.words.Held.{HoldsTerm}
use Rattle.terms.proofs.Trees.{listed, listed_below, checked_trees}
use Rattle.terms.proofs.Held.{column_at, checked_holds}
use Rattle.places.specs.Place.{Place, left_path, term_at, IsPrefix, literal_at}
use Rattle.columns.specs.words.Columns.{look}
use Rattle.columns.proofs.Laws.{look_in, look_out}
use Rattle.places.proofs.Sides.{prefix_inside}
use Rattle.places.proofs.Laws.{left_apart, holds_at, checked_roots}
use Rattle.marks.specs.words.Mark.{term_of, is_event}
use Rattle.marks.specs.code.Followed.{find}
use Rattle.marks.proofs.Laws.{low_read, low_tested, own_read, event_read, own_tested, event_tested, term_is}
use Rattle.marks.proofs.Literals.{Finds, finds_own, finds_event, found}
use Rattle.rules.specs.Track.{Label, lookup}
use Rattle.plans.specs.words.Plan.{Layout}
use Rattle.plans.specs.words.Layout.{layout}
use Rattle.plans.proofs.LaidPlaces.{definition_sited, event_of_definition}
use Rattle.control.specs.words.Words.{reference_room}
use Rattle.control.specs.words.Views.{literal_place}
use Rattle.graphs.specs.Graph.{Graph}
use Rattle.graphs.specs.Shape.{same, every, in_order, in_definition, in_term, there, literal_of, placed}
use Rattle.graphs.specs.Shape.{event_of_term, event_of_literal, event_of}
use Rattle.graphs.specs.Shape as Shape
use Rattle.graphs.proofs.Spelled.{each_none, each_first}
use Rattle.graphs.proofs.References.{same_true}
use Rattle.links.specs.words.Columns.{at}
use Rattle.walks.specs.code.Walked.{laid}
use Rattle.walks.proofs.Telling.{mark_told, Telling}
use Rattle.finding.specs.code.Found.{mark_of, marks_of}
use Rattle.finding.proofs.FoundLaws.{marks_length, DefinitionsBelow}
use Rattle.shape_rules.specs.code.Tests.{one_event}

-- the event that a mark tells, none where it is no event's
unfoldable event_told : List ℕ → ℕ → Option ℕ
event_told ps m = choose (is_event m) (some (look term_room ps (term_of m))) none

-- the left-hand side of definition 00
abbrev left_side : Place
left_side = record { definition = 0; path = left_path }

-- a node's place, where it has one, and its mark: none and 0, the left-hand side of definition 00, or a literal's
data Told (s : Sofar) (o : Option Place) (m : ℕ) : Type 0 where
  bare : o ≡ none → m ≡ 0 → Told s o m
  start : o ≡ some left_side → m ≡ 1 → Told s o m
  literal : (w : Place) (T : Term) → o ≡ some w → get_elem? (definitions_of s) w.definition ≡ some T
      → Finds T (look definition_room (roots s) w.definition) w.path m → Told s o m

-- the places that a term's two marks tell
module _ (l : Layout) (t : ℕ) {m : ℕ} where
  own_place : m ≡ 2 + 2 * t → mark_told l m ≡ some (l.place t)
  unfolding mark_told literal_place
  own_place e = rw (ne_eqb m 0 (λ z. omega arith), own_read m t e)

  event_place : m ≡ 3 + 2 * t → mark_told l m ≡ some (l.event t)
  unfolding mark_told literal_place
  event_place e = rw (ne_eqb m 0 (λ z. omega arith), event_read m t e)

-- and the events
module _ (ps : List ℕ) (t : ℕ) {m : ℕ} where
  own_event : m ≡ 2 + 2 * t → event_told ps m ≡ none
  unfolding event_told
  own_event e = rw (own_tested m t e).1

  event_event : m ≡ 3 + 2 * t → event_told ps m ≡ some (look term_room ps t)
  unfolding event_told
  event_event e = rw ((event_tested m t e).1, term_is m t 1 (omega arith) (omega arith))

-- where columns hold a prefix, its payload is its event
payload_event : (ks ps xs : List ℕ) (ts : List Term) (t : Term) (i : ℕ) → HoldsTerm ks ps xs i t → IsPrefix t
    → event_of_term ts (some t) ≡ some (get_or ps i 0)
unfolding event_of_term
payload_event ks ps xs ts (leaf l) i h p = absurd p
payload_event ks ps xs ts (prefix e t) i h p = ap some (sym h.1)
payload_event ks ps xs ts (binary o t u) i h p = absurd p

-- what a column of r has, with words in front of it
laid_at : (r : ℕ) (vs : List ℕ) (n : ℕ) → length vs ≤ r → look r (sets (replicate r 0) 0 vs) n ≡ get_or vs n 0
laid_at r vs n h = go (ltb n r) refl
  where
    go : (b : Bool) → ltb n r ≡ b → look r (sets (replicate r 0) 0 vs) n ≡ get_or vs n 0
    go true e =
        sym (look_in r _ n (ltb-true n r e))
        ∙ ap (λ (l : List ℕ). get_or l n 0) (zeros_column r vs h) ∙ column_at r vs n
    go false e =
        let past = ltb-false n r e in
        sym (look_out r _ n past) ∙ sym (get_or-eq_default vs 0 (omega arith))

-- a place that is looked up among labels of the first d definitions is of one of them
lookup_below : {d : ℕ} {ls : List Label} → DefinitionsBelow d ls → (n : ℕ) (w : Place) → lookup n ls ≡ some w
    → w.definition < d
unfolding lookup
lookup_below each_none n w e = let z : ◌≡◌ {A = ℕ} 0 1 = cc in absurd (omega arith)
lookup_below {d} (each_first {x = l} {xs = ls} h hs) n w e =
    go (eqb n l.reference) e (lookup_below hs n w)
  where
    go : (b : Bool) → choose b (some l.place) (lookup n ls) ≡ some w
        → (lookup n ls ≡ some w → w.definition < d) → w.definition < d
    go true e later = let is : l.place ≡ w = cc in rw is at h
    go false e later = later e

-- two marks are of one event where the events that they tell are
one_event_told : (ts : List Term) (ps : List ℕ) (m n : ℕ)
    → one_event ps m n ≡ Shape.one_event ts (event_told ps m) (event_told ps n)
unfolding one_event Shape.one_event event_told
one_event_told ts ps m n = go (is_event m) (is_event n)
  where
    go : (b c : Bool) → b && (c && eqb (look term_room ps (term_of m)) (look term_room ps (term_of n)))
        ≡ Shape.one_event ts (choose b (some (look term_room ps (term_of m))) none)
        (choose c (some (look term_room ps (term_of n))) none)
    go true true = refl
    go true false = refl
    go false c = refl

-- a checked table
module _ (text : List ℕ) (s : Sofar) (q : judged text ≡ accepted s) where
  abbrev ts : List Term
  ts = definitions_of s

  abbrev root : ℕ → ℕ
  root k = look definition_room (roots s) k

  -- a mark tells its place
  told_place : (o : Option Place) (m : ℕ) → Told s o m → o ≡ mark_told (layout s) m
  unfolding mark_told literal_place
  told_place o m (bare a b) = rw (a, b)
  told_place o m (start a b) = rw (a, ne_eqb m 0 (λ e. omega arith), low_read m (omega arith))
  told_place o m (literal w T a e (finds_own n x h p b)) =
      let is : w ≡ (layout s).place (root w.definition + n) =
      ap (λ (v : List ℕ). record { definition = w.definition; path = v }) p
      ∙ sym (definition_sited text s q w.definition T e n h) in
      a ∙ ap some is ∙ sym (own_place (layout s) (root w.definition + n) b)
  told_place o m (literal w T a e (finds_event n x h p b)) =
      let is : w ≡ (layout s).event (root w.definition + n) =
      ap (λ (v : List ℕ). record { definition = w.definition; path = v }) p
      ∙ sym (event_of_definition text s q w.definition T e n h) in
      a ∙ ap some is ∙ sym (event_place (layout s) (root w.definition + n) b)

  -- no event stands at the left-hand side
  left_no_event : (o : Option Term) → event_of_literal ts o (in_definition o left_path) ≡ none
  unfolding event_of_literal in_definition
  left_no_event none = refl
  left_no_event (some T) = rw (left_apart T)

  -- and its event
  told_event : (o : Option Place) (m : ℕ) → Told s o m → event_of ts o ≡ event_told (payloads s) m
  unfolding event_of event_of_literal in_definition in_term event_told
  told_event o m (bare a b) = rw (a, (low_tested m (omega arith)).1)
  told_event o m (start a b) = rw (a, (low_tested m (omega arith)).1) (left_no_event (get_elem? ts 0))
  told_event o m (literal w T a e (finds_own n x h p b)) =
      rw (a, e, x) (sym (own_event (payloads s) (root w.definition + n) b))
  told_event o m (literal w T a e (finds_event n x h p b)) =
      let i = root w.definition + n in
      let stands = checked_holds text s q w.definition T e in
      let few = listed_below ts w.definition T e in
      let table = checked_trees text s q in
      let at_root = look_in definition_room (roots s) w.definition (omega arith) in
      let below : i < term_room = omega (arith, (checked_roots text s q w.definition T e).fits, prefix_inside T n h) in
      let held = rw at_root at stands.holds in
      let held_there = holds_at (kinds s) (payloads s) (afters s) T n (prefix_inside T n h) _ held in
      rw (a, e, x)
      (payload_event (kinds s) (payloads s) (afters s) ts (term_at T n) i held_there h
      ∙ ap some (look_in term_room (payloads s) i below) ∙ sym (event_event (payloads s) i b))

  -- the mark at a place is that of the literal there
  abbrev found_at : Place → ℕ
  found_at w = find (kinds s) (afters s) (root w.definition) w.path

  literal_told : (w : Place) (T : Term) → get_elem? ts w.definition ≡ some T → there ts (literal_at T w.path) ≡ true
      → Told s (some w) (found_at w)
  unfolding there
  literal_told w T e t =
      ⊎_elim
      (λ z. let y = rw z.0 at t in let n : ◌≡◌ {A = ℕ} 0 1 = cc in absurd (omega arith))
      (literal w T refl e)
      (found _ w.definition T (checked_roots text s q w.definition T e) w.path)

  -- or 1 at the left-hand side of definition 00
  abbrev at_left : Place → Bool
  at_left w = eqb w.definition 0 && same w.path left_path

  place_marked : (w : Place) → w.definition < length ts → (b : Bool)
      → choose b (at_left w) (there ts (literal_of ts w)) ≡ true
      → Told s (some w) (choose b (choose (at_left w) 1 0) (found_at w))
  unfolding in_definition
  place_marked w h true t =
      let (d, p) = both (eqb w.definition 0) (same w.path left_path) t in
      let is_left : w ≡ left_side = ap₂ (λ (n : ℕ) (v : List ℕ). record { definition = n; path = v })
      (eqb-true w.definition 0 d) (same_true w.path left_path p) in
      start (ap some is_left) (rw t)
  place_marked w h false t =
      let (T, r) = listed ts w.definition h in
      literal_told w T r (rw r at t)

  -- a node's mark, where its line has its number and a place that is its
  label_told : (k : ℕ) (l : Label) → l.place.definition < length ts → eqb l.reference k ≡ true
      → placed ts l ≡ true → Told s (some l.place) (mark_of (kinds s) (afters s) (roots s) k l)
  unfolding mark_of placed
  label_told k l h is there_is =
      rw is (place_marked l.place h (eqb k 0) (rw (eqb-true l.reference k is) at there_is))

  -- nodes in number order from k on: node k + n has the mark that stands n behind
  told_from : {ls : List Label} → DefinitionsBelow (length ts) ls → (k n : ℕ) → in_order k ls ≡ true
      → every (placed ts) ls ≡ true
      → Told s (lookup (k + n) ls) (get_or (marks_of (kinds s) (afters s) (roots s) k ls) n 0)
  unfolding lookup marks_of in_order every
  told_from each_none k n o p = bare refl refl
  told_from (each_first {x = l} {xs = ls} h hs) k zero o p =
      let (is, later) = both (eqb l.reference k) (in_order (suc k) ls) o in
      let here = eq-eqb (k + 0) l.reference (add-zero k ∙ sym (eqb-true l.reference k is)) in
      rw here (label_told k l h is (both (placed ts l) (every (placed ts) ls) p).0)
  told_from (each_first {x = l} {xs = ls} h hs) k (suc n) o p =
      let (is, later) = both (eqb l.reference k) (in_order (suc k) ls) o in
      let m : k + suc n ≡ suc k + n = omega arith in
      let away = ne_eqb (k + suc n) l.reference (λ e. omega (arith, eqb-true l.reference k is)) in
      let rest = told_from hs (suc k) n later (both (placed ts l) (every (placed ts) ls) p).1 in
      let marks : List ℕ = marks_of (kinds s) (afters s) (roots s) (suc k) ls in
      rw away (subst (λ (i : ℕ). Told s (lookup i ls) (get_or marks n 0)) (sym m) rest)

  -- a graph of no more labels than references, which have their numbers and places that are theirs
  module _ (g : Graph) (below : DefinitionsBelow (length ts) g.labels) (few : length g.labels ≤ reference_room)
      (numbered : in_order 0 g.labels ≡ true) (all_Placed : every (placed ts) g.labels ≡ true) where
    abbrev marks : List ℕ
    marks = laid (marks_of (kinds s) (afters s) (roots s) 0 g.labels)

    told_at : (n : ℕ) → Told s (lookup n g.labels) (at marks n)
    told_at n =
        let vs = marks_of (kinds s) (afters s) (roots s) 0 g.labels in
        let here : at marks n ≡ get_or vs n 0 =
        laid_at reference_room vs n (omega (arith, marks_length (kinds s) (afters s) (roots s) 0 g.labels)) in
        rw here (rw (zero-add n) at (told_from below 0 n numbered all_Placed))

    -- its marks tell it
    pub marks_telling : Telling s marks g
    marks_telling = record {
      told = λ n. told_place (lookup n g.labels) (at marks n) (told_at n);
      sited = λ n w e out.
          let table = checked_trees text s q in
          omega (arith, lookup_below below n w e);
    }

    -- and two are of one event exactly where the places of their nodes are
    pub events_told : (i j : ℕ)
        → one_event (payloads s) (at marks i) (at marks j)
        ≡ Shape.one_event ts (event_of ts (lookup i g.labels)) (event_of ts (lookup j g.labels))
    events_told i j =
        rw (
          told_event (lookup i g.labels) (at marks i) (told_at i),
          told_event (lookup j g.labels) (at marks j) (told_at j),
        )
        (one_event_told ts (payloads s) (at marks i) (at marks j))
