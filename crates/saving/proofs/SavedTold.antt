-- The words that hold a run are saved as the text of its track. Their labels are marks that tell the run's,
-- the pairs are its arcs and meetings, and a run's track branches as it may, labels each reference once and
-- makes each pair once; so what is told by numbers is its canonical graph. Assumes nothing.
use Rattle.std.proofs.Common.{ℕ, zero, suc, ◌+◌, min, ◌≤◌, ◌<◌, ◌≡◌, refl, sym, ap, ◌∙◌, Bool, true, false}
use Rattle.std.proofs.Common.{List, arith, zero-add, add-zero, add-suc, suc-add, length, get_or, leb, ltb}
use Rattle.std.proofs.Common.{ltb-true, ltb-false, le-ltb}
use Rattle.std.proofs.Math.Option.{some}
use Rattle.std.proofs.Math.ListN.{get_or-eq_default}
use Rattle.lines.specs.Judging.{accepted}
use Rattle.lines.proofs.Digits.{both}
use Rattle.tables.specs.Table.{Sofar, judged}
use Rattle.tables.specs.words.Columns.{kinds, owners, afters, roots}
use Rattle.frames.specs.TableFrame.{path_room, definition_room}
use Rattle.terms.specs.Term.{Term, definitions_of}
use Rattle.terms.proofs.Trees.{each_at, checked_trees}
use Rattle.places.specs.Place.{Place}
use Rattle.control.specs.words.Words.{reference_room, node, meetings_from}
use Rattle.control.specs.words.Control.{label}
use Rattle.rules.specs.Track.{lookup}
use Rattle.rules.specs.Run.{State, arc_room, meeting_room}
use Rattle.rules.proofs.Marked.{labelled_once}
use Rattle.rules.proofs.Meetings.{meetings_once}
use Rattle.rules.proofs.Parents.{arcs_once}
use Rattle.rules.proofs.Weighed.{between}
use Rattle.plans.specs.words.Layout.{layout}
use Rattle.control.specs.words.Views.{pairs, marked}
use Rattle.counting.specs.code.Counting.{fresh, arcs, meetings}
use Rattle.runs.specs.words.Held.{Holds}
use Rattle.graphs.specs.Graph.{graph_of}
use Rattle.graphs.specs.Saved.{graph_text, saved}
use Rattle.graphs.specs.Parsed.{in_range}
use Rattle.graphs.specs.Shape.{every, branches}
use Rattle.graphs.proofs.Counted.{labelled_lookup, times_between}
use Rattle.graphs.proofs.Tracked.{run_branches, run_ranged, run_rooms}
use Rattle.links.specs.words.Columns.{at}
use Rattle.walks.proofs.Telling.{Telling, mark_told}
use Rattle.walks.proofs.LinkTold.{every_member}
use Rattle.saving.specs.code.Saving.{marks_from, marks, text_of}
use Rattle.columns.specs.words.Columns.{Columns, all_columns}
use Rattle.tables.specs.words.Columns.{TableOf}
use Rattle.saving.proofs.MarkLaws.{marks_length}
use Rattle.saving.proofs.NumberedTold.{laid_told, graph_told_canonical}

-- the marks of references are their labels
marks_at : (w : List ℕ) (k n i : ℕ) → i < n → get_or (marks_from w k n) i 0 ≡ label w (k + i)
unfolding marks_from
marks_at w k zero i h = absurd (omega arith)
marks_at w k (suc n) zero h = ap (label w) (sym (add-zero k))
marks_at w k (suc n) (suc i) h =
    marks_at w (suc k) n i (omega arith) ∙ ap (label w) (suc-add k i ∙ sym (add-suc k i))

-- a reference out of range has no label
label_outside : (w : List ℕ) (n : ℕ) → reference_room ≤ n → label w n ≡ 0
unfolding node
label_outside w n h = rw (le-ltb n reference_room h)

-- the column of marks has all labels, where what is not drawn has none
marks_told : (ks xs w g c : List ℕ) → ((j : ℕ) → fresh c ≤ j → label w j ≡ 0) → (n : ℕ)
    → at (marks ks xs w g c) n ≡ label w n
unfolding marks
marks_told ks xs w g c clean n =
    laid_told (marks_from w 0 k) (omega (arith, marks_length w 0 k)) n
    ∙ go (ltb n k) (ltb n reference_room) refl refl
  where
    k : ℕ
    k = min (fresh c) reference_room

    none_there : k ≤ n → get_or (marks_from w 0 k) n 0 ≡ 0
    none_there h = get_or-eq_default (marks_from w 0 k) 0 (omega (arith, marks_length w 0 k))

    go : (a b : Bool) → ltb n k ≡ a → ltb n reference_room ≡ b → get_or (marks_from w 0 k) n 0 ≡ label w n
    go true b e f = marks_at w 0 k n (ltb-true n k e) ∙ ap (label w) (zero-add n)
    go false true e f =
        let past = ltb-false n k e in
        none_there past ∙ sym (clean n (omega (arith, ltb-true n reference_room f)))
    go false false e f =
        none_there (ltb-false n k e) ∙ sym (label_outside w n (ltb-false n reference_room f))

-- words that hold a run of a checked table, whose columns are its own
module _ (text : List ℕ) (t : Sofar) (q : judged text ≡ accepted t) (p x w g c : List ℕ) (s : State)
    (h : Holds (layout t) p x (definitions_of t) w g c s) where
  abbrev ts : List Term
  ts = definitions_of t

  -- every place of a run is in a definition of the table
  sited : (n : ℕ) (v : Place) → lookup n s.labels ≡ some v → v.definition ≡ definition_room → ⊥
  unfolding in_range
  sited n v e away =
      let table = checked_trees text t q in
      let ranged = (run_ranged ts h.reached
      (λ k tree is. (each_at t.definitions t.events ts table.each k tree is).0)
      (omega (arith, table.many, table.some_definitions)) n v e).0 in
      let low = ltb-true v.definition (length ts) (both (leb (length v.path) path_room) _ ranged).1 in
      omega (arith, table.many, table.few_definitions, low, away)

  -- the marks tell its labels
  marks_tell : (ks xs : List ℕ) → Telling t (marks ks xs w g c) (graph_of s)
  unfolding marked mark_told
  marks_tell ks xs = record {
    told = λ n.
        let mark = marks_told ks xs w g c (λ j l. h.whole.clean j 0 l (omega arith)) n in
        sym (h.tells.labels_told n) ∙ ap (mark_told (layout t)) (sym mark);
    sited = sited;
  }

  -- each branches as it may
  branch : every (branches ts (graph_of s)) s.labels ≡ true
  branch =
      every_member (branches ts (graph_of s)) s.labels (λ l i.
      run_branches ts h.reached l.reference l.place
      (labelled_lookup i (labelled_once ts h.reached l.reference)))

  -- the pairs are its arcs and meetings
  arcs_are : pairs 0 g 0 (min (arcs c) arc_room) ≡ s.arcs
  arcs_are =
      let all : min (arcs c) arc_room ≡ arcs c =
      omega (arith, h.tells.arcs_are, (run_rooms ts h.reached).1) in
      ap (pairs 0 g 0) all ∙ h.tells.arcs_told

  meetings_are : pairs meetings_from g 0 (min (meetings c) meeting_room) ≡ s.meetings
  meetings_are =
      let all : min (meetings c) meeting_room ≡ meetings c =
      omega (arith, h.tells.meetings_are, (run_rooms ts h.reached).2) in
      ap (pairs meetings_from g 0) all ∙ h.tells.meetings_told

  -- no two meet twice
  met_once : (i j : ℕ) → between i j s.meetings + between j i s.meetings ≤ 1
  met_once i j =
      rw (← times_between i j s.meetings, ← times_between j i s.meetings)
      (meetings_once ts h.reached i j)

  -- so its saved text is that of the words
  words_saved : text_of (kinds t) (owners t) (afters t) (roots t) w g c ≡ saved (graph_of s)
  unfolding text_of
  words_saved =
      ap graph_text (graph_told_canonical text t q (marks (kinds t) (afters t) w g c) (graph_of s)
      (marks_tell (kinds t) (afters t)) g (arcs c) (meetings c) arcs_are meetings_are
      (labelled_once ts h.reached) branch (arcs_once ts h.reached) met_once)

-- the text of words that hold a run is its track's saved text
pub saves_told : (text ks ps os xs rs : List ℕ) (t : Sofar) → TableOf text (all_columns ks ps os xs rs) t
    → (p x w g c : List ℕ) (s : State) → Holds (layout t) p x (definitions_of t) w g c s
    → text_of ks os xs rs w g c ≡ saved (graph_of s)
saves_told text ks ps os xs rs t table p x w g c s h =
    ap (λ (q : Columns). text_of q.kinds q.owners q.after q.roots w g c) table.columns_are
    ∙ words_saved text t table.checked p x w g c s h
