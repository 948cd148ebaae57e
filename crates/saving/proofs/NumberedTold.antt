-- The columns of a graph by its numbers tell its canonical graph. The walk over the columns is the graph's,
-- so the numbers are; sorted pairs ascend and join the numbers that the canonical ones join, so they are
-- those; and marks and words are read back as they were put. Assumes nothing.
use Rattle.std.proofs.Common.{ℕ, zero, suc, ◌+◌, ◌-◌, min, ◌≤◌, ◌<◌, ◌≡◌, refl, sym, ap, ap₂, ◌∙◌, Bool, true}
use Rattle.std.proofs.Common.{false, ◌&&◌, ◌||◌, not, List, [], ◌∷◌, ◌++◌, map, arith, zero-add, add-zero}
use Rattle.std.proofs.Common.{add-suc, suc-add, length, get_or, replicate, drop, get_or-append-add}
use Rattle.std.proofs.Common.{get_or-drop, ltb, eqb, ltb-true, ltb-false}
use Rattle.std.proofs.lemmas.List.{length-map, length-replicate, get_or-replicate}
use Rattle.std.proofs.lemmas.List.Edits.{sets, sets-eq}
use Rattle.std.proofs.Math.Option.{Option, none, some}
use Rattle.std.proofs.Math.ListN.{get_elem?}
use Rattle.std.proofs.Math.ListN.{get_or-append, get_or-eq_default}
use Rattle.lines.specs.Line.{choose}
use Rattle.lines.specs.Judging.{accepted}
use Rattle.tables.specs.Table.{Sofar, judged}
use Rattle.tables.specs.words.Columns.{kinds, owners, afters, roots}
use Rattle.terms.specs.Term.{definitions_of}
use Rattle.columns.specs.words.Columns.{Columns, columns}
use Rattle.places.specs.code.Descent.{literal_path, literal_definition}
use Rattle.places.specs.declared.Literal.{Literal}
use Rattle.places.specs.declared.Literal.TheVariants.{Left, Own, Event}
use Rattle.marks.specs.words.Mark.{literal}
use Rattle.columns.proofs.Laws.{look_in, look_out}
use Rattle.control.specs.words.Words.{reference_room, track_words, meetings_from}
use Rattle.rules.specs.Track.{Label, Pair, lookup}
use Rattle.rules.specs.Run.{arc_room, meeting_room}
use Rattle.rules.proofs.Marked.{tally}
use Rattle.rules.proofs.Weighed.{between}
use Rattle.plans.specs.words.Layout.{layout, place_of, found}
use Rattle.control.specs.words.Views.{literal_place, place_told}
use Rattle.graphs.specs.Graph.{Graph, joins, meets}
use Rattle.graphs.specs.Walk.{among, order}
use Rattle.graphs.specs.Saved.{placed, numbered, canonical}
use Rattle.graphs.specs.Shape.{every, branches, ascends}
use Rattle.graphs.proofs.Walking.{Within, among_first, within_rest, distinct_below}
use Rattle.graphs.proofs.Ordered.{order_distinct, order_labelled}
use Rattle.graphs.proofs.Pairs.{ascending_same}
use Rattle.graphs.proofs.Rows.{tested}
use Rattle.graphs.proofs.Counted.{joins_between}
use Rattle.graphs.proofs.Canonical.{canonical_arcs, canonical_arcs_ascend, canonical_arcs_few}
use Rattle.graphs.proofs.Canonical.{canonical_meetings, canonical_meetings_ascend, canonical_meetings_few}
use Rattle.links.specs.words.Columns.{at}
use Rattle.walks.specs.code.Walked.{numbers, laid, marks_by}
use Rattle.walks.proofs.Telling.{Telling, mark_told, labelled_told}
use Rattle.walks.proofs.LinkedWords.{marked, marked_inside}
use Rattle.walks.proofs.LinkTold.{all_fit_told, walked_told}
use Rattle.pairing.specs.code.Renumbered.{renumbered}
use Rattle.sorting.specs.code.Sorted.{sorted}
use Rattle.numbering.specs.code.Numbered.{arcs_in, meetings_in, order_by, arcs_by, meetings_by, graph_numbered}
use Rattle.links.proofs.Listed.{pairs_length, arcs_back, meetings_back}
use Rattle.pairing.proofs.Renumbering.{renumbered_below}
use Rattle.sorting.proofs.Ordering.{sorted_joins, sorted_ascends}
use Rattle.framing.specs.words.Told.{place_by, labels_told, graph_told}
use Rattle.saving.specs.code.Saving.{numbered_told}
use Rattle.saving.proofs.NumberLaws.{Numbers, numbers_told, numbers_most, way, renumbered_joins}
use Rattle.saving.proofs.NumberLaws.{renumbered_times}

-- who meet are joined the one way or the other
tested_meets : (as' : List Pair) (x y : Option ℕ)
    → tested (meets as') x y ≡ tested (joins as') x y || tested (joins as') y x
unfolding tested
tested_meets as' none none = refl
tested_meets as' none (some m) = refl
tested_meets as' (some n) none = refl
tested_meets as' (some n) (some m) = refl

-- pairs of a graph, each of them made once, sorted by their numbers
module _ (g : Graph) (ns : List ℕ) (given : Numbers (order g) ns) where
  abbrev reference : ℕ → Option ℕ
  reference = get_elem? (order g)

  -- are those that ascend and join the same
  pairs_sorted : (either : Bool) (as' bs : List Pair) → (either ≡ true → (n : ℕ) → joins as' n n ≡ true → ⊥)
      → ((i j : ℕ) → between i j as' + choose either (between j i as') 0 ≤ 1) → ascends bs ≡ true
      → ((i j : ℕ) → way either i j (tested (joins as') (reference i) (reference j))
      (tested (joins as') (reference j) (reference i)) ≡ joins bs i j)
      → sorted (length (order g)) (renumbered either ns as') ≡ bs
  pairs_sorted either as' bs apart once up same =
      let d = order_distinct g in
      let n : ℕ = length (order g) in
      let ps = renumbered either ns as' in
      let low = renumbered_below n either ns (numbers_most (order g) ns d given) as' in
      ascending_same (sorted n ps) bs
      (sorted_ascends n ps low (λ i j.
      let seldom = once (get_or (order g) i 0) (get_or (order g) j 0) in
      omega (arith, renumbered_times (order g) ns d given i j either as', seldom)))
      up
      (λ i j. sorted_joins n ps low i j ∙ renumbered_joins (order g) ns d given either as' apart i j ∙ same i j)

  -- so the canonical ones
  arcs_sorted : ((i j : ℕ) → between i j g.arcs ≤ 1)
      → sorted (length (order g)) (renumbered false ns g.arcs) ≡ (canonical g).arcs
  unfolding way
  arcs_sorted once =
      pairs_sorted false g.arcs (canonical g).arcs
      (λ e. let z : ◌≡◌ {A = ℕ} 0 1 = cc in absurd (omega arith))
      (λ i j. omega (arith, once i j)) (canonical_arcs_ascend g) (λ i j. sym (canonical_arcs g i j))

  meetings_sorted : ((i j : ℕ) → between i j g.meetings + between j i g.meetings ≤ 1)
      → sorted (length (order g)) (renumbered true ns g.meetings) ≡ (canonical g).meetings
  unfolding way
  meetings_sorted once =
      pairs_sorted true g.meetings (canonical g).meetings
      (λ e n h. omega (arith, (joins_between n n g.meetings).0 h, once n n)) once
      (canonical_meetings_ascend g)
      (λ i j.
      ap (λ b. ltb i j && b) (sym (tested_meets g.meetings (reference i) (reference j)))
      ∙ sym (canonical_meetings g i j))

-- words put in front of others
module _ (w xs : List ℕ) (few : length xs ≤ length w) (i : ℕ) where
  in_front : sets w 0 xs ≡ xs ++ drop (length xs) w
  in_front = sets-eq xs w 0 (omega arith) ∙ rw (zero-add (length xs))

  front_put : i < length xs → get_or (sets w 0 xs) i 0 ≡ get_or xs i 0
  front_put h = rw in_front (get_or-append xs _ 0 i h)

  front_kept : length xs ≤ i → get_or (sets w 0 xs) i 0 ≡ get_or w i 0
  front_kept h =
      let there : length xs + (i - length xs) ≡ i = omega arith in
      ap (λ l. get_or l i 0) in_front
      ∙ ap (λ (k : ℕ). get_or (xs ++ drop (length xs) w) k 0) (sym there)
      ∙ get_or-append-add xs (drop (length xs) w) (i - length xs) 0
      ∙ get_or-drop (length xs) w (i - length xs) 0
      ∙ ap (λ (k : ℕ). get_or w k 0) there

-- what a column has of the words laid in front of it
pub laid_told : (xs : List ℕ) → length xs ≤ reference_room → (i : ℕ) → at (laid xs) i ≡ get_or xs i 0
laid_told xs few i = go (ltb i reference_room) (ltb i (length xs)) refl refl
  where
    long : length xs ≤ length (replicate {A = ℕ} reference_room 0)
    long = omega (arith, length-replicate {A = ℕ} reference_room 0)

    go : (b c : Bool) → ltb i reference_room ≡ b → ltb i (length xs) ≡ c → at (laid xs) i ≡ get_or xs i 0
    go true true e f =
        sym (look_in reference_room (laid xs) i (ltb-true i reference_room e))
        ∙ front_put _ xs long i (ltb-true i (length xs) f)
    go true false e f =
        let here = ltb-true i reference_room e in
        let past = ltb-false i (length xs) f in
        sym (look_in reference_room (laid xs) i here) ∙ front_kept _ xs long i past
        ∙ get_or-replicate {A = ℕ} reference_room i 0 0 here ∙ sym (get_or-eq_default xs 0 past)
    go false c e f =
        let past = ltb-false i reference_room e in
        sym (look_out reference_room (laid xs) i past) ∙ sym (get_or-eq_default xs 0 (omega arith))

-- what a map has at a place that there is
map_at : (f : ℕ → ℕ) (o : List ℕ) (i : ℕ) → i < length o → get_or (map f o) i 0 ≡ f (get_or o i 0)
map_at f [] i h = absurd (omega arith)
map_at f (n ∷ o) zero h = refl
map_at f (n ∷ o) (suc i) h = map_at f o i (omega arith)

-- labels by the marks of an order are the graph's
labels_numbered : (c : Columns) (ls : List Label) (ms out : List ℕ) (k : ℕ) (o : List ℕ)
    → ((i : ℕ) → i < length o → at out (k + i) ≡ at ms (get_or o i 0))
    → Within (λ n. lookup n ls ≡ some (place_by c (at ms n))) o
    → labels_told c out k (length o) ≡ numbered ls k o
unfolding labels_told numbered placed
labels_numbered c ls ms out k [] marks places = refl
labels_numbered c ls ms out k (n ∷ o) marks places =
    let here : at out k ≡ at ms n = rw add-zero at (marks 0 (omega arith)) in
    let rest = labels_numbered c ls ms out (suc k) o
    (λ i h. ap (at out) (suc-add k i ∙ sym (add-suc k i)) ∙ marks (suc i) (omega arith))
    (within_rest (λ n. lookup n ls ≡ some (place_by c (at ms n))) n o places) in
    rw (places n (among_first n o), here, rest)

-- a table's layout and its columns tell the same place of a literal
pub literal_placed : (s : Sofar) (a : Literal)
    → literal_place (layout s) a ≡ place_of (columns (kinds s) (owners s) (afters s) (roots s)) a
unfolding literal_place layout place_of found literal_definition literal_path
literal_placed s (Left d) = refl
literal_placed s (Own i) = refl
literal_placed s (Event i) = refl

-- graphs by their parts
same_graph : {ls ls' : List Label} {as' bs : List Pair} {ms ns : List Pair} → ls ≡ ls' → as' ≡ bs → ms ≡ ns
    → ◌≡◌ {A = Graph} (record { labels = ls; arcs = as'; meetings = ms })
    (record { labels = ls'; arcs = bs; meetings = ns })
same_graph e f h = rw (e, f, h)

-- a graph that columns tell over a checked table: marks tell its labels, each of them made once, and words
-- its arcs, which branch as they may, and its meetings
module _ (text : List ℕ) (s : Sofar) (q : judged text ≡ accepted s) (ms : List ℕ) (g : Graph)
    (tells : Telling s ms g) (t : List ℕ) (a m : ℕ) (arcs_are : arcs_in ms (kinds s) (afters s) t a m ≡ g.arcs)
    (meetings_are : meetings_in ms (kinds s) (afters s) t a m ≡ g.meetings)
    (once : (n : ℕ) → tally n g.labels ≤ 1)
    (branch : every (branches (definitions_of s) g) g.labels ≡ true) where
  -- there is room for its arcs and meetings
  few_arcs : length g.arcs ≤ arc_room
  few_arcs = omega (arith, ap length arcs_are, pairs_length 0 t 0 (min a arc_room))

  few_meetings : length g.meetings ≤ meeting_room
  few_meetings = omega (arith, ap length meetings_are, pairs_length meetings_from t 0 (min m meeting_room))

  -- the walk over the columns is the graph's
  pub order_told : order_by ms (kinds s) (afters s) t a m ≡ order g
  unfolding order_by
  order_told =
      rw arcs_are
      (walked_told text s q ms g tells (all_fit_told text s q ms g tells once ∙ branch) few_arcs)

  -- whose references are in range
  inside : Within (λ n. n < reference_room) (order g)
  unfolding marked
  inside n i =
      marked_inside ms (kinds s) (afters s) n (sym (labelled_told text s q ms g tells n) ∙ order_labelled g n i)

  -- and have their numbers
  given : Numbers (order g) (numbers (order g))
  given = numbers_told (order g) (order_distinct g) inside

  -- so the numbered arcs and meetings are the canonical ones
  pub arcs_told : ((i j : ℕ) → between i j g.arcs ≤ 1)
      → arcs_by ms (kinds s) (afters s) t a m ≡ (canonical g).arcs
  unfolding arcs_by
  arcs_told few =
      ap₂ (λ o as'. sorted (length o) (renumbered false (numbers o) as')) order_told arcs_are
      ∙ arcs_sorted g (numbers (order g)) given few

  pub meetings_told : ((i j : ℕ) → between i j g.meetings + between j i g.meetings ≤ 1)
      → meetings_by ms (kinds s) (afters s) t a m ≡ (canonical g).meetings
  unfolding meetings_by
  meetings_told few =
      ap₂ (λ o as'. sorted (length o) (renumbered true (numbers o) as')) order_told meetings_are
      ∙ meetings_sorted g (numbers (order g)) given few

  -- the columns that places are worked out from
  abbrev places : Columns
  places = columns (kinds s) (owners s) (afters s) (roots s)

  -- a numbered reference has the place of its mark's literal
  place_is : (n : ℕ) → among n (order g) ≡ true → lookup n g.labels ≡ some (place_by places (at ms n))
  unfolding mark_told
  place_is n i =
      tells.told n
      ∙ go (eqb (at ms n) 0) refl (sym (labelled_told text s q ms g tells n) ∙ order_labelled g n i)
    where
      go : (b : Bool) → eqb (at ms n) 0 ≡ b → not b ≡ true
          → choose b none (some (place_told (layout s) (at ms n))) ≡ some (place_by places (at ms n))
      go true e h = let z : ◌≡◌ {A = ℕ} 0 1 = cc in absurd (omega arith)
      go false e h = ap some (literal_placed s (literal (at ms n)))

  -- there is room for them
  few_nodes : length (order g) ≤ reference_room
  few_nodes = distinct_below reference_room (order g) (order_distinct g) inside

  -- so the labels by the numbers are the canonical ones
  labels_are : labels_told places (graph_numbered ms (kinds s) (afters s) t a m).labels 0
      (min (length (order_by ms (kinds s) (afters s) t a m)) reference_room) ≡ (canonical g).labels
  unfolding graph_numbered canonical
  labels_are =
      let all : min (length (order g)) reference_room ≡ length (order g) = omega (arith, few_nodes) in
      ap (λ o. labels_told places (laid (marks_by ms o)) 0 (min (length o) reference_room)) order_told
      ∙ ap (labels_told places (laid (marks_by ms (order g))) 0) all
      ∙ labels_numbered places g.labels ms (laid (marks_by ms (order g))) 0 (order g)
      (λ i h.
      ap (at (laid (marks_by ms (order g)))) (zero-add i)
      ∙ laid_told (marks_by ms (order g)) (omega (arith, length-map (order g) (at ms), few_nodes)) i
      ∙ map_at (at ms) (order g) i h)
      place_is

  -- the graph that the numbered columns tell is the canonical one
  pub graph_told_canonical : ((i j : ℕ) → between i j g.arcs ≤ 1)
      → ((i j : ℕ) → between i j g.meetings + between j i g.meetings ≤ 1)
      → numbered_told places (graph_numbered ms (kinds s) (afters s) t a m) ≡ canonical g
  unfolding graph_told graph_numbered
  graph_told_canonical few few_met =
      let arcs = arcs_told few in
      let meetings = meetings_told few_met in
      let arcs_fit : length (arcs_by ms (kinds s) (afters s) t a m) ≤ arc_room =
      omega (arith, ap length arcs, canonical_arcs_few g, few_arcs) in
      let meetings_fit : length (meetings_by ms (kinds s) (afters s) t a m) ≤ meeting_room =
      omega (arith, ap length meetings, canonical_meetings_few g, few_meetings) in
      let long = length-replicate {A = ℕ} track_words 0 in
      same_graph labels_are
      (arcs_back (replicate track_words 0) long _ _ arcs_fit meetings_fit _ (omega arith) ∙ arcs)
      (meetings_back (replicate track_words 0) long _ _ arcs_fit meetings_fit _ (omega arith) ∙ meetings)
