-- A saved track read and written again, by the promises of reading, saving and writing alone. The columns that
-- reading leaves tell the graph that the text says: its marks tell the places of its nodes, which stand in number
-- order, and its pairs are read back from their words. So what is written of them is the text. Assumes nothing.
use Rattle.std.specs.Prelude.{ℕ, zero, suc, ◌+◌, min, ◌≤◌, ◌<◌, ◌≡◌, refl, Bool, true, false, not, List}
use Rattle.std.specs.Prelude.{length, replicate, ltb, eqb}
use Rattle.std.proofs.Common.{sym, ap, ◌∙◌, arith, lt-ltb}
use Rattle.std.proofs.lemmas.List.{length-replicate}
use Rattle.std.proofs.lemmas.List.Edits.{sets}
use Rattle.std.proofs.Math.Option.{some}
use Rattle.lines.specs.Judging.{Judged, accepted, refused}
use Rattle.lines.proofs.Digits.{both}
use Rattle.tables.specs.Table.{Sofar, judged}
use Rattle.tables.specs.words.Columns.{kinds, owners, afters, roots, TableOf}
use Rattle.terms.specs.Term.{Term, definitions_of}
use Rattle.columns.specs.words.Columns.{Columns, columns, all_columns, read_columns}
use Rattle.marks.specs.words.Mark.{literal}
use Rattle.rules.specs.Track.{Label, lookup}
use Rattle.rules.specs.Run.{State, arc_room, meeting_room}
use Rattle.control.specs.words.Words.{reference_room, track_words, meetings_from}
use Rattle.control.specs.words.Views.{pairs}
use Rattle.graphs.specs.Graph.{Graph, graph_of, labelled}
use Rattle.graphs.specs.Walk.{order}
use Rattle.graphs.specs.Saved.{placed, numbered, canonical, graph_text, saved}
use Rattle.graphs.specs.Parsed.{parsed}
use Rattle.graphs.specs.Shape.{every, in_order, from_on, walked, shaped, ascends, branches, read}
use Rattle.graphs.specs.Shape as Shape
use Rattle.graphs.proofs.References.{same_true}
use Rattle.graphs.proofs.Spelled.{Fits, says_text}
use Rattle.graphs.proofs.Kept.{read_parts, saved_reads_back, read_writes_again, numbers_labelled}
use Rattle.links.specs.words.Columns.{at, flat, counts_of}
use Rattle.walks.specs.code.Walked.{laid}
use Rattle.links.specs.declared.GraphCounts.{GraphCounts}
use Rattle.walks.proofs.Telling.{Telling, mark_told, labelled_told}
use Rattle.links.proofs.Listed.{arcs_back, meetings_back}
use Rattle.framing.specs.words.Told.{place_by, labels_told, graph_told}
use Rattle.writing.specs.Answers.{Saved}
use Rattle.saving.proofs.NumberedTold.{literal_placed}
use Rattle.finding.specs.code.Found.{marks_of}
use Rattle.reading.specs.code.Outcome.{track_of, TrackRead, with_graph, graph_read, by_outcome}
use Rattle.reading.specs.words.Kept.{Reads}
use Rattle.reading.specs.Answers.{Read, Accepted, Refused}
use Rattle.reading.proofs.MarksTold.{marks_telling}
use Rattle.reading.proofs.RuleLaws.{labels_below}
use Rattle.runs.specs.words.Held.{Words}
use Rattle.demands.specs.words.Words.{HoldsRun, SavesWords, Writes, told_by}
use Rattle.demands.specs.words.Bytes.{bytes_of}
use Rattle.demands.proofs.SavedBytes.{written_bytes, checked_shallow, checked_count, save_leaves}

-- the places of a table's columns
abbrev places : Sofar → Columns
places t = columns (kinds t) (owners t) (afters t) (roots t)

-- labels by marks, where each number has the place of its mark
labels_again : (c : Columns) (ls : List Label) (ms : List ℕ) (k n : ℕ)
    → ((i : ℕ) → i < k + n → lookup i ls ≡ some (place_by c (at ms i)))
    → labels_told c ms k n ≡ numbered ls k (from_on k n)
unfolding labels_told numbered placed from_on
labels_again c ls ms k zero h = refl
labels_again c ls ms k (suc n) h =
    rw (h k (omega arith), labels_again c ls ms (suc k) n (λ i below. h i (omega arith)))

-- a text that is read against a checked table
module _ (text : List ℕ) (t : Sofar) (q : judged text ≡ accepted t) (lines : List ℕ) (g : Graph)
    (is : read (definitions_of t) lines ≡ accepted g) where
  abbrev ts : List Term
  ts = definitions_of t

  -- the column of its marks, and the words of its arcs and meetings
  abbrev marks : List ℕ
  marks = laid (marks_of (kinds t) (afters t) (roots t) 0 g.labels)

  abbrev zeros : List ℕ
  zeros = replicate track_words 0

  abbrev words : List ℕ
  words = sets (sets zeros 0 (flat g.arcs)) meetings_from (flat g.meetings)

  shape : shaped ts g ≡ true
  shape = (read_parts ts (parsed (length ts) lines) g is).1

  fits : Fits (length ts) g
  fits =
      (says_text (length ts) (checked_count text t q).1 lines
      (read_parts ts (parsed (length ts) lines) g is).0).1

  -- it is its own canonical graph
  canonical_is : canonical g ≡ g
  canonical_is = (read_writes_again ts (checked_count text t q).1 lines g is).2

  -- the marks tell its places
  telling : Telling t marks g
  unfolding shaped
  telling =
      let (numbers, rest) = both (in_order 0 g.labels) _ shape in
      let (stand, more) = both (every (Shape.placed ts) g.labels) _ rest in
      marks_telling text t q g (labels_below fits.labels_fit) (omega (arith, fits.labels_room)) numbers stand

  place_is : (i : ℕ) → i < length g.labels → lookup i g.labels ≡ some (place_by (places t) (at marks i))
  unfolding mark_told
  place_is i below =
      let numbers : labelled g i ≡ ltb i (length g.labels) = rw canonical_is at (numbers_labelled g i) in
      go (eqb (at marks i) 0) refl
      (sym (labelled_told text t q marks g telling i) ∙ numbers ∙ lt-ltb i (length g.labels) below)
    where
      go : (b : Bool) → eqb (at marks i) 0 ≡ b → not b ≡ true
          → lookup i g.labels ≡ some (place_by (places t) (at marks i))
      go true e h = let z : ◌≡◌ {A = ℕ} 0 1 = cc in absurd (omega arith)
      go false e h = telling.told i ∙ rw e (ap some (literal_placed t (literal (at marks i))))

  -- the walk numbers its nodes as they are
  order_is : order g ≡ from_on 0 (length g.labels)
  unfolding shaped walked
  order_is =
      let after_numbers = (both (in_order 0 g.labels) _ shape).1 in
      let after_places = (both (every (Shape.placed ts) g.labels) _ after_numbers).1 in
      let after_arcs = (both (ascends g.arcs) _ after_places).1 in
      let after_branches = (both (every (branches ts g) g.labels) _ after_arcs).1 in
      same_true (order g) (from_on 0 (length g.labels)) (both (walked g) _ after_branches).0

  labels_are : labels_told (places t) marks 0 (min (length g.labels) reference_room) ≡ g.labels
  unfolding canonical
  labels_are =
      let all : min (length g.labels) reference_room ≡ length g.labels =
      omega (arith, fits.labels_room) in
      ap (labels_told (places t) marks 0) all
      ∙ labels_again (places t) g.labels marks 0 (length g.labels) (λ i h. place_is i (omega arith))
      ∙ ap (numbered g.labels 0) (sym order_is) ∙ ap (λ (h : Graph). h.labels) canonical_is

  -- the pairs are read back
  long : length zeros ≡ track_words
  long = length-replicate {A = ℕ} track_words 0

  arcs_are : pairs 0 words 0 (min (length g.arcs) arc_room) ≡ g.arcs
  arcs_are =
      arcs_back zeros long g.arcs g.meetings fits.arcs_room fits.meetings_room _
      (omega (arith, fits.arcs_room))

  meetings_are : pairs meetings_from words 0 (min (length g.meetings) meeting_room) ≡ g.meetings
  meetings_are =
      meetings_back zeros long g.arcs g.meetings fits.arcs_room fits.meetings_room _
      (omega (arith, fits.meetings_room))

  -- so the columns tell it
  pub columns_tell : graph_told (places t) marks words (counts_of g) ≡ g
  unfolding graph_told
  columns_tell = rw (labels_are, arcs_are, meetings_are)

-- a table's columns, as its check left them
module _ {text ks ps os xs rs : List ℕ} {d : ℕ} {t : Sofar} (table : TableOf text (all_columns ks ps os xs rs) t)
    (many : d ≡ length (definitions_of t)) where
  -- the graph that columns tell behind a read, by its counts
  abbrev told_in : GraphCounts → TrackRead → Graph
  told_in n q = told_by ks os xs rs q.labels q.graph n

  -- where a text says a graph, what is read of it tells that graph
  read_tells : (lines : List ℕ) (g : Graph) → read (definitions_of t) lines ≡ accepted g
      → told_in (counts_of g) (graph_read ks xs rs g) ≡ g
  read_tells lines g is =
      ap (λ (c : Columns). told_by c.kinds c.owners c.after c.roots
      (graph_read c.kinds c.after c.roots g).labels (track_of g) (counts_of g)) table.columns_are
      ∙ columns_tell text t table.checked lines g is

  -- an outcome of reading
  module _ (lines labels graph labels' graph' : List ℕ) (r : Read)
      (reads : Reads d (read_columns ks ps xs rs) lines labels graph r labels' graph') where
    -- an accepted text says a graph, and the columns tell it
    pub accepted_tells : (n : GraphCounts) → r ≡ Accepted n
        → (read (definitions_of t) lines ≡ accepted (told_by ks os xs rs labels' graph' n))
        × (n ≡ counts_of (told_by ks os xs rs labels' graph' n))
    unfolding by_outcome
    accepted_tells n is = go (read (definitions_of t) lines) refl (reads text os t table many)
      where
        go : (o : Judged Graph) → read (definitions_of t) lines ≡ o
            → with_graph r labels' graph' ≡ by_outcome ks xs rs o labels graph
            → (o ≡ accepted (told_by ks os xs rs labels' graph' n))
            × (n ≡ counts_of (told_by ks os xs rs labels' graph' n))
        go (accepted g) says e =
            let answered = sym is ∙ ap (λ (q : TrackRead). q.answer) e in
            let counts : n ≡ counts_of g = cc in
            let tells = ap (told_in n) e ∙ ap (λ m. told_in m (graph_read ks xs rs g)) counts ∙ read_tells lines g says in
            (ap accepted (sym tells), counts ∙ ap counts_of (sym tells))
        go (refused m k) says e =
            let answered = sym is ∙ ap (λ (q : TrackRead). q.answer) e in
            let z : ◌≡◌ {A = ℕ} 0 1 = cc in absurd (omega arith)

    -- "A refused table, save or read writes nothing"
    pub refused_writes_nothing : (n k : ℕ) → r ≡ Refused n k → (labels' ≡ labels) × (graph' ≡ graph)
    unfolding by_outcome
    refused_writes_nothing n k is = go (read (definitions_of t) lines) (reads text os t table many)
      where
        go : (o : Judged Graph) → with_graph r labels' graph' ≡ by_outcome ks xs rs o labels graph
            → (labels' ≡ labels) × (graph' ≡ graph)
        go (accepted g) e =
            let answered = sym is ∙ ap (λ (q : TrackRead). q.answer) e in
            let z : ◌≡◌ {A = ℕ} 0 1 = cc in absurd (omega arith)
        go (refused m j) e = (ap (λ (q : TrackRead). q.labels) e, ap (λ (q : TrackRead). q.graph) e)

    -- "and writes again as the same text": whatever text was accepted, what is written of the columns is that text
    pub writes_again : (n : GraphCounts) → r ≡ Accepted n → (slice slice' : List ℕ) (r' : Saved)
        → Writes (told_by ks os xs rs labels' graph' n) slice r' slice' → length lines ≤ length slice
        → bytes_of r' slice' ≡ lines
    writes_again n is slice slice' r' writes long =
        let g = told_by ks os xs rs labels' graph' n in
        let (some_Is_first, few) = checked_count text t table.checked in
        let same : graph_text g ≡ lines =
        (read_writes_again (definitions_of t) few lines g (accepted_tells n is).0).1 in
        written_bytes (graph_text g) slice (omega (arith, ap length same, long)) writes ∙ same

  -- "A saved track reads back as its graph": the bytes that a save has left are accepted, and the columns tell the
  -- run's track by its saved numbers
  pub reads_back : {p x : List ℕ} (v : Words) (s : State) → HoldsRun p x t v s
      → (slice slice' : List ℕ) (r : Saved) → SavesWords ks os xs rs v slice r slice'
      → length (saved (graph_of s)) ≤ length slice → (labels graph labels' graph' : List ℕ) (r' : Read)
      → Reads d (read_columns ks ps xs rs) (bytes_of r slice') labels graph r' labels' graph'
      → (r' ≡ Accepted (counts_of (canonical (graph_of s))))
      × (told_by ks os xs rs labels' graph' (counts_of (canonical (graph_of s))) ≡ canonical (graph_of s))
  unfolding by_outcome
  reads_back v s held slice slice' r save long labels graph labels' graph' r' reads =
      let bytes = save_leaves table v s held slice slice' r save long in
      let (some_Is_first, few) = checked_count text t table.checked in
      let says_it : read (definitions_of t) (bytes_of r slice') ≡ accepted (canonical (graph_of s)) =
      ap (read (definitions_of t)) bytes
      ∙ saved_reads_back (definitions_of t) held.reached (checked_shallow text t table.checked) some_Is_first few in
      let told = reads text os t table many ∙ ap (λ o. by_outcome ks xs rs o labels graph) says_it in (
        ap (λ (q : TrackRead). q.answer) told,
        ap (told_in (counts_of (canonical (graph_of s)))) told ∙ read_tells (bytes_of r slice') _ says_it,
      )
