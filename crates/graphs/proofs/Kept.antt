-- What saving and reading keep, over the definitions: each sentence of document 01, 'Saving and reading', above
-- its theorem. A run's canonical graph has the reader's shape and fits its text, so its text is read as that
-- graph; a text that is read is the text of its graph, which is its own canonical graph. That the counts in
-- frame 30 are the lines that follow is `counts_follow` in Spelled. Assumes nothing.
use Rattle.std.specs.Prelude.{ℕ, ◌≤◌, ◌<◌, ◌≡◌, refl, Bool, true, false, List, [], ◌∷◌, ◌⊎◌, length, ltb}
use Rattle.std.proofs.Common.{sym, ap, ◌∙◌, inl, inr, arith}
use Rattle.std.proofs.Math.Option.{some}
use Rattle.std.proofs.Math.ListN.{get_elem?}
use Rattle.lines.specs.Line.{choose, two, text, lines}
use Rattle.lines.specs.Judging.{Judged, accepted, refused}
use Rattle.terms.specs.Term.{Term, Shallow}
use Rattle.rules.specs.Track.{lookup}
use Rattle.rules.specs.Run.{State, start, Reached}
use Rattle.graphs.specs.Graph.{Graph, graph_of, present, labelled, keep}
use Rattle.graphs.specs.Walk.{among, walk, order}
use Rattle.graphs.specs.Saved.{numbered, rows, rows_up, canonical, opening_frame, frames, graph_text}
use Rattle.graphs.specs.Saved.{saved}
use Rattle.graphs.specs.Parsed.{parsed}
use Rattle.graphs.specs.Shape.{shaped, judged, read}
use Rattle.graphs.proofs.Walking.{Distinct}
use Rattle.graphs.proofs.Ordered.{order_distinct, order_labelled, run_reaches}
use Rattle.graphs.proofs.Pairs.{agree, refuted}
use Rattle.graphs.proofs.Canonical.{reference_of, number_of, canonical_length, canonical_labelled}
use Rattle.graphs.proofs.Canonical.{shaped_canonical}
use Rattle.graphs.specs.Renumbering.{Renumbers}
use Rattle.graphs.proofs.Renumbered.{canonical_renumbers}
use Rattle.graphs.proofs.Tracked.{run_meetings}
use Rattle.graphs.proofs.Spelled.{text_says, says_text}
use Rattle.graphs.proofs.Accepted.{each_every, run_shaped, run_fits}
use Rattle.graphs.proofs.Refusals.{parsed_refused, judged_refused}
use Rattle.graphs.specs.Refusal.{Refusal}

-- a text that is read says a graph of the reader's shape
pub read_parts : (ts : List Term) (r : Judged Graph) (g : Graph) → judged ts r ≡ accepted g
    → (r ≡ accepted g) × (shaped ts g ≡ true)
unfolding judged
read_parts ts (accepted h) g e = go (shaped ts h) refl e
  where
    go : (b : Bool) → shaped ts h ≡ b → choose b (accepted h) (refused 13 0) ≡ accepted g
        → (accepted h ≡ accepted g) × (shaped ts g ≡ true)
    go true s e = let is : h ≡ g = cc in (e, sym (ap (shaped ts) is) ∙ s)
    go false s e = let z : ◌≡◌ {A = ℕ} 0 1 = cc in absurd (omega arith)
read_parts ts (refused n k) g e = let z : ◌≡◌ {A = ℕ} 0 1 = cc in absurd (omega arith)

-- "A saved track reads back as its graph"
pub saved_reads_back : (ts : List Term) {s : State} → Reached ts s
    → ((k : ℕ) (t : Term) → get_elem? ts k ≡ some t → Shallow 0 t) → 0 < length ts → length ts ≤ 256
    → read ts (saved (graph_of s)) ≡ accepted (canonical (graph_of s))
unfolding judged
saved_reads_back ts p shallow some_Is_first few =
    rw (text_says (run_fits ts p shallow some_Is_first few), run_shaped ts p)

-- "and writes again as the same text", whatever the text is: the graph that is read is its own canonical graph
pub read_writes_again : (ts : List Term) → length ts ≤ 256 → (t : List ℕ) (g : Graph) → read ts t ≡ accepted g
    → (saved g ≡ t) × (graph_text g ≡ t) × (canonical g ≡ g)
read_writes_again ts few t g e =
    let (said, shape) = read_parts ts (parsed (length ts) t) g e in
    let (is, fits) = says_text (length ts) few t said in
    let again = shaped_canonical ts g shape (each_every _ fits.arcs_fit) (each_every _ fits.meetings_fit) in
    (ap graph_text again ∙ sym is, sym is, again)

-- "Each ends in a result or one numbered refusal": a refusal of a text is 1, 2 or 3 with its line, or 13 with
-- line 0
pub read_refusals : (ts : List Term) (t : List ℕ) (n k : ℕ) → read ts t ≡ refused n k → Refusal n k
read_refusals ts t n k e = judged_refused ts (parsed (length ts) t) n k (parsed_refused (length ts) n k (lines t)) e

-- and every text ends so
pub read_ends : (ts : List Term) (t : List ℕ) → ((g : Graph) × (read ts t ≡ accepted g))
    ⊎ ((n : ℕ) × (k : ℕ) × (read ts t ≡ refused n k) × Refusal n k)
read_ends ts t = go (read ts t) refl
  where
    go : (r : Judged Graph) → read ts t ≡ r → ((g : Graph) × (read ts t ≡ accepted g))
        ⊎ ((n : ℕ) × (k : ℕ) × (read ts t ≡ refused n k) × Refusal n k)
    go (accepted g) e = inl (g, e)
    go (refused n k) e = inr (n, k, e, read_refusals ts t n k e)

-- "The text says what the track is: nodes, places, arcs, meetings": the numbers of the graph whose text is the
-- saved one are a renumbering of the track's labelled references
pub saved_tells : (ts : List Term) {s : State} → Reached ts s
    → Renumbers (number_of (graph_of s)) (reference_of (graph_of s)) (graph_of s) (canonical (graph_of s))
saved_tells ts {s = s} p =
    canonical_renumbers (graph_of s) (run_reaches ts p) (λ n.
    refuted _ (λ e. (run_meetings ts p n n e).0 refl))

-- the labelled numbers are those below the node count
pub numbers_labelled : (g : Graph) (k : ℕ) → labelled (canonical g) k ≡ ltb k (length (canonical g).labels)
numbers_labelled g k = rw (canonical_length g) (canonical_labelled g k)

-- "The walk numbers each labelled node once and reaches all of a run's"
pub walk_numbers_all : (ts : List Term) {s : State} → Reached ts s
    → Distinct (order (graph_of s)) × ((n : ℕ) → among n (order (graph_of s)) ≡ labelled (graph_of s) n)
walk_numbers_all ts {s = s} p = (
  order_distinct (graph_of s),
  λ n. agree _ _ (order_labelled (graph_of s) n) (run_reaches ts p n),
)

-- a run with no step is saved as two lines
pub start_saved : saved (graph_of start)
    ≡ text ((0x30 ∷ 1 ∷ 0 ∷ 0 ∷ 0 ∷ 0 ∷ 0 ∷ 0 ∷ []) ∷ (0x3f ∷ []) ∷ [])
unfolding canonical order walk keep present lookup numbered rows rows_up frames opening_frame two
start_saved = refl
