-- A graph by its numbers, put together. The walk numbers each reference once, so there are no more numbers than
-- references, and no number passes how many there are; pairs that are put, read back and put again in order
-- leave only the last words. Assumes nothing.
use Rattle.std.proofs.Common.{ℕ, zero, suc, min, ◌+◌, ◌*◌, ◌≤◌, ◌<◌, ◌≡◌, refl, ap, ◌∙◌, Bool, true, false}
use Rattle.std.proofs.Common.{List, [], ◌∷◌, arith, length, get_or, set, replicate, set-set, ltb, eqb}
use Rattle.std.proofs.Common.{ltb-true}
use Rattle.std.proofs.lemmas.List.{get_or-replicate, set_comm}
use Rattle.std.proofs.lemmas.List.Edits.{sets}
use Rattle.lines.specs.Line.{choose}
use Rattle.columns.specs.words.Columns.{look}
use Rattle.rules.specs.Track.{Pair}
use Rattle.rules.specs.Run.{arc_room, meeting_room}
use Rattle.control.specs.words.Words.{track_words, reference_room, meetings_from}
use Rattle.control.specs.words.Views.{pairs}
use Rattle.graphs.specs.Parsed.{ends_below}
use Rattle.graphs.specs.Shape.{every}
use Rattle.graphs.proofs.Walking.{Within, within_none, within_one, within_append, walk_distinct, walk_within}
use Rattle.graphs.proofs.Walking.{distinct_below}
use Rattle.links.specs.words.Columns.{at, flat}
use Rattle.links.specs.code.Linked.{side_words, linked, target, on}
use Rattle.walks.specs.code.Walked.{first, walked, numbers_from, numbers, NodesNumbered, with_numbers, by_order}
use Rattle.walks.specs.code.Walked.{nodes_numbered}
use Rattle.pairing.specs.code.Renumbered.{renumbered, PairsPut, with_count, pairs_put}
use Rattle.sorting.specs.code.Sorted.{sorted}
use Rattle.numbering.specs.code.Numbered.{order_by, arcs_by, meetings_by, with_counts, graph_numbered}
use Rattle.links.proofs.Listed.{put_long, flat_length, pairs_length, pairs_back}
use Rattle.pairing.proofs.Renumbering.{renumbered_length, renumbered_below}
use Rattle.sorting.proofs.Ordering.{sorted_length}

-- the walk goes to references only
abbrev Below : List ℕ → Type 0
Below = Within (λ n. n < reference_room)

target_below : (v : ℕ) → Below (target v)
unfolding target
target_below zero = within_none (λ n. n < reference_room)
target_below (suc n) = go (ltb n reference_room) refl
  where
    go : (b : Bool) → ltb n reference_room ≡ b → Below (choose b (n ∷ []) [])
    go true e = within_one (λ n. n < reference_room) n (ltb-true n reference_room e)
    go false e = within_none (λ n. n < reference_room)

first_below : (ms : List ℕ) → Below (first ms)
unfolding first
first_below ms = go (eqb (at ms 0) 0)
  where
    go : (b : Bool) → Below (choose b [] (0 ∷ []))
    go true = within_none (λ n. n < reference_room)
    go false = within_one (λ n. n < reference_room) 0 (omega arith)

-- so it numbers no more than there are
pub walked_most : (ms w : List ℕ) → length (walked ms w) ≤ reference_room
unfolding walked on
walked_most ms w =
    distinct_below reference_room _ (walk_distinct (on w) side_words (first ms) [] tt)
    (walk_within (on w) (λ n. n < reference_room)
    (λ n h. within_append (λ n. n < reference_room) (target (look side_words w (2 * n + 1)))
    (target (look side_words w (2 * n + 2))) (target_below _) (target_below _))
    side_words (first ms) [] (first_below ms) (within_none (λ n. n < reference_room)))

-- a word stays at most m where at most m is put
set_most : (w : List ℕ) (n v i m : ℕ) → get_or w i 0 ≤ m → v ≤ m → get_or (set w n v) i 0 ≤ m
set_most [] n v i m h l = h
set_most (x ∷ w) zero v zero m h l = l
set_most (x ∷ w) zero v (suc i) m h l = h
set_most (x ∷ w) (suc n) v zero m h l = h
set_most (x ∷ w) (suc n) v (suc i) m h l = set_most w n v i m h l

-- no word of numbers passes how many there are
from_most : (k : ℕ) (o w : List ℕ) (i : ℕ) → get_or w i 0 ≤ k → get_or (numbers_from k o w) i 0 ≤ k + length o
unfolding numbers_from
from_most k [] w i h = omega arith
from_most k (n ∷ o) w i h =
    let put = set_most w n (suc k) i (suc k) (omega arith) (omega arith) in
    omega (arith, from_most (suc k) o (set w n (suc k)) i put)

pub numbers_most : (o : List ℕ) (i : ℕ) → at (numbers o) i ≤ length o
unfolding look
numbers_most o i = go (ltb i reference_room) refl
  where
    go : (b : Bool) → ltb i reference_room ≡ b → choose b (get_or (numbers o) i 0) 0 ≤ length o
    go true e =
        let blank = get_or-replicate {A = ℕ} reference_room i 0 0 (ltb-true i reference_room e) in
        omega (arith, from_most 0 o (replicate reference_room 0) i (omega (arith, blank)))
    go false e = omega arith

-- words that are put over as many others leave only themselves
set_under : (w : List ℕ) (i j v : ℕ) (vs : List ℕ) → i < j → set (sets w j vs) i v ≡ sets (set w i v) j vs
set_under w i j v [] h = refl
set_under w i j v (u ∷ vs) h =
    set_under (set w j u) i (suc j) v vs (omega arith)
    ∙ ap (λ (l : List ℕ). sets l (suc j) vs) (set_comm w j i u v (λ e. omega arith))

sets_over : (w : List ℕ) (b : ℕ) (us vs : List ℕ) → length us ≡ length vs
    → sets (sets w b us) b vs ≡ sets w b vs
sets_over w b [] [] e = refl
sets_over w b [] (v ∷ vs) e = absurd (omega arith)
sets_over w b (u ∷ us) [] e = absurd (omega arith)
sets_over w b (u ∷ us) (v ∷ vs) e =
    ap (λ (l : List ℕ). sets l (suc b) vs) (set_under (set w b u) b (suc b) v us (omega arith)
    ∙ ap (λ (l : List ℕ). sets l (suc b) us) (set-set w b u v))
    ∙ sets_over (set w b v) (suc b) us vs (omega arith)

-- words that pairs are put to keep their length
pub puts_long : (base : ℕ) (to : List ℕ) (ps : List Pair) (kept : ℕ) (to' : List ℕ) → length to ≡ track_words
    → with_count kept to' ≡ pairs_put to base ps → length to' ≡ track_words
puts_long base to ps kept to' long e = put_long base to to' ps long (ap (λ (q : PairsPut). q.track) e)

-- pairs by their numbers below n are put, sorted, and counted
abbrev Puts : ℕ → ℕ → ℕ → Bool → List ℕ → List ℕ → List ℕ → ℕ → List ℕ → Type 0
Puts n base count either g ns to kept to' =
    with_count kept to' ≡ pairs_put to base (sorted n (renumbered either ns (pairs base g 0 count)))

-- so they are where they are put first and sorted then
module _ (n base count : ℕ) (either : Bool) (g ns to₀ to : List ℕ) (kept : ℕ) (most : (i : ℕ) → at ns i ≤ n)
    (fits : base + 2 * count ≤ track_words) (long : length to₀ ≡ track_words)
    (puts : with_count kept to ≡ pairs_put to₀ base (renumbered either ns (pairs base g 0 count))) where
  abbrev ps : List Pair
  ps = renumbered either ns (pairs base g 0 count)

  -- they are counted, and stand in their words
  counted : kept ≡ length ps
  counted = ap (λ (q : PairsPut). q.count) puts

  stand : to ≡ sets to₀ base (flat ps)
  stand = ap (λ (q : PairsPut). q.track) puts

  low : every (ends_below n) ps ≡ true
  low = renumbered_below n either ns most (pairs base g 0 count)

  kept_most : kept ≤ count
  kept_most =
      omega (arith, counted, renumbered_length either ns (pairs base g 0 count), pairs_length base g 0 count)

  -- they are read back
  read : pairs base to 0 kept ≡ ps
  read = rw (stand, counted) (pairs_back base to₀ ps long (omega (arith, counted, kept_most)))

  -- what sorting asks of them
  pub kept_fits : (kept ≤ count) × (length to ≡ track_words) × (every (ends_below n) (pairs base to 0 kept) ≡ true)
  kept_fits = (kept_most, puts_long base to₀ ps kept to long puts, rw read low)

  -- and what it leaves
  pub kept_sorted : (to' : List ℕ) → to' ≡ sets to base (flat (sorted n (pairs base to 0 kept)))
      → Puts n base count either g ns to₀ kept to'
  kept_sorted to' e =
      let same = sorted_length n ps low in
      let over = sets_over to₀ base (flat ps) (flat (sorted n ps))
      (omega (arith, flat_length ps, flat_length (sorted n ps), same)) in
      rw (e, read, stand, over, counted, same)

-- the walk has numbered the nodes: there are no more of them than references
module _ (ms w : List ℕ) (nodes : ℕ) (ns ls : List ℕ) (given : with_numbers nodes ns ls ≡ nodes_numbered ms w) where
  pub nodes_most : nodes ≤ reference_room
  nodes_most = omega (arith, ap (λ (q : NodesNumbered). q.count) given, walked_most ms w)

  -- and no number passes how many there are
  pub nodes_above : (i : ℕ) → at ns i ≤ nodes
  nodes_above i =
      rw (ap (λ (q : NodesNumbered). q.count) given, ap (λ (q : NodesNumbered). q.numbers) given)
      (numbers_most (walked ms w) i)

  -- with the arcs linked before, and arcs and meetings put behind, this is the graph by its numbers
  pub assembled : (ks xs g : List ℕ) (a s c d m k : ℕ) (to to' : List ℕ)
      → w ≡ linked ms ks xs (replicate side_words 0) (pairs 0 g 0 (min a arc_room))
      → c ≡ min a arc_room → Puts nodes 0 c false g ns (replicate track_words 0) m to
      → d ≡ min s meeting_room → Puts nodes meetings_from d true g ns to k to'
      → with_counts (record { nodes = nodes; arcs = m; meetings = k }) ls to' ≡ graph_numbered ms ks xs g a s
  unfolding order_by arcs_by meetings_by graph_numbered
  assembled ks xs g a s c d m k to to' links c_is arcs d_is meetings =
      let order : with_numbers nodes ns ls ≡ by_order ms (order_by ms ks xs g a s) = rw (← links) given in
      let count_is = ap (λ (q : NodesNumbered). q.count) order in
      let numbers_are = ap (λ (q : NodesNumbered). q.numbers) order in
      let arcs_put : with_count m to ≡ pairs_put (replicate track_words 0) 0 (arcs_by ms ks xs g a s) =
      rw (← count_is, ← numbers_are, ← c_is) arcs in
      let meetings_put : with_count k to' ≡ pairs_put to meetings_from (meetings_by ms ks xs g a s) =
      rw (← count_is, ← numbers_are, ← d_is) meetings in
      rw (
        ap (λ (q : PairsPut). q.count) arcs_put,
        ap (λ (q : PairsPut). q.count) meetings_put,
        ap (λ (q : PairsPut). q.track) meetings_put,
        ap (λ (q : PairsPut). q.track) arcs_put,
        ap (λ (q : NodesNumbered). q.labels) order,
        count_is,
      )
