-- All the rules, of a graph in columns. Nodes that have marks are references, so that the walk's rule is its count's and its
-- numbers'. Where the columns hold a graph, its marks stand in front of their column and its pairs are read back, so that the
-- rules of the columns are the graph's. Assumes nothing.
use Rattle.std.proofs.Common.{ℕ, zero, suc, ◌+◌, ◌≤◌, ◌<◌, min, ◌≡◌, refl, sym, ap, ◌∙◌, Bool, true, ◌&&◌}
use Rattle.std.proofs.Common.{not, List, [], ◌∷◌, arith, add-zero, zero-add, add-suc, suc-add, length, get_or}
use Rattle.std.proofs.Common.{replicate, eqb}
use Rattle.std.proofs.lemmas.List.{length-replicate}
use Rattle.std.proofs.lemmas.List.Edits.{sets-eq}
use Rattle.std.proofs.Math.Bool.{and_assoc}
use Rattle.std.proofs.Math.Nat.{min-eq_left}
use Rattle.std.proofs.Math.ListN.{get_or-append}
use Rattle.columns.proofs.Laws.{look_in}
use Rattle.rules.specs.Track.{Pair}
use Rattle.rules.specs.Run.{node_room, arc_room, meeting_room}
use Rattle.control.specs.words.Words.{reference_room}
use Rattle.control.specs.words.Views.{arcs_of, meetings_of}
use Rattle.graphs.specs.Graph.{Graph}
use Rattle.graphs.specs.Shape.{every, ascends, from_on}
use Rattle.links.specs.words.Columns.{at}
use Rattle.links.specs.code.Linked.{side_words, linked}
use Rattle.walks.specs.code.Walked.{walked, numbers, laid, NodesNumbered, with_numbers, nodes_numbered}
use Rattle.walks.proofs.LinkedWords.{marked, marked_inside}
use Rattle.shape_rules.specs.code.Tests.{all_marked, meetings_fit}
use Rattle.shape_rules.proofs.RuleTests.{and_where}
use Rattle.shapes.specs.code.Rules.{sides_fit, as_walked, has_shape, shaped}
use Rattle.shapes.proofs.WalkOrder.{every_number, Ordered, order_tested, walked_distinct}

-- nodes that have marks are references
nodes_inside : (ms : List ℕ) (n : ℕ) → all_marked ms n ≡ true → n ≤ reference_room
unfolding marked
nodes_inside ms zero h = omega arith
nodes_inside ms (suc n) h =
    let last = marked_inside ms [] [] (0 + n) (every_number _ 0 (suc n) h n (omega arith)) in
    omega arith

-- rules told one behind the other, of which two make one
rules_same : {m m' a a' f f' k k' o o' b b' j j' : Bool} → m ≡ m' → a ≡ a' → f ≡ f' → k ≡ k' → o ≡ o' → b ≡ b'
    → j ≡ j' → ((((((m && a) && f) && k) && o) && b) && j) ≡ (m' && (a' && (f' && ((k' && o') && (b' && j')))))
rules_same p q r s t u v = rw (p, q, r, s, t, u, v) (simp and_assoc)

-- n nodes, c arcs and d meetings in columns
module _ (ks ps xs ms w : List ℕ) (n c d : ℕ) where
  abbrev arcs : List Pair
  arcs = arcs_of w (min c arc_room)

  abbrev meetings : List Pair
  meetings = meetings_of w (min d meeting_room)

  -- the sides, and the walk's order
  abbrev sides : List ℕ
  sides = linked ms ks xs (replicate side_words 0) arcs

  abbrev order : List ℕ
  order = walked ms sides

  -- the walk's rule is its count's and its numbers', where nodes have marks
  walk_tested : (all_marked ms n && (ascends arcs && (sides_fit ks xs ms arcs
      && ((eqb (length order) n && Ordered (numbers order) n) && (ascends meetings && meetings_fit ps ms meetings)))))
      ≡ has_shape ks ps xs ms w n c d
  unfolding has_shape as_walked
  walk_tested =
      and_where (all_marked ms n) (λ met.
      ap (λ (b : Bool). ascends arcs
      && (sides_fit ks xs ms arcs && (b && (ascends meetings && meetings_fit ps ms meetings))))
      (order_tested order (walked_distinct ms sides) n (nodes_inside ms n met)))

  -- all the rules as they are told
  pub rules_tested : {m : Bool} → m ≡ all_marked ms n
      → {k : ℕ} → k ≡ min c arc_room → {a : Bool} → a ≡ ascends (arcs_of w k)
      → {f : Bool} {ss : List ℕ} → (f ≡ sides_fit ks xs ms arcs) × (ss ≡ sides)
      → {count : ℕ} {ns ls : List ℕ} → with_numbers count ns ls ≡ nodes_numbered ms ss
      → {o : Bool} → o ≡ Ordered ns n
      → {l : ℕ} → l ≡ min d meeting_room → {b : Bool} → b ≡ ascends (meetings_of w l)
      → {j : Bool} → j ≡ meetings_fit ps ms (meetings_of w l)
      → ((((((m && a) && f) && eqb count n) && o) && b) && j) ≡ has_shape ks ps xs ms w n c d
  rules_tested m k a link given o l b j =
      let numbered = rw link.1 at given in
      rules_same m (rw k at a) link.0 (ap (λ (q : NodesNumbered). eqb q.count n) numbered)
      (o ∙ ap (λ (q : NodesNumbered). Ordered q.numbers n) numbered) (rw l at b) (rw l at j)
      ∙ walk_tested

-- words laid in front of a column stand there
laid_word : (vs : List ℕ) (k : ℕ) → length vs ≤ reference_room → k < length vs → at (laid vs) k ≡ get_or vs k 0
laid_word vs k room h =
    let fits : 0 + length vs ≤ length {A = ℕ} (replicate reference_room 0) =
    rw (length-replicate {A = ℕ} reference_room 0, zero-add (length vs)) room in
    sym (look_in reference_room (laid vs) k (omega arith))
    ∙ rw (sets-eq vs (replicate reference_room 0) 0 fits) (get_or-append vs _ 0 k h)

-- a test of the words from number k on, by their numbers
every_word : (t : ℕ → Bool) (f : ℕ → ℕ) (vs : List ℕ) (k : ℕ) → ((i : ℕ) → i < length vs → f (k + i) ≡ get_or vs i 0)
    → every (λ j. t (f j)) (from_on k (length vs)) ≡ every t vs
unfolding every from_on
every_word t f [] k h = refl
every_word t f (v ∷ vs) k h =
    let here : f k ≡ v = rw (add-zero k) at (h 0 (omega arith)) in
    rw (here, every_word t f vs (suc k) (λ i l. rw (suc-add k i, ← add-suc k i) (h (suc i) (omega arith))))

-- columns with the marks and pairs of a graph within its rooms have the shape that the graph has
pub shape_told : (ks ps xs marks w : List ℕ) (g : Graph) → length marks ≡ length g.labels
    → arcs_of w (length g.arcs) ≡ g.arcs → meetings_of w (length g.meetings) ≡ g.meetings
    → (length g.labels ≤ node_room) × (length g.arcs ≤ arc_room) × (length g.meetings ≤ meeting_room)
    → has_shape ks ps xs (laid marks) w (length g.labels) (length g.arcs) (length g.meetings)
    ≡ shaped ks ps xs marks g
unfolding has_shape shaped
shape_told ks ps xs marks w g marks_count arcs_are meetings_are room =
    let marks_stand = every_word (λ m. not (eqb m 0)) (at (laid marks)) marks 0
    (λ i h. rw (zero-add i) (laid_word marks i (omega arith) h)) in
    rw (min-eq_left room.1, min-eq_left room.2, arcs_are, meetings_are, ← marks_count, marks_stand)
