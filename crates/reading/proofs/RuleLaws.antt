-- The reader's rules by marks are the document's. Marks that are not 0 say that nodes come in number order at places that
-- are theirs; then the marks tell the graph's labels, so that each further rule by marks is the rule by places. A text that
-- says a graph keeps to the rooms, so reading by marks comes to what the document says of the text. Assumes nothing.
use Rattle.std.proofs.Common.{ℕ, suc, ◌+◌, ◌≤◌, ◌<◌, ◌≡◌, refl, ap, ap₂, Bool, true, false, ◌&&◌, List, []}
use Rattle.std.proofs.Common.{◌∷◌, arith, length, replicate, leb, ltb, eqb, ltb-true, eqb-true}
use Rattle.std.proofs.Math.Bool.{and_assoc}
use Rattle.lines.specs.Line.{choose}
use Rattle.lines.specs.Judging.{Judged, accepted, refused}
use Rattle.lines.proofs.Digits.{both}
use Rattle.frames.specs.TableFrame.{path_room}
use Rattle.tables.specs.Table.{Sofar, judged}
use Rattle.tables.specs.words.Columns.{kinds, payloads, afters, roots}
use Rattle.terms.specs.Term.{Term, definitions_of}
use Rattle.terms.proofs.Trees.{checked_trees}
use Rattle.rules.specs.Track.{Label, Pair}
use Rattle.rules.specs.Run.{node_room, arc_room}
use Rattle.rules.proofs.Marked.{one, tally}
use Rattle.graphs.specs.Graph.{Graph}
use Rattle.graphs.specs.Parsed.{parsed, in_range}
use Rattle.graphs.specs.Shape.{same, every, in_order, placed, branches, ascends, upward, from_on}
use Rattle.graphs.specs.Shape as Shape
use Rattle.graphs.proofs.Spelled.{Each, each_none, each_first, LabelFits, says_text}
use Rattle.links.specs.code.Linked.{side_words, all_fit}
use Rattle.walks.specs.code.Walked.{laid}
use Rattle.walks.proofs.Telling.{Telling}
use Rattle.walks.proofs.LinkTold.{all_fit_told, walked_told}
use Rattle.finding.specs.code.Found.{marks_of}
use Rattle.finding.proofs.FoundLaws.{DefinitionsBelow, marks_shaped}
use Rattle.shape_rules.specs.code.Tests.{joins_events}
use Rattle.shape_rules.proofs.RuleTests.{and_where}
use Rattle.shapes.specs.code.Rules.{as_walked, shaped}
use Rattle.reading.specs.code.Outcome.{outcome}
use Rattle.reading.specs.code.Outcome as Outcome
use Rattle.reading.proofs.MarksTold.{marks_telling, events_told}

-- rules one behind the other are the same where each is as long as those before it hold
rules_same : (m i p a f b w v x y n o : Bool) → m ≡ i && p
    → (i ≡ true → p ≡ true → (f ≡ b) × ((f ≡ true → w ≡ v) × (n ≡ o)))
    → m && (a && (f && (w && (x && (y && n))))) ≡ i && (p && (a && (b && (v && (x && (y && o))))))
rules_same m i p a f b w v x y n o e h =
    rw (e, and_assoc i p) (and_where i (λ numbered. and_where p (λ stand.
    let (fits, (walks, meet)) = h numbered stand in
    rw (← fits, meet) (ap (λ (t : Bool). a && t) (and_where f (λ all. rw (walks all)))))))

-- tests that are the same pass the same
every_same : {A : Type 0} (f g : A → Bool) → ((x : A) → f x ≡ g x) → (xs : List A) → every f xs ≡ every g xs
unfolding every
every_same f g h [] = refl
every_same f g h (x ∷ xs) = ap₂ ◌&&◌ (h x) (every_same f g h xs)

-- labels that fit a table of d definitions are of these
pub labels_below : {d : ℕ} {ls : List Label} → Each (LabelFits d) ls → DefinitionsBelow d ls
unfolding in_range
labels_below each_none = each_none
labels_below {d} (each_first {x = l} h hs) =
    let (short, is) = both (leb (length l.place.path) path_room) (ltb l.place.definition d) h.place_fits in
    each_first (ltb-true l.place.definition d is) (labels_below hs)

-- nodes in number order from k on have each number at most once, and none below k
numbered_once : (k : ℕ) (ls : List Label) → in_order k ls ≡ true
    → (n : ℕ) → (tally n ls ≤ 1) × (n < k → tally n ls ≡ 0)
unfolding in_order tally one
numbered_once k [] e n = (omega arith, λ h. refl)
numbered_once k (l ∷ ls) e n =
    let (is, later) = both (eqb l.reference k) (in_order (suc k) ls) e in
    go (eqb n l.reference) refl (eqb-true l.reference k is) (numbered_once (suc k) ls later n)
  where
    go : (b : Bool) → eqb n l.reference ≡ b → l.reference ≡ k
        → (tally n ls ≤ 1) × (n < suc k → tally n ls ≡ 0)
        → (choose b 1 0 + tally n ls ≤ 1) × (n < k → choose b 1 0 + tally n ls ≡ 0)
    go true q is (most, none_below) =
        let here = eqb-true n l.reference q in
        (omega (arith, none_below (omega arith)), λ h. absurd (omega arith))
    go false q is (most, none_below) = (omega arith, λ h. omega (arith, none_below (omega arith)))

-- a checked table
module _ (text : List ℕ) (s : Sofar) (q : judged text ≡ accepted s) where
  abbrev ts : List Term
  ts = definitions_of s

  -- and a graph within its rooms
  module _ (g : Graph) (below : DefinitionsBelow (length ts) g.labels) (nodes : length g.labels ≤ node_room)
      (arcs : length g.arcs ≤ arc_room) where
    abbrev marks : List ℕ
    marks = marks_of (kinds s) (afters s) (roots s) 0 g.labels

    abbrev fit : Bool
    fit = all_fit (laid marks) (kinds s) (afters s) (replicate side_words 0) g.arcs

    -- where its nodes have their numbers and places that are theirs
    module _ (i : in_order 0 g.labels ≡ true) (p : every (placed ts) g.labels ≡ true) where
      telling : Telling s (laid marks) g
      telling = marks_telling text s q g below (omega arith) i p

      -- arcs fit where no node branches but as its place may
      fit_told : fit ≡ every (branches ts g) g.labels
      fit_told = all_fit_told text s q (laid marks) g telling (λ n. (numbered_once 0 g.labels i n).0)

      -- the walk by marks is then the graph's
      as_walked_told : fit ≡ true
          → as_walked (kinds s) (afters s) (laid marks) (length g.labels) g.arcs
          ≡ Shape.walked g
      unfolding as_walked Shape.walked
      as_walked_told f =
          ap (λ (o : List ℕ). same o (from_on 0 (length g.labels)))
          (walked_told text s q (laid marks) g telling f arcs)

      -- and meetings join events by marks where they do by places
      meetings_told : every (joins_events (payloads s) (laid marks)) g.meetings
          ≡ every (Shape.joins_events ts g) g.meetings
      unfolding Shape.joins_events
      meetings_told =
          every_same _ _ (λ (m : Pair). events_told text s q g below (omega arith) i p m.from m.to) g.meetings

    -- the rules by marks are the document's
    pub rules_told : shaped (kinds s) (payloads s) (afters s) marks g ≡ Shape.shaped ts g
    unfolding shaped Shape.shaped
    rules_told =
        rules_same _ (in_order 0 g.labels) (every (placed ts) g.labels) (ascends g.arcs) fit
        (every (branches ts g) g.labels) _ (Shape.walked g) (ascends g.meetings) (every upward g.meetings)
        _ _ (marks_shaped text s q below) (λ i p. (fit_told i p, (as_walked_told i p, meetings_told i p)))

  -- what is judged by marks of what a text says is what the document judges of it
  judged_told : (t : List ℕ) (p : Judged Graph) → parsed (length ts) t ≡ p
      → Outcome.judged (kinds s) (payloads s) (afters s) (roots s) p ≡ Shape.judged ts p
  unfolding Outcome.judged Shape.judged
  judged_told t (accepted g) e =
      let table = checked_trees text s q in
      let fits = (says_text (length ts) (omega arith) t e).1 in
      ap (λ (b : Bool). choose b (accepted g) (refused 13 0))
      (rules_told g (labels_below fits.labels_fit) fits.labels_room fits.arcs_room)
  judged_told t (refused n k) e = refl

  -- reading by marks comes to what the document says of a text
  pub outcome_told : (t : List ℕ)
      → outcome (kinds s) (payloads s) (afters s) (roots s) (length ts) t ≡ Shape.read ts t
  outcome_told t = judged_told t (parsed (length ts) t) refl
