-- The report's own examples, in its numbers, by computation: the runs of Examples 2 (Fig. 4), 3 and 6 (Fig. 5
-- and 8), 5 (Fig. 6) and 7 (Fig. 9 and 10), each with its events and the whole state behind it; and Fig. 4 rule
-- by rule. a is event 0, b event 1, MAIN definition 0 and P definition 1. The pictures of Fig. 5, 6, 8, 9 and 10
-- are not in the text that we have: what is held against the report is what its sentences say of them. No
-- number differs; of Fig. 6 they have none, so that its numbers are ours alone. Nodes and arcs stand in the
-- order made. Assumes nothing.
use Rattle.std.proofs.Common.{ℕ, ◌≡◌, refl, List, [], ◌∷◌, map}
use Rattle.std.proofs.Math.Option.{none, some}
use Rattle.terms.specs.Term.{call, SKIP, STOP, external, parallel, Term, leaf, prefix, binary}
use Rattle.places.specs.Place.{Place, left_path}
use Rattle.sets.specs.EventSet.{member}
use Rattle.rules.specs.declared.Event.{Event}
use Rattle.rules.specs.declared.Event.TheVariants.{Tau as τ, Visible as visible}
use Rattle.rules.specs.declared.Status.TheVariants.{Live as live, Stuck as stuck}
use Rattle.rules.specs.Process.{one, two, three, together, split, Ω, ⊥', joined, untouched, right_side}
use Rattle.rules.specs.Process.{cells}
use Rattle.rules.specs.Process as Live
use Rattle.rules.specs.Track.{Label, pair, labelled, prefixed, first_eval, around, each_with, meet}
use Rattle.rules.specs.Track.{jointly}
use Rattle.rules.specs.Tracking.{passes, hides_τ, hides-✓}
use Rattle.rules.specs.Plain.{Plain, plain, plain_side, operator, strip, Steps, process_call, prefixing}
use Rattle.rules.specs.Plain.{skip, external_choice_1, external_choice_3, synchronized_parallelism_2}
use Rattle.rules.specs.Plain as Fig3
use Rattle.rules.specs.Step.{one_side, by_side, same, both_sides, with_right, at_Ω, then, step}
use Rattle.rules.specs.Run.{after, over_room, within_room, whole, answered, answer}
use Rattle.rules.specs.Offers.{leaf_offers, offers-✓, offers_event, offers_some, plain_τ, moves, status}
use Rattle.rules.proofs.Cases.{Ran, play, ran}

-- Examples 2, 3 and 6: MAIN = (a→STOP) ∥{a} (P □ (a→STOP)), P = b→SKIP
pub example_2 : List Term
example_2 =
    binary (parallel 1) (prefix 0 (leaf STOP)) (binary external (leaf (call 1)) (prefix 0 (leaf STOP)))
    ∷ prefix 1 (leaf SKIP)
    ∷ []

-- Example 5: MAIN = P ∥{a} P, P = a→P
pub example_5 : List Term
example_5 = binary (parallel 1) (leaf (call 1)) (leaf (call 1)) ∷ prefix 0 (leaf (call 1)) ∷ []

-- Example 7: MAIN = (a→a→STOP) ∥{a} P, P = a→P
pub example_7 : List Term
example_7 = binary (parallel 1) (prefix 0 (prefix 0 (leaf STOP))) (leaf (call 1)) ∷ prefix 0 (leaf (call 1)) ∷ []

-- specification positions, (MAIN, w) and (P, w): Λ is []
in_MAIN : List ℕ → Place
in_MAIN w = record { definition = 0; path = w }

in_P : List ℕ → Place
in_P w = record { definition = 1; path = w }

-- a node with its specification position
node : ℕ → Place → Label
node n w = record { reference = n; place = w }

-- Fig. 4, by the call of P, b and ✓ of the right side. "the final state is ((a→STOP) ∥ Ω)". The figure has no
-- references; ours are those of Fig. 7, and the left side has none yet
pub fig_4 : Ran
fig_4 = record {
  events = τ ∷ τ ∷ visible 1 ∷ τ ∷ [];
  refusal = 0;
  state = record {
    process =
        split (in_MAIN []) (together 1) none (some 7)
        (Live.prefix (in_MAIN (1 ∷ [])) 0 (Live.leaf (in_MAIN (1 ∷ 2 ∷ [])) STOP))
        Ω;
    reference = 1;
    fresh = 8;
    labels =
        node 0 (in_MAIN left_path)
        ∷ node 1 (in_MAIN []) ∷ node 2 (in_MAIN (2 ∷ [])) ∷ node 3 (in_MAIN (2 ∷ 1 ∷ []))
        ∷ node 4 (in_P (1 ∷ [])) ∷ node 5 (in_P [])
        ∷ node 6 (in_P (2 ∷ []))
        ∷ [];
    arcs = pair 0 1 ∷ pair 1 2 ∷ pair 2 3 ∷ pair 3 4 ∷ pair 4 5 ∷ pair 5 6 ∷ pair 6 7 ∷ [];
    meetings = [];
  };
}

-- Fig. 5 and 8, by a of both sides, the right one's by (External Choice 4), and the underlined steps, STOP of
-- the left and of the right. "The final state is (⊥ ∥((MAIN, Λ), 9, 10) ⊥, G', 1, ∅)", and of the track: node
-- 1 ↦2 (MAIN, Λ), node 5 ↦6 (MAIN, 2), "the edge between nodes 2 and 3", "between nodes 5 and 6", "between nodes
-- 7 and 8", "the synchronization edge between nodes 2 and 6", "nodes 9 and 10 were prepared by the semantics
-- (edges to them were produced) but never used"
pub fig_5 : Ran
fig_5 = record {
  events = τ ∷ visible 0 ∷ τ ∷ τ ∷ [];
  refusal = 0;
  state = record {
    process = split (in_MAIN []) (together 1) (some 9) (some 10) ⊥' ⊥';
    reference = 1;
    fresh = 11;
    labels =
        node 0 (in_MAIN left_path)
        ∷ node 1 (in_MAIN []) ∷ node 2 (in_MAIN (1 ∷ 1 ∷ [])) ∷ node 3 (in_MAIN (1 ∷ []))
        ∷ node 5 (in_MAIN (2 ∷ [])) ∷ node 6 (in_MAIN (2 ∷ 2 ∷ 1 ∷ [])) ∷ node 7 (in_MAIN (2 ∷ 2 ∷ []))
        ∷ node 4 (in_MAIN (1 ∷ 2 ∷ []))
        ∷ node 8 (in_MAIN (2 ∷ 2 ∷ 2 ∷ []))
        ∷ [];
    arcs =
        pair 0 1 ∷ pair 1 2 ∷ pair 2 3 ∷ pair 3 4 ∷ pair 1 5 ∷ pair 5 6 ∷ pair 6 7 ∷ pair 7 8 ∷ pair 4 9
        ∷ pair 8 10 ∷ [];
    meetings = pair 2 6 ∷ [];
  };
}

-- Fig. 6, its first two rounds, by the call of the left, the call of the right and a, twice: "two non-terminating
-- processes run in parallel and synchronize infinitely", and both sides are at the call of P again. Where the
-- text prints (MAIN, 1) for the parallel and (P, 1) for the arrow, Definition 1 and document 01 have Λ
pub fig_6 : Ran
fig_6 = record {
  events = τ ∷ τ ∷ τ ∷ visible 0 ∷ τ ∷ τ ∷ visible 0 ∷ [];
  refusal = 0;
  state = record {
    process =
        split (in_MAIN []) (together 1) (some 13) (some 15)
        (Live.leaf (in_P (2 ∷ [])) (call 1))
        (Live.leaf (in_P (2 ∷ [])) (call 1));
    reference = 1;
    fresh = 16;
    labels =
        node 0 (in_MAIN left_path)
        ∷ node 1 (in_MAIN []) ∷ node 2 (in_MAIN (1 ∷ []))
        ∷ node 4 (in_MAIN (2 ∷ []))
        ∷ node 3 (in_P (1 ∷ [])) ∷ node 6 (in_P []) ∷ node 5 (in_P (1 ∷ [])) ∷ node 8 (in_P [])
        ∷ node 7 (in_P (2 ∷ []))
        ∷ node 9 (in_P (2 ∷ []))
        ∷ node 10 (in_P (1 ∷ [])) ∷ node 12 (in_P []) ∷ node 11 (in_P (1 ∷ [])) ∷ node 14 (in_P [])
        ∷ [];
    arcs =
        pair 0 1 ∷ pair 1 2 ∷ pair 2 3 ∷ pair 1 4 ∷ pair 4 5 ∷ pair 3 6 ∷ pair 6 7 ∷ pair 5 8 ∷ pair 8 9
        ∷ pair 7 10 ∷ pair 9 11 ∷ pair 10 12 ∷ pair 12 13 ∷ pair 11 14 ∷ pair 14 15 ∷ [];
    meetings = pair 3 5 ∷ pair 10 11 ∷ [];
  };
}

-- Fig. 9 and 10, by the call of the right and a, twice, STOP of the left and the call of the right. "The final
-- state is (⊥ ∥((MAIN, Λ), 14, 15) (a→P), G', 1, ∅)": of the two orders of the last steps only this one has the
-- references 14 and 15. A meeting is a pair here, the left's node first; the report's has no direction
pub fig_9 : Ran
fig_9 = record {
  events = τ ∷ τ ∷ visible 0 ∷ τ ∷ visible 0 ∷ τ ∷ τ ∷ [];
  refusal = 0;
  state = record {
    process =
        split (in_MAIN []) (together 1) (some 14) (some 15) ⊥'
        (Live.prefix (in_P []) 0 (Live.leaf (in_P (2 ∷ [])) (call 1)));
    reference = 1;
    fresh = 16;
    labels =
        node 0 (in_MAIN left_path)
        ∷ node 1 (in_MAIN []) ∷ node 2 (in_MAIN (2 ∷ []))
        ∷ node 4 (in_MAIN (1 ∷ 1 ∷ [])) ∷ node 5 (in_MAIN (1 ∷ [])) ∷ node 3 (in_P (1 ∷ [])) ∷ node 7 (in_P [])
        ∷ node 8 (in_P (2 ∷ []))
        ∷ node 6 (in_MAIN (1 ∷ 2 ∷ 1 ∷ [])) ∷ node 10 (in_MAIN (1 ∷ 2 ∷ [])) ∷ node 9 (in_P (1 ∷ [])) ∷ node 12 (in_P [])
        ∷ node 11 (in_MAIN (1 ∷ 2 ∷ 2 ∷ []))
        ∷ node 13 (in_P (2 ∷ []))
        ∷ [];
    arcs =
        pair 0 1 ∷ pair 1 2 ∷ pair 2 3 ∷ pair 1 4 ∷ pair 4 5 ∷ pair 5 6 ∷ pair 3 7 ∷ pair 7 8 ∷ pair 8 9
        ∷ pair 6 10 ∷ pair 10 11 ∷ pair 9 12 ∷ pair 12 13 ∷ pair 11 14 ∷ pair 13 15 ∷ [];
    meetings = pair 4 3 ∷ pair 6 9 ∷ [];
  };
}

-- the runs of the figures
pub runs : List Ran
runs =
    ran example_2 ((two ∷ one ∷ []) ∷ (two ∷ one ∷ []) ∷ (two ∷ []) ∷ [])
    ∷ ran example_2 ((three ∷ two ∷ []) ∷ (one ∷ []) ∷ (two ∷ []) ∷ [])
    ∷ ran example_5
    ((one ∷ []) ∷ (two ∷ []) ∷ (three ∷ []) ∷ (one ∷ []) ∷ (two ∷ []) ∷ (three ∷ []) ∷ [])
    ∷ ran example_7
    ((two ∷ []) ∷ (three ∷ []) ∷ (two ∷ []) ∷ (three ∷ []) ∷ (one ∷ []) ∷ (two ∷ []) ∷ [])
    ∷ []

-- what they come to
pub figures : List Ran
figures = fig_4 ∷ fig_5 ∷ fig_6 ∷ fig_9 ∷ []

-- ((a→STOP) ∥ Ω)
pub final_4 : Plain
final_4 = Fig3.binary (parallel 1) (Fig3.prefix 0 (Fig3.leaf STOP)) Fig3.ended

-- the runs are the figures'; Example 5's goes on, and the others have no further step; and Fig. 4's ends where
-- the report says, with tracking stripped
pub report_examples
    : (runs ≡ figures)
    × (map (λ (r : Ran). status 2 r.state.process) figures ≡ stuck ∷ stuck ∷ live ∷ stuck ∷ [])
    × (strip fig_4.state.process ≡ final_4)
unfolding
    example_2 example_5 example_7 in_MAIN in_P node fig_4 fig_5 fig_6 fig_9 runs figures final_4 play ran
    joined untouched right_side cells labelled prefixed first_eval around each_with meet jointly member one_side
    by_side same both_sides with_right at_Ω then step after over_room within_room whole answered answer
    leaf_offers offers-✓ offers_event offers_some plain_τ moves status operator strip
report_examples = (refl, refl, refl)

-- a computation by the rules of Fig. 3
pub data Computes (ts : List Term) : Plain → List Event → Plain → Type 0 where
  rests : {P : Plain} → Computes ts P [] P
  goes : {P Q R : Plain} {e : Event} {es : List Event}
      → Steps ts P e Q → Computes ts Q es R → Computes ts P (e ∷ es) R

-- Fig. 4 as it stands there, each step by the rules that it names
pub fig_4_computed : Computes example_2 (Fig3.leaf (call 0)) fig_4.events final_4
unfolding example_2 fig_4 final_4 plain plain_side member
fig_4_computed =
    goes process_call
    (goes (synchronized_parallelism_2 (external_choice_1 process_call) hides_τ)
    (goes (synchronized_parallelism_2 (external_choice_3 prefixing tt) (passes refl))
    (goes (synchronized_parallelism_2 skip hides-✓) rests)))
