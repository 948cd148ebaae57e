-- What a step leaves of a run: words that go from a state as the report's step of it goes hold the state behind that step.
-- The counters stay below 65,536, since the step's result has room; reference 0, at which nothing stands, stays as it was.
-- Assumes nothing.
use Rattle.std.proofs.Common.{ℕ, ◌≤◌, ◌<◌, ◌≡◌, refl, sym, ap, ◌∙◌, true, false, List, [], ◌∷◌, ◌++◌, arith}
use Rattle.std.proofs.Common.{length, length-append, ne_eqb, mod-eq_of_lt}
use Rattle.std.proofs.Math.Option.{none, some}
use Rattle.terms.specs.Term.{Term}
use Rattle.rules.specs.Process.{Address, Process, leaf, prefix, internal, split, sequence, Ω, ⊥', cells}
use Rattle.rules.specs.Step.{Stepped}
use Rattle.rules.specs.Run.{State, after, Reached, goes_on, answer, accepted}
use Rattle.rules.proofs.Marked.{one}
use Rattle.rules.proofs.Holding.{held}
use Rattle.rules.proofs.Drawn.{rooms_hold, reached_kept, fresh_room}
use Rattle.rules.proofs.Climbing.{reached_climbed}
use Rattle.plans.specs.words.Plan.{Layout}
use Rattle.control.specs.words.Control.{state, resting}
use Rattle.control.specs.words.Control as Control
use Rattle.control.proofs.Chains.{holds_within}
use Rattle.control.proofs.Framed.{untouched_held}
use Rattle.offers.specs.words.Told.{stands}
use Rattle.control.specs.words.Views.{arcs_of, meetings_of, first_of}
use Rattle.leaves.specs.code.Leaves.{Done}
use Rattle.step_laws.proofs.Sideless.{Sideless}
use Rattle.step_laws.proofs.Writing.{Words, lookup_append}
use Rattle.step_laws.proofs.Going.{Goes}
use Rattle.counting.specs.code.Counting.{tally_of, narrow, recounted}
use Rattle.control.specs.words.Words.{reference_room}
use Rattle.runs.specs.words.Held.{Tells, Whole, Holds}
use Rattle.rules.specs.Track.{lookup}

-- nothing is held at reference 0
nowhere : (n b : ℕ) → b < n → one 0 n ≡ 0
unfolding one
nowhere n b h = rw (ne_eqb 0 n (λ e. omega arith))

module _ (l : Layout) (p x w : List ℕ) where
  rests_free : (n b : ℕ) (P : Process) (ks : List ℕ) → Control.Rests l p x w n b ks P → held 0 n P ≡ 0
  rests_free n b P ks r =
      untouched_held l p x w _ _ P r.untouched_there 0 n ∙ nowhere n b r.stands.within

  pub first_free : (n b : ℕ) (P : Process) (ks : List ℕ) → Control.HoldsControl l p x w n b P ks → held 0 n P ≡ 0
  unfolding held
  first_free n b (leaf v f) ks h = rests_free n b (leaf v f) ks h
  first_free n b (prefix v e P) ks h = rests_free n b (prefix v e P) ks h
  first_free n b (internal v P Q) ks h = rests_free n b (internal v P Q) ks h
  first_free n b (split v k none none P Q) ks h = rests_free n b (split v k none none P Q) ks h
  first_free n b (split v k (some i) none P Q) ks h =
      omega (arith, nowhere n b h.0.stands.within, first_free i _ P [] h.3)
  first_free n b (split v k none (some j) P Q) ks h =
      omega (arith, nowhere n b h.0.stands.within, first_free j _ Q [] h.4)
  first_free n b (split v k (some i) (some j) P Q) ks h =
      omega (arith, nowhere n b h.0.stands.within, first_free i _ P [] h.3, first_free j _ Q [] h.4)
  first_free n b (sequence v false P Q) ks h = rests_free n b (sequence v false P Q) ks h
  first_free n b (sequence v true P Q) ks h = first_free n b P (h.0 ∷ ks) h.2
  first_free n b Ω ks h = nowhere n b h.0
  first_free n b ⊥' ks h = nowhere n b h.0.within

-- a small number is not narrowed
narrow_same : (n m : ℕ) → n ≡ m → m < 65536 → narrow n ≡ m
narrow_same n m e h = ap narrow e ∙ mod-eq_of_lt h

-- the words of a run
abbrev pub run_words : List ℕ → List ℕ → List ℕ → Words
run_words w g c = record { tally = tally_of c; nodes = w; track = g }

module _ (l : Layout) (p x : List ℕ) (ts : List Term) (count : ℕ) (w g c : List ℕ) (s : State)
    (holds : Holds l p x ts w g c s) (a : Address) (y : Stepped) (d : Done)
    (accepts : answer ts s a ≡ accepted y.outcome.event (after s y.outcome))
    (goes : Goes l p x count s.reference 0 s.process (run_words w g c) y d)
    (rests : state d.nodes 0 ≡ resting) (keeps : Sideless d.nodes) where
  goes_behind : Reached ts (after s y.outcome)
  goes_behind = goes_on a y.outcome.event holds.reached accepts

  -- what the counters come to has room
  record Counted : Type 0 where
    reference_counted : narrow d.taken.reference ≡ y.outcome.reference
    fresh_counted : narrow d.taken.tally.fresh ≡ y.outcome.fresh
    cells_counted : narrow d.taken.size ≡ cells y.outcome.process
    nodes_counted : narrow d.taken.tally.nodes ≡ length (s.labels ++ y.outcome.labels)
    arcs_counted : narrow d.taken.tally.arcs ≡ length (s.arcs ++ y.outcome.arcs)
    arcs_same : narrow d.taken.tally.arcs ≡ d.taken.tally.arcs
    meetings_counted : narrow d.taken.tally.meetings ≡ length (s.meetings ++ y.outcome.meetings)
    meetings_same : narrow d.taken.tally.meetings ≡ d.taken.tally.meetings

  counters_told : Counted
  unfolding after tally_of
  counters_told =
      let r = y.outcome in
      let m = goes.matches in
      let t = holds.tells in
      let rooms = rooms_hold (after s r) (reached_kept ts goes_behind).room in
      let few_cells : cells r.process ≤ 1024 = rooms.0 in
      let few_nodes : length (s.labels ++ r.labels) ≤ 4096 = rooms.1 in
      let few_arcs : length (s.arcs ++ r.arcs) ≤ 8192 = rooms.2 in
      let few_meetings : length (s.meetings ++ r.meetings) ≤ 4096 = rooms.3 in
      let drawn : r.fresh ≤ reference_room = fresh_room ts goes_behind in
      let stands_below : r.reference < r.fresh = (reached_climbed ts goes_behind).standing in
      let nodes_sum : d.taken.tally.nodes ≡ length (s.labels ++ r.labels) =
      omega (arith, m.writes.nodes_counted, t.nodes_are, length-append s.labels r.labels) in
      let arcs_sum : d.taken.tally.arcs ≡ length (s.arcs ++ r.arcs) =
      omega (arith, m.writes.arcs_counted, t.arcs_are, length-append s.arcs r.arcs) in
      let meetings_sum : d.taken.tally.meetings ≡ length (s.meetings ++ r.meetings) =
      omega (arith, m.writes.meetings_counted, t.meetings_are, length-append s.meetings r.meetings) in
      record {
        reference_counted = narrow_same _ _ m.reference_is (omega arith);
        fresh_counted = narrow_same _ _ m.fresh_is (omega arith);
        cells_counted = narrow_same _ _ goes.size_is (omega arith);
        nodes_counted = narrow_same _ _ nodes_sum (omega arith);
        arcs_counted = narrow_same _ _ arcs_sum (omega arith);
        arcs_same = narrow_same _ _ refl (omega arith);
        meetings_counted = narrow_same _ _ meetings_sum (omega arith);
        meetings_same = narrow_same _ _ refl (omega arith);
      }

  behind_tells : Tells l p x d.nodes d.track (recounted d.taken) (after s y.outcome)
  unfolding after recounted tally_of
  behind_tells =
      let r = y.outcome in
      let t = holds.tells in
      let k = counters_told in
      let v = goes.matches.writes in
      let rooms = rooms_hold (after s r) (reached_kept ts goes_behind).room in
      let within = holds_within l p x d.nodes r.reference 0 r.process [] goes.holds in
      record {
        controls = stands goes.holds rooms.0;
        begins = λ e. absurd (omega (arith, e, within));
        reference_is = k.reference_counted;
        fresh_is = k.fresh_counted;
        cells_are = k.cells_counted;
        nodes_are = k.nodes_counted;
        arcs_are = k.arcs_counted;
        meetings_are = k.meetings_counted;
        labels_told = λ j.
            v.labels_are j ∙ ap (λ z. first_of z (lookup j r.labels)) (t.labels_told j)
            ∙ sym (lookup_append j s.labels r.labels);
        arcs_told =
            ap (arcs_of d.track) k.arcs_same ∙ v.arcs_are ∙ ap (λ z. z ++ r.arcs) t.arcs_told;
        meetings_told =
            ap (meetings_of d.track) k.meetings_same ∙ v.meetings_are
            ∙ ap (λ z. z ++ r.meetings) t.meetings_told;
      }

  behind_whole : Whole d.nodes d.track (recounted d.taken)
  unfolding recounted tally_of
  behind_whole =
      let v = goes.matches.writes in
      let k : narrow d.taken.tally.fresh ≡ d.taken.tally.fresh =
      counters_told.fresh_counted ∙ sym goes.matches.fresh_is in
      let more = v.more in
      record {
        whole_nodes = v.long_nodes ∙ holds.whole.whole_nodes;
        whole_track = v.long_track ∙ holds.whole.whole_track;
        clean = λ j i h e.
            let far : d.taken.tally.fresh ≤ j = omega (arith, h, k) in
            v.later j far i e ∙ holds.whole.clean j i (omega (arith, far, more)) e;
        first_rests = rests;
        sideless = keeps.none_there;
      }

  pub behind_holds : Holds l p x ts d.nodes d.track (recounted d.taken) (after s y.outcome)
  behind_holds = record { reached = goes_behind; tells = behind_tells; whole = behind_whole }
