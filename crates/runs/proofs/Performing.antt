-- The step that the words of a run perform is the report's step from the state that they tell. At the start it is the call
-- of definition 00. Else it is what stepping's pass makes of the control at the current reference, by `takes` of step_laws;
-- every run keeps that control ready for it: each reference is drawn and held once, its arcs
-- climb, the table has what it calls, and what the step comes to has room. Assumes nothing.
use Rattle.std.proofs.Common.{ℕ, ◌≤◌, ◌<◌, ◌≡◌, refl, sym, subst, ◌∙◌, Bool, true, false, List, [], ◌++◌}
use Rattle.std.proofs.Common.{arith, length, length-append, eqb, eqb-true}
use Rattle.std.proofs.lemmas.Bool.{eqb-false}
use Rattle.std.proofs.Math.Option.{some}
use Rattle.lines.specs.Line.{choose}
use Rattle.terms.specs.Term.{Term}
use Rattle.rules.specs.Process.{Address, cells}
use Rattle.rules.specs.Track.{Outcome}
use Rattle.rules.specs.Tracking.{Tracks}
use Rattle.rules.specs.Step.{Stepped, step}
use Rattle.rules.specs.Run.{State, start, stands, after, Reached}
use Rattle.rules.proofs.Marked.{reached_marked}
use Rattle.rules.proofs.Holding.{reached_held}
use Rattle.rules.proofs.Drawn.{rooms_hold, reached_kept, fresh_room}
use Rattle.rules.proofs.Climbing.{reached_climbed}
use Rattle.plans.specs.words.Plan.{Layout}
use Rattle.control.specs.words.Control.{state, resting}
use Rattle.weighing.proofs.Told.{From, wrapped}
use Rattle.stepping.specs.code.Take.{take}
use Rattle.leaves.specs.code.Leaves.{Done, called}
use Rattle.step_laws.proofs.Going.{at_words, Sound, Fits, Ready, Goes}
use Rattle.step_laws.proofs.Sideless.{Sideless}
use Rattle.step_laws.proofs.Nesting.{Went}
use Rattle.step_laws.proofs.Depths.{needs_bound}
use Rattle.step_laws.proofs.Taking.{takes}
use Rattle.counting.specs.code.Counting.{tally_of}
use Rattle.runs.specs.code.Doors.{step_levels, performed}
use Rattle.runs.specs.words.Held.{Table, Holds}
use Rattle.runs.proofs.Defined.{reached_calls}
use Rattle.runs.proofs.Weights.{there_held}
use Rattle.runs.proofs.FewMet.{met_labelled}
use Rattle.runs.proofs.Keeping.{run_words, first_free}
use Rattle.runs.proofs.Calling.{call_of, call_goes, start_rests, start_sideless}

module _ (l : Layout) (p x : List ℕ) (ts : List Term) (count : ℕ) (w g c : List ℕ) (s : State)
    (holds : Holds l p x ts w g c s) where
  -- what a step finds
  run_sound : Sound (run_words w g c)
  unfolding tally_of
  run_sound =
      let t = holds.tells in
      record {
        whole_nodes = holds.whole.whole_nodes;
        whole_track = holds.whole.whole_track;
        clean = holds.whole.clean;
        up = rw (t.fresh_is, t.arcs_told) (reached_climbed ts holds.reached).up;
      }

  run_ready : (s.reference ≡ 0 → ⊥)
      → Ready l p x count s.reference 0 s.process [] (run_words w g c)
  unfolding tally_of
  run_ready there = record {
    sound = run_sound;
    holds = there_held l p x w s.reference s.process holds.tells.controls there;
    fit = (reached_marked ts holds.reached).fit;
    once = λ j. rw holds.tells.fresh_is (reached_held ts holds.reached j);
  }

  run_at : at_words s.reference (run_words w g c) ≡ stands s
  unfolding tally_of
  run_at = let t = holds.tells in rw (t.fresh_is, t.arcs_told)

  -- what has room
  module _ (a : Address) (r : Outcome) (named : Tracks ts a s.process (stands s) r)
      (reached : Reached ts (after s r)) where
    run_fits : Fits (run_words w g c) r
    unfolding after tally_of
    run_fits =
        let t = holds.tells in
        let rooms = rooms_hold (after s r) (reached_kept ts reached).room in
        let few_nodes : length (s.labels ++ r.labels) ≤ 4096 = rooms.1 in
        let few_arcs : length (s.arcs ++ r.arcs) ≤ 8192 = rooms.2 in
        let few_meetings : length (s.meetings ++ r.meetings) ≤ 4096 = rooms.3 in
        record {
          fresh_fits = fresh_room ts reached;
          nodes_fit = omega (arith, t.nodes_are, length-append s.labels r.labels);
          arcs_fit = omega (arith, t.arcs_are, length-append s.arcs r.arcs);
          meetings_fit = omega (arith, t.meetings_are, length-append s.meetings r.meetings);
          met_fit = omega (arith, met_labelled ts named, length-append s.labels r.labels);
          cells_fit = rooms.0;
        }

-- words that go as a step goes, and leave reference 0 resting
pub record Performs (l : Layout) (p x : List ℕ) (count : ℕ) (w g c : List ℕ) (s : State) (y : Stepped) (d : Done)
    : Type 0 where
  pub goes : Goes l p x count s.reference 0 s.process (run_words w g c) y d
  pub rests : state d.nodes 0 ≡ resting
  pub keeps : Sideless d.nodes

module _ (l : Layout) (p x : List ℕ) (ts : List Term) (count : ℕ) (ds : List ℕ) (w g c : List ℕ) (a : Address)
    (from : From ds count 0 a) (y : Stepped) where
  -- at the start
  starts_run : Table l p x ts → (s : State) → s ≡ start → Holds l p x ts w g c s
      → step ts s.process (stands s) a ≡ some y → Performs l p x count w g c s y (called (tally_of c) w g)
  unfolding step
  starts_run table s e = subst
      (λ s. Holds l p x ts w g c s → step ts s.process (stands s) a ≡ some y
      → Performs l p x count w g c s y (called (tally_of c) w g))
      (sym e)
      (λ holds steps.
      let is : call_of l p x ts count ds w g c table holds a ≡ y = cc in
      record {
        goes = rw (← is) (call_goes l p x ts count ds w g c table holds a from);
        rests = start_rests l p x ts count ds w g c table holds;
        keeps = start_sideless l p x ts count ds w g c table holds;
      })

  -- behind the start, by the pass that steps what stands at a reference
  module _ (table : Table l p x ts) (s : State) (holds : Holds l p x ts w g c s) (steps : step ts s.process (stands s) a ≡ some y)
      (named : Tracks ts a s.process (stands s) y.outcome) (reached : Reached ts (after s y.outcome)) where
    take_goes : (s.reference ≡ 0 → ⊥) → Went l p x ts count ds s.reference 0 s.process (run_words w g c) y
        (take p count ds step_levels s.reference 0 0 (cells s.process) (tally_of c) w g)
    unfolding wrapped
    take_goes there =
        let ready = run_ready l p x ts count w g c s holds there in
        let few = needs_bound l p x w table.low s.reference 0 s.process [] ready.holds in
        let small : cells s.process ≤ 1024 = (rooms_hold s (reached_kept ts holds.reached).room).0 in
        takes l p x ts count ds table.held table.numbered step_levels s.reference 0 s.process [] [] 0
        (cells s.process) a (run_words w g c) y
        (record {
          ready = ready;
          sideless = record { whole = holds.whole.whole_nodes; none_there = holds.whole.sideless };
          tells = tt;
          calls = reached_calls l p x ts table s holds.reached;
          from = from;
          enough = omega arith;
          sized = omega arith;
          small = omega arith;
          steps = rw (run_at l p x ts count w g c s holds) steps;
          fits = run_fits l p x ts count w g c s holds a y.outcome named reached;
        })

    takes_run : (s.reference ≡ 0 → ⊥) → Performs l p x count w g c s y
        (take p count ds step_levels s.reference 0 0 (cells s.process) (tally_of c) w g)
    unfolding tally_of
    takes_run there =
        let went = take_goes there in
        let goes = went.goes in
        let held_there = there_held l p x w s.reference s.process holds.tells.controls there in
        let drawn : 0 < s.fresh = omega (arith, (reached_climbed ts holds.reached).standing) in
        record {
          goes = goes;
          rests =
              goes.matches.writes.apart 0 (omega (arith, drawn, holds.tells.fresh_is))
              (first_free l p x w s.reference 0 s.process [] held_there) 1 (omega arith)
              ∙ holds.whole.first_rests;
          keeps = went.keeps.after;
        }

    pub performs : Performs l p x count w g c s y (performed p count ds w g c)
    unfolding performed
    performs =
        let t = holds.tells in
        rw (t.reference_is, t.cells_are) (go (eqb s.reference 0) refl)
      where
        go : (b : Bool) → eqb s.reference 0 ≡ b
            → Performs l p x count w g c s y
            (choose b (called (tally_of c) w g)
            (take p count ds step_levels s.reference 0 0 (cells s.process) (tally_of c) w g))
        go true e = starts_run table s (holds.tells.begins (eqb-true s.reference 0 e)) holds steps
        go false e = takes_run (eqb-false s.reference 0 e)
