-- The weight that the words of a run come to is that of the report's step from the state that they tell: at the start the
-- call of definition 00, and else what stands at the current reference, which its words hold. The run's arcs stand in the
-- track, and no reference is held that is not drawn. Assumes nothing.
use Rattle.std.proofs.Common.{ℕ, zero, suc, ◌≤◌, ◌≡◌, refl, ap, subst, Bool, true, false, List, [], arith}
use Rattle.std.proofs.Common.{length, eqb, eqb-true}
use Rattle.std.proofs.lemmas.Bool.{eqb-false}
use Rattle.std.proofs.Math.Option.{some}
use Rattle.std.proofs.Math.ListN.{get_elem?}
use Rattle.lines.specs.Line.{choose}
use Rattle.terms.specs.Term.{Term}
use Rattle.rules.specs.Process.{Address, Process, main, cells}
use Rattle.rules.specs.Track.{Pair, labelled, parents}
use Rattle.rules.specs.Step.{step}
use Rattle.rules.specs.Run.{State, start, stands, cell_room, arc_room}
use Rattle.rules.proofs.Drawn.{rooms_hold, reached_kept}
use Rattle.rules.proofs.Climbing.{reached_climbed}
use Rattle.plans.specs.words.Plan.{Layout}
use Rattle.control.specs.words.Words.{track_word}
use Rattle.control.specs.words.Control as Control
use Rattle.weighing.specs.code.Weigh.{at_reference}
use Rattle.looking.specs.code.Looking as Looking
use Rattle.control.proofs.Capped.{capped_small}
use Rattle.weighing.proofs.Told as Told
use Rattle.weighing.proofs.Told.{From, weight_of, from_at}
use Rattle.weighing.proofs.Since.{Leads, counted, rooted_below}
use Rattle.weighing.proofs.TermTold.{planned_levels, rhs_cells}
use Rattle.weighing.proofs.ControlTold.{whole_told}
use Rattle.offers.specs.words.Told.{Controls, starts, stands as stands_there}
use Rattle.control.specs.words.Views.{pairs, arcs_of}
use Rattle.counting.specs.code.Counting.{arcs}
use Rattle.runs.specs.code.Doors.{start_weight, control_levels, weight}
use Rattle.runs.specs.words.Held.{Table, Holds}

-- words that tell a run's arcs hold where each leads to
pairs_lead : (g : List ℕ) (i n : ℕ) → Leads g i (pairs 0 g i n)
unfolding pairs
pairs_lead g i zero = tt
pairs_lead g i (suc n) = (ap (track_word g) (omega arith), pairs_lead g (suc i) n)

pub arcs_lead : (g : List ℕ) (n : ℕ) (as' : List Pair) → arcs_of g n ≡ as' → Leads g 0 as'
arcs_lead g n as' e = subst (Leads g 0) e (pairs_lead g 0 n)

-- of a control that does not stand at reference 0 the words hold it
pub there_held : (l : Layout) (p x w : List ℕ) (n : ℕ) (P : Process) → Controls l p x w n P → (n ≡ 0 → ⊥)
    → Control.HoldsControl l p x w n 0 P []
there_held l p x w n P (starts e q) h = absurd (h e)
there_held l p x w n P (stands_there held few) h = held

module _ (l : Layout) (p x : List ℕ) (ts : List Term) (count : ℕ) (ds w g c : List ℕ) (table : Table l p x ts) where
  -- the start's call
  start_weighed : (a : Address) → From ds count 0 a
      → start_weight ≡ weight_of count (step ts main (stands start) a)
  unfolding weight_of Told.weight step labelled
  start_weighed a from = rw (
    from_at ds count 0 a from,
    rhs_cells 0 (get_elem? ts 0),
    capped_small 1 (omega arith),
    capped_small 0 (omega arith),
  )

  module _ (s : State) (holds : Holds l p x ts w g c s) where
    cells_few : cells s.process ≤ cell_room
    cells_few = (rooms_hold s (reached_kept ts holds.reached).room).0

    arcs_few : length s.arcs ≤ arc_room
    arcs_few = (rooms_hold s (reached_kept ts holds.reached).room).2

    -- parents are counted among the run's arcs
    parents_counted : (m n k : ℕ)
        → length (parents (some m) (some n) k s.arcs) ≡ Looking.parents g m n 0 (length s.arcs)
    parents_counted = counted g s.arcs arcs_few (arcs_lead g (arcs c) s.arcs holds.tells.arcs_told)

    there_weighed : (a : Address) → From ds count 0 a → (s.reference ≡ 0 → ⊥)
        → at_reference p x count ds w g (length s.arcs) control_levels s.reference 0 0 0 (cells s.process)
        ≡ weight_of count (step ts s.process (stands s) a)
    there_weighed a from there =
        let kept = reached_kept ts holds.reached in
        let climbed = reached_climbed ts holds.reached in
        let rests = holds.whole.first_rests in
        whole_told ts l p x count ds w g (length s.arcs) s.process control_levels s.reference 0 0 a (stands s)
        (planned_levels l p x table.low) parents_counted (λ e. omega (arith, e, rests))
        (there_held l p x w s.reference s.process holds.tells.controls there) from
        (rooted_below s.fresh s.arcs s.process climbed.up kept.rooted)
        (omega (arith, cells_few)) (omega (arith, cells_few))

    -- what the words come to
    pub weighed : (a : Address) → From ds count 0 a
        → weight p x count ds w g c ≡ weight_of count (step ts s.process (stands s) a)
    unfolding weight
    weighed a from =
        let t = holds.tells in
        rw (t.reference_is, t.arcs_are, t.cells_are) (go (eqb s.reference 0) refl)
      where
        at_start : (s : State) → s ≡ start → start_weight ≡ weight_of count (step ts s.process (stands s) a)
        at_start s e = rw e (start_weighed a from)

        go : (b : Bool) → eqb s.reference 0 ≡ b
            → choose b start_weight
            (at_reference p x count ds w g (length s.arcs) control_levels s.reference 0 0 0 (cells s.process))
            ≡ weight_of count (step ts s.process (stands s) a)
        go true e = at_start s (holds.tells.begins (eqb-true s.reference 0 e))
        go false e = there_weighed a from (eqb-false s.reference 0 e)
