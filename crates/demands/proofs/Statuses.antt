-- Document 02's W2 through the doors. What `status::status_at` may answer of lent words that hold a run tells whether it is
-- at Ω, and whether the plain rules have a step of the stripped control. A run that is stuck takes no step but a STOP's own, and
-- is stuck behind every step that it takes. Assumes nothing.
use Rattle.std.specs.Prelude.{ℕ, ◌≡◌, List, ◌↔◌}
use Rattle.std.proofs.Common.{sym, ◌∙◌}
use Rattle.std.proofs.Math.Option.{some}
use Rattle.columns.specs.words.Columns.{all_columns}
use Rattle.tables.specs.Table.{Sofar}
use Rattle.tables.specs.words.Columns.{TableOf}
use Rattle.terms.specs.Term.{Term, definitions_of}
use Rattle.rules.specs.declared.Event.{Event}
use Rattle.rules.specs.declared.Event.TheVariants.{Tau as τ}
use Rattle.rules.specs.declared.Status.{Status}
use Rattle.rules.specs.declared.Status.TheVariants.{Live, Ended, Stuck}
use Rattle.rules.specs.Process.{Address, Ω}
use Rattle.rules.specs.Plain.{strip}
use Rattle.rules.specs.Stopping.{LeadsToSTOP}
use Rattle.rules.specs.Run.{State, Reached, goes_on}
use Rattle.rules.specs.Derivation.{Moves}
use Rattle.rules.specs.Offers.{status}
use Rattle.rules.proofs.Stuck.{ended_exactly, stuck_stays}
use Rattle.rules.proofs.Ranged.{checked_among, reached_stuck, reached_live, reached_stays}
use Rattle.plans.specs.words.Layout.{layout}
use Rattle.plans.proofs.LaidRooms.{layout_low}
use Rattle.status.proofs.Runs.{run_covers}
use Rattle.runs.specs.words.Held.{Words, addressed}
use Rattle.runs.specs.Answer.{Answer}
use Rattle.demands.specs.Ahead.{Ahead, next, further}
use Rattle.demands.specs.words.Words.{Planned, HoldsRun, Steps, shows}
use Rattle.demands.specs.words.Statuses.{StatusOf}
use Rattle.demands.proofs.Derivations.{accepted_through}

-- what accepted steps lead to from a state that accepted steps reach, they reach
ahead_reached : {ts : List Term} {s u : State} → Reached ts s → Ahead ts s u → Reached ts u
ahead_reached h (next a e is) = goes_on a e h is
ahead_reached h (further a e more is) = goes_on a e (ahead_reached h more) is

-- runs of one table, in the columns that its check left and by the plan that is laid out from them
module _ {text ks ps os xs rs p x : List ℕ} {t : Sofar} (table : TableOf text (all_columns ks ps os xs rs) t)
    (planned : Planned p x t) where
  abbrev ts : List Term
  ts = definitions_of t

  status_is : (v : Words) (s : State) → HoldsRun p x t v s → (r : Status) → StatusOf p x v r
      → r ≡ status t.events s.process
  status_is v s held r tells =
      tells (layout t) s.process t.events (layout_low t) (rw held.tells.reference_is held.tells.controls)
      (run_covers text t table.checked held.reached)

  -- a stuck state has stuck states ahead of it
  ahead_stuck : {s u : State} → Reached ts s → status t.events s.process ≡ Stuck → Ahead ts s u
      → status t.events u.process ≡ Stuck
  ahead_stuck h dead (next a e is) = (reached_stays text t table.checked h dead a e _ is).2
  ahead_stuck h dead (further a e more is) =
      (reached_stays text t table.checked (ahead_reached h more) (ahead_stuck h dead more) a e _ is).2

  module _ (v : Words) (s : State) (held : HoldsRun p x t v s) (r : Status) (tells : StatusOf p x v r) where
    pub ended_through : (r ≡ Ended) ↔ (s.process ≡ Ω)
    ended_through = rw (status_is v s held r tells) (ended_exactly ts t.events s.process)

    -- "Stuck has to mean that the plain rules give no step to the stripped control, which is not Ω."
    pub stuck_through : (r ≡ Stuck) ↔ ((s.process ≡ Ω → ⊥) × (Moves ts (strip s.process) → ⊥))
    stuck_through = rw (status_is v s held r tells) (reached_stuck text t table.checked held.reached)

    pub live_through : (r ≡ Live) ↔ Moves ts (strip s.process)
    live_through = rw (status_is v s held r tells) (reached_live text t table.checked held.reached)

    module _ (dead : r ≡ Stuck) where
      -- "STOP steps may still be scripted after it": what a step then accepts is a STOP's own, and shows τ
      pub stops_alone : (ds : List ℕ) (count : ℕ) (a : Address) → addressed ds count ≡ some a
          → (q : Answer) (v' : Words) → Steps p x ds count v q v' → (e : Event) → q ≡ shows e
          → (e ≡ τ) × LeadsToSTOP a s.process
      stops_alone ds count a named q v' step e shown =
          let (o, d, event_is, fits) = (accepted_through table planned v s held ds count a named q v' step e).0 shown in
          let among = checked_among text t table.checked held.reached in
          let (silent, leads, behind) = stuck_stays ts t.events s.process among (sym (status_is v s held r tells) ∙ dead) d in
          (sym event_is ∙ silent, leads)

      -- and whatever is accepted, the run is stuck behind it
      pub stuck_for_good : {u : State} → Ahead ts s u → (v' : Words) → HoldsRun p x t v' u → (r' : Status) → StatusOf p x v' r'
          → r' ≡ Stuck
      stuck_for_good {u} more v' held' r' tells' =
          status_is v' u held' r' tells' ∙ ahead_stuck held.reached (sym (status_is v s held r tells) ∙ dead) more
