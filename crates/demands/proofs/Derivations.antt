-- Demand 2 through the doors, by the promise of a step alone. From lent words that hold a run, what a step by the digits of
-- an address answers and leaves is what the report's tracking rules have for that address; and every plain step of the
-- stripped control has an address, which the step accepts where its result fits. Assumes nothing.
use Rattle.std.specs.Prelude.{ℕ, ◌≤◌, ◌≡◌, refl, List, [], ◌⊎◌, ◌↔◌, length}
use Rattle.std.proofs.Common.{sym, ap, ◌∙◌, arith}
use Rattle.std.proofs.lemmas.List.Edits.{sets}
use Rattle.std.proofs.Math.Option.{none, some}
use Rattle.std.proofs.Math.ListN.{get_elem?}
use Rattle.scripts.specs.Script.{most}
use Rattle.columns.specs.words.Columns.{all_columns}
use Rattle.tables.specs.Table.{Sofar}
use Rattle.tables.specs.words.Columns.{TableOf}
use Rattle.terms.specs.Term.{Term, definitions_of}
use Rattle.rules.specs.declared.Event.{Event}
use Rattle.rules.specs.declared.Event.TheVariants.{Tau as τ}
use Rattle.rules.specs.Process.{Address}
use Rattle.rules.specs.Track.{Outcome, labelled}
use Rattle.rules.specs.Tracking.{process_call}
use Rattle.rules.specs.Plain.{Plain, strip}
use Rattle.rules.specs.Plain as Fig3
use Rattle.rules.specs.Stopping.{LeadsToSTOP}
use Rattle.rules.specs.Run.{State, start, stands, after, over_room, answer}
use Rattle.rules.specs.Run as Run
use Rattle.rules.specs.Addressed.{spelled, answered}
use Rattle.rules.specs.Derivation.{Named, first_step}
use Rattle.rules.proofs.Answered.{accepted_exactly, seven_exactly, room_exactly}
use Rattle.rules.proofs.Stripped.{tracked_plainly, plainly_tracked}
use Rattle.plans.specs.words.Layout.{layout}
use Rattle.runs.specs.words.Held.{address_from, addressed, told, behind, Words, Begins}
use Rattle.runs.specs.Answer.{Answer, Refused}
use Rattle.runs.specs.declared.Shown.{Shown}
use Rattle.runs.proofs.Spelled.{spelled_array}
use Rattle.weighing.proofs.TermTold.{rhs_cells}
use Rattle.demands.specs.words.Words.{Planned, HoldsRun, Steps, shows}
use Rattle.demands.proofs.Exchanged.{for_runs, step_by}

-- the answer of a case tells the case
accepted_shown : (o : Run.Answer) (e : Event) → told o ≡ shows e → (u : State) × (o ≡ Run.accepted e u)
unfolding told
accepted_shown (Run.accepted f u) e q =
    let same : ◌≡◌ {A = Shown} (record { event = f }) (record { event = e }) = cc in
    (u, ap (λ g. Run.accepted g u) (ap (λ (shown : Shown). shown.event) same))
accepted_shown (Run.refused n) e q = let z : ◌≡◌ {A = ℕ} 0 1 = cc in absurd (omega arith)

refused_shown : (o : Run.Answer) (n : ℕ) → told o ≡ Refused n → o ≡ Run.refused n
unfolding told
refused_shown (Run.accepted f u) n q = let z : ◌≡◌ {A = ℕ} 0 1 = cc in absurd (omega arith)
refused_shown (Run.refused m) n q = let same : m ≡ n = cc in ap Run.refused same

-- a run of one table, in the columns that its check left and by the plan that is laid out from them
module _ {text ks ps os xs rs p x : List ℕ} {t : Sofar} (table : TableOf text (all_columns ks ps os xs rs) t)
    (planned : Planned p x t) (v : Words) (s : State) (held : HoldsRun p x t v s) where
  abbrev ts : List Term
  ts = definitions_of t

  -- an outcome that the promise of a step allows, by digits that are an address
  module _ (ds : List ℕ) (count : ℕ) (a : Address) (named : addressed ds count ≡ some a) (r : Answer) (v' : Words)
      (step : Steps p x ds count v r v') where
    by_answer : (o : Run.Answer) → answer ts s a ≡ o → (r ≡ told o) × HoldsRun p x t v' (behind s o)
    by_answer o = step_by table planned v v' s r ds count a o held step named

    -- "An address is accepted exactly when the 2010 report's tracking rules have a derivation so named and its result fits
    -- the stated room."
    pub accepted_through : (e : Event)
        → (r ≡ shows e) ↔ ((o : Outcome) × Named ts s a o × (o.event ≡ e) × (over_room (after s o) ≡ 0))
    unfolding told
    accepted_through e = (
      λ h.
          let (u, is) = accepted_shown (answer ts s a) e (sym (by_answer _ refl).0 ∙ h) in
          let (o, d, shown, there, fits) = (accepted_exactly ts s a e u).0 is in
          (o, d, shown, ap over_room there ∙ fits),
      λ h.
          let (o, d, shown, fits) = h in
          (by_answer _ ((accepted_exactly ts s a e (after s o)).1 (o, d, shown, refl, fits))).0,
    )

    -- "Event, next process and track are those rules'."
    pub holds_through : (o : Outcome) → Named ts s a o → over_room (after s o) ≡ 0 → HoldsRun p x t v' (after s o)
    unfolding behind
    holds_through o d fits =
        (by_answer _ ((accepted_exactly ts s a o.event (after s o)).1 (o, d, refl, refl, fits))).1

    -- 7 exactly when there is none
    pub seven_through : (r ≡ Refused 7) ↔ ((o : Outcome) → Named ts s a o → ⊥)
    unfolding told
    seven_through = (
      λ h. (seven_exactly ts s a).0 (refused_shown (answer ts s a) 7 (sym (by_answer _ refl).0 ∙ h)),
      λ h. (by_answer _ ((seven_exactly ts s a).1 h)).0,
    )

    -- 8 to 11 exactly by the lowest room that its result passes
    pub room_through : (n : ℕ) → 8 ≤ n
        → (r ≡ Refused n) ↔ ((o : Outcome) × Named ts s a o × (over_room (after s o) ≡ n))
    unfolding told
    room_through n least = (
      λ h. (room_exactly ts s a n least).0 (refused_shown (answer ts s a) n (sym (by_answer _ refl).0 ∙ h)),
      λ h. (by_answer _ ((room_exactly ts s a n least).1 h)).0,
    )

    -- "With tracking stripped it is a plain step with the same event, or the STOP step, which changes nothing"
    pub stripped_through : (e : Event) → r ≡ shows e → (u : State) × HoldsRun p x t v' u
        × (Fig3.Steps ts (strip s.process) e (strip u.process)
        ⊎ ((e ≡ τ) × (strip u.process ≡ strip s.process) × LeadsToSTOP a s.process))
    unfolding after
    stripped_through e h =
        let (o, d, shown, fits) = (accepted_through e).0 h in
        (after s o, holds_through o d fits, rw shown at (tracked_plainly d))

  -- digits that are no address are answered 7
  pub no_address : (ds : List ℕ) (count : ℕ) → addressed ds count ≡ none → (r : Answer) (v' : Words)
      → Steps p x ds count v r v' → r ≡ Refused 7
  unfolding told answered
  no_address ds count unnamed r v' step =
      (step _ ts s (for_runs table planned) held).0 ∙ ap (λ o. told (answered ts s o)) unnamed

  -- "every plain step that room and address length allow has an accepted address": it has an address with its derivation, of
  -- the same event and stripping to the same process
  pub plain_addressed : {q : Plain} {e : Event} → Fig3.Steps ts (strip s.process) e q
      → (a : Address) × (o : Outcome) × Named ts s a o × (o.event ≡ e) × (strip o.process ≡ q)
  plain_addressed h = plainly_tracked ts h s.process refl (stands s)

  -- and every such address of at most 1,024 digits whose result fits the room, spelled in front of the lent digits, is
  -- accepted with that event, and the words behind it hold the state behind it
  pub plain_accepted : {e : Event} (a : Address) (o : Outcome) → Named ts s a o → o.event ≡ e → length a ≤ most
      → over_room (after s o) ≡ 0 → (ds : List ℕ) → length ds ≡ most → (r : Answer) (v' : Words)
      → Steps p x (sets ds 0 (spelled a)) (length a) v r v' → (r ≡ shows e) × HoldsRun p x t v' (after s o)
  plain_accepted {e} a o d shown few fits ds long r v' step =
      let named = spelled_array a few ds long in (
        (accepted_through (sets ds 0 (spelled a)) (length a) a named r v' step e).1 (o, d, shown, fits),
        holds_through (sets ds 0 (spelled a)) (length a) a named r v' step o d fits,
      )

-- what the first step calls has room
first_fits : (ts : List Term) → over_room (after start (first_step ts)) ≡ 0
unfolding over_room after labelled
first_fits ts = rw (rhs_cells 0 (get_elem? ts 0))

-- the first step of every table is accepted, by the empty address, and the words behind it hold the state behind it
pub first_accepted : {text ks ps os xs rs p x : List ℕ} {t : Sofar} → TableOf text (all_columns ks ps os xs rs) t
    → Planned p x t → (v : Words) → Begins v → (ds : List ℕ) (r : Answer) (v' : Words) → Steps p x ds 0 v r v'
    → (r ≡ shows τ) × HoldsRun p x t v' (after start (first_step (definitions_of t)))
unfolding labelled address_from
first_accepted {t = t} table planned v begins ds r v' step =
    let ts = definitions_of t in
    let held = begins (layout t) _ _ ts in
    let fits = first_fits ts in (
      (accepted_through table planned v start held ds 0 [] refl r v' step τ).1 (first_step ts, process_call, refl, fits),
      holds_through table planned v start held ds 0 [] refl r v' step (first_step ts) process_call fits,
    )
