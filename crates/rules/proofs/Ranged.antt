-- Control stays in range of its table: where every definition calls one of d definitions and has events below
-- e, so does every control of a run, since a step leaves parts of what it stepped from or a definition's
-- right-hand side, and control starts as a call of definition 00. So its events are among the table's, a status
-- says of every run of a checked table what it says of a control with such events, and the table has every
-- definition that control calls. Assumes nothing.
use Rattle.std.proofs.Common.{ℕ, zero, suc, ◌<◌, ◌≡◌, refl, subst, List, [], ◌∷◌, ◌↔◌, arith, length}
use Rattle.std.proofs.Math.Option.{Option, none, some}
use Rattle.std.proofs.Math.ListN.{get_elem?}
use Rattle.lines.specs.Judging as Judging
use Rattle.tables.specs.Table.{Sofar, judged}
use Rattle.terms.specs.Term.{call, SKIP, STOP, Operator, external, parallel, Term, LeafWithin, Within}
use Rattle.terms.specs.Term.{definitions_of}
use Rattle.terms.specs.Term as Term
use Rattle.terms.proofs.Trees.{each_at, checked_trees}
use Rattle.places.specs.Place.{Place}
use Rattle.rules.specs.Process.{Address, Process, leaf, prefix, internal, split, sequence, Ω, ⊥', below}
use Rattle.rules.specs.Process.{joined, untouched, right_side}
use Rattle.rules.specs.Track.{At, Outcome, labelled, prefixed, around, jointly, carried, started, ended}
use Rattle.rules.specs.Tracking.{Tracks, process_call, prefixing, skip, stop, internal_choice_1}
use Rattle.rules.specs.Tracking.{internal_choice_2, external_choice_1, external_choice_2}
use Rattle.rules.specs.Tracking.{external_choice_3, external_choice_4, sequential_composition_1}
use Rattle.rules.specs.Tracking.{sequential_composition_2, synchronized_parallelism_1}
use Rattle.rules.specs.Tracking.{synchronized_parallelism_2, synchronized_parallelism_3}
use Rattle.rules.specs.Tracking.{synchronized_parallelism_4}
use Rattle.rules.specs.Run.{State, after, accepted, refused, answer, Reached, begun, goes_on}
use Rattle.rules.specs.Plain.{strip}
use Rattle.rules.specs.Stopping.{LeadsToSTOP}
use Rattle.rules.specs.declared.Event.{Event}
use Rattle.rules.specs.declared.Event.TheVariants.{Tau as τ}
use Rattle.rules.specs.declared.Status.{Status}
use Rattle.rules.specs.declared.Status.TheVariants.{Live as live, Stuck as stuck}
use Rattle.rules.specs.Offers.{status}
use Rattle.rules.proofs.Answered.{accepted_exactly}
use Rattle.rules.specs.Derivation.{Moves, Among}
use Rattle.rules.proofs.Stuck.{stuck_exactly, live_exactly, stuck_answered, stuck_accepted}

-- every call of a control is of one of d definitions, and every event is one of e
abbrev pub Ranged : ℕ → ℕ → Process → Type 0
Ranged d e (leaf w l) = LeafWithin d l
Ranged d e (prefix w k P) = (k < e) × Ranged d e P
Ranged d e (internal w P Q) = Ranged d e P × Ranged d e Q
Ranged d e (split w k m n P Q) = Ranged d e P × Ranged d e Q
Ranged d e (sequence w b P Q) = Ranged d e P × Ranged d e Q
Ranged d e Ω = Unit {0}
Ranged d e ⊥' = Unit {0}

joined_ranged : (d e : ℕ) (o : Operator) (w : Place) (P Q : Process) → Ranged d e P → Ranged d e Q
    → Ranged d e (joined o w P Q)
unfolding joined
joined_ranged d e Term.internal w P Q p q = (p, q)
joined_ranged d e external w P Q p q = (p, q)
joined_ranged d e Term.sequence w P Q p q = (p, q)
joined_ranged d e (parallel x) w P Q p q = (p, q)

-- a term within is in range, before any step
pub untouched_ranged : (d e : ℕ) (w : Place) (t : Term) → Within d e t → Ranged d e (untouched w t)
unfolding untouched
untouched_ranged d e w (Term.leaf l) h = h
untouched_ranged d e w (Term.prefix k t) h = (h.0, untouched_ranged d e (below w 2) t h.1)
untouched_ranged d e w (Term.binary o t u) h =
    joined_ranged d e o w _ _ (untouched_ranged d e (below w 1) t h.1.0)
    (untouched_ranged d e (below w 2) u h.1.1)

rhs_ranged : (d e n : ℕ) (o : Option Term) → ((t : Term) → o ≡ some t → Within d e t)
    → Ranged d e (right_side n o)
unfolding right_side
rhs_ranged d e n none h = tt
rhs_ranged d e n (some t) h = untouched_ranged d e _ t (h t refl)

-- a table whose definitions are within
module _ (d e : ℕ) (ts : List Term) (within : (n : ℕ) (t : Term) → get_elem? ts n ≡ some t → Within d e t) where
  -- a step stays in range
  pub ranged : {a : Address} {P : Process} {s : At} {r : Outcome} → Tracks ts a P s r → Ranged d e P
      → Ranged d e r.process
  unfolding labelled prefixed around jointly carried started ended
  ranged (process_call {n = n}) h = rhs_ranged d e n (get_elem? ts n) (within n)
  ranged prefixing h = h.1
  ranged skip h = tt
  ranged stop h = tt
  ranged internal_choice_1 h = h.0
  ranged internal_choice_2 h = h.1
  ranged (external_choice_1 i p) h = (ranged i h.0, h.1)
  ranged (external_choice_2 i p) h = (h.0, ranged i h.1)
  ranged (external_choice_3 i v) h = ranged i h.0
  ranged (external_choice_4 i v) h = ranged i h.1
  ranged (sequential_composition_1 i p) h = (ranged i h.0, h.1)
  ranged (sequential_composition_2 i p) h = h.1
  ranged (synchronized_parallelism_1 i p) h = (ranged i h.0, h.1)
  ranged (synchronized_parallelism_2 i p) h = (h.0, ranged i h.1)
  ranged (synchronized_parallelism_3 i j p q m c) h = (ranged i h.0, ranged j h.1)
  ranged (synchronized_parallelism_4 p q) h = tt

  -- so does every run, where there is a definition 00
  pub reached_ranged : {s : State} → 0 < d → Reached ts s → Ranged d e s.process
  unfolding after
  reached_ranged z begun = z
  reached_ranged z (goes_on {s = s} {t = t} a k p h) =
      let i = (accepted_exactly ts s a k t).0 h in
      subst (λ t. Ranged d e t.process) i.3 (ranged i.1 (reached_ranged z p))

-- the events of a control in range are among the table's
pub ranged_among : (d e : ℕ) (P : Process) → Ranged d e P → Among e P
ranged_among d e (leaf w l) h = tt
ranged_among d e (prefix w k P) h = (h.0, ranged_among d e P h.1)
ranged_among d e (internal w P Q) h = (ranged_among d e P h.0, ranged_among d e Q h.1)
ranged_among d e (split w k m n P Q) h = (ranged_among d e P h.0, ranged_among d e Q h.1)
ranged_among d e (sequence w b P Q) h = (ranged_among d e P h.0, ranged_among d e Q h.1)
ranged_among d e Ω h = tt
ranged_among d e ⊥' h = tt

-- what a status says of a state that accepted steps of a checked table reach
module _ (text : List ℕ) (t : Sofar) (q : judged text ≡ Judging.accepted t) {s : State} (h : Reached (definitions_of t) s) where
  abbrev ts : List Term
  ts = definitions_of t

  abbrev status_of : State → Status
  status_of u = status t.events u.process

  -- its events are the table's
  pub checked_among : Among t.events s.process
  checked_among =
      let trees = checked_trees text t q in
      ranged_among t.definitions t.events s.process
      (reached_ranged t.definitions t.events ts
      (λ k u e. (each_at t.definitions t.events ts trees.each k u e).1) trees.some_definitions h)

  -- stuck exactly when not at Ω and without a plain step, and live exactly when with one
  pub reached_stuck : (status_of s ≡ stuck) ↔ ((s.process ≡ Ω → ⊥) × (Moves ts (strip s.process) → ⊥))
  reached_stuck = stuck_exactly ts t.events s.process checked_among

  pub reached_live : (status_of s ≡ live) ↔ Moves ts (strip s.process)
  reached_live = live_exactly ts t.events s.process checked_among

  -- what a stuck state answers: 7 exactly where an address leads to no STOP; and what it accepts is a STOP step,
  -- which shows τ and leaves it stuck
  module _ (dead : status_of s ≡ stuck) where
    pub reached_answers : (a : Address) → (answer ts s a ≡ refused 7) ↔ (LeadsToSTOP a s.process → ⊥)
    reached_answers = stuck_answered ts t.events s checked_among dead

    pub reached_stays : (a : Address) (k : Event) (u : State) → answer ts s a ≡ accepted k u
        → (k ≡ τ) × LeadsToSTOP a s.process × (status_of u ≡ stuck)
    reached_stays = stuck_accepted ts t.events s checked_among dead

-- every definition that a control calls is in the table
abbrev pub Calls : List Term → Process → Type 0
Calls ts (leaf w (call m)) = get_elem? ts m ≡ none → ⊥
Calls ts (leaf w SKIP) = Unit {0}
Calls ts (leaf w STOP) = Unit {0}
Calls ts (prefix w k P) = Calls ts P
Calls ts (internal w P Q) = Calls ts P × Calls ts Q
Calls ts (split w k m n P Q) = Calls ts P × Calls ts Q
Calls ts (sequence w b P Q) = Calls ts P × Calls ts Q
Calls ts Ω = Unit {0}
Calls ts ⊥' = Unit {0}

-- a table has the definitions of the numbers below its length
has_definition : (ts : List Term) (n : ℕ) → n < length ts → get_elem? ts n ≡ none → ⊥
has_definition [] n h q = omega arith
has_definition (t ∷ ts) zero h q = let z : ◌≡◌ {A = ℕ} 0 1 = cc in omega arith
has_definition (t ∷ ts) (suc n) h q = has_definition ts n (omega arith) q

-- a table has every definition that a control in range of it calls
pub ranged_calls : (d e : ℕ) (ts : List Term) (P : Process) → d ≡ length ts → Ranged d e P → Calls ts P
ranged_calls d e ts (leaf w (call m)) c h = has_definition ts m (omega arith)
ranged_calls d e ts (leaf w SKIP) c h = tt
ranged_calls d e ts (leaf w STOP) c h = tt
ranged_calls d e ts (prefix w k P) c h = ranged_calls d e ts P c h.1
ranged_calls d e ts (internal w P Q) c h = (ranged_calls d e ts P c h.0, ranged_calls d e ts Q c h.1)
ranged_calls d e ts (split w k m n P Q) c h = (ranged_calls d e ts P c h.0, ranged_calls d e ts Q c h.1)
ranged_calls d e ts (sequence w b P Q) c h = (ranged_calls d e ts P c h.0, ranged_calls d e ts Q c h.1)
ranged_calls d e ts Ω c h = tt
ranged_calls d e ts ⊥' c h = tt
