-- A step that shows τ or ✓ has no event nodes: the report's Δ is empty after it, as its rules for choices,
-- sequences and ends write. Each rule passes the nodes of a step on only with the step's own event.
-- Assumes nothing.
use Rattle.std.proofs.Common.{ℕ, ◌≡◌, refl, sym, subst, List, []}
use Rattle.terms.specs.Term.{Term}
use Rattle.rules.specs.declared.Event.{Event}
use Rattle.rules.specs.declared.Event.TheVariants.{Tau as τ, Tick as ✓, Visible as visible}
use Rattle.rules.specs.Process.{Address, Process}
use Rattle.rules.specs.Track.{At, Outcome, labelled, prefixed, around, jointly, carried, started, ended}
use Rattle.rules.specs.Tracking.{Shows, passes, hides_τ, hides-✓, Tracks, process_call, prefixing, skip}
use Rattle.rules.specs.Tracking.{stop, internal_choice_1, internal_choice_2, external_choice_1}
use Rattle.rules.specs.Tracking.{external_choice_2, external_choice_3, external_choice_4}
use Rattle.rules.specs.Tracking.{sequential_composition_1, sequential_composition_2}
use Rattle.rules.specs.Tracking.{synchronized_parallelism_1, synchronized_parallelism_2}
use Rattle.rules.specs.Tracking.{synchronized_parallelism_3, synchronized_parallelism_4}

-- τ or ✓
abbrev pub Quiet : Event → Type 0
Quiet τ = Unit {0}
Quiet ✓ = Unit {0}
Quiet (visible k) = ⊥

-- what a parallel shows quietly was quiet
shown_quiet : {x : ℕ} {e f : Event} → Shows x e f → Quiet f → Quiet e
shown_quiet (passes out) q = q
shown_quiet hides_τ q = tt
shown_quiet hides-✓ q = tt

pub quiet_meets_none : (ts : List Term) {a : Address} {P : Process} {s : At} {r : Outcome} → Tracks ts a P s r
    → Quiet r.event → r.met ≡ []
unfolding labelled prefixed around jointly carried started ended
quiet_meets_none ts process_call q = refl
quiet_meets_none ts prefixing q = absurd q
quiet_meets_none ts skip q = refl
quiet_meets_none ts stop q = refl
quiet_meets_none ts internal_choice_1 q = refl
quiet_meets_none ts internal_choice_2 q = refl
quiet_meets_none ts (external_choice_1 d e) q = quiet_meets_none ts d (subst Quiet (sym e) tt)
quiet_meets_none ts (external_choice_2 d e) q = quiet_meets_none ts d (subst Quiet (sym e) tt)
quiet_meets_none ts (external_choice_3 d v) q = quiet_meets_none ts d q
quiet_meets_none ts (external_choice_4 d v) q = quiet_meets_none ts d q
quiet_meets_none ts (sequential_composition_1 d n) q = quiet_meets_none ts d q
quiet_meets_none ts (sequential_composition_2 d e) q = refl
quiet_meets_none ts (synchronized_parallelism_1 d h) q = quiet_meets_none ts d (shown_quiet h q)
quiet_meets_none ts (synchronized_parallelism_2 d h) q = quiet_meets_none ts d (shown_quiet h q)
quiet_meets_none ts (synchronized_parallelism_3 d d' e e' x c) q = absurd q
quiet_meets_none ts (synchronized_parallelism_4 p p') q = refl
