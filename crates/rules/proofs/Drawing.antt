-- Each step draws: the next fresh reference behind a derivation is larger than before it. A rule without premises draws
-- at least one, and what is done around a premise, entering a side or starting one, takes none back. Assumes nothing.
use Rattle.std.proofs.Common.{ℕ, ◌≤◌, ◌<◌, ◌≡◌, sym, List, arith}
use Rattle.std.proofs.Math.Option.{Option, none, some}
use Rattle.terms.specs.Term.{Term}
use Rattle.places.specs.Place.{Place}
use Rattle.rules.specs.declared.Event.{Event}
use Rattle.rules.specs.Process.{Address, Process}
use Rattle.rules.specs.Track.{At, Outcome, labelled, prefixed, first_eval, around, beside, jointly}
use Rattle.rules.specs.Track.{carried, started, ended}
use Rattle.rules.specs.Tracking.{Tracks, process_call, prefixing, skip, stop, internal_choice_1}
use Rattle.rules.specs.Tracking.{internal_choice_2, external_choice_1, external_choice_2}
use Rattle.rules.specs.Tracking.{external_choice_3, external_choice_4, sequential_composition_1}
use Rattle.rules.specs.Tracking.{sequential_composition_2, synchronized_parallelism_1}
use Rattle.rules.specs.Tracking.{synchronized_parallelism_2, synchronized_parallelism_3}
use Rattle.rules.specs.Tracking.{synchronized_parallelism_4}
use Rattle.rules.specs.Run.{State, after, accepted, answer}
use Rattle.rules.proofs.Answered.{accepted_exactly}

-- entering a side takes nothing back
entering : (own other : Option ℕ) (w : Place) (s : At) → s.fresh ≤ (first_eval own other w s).fresh
unfolding first_eval
entering (some n) other w s = omega arith
entering none (some o) w s = omega arith
entering none none w s = omega arith

module _ (ts : List Term) where
  -- each rule draws
  pub draws_some : {a : Address} {P : Process} {s : At} {r : Outcome} → Tracks ts a P s r → s.fresh < r.fresh
  unfolding labelled prefixed around jointly carried started ended
  draws_some process_call = omega arith
  draws_some prefixing = omega arith
  draws_some skip = omega arith
  draws_some stop = omega arith
  draws_some internal_choice_1 = omega arith
  draws_some internal_choice_2 = omega arith
  draws_some (external_choice_1 {w = w} {n₁ = m} {n₂ = n} {s = s} d e) =
      omega (arith, entering m n w s, draws_some d)
  draws_some (external_choice_2 {w = w} {n₁ = m} {n₂ = n} {s = s} d e) =
      omega (arith, entering n m w s, draws_some d)
  draws_some (external_choice_3 {w = w} {n₁ = m} {n₂ = n} {s = s} d v) =
      omega (arith, entering m n w s, draws_some d)
  draws_some (external_choice_4 {w = w} {n₁ = m} {n₂ = n} {s = s} d v) =
      omega (arith, entering n m w s, draws_some d)
  draws_some (sequential_composition_1 d n) = draws_some d
  draws_some (sequential_composition_2 d e) = omega (arith, draws_some d)
  draws_some (synchronized_parallelism_1 {w = w} {n₁ = m} {n₂ = n} {s = s} d e) =
      omega (arith, entering m n w s, draws_some d)
  draws_some (synchronized_parallelism_2 {w = w} {n₁ = m} {n₂ = n} {s = s} d e) =
      omega (arith, entering n m w s, draws_some d)
  draws_some (synchronized_parallelism_3 {w = w} {n₁ = m} {n₂ = n} {s = s} {l = l} d d' e e' c p) =
      let i = first_eval m n w s in
      omega (arith, entering m n w s, draws_some d, entering n (some i.reference) w (beside s i l), draws_some d')
  draws_some (synchronized_parallelism_4 p q) = omega arith

  -- so each accepted step does
  pub accepted_draws : (s t : State) (a : Address) (e : Event) → answer ts s a ≡ accepted e t → s.fresh < t.fresh
  unfolding after
  accepted_draws s t a e h =
      let d = (accepted_exactly ts s a e t).0 h in
      rw (sym d.3) (draws_some d.1)
