-- A step has no more event nodes than labels, since it labels each of them. By the derivation, rule by rule. Assumes
-- nothing.
use Rattle.std.proofs.Common.{ℕ, ◌≤◌, List, ◌++◌, arith, length, length-append}
use Rattle.std.proofs.Math.Option.{Option}
use Rattle.terms.specs.Term.{Term}
use Rattle.places.specs.Place.{Place}
use Rattle.rules.specs.Process.{Address, Process}
use Rattle.rules.specs.Track.{At, Outcome, Entered, labelled, prefixed, first_eval, right_eval, around}
use Rattle.rules.specs.Track.{jointly, carried, started, ended}
use Rattle.rules.specs.Tracking.{Tracks, process_call, prefixing, skip, stop, internal_choice_1}
use Rattle.rules.specs.Tracking.{internal_choice_2, external_choice_1, external_choice_2, external_choice_3}
use Rattle.rules.specs.Tracking.{external_choice_4, sequential_composition_1, sequential_composition_2}
use Rattle.rules.specs.Tracking.{synchronized_parallelism_1, synchronized_parallelism_2}
use Rattle.rules.specs.Tracking.{synchronized_parallelism_3, synchronized_parallelism_4}

-- a side's, with what entering it adds in front, and both sides'
side_labelled : (own other : Option ℕ) (w : Place) (s : At) (r : Outcome) → length r.met ≤ length r.labels
    → length r.met ≤ length ((first_eval own other w s).labels ++ r.labels)
side_labelled own other w s r h = omega (arith, h, length-append (first_eval own other w s).labels r.labels)

both_labelled : (i j : Entered) (l r : Outcome) → length l.met ≤ length l.labels
    → length r.met ≤ length r.labels
    → length (l.met ++ r.met) ≤ length ((i.labels ++ l.labels) ++ (j.labels ++ r.labels))
both_labelled i j l r h k = omega (
  arith,
  h,
  k,
  length-append l.met r.met,
  length-append (i.labels ++ l.labels) (j.labels ++ r.labels),
  length-append i.labels l.labels,
  length-append j.labels r.labels,
)

pub met_labelled : (ts : List Term) {a : Address} {P : Process} {s : At} {r : Outcome} → Tracks ts a P s r
    → length r.met ≤ length r.labels
unfolding labelled prefixed around jointly carried started ended
met_labelled ts process_call = omega arith
met_labelled ts prefixing = omega arith
met_labelled ts skip = omega arith
met_labelled ts stop = omega arith
met_labelled ts internal_choice_1 = omega arith
met_labelled ts internal_choice_2 = omega arith
met_labelled ts (external_choice_1 {w = w} {n₁ = m} {n₂ = n} {s = s} {r = r} d e) =
    side_labelled m n w s r (met_labelled ts d)
met_labelled ts (external_choice_2 {w = w} {n₁ = m} {n₂ = n} {s = s} {r = r} d e) =
    side_labelled n m w s r (met_labelled ts d)
met_labelled ts (external_choice_3 {w = w} {n₁ = m} {n₂ = n} {s = s} {r = r} d v) =
    side_labelled m n w s r (met_labelled ts d)
met_labelled ts (external_choice_4 {w = w} {n₁ = m} {n₂ = n} {s = s} {r = r} d v) =
    side_labelled n m w s r (met_labelled ts d)
met_labelled ts (sequential_composition_1 d n) = met_labelled ts d
met_labelled ts (sequential_composition_2 d e) = omega arith
met_labelled ts (synchronized_parallelism_1 {w = w} {n₁ = m} {n₂ = n} {s = s} {r = r} d h) =
    side_labelled m n w s r (met_labelled ts d)
met_labelled ts (synchronized_parallelism_2 {w = w} {n₁ = m} {n₂ = n} {s = s} {r = r} d h) =
    side_labelled n m w s r (met_labelled ts d)
met_labelled ts (synchronized_parallelism_3 {w = w} {n₁ = m} {n₂ = n} {s = s} {l = l} {r = r} d d' e e' x c) =
    both_labelled (first_eval m n w s) (right_eval m n w s l) l r (met_labelled ts d) (met_labelled ts d')
met_labelled ts (synchronized_parallelism_4 p q) = omega arith
