-- What the doors of a run come to, whatever the words hold.
use Rattle.std.specs.Prelude.{ℕ, zero, suc, List, [], ◌∷◌, replicate, eqb}
use Rattle.lines.specs.Line.{choose}
use Rattle.rules.specs.declared.Event.TheVariants.{Tau}
use Rattle.weighing.specs.code.Weigh.{at_reference}
use Rattle.weights.specs.code.Rules.{Weighed}
use Rattle.std.specs.Prelude.{Some, None}
use Rattle.leaves.specs.code.Leaves.{Done, called}
use Rattle.stepping.specs.code.Take.{take}
use Rattle.counting.specs.code.Counting.{reference, cells, arcs, over_room, tally_of, recounted}
use Rattle.control.specs.words.Words.{track_words}
use Rattle.runs.specs.Answer.{Answer, Accepted, Refused}

-- a run that has just been started
abbrev pub fresh_nodes : List ℕ
fresh_nodes = replicate 65544 0

abbrev pub fresh_track : List ℕ
fresh_track = replicate track_words 0

abbrev pub fresh_counters : List ℕ
fresh_counters = 0 ∷ 1 ∷ 1 ∷ 0 ∷ 0 ∷ 0 ∷ 0 ∷ 0 ∷ []

-- the start's call labels its node and draws once
abbrev pub start_weight : Weighed
start_weight =
    Some (record { event = Tau; at = 0; size = 1; nodes = 1; arcs = 1; meetings = 0; met = 0 })

-- how deep control and the terms below it are gone down to
abbrev pub control_levels : ℕ
control_levels = 1025

abbrev pub step_levels : ℕ
step_levels = 2048

-- an answer, with the words after it
pub record Stepped : Type 0 where
  pub answer : Answer
  pub nodes : List ℕ
  pub track : List ℕ
  pub counters : List ℕ

abbrev pub with_answer : Answer → List ℕ → List ℕ → List ℕ → Stepped
with_answer a w g c = record { answer = a; nodes = w; track = g; counters = c }

module _ (p x : List ℕ) (count : ℕ) (ds w g c : List ℕ) where
  unfoldable pub weight : Weighed
  weight =
      choose (eqb (reference c) 0) start_weight
      (at_reference p x count ds w g (arcs c) control_levels (reference c) 0 0 0 (cells c))

module _ (p : List ℕ) (count : ℕ) (ds w g c : List ℕ) where
  unfoldable pub performed : Done
  performed =
      choose (eqb (reference c) 0) (called (tally_of c) w g)
      (take p count ds step_levels (reference c) 0 0 (cells c) (tally_of c) w g)

module _ (p x : List ℕ) (count : ℕ) (ds w g c : List ℕ) where
  -- a refused step leaves every word as it was
  abbrev pub refused : ℕ → Stepped
  refused n = with_answer (Refused n) w g c

  unfoldable pub accepted : Done → Stepped
  accepted d =
      with_answer (Accepted (record { event = d.taken.event })) d.nodes d.track (recounted d.taken)

  unfoldable pub by_room : ℕ → Stepped
  by_room zero = accepted (performed p count ds w g c)
  by_room (suc n) = refused (suc n)

  unfoldable pub by_weight : Weighed → Stepped
  by_weight None = refused 7
  by_weight (Some d) = choose (eqb d.at count) (by_room (over_room d c)) (refused 7)

  unfoldable pub stepped : Stepped
  stepped = by_weight (weight p x count ds w g c)
