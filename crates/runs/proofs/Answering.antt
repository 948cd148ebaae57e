-- The answer of a step is the report's, and the words that it leaves hold the state behind it. A refusal leaves everything as it
-- was. An accepted step's words are those that `Performing` and `Keeping` tell of. Digits that are no address weigh nothing that
-- ends behind the last of them. Assumes nothing.
use Rattle.std.specs.Prelude.{ℕ, zero, suc, ◌-◌, ◌≤◌, ◌<◌, ◌≡◌, true, false, List, [], ◌∷◌}
use Rattle.std.proofs.Common.{refl, sym, ◌∙◌, arith}
use Rattle.std.proofs.Common.{length, eqb, eq-eqb, ne_eqb}
use Rattle.std.proofs.Math.Option.{Option, none, some}
use Rattle.terms.specs.Term.{Term}
use Rattle.rules.specs.Process.{Digit, one, two, three, four, Address}
use Rattle.rules.specs.Track.{Outcome}
use Rattle.rules.specs.Step.{Stepped as Come, stepped as come, step}
use Rattle.rules.specs.Run.{State, stands, after, within_room, whole, answer, goes_on}
use Rattle.rules.specs.Run as Run
use Rattle.rules.proofs.Derived.{step_exactly}
use Rattle.plans.specs.words.Plan.{Layout}
use Rattle.looking.specs.code.Looking.{digit_at}
use Rattle.weights.specs.code.Rules.{Weighed}
use Rattle.std.specs.Prelude.{Some, None}
use Rattle.weighing.proofs.Told as Told
use Rattle.weighing.proofs.Told.{number, From, weight_of, digit_none, from_left}
use Rattle.counting.specs.code.Counting.{reference, cells as cell-count, arcs}
use Rattle.runs.specs.code.Doors.{start_weight, control_levels, Stepped, weight, refused, accepted}
use Rattle.runs.specs.code.Doors.{by_room, by_weight, stepped}
use Rattle.runs.specs.words.Held.{Table, Holds, addressed, told, behind}
use Rattle.rules.specs.Addressed.{digit_of, answered}
use Rattle.runs.proofs.Reading.{address_reads, address_stops}
use Rattle.runs.proofs.Stopping.{Stops, stops_either, reference_stops}
use Rattle.runs.proofs.Rooms.{rooms_told}
use Rattle.runs.proofs.Weights.{weighed}
use Rattle.runs.proofs.Keeping.{behind_holds}
use Rattle.runs.proofs.Performing.{performs}

-- a digit is not 0
number_some : (d : Digit) → number d ≡ 0 → ⊥
unfolding number
number_some one e = omega arith
number_some two e = omega arith
number_some three e = omega arith
number_some four e = omega arith

-- where a digit is left, the others do not end behind the last
before_last : (ds : List ℕ) (count at : ℕ) (d : Digit) → digit_at ds count at ≡ number d → eqb at count ≡ false
before_last ds count at d h =
    ne_eqb at count (λ e. number_some d (sym h ∙ digit_none ds count at e))

-- an answer that is the report's, and words that hold the state behind it
pub record Keeps (l : Layout) (p x : List ℕ) (ts : List Term) (s : State) (z : Stepped) (r : Run.Answer) : Type 0 where
  pub answer_is : z.answer ≡ told r
  pub holds : Holds l p x ts z.nodes z.track z.counters (behind s r)

module _ (l : Layout) (p x : List ℕ) (ts : List Term) (count : ℕ) (ds : List ℕ) (table : Table l p x ts)
    (w g c : List ℕ) (s : State) (held : Holds l p x ts w g c s) where
  refuses : (n : ℕ) → Keeps l p x ts s (refused p x count ds w g c n) (Run.refused n)
  unfolding told behind
  refuses n = record { answer_is = refl; holds = held }

  module _ (a : Address) (from : From ds count 0 a) where
    -- a derivation that the address names, by the room that it passes
    by_rooms : (r : Outcome) → step ts s.process (stands s) a ≡ come r [] → (n : ℕ)
        → Run.over_room (after s r) ≡ n
        → Keeps l p x ts s (by_room p x count ds w g c n) (within_room n r.event (after s r))
    unfolding by_room accepted within_room told behind answer Run.answered whole
    by_rooms r steps zero room =
        let accepts : answer ts s a ≡ Run.accepted r.event (after s r) = rw (steps, room) in
        let reached = goes_on a r.event held.reached accepts in
        let named = (step_exactly ts s.process (stands s) a r).0 steps in
        let done = performs l p x ts count ds w g c a from _ table s held steps named reached in
        record {
          answer_is = rw done.goes.matches.event_is;
          holds = behind_holds l p x ts count w g c s held a _ _ accepts done.goes done.rests done.keeps;
        }
    by_rooms r steps (suc n) room = refuses (suc n)

    -- by the digits that are left
    by_unused : (r : Outcome) (b : Address) → step ts s.process (stands s) a ≡ come r b
        → Keeps l p x ts s (by_weight p x count ds w g c (weight_of count (come r b))) (Run.answered s (come r b))
    unfolding by_weight weight_of Told.weight Run.answered whole
    by_unused r [] steps =
        let all : eqb (count - 0) count ≡ true = eq-eqb (count - 0) count (omega arith) in
        let t = held.tells in
        rw (all, rooms_told s c count r [] t.nodes_are t.arcs_are t.meetings_are)
        (by_rooms r steps (Run.over_room (after s r)) refl)
    by_unused r (d ∷ b) steps =
        let left = from_left ds count ts 0 s.process (stands s) a _ steps from in
        rw (before_last ds count (count - suc (length b)) d left.0) (refuses 7)

    by_step : (o : Option Come) → step ts s.process (stands s) a ≡ o
        → Keeps l p x ts s (by_weight p x count ds w g c (weight_of count o)) (Run.answered s o)
    unfolding by_weight weight_of Run.answered
    by_step none steps = refuses 7
    by_step (some y) steps = by_unused y.outcome y.unused steps

  -- digits that are no address
  none_weighs : (k : ℕ) → k < count → (v : Weighed) → Stops k v
      → Keeps l p x ts s (by_weight p x count ds w g c v) (Run.refused 7)
  unfolding by_weight
  none_weighs k h None stops = refuses 7
  none_weighs k h (Some d) stops = rw (ne_eqb d.at count (λ e. omega arith)) (refuses 7)

  weight_stops : (k : ℕ) → digit_of (digit_at ds count k) ≡ none → Stops k (weight p x count ds w g c)
  unfolding weight
  weight_stops k wrong =
      let first : 0 ≤ k = omega arith in
      stops_either k (eqb (reference c) 0) start_weight _ first
      (reference_stops p x count ds k wrong w g (arcs c) control_levels (reference c) 0 0 0 (cell-count c) first)

  by_address : (o : Option Address) → addressed ds count ≡ o
      → Keeps l p x ts s (stepped p x count ds w g c) (answered ts s o)
  unfolding stepped answered answer
  by_address none e =
      let k = address_stops ds count 0 count e in
      let before = k.before in
      none_weighs k.place (omega arith) (weight p x count ds w g c) (weight_stops k.place k.wrong)
  by_address (some a) e =
      let from = address_reads ds count 0 count a (omega arith) e in
      rw (weighed l p x ts count ds w g c table s held a from)
      (by_step a from (step ts s.process (stands s) a) refl)

  -- the answer of a step is the report's
  pub step_answered : (stepped p x count ds w g c).answer ≡ told (answered ts s (addressed ds count))
  step_answered = (by_address (addressed ds count) refl).answer_is

  -- and the words that it leaves hold the state behind it
  pub step_holds : Holds l p x ts (stepped p x count ds w g c).nodes (stepped p x count ds w g c).track
      (stepped p x count ds w g c).counters (behind s (answered ts s (addressed ds count)))
  step_holds = (by_address (addressed ds count) refl).holds
