-- What a step and a script's line come to, with the words after them, by what their tests found: each law
-- takes what the calls on the way promise. Assumes nothing.
use Rattle.std.proofs.Common.{Some, None, Result, Ok, Err, ok_or, ℕ, zero, suc, ◌≡◌, refl, sym, ap, ◌∙◌, true}
use Rattle.std.proofs.Common.{List, eqb, eq-eqb, ne_eqb}
use Rattle.lines.specs.declared.Refusal.{Refusal}
use Rattle.lines.proofs.Refusals.{number_once}
use Rattle.rules.specs.declared.Event.TheVariants.{Tau}
use Rattle.weighing.specs.code.Weigh.{at_reference}
use Rattle.weights.specs.declared.Weight.{Weight}
use Rattle.weights.specs.code.Rules.{Weighed}
use Rattle.leaves.specs.code.Leaves.{called}
use Rattle.stepping.specs.code.Take.{take}
use Rattle.drawing.specs.declared.Tally.{Tally}
use Rattle.leaves.specs.declared.Taken.{Taken}
use Rattle.leaves.proofs.Laws.{Comes}
use Rattle.counting.specs.code.Counting.{reference, cells, arcs, over_room, tally_of, recounted}
use Rattle.runs.specs.code.Doors.{start_weight, control_levels, step_levels, weight, performed, Stepped, with_answer}
use Rattle.runs.specs.code.Doors.{accepted, by_room, by_weight, stepped}
use Rattle.runs.specs.Answer.{Answer, Accepted, Refused, answer_told}
use Rattle.runs.specs.declared.Shown.{Shown}

-- weighing and taking, by whether the run has started
module _ (p : List ℕ) (count : ℕ) (ds w g c : List ℕ) (n : ℕ) (n_is : n ≡ reference c) where
  module _ (starts : n ≡ 0) where
    at_start : eqb (reference c) 0 ≡ true
    at_start = eq-eqb (reference c) 0 (sym n_is ∙ starts)

    pub weight_start : (x : List ℕ) (r : Weighed) → r ≡ start_weight → r ≡ weight p x count ds w g c
    unfolding weight
    weight_start x r r_is = simp at_start r_is

    pub performed_start : (k : Tally) → k ≡ tally_of c → (d : Taken) (v h : List ℕ)
        → Comes d v h (called k w g) → Comes d v h (performed p count ds w g c)
    unfolding performed
    performed_start k k_is d v h so = simp at_start (rw k_is at so)

  module _ (runs : n ≡ 0 → ⊥) (s : ℕ) (s_is : s ≡ cells c) where
    pub weight_on : (x : List ℕ) (a : ℕ) → a ≡ arcs c → (r : Weighed)
        → r ≡ at_reference p x count ds w g a control_levels n 0 0 0 s → r ≡ weight p x count ds w g c
    unfolding weight
    weight_on x a a_is r r_is =
        simp (ne_eqb (reference c) 0 (λ z. runs (n_is ∙ z))) (rw (a_is, n_is, s_is) at r_is)

    pub performed_on : (k : Tally) → k ≡ tally_of c → (d : Taken) (v h : List ℕ)
        → Comes d v h (take p count ds step_levels n 0 0 s k w g) → Comes d v h (performed p count ds w g c)
    unfolding performed
    performed_on k k_is d v h so =
        simp (ne_eqb (reference c) 0 (λ z. runs (n_is ∙ z))) (rw (k_is, n_is, s_is) at so)

-- a weight that is wanted, and the refusal where there is none
pub wanted_some : (o : Weighed) (r : Refusal) (w : Weight) → ok_or o r ≡ Ok w → o ≡ Some w
wanted_some None r w e = cc
wanted_some (Some v) r w e = cc

pub wanted_none : (o : Weighed) (r s : Refusal) → ok_or o r ≡ Err s → (o ≡ None) × (s ≡ r)
wanted_none None r s e = (refl, cc)
wanted_none (Some v) r s e = (cc, cc)

-- what an answer tells, where it is no refusal
shown_of : Answer → Result Shown Refusal
shown_of (Accepted s) = Ok s
shown_of (Refused n) = Ok (record { event = Tau })

pub answer_told_once : (x y : Result Shown Refusal) → answer_told x ≡ answer_told y → x ≡ y
unfolding answer_told shown_of
answer_told_once (Ok e) (Ok f) same = ap shown_of same
answer_told_once (Ok e) (Err s) same = cc
answer_told_once (Err r) (Ok f) same = cc
answer_told_once (Err r) (Err s) same = ap Err (number_once r s cc)

-- a step answers a, with words w, g and c after it
abbrev pub Steps : Answer → List ℕ → List ℕ → List ℕ → Stepped → Type 0
Steps a w g c s = with_answer a w g c ≡ s

-- a step by an address
module _ (p x : List ℕ) (count : ℕ) (ds w g c : List ℕ) where
  abbrev All : Stepped
  All = stepped p x count ds w g c

  by_number : (n : ℕ) → (n ≡ 0 → ⊥) → Steps (Refused n) w g c (by_room p x count ds w g c n)
  unfolding by_room
  by_number zero h = absurd (h refl)
  by_number (suc n) h = refl

  module _ (r : Weighed) (r_is : r ≡ weight p x count ds w g c) where
    all_by : (s : Weighed) → r ≡ s → All ≡ by_weight p x count ds w g c s
    unfolding stepped
    all_by s h = ap (by_weight p x count ds w g c) (sym r_is ∙ h)

    pub none_derived : r ≡ None → Steps (Refused 7) w g c All
    unfolding by_weight
    none_derived h = sym (all_by None h)

    module _ (d : Weight) (derived : r ≡ Some d) where
      pub digits_left : (d.at ≡ count → ⊥) → Steps (Refused 7) w g c All
      unfolding by_weight
      digits_left h =
          rw (all_by (Some d) derived) (simp (ne_eqb d.at count h))

      module _ (whole : d.at ≡ count) (n : ℕ) (n_is : n ≡ over_room d c) where
        all_by_room : All ≡ by_room p x count ds w g c n
        unfolding by_weight
        all_by_room = rw (n_is, all_by (Some d) derived) (simp (eq-eqb d.at count whole))

        pub room_passed : (n ≡ 0 → ⊥) → Steps (Refused n) w g c All
        room_passed h = rw all_by_room (by_number n h)

        pub step_taken : n ≡ 0 → (e : Taken) (v h k : List ℕ) → Comes e v h (performed p count ds w g c)
            → k ≡ recounted e → Steps (Accepted (record { event = e.event })) v h k All
        unfolding by_room accepted
        step_taken fits e v h k so k_is =
            rw (all_by_room, fits, k_is, ← so)
