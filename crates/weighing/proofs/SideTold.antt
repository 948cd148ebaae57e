-- A split's step by one side or by both, as weights: where the sides' weights are those of their steps, with
-- what entering them adds in front, what the rules make of them is the weight of the split's step, with the
-- sequences around it. The same laws serve a term that no step has touched and an entered choice or parallel.
-- Assumes nothing.
use Rattle.std.proofs.Common.{ℕ, suc, ◌+◌, ◌*◌, ◌-◌, ◌<◌, ◌≡◌, refl, sym, ap, ◌∙◌, Bool, true, false, ◌&&◌}
use Rattle.std.proofs.Common.{List, [], ◌∷◌, ◌++◌, arith, length, length-append, eqb, add_comm, zero-mul}
use Rattle.std.proofs.Common.{suc-mul}
use Rattle.std.proofs.Math.Option.{Option, none, some}
use Rattle.lines.specs.Line.{choose}
use Rattle.sets.specs.EventSet.{member}
use Rattle.kinds.specs.Kind as Kind
use Rattle.places.specs.Place.{Place}
use Rattle.terms.specs.Term.{Term}
use Rattle.rules.specs.declared.Event.{Event}
use Rattle.rules.specs.declared.Event.TheVariants.{Tau as τ, Tick as ✓, Visible as visible, Tau, Tick}
use Rattle.rules.specs.declared.Event.TheVariants.{Visible}
use Rattle.rules.specs.Process.{one, two, three, Address, Split, choice, together, Process, split, cells}
use Rattle.rules.specs.Track.{At, Outcome, Entered, first_eval, inside, around, right_eval, right_inside}
use Rattle.rules.specs.Track.{each_with, meet, jointly}
use Rattle.rules.specs.Step.{Stepped, stepped, one_side, by_side, same, both_sides, with_right, then, step}
use Rattle.plans.specs.words.Plan.{kind}
use Rattle.control.specs.words.Control.{split_kind, split_set}
use Rattle.control.specs.words.Sums.{capped}
use Rattle.looking.specs.code.Looking.{is_side, set_of}
use Rattle.weights.specs.code.Rules as Rules
use Rattle.weights.specs.code.Rules.{settled, resized, entering, end_of}
use Rattle.weighing.specs.code.Weigh.{by_digit}
use Rattle.weights.specs.code.Rules.{Weighed}
use Rattle.std.specs.Prelude.{Some, None}
use Rattle.control.proofs.Capped.{capped_sum, capped_left, capped_right, capped_product}
use Rattle.weighing.proofs.Told.{weight, weight_of, wrapped, Single, some_behind, weight_none}
use Rattle.weighing.proofs.Told.{τ-goes-on, visible_goes_on, weight_on, weight_settled, ends_single}
use Rattle.control.proofs.Chains.{Awaiting as Behind}

-- what entering a side adds, in front of what the side does
unfoldable pub in_front : Entered → Option Stepped → Option Stepped
in_front i none = none
in_front i (some y) =
    stepped (around i y.outcome y.outcome.event y.outcome.process y.outcome.reference) y.unused

-- each meets each
pub each_length : (x : ℕ) (ys : List ℕ) → length (each_with x ys) ≡ length ys
unfolding each_with
each_length x [] = refl
each_length x (y ∷ ys) = ap suc (each_length x ys)

pub meet_length : (xs ys : List ℕ) → length (meet xs ys) ≡ length xs * length ys
unfolding meet
meet_length [] ys = sym (zero-mul (length ys))
meet_length (x ∷ xs) ys =
    rw (
      length-append (each_with x ys) (meet xs ys),
      each_length x ys,
      meet_length xs ys,
      suc-mul (length xs) (length ys),
    )
    (omega arith)

-- a side that was entered before
pub entered_before : (n : ℕ) (other : Option ℕ) (w : Place) (s : At) (r : Option Stepped)
    → in_front (first_eval (some n) other w s) r ≡ r
unfolding in_front first_eval around
entered_before n other w s none = refl
entered_before n other w s (some y) = refl

module _ (count : ℕ) where
  -- one that is entered now, with an arc to it
  pub entered_now : (i : Entered) (n : ℕ) → length i.labels ≡ n → length i.arcs ≡ 1 → (r : Option Stepped)
      → entering (weight_of count r) n ≡ weight_of count (in_front i r)
  unfolding in_front around weight_of weight entering
  entered_now i n labelled drawn none = refl
  entered_now i n labelled drawn (some y) =
      let ls = y.outcome.labels in
      let as' = y.outcome.arcs in
      rw (
        capped_left (length ls) n,
        capped_left (length as') 1,
        length-append i.labels ls,
        length-append i.arcs as',
        labelled,
        drawn,
        add_comm n (length ls),
        add_comm 1 (length as'),
      )

  module _ (qs : List Behind) (u : Single qs) (few : length qs < 65535) (own other size : ℕ)
      (whole : size ≡ length qs + (1 + (own + other))) where
    -- a test bars a step
    barred_told : (b : Bool) (w : Weighed) (r : Option Stepped) → w ≡ weight_of count (wrapped qs r)
        → choose b None w ≡ weight_of count (wrapped qs (choose b none r))
    unfolding weight_of
    barred_told true w r e = weight_none count qs
    barred_told false w r e = e

    module _ (i : Entered) (put : Option ℕ → Process → Process) (m : ℕ)
        (room : (n : ℕ) (P : Process) → cells (put (some n) P) ≡ 1 + (cells P + other)) (r : Outcome)
        (a : Address) where
      -- the split stays, or is dropped
      stays_told : (v : Event) → (v ≡ ✓ → ⊥)
          → Some (resized v (capped (size - own + capped (cells r.process)))
          (weight count (around i r v r.process r.reference) a))
          ≡ weight_of count (wrapped qs (stepped (around i r v (put (some r.reference) r.process) m) a))
      unfolding around resized weight
      stays_told v on =
          let n = cells r.process in
          let e : size - own + n ≡ length qs + (1 + (n + other)) = omega arith in
          sym (weight_on count qs (around i r v (put (some r.reference) r.process) m) a on
          ∙ rw (room r.reference r.process, capped_right (size - own) n, e))

      drops_told : (v : Event) → (v ≡ ✓ → cells r.process ≡ 1)
          → settled (Some (resized v (capped (size - own - other - 1 + capped (cells r.process)))
          (weight count (around i r v r.process r.reference) a))) (some_behind qs)
          ≡ weight_of count (wrapped qs (stepped (around i r v r.process r.reference) a))
      unfolding around
      drops_told v c =
          let n = cells r.process in
          let e : size - own - other - 1 + n ≡ length qs + n = omega arith in
          sym (weight_settled count qs (around i r v r.process r.reference) a c u few
          ∙ rw (capped_right (size - own - other - 1) n, e))

      side_told : (k : Split) (v : Event) → (v ≡ ✓ → cells r.process ≡ 1)
          → Rules.one (split_kind k) (split_set k)
          (Some (weight count (around i r v r.process r.reference) a)) size own other (some_behind qs)
          ≡ weight_of count (wrapped qs (one_side k v i put m r a))
      unfolding
          Rules.one one_side split_kind split_set Rules.barred Rules.stays Rules.shown weight around resized
      side_told choice τ c = stays_told τ τ-goes-on
      side_told choice ✓ c = drops_told ✓ c
      side_told choice (visible e) c = drops_told (visible e) c
      side_told (together x) τ c = stays_told τ τ-goes-on
      side_told (together x) ✓ c = stays_told τ τ-goes-on
      side_told (together x) (visible e) c =
          barred_told (member e x) _ _ (stays_told (visible e) (visible_goes_on e))

    -- a split's rules for one side's step
    pub one_told : (k : Split) (i : Entered) (put : Option ℕ → Process → Process) (m : ℕ)
        → ((n : ℕ) (P : Process) → cells (put (some n) P) ≡ 1 + (cells P + other)) → (r : Option Stepped)
        → ((y : Stepped) → r ≡ some y → y.outcome.event ≡ ✓ → cells y.outcome.process ≡ 1)
        → Rules.one (split_kind k) (split_set k) (weight_of count (in_front i r)) size own other (some_behind qs)
        ≡ weight_of count (wrapped qs (by_side k i put m r))
    unfolding Rules.one in_front weight_of by_side
    one_told k i put m room none c = weight_none count qs
    one_told k i put m room (some y) c =
        side_told i put m room y.outcome y.unused k y.outcome.event (c y refl)

    module _ (x : ℕ) (v : Place) (n₁ n₂ : Option ℕ) (s : At) (l : Outcome) (a : Address) where
      -- what the sides weigh, where their events are e and f
      abbrev Left : Event → Weighed
      Left e = Some (weight count (around (first_eval n₁ n₂ v s) l e l.process l.reference) a)

      abbrev Right : Stepped → Event → Weighed
      Right y f =
          Some (weight count
          (around (right_eval n₁ n₂ v s l) y.outcome f y.outcome.process y.outcome.reference)
          y.unused)

      joint_told : (y : Stepped) (e f : ℕ) → eqb e f && member e x ≡ true
          → Rules.both Kind.parallel x (Left (visible e)) (Right y (visible f)) size own other
          ≡ weight_of count (wrapped qs (both_sides x v n₁ n₂ s l y (some e)))
      unfolding Rules.both Rules.agree both_sides weight resized jointly around cells
      joint_told y e f agreed =
          let i = first_eval n₁ n₂ v s in
          let j = right_eval n₁ n₂ v s l in
          let r = y.outcome in
          let here = cells l.process in
          let there = cells r.process in
          let rest : size - own - other + here + there ≡ length qs + (1 + (here + there)) = omega arith in
          sym (weight_on count qs (jointly i l j r e
          (split v (together x) (some l.reference) (some r.reference) l.process r.process)
          s.reference) y.unused (visible_goes_on e)
          ∙ rw (
            agreed,
            capped_right (size - own - other) here,
            capped_sum (size - own - other + here) there,
            rest,
            capped_sum (length (i.labels ++ l.labels)) (length (j.labels ++ r.labels)),
            length-append (i.labels ++ l.labels) (j.labels ++ r.labels),
            capped_sum (length (i.arcs ++ l.arcs)) (length (j.arcs ++ r.arcs)),
            length-append (i.arcs ++ l.arcs) (j.arcs ++ r.arcs),
            capped_sum (length l.meetings) (length r.meetings),
            capped_product (length l.met) (length r.met),
            capped_sum (length l.meetings + length r.meetings) (length l.met * length r.met),
            length-append (l.meetings ++ r.meetings) (meet l.met r.met),
            length-append l.meetings r.meetings,
            meet_length l.met r.met,
            capped_sum (length l.met) (length r.met),
            length-append l.met r.met,
          ))

      agreed_told : (y : Stepped) (e f : ℕ) (b : Bool) → eqb e f && member e x ≡ b
          → Rules.both Kind.parallel x (Left (visible e)) (Right y (visible f)) size own other
          ≡ weight_of count (wrapped qs (both_sides x v n₁ n₂ s l y (choose b (some e) none)))
      unfolding Rules.both Rules.agree both_sides weight around
      agreed_told y e f true agreed = joint_told y e f agreed
      agreed_told y e f false agreed = rw agreed (weight_none count qs)

      events_told : (y : Stepped) (e f : Event)
          → Rules.both Kind.parallel x (Left e) (Right y f) size own other
          ≡ weight_of count (wrapped qs (both_sides x v n₁ n₂ s l y (same x e f)))
      unfolding Rules.both Rules.agree same weight around both_sides
      events_told y τ f = weight_none count qs
      events_told y ✓ f = weight_none count qs
      events_told y (visible e) τ = weight_none count qs
      events_told y (visible e) ✓ = weight_none count qs
      events_told y (visible e) (visible f) = agreed_told y e f (eqb e f && member e x) refl

      -- a parallel's rule for a joint step
      pub both_told : (r : Option Stepped)
          → Rules.both Kind.parallel x (Left l.event) (weight_of count (in_front (right_eval n₁ n₂ v s l) r))
          size own other
          ≡ weight_of count (wrapped qs (with_right x v n₁ n₂ s l r))
      unfolding Rules.both with_right weight_of in_front
      both_told none = weight_none count qs
      both_told (some y) = events_told y l.event y.outcome.event

-- a choice has no joint step
choice_alone : (x size own other : ℕ) (l r : Weighed) → Rules.both Kind.external x l r size own other ≡ None
unfolding Rules.both Rules.agree
choice_alone x size own other None r = refl
choice_alone x size own other (Some l) None = refl
choice_alone x size own other (Some l) (Some r) = rw (disagree l.event r.event)
  where
    disagree : (e f : Event) → Rules.agree Kind.external x e f ≡ false
    disagree Tau f = refl
    disagree Tick f = refl
    disagree (Visible a) Tau = refl
    disagree (Visible a) Tick = refl
    disagree (Visible a) (Visible b) = refl

-- the cells of a split one of whose sides has stepped
second_room : (v : Place) (k : Split) (m : Option ℕ) (n : ℕ) (P Q : Process)
    → cells (split v k m (some n) P Q) ≡ 1 + (cells Q + cells P)
unfolding cells
second_room v k none n P Q = omega arith
second_room v k (some m) n P Q = omega arith

module _ (p x : List ℕ) (count : ℕ) (ds : List ℕ) (ts : List Term) (t : ℕ) (v : Place) (m n : Option ℕ)
    (P Q : Process) (s : At) (qs : List Behind) (u : Single qs) (few : length qs < 65535) (size : ℕ)
    (whole : size ≡ length qs + (1 + (cells P + cells Q))) where
  -- a split's step by its left side, by its right, and by both
  pub by_first : (k : Split) → kind p t ≡ split_kind k → set_of x t ≡ split_set k
      → (a : Address) (found : Weighed) (across : ℕ → Weighed)
      → found ≡ weight_of count (in_front (first_eval m n v s) (step ts P (inside (first_eval m n v s) s) a))
      → by_digit p x count ds 1 t found across size (cells P) (cells Q) (some_behind qs)
      ≡ weight_of count (wrapped qs (step ts (split v k m n P Q) s (one ∷ a)))
  unfolding by_digit is_side step cells
  by_first k kind_is set_is a found across e =
      rw (e, kind_is, set_is)
      (one_told count qs u few (cells P) (cells Q) size whole k (first_eval m n v s) (λ j P'. split v k j n P' Q)
      s.reference (λ j P'. refl) (step ts P (inside (first_eval m n v s) s) a) (ends_single ts P _ a))

  pub by_second : (k : Split) → kind p t ≡ split_kind k → set_of x t ≡ split_set k
      → (a : Address) (found : Weighed) (across : ℕ → Weighed)
      → found ≡ weight_of count (in_front (first_eval n m v s) (step ts Q (inside (first_eval n m v s) s) a))
      → by_digit p x count ds 2 t found across size (cells Q) (cells P) (some_behind qs)
      ≡ weight_of count (wrapped qs (step ts (split v k m n P Q) s (two ∷ a)))
  unfolding by_digit is_side step
  by_second k kind_is set_is a found across e =
      rw (e, kind_is, set_is)
      (one_told count qs u few (cells Q) (cells P) size (omega arith) k (first_eval n m v s)
      (λ j Q'. split v k m j P Q') s.reference (λ j Q'. second_room v k m j P Q')
      (step ts Q (inside (first_eval n m v s) s) a) (ends_single ts Q _ a))

  -- what both sides make, where the left makes o
  together_told : (y : ℕ) (o : Option Stepped) (across : ℕ → Weighed)
      → ((l : Stepped) → o ≡ some l
      → across (count - length l.unused)
      ≡ weight_of count (in_front (right_eval m n v s l.outcome)
      (step ts Q (right_inside m n v s l.outcome) l.unused)))
      → Rules.both Kind.parallel y (weight_of count (in_front (first_eval m n v s) o))
      (across (end_of (weight_of count (in_front (first_eval m n v s) o)) count)) size (cells P) (cells Q)
      ≡ weight_of count (wrapped qs (then o
      (λ l. with_right y v m n s l.outcome (step ts Q (right_inside m n v s l.outcome) l.unused))))
  unfolding then in_front weight_of weight end_of Rules.both
  together_told y none across c = weight_none count qs
  together_told y (some l) across c =
      rw (c l refl)
      (both_told count qs u few (cells P) (cells Q) size whole y v m n s l.outcome l.unused
      (step ts Q (right_inside m n v s l.outcome) l.unused))

  pub by_both : (k : Split) → kind p t ≡ split_kind k → set_of x t ≡ split_set k
      → (a : Address) (found : Weighed) (across : ℕ → Weighed)
      → found ≡ weight_of count (in_front (first_eval m n v s) (step ts P (inside (first_eval m n v s) s) a))
      → ((l : Stepped) → step ts P (inside (first_eval m n v s) s) a ≡ some l
      → across (count - length l.unused)
      ≡ weight_of count (in_front (right_eval m n v s l.outcome)
      (step ts Q (right_inside m n v s l.outcome) l.unused)))
      → by_digit p x count ds 3 t found across size (cells P) (cells Q) (some_behind qs)
      ≡ weight_of count (wrapped qs (step ts (split v k m n P Q) s (three ∷ a)))
  unfolding by_digit is_side step split_kind split_set
  by_both choice kind_is set_is a found across e c =
      rw kind_is
      (choice_alone (set_of x t) size (cells P) (cells Q) found (across (end_of found count))
      ∙ weight_none count qs)
  by_both (together y) kind_is set_is a found across e c =
      rw (e, kind_is, set_is) (together_told y (step ts P (inside (first_eval m n v s) s) a) across c)
