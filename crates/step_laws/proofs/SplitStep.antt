-- The step of a choice or parallel, told by how its sides are entered. Where a side has stepped before, both
-- are entered as if the other had; where none has, the node's own label comes in front of the same step,
-- through the sequences around it too. A parallel whose left side has not ended does not end. Assumes
-- nothing.
use Rattle.std.proofs.Common.{ℕ, ◌≡◌, refl, sym, ap, ◌∙◌, Bool, true, false, ◌&&◌, List, [], ◌∷◌}
use Rattle.std.proofs.Math.Option.{Option, none, some, none-ne-some, some-injective}
use Rattle.lines.specs.Line.{choose}
use Rattle.sets.specs.EventSet.{member}
use Rattle.terms.specs.Term.{Term}
use Rattle.places.specs.Place.{Place}
use Rattle.rules.specs.declared.Event.{Event}
use Rattle.rules.specs.declared.Event.TheVariants.{Tau as τ, Tick as ✓, Visible as visible}
use Rattle.rules.specs.Process.{one, two, three, four, Address, Split, choice, together, Process, split}
use Rattle.rules.specs.Track.{Label, At, Entered, Outcome, first_eval, inside, beside, around, jointly}
use Rattle.rules.specs.Track.{carried, started, ended}
use Rattle.rules.specs.Step.{Stepped, stepped, one_side, by_side, same, both_sides, with_right, in_sequence}
use Rattle.rules.specs.Step.{by_left, at_Ω, then, step}
use Rattle.control.proofs.Chains.{Awaiting}
use Rattle.weighing.proofs.Told.{wrapped}
use Rattle.step_laws.proofs.Opening.{SomeSide}

-- a joint step of a parallel whose left is entered as i and gives l
unfoldable pub joint_both : ℕ → Place → Option ℕ → Entered → At → Stepped → Stepped → Option ℕ
    → Option Stepped
joint_both x v o i s l r none = none
joint_both x v o i s l r (some e) =
    stepped
    (jointly i l.outcome (first_eval o (some i.reference) v (beside s i l.outcome)) r.outcome e
    (split v (together x) (some l.outcome.reference) (some r.outcome.reference) l.outcome.process
    r.outcome.process)
    s.reference)
    r.unused

unfoldable pub joint_right : ℕ → Place → Option ℕ → Entered → At → Stepped → Option Stepped → Option Stepped
joint_right x v o i s l none = none
joint_right x v o i s l (some r) = joint_both x v o i s l r (same x l.outcome.event r.outcome.event)

-- where the right side of a joint step stands
abbrev pub right_at : Place → Option ℕ → Entered → At → Stepped → At
right_at v o i s l =
    inside (first_eval o (some i.reference) v (beside s i l.outcome)) (beside s i l.outcome)

-- a split's step, where its left side is entered as i, and its right as j
unfoldable pub split_step : List Term → Place → Split → Option ℕ → Option ℕ → Process → Process → Entered
    → Entered → At
    → Address → Option Stepped
split_step ts v k m o P Q i j s [] = none
split_step ts v k m o P Q i j s (one ∷ a) =
    by_side k i (λ q R. split v k q o R Q) s.reference (step ts P (inside i s) a)
split_step ts v k m o P Q i j s (two ∷ a) =
    by_side k j (λ q R. split v k m q P R) s.reference (step ts Q (inside j s) a)
split_step ts v choice m o P Q i j s (three ∷ a) = none
split_step ts v (together x) m o P Q i j s (three ∷ a) =
    then (step ts P (inside i s) a) (λ l. joint_right x v o i s l
    (step ts Q (right_at v o i s l) l.unused))
split_step ts v choice m o P Q i j s (four ∷ a) = none
split_step ts v (together x) m o P Q i j s (four ∷ a) =
    choose (at_Ω P && at_Ω Q) (stepped (ended m o s) a) none

then_same : (r : Option Stepped) (f g : Stepped → Option Stepped) → ((l : Stepped) → f l ≡ g l)
    → then r f ≡ then r g
unfolding then
then_same none f g h = refl
then_same (some l) f g h = h l

-- it is the step of the rules
module _ (x : ℕ) (v : Place) (m o : Option ℕ) (s : At) (l : Stepped) where
  joint_by : (r : Stepped) (e : Option ℕ)
      → both_sides x v m o s l.outcome r e ≡ joint_both x v o (first_eval m o v s) s l r e
  unfolding both_sides joint_both
  joint_by r none = refl
  joint_by r (some e) = refl

  joint_is : (r : Option Stepped)
      → with_right x v m o s l.outcome r ≡ joint_right x v o (first_eval m o v s) s l r
  unfolding with_right joint_right
  joint_is none = refl
  joint_is (some r) = joint_by r (same x l.outcome.event r.outcome.event)

pub split_steps : (ts : List Term) (v : Place) (k : Split) (m o : Option ℕ) (P Q : Process) (s : At)
    (a : Address)
    → step ts (split v k m o P Q) s a ≡ split_step ts v k m o P Q (first_eval m o v s) (first_eval o m v s)
    s a
unfolding step split_step
split_steps ts v k m o P Q s [] = refl
split_steps ts v k m o P Q s (one ∷ a) = refl
split_steps ts v k m o P Q s (two ∷ a) = refl
split_steps ts v choice m o P Q s (three ∷ a) = refl
split_steps ts v (together x) m o P Q s (three ∷ a) = then_same _ _ _ (λ l. joint_is x v m o s l _)
split_steps ts v choice m o P Q s (four ∷ a) = refl
split_steps ts v (together x) m o P Q s (four ∷ a) = refl

-- where a side has stepped before
pub entered_as : (m o : Option ℕ) (c : ℕ) (v : Place) (s : At) → SomeSide m o
    → (first_eval m o v s ≡ first_eval m (some c) v s) × (first_eval o m v s ≡ first_eval o (some c) v s)
unfolding first_eval
entered_as none none c v s h = absurd h
entered_as none (some o) c v s h = (refl, refl)
entered_as (some m) none c v s h = (refl, refl)
entered_as (some m) (some o) c v s h = (refl, refl)

-- a label in front
abbrev pub in_front : Label → Outcome → Outcome
in_front b r = record {
  event = r.event;
  process = r.process;
  reference = r.reference;
  fresh = r.fresh;
  labels = b ∷ r.labels;
  arcs = r.arcs;
  meetings = r.meetings;
  met = r.met;
}

abbrev pub front : Label → Stepped → Stepped
front b y = record { outcome = in_front b y.outcome; unused = y.unused }

unfoldable pub fronted : Label → Option Stepped → Option Stepped
fronted b none = none
fronted b (some y) = some (front b y)

abbrev pub entered_front : Label → Entered → Entered
entered_front b i = record {
  reference = i.reference;
  fresh = i.fresh;
  labels = b ∷ i.labels;
  arcs = i.arcs;
}

pub front_of : (b : Label) (r : Option Stepped) (y : Stepped) → fronted b r ≡ some y
    → (z : Stepped) × (r ≡ some z) × (y ≡ front b z)
unfolding fronted
front_of b none y e = absurd (none-ne-some y e)
front_of b (some z) y e = (z, refl, sym (some-injective (front b z) y e))

-- sequences carry it
module _ (b : Label) where
  sequence_fronted : (e : Event) (w : Place) (Q : Process) (r : Outcome) (a : Address)
      → in_sequence e w Q (in_front b r) a ≡ fronted b (in_sequence e w Q r a)
  unfolding in_sequence fronted carried started
  sequence_fronted τ w Q r a = refl
  sequence_fronted ✓ w Q r a = refl
  sequence_fronted (visible e) w Q r a = refl

  left_fronted : (w : Place) (Q : Process) (r : Option Stepped) → by_left w Q (fronted b r)
      ≡ fronted b (by_left w Q r)
  unfolding by_left fronted
  left_fronted w Q none = refl
  left_fronted w Q (some y) = sequence_fronted y.outcome.event w Q y.outcome y.unused

  pub wrapped_fronted : (qs : List Awaiting) (r : Option Stepped) → wrapped qs (fronted b r)
      ≡ fronted b (wrapped qs r)
  unfolding wrapped
  wrapped_fronted [] r = refl
  wrapped_fronted (q ∷ qs) r =
      ap (wrapped qs) (left_fronted q.place q.right r) ∙ wrapped_fronted qs
      (by_left q.place q.right r)

  -- and so does a split, from how its sides are entered
  module _ (put : Option ℕ → Process → Process) (n : ℕ) (i : Entered) where
    one_fronted : (k : Split) (e : Event) (r : Outcome) (a : Address)
        → one_side k e (entered_front b i) put n r a ≡ fronted b (one_side k e i put n r a)
    unfolding one_side fronted around
    one_fronted choice τ r a = refl
    one_fronted choice ✓ r a = refl
    one_fronted choice (visible e) r a = refl
    one_fronted (together x) τ r a = refl
    one_fronted (together x) ✓ r a = refl
    one_fronted (together x) (visible e) r a = go (member e x)
      where
        there : Process
        there = put (some r.reference) r.process

        go : (t : Bool) → choose t none (stepped (around (entered_front b i) r (visible e) there n) a)
            ≡ fronted b (choose t none (stepped (around i r (visible e) there n) a))
        go true = refl
        go false = refl

    side_fronted : (k : Split) (r : Option Stepped) → by_side k (entered_front b i) put n r
        ≡ fronted b (by_side k i put n r)
    unfolding by_side fronted
    side_fronted k none = refl
    side_fronted k (some y) = one_fronted k y.outcome.event y.outcome y.unused

  module _ (x : ℕ) (v : Place) (o : Option ℕ) (i : Entered) (s : At) (l : Stepped) where
    both_fronted : (r : Stepped) (e : Option ℕ)
        → joint_both x v o (entered_front b i) s l r e ≡ fronted b (joint_both x v o i s l r e)
    unfolding joint_both fronted jointly
    both_fronted r none = refl
    both_fronted r (some e) = refl

    right_fronted : (r : Option Stepped) → joint_right x v o (entered_front b i) s l r
        ≡ fronted b (joint_right x v o i s l r)
    unfolding joint_right fronted
    right_fronted none = refl
    right_fronted (some r) = both_fronted r (same x l.outcome.event r.outcome.event)

  then_fronted : (r : Option Stepped) (f g : Stepped → Option Stepped)
      → ((l : Stepped) → f l ≡ fronted b (g l))
      → then r f ≡ fronted b (then r g)
  unfolding then fronted
  then_fronted none f g h = refl
  then_fronted (some l) f g h = h l

  pub split_fronted : (ts : List Term) (v : Place) (k : Split) (m o : Option ℕ) (P Q : Process)
      (i j : Entered) (s : At)
      (a : Address) → at_Ω P ≡ false
      → split_step ts v k m o P Q (entered_front b i) (entered_front b j) s a
      ≡ fronted b (split_step ts v k m o P Q i j s a)
  unfolding split_step fronted
  split_fronted ts v k m o P Q i j s [] h = refl
  split_fronted ts v k m o P Q i j s (one ∷ a) h = side_fronted _ s.reference i k _
  split_fronted ts v k m o P Q i j s (two ∷ a) h = side_fronted _ s.reference j k _
  split_fronted ts v choice m o P Q i j s (three ∷ a) h = refl
  split_fronted ts v (together x) m o P Q i j s (three ∷ a) h =
      then_fronted _ _ _ (λ l. right_fronted x v o i s l _)
  split_fronted ts v choice m o P Q i j s (four ∷ a) h = refl
  split_fronted ts v (together x) m o P Q i j s (four ∷ a) h = rw h

-- where no side has stepped, the node's label comes first
pub first_front : (c : ℕ) (v : Place) (s : At)
    → first_eval none none v s
    ≡ entered_front (record { reference = s.reference; place = v }) (first_eval none (some c) v s)
unfolding first_eval
first_front c v s = refl
