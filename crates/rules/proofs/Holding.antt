-- References of control are held once: in every run at most one part of control stands at a reference, an
-- entered choice or parallel counted beside its sides, and none at a reference that has not been drawn. Told by
-- counting, for each reference n: a step adds to the parts that stand at n only where it draws n. A split's
-- parts are itself and its sides', so that a rule for a side is the side's step with the rest left as it was.
-- Assumes nothing.
use Rattle.std.proofs.Common.{ℕ, suc, ◌+◌, ◌≤◌, ◌<◌, ◌≡◌, refl, subst, Bool, List, arith}
use Rattle.std.proofs.Math.Option.{Option, none, some}
use Rattle.std.proofs.Math.ListN.{get_elem?}
use Rattle.terms.specs.Term.{Term}
use Rattle.places.specs.Place.{Place}
use Rattle.rules.specs.declared.Event.{Event}
use Rattle.rules.specs.Process.{Address, Split, Process, leaf, prefix, internal, split, sequence, Ω, ⊥'}
use Rattle.rules.specs.Process.{choice, together}
use Rattle.rules.specs.Track.{At, Outcome, labelled, prefixed, first_eval, inside, around, beside}
use Rattle.rules.specs.Track.{right_eval, right_inside, jointly, carried, started, ended}
use Rattle.rules.specs.Tracking.{Tracks, process_call, prefixing, skip, stop, internal_choice_1}
use Rattle.rules.specs.Tracking.{internal_choice_2, external_choice_1, external_choice_2}
use Rattle.rules.specs.Tracking.{external_choice_3, external_choice_4, sequential_composition_1}
use Rattle.rules.specs.Tracking.{sequential_composition_2, synchronized_parallelism_1}
use Rattle.rules.specs.Tracking.{synchronized_parallelism_2, synchronized_parallelism_3}
use Rattle.rules.specs.Tracking.{synchronized_parallelism_4}
use Rattle.rules.specs.Run.{State, stands, after, Reached, begun, goes_on}
use Rattle.rules.proofs.Answered.{accepted_exactly}
use Rattle.rules.proofs.Marked.{one, past, past_most, past_drawn, next_past, Unentered, BySide, Fit}
use Rattle.rules.proofs.Marked.{side_fit, rhs_unentered, reached_marked}

-- how many parts of a process that stands at m stand at n, entered choices and parallels counted too
unfoldable pub held : ℕ → ℕ → Process → ℕ
held n m (leaf w l) = one n m
held n m (prefix w e P) = one n m
held n m (internal w P Q) = one n m
held n m (split w k none none P Q) = one n m
held n m (split w k (some a) none P Q) = one n m + held n a P
held n m (split w k none (some b) P Q) = one n m + held n b Q
held n m (split w k (some a) (some b) P Q) = one n m + held n a P + held n b Q
held n m (sequence w b P Q) = held n m P
held n m Ω = one n m
held n m ⊥' = one n m

-- what is unentered stands at one reference
pub unentered_held : (n m : ℕ) (P : Process) → Unentered P → held n m P ≡ one n m
unfolding held
unentered_held n m (leaf w l) u = refl
unentered_held n m (prefix w e P) u = refl
unentered_held n m (internal w P Q) u = refl
unentered_held n m (split w k none none P Q) u = refl
unentered_held n m (split w k none (some b) P Q) u = absurd u
unentered_held n m (split w k (some a) c P Q) u = absurd u
unentered_held n m (sequence w b P Q) u = unentered_held n m P u.0
unentered_held n m Ω u = refl
unentered_held n m ⊥' u = refl

-- how many parts of a split's side stand at n
unfoldable pub side_held : ℕ → Option ℕ → Process → ℕ
side_held n none P = 0
side_held n (some a) P = held n a P

pub split_held : (n m : ℕ) (w : Place) (k : Split) (a b : Option ℕ) (P Q : Process)
    → held n m (split w k a b P Q) ≡ one n m + side_held n a P + side_held n b Q
unfolding held side_held
split_held n m w k none none P Q = omega arith
split_held n m w k (some a) none P Q = omega arith
split_held n m w k none (some b) P Q = omega arith
split_held n m w k (some a) (some b) P Q = refl

-- a step of P at s holds anew only what it draws
abbrev pub Holding : Process → At → Outcome → Type 0
Holding P s r = (n : ℕ)
    → held n r.reference r.process + past n s.fresh ≤ held n s.reference P + past n r.fresh

-- by rule: what goes on unentered, where the step draws
of_labelled : (e : Event) (P Q : Process) (w : Place) (s : At) → Unentered Q → Holding P s (labelled e Q w s)
unfolding labelled
of_labelled e P Q w s u n = omega (arith, unentered_held n s.fresh Q u, next_past n s.fresh)

of_prefixed : (e : ℕ) (P : Process) (w : Place) (s : At) → Unentered P
    → Holding (prefix w e P) s (prefixed e P w s)
unfolding prefixed
of_prefixed e P w s u n =
    let f = s.fresh in
    omega (arith, unentered_held n (suc f) P u, next_past n f, next_past n (suc f))

of_ended : (P : Process) (m k : Option ℕ) (s : At) → Holding P s (ended m k s)
unfolding ended held
of_ended P m k s n = omega (arith, next_past n s.fresh)

-- a sequence
of_carried : (w : Place) (b : Bool) (P Q : Process) (s : At) (r : Outcome) → Holding P s r
    → Holding (sequence w b P Q) s (carried r (sequence w Bool.true r.process Q))
unfolding carried held
of_carried w b P Q s r k = k

of_started : (w : Place) (b : Bool) (P Q : Process) (s : At) (r : Outcome) → Unentered Q → Holding P s r
    → Holding (sequence w b P Q) s (started r Q w)
unfolding started held
of_started w b P Q s r u k n = omega (arith, k n, unentered_held n r.fresh Q u, next_past n r.fresh)

-- a side's step with its entering, which draws where the side stands
entered : (n : ℕ) (own other : Option ℕ) (w : Place) (s : At) (P : Process) → BySide own (Unentered P) (Fit P)
    → held n (first_eval own other w s).reference P + past n s.fresh
    ≡ side_held n own P + past n (first_eval own other w s).fresh
unfolding first_eval side_held
entered n (some a) other w s P h = refl
entered n none (some b) w s P h = omega (arith, unentered_held n s.fresh P h, next_past n s.fresh)
entered n none none w s P h = omega (arith, unentered_held n s.fresh P h, next_past n s.fresh)

side_step : (own other : Option ℕ) (w : Place) (s : At) (P : Process) (r : Outcome)
    → BySide own (Unentered P) (Fit P) → Holding P (inside (first_eval own other w s) s) r → (n : ℕ)
    → held n r.reference r.process + past n s.fresh ≤ side_held n own P + past n r.fresh
side_step own other w s P r h k n =
    let i = first_eval own other w s in
    let inner : held n r.reference r.process + past n i.fresh
    ≤ held n i.reference P + past n r.fresh = k n in
    omega (arith, inner, entered n own other w s P h)

-- R goes on as R', which holds beside the side's outcome no more than R beside the side
of_side : (own other : Option ℕ) (w : Place) (s : At) (P : Process) (r : Outcome) (e : Event)
    (R R' : Process) (m : ℕ) → BySide own (Unentered P) (Fit P)
    → Holding P (inside (first_eval own other w s) s) r
    → ((n : ℕ) → held n m R' + side_held n own P ≤ held n s.reference R + held n r.reference r.process)
    → Holding R s (around (first_eval own other w s) r e R' m)
unfolding around
of_side own other w s P r e R R' m h k beside n = omega (arith, side_step own other w s P r h k n, beside n)

-- so it is with a split that stays, by the side that stepped
module _ (w : Place) (k : Split) (a b : Option ℕ) (P Q : Process) (m x : ℕ) (R : Process) (n : ℕ) where
  left_kept : held n m (split w k (some x) b R Q) + side_held n a P ≤ held n m (split w k a b P Q) + held n x R
  unfolding side_held
  left_kept = omega (arith, split_held n m w k a b P Q, split_held n m w k (some x) b R Q)

  right_kept : held n m (split w k a (some x) P R) + side_held n b Q ≤ held n m (split w k a b P Q) + held n x R
  unfolding side_held
  right_kept = omega (arith, split_held n m w k a b P Q, split_held n m w k a (some x) P R)

of_joint : (x e : ℕ) (a b : Option ℕ) (w : Place) (s : At) (P Q : Process) (l r : Outcome)
    → Fit (split w (together x) a b P Q) → Holding P (inside (first_eval a b w s) s) l
    → Holding Q (right_inside a b w s l) r
    → Holding (split w (together x) a b P Q) s
    (jointly (first_eval a b w s) l (right_eval a b w s l) r e
    (split w (together x) (some l.reference) (some r.reference) l.process r.process) s.reference)
unfolding jointly held
of_joint x e a b w s P Q l r h on_left on_right n =
    let i = first_eval a b w s in
    let there : At = beside s i l in
    let right : held n r.reference r.process + past n l.fresh ≤ side_held n b Q + past n r.fresh =
    side_step b (some i.reference) w there Q r h.1 on_right n in
    omega (
      arith,
      side_step a b w s P l h.0 on_left n,
      right,
      split_held n s.reference w (together x) a b P Q,
    )

module _ (ts : List Term) where
  pub holding : {a : Address} {P : Process} {s : At} {r : Outcome} → Tracks ts a P s r → Fit P → Holding P s r
  holding (process_call {n = n} {w = w} {s = s}) h = of_labelled _ _ _ w s (rhs_unentered n (get_elem? ts n))
  holding (prefixing {a = e} {w = w} {P = P} {s = s}) h = of_prefixed e P w s h
  holding (skip {w = w} {s = s}) h = of_labelled _ _ Ω w s tt
  holding (stop {w = w} {s = s}) h = of_labelled _ _ ⊥' w s tt
  holding (internal_choice_1 {w = w} {P = P} {s = s}) h = of_labelled _ _ P w s h.0
  holding (internal_choice_2 {w = w} {Q = Q} {s = s}) h = of_labelled _ _ Q w s h.1
  holding (external_choice_1 {w = w} {n₁ = a} {n₂ = b} {P = P} {Q = Q} {s = s} {r = r} d e) h =
      of_side a b w s P r _ _ _ _ h.0 (holding d (side_fit a P h.0)) (left_kept w _ a b P Q _ _ _)
  holding (external_choice_2 {w = w} {n₁ = a} {n₂ = b} {P = P} {Q = Q} {s = s} {r = r} d e) h =
      of_side b a w s Q r _ _ _ _ h.1 (holding d (side_fit b Q h.1)) (right_kept w _ a b P Q _ _ _)
  holding (external_choice_3 {w = w} {n₁ = a} {n₂ = b} {P = P} {Q = Q} {s = s} {r = r} d v) h =
      of_side a b w s P r _ _ _ _ h.0 (holding d (side_fit a P h.0))
      (λ n. omega (arith, split_held n s.reference w choice a b P Q))
  holding (external_choice_4 {w = w} {n₁ = a} {n₂ = b} {P = P} {Q = Q} {s = s} {r = r} d v) h =
      of_side b a w s Q r _ _ _ _ h.1 (holding d (side_fit b Q h.1))
      (λ n. omega (arith, split_held n s.reference w choice a b P Q))
  holding (sequential_composition_1 {w = w} {b = b} {P = P} {Q = Q} {s = s} {r = r} d n) h =
      of_carried w b P Q s r (holding d h.0)
  holding (sequential_composition_2 {w = w} {b = b} {P = P} {Q = Q} {s = s} {r = r} d e) h =
      of_started w b P Q s r h.1 (holding d h.0)
  holding (synchronized_parallelism_1 {w = w} {n₁ = a} {n₂ = b} {P = P} {Q = Q} {s = s} {r = r} d e) h =
      of_side a b w s P r _ _ _ _ h.0 (holding d (side_fit a P h.0)) (left_kept w _ a b P Q _ _ _)
  holding (synchronized_parallelism_2 {w = w} {n₁ = a} {n₂ = b} {P = P} {Q = Q} {s = s} {r = r} d e) h =
      of_side b a w s Q r _ _ _ _ h.1 (holding d (side_fit b Q h.1)) (right_kept w _ a b P Q _ _ _)
  holding (synchronized_parallelism_3 {w = w} {x = x} {n₁ = a} {n₂ = b} {P = P} {Q = Q} {s = s} {l = l} {r = r}
      d d' e e' c p) h =
      of_joint x _ a b w s P Q l r h (holding d (side_fit a P h.0)) (holding d' (side_fit b Q h.1))
  holding (synchronized_parallelism_4 {n₁ = a} {n₂ = b} {s = s} p p') h = of_ended _ a b s

  -- what every run holds has been drawn
  abbrev Holds : State → Type 0
  Holds s = (n : ℕ) → held n s.reference s.process ≤ past n s.fresh

  holds_after : (s : State) (a : Address) (r : Outcome) → Tracks ts a s.process (stands s) r
      → Fit s.process → Holds s → Holds (after s r)
  unfolding after
  holds_after s a r d fit k n =
      let step : held n r.reference r.process + past n s.fresh
      ≤ held n s.reference s.process + past n r.fresh = holding d fit n in
      omega (arith, k n, step)

  pub reached_held : {s : State} → Reached ts s → (n : ℕ)
      → held n s.reference s.process ≤ past n s.fresh
  unfolding held
  reached_held begun n = omega (arith, next_past n 0)
  reached_held (goes_on {s = s} {t = t} a e p h) n =
      let d = (accepted_exactly ts s a e t).0 h in
      subst Holds d.3 (holds_after s a d.0 d.1 (reached_marked ts p).fit (λ k. reached_held p k)) n

  -- each reference is held at most once
  pub held_once : {s : State} → Reached ts s → (n : ℕ) → held n s.reference s.process ≤ 1
  held_once {s = s} p n = omega (arith, reached_held p n, past_most n s.fresh)

  -- and only one that has been drawn
  pub held_drawn : {s : State} → Reached ts s → (n : ℕ) → 1 ≤ held n s.reference s.process → n < s.fresh
  held_drawn {s = s} p n h = past_drawn n s.fresh (omega (arith, reached_held p n))
