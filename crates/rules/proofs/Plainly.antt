-- What the plain rules have of the stripped control, by its offers: ✓ and events exactly as offered, since what shows
-- them is no STOP step; and τ exactly as `plain_τ` says, by induction on the control. And where there is a STOP step.
-- Assumes nothing.
use Rattle.std.proofs.Common.{ℕ, ◌≡◌, refl, sym, ap, subst, ◌∙◌, Bool, true, ◌||◌, List, ⊎_elim, arith}
use Rattle.terms.specs.Term.{call, SKIP, STOP, Term}
use Rattle.rules.specs.declared.Event.{Event}
use Rattle.rules.specs.declared.Event.TheVariants.{Tau as τ, Tick as ✓}
use Rattle.rules.specs.Process.{Address, choice, together, Process, leaf, prefix, internal, split, sequence, Ω, ⊥'}
use Rattle.rules.specs.Track.{At, Outcome, labelled, around, carried}
use Rattle.rules.specs.Tracking.{Visible, Shows, hides_τ, hides-✓, Tracks}
use Rattle.rules.specs.Tracking as Fig7
use Rattle.rules.specs.Plain.{Plain, ended, operator, strip, Steps, process_call}
use Rattle.rules.specs.Plain.{internal_choice_1, internal_choice_2, external_choice_1, external_choice_2}
use Rattle.rules.specs.Plain.{external_choice_3, external_choice_4, sequential_composition_1}
use Rattle.rules.specs.Plain.{sequential_composition_2}
use Rattle.rules.specs.Plain.{synchronized_parallelism_1, synchronized_parallelism_2}
use Rattle.rules.specs.Stopping.{LeadsToSTOP, there, by_first, by_second, inside}
use Rattle.rules.specs.Offers.{offers-✓, offers, plain_τ}
use Rattle.rules.specs.Run.{start, stands}
use Rattle.rules.proofs.Stripped.{ends_at_Ω, tracked_plainly, plainly_tracked}
use Rattle.rules.proofs.Offered.{or_left, or_right, or_either, τ-no-✓, derived_offered, offered_derived}

-- what a parallel or a sequence shows as τ of a side
abbrev hidden : Process → Bool
hidden P = plain_τ P || offers-✓ P

-- a parallel hides what is τ
hides : {x : ℕ} {e : Event} → e ≡ τ → Shows x e τ
hides h = rw h hides_τ

module _ (ts : List Term) where
  -- the STOP step has a derivation at every address that leads to a STOP, wherever the process stands, and shows τ
  pub stop_tracked : {a : Address} {P : Process} → LeadsToSTOP a P → (s : At)
      → (r : Outcome) × Tracks ts a P s r × (r.event ≡ τ)
  unfolding labelled around carried
  stop_tracked there s = (_, Fig7.stop, refl)
  stop_tracked (by_first {o = choice} l) s = let (r, d, e) = stop_tracked l _ in (_, Fig7.external_choice_1 d e, refl)
  stop_tracked (by_first {o = together x} l) s =
      let (r, d, e) = stop_tracked l _ in (_, Fig7.synchronized_parallelism_1 d (hides e), refl)
  stop_tracked (by_second {o = choice} l) s = let (r, d, e) = stop_tracked l _ in (_, Fig7.external_choice_2 d e, refl)
  stop_tracked (by_second {o = together x} l) s =
      let (r, d, e) = stop_tracked l _ in (_, Fig7.synchronized_parallelism_2 d (hides e), refl)
  stop_tracked (inside l) s =
      let (r, d, e) = stop_tracked l s in (_, Fig7.sequential_composition_1 d (λ q. τ-no-✓ (sym e ∙ q)), e)

  -- what is offered visibly has a derivation, which is a plain step
  shown : (P : Process) (e : Event) → Visible e → offers P e ≡ true
      → (a : Address) × (r : Outcome) × Tracks ts a P (stands start) r × (r.event ≡ e) × Steps ts (strip P) e (strip r.process)
  shown P e v h =
      let (a, r, d, is) = offered_derived ts P e h (stands start) in
      let plain = ⊎_elim (λ plain. rw is at plain) (λ stop. absurd (rw (sym is ∙ stop.0) at v)) (tracked_plainly d) in
      (a, r, d, is, plain)

  pub shown_plainly : (P : Process) (e : Event) → Visible e → offers P e ≡ true → (q : Plain) × Steps ts (strip P) e q
  shown_plainly P e v h = let (a, r, d, is, plain) = shown P e v h in (strip r.process, plain)

  -- every plain step is offered
  pub plainly_offered : (P : Process) {e : Event} {q : Plain} → Steps ts (strip P) e q → offers P e ≡ true
  plainly_offered P h =
      let (a, r, d, is, same) = plainly_tracked ts h P refl (stands start) in
      subst (λ (e : Event). offers P e ≡ true) is (derived_offered ts d)

  -- an offered ✓ is a plain step to Ω
  ends_plainly : (P : Process) → offers-✓ P ≡ true → Steps ts (strip P) ✓ ended
  unfolding offers strip
  ends_plainly P h =
      let (a, r, d, is, plain) = shown P ✓ tt h in
      subst (λ (q : Plain). Steps ts (strip P) ✓ q) (ap strip (ends_at_Ω d is)) plain

  plainly_ends : (P : Process) {q : Plain} → Steps ts (strip P) ✓ q → offers-✓ P ≡ true
  unfolding offers
  plainly_ends P h = plainly_offered P h

  -- what a parallel hides of a side
  hidden_plainly : (P : Process) → (plain_τ P ≡ true → (q : Plain) × Steps ts (strip P) τ q) → hidden P ≡ true
      → (x : ℕ) → (e : Event) × (q : Plain) × Steps ts (strip P) e q × Shows x e τ
  hidden_plainly P silent h x =
      ⊎_elim (λ t. let (q, d) = silent t in (τ, q, d, hides_τ)) (λ k. (✓, ended, ends_plainly P k, hides-✓))
      (or_either (plain_τ P) (offers-✓ P) h)

  -- τ by the plain rules
  pub silent_plainly : (P : Process) → plain_τ P ≡ true → (q : Plain) × Steps ts (strip P) τ q
  unfolding plain_τ strip operator
  silent_plainly (leaf w (call n)) h = (_, process_call)
  silent_plainly (leaf w SKIP) h = let z : ◌≡◌ {A = ℕ} 0 1 = cc in absurd (omega arith)
  silent_plainly (leaf w STOP) h = let z : ◌≡◌ {A = ℕ} 0 1 = cc in absurd (omega arith)
  silent_plainly (prefix w e P) h = let z : ◌≡◌ {A = ℕ} 0 1 = cc in absurd (omega arith)
  silent_plainly (internal w P Q) h = (_, internal_choice_1)
  silent_plainly (split w choice m n P Q) h =
      ⊎_elim (λ l. (_, external_choice_1 (silent_plainly P l).1)) (λ r. (_, external_choice_2 (silent_plainly Q r).1))
      (or_either (plain_τ P) (plain_τ Q) h)
  silent_plainly (split w (together x) m n P Q) h =
      ⊎_elim (λ l. let (e, q, d, v) = hidden_plainly P (silent_plainly P) l x in (_, synchronized_parallelism_1 d v))
      (λ r. let (e, q, d, v) = hidden_plainly Q (silent_plainly Q) r x in (_, synchronized_parallelism_2 d v))
      (or_either (hidden P) (hidden Q) h)
  silent_plainly (sequence w b P Q) h =
      ⊎_elim (λ t. (_, sequential_composition_1 (silent_plainly P t).1 τ-no-✓))
      (λ k. (_, sequential_composition_2 (ends_plainly P k) refl)) (or_either (plain_τ P) (offers-✓ P) h)
  silent_plainly Ω h = let z : ◌≡◌ {A = ℕ} 0 1 = cc in absurd (omega arith)
  silent_plainly ⊥' h = let z : ◌≡◌ {A = ℕ} 0 1 = cc in absurd (omega arith)

  pub plainly_silent : (P : Process) {q : Plain} → Steps ts (strip P) τ q → plain_τ P ≡ true
  unfolding plain_τ strip operator
  plainly_silent (leaf w (call n)) process_call = refl
  plainly_silent (internal w P Q) internal_choice_1 = refl
  plainly_silent (internal w P Q) internal_choice_2 = refl
  plainly_silent (split w choice m n P Q) (external_choice_1 h) =
      or_left (plain_τ P) (plain_τ Q) (plainly_silent P h)
  plainly_silent (split w choice m n P Q) (external_choice_2 h) =
      or_right (plain_τ P) (plain_τ Q) (plainly_silent Q h)
  plainly_silent (split w choice m n P Q) (external_choice_3 h v) = absurd v
  plainly_silent (split w choice m n P Q) (external_choice_4 h v) = absurd v
  plainly_silent (split w (together x) m n P Q) (synchronized_parallelism_1 h hides_τ) =
      or_left (hidden P) (hidden Q) (or_left (plain_τ P) (offers-✓ P) (plainly_silent P h))
  plainly_silent (split w (together x) m n P Q) (synchronized_parallelism_1 h hides-✓) =
      or_left (hidden P) (hidden Q) (or_right (plain_τ P) (offers-✓ P) (plainly_ends P h))
  plainly_silent (split w (together x) m n P Q) (synchronized_parallelism_2 h hides_τ) =
      or_right (hidden P) (hidden Q) (or_left (plain_τ Q) (offers-✓ Q) (plainly_silent Q h))
  plainly_silent (split w (together x) m n P Q) (synchronized_parallelism_2 h hides-✓) =
      or_right (hidden P) (hidden Q) (or_right (plain_τ Q) (offers-✓ Q) (plainly_ends Q h))
  plainly_silent (sequence w b P Q) (sequential_composition_1 h n) =
      or_left (plain_τ P) (offers-✓ P) (plainly_silent P h)
  plainly_silent (sequence w b P Q) (sequential_composition_2 h t) =
      or_right (plain_τ P) (offers-✓ P) (plainly_ends P h)
  plainly_silent (leaf w SKIP) {q = q} x3 = elim x3 [ ]
  plainly_silent (leaf w STOP) {q = q} x4 = elim x4 [ ]
  plainly_silent (prefix _ _ _) {q = q} x5 = elim x5 [ ]
  plainly_silent Ω {q = q} x3 = elim x3 [ ]
  plainly_silent ⊥' {q = q} x4 = elim x4 [ ]
