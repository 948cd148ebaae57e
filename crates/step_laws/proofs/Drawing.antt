-- What a step draws, by its derivation: references from the fresh one on; its arcs climb, its event nodes are
-- drawn, and an Ω that it leaves stands at a reference of its own that has no label. By the derivation, rule
-- by rule: a side's step is told of its split with what entering the side added in front. Assumes nothing.
use Rattle.std.proofs.Common.{ℕ, ◌+◌, ◌≤◌, ◌<◌, ◌≡◌, refl, ◌∙◌, Bool, true, false, List, [], ◌∷◌, ◌++◌}
use Rattle.std.proofs.Common.{append_assoc, arith, ltb, ne_eqb, lt-ltb, ltb-true, ltb-false}
use Rattle.std.proofs.Math.Option.{Option, none, some}
use Rattle.lines.specs.Line.{choose}
use Rattle.terms.specs.Term.{call, SKIP, STOP, Term}
use Rattle.places.specs.Place.{Place}
use Rattle.rules.specs.declared.Event.{Event}
use Rattle.rules.specs.declared.Event.TheVariants.{Tau as τ, Tick as ✓}
use Rattle.rules.specs.Process.{Address, Split, choice, together, Process, leaf, prefix, internal, split}
use Rattle.rules.specs.Process.{sequence, Ω, ⊥'}
use Rattle.rules.specs.Track.{Label, At, Outcome, Entered, labelled, prefixed, first_eval, inside, around}
use Rattle.rules.specs.Track.{beside, right_eval, right_inside, jointly, carried, started, ended, lookup}
use Rattle.rules.specs.Tracking.{Shows, passes, hides_τ, hides-✓, Tracks, process_call, prefixing, skip, stop}
use Rattle.rules.specs.Tracking.{internal_choice_1, internal_choice_2, external_choice_1, external_choice_2}
use Rattle.rules.specs.Tracking.{external_choice_3, external_choice_4, sequential_composition_1}
use Rattle.rules.specs.Tracking.{sequential_composition_2, synchronized_parallelism_1}
use Rattle.rules.specs.Tracking.{synchronized_parallelism_2, synchronized_parallelism_3}
use Rattle.rules.specs.Tracking.{synchronized_parallelism_4}
use Rattle.rules.proofs.Climbing.{Up, up_more, up_append, parents_up}
use Rattle.rules.proofs.Marked.{one_same, past, past_drawn, next_past, Unentered, BySide, Fit, side_fit}
use Rattle.rules.proofs.Holding.{held, side_held, split_held, unentered_held}
use Rattle.control.specs.words.Views.{first_of}
use Rattle.step_laws.proofs.TrackLoops.{Each}
use Rattle.step_laws.proofs.Writing.{lookup_append}

-- a process stands at a reference that it holds
pub held_own : (n : ℕ) (P : Process) → 1 ≤ held n n P
unfolding held
held_own n (leaf w l) = omega (arith, one_same n n refl)
held_own n (prefix w e P) = omega (arith, one_same n n refl)
held_own n (internal w P Q) = omega (arith, one_same n n refl)
held_own n (split w k a b P Q) = omega (arith, split_held n n w k a b P Q, one_same n n refl)
held_own n (sequence w b P Q) = held_own n P
held_own n Ω = omega (arith, one_same n n refl)
held_own n ⊥' = omega (arith, one_same n n refl)

-- each reference of a process that stands at n is drawn before f
abbrev pub Once : ℕ → Process → ℕ → Type 0
Once n P f = (j : ℕ) → held j n P ≤ past j f

pub once_drawn : (n : ℕ) (P : Process) (f : ℕ) → Once n P f → n < f
once_drawn n P f h = past_drawn n f (omega (arith, h n, held_own n P))

-- each event node is drawn before f
abbrev pub Below : ℕ → List ℕ → Type 0
Below f ms = Each (λ (m : ℕ). m < f) ms

pub below_more : (f f' : ℕ) (ms : List ℕ) → f ≤ f' → Below f ms → Below f' ms
below_more f f' [] h b = tt
below_more f f' (m ∷ ms) h b = (omega (arith, h, b.0), below_more f f' ms h b.1)

below_append : (f : ℕ) (ms ns : List ℕ) → Below f ms → Below f ns → Below f (ms ++ ns)
below_append f [] ns b c = c
below_append f (m ∷ ms) ns b c = (b.0, below_append f ms ns b.1 c)

-- a reference that two lists of labels do not have
unlabelled_append : (j : ℕ) (ls ms : List Label) → lookup j ls ≡ none → lookup j ms ≡ none
    → lookup j (ls ++ ms) ≡ none
unfolding first_of
unlabelled_append j ls ms a b = lookup_append j ls ms ∙ rw (a, b)

unlabelled_one : (j n : ℕ) (w : Place) → (j ≡ n → ⊥) → lookup j (record { reference = n; place = w } ∷ [])
    ≡ none
unfolding lookup
unlabelled_one j n w h = simp (ne_eqb j n h)

pub record Draws (s : At) (r : Outcome) : Type 0 where
  pub more : s.fresh ≤ r.fresh
  pub stands : r.reference < r.fresh
  pub up : Up r.fresh r.arcs
  pub below : Below r.fresh r.met
  pub last : r.event ≡ ✓ → (s.fresh ≤ r.reference) × (lookup r.reference r.labels ≡ none)

-- entering a side
module _ (own other : Option ℕ) (w : Place) (s : At) (P : Process) where
  abbrev i : Entered
  i = first_eval own other w s

  pub side_entered : BySide own (Unentered P) (Fit P) → (j : ℕ)
      → held j i.reference P + past j s.fresh ≡ side_held j own P + past j i.fresh
  unfolding first_eval side_held
  side_entered fit j = go own other fit
    where
      go : (a b : Option ℕ) → BySide a (Unentered P) (Fit P)
          → held j (first_eval a b w s).reference P + past j s.fresh
          ≡ side_held j a P + past j (first_eval a b w s).fresh
      go (some a) b fit = refl
      go none none fit = omega (arith, unentered_held j s.fresh P fit, next_past j s.fresh)
      go none (some b) fit = omega (arith, unentered_held j s.fresh P fit, next_past j s.fresh)

  pub side_once : BySide own (Unentered P) (Fit P) → ((j : ℕ) → side_held j own P ≤ past j s.fresh)
      → Once i.reference P i.fresh
  side_once fit h j = omega (arith, side_entered fit j, h j)

  pub side_fresh : s.fresh ≤ i.fresh
  unfolding first_eval
  side_fresh = go own other
    where
      go : (a b : Option ℕ) → s.fresh ≤ (first_eval a b w s).fresh
      go (some a) b = omega arith
      go none none = omega arith
      go none (some b) = omega arith

  pub side_up : s.reference < s.fresh → Up i.fresh i.arcs
  unfolding first_eval
  side_up h = go own other
    where
      go : (a b : Option ℕ) → Up (first_eval a b w s).fresh (first_eval a b w s).arcs
      go (some a) b = tt
      go none none = (h, omega arith, tt)
      go none (some b) = (h, omega arith, tt)

  side_unlabelled : s.reference < s.fresh → (j : ℕ) → s.fresh ≤ j → lookup j i.labels ≡ none
  unfolding first_eval lookup
  side_unlabelled h j k = go own other
    where
      go : (a b : Option ℕ) → lookup j (first_eval a b w s).labels ≡ none
      go (some a) b = refl
      go none none = unlabelled_one j s.reference w (λ e. omega arith)
      go none (some b) = refl

  -- a side's step with its entering, where the split shows ✓ only of a side that it goes on as
  side_draws : (r : Outcome) (e : Event) (R : Process) (m : ℕ) → s.reference < s.fresh
      → Draws (inside i s) r → m < r.fresh → (e ≡ ✓ → (m ≡ r.reference) × (r.event ≡ ✓))
      → Draws s (around i r e R m)
  unfolding around
  side_draws r e R m h d k shown =
      let on : i.fresh ≤ r.fresh = d.more in
      record {
        more = omega (arith, side_fresh);
        stands = k;
        up = up_append r.fresh i.arcs r.arcs (up_more i.fresh r.fresh i.arcs on (side_up h))
            d.up;
        below = d.below;
        last = λ q.
            let (same, ends) = shown q in
            let (late, bare) = d.last ends in
            let far : s.fresh ≤ r.reference = omega (arith, side_fresh, late) in
            rw same (
              far,
              unlabelled_append r.reference i.labels r.labels
                  (side_unlabelled h r.reference far) bare,
            );
      }

  -- so is it of a split that stays where it stood, and of one that goes on as its side
  module _ (r : Outcome) (fit : BySide own (Unentered P) (Fit P)) (there : s.reference < s.fresh)
      (h : (j : ℕ) → side_held j own P ≤ past j s.fresh) (u : Up s.fresh s.arcs)
      (inner : Once i.reference P i.fresh → Up i.fresh (s.arcs ++ i.arcs) → Draws (inside i s) r)
    where
      side_inner : Draws (inside i s) r
      side_inner = inner (side_once fit h)
          (up_append i.fresh s.arcs i.arcs (up_more s.fresh i.fresh s.arcs side_fresh u)
          (side_up there))

      stays_draws : (e : Event) (R : Process) → (e ≡ ✓ → ⊥) → Draws s (around i r e R s.reference)
      stays_draws e R n =
          side_draws r e R s.reference there side_inner
          (let on : i.fresh ≤ r.fresh = side_inner.more in omega (arith, side_fresh)) (λ q. absurd (n q))

      drops_draws : Draws s (around i r r.event r.process r.reference)
      drops_draws =
          side_draws r r.event r.process r.reference there side_inner side_inner.stands
          (λ q. (refl, q))

shows_no-✓ : {x : ℕ} {v e : Event} → Shows x v e → e ≡ ✓ → ⊥
shows_no-✓ (passes h) q = let z : ◌≡◌ {A = ℕ} 0 1 = cc in omega arith
shows_no-✓ hides_τ q = let z : ◌≡◌ {A = ℕ} 0 1 = cc in omega arith
shows_no-✓ hides-✓ q = let z : ◌≡◌ {A = ℕ} 0 1 = cc in omega arith

τ-no-✓ : τ ≡ ✓ → ⊥
τ-no-✓ q = let z : ◌≡◌ {A = ℕ} 0 1 = cc in omega arith

-- a step that labels once and draws once
labelled_draws : (e : Event) (P : Process) (w : Place) (s : At) → s.reference < s.fresh
    → Draws s (labelled e P w s)
unfolding labelled
labelled_draws e P w s h = record {
  more = omega arith;
  stands = omega arith;
  up = (h, omega arith, tt);
  below = tt;
  last = λ q. (omega arith, unlabelled_one s.fresh s.reference w (λ e. omega arith));
}

prefixed_draws : (e : ℕ) (P : Process) (w : Place) (s : At) → s.reference < s.fresh
    → Draws s (prefixed e P w s)
unfolding prefixed
prefixed_draws e P w s h = record {
  more = omega arith;
  stands = omega arith;
  up = (h, omega arith, (omega arith, omega arith, tt));
  below = (omega arith, tt);
  last = λ q. let z : ◌≡◌ {A = ℕ} 0 1 = cc in absurd (omega arith);
}

ended_draws : (m n : Option ℕ) (s : At) → Up s.fresh s.arcs → Draws s (ended m n s)
unfolding ended lookup
ended_draws m n s u = record {
  more = omega arith;
  stands = omega arith;
  up = parents_up m n s.fresh s.arcs u;
  below = tt;
  last = λ q. (omega arith, refl);
}

carried_draws : (s : At) (r : Outcome) (P : Process) → Draws s r → Draws s (carried r P)
unfolding carried
carried_draws s r P d =
    record { more = d.more; stands = d.stands; up = d.up; below = d.below; last = d.last }

started_draws : (s : At) (r : Outcome) (Q : Process) (w : Place) → Draws s r → Draws s (started r Q w)
unfolding started
started_draws s r Q w d = record {
  more = omega (arith, d.more);
  stands = omega arith;
  up = up_append _ r.arcs _ (up_more _ _ r.arcs (omega arith) d.up) (d.stands, omega arith, tt);
  below = tt;
  last = λ q. absurd (τ-no-✓ q);
}

pub past_less : (j f : ℕ) → j < f → past j f ≡ 1
unfolding past
past_less j f h = simp (lt-ltb j f h)

pub past_more : (j f f' : ℕ) → f ≤ f' → past j f ≤ past j f'
unfolding past
past_more j f f' h = go (ltb j f) (ltb j f') refl refl
  where
    go : (a b : Bool) → ltb j f ≡ a → ltb j f' ≡ b → choose a 1 0 ≤ choose b 1 0
    go true true e q = omega arith
    go true false e q = let x = ltb-true j f e in let y = ltb-false j f' q in absurd (omega arith)
    go false true e q = omega arith
    go false false e q = omega arith

module _ (a b : Option ℕ) (w : Place) (s : At) (l r : Outcome) where
  abbrev il : Entered
  il = first_eval a b w s

  abbrev ir : Entered
  ir = right_eval a b w s l

  joint_draws : (e : ℕ) (R : Process) → s.reference < s.fresh
      → Draws s (around il l l.event l.process l.reference)
      → Draws (beside s il l) (around ir r r.event r.process r.reference)
      → Draws s (jointly il l ir r e R s.reference)
  unfolding around jointly
  joint_draws e R h d d' =
      let on : s.fresh ≤ l.fresh = d.more in
      let on' : l.fresh ≤ r.fresh = d'.more in
      record {
        more = omega arith;
        stands = omega arith;
        up = up_append r.fresh (il.arcs ++ l.arcs) (ir.arcs ++ r.arcs)
            (up_more l.fresh r.fresh (il.arcs ++ l.arcs) on' d.up) d'.up;
        below = below_append r.fresh l.met r.met
            (below_more l.fresh r.fresh l.met on' d.below)
            d'.below;
        last = λ q. let z : ◌≡◌ {A = ℕ} 0 1 = cc in absurd (omega arith);
      }

-- what a split holds is drawn, so its own reference and what its sides hold
module _ (n : ℕ) (w : Place) (k : Split) (a b : Option ℕ) (P Q : Process) (f : ℕ)
    (h : Once n (split w k a b P Q) f) where
  left_once : (j : ℕ) → side_held j a P ≤ past j f
  left_once j = omega (arith, h j, split_held j n w k a b P Q)

  right_once : (j : ℕ) → side_held j b Q ≤ past j f
  right_once j = omega (arith, h j, split_held j n w k a b P Q)

-- the right's step behind the left's
joint_right : (x : ℕ) (a b : Option ℕ) (w : Place) (s : At) (P Q : Process) (l r : Outcome)
    → Fit (split w (together x) a b P Q) → Once s.reference (split w (together x) a b P Q) s.fresh
    → Up s.fresh s.arcs → Draws s (around (first_eval a b w s) l l.event l.process l.reference)
    → (Once (right_eval a b w s l).reference Q (right_eval a b w s l).fresh
    → Up (right_eval a b w s l).fresh ((beside s (first_eval a b w s) l).arcs ++ (right_eval a b w s l).arcs)
    → Draws (right_inside a b w s l) r)
    → Draws (beside s (first_eval a b w s) l)
    (around (right_eval a b w s l) r r.event r.process r.reference)
unfolding around
joint_right x a b w s P Q l r fit h u d inner =
    let i = first_eval a b w s in
    let on : s.fresh ≤ l.fresh = d.more in
    let there : s.reference < s.fresh = once_drawn _ (split w (together x) a b P Q) _ h in
    let up : Up l.fresh ((s.arcs ++ i.arcs) ++ l.arcs) =
    rw (append_assoc s.arcs i.arcs l.arcs)
    (up_append l.fresh s.arcs (i.arcs ++ l.arcs) (up_more s.fresh l.fresh s.arcs on u)
    d.up) in
    drops_draws b (some i.reference) w (beside s i l) Q r fit.1 (omega arith)
    (λ j. omega (
      arith,
      right_once s.reference w (together x) a b P Q s.fresh h j,
      past_more j s.fresh l.fresh on,
    )) up inner

sequence_once : (n : ℕ) (w : Place) (b : Bool) (P Q : Process) (f : ℕ) → Once n (sequence w b P Q) f
    → Once n P f
unfolding held
sequence_once n w b P Q f h = h

module _ (ts : List Term) where
  pub draws : {a : Address} {P : Process} {s : At} {r : Outcome} → Tracks ts a P s r → Fit P
      → Once s.reference P s.fresh → Up s.fresh s.arcs → Draws s r
  draws (process_call {n = n} {w = w} {s = s}) fit h u =
      labelled_draws _ _ w s (once_drawn _ (leaf w (call n)) _ h)
  draws (prefixing {a = e} {w = w} {P = P} {s = s}) fit h u =
      prefixed_draws e P w s (once_drawn _ (prefix w e P) _ h)
  draws (skip {w = w} {s = s}) fit h u = labelled_draws _ _ w s (once_drawn _ (leaf w SKIP) _ h)
  draws (stop {w = w} {s = s}) fit h u = labelled_draws _ _ w s (once_drawn _ (leaf w STOP) _ h)
  draws (internal_choice_1 {w = w} {P = P} {Q = Q} {s = s}) fit h u =
      labelled_draws _ _ w s (once_drawn _ (internal w P Q) _ h)
  draws (internal_choice_2 {w = w} {P = P} {Q = Q} {s = s}) fit h u =
      labelled_draws _ _ w s (once_drawn _ (internal w P Q) _ h)
  draws (external_choice_1 {w = w} {n₁ = a} {n₂ = b} {P = P} {Q = Q} {s = s} {r = r} d e) fit h u =
      stays_draws a b w s P r fit.0 (once_drawn _ (split w choice a b P Q) _ h)
      (left_once _ w choice a b P Q _ h) u
      (λ o v. draws d (side_fit a P fit.0) o v) τ _ τ-no-✓
  draws (external_choice_2 {w = w} {n₁ = a} {n₂ = b} {P = P} {Q = Q} {s = s} {r = r} d e) fit h u =
      stays_draws b a w s Q r fit.1 (once_drawn _ (split w choice a b P Q) _ h)
      (right_once _ w choice a b P Q _ h) u
      (λ o v. draws d (side_fit b Q fit.1) o v) τ _ τ-no-✓
  draws (external_choice_3 {w = w} {n₁ = a} {n₂ = b} {P = P} {Q = Q} {s = s} {r = r} d v) fit h u =
      drops_draws a b w s P r fit.0 (once_drawn _ (split w choice a b P Q) _ h)
      (left_once _ w choice a b P Q _ h) u
      (λ o v. draws d (side_fit a P fit.0) o v)
  draws (external_choice_4 {w = w} {n₁ = a} {n₂ = b} {P = P} {Q = Q} {s = s} {r = r} d v) fit h u =
      drops_draws b a w s Q r fit.1 (once_drawn _ (split w choice a b P Q) _ h)
      (right_once _ w choice a b P Q _ h) u
      (λ o v. draws d (side_fit b Q fit.1) o v)
  draws (sequential_composition_1 {w = w} {b = b} {P = P} {Q = Q} {s = s} {r = r} d n) fit h u =
      carried_draws s r _ (draws d fit.0 (sequence_once _ w b P Q _ h) u)
  draws (sequential_composition_2 {w = w} {b = b} {P = P} {Q = Q} {s = s} {r = r} d e) fit h u =
      started_draws s r Q w (draws d fit.0 (sequence_once _ w b P Q _ h) u)
  draws (synchronized_parallelism_1 {w = w} {x = x} {n₁ = a} {n₂ = b} {P = P} {Q = Q} {s = s} {r = r} d e) fit
      h u =
      stays_draws a b w s P r fit.0 (once_drawn _ (split w (together x) a b P Q) _ h)
      (left_once _ w (together x) a b P Q _ h) u
      (λ o v. draws d (side_fit a P fit.0) o v) _ _ (shows_no-✓ e)
  draws (synchronized_parallelism_2 {w = w} {x = x} {n₁ = a} {n₂ = b} {P = P} {Q = Q} {s = s} {r = r} d e) fit
      h u =
      stays_draws b a w s Q r fit.1 (once_drawn _ (split w (together x) a b P Q) _ h)
      (right_once _ w (together x) a b P Q _ h) u
      (λ o v. draws d (side_fit b Q fit.1) o v) _ _ (shows_no-✓ e)
  draws (synchronized_parallelism_3 {w = w} {x = x} {n₁ = a} {n₂ = b} {P = P} {Q = Q} {s = s} {l = l} {r = r}
      d d' e e' c p) fit h u =
      let there = once_drawn _ (split w (together x) a b P Q) _ h in
      let first = drops_draws a b w s P l fit.0 there (left_once _ w (together x) a b P Q _ h) u
      (λ o v. draws d (side_fit a P fit.0) o v) in
      joint_draws a b w s l r _ _ there first
      (joint_right x a b w s P Q l r fit h u first (λ o v. draws d' (side_fit b Q fit.1) o v))
  draws (synchronized_parallelism_4 {n₁ = a} {n₂ = b} {s = s} p p') fit h u = ended_draws a b s u
