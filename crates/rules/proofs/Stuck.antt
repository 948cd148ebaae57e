-- What a status says of the plain rules: ended is Ω; live is a control whose stripped form has a step by them; stuck is
-- any other. By the offers, which are below the table's count of events where the control's own are. And what it
-- says of the derivations: those of a stuck control are STOP steps, which leave it stuck. Assumes nothing.
use Rattle.std.specs.Prelude.{ℕ, zero, suc, ◌<◌, ◌≡◌, refl, Bool, true, false, ◌&&◌, ◌||◌, List, ◌↔◌, eqb}
use Rattle.std.proofs.Common.{sym, ap, ◌∙◌, ⊎_elim, arith, eqb-true}
use Rattle.std.proofs.lemmas.Bool.{eqb-false}
use Rattle.lines.specs.Line.{choose}
use Rattle.lines.proofs.Digits.{both}
use Rattle.terms.specs.Term.{Leaf, call, SKIP, STOP, Term}
use Rattle.rules.specs.declared.Event.{Event}
use Rattle.rules.specs.declared.Event.TheVariants.{Tau as τ, Tick as ✓, Visible as visible}
use Rattle.rules.specs.Process.{Address, choice, together, Process, leaf, prefix, internal, split}
use Rattle.rules.specs.Process.{sequence, Ω, ⊥'}
use Rattle.rules.specs.Track.{At, Outcome}
use Rattle.sets.specs.EventSet.{member}
use Rattle.rules.specs.Tracking.{Visible, Tracks}
use Rattle.rules.specs.Plain.{Plain, operator, strip, Steps}
use Rattle.rules.specs.Plain as Fig3
use Rattle.rules.specs.Stopping.{LeadsToSTOP, there, by_first, by_second, inside}
use Rattle.rules.specs.Step.{at_Ω}
use Rattle.rules.specs.declared.Status.TheVariants.{Live as live, Ended as ended, Stuck as stuck}
use Rattle.rules.specs.Offers.{leaf_offers, offers-✓, offers_event, offers, offers_some, plain_τ, moves}
use Rattle.rules.specs.Offers.{status}
use Rattle.rules.specs.Run.{State, stands, after, accepted, refused, answer}
use Rattle.rules.specs.Derivation.{Moves, Among}
use Rattle.rules.proofs.Answered.{accepted_exactly, seven_exactly}
use Rattle.rules.proofs.Stripped.{tracked_plainly}
use Rattle.rules.proofs.Offered.{or_left, or_right, or_either, is_Ω}
use Rattle.rules.proofs.Plainly.{stop_tracked, shown_plainly, plainly_offered, silent_plainly}
use Rattle.rules.proofs.Plainly.{plainly_silent}

no_leaf : (l : Leaf) (k : ℕ) → leaf_offers l (visible k) ≡ true → ⊥
unfolding leaf_offers
no_leaf (call n) k h = let z : ◌≡◌ {A = ℕ} 0 1 = cc in omega arith
no_leaf SKIP k h = let z : ◌≡◌ {A = ℕ} 0 1 = cc in omega arith
no_leaf STOP k h = let z : ◌≡◌ {A = ℕ} 0 1 = cc in omega arith

-- what a control offers is one of its own events
pub among_offers : (n k : ℕ) (P : Process) → Among n P → offers_event k P ≡ true → k < n
unfolding offers_event
among_offers n k (leaf w l) t h = absurd (no_leaf l k h)
among_offers n k (prefix w e P) t h = let same = eqb-true k e h in omega (arith, t.0)
among_offers n k (internal w P Q) t h = let z : ◌≡◌ {A = ℕ} 0 1 = cc in absurd (omega arith)
among_offers n k (split w choice i j P Q) t h =
    ⊎_elim (among_offers n k P t.0) (among_offers n k Q t.1) (or_either (offers_event k P) (offers_event k Q) h)
among_offers n k (split w (together x) i j P Q) t h =
    go (member k x) (among_offers n k P t.0) (among_offers n k Q t.1) h
  where
    go : (b : Bool) → (offers_event k P ≡ true → k < n) → (offers_event k Q ≡ true → k < n)
        → choose b (offers_event k P && offers_event k Q) (offers_event k P || offers_event k Q) ≡ true → k < n
    go true left right h = left (both (offers_event k P) (offers_event k Q) h).0
    go false left right h = ⊎_elim left right (or_either (offers_event k P) (offers_event k Q) h)
among_offers n k (sequence w b P Q) t h = among_offers n k P t.0 h
among_offers n k Ω t h = let z : ◌≡◌ {A = ℕ} 0 1 = cc in absurd (omega arith)
among_offers n k ⊥' t h = let z : ◌≡◌ {A = ℕ} 0 1 = cc in absurd (omega arith)

-- one of the first n events is offered where one below n is, and the other way round
some_offered : (n k : ℕ) (P : Process) → k < n → offers_event k P ≡ true → offers_some n P ≡ true
unfolding offers_some
some_offered zero k P l h = absurd (omega arith)
some_offered (suc n) k P l h = go (eqb k n) refl (λ m. some_offered n k P m h)
  where
    go : (b : Bool) → eqb k n ≡ b → (k < n → offers_some n P ≡ true) → (offers_event n P || offers_some n P) ≡ true
    go true e less = or_left (offers_event n P) (offers_some n P) (rw (eqb-true k n e) at h)
    go false e less =
        let apart = eqb-false k n e in
        or_right (offers_event n P) (offers_some n P) (less (omega arith))

which_offered : (n : ℕ) (P : Process) → offers_some n P ≡ true → (k : ℕ) × (offers_event k P ≡ true)
unfolding offers_some
which_offered zero P h = let z : ◌≡◌ {A = ℕ} 0 1 = cc in absurd (omega arith)
which_offered (suc n) P h =
    ⊎_elim (λ e. (n, e)) (which_offered n P) (or_either (offers_event n P) (offers_some n P) h)

Ω-ended : at_Ω Ω ≡ true
unfolding at_Ω
Ω-ended = refl

no_plain_Ω : {ts : List Term} {e : Event} {q : Plain} → Steps ts Fig3.ended e q → ⊥
no_plain_Ω = elim [ ]

-- what has a STOP to step is not at Ω
stops_no_Ω : {a : Address} {P : Process} → LeadsToSTOP a P → strip P ≡ Fig3.ended → ⊥
unfolding strip operator
stops_no_Ω there e = let z : ◌≡◌ {A = ℕ} 0 1 = cc in omega arith
stops_no_Ω (by_first l) e = let z : ◌≡◌ {A = ℕ} 0 1 = cc in omega arith
stops_no_Ω (by_second l) e = let z : ◌≡◌ {A = ℕ} 0 1 = cc in omega arith
stops_no_Ω (inside l) e = let z : ◌≡◌ {A = ℕ} 0 1 = cc in omega arith

true_false : (b : Bool) → b ≡ true → b ≡ false → ⊥
true_false b e f = let z : ◌≡◌ {A = ℕ} 0 1 = cc in omega arith

module _ (ts : List Term) (n : ℕ) (P : Process) where
  -- the plain rules have a step where `moves` says so, and `moves` says so where they have one
  moves_plainly : moves n P ≡ true → Moves ts (strip P)
  unfolding moves offers
  moves_plainly h =
      ⊎_elim (λ t. by τ (silent_plainly ts P t)) (λ m. ⊎_elim (visibly ✓ tt) some (or_either (offers-✓ P) (offers_some n P) m))
      (or_either (plain_τ P) (offers-✓ P || offers_some n P) h)
    where
      by : (e : Event) → (q : Plain) × Steps ts (strip P) e q → Moves ts (strip P)
      by e d = (e, d.0, d.1)

      visibly : (e : Event) → Visible e → offers P e ≡ true → Moves ts (strip P)
      visibly e v o = by e (shown_plainly ts P e v o)

      some : offers_some n P ≡ true → Moves ts (strip P)
      some o = let k = which_offered n P o in visibly (visible k.0) tt k.1

  plainly_moves : Among n P → Moves ts (strip P) → moves n P ≡ true
  unfolding moves offers
  plainly_moves t (τ, q, h) = or_left (plain_τ P) (offers-✓ P || offers_some n P) (plainly_silent ts P h)
  plainly_moves t (✓, q, h) =
      or_right (plain_τ P) (offers-✓ P || offers_some n P)
      (or_left (offers-✓ P) (offers_some n P) (plainly_offered ts P h))
  plainly_moves t (visible k, q, h) =
      let offered = plainly_offered ts P h in
      or_right (plain_τ P) (offers-✓ P || offers_some n P)
      (or_right (offers-✓ P) (offers_some n P) (some_offered n k P (among_offers n k P t offered) offered))

  pub ended_exactly : (status n P ≡ ended) ↔ (P ≡ Ω)
  unfolding status at_Ω
  ended_exactly = (λ h. go (at_Ω P) refl (moves n P) h, λ e. rw e)
    where
      go : (b : Bool) → at_Ω P ≡ b → (c : Bool) → choose b ended (choose c live stuck) ≡ ended → P ≡ Ω
      go true e c h = is_Ω P e
      go false e true h = let z : ◌≡◌ {A = ℕ} 0 1 = cc in absurd (omega arith)
      go false e false h = let z : ◌≡◌ {A = ℕ} 0 1 = cc in absurd (omega arith)

  not_ended : (P ≡ Ω → ⊥) → at_Ω P ≡ false
  not_ended h = go (at_Ω P) refl
    where
      go : (b : Bool) → at_Ω P ≡ b → b ≡ false
      go true e = absurd (h (is_Ω P e))
      go false e = refl

  still : (Moves ts (strip P) → ⊥) → moves n P ≡ false
  still h = go (moves n P) refl
    where
      go : (b : Bool) → moves n P ≡ b → b ≡ false
      go true e = absurd (h (moves_plainly e))
      go false e = refl

  stuck_is : status n P ≡ stuck → (at_Ω P ≡ false) × (moves n P ≡ false)
  unfolding status
  stuck_is h = go (at_Ω P) (moves n P) h
    where
      go : (b c : Bool) → choose b ended (choose c live stuck) ≡ stuck → (b ≡ false) × (c ≡ false)
      go true c h = let z : ◌≡◌ {A = ℕ} 0 1 = cc in absurd (omega arith)
      go false true h = let z : ◌≡◌ {A = ℕ} 0 1 = cc in absurd (omega arith)
      go false false h = (refl, refl)

  live_is : status n P ≡ live → moves n P ≡ true
  unfolding status
  live_is h = go (at_Ω P) (moves n P) h
    where
      go : (b c : Bool) → choose b ended (choose c live stuck) ≡ live → c ≡ true
      go true c h = let z : ◌≡◌ {A = ℕ} 0 1 = cc in absurd (omega arith)
      go false true h = refl
      go false false h = let z : ◌≡◌ {A = ℕ} 0 1 = cc in absurd (omega arith)

  -- not at Ω, and no plain step
  abbrev Dead : Type 0
  Dead = (P ≡ Ω → ⊥) × (Moves ts (strip P) → ⊥)

  dead_stuck : Dead → status n P ≡ stuck
  unfolding status
  dead_stuck h = rw (not_ended h.0, still h.1)

  pub stuck_exactly : Among n P → (status n P ≡ stuck) ↔ ((P ≡ Ω → ⊥) × (Moves ts (strip P) → ⊥))
  stuck_exactly t = (
    λ h.
        let b = stuck_is h in (
          λ e. true_false (at_Ω P) (rw e Ω-ended) b.0,
          λ m. true_false (moves n P) (plainly_moves t m) b.1,
        ),
    dead_stuck,
  )

  pub live_exactly : Among n P → (status n P ≡ live) ↔ Moves ts (strip P)
  unfolding status strip
  live_exactly t = (
    λ h. moves_plainly (live_is h),
    λ m. rw (not_ended (λ e. no_plain_Ω (rw e at m.2)), plainly_moves t m),
  )

module _ (ts : List Term) (n : ℕ) (P : Process) (t : Among n P) (h : status n P ≡ stuck) where
  -- a stuck control's derivations are STOP steps, which show τ, and behind them it is stuck
  pub stuck_stays : {a : Address} {s : At} {r : Outcome} → Tracks ts a P s r
      → (r.event ≡ τ) × LeadsToSTOP a P × (status n r.process ≡ stuck)
  unfolding strip
  stuck_stays {a} {r} d =
      ⊎_elim (λ plain. absurd (dead.1 (_, _, plain))) (λ (e, same, leads). (e, leads, behind leads same)) (tracked_plainly d)
    where
      dead : Dead ts n P
      dead = (stuck_exactly ts n P t).0 h

      behind : LeadsToSTOP a P → strip r.process ≡ strip P → status n r.process ≡ stuck
      behind leads same =
          dead_stuck ts n r.process
          (λ e. stops_no_Ω leads (sym same ∙ ap strip e), λ m. dead.1 (rw same at m))

-- a stuck state, by what its addresses are answered
module _ (ts : List Term) (n : ℕ) (s : State) (t : Among n s.process) (h : status n s.process ≡ stuck) where
  -- 7 exactly where an address leads to no STOP
  pub stuck_answered : (a : Address) → (answer ts s a ≡ refused 7) ↔ (LeadsToSTOP a s.process → ⊥)
  stuck_answered a = (
    λ e leads. let (r, d, silent) = stop_tracked ts leads (stands s) in (seven_exactly ts s a).0 e r d,
    λ none. (seven_exactly ts s a).1 (λ r d. none (stuck_stays ts n s.process t h d).1),
  )

  -- what is accepted is a STOP step, which shows τ, and leaves the state stuck
  pub stuck_accepted : (a : Address) (e : Event) (u : State) → answer ts s a ≡ accepted e u
      → (e ≡ τ) × LeadsToSTOP a s.process × (status n u.process ≡ stuck)
  unfolding after
  stuck_accepted a e u is =
      let (r, d, event_is, state_is, fits) = (accepted_exactly ts s a e u).0 is in
      let (silent, leads, behind) = stuck_stays ts n s.process t h d in
      (sym event_is ∙ silent, leads, rw (← state_is) behind)
