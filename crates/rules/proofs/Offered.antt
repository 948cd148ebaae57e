-- Offers are the events of the derivations. Each rule shows an event that is offered, and each offer has a
-- rule, wherever the process stands: by the derivation one way, by the process the other. Assumes nothing.
use Rattle.std.proofs.Common.{ℕ, ◌≡◌, refl, sym, ap, ◌∙◌, Bool, true, false, ◌&&◌, ◌||◌, List, [], ◌∷◌, ◌++◌}
use Rattle.std.proofs.Common.{◌⊎◌, inl, inr, ⊎_elim, arith, eqb-true, eq-eqb}
use Rattle.std.proofs.Math.Option.{Option}
use Rattle.lines.specs.Line.{choose}
use Rattle.lines.proofs.Digits.{both}
use Rattle.terms.specs.Term.{Leaf, call, SKIP, STOP, Term}
use Rattle.places.specs.Place.{Place}
use Rattle.rules.specs.declared.Event.{Event}
use Rattle.rules.specs.declared.Event.TheVariants.{Tau as τ, Tick as ✓, Visible as visible}
use Rattle.rules.specs.Process.{one, two, three, four, Address, choice, together, Process, leaf, prefix}
use Rattle.rules.specs.Process.{internal, split, sequence, Ω, ⊥'}
use Rattle.rules.specs.Track.{At, Outcome, labelled, prefixed, first_eval, inside, around, right_inside}
use Rattle.rules.specs.Track.{jointly, carried, started, ended}
use Rattle.sets.specs.EventSet.{member}
use Rattle.rules.specs.Tracking.{Shows, passes, hides_τ, hides-✓, Tracks, process_call, prefixing, skip}
use Rattle.rules.specs.Tracking.{stop, internal_choice_1, internal_choice_2, external_choice_1}
use Rattle.rules.specs.Tracking.{external_choice_2, external_choice_3, external_choice_4}
use Rattle.rules.specs.Tracking.{sequential_composition_1, sequential_composition_2}
use Rattle.rules.specs.Tracking.{synchronized_parallelism_1, synchronized_parallelism_2}
use Rattle.rules.specs.Tracking.{synchronized_parallelism_3, synchronized_parallelism_4}
use Rattle.rules.specs.Step.{at_Ω}
use Rattle.rules.specs.Offers.{leaf_offers, offers-✓, offers_τ, offers_event, offers}

pub or_left : (a b : Bool) → a ≡ true → (a || b) ≡ true
or_left true b e = refl
or_left false b e = let z : ◌≡◌ {A = ℕ} 0 1 = cc in absurd (omega arith)

pub or_right : (a b : Bool) → b ≡ true → (a || b) ≡ true
or_right true b e = refl
or_right false b e = e

and_both : (a b : Bool) → a ≡ true → b ≡ true → (a && b) ≡ true
and_both true b e f = f
and_both false b e f = let z : ◌≡◌ {A = ℕ} 0 1 = cc in absurd (omega arith)

pub or_either : (a b : Bool) → (a || b) ≡ true → (a ≡ true) ⊎ (b ≡ true)
or_either true b e = inl refl
or_either false b e = inr e

-- what an external choice offers is what either side offers
choice_left : (w : Place) (m n : Option ℕ) (P Q : Process) (e : Event) → offers P e ≡ true
    → offers (split w choice m n P Q) e ≡ true
unfolding offers offers_τ offers-✓ offers_event
choice_left w m n P Q τ h = or_left (offers_τ P) (offers_τ Q) h
choice_left w m n P Q ✓ h = or_left (offers-✓ P) (offers-✓ Q) h
choice_left w m n P Q (visible k) h = or_left (offers_event k P) (offers_event k Q) h

choice_right : (w : Place) (m n : Option ℕ) (P Q : Process) (e : Event) → offers Q e ≡ true
    → offers (split w choice m n P Q) e ≡ true
unfolding offers offers_τ offers-✓ offers_event
choice_right w m n P Q τ h = or_right (offers_τ P) (offers_τ Q) h
choice_right w m n P Q ✓ h = or_right (offers-✓ P) (offers-✓ Q) h
choice_right w m n P Q (visible k) h = or_right (offers_event k P) (offers_event k Q) h

-- what a side offers that its parallel shows as τ
silent : Process → Bool
silent P = offers_τ P || offers-✓ P

-- what a parallel offers of one side's event that it shows
module _ (w : Place) (x : ℕ) (m n : Option ℕ) (P Q : Process) where
  shown_left : {e f : Event} → Shows x e f → offers P e ≡ true → offers (split w (together x) m n P Q) f ≡ true
  unfolding offers offers_τ offers_event silent
  shown_left (passes {a = k} out) h = rw out (or_left (offers_event k P) (offers_event k Q) h)
  shown_left hides_τ h = or_left (silent P) (silent Q) (or_left (offers_τ P) (offers-✓ P) h)
  shown_left hides-✓ h = or_left (silent P) (silent Q) (or_right (offers_τ P) (offers-✓ P) h)

  shown_right : {e f : Event} → Shows x e f → offers Q e ≡ true → offers (split w (together x) m n P Q) f ≡ true
  unfolding offers offers_τ offers_event silent
  shown_right (passes {a = k} out) h = rw out (or_right (offers_event k P) (offers_event k Q) h)
  shown_right hides_τ h = or_right (silent P) (silent Q) (or_left (offers_τ Q) (offers-✓ Q) h)
  shown_right hides-✓ h = or_right (silent P) (silent Q) (or_right (offers_τ Q) (offers-✓ Q) h)

-- a sequence offers what its left does, but τ for ✓
stays : (w : Place) (b : Bool) (P Q : Process) (e : Event) → (e ≡ ✓ → ⊥) → offers P e ≡ true
    → offers (sequence w b P Q) e ≡ true
unfolding offers offers_τ offers_event
stays w b P Q τ n h = or_left (offers_τ P) (offers-✓ P) h
stays w b P Q ✓ n h = absurd (n refl)
stays w b P Q (visible k) n h = h

-- a left that ends starts the right by τ
starts : (w : Place) (b : Bool) (P Q : Process) → offers P ✓ ≡ true → offers (sequence w b P Q) τ ≡ true
unfolding offers offers_τ
starts w b P Q h = or_right (offers_τ P) (offers-✓ P) h

-- both sides offer an event of the set
met : (w : Place) (x k : ℕ) (m n : Option ℕ) (P Q : Process) → member k x ≡ true
    → offers P (visible k) ≡ true → offers Q (visible k) ≡ true
    → offers (split w (together x) m n P Q) (visible k) ≡ true
unfolding offers offers_event
met w x k m n P Q i h h' = rw i (and_both (offers_event k P) (offers_event k Q) h h')

over : (w : Place) (x : ℕ) (m n : Option ℕ) (P Q : Process) → P ≡ Ω → Q ≡ Ω
    → offers (split w (together x) m n P Q) ✓ ≡ true
unfolding offers offers-✓ at_Ω
over w x m n P Q p q = rw (p, q)

-- what the processes without premises offer
call_offers : (w : Place) (n : ℕ) → offers (leaf w (call n)) τ ≡ true
unfolding offers offers_τ leaf_offers
call_offers w n = refl

SKIP_offers : (w : Place) → offers (leaf w SKIP) ✓ ≡ true
unfolding offers offers-✓ leaf_offers
SKIP_offers w = refl

STOP_offers : (w : Place) → offers (leaf w STOP) τ ≡ true
unfolding offers offers_τ leaf_offers
STOP_offers w = refl

prefix_offers : (w : Place) (k : ℕ) (P : Process) → offers (prefix w k P) (visible k) ≡ true
unfolding offers offers_event
prefix_offers w k P = eq-eqb k k refl

internal_offers : (w : Place) (P Q : Process) → offers (internal w P Q) τ ≡ true
unfolding offers offers_τ
internal_offers w P Q = refl

-- Ω and ⊥ offer nothing
Ω-offers : (e : Event) → offers Ω e ≡ false
unfolding offers offers_τ offers-✓ offers_event
Ω-offers τ = refl
Ω-offers ✓ = refl
Ω-offers (visible k) = refl

⊥-offers : (e : Event) → offers ⊥' e ≡ false
unfolding offers offers_τ offers-✓ offers_event
⊥-offers τ = refl
⊥-offers ✓ = refl
⊥-offers (visible k) = refl

-- the test for Ω
pub is_Ω : (P : Process) → at_Ω P ≡ true → P ≡ Ω
unfolding at_Ω
is_Ω (leaf w l) e = let z : ◌≡◌ {A = ℕ} 0 1 = cc in absurd (omega arith)
is_Ω (prefix w k P) e = let z : ◌≡◌ {A = ℕ} 0 1 = cc in absurd (omega arith)
is_Ω (internal w P Q) e = let z : ◌≡◌ {A = ℕ} 0 1 = cc in absurd (omega arith)
is_Ω (split w k m n P Q) e = let z : ◌≡◌ {A = ℕ} 0 1 = cc in absurd (omega arith)
is_Ω (sequence w b P Q) e = let z : ◌≡◌ {A = ℕ} 0 1 = cc in absurd (omega arith)
is_Ω Ω e = refl
is_Ω ⊥' e = let z : ◌≡◌ {A = ℕ} 0 1 = cc in absurd (omega arith)

-- events apart
pub τ-no-✓ : τ ≡ ✓ → ⊥
τ-no-✓ e = let z : ◌≡◌ {A = ℕ} 0 1 = cc in omega arith

visible_no-✓ : (k : ℕ) → visible k ≡ ✓ → ⊥
visible_no-✓ k e = let z : ◌≡◌ {A = ℕ} 0 1 = cc in omega arith

-- an offer by an equal event
by : (P : Process) {e f : Event} → e ≡ f → offers P e ≡ true → offers P f ≡ true
by P q h = rw q at h

module _ (ts : List Term) where
  pub derived_offered : {a : Address} {P : Process} {s : At} {r : Outcome} → Tracks ts a P s r
      → offers P r.event ≡ true
  unfolding labelled prefixed around jointly carried started ended
  derived_offered process_call = call_offers _ _
  derived_offered prefixing = prefix_offers _ _ _
  derived_offered skip = SKIP_offers _
  derived_offered stop = STOP_offers _
  derived_offered internal_choice_1 = internal_offers _ _ _
  derived_offered internal_choice_2 = internal_offers _ _ _
  derived_offered (external_choice_1 d e) = choice_left _ _ _ _ _ τ (by _ e (derived_offered d))
  derived_offered (external_choice_2 d e) = choice_right _ _ _ _ _ τ (by _ e (derived_offered d))
  derived_offered (external_choice_3 d v) = choice_left _ _ _ _ _ _ (derived_offered d)
  derived_offered (external_choice_4 d v) = choice_right _ _ _ _ _ _ (derived_offered d)
  derived_offered (sequential_composition_1 d n) = stays _ _ _ _ _ n (derived_offered d)
  derived_offered (sequential_composition_2 d e) = starts _ _ _ _ (by _ e (derived_offered d))
  derived_offered (synchronized_parallelism_1 d h) = shown_left _ _ _ _ _ _ h (derived_offered d)
  derived_offered (synchronized_parallelism_2 d h) = shown_right _ _ _ _ _ _ h (derived_offered d)
  derived_offered (synchronized_parallelism_3 d d' e e' x c) =
      met _ _ _ _ _ _ _ x (by _ e (derived_offered d)) (by _ e' (derived_offered d'))
  derived_offered (synchronized_parallelism_4 p q) = over _ _ _ _ _ _ p q

  -- a derivation that shows an event, by some address
  abbrev pub Offered : Process → At → Event → Type 0
  Offered P s e = (a : Address) × (r : Outcome) × Tracks ts a P s r × (r.event ≡ e)

  -- each offer of a side, wherever it stands
  abbrev Gives : Process → Type 0
  Gives P = (e : Event) → offers P e ≡ true → (s : At) → Offered P s e

  module _ (w : Place) (m n : Option ℕ) (P Q : Process) (left : Gives P) (right : Gives Q) (s : At) where
    -- a choice's offer is a side's
    choice_1 : (e : Event) → offers P e ≡ true → Offered (split w choice m n P Q) s e
    unfolding around
    choice_1 τ h =
        let d = left τ h (inside (first_eval m n w s) s) in
        (one ∷ d.0, _, external_choice_1 d.2 d.3, refl)
    choice_1 ✓ h =
        let d = left ✓ h (inside (first_eval m n w s) s) in
        (one ∷ d.0, _, external_choice_3 d.2 (rw d.3 tt), d.3)
    choice_1 (visible k) h =
        let d = left (visible k) h (inside (first_eval m n w s) s) in
        (one ∷ d.0, _, external_choice_3 d.2 (rw d.3 tt), d.3)

    choice_2 : (e : Event) → offers Q e ≡ true → Offered (split w choice m n P Q) s e
    unfolding around
    choice_2 τ h =
        let d = right τ h (inside (first_eval n m w s) s) in
        (two ∷ d.0, _, external_choice_2 d.2 d.3, refl)
    choice_2 ✓ h =
        let d = right ✓ h (inside (first_eval n m w s) s) in
        (two ∷ d.0, _, external_choice_4 d.2 (rw d.3 tt), d.3)
    choice_2 (visible k) h =
        let d = right (visible k) h (inside (first_eval n m w s) s) in
        (two ∷ d.0, _, external_choice_4 d.2 (rw d.3 tt), d.3)

    choice_gives : (e : Event) → offers (split w choice m n P Q) e ≡ true → Offered (split w choice m n P Q) s e
    unfolding offers offers_τ offers-✓ offers_event
    choice_gives τ h = ⊎_elim (choice_1 τ) (choice_2 τ) (or_either (offers_τ P) (offers_τ Q) h)
    choice_gives ✓ h = ⊎_elim (choice_1 ✓) (choice_2 ✓) (or_either (offers-✓ P) (offers-✓ Q) h)
    choice_gives (visible k) h =
        ⊎_elim (choice_1 (visible k)) (choice_2 (visible k)) (or_either (offers_event k P) (offers_event k Q) h)

    module _ (x : ℕ) where
      -- a parallel's offer is one side's that it shows, both sides' of an event of the set, or its end
      side_1 : (e f : Event) → Shows x e f → offers P e ≡ true → Offered (split w (together x) m n P Q) s f
      unfolding around
      side_1 e f v h =
          let d = left e h (inside (first_eval m n w s) s) in
          let shown : Shows x d.1.event f = rw d.3 v in
          (one ∷ d.0, _, synchronized_parallelism_1 d.2 shown, refl)

      side_2 : (e f : Event) → Shows x e f → offers Q e ≡ true → Offered (split w (together x) m n P Q) s f
      unfolding around
      side_2 e f v h =
          let d = right e h (inside (first_eval n m w s) s) in
          let shown : Shows x d.1.event f = rw d.3 v in
          (two ∷ d.0, _, synchronized_parallelism_2 d.2 shown, refl)

      meets : (k : ℕ) → member k x ≡ true → offers P (visible k) ≡ true → offers Q (visible k) ≡ true
          → Offered (split w (together x) m n P Q) s (visible k)
      unfolding jointly
      meets k i h h' =
          let d = left (visible k) h (inside (first_eval m n w s) s) in
          let d' = right (visible k) h' (right_inside m n w s d.1) in
          (three ∷ d.0 ++ d'.0, _, synchronized_parallelism_3 d.2 d'.2 d.3 d'.3 i refl, refl)

      ends : at_Ω P ≡ true → at_Ω Q ≡ true → Offered (split w (together x) m n P Q) s ✓
      unfolding ended
      ends p q = (four ∷ [], _, synchronized_parallelism_4 (is_Ω P p) (is_Ω Q q), refl)

      silent_1 : silent P ≡ true → Offered (split w (together x) m n P Q) s τ
      unfolding silent offers
      silent_1 h = ⊎_elim (side_1 τ τ hides_τ) (side_1 ✓ τ hides-✓) (or_either (offers_τ P) (offers-✓ P) h)

      silent_2 : silent Q ≡ true → Offered (split w (together x) m n P Q) s τ
      unfolding silent offers
      silent_2 h = ⊎_elim (side_2 τ τ hides_τ) (side_2 ✓ τ hides-✓) (or_either (offers_τ Q) (offers-✓ Q) h)

      by_set : (k : ℕ) (b : Bool) → member k x ≡ b
          → choose b (offers_event k P && offers_event k Q) (offers_event k P || offers_event k Q) ≡ true
          → Offered (split w (together x) m n P Q) s (visible k)
      unfolding offers
      by_set k true i h =
          let c = both (offers_event k P) (offers_event k Q) h in
          meets k i c.0 c.1
      by_set k false i h =
          ⊎_elim (side_1 (visible k) (visible k) (passes i)) (side_2 (visible k) (visible k) (passes i))
          (or_either (offers_event k P) (offers_event k Q) h)

      parallel_gives : (e : Event) → offers (split w (together x) m n P Q) e ≡ true
          → Offered (split w (together x) m n P Q) s e
      unfolding offers offers_τ offers-✓ offers_event silent
      parallel_gives τ h = ⊎_elim silent_1 silent_2 (or_either (silent P) (silent Q) h)
      parallel_gives ✓ h = let c = both (at_Ω P) (at_Ω Q) h in ends c.0 c.1
      parallel_gives (visible k) h = by_set k (member k x) refl h

  -- a sequence's offer is its left's, or its left's end
  sequence_gives : (w : Place) (b : Bool) (P Q : Process) → Gives P → Gives (sequence w b P Q)
  unfolding offers offers_τ offers-✓ offers_event carried started
  sequence_gives w b P Q left τ h s = ⊎_elim goes_on starts_right (or_either (offers_τ P) (offers-✓ P) h)
    where
      goes_on : offers P τ ≡ true → Offered (sequence w b P Q) s τ
      goes_on h =
          let d = left τ h s in
          (d.0, _, sequential_composition_1 d.2 (λ q. τ-no-✓ (sym d.3 ∙ q)), d.3)

      starts_right : offers P ✓ ≡ true → Offered (sequence w b P Q) s τ
      starts_right h = let d = left ✓ h s in (d.0, _, sequential_composition_2 d.2 d.3, refl)
  sequence_gives w b P Q left ✓ h s = let z : ◌≡◌ {A = ℕ} 0 1 = cc in absurd (omega arith)
  sequence_gives w b P Q left (visible k) h s =
      let d = left (visible k) h s in
      (d.0, _, sequential_composition_1 d.2 (λ q. visible_no-✓ k (sym d.3 ∙ q)), d.3)

  leaf_gives : (w : Place) (l : Leaf) → Gives (leaf w l)
  unfolding offers offers_τ offers-✓ offers_event leaf_offers labelled
  leaf_gives w (call n) τ h s = ([], _, process_call, refl)
  leaf_gives w (call n) ✓ h s = let z : ◌≡◌ {A = ℕ} 0 1 = cc in absurd (omega arith)
  leaf_gives w (call n) (visible k) h s = let z : ◌≡◌ {A = ℕ} 0 1 = cc in absurd (omega arith)
  leaf_gives w SKIP τ h s = let z : ◌≡◌ {A = ℕ} 0 1 = cc in absurd (omega arith)
  leaf_gives w SKIP ✓ h s = ([], _, skip, refl)
  leaf_gives w SKIP (visible k) h s = let z : ◌≡◌ {A = ℕ} 0 1 = cc in absurd (omega arith)
  leaf_gives w STOP τ h s = ([], _, stop, refl)
  leaf_gives w STOP ✓ h s = let z : ◌≡◌ {A = ℕ} 0 1 = cc in absurd (omega arith)
  leaf_gives w STOP (visible k) h s = let z : ◌≡◌ {A = ℕ} 0 1 = cc in absurd (omega arith)

  prefix_gives : (w : Place) (k : ℕ) (P : Process) → Gives (prefix w k P)
  unfolding offers offers_τ offers-✓ offers_event prefixed
  prefix_gives w k P τ h s = let z : ◌≡◌ {A = ℕ} 0 1 = cc in absurd (omega arith)
  prefix_gives w k P ✓ h s = let z : ◌≡◌ {A = ℕ} 0 1 = cc in absurd (omega arith)
  prefix_gives w k P (visible j) h s = ([], _, prefixing, ap visible (sym (eqb-true j k h)))

  internal_gives : (w : Place) (P Q : Process) → Gives (internal w P Q)
  unfolding offers offers_τ offers-✓ offers_event labelled
  internal_gives w P Q τ h s = (one ∷ [], _, internal_choice_1, refl)
  internal_gives w P Q ✓ h s = let z : ◌≡◌ {A = ℕ} 0 1 = cc in absurd (omega arith)
  internal_gives w P Q (visible k) h s = let z : ◌≡◌ {A = ℕ} 0 1 = cc in absurd (omega arith)

  nothing_gives : (P : Process) → ((e : Event) → offers P e ≡ false) → Gives P
  nothing_gives P n e h s = let f = n e in let z : ◌≡◌ {A = ℕ} 0 1 = cc in absurd (omega arith)

  -- every offer has a derivation, wherever the process stands
  pub offered_derived : (P : Process) → Gives P
  offered_derived (leaf w l) = leaf_gives w l
  offered_derived (prefix w k P) = prefix_gives w k P
  offered_derived (internal w P Q) = internal_gives w P Q
  offered_derived (split w choice m n P Q) =
      λ e h s. choice_gives w m n P Q (offered_derived P) (offered_derived Q) s e h
  offered_derived (split w (together x) m n P Q) =
      λ e h s. parallel_gives w m n P Q (offered_derived P) (offered_derived Q) s x e h
  offered_derived (sequence w b P Q) = sequence_gives w b P Q (offered_derived P)
  offered_derived Ω = nothing_gives Ω Ω-offers
  offered_derived ⊥' = nothing_gives ⊥' ⊥-offers
