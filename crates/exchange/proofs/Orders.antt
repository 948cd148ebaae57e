-- Two steps that agree down to a parallel and there go to opposite sides can be made in either order. By
-- induction over what stands above the parallel: it is a fork, or a level that keeps the exchange of the
-- level below. Assumes nothing.
use Rattle.std.proofs.Common.{ℕ, ◌≡◌, refl, subst, Bool, true, List, ◌∷◌, ◌⊎◌, inl, inr}
use Rattle.std.proofs.Math.Option.{Option}
use Rattle.terms.specs.Term.{Term}
use Rattle.places.specs.Place.{Place}
use Rattle.rules.specs.declared.Event.TheVariants.{Tick as ✓}
use Rattle.rules.specs.Process.{Address, together, Process, sequence}
use Rattle.rules.specs.Track.{At, Outcome, first_eval, inside, carried}
use Rattle.rules.specs.Tracking.{Tracks, sequential_composition_1, sequential_composition_2}
use Rattle.exchange.specs.Opposite.{Opposite, left_and_right, right_and_left, both_left, both_right}
use Rattle.exchange.specs.Opposite.{in_sequence}
use Rattle.exchange.proofs.Hands.{Hand, left, right, digit, sided, by_side, side_tracked, Stands}
use Rattle.exchange.proofs.Hands.{stands_side, stands_left}
use Rattle.exchange.proofs.Levels.{EitherOrder, exchange_beside, exchange_onward}
use Rattle.exchange.proofs.Fork.{exchange_forked}

module _ (ts : List Term) where
  -- a sequence steps by its left, and stays unless the left ends
  sequence_tracked : {a : Address} {w : Place} {c : Bool} {P Q : Process} {s : At} {o : Outcome}
      → Tracks ts a (sequence w c P Q) s o
      → (r : Outcome) × Tracks ts a P s r × ((r.event ≡ ✓) ⊎ (carried r (sequence w true r.process Q) ≡ o))
  sequence_tracked (sequential_composition_1 {r = r} t e) = (r, t, inr refl)
  sequence_tracked (sequential_composition_2 {r = r} t e) = (r, t, inl e)

  -- what the levels below give, for any two steps
  abbrev Exchanges : Address → Address → Process → Type 0
  Exchanges a b P = (s : At) (r q : Outcome) → Stands P s → Tracks ts a P s r → Tracks ts b P s q
      → EitherOrder ts a b s r q

  -- a parallel above
  beside : (h : Hand) (a b : Address) (w : Place) (x : ℕ) (m n : Option ℕ) (P Q : Process) → Exchanges a b P
      → Exchanges (digit h ∷ a) (digit h ∷ b) (sided h w (together x) m n P Q)
  beside h a b w x m n P Q inner s r q z t t' =
      let (r₁, d, on, v, is) = side_tracked ts h a w x m n P Q s r t in
      let (q₁, e, on', v', is') = side_tracked ts h b w x m n P Q s q t' in
      subst (EitherOrder ts (digit h ∷ a) (digit h ∷ b) s r) is'
      (subst (λ o. EitherOrder ts (digit h ∷ a) (digit h ∷ b) s o (by_side h w x m n Q s q₁ e)) is
      (exchange_beside ts h a b w x m n P Q s r₁ q₁ d e z v v'
      (inner (inside (first_eval m n w s) s) r₁ q₁ (stands_side w (together x) m n P Q s h z) on on')))

  -- a sequence above
  onward : (a b : Address) (w : Place) (c : Bool) (P Q : Process) → Exchanges a b P
      → Exchanges a b (sequence w c P Q)
  onward a b w c P Q inner s r q z t t' =
      let (r₁, on, is) = sequence_tracked t in
      let (q₁, on', is') = sequence_tracked t' in
      go r₁ q₁ (inner s r₁ q₁ (stands_left w c P Q s z) on on') is is'
    where
      go : (r₁ q₁ : Outcome) → EitherOrder ts a b s r₁ q₁
          → (r₁.event ≡ ✓) ⊎ (carried r₁ (sequence w true r₁.process Q) ≡ r)
          → (q₁.event ≡ ✓) ⊎ (carried q₁ (sequence w true q₁.process Q) ≡ q) → EitherOrder ts a b s r q
      go r₁ q₁ k (inl e) u = absurd (k.first_on e)
      go r₁ q₁ k (inr is) (inl e) = absurd (k.second_on e)
      go r₁ q₁ k (inr is) (inr is') =
          subst (EitherOrder ts a b s r) is'
          (subst (λ o. EitherOrder ts a b s o (carried q₁ (sequence w true q₁.process Q))) is
          (exchange_onward ts a b w c P Q s r₁ q₁ z k))

  -- the two orders
  pub exchanged : {a b : Address} {P : Process} → Opposite a b P → Exchanges a b P
  exchanged (left_and_right {a = a} {b = b} {w = w} {x = x} {m = m} {n = n} {P = P} {Q = Q}) s r q z t t' =
      exchange_forked ts w x s left a b m n P Q r q z t t'
  exchanged (right_and_left {a = a} {b = b} {w = w} {x = x} {m = m} {n = n} {P = P} {Q = Q}) s r q z t t' =
      exchange_forked ts w x s right a b n m Q P r q z t t'
  exchanged (both_left {a = a} {b = b} {w = w} {x = x} {m = m} {n = n} {P = P} {Q = Q} o) s r q z t t' =
      beside left a b w x m n P Q (exchanged o) s r q z t t'
  exchanged (both_right {a = a} {b = b} {w = w} {x = x} {m = m} {n = n} {P = P} {Q = Q} o) s r q z t t' =
      beside right a b w x n m Q P (exchanged o) s r q z t t'
  exchanged (in_sequence {a = a} {b = b} {w = w} {c = c} {P = P} {Q = Q} o) s r q z t t' =
      onward a b w c P Q (exchanged o) s r q z t t'
