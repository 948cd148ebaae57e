-- No step gets past what is no digit: every rule that takes a digit stops there, so that the digits of a derivation end
-- there at the latest, whatever the words hold. By how deep it is gone. Assumes nothing.
use Rattle.std.proofs.Common.{ℕ, zero, suc, ◌+◌, ◌≤◌, ◌<◌, ◌≡◌, refl, Bool, true, false, ◌&&◌, not, List, arith, eqb}
use Rattle.std.proofs.Common.{leb, eqb-true, leb-true, leb-false}
use Rattle.std.proofs.Math.Option.{none}
use Rattle.lines.specs.Line.{choose}
use Rattle.kinds.specs.Kind as Kind
use Rattle.plans.specs.words.Plan.{kind, operand, second, around}
use Rattle.control.specs.words.Words.{node}
use Rattle.control.specs.words.Control.{state, term, resting, entered, at_end}
use Rattle.rules.specs.declared.Event.{Event}
use Rattle.rules.specs.declared.Event.TheVariants.{Tau, Tick, Visible}
use Rattle.control.specs.words.Sums.{capped}
use Rattle.weights.specs.code.Rules.{step, started, settled, by_leaf, entering, end_of, barred, stays}
use Rattle.weights.specs.code.Rules.{resized, agree, one, both, ended}
use Rattle.looking.specs.code.Looking.{digit_at, is_split, is_side, is_within, set_of}
use Rattle.weighing.specs.code.Ending.{weigh_end}
use Rattle.weighing.specs.code.Weigh.{levels, by_digit, of_term, at_reference}
use Rattle.weights.specs.declared.Weight.{Weight}
use Rattle.weights.specs.code.Rules.{Weighed}
use Rattle.std.specs.Prelude.{Some, None}
use Rattle.control.proofs.Capped.{capped_least}
use Rattle.rules.specs.Addressed.{digit_of}
use Rattle.runs.proofs.Reading.{no_digit}

-- a weight whose digits end at k at the latest
abbrev pub Stops : ℕ → Weighed → Type 0
Stops k None = Unit {0}
Stops k (Some d) = d.at ≤ k

-- what is chosen, and what stops, for each result of a test
stops_by : (k : ℕ) (b : Bool) (v w : Weighed) → (b ≡ true → Stops k v) → Stops k w → Stops k (choose b v w)
stops_by k true v w h g = h refl
stops_by k false v w h g = g

pub stops_either : (k : ℕ) (b : Bool) (v w : Weighed) → Stops k v → Stops k w → Stops k (choose b v w)
stops_either k b v w h g = stops_by k b v w (λ e. h) g

module _ (k : ℕ) where
  started_stops : (e : Event) (w : Weight) → w.at ≤ k → Stops k (started e w)
  unfolding started
  started_stops Tau w h = h
  started_stops Tick w h = h
  started_stops (Visible e) w h = h

  settled_stops : (w : Weighed) (b : Bool) → Stops k w → Stops k (settled w b)
  unfolding settled
  settled_stops None b h = tt
  settled_stops (Some w) b h = stops_either k b _ _ (started_stops w.event w h) h

  entering_stops : (w : Weighed) (n : ℕ) → Stops k w → Stops k (entering w n)
  unfolding entering
  entering_stops None n h = tt
  entering_stops (Some w) n h = h

  one_stops : (q y : ℕ) (w : Weighed) (size own other : ℕ) (b : Bool) → Stops k w
      → Stops k (one q y w size own other b)
  unfolding one resized
  one_stops q y None size own other b h = tt
  one_stops q y (Some w) size own other b h =
      stops_either k (barred q y w.event) _ _ tt
      (stops_either k (stays q w.event) _ _ h (settled_stops _ b h))

  with_left : (q y : ℕ) (v : Weight) (w : Weighed) (size own other : ℕ) → Stops k w
      → Stops k (both q y (Some v) w size own other)
  unfolding both
  with_left q y v None size own other h = tt
  with_left q y v (Some w) size own other h = stops_either k (agree q y v.event w.event) _ _ h tt

  both_stops : (q y : ℕ) (v : Weighed) (across : ℕ → Weighed) (count size own other : ℕ) → Stops k v
      → ((from : ℕ) → from ≤ k → Stops k (across from))
      → Stops k (both q y v (across (end_of v count)) size own other)
  unfolding both end_of
  both_stops q y None across count size own other h g = tt
  both_stops q y (Some v) across count size own other h g = with_left q y v (across v.at) size own other (g v.at h)

capped_most : (n : ℕ) → capped n ≤ n
capped_most n = rw (capped_least n) (omega arith)

-- a digit that a rule takes
both_true : (b c : Bool) → b && c ≡ true → (b ≡ true) × (c ≡ true)
both_true true c e = (refl, e)
both_true false c e = let z : ◌≡◌ {A = ℕ} 0 1 = cc in absurd (omega arith)

side_digit : (d : ℕ) → is_side d ≡ true → (1 ≤ d) × (d ≤ 3)
unfolding is_side
side_digit d e = let (f, g) = both_true (leb 1 d) (leb d 3) e in (leb-true 1 d f, leb-true d 3 g)

module _ (p x : List ℕ) (count : ℕ) (ds : List ℕ) (k : ℕ) (wrong : digit_of (digit_at ds count k) ≡ none) where
  -- a digit that is one stands in front
  in_front : (at : ℕ) → at ≤ k → 1 ≤ digit_at ds count at → digit_at ds count at ≤ 4 → at < k
  in_front at h one_more few = go (leb k at) refl
    where
      go : (b : Bool) → leb k at ≡ b → at < k
      go true e =
          let is : at ≡ k = omega (arith, h, leb-true k at e) in
          absurd (no_digit (digit_at ds count at) (rw is wrong) one_more few)
      go false e = leb-false k at e

  next_stops : (at : ℕ) → at < k → capped (at + 1) ≤ k
  next_stops at h = omega (arith, capped_most (at + 1))

  leaf_stops : (q o at size : ℕ) (b : Bool) → at ≤ k → Stops k (by_leaf q o (digit_at ds count at) b at size)
  unfolding by_leaf step
  leaf_stops q o at size b h =
      stops_either k (eqb q Kind.prefix) _ _ h
      (stops_either k (eqb q Kind.SKIP) _ _ (settled_stops k (step Tick at size 1 0) b h)
      (stops_either k (eqb q Kind.call) _ _ h
      (stops_either k (eqb q Kind.STOP) _ _ h
      (stops_by k (eqb q Kind.internal && (leb 1 (digit_at ds count at) && leb (digit_at ds count at) 2)) _ _
      (λ e. next_stops at (taken_digit (eqb q Kind.internal) e)) tt))))
    where
      taken_digit : (c : Bool) → c && (leb 1 (digit_at ds count at) && leb (digit_at ds count at) 2) ≡ true → at < k
      taken_digit c e =
          let r = (both_true c _ e).1 in
          let (f, g) = both_true (leb 1 (digit_at ds count at)) (leb (digit_at ds count at) 2) r in
          in_front at h (leb-true 1 _ f) (omega (arith, leb-true (digit_at ds count at) 2 g))

  -- by a digit
  digit_stops : (at t : ℕ) (found : Weighed) (across : ℕ → Weighed) (size own other : ℕ) (b : Bool) → at ≤ k
      → (at < k → Stops k found) → ((from : ℕ) → from ≤ k → Stops k (across from))
      → Stops k (by_digit p x count ds (digit_at ds count at) t found across size own other b)
  unfolding by_digit
  digit_stops at t found across size own other b h found_stops across_stops =
      go (is_side (digit_at ds count at)) refl
    where
      there : is_side (digit_at ds count at) ≡ true → Stops k found
      there e =
          let (f, g) = side_digit (digit_at ds count at) e in
          found_stops (in_front at h f (omega (arith, g)))

      go : (c : Bool) → is_side (digit_at ds count at) ≡ c
          → Stops k (choose (not c) None
          (choose (not (eqb (digit_at ds count at) 3)) (one (kind p t) (set_of x t) found size own other b)
          (both (kind p t) (set_of x t) found (across (end_of found count)) size own other)))
      go true e = stops_either k (not (eqb (digit_at ds count at) 3)) _ _
          (one_stops k (kind p t) (set_of x t) found size own other b (there e))
          (both_stops k (kind p t) (set_of x t) found across count size own other (there e) across_stops)
      go false e = tt

  term_stops : (left t : ℕ) (b : Bool) (at size : ℕ) → at ≤ k → Stops k (of_term p x count ds left t b at size)
  unfolding of_term
  term_stops zero t b at size h = tt
  term_stops (suc left) t b at size h =
      stops_either k (eqb (kind p t) Kind.sequence) _ _
      (term_stops left (capped (t + 1)) b at (capped (size + 1)) h)
      (stops_either k (not (is_split (kind p t))) _ _
      (leaf_stops (kind p t) (operand p t) at size (is_within b (around p t)) h)
      (digit_stops at t _ (λ from. entering (of_term p x count ds left (second p t) false from 1) 0)
      (capped (size + 2)) 1 1 (is_within b (around p t)) h
      (λ e. entering_stops k _ 1 (term_stops left _ false (capped (at + 1)) 1 (next_stops at e)))
      (λ from e. entering_stops k _ 0 (term_stops left (second p t) false from 1 e))))

  module _ (w g : List ℕ) (arcs : ℕ) where
    end_stops : (n q at size : ℕ) (b : Bool) → capped (at + 1) ≤ k → Stops k (weigh_end w g arcs n q at size b)
    unfolding weigh_end ended
    end_stops n q at size b h =
        stops_either k
        (eqb q Kind.parallel && (eqb (state w (node 4 w n)) at_end && eqb (state w (node 5 w n)) at_end)) _ _
        (settled_stops k _ b h) tt

    pub reference_stops : (left n t bound at size : ℕ) → at ≤ k
        → Stops k (at_reference p x count ds w g arcs left n t bound at size)
    unfolding at_reference
    reference_stops zero n t bound at size h = tt
    reference_stops (suc left) n t bound at size h =
        stops_either k (eqb n 0) _ _ (entering_stops k _ 0 (term_stops levels t false at 1 h))
        (stops_either k (eqb (state w n) resting) _ _ (term_stops levels (term w n) _ at size h)
        (stops_either k (not (eqb (state w n) entered)) _ _ tt
        (stops_by k (eqb (digit_at ds count at) 4) _ _
        (λ e.
        let is = eqb-true (digit_at ds count at) 4 e in
        end_stops n (kind p (term w n)) at size _ (next_stops at (in_front at h (omega arith) (omega arith))))
        (digit_stops at (term w n) _ _ size _ _ _ h
        (λ e. reference_stops left _ _ _ (capped (at + 1)) _ (next_stops at e))
        (λ from e. reference_stops left (node 5 w n) (second p (term w n)) _ from _ e)))))
