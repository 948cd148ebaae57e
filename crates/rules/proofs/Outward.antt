-- A step draws outward: the arcs that it adds lead to references from the next fresh one on, and never back into
-- what is drawn already. By the derivation, rule by rule. Assumes nothing.
use Rattle.std.proofs.Common.{ℕ, suc, ◌≤◌, List, [], ◌∷◌, ◌++◌, Bool, true, false, arith}
use Rattle.std.proofs.Math.Option.{Option, none, some}
use Rattle.lines.specs.Line.{choose}
use Rattle.terms.specs.Term.{Term}
use Rattle.places.specs.Place.{Place}
use Rattle.rules.specs.Process.{Address, Process}
use Rattle.rules.specs.Track.{Pair, pair, At, Outcome, labelled, prefixed, first_eval, around, beside}
use Rattle.rules.specs.Track.{right_eval, jointly, carried, started, leads, parents, ended}
use Rattle.rules.specs.Tracking.{Tracks, process_call, prefixing, skip, stop, internal_choice_1}
use Rattle.rules.specs.Tracking.{internal_choice_2, external_choice_1, external_choice_2}
use Rattle.rules.specs.Tracking.{external_choice_3, external_choice_4, sequential_composition_1}
use Rattle.rules.specs.Tracking.{sequential_composition_2, synchronized_parallelism_1}
use Rattle.rules.specs.Tracking.{synchronized_parallelism_2, synchronized_parallelism_3}
use Rattle.rules.specs.Tracking.{synchronized_parallelism_4}

-- every arc leads to f, or to a reference behind it
abbrev pub Outward : ℕ → List Pair → Type 0
Outward f [] = Unit {0}
Outward f (a ∷ g) = (f ≤ a.to) × Outward f g

pub outward_less : (f f' : ℕ) (g : List Pair) → f ≤ f' → Outward f' g → Outward f g
outward_less f f' [] l o = tt
outward_less f f' (a ∷ g) l o = (omega (arith, o.0), outward_less f f' g l o.1)

pub outward_append : (f : ℕ) (g h : List Pair) → Outward f g → Outward f h → Outward f (g ++ h)
outward_append f [] h o q = q
outward_append f (a ∷ g) h o q = (o.0, outward_append f g h o.1 q)

-- arcs that are drawn while the next fresh reference goes from f to f'
pub record Draws (f f' : ℕ) (g : List Pair) : Type 0 where
  pub more : f ≤ f'
  pub outward : Outward f g

one_arc : (m f : ℕ) → Draws f (suc f) (pair m f ∷ [])
one_arc m f = record { more = omega arith; outward = (omega arith, tt) }

pub draws_on : (f f₁ f₂ : ℕ) (g h : List Pair) → Draws f f₁ g → Draws f₁ f₂ h → Draws f f₂ (g ++ h)
draws_on f f₁ f₂ g h c d = record {
  more = omega (arith, c.more, d.more);
  outward = outward_append f g h c.outward (outward_less f f₁ h c.more d.outward);
}

-- entering a side
pub entering_draws : (own other : Option ℕ) (w : Place) (s : At)
    → Draws s.fresh (first_eval own other w s).fresh (first_eval own other w s).arcs
unfolding first_eval
entering_draws (some n) other w s = record { more = omega arith; outward = tt }
entering_draws none (some o) w s = one_arc s.reference s.fresh
entering_draws none none w s = one_arc s.reference s.fresh

side_draws : (own other : Option ℕ) (w : Place) (s : At) (r : Outcome)
    → Draws (first_eval own other w s).fresh r.fresh r.arcs
    → Draws s.fresh r.fresh ((first_eval own other w s).arcs ++ r.arcs)
side_draws own other w s r d =
    draws_on s.fresh (first_eval own other w s).fresh r.fresh (first_eval own other w s).arcs r.arcs
    (entering_draws own other w s) d

-- the arcs of ended sides' parents
parents_outward : (m n : Option ℕ) (f : ℕ) (g : List Pair) → Outward f (parents m n f g)
unfolding parents
parents_outward m n f [] = tt
parents_outward m n f (a ∷ g) = go (parents_outward m n f g) (leads m a.to) (leads n a.to)
  where
    go : Outward f (parents m n f g) → (b c : Bool)
        → Outward f (choose b (pair a.from f ∷ parents m n f g)
        (choose c (pair a.from f ∷ parents m n f g) (parents m n f g)))
    go h true c = (omega arith, h)
    go h false true = (omega arith, h)
    go h false false = h

-- each rule draws outward
pub draws : (ts : List Term) {a : Address} {P : Process} {s : At} {r : Outcome} → Tracks ts a P s r
    → Draws s.fresh r.fresh r.arcs
unfolding labelled prefixed around jointly carried started ended
draws ts (process_call {s = s}) = one_arc s.reference s.fresh
draws ts (prefixing {s = s}) =
    draws_on s.fresh (suc s.fresh) (suc (suc s.fresh)) (pair s.reference s.fresh ∷ [])
    (pair s.fresh (suc s.fresh) ∷ []) (one_arc s.reference s.fresh)
    (one_arc s.fresh (suc s.fresh))
draws ts (skip {s = s}) = one_arc s.reference s.fresh
draws ts (stop {s = s}) = one_arc s.reference s.fresh
draws ts (internal_choice_1 {s = s}) = one_arc s.reference s.fresh
draws ts (internal_choice_2 {s = s}) = one_arc s.reference s.fresh
draws ts (external_choice_1 {w = w} {n₁ = m} {n₂ = n} {s = s} {r = r} d e) = side_draws m n w s r (draws ts d)
draws ts (external_choice_2 {w = w} {n₁ = m} {n₂ = n} {s = s} {r = r} d e) = side_draws n m w s r (draws ts d)
draws ts (external_choice_3 {w = w} {n₁ = m} {n₂ = n} {s = s} {r = r} d v) = side_draws m n w s r (draws ts d)
draws ts (external_choice_4 {w = w} {n₁ = m} {n₂ = n} {s = s} {r = r} d v) = side_draws n m w s r (draws ts d)
draws ts (sequential_composition_1 d n) = draws ts d
draws ts (sequential_composition_2 {s = s} {r = r} d e) =
    draws_on s.fresh r.fresh (suc r.fresh) r.arcs (pair r.reference r.fresh ∷ []) (draws ts d)
    (one_arc r.reference r.fresh)
draws ts (synchronized_parallelism_1 {w = w} {n₁ = m} {n₂ = n} {s = s} {r = r} d e) =
    side_draws m n w s r (draws ts d)
draws ts (synchronized_parallelism_2 {w = w} {n₁ = m} {n₂ = n} {s = s} {r = r} d e) =
    side_draws n m w s r (draws ts d)
draws ts (synchronized_parallelism_3 {w = w} {n₁ = m} {n₂ = n} {s = s} {l = l} {r = r} d d' e e' c p) =
    let i = first_eval m n w s in
    let j = right_eval m n w s l in
    draws_on s.fresh l.fresh r.fresh (i.arcs ++ l.arcs) (j.arcs ++ r.arcs)
    (side_draws m n w s l (draws ts d))
    (side_draws n (some i.reference) w (beside s i l) r (draws ts d'))
draws ts (synchronized_parallelism_4 {n₁ = m} {n₂ = n} {s = s} p p') =
    record { more = omega arith; outward = parents_outward m n s.fresh s.arcs }
