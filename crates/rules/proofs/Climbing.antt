-- Arcs climb: in every run each arc goes from a reference to a larger one that has been drawn, and each
-- reference that has been drawn, all but 0, has an arc into it. So a track has no cycle, and is reached from 0
-- whole. By the derivation, rule by rule; for a run, by its accepted steps. Assumes nothing.
use Rattle.std.proofs.Common.{ℕ, suc, ◌≤◌, ◌<◌, ◌≡◌, refl, sym, subst, Bool, true, false, List, [], ◌∷◌, ◌++◌}
use Rattle.std.proofs.Common.{append_assoc, inl, inr, arith, ltb, ltb-true, ltb-false}
use Rattle.std.proofs.Math.Option.{Option, none, some}
use Rattle.lines.specs.Line.{choose}
use Rattle.terms.specs.Term.{Term}
use Rattle.places.specs.Place.{Place}
use Rattle.rules.specs.Process.{Address, Process}
use Rattle.rules.specs.Track.{Pair, pair, At, Outcome, labelled, prefixed, first_eval, around, beside}
use Rattle.rules.specs.Track.{right_eval, jointly, carried, started, leads, parents, ended}
use Rattle.rules.specs.Tracking.{Tracks, process_call, prefixing, skip, stop, internal_choice_1}
use Rattle.rules.specs.Tracking.{internal_choice_2, external_choice_1, external_choice_2}
use Rattle.rules.specs.Tracking.{external_choice_3, external_choice_4, sequential_composition_1}
use Rattle.rules.specs.Tracking.{sequential_composition_2, synchronized_parallelism_1}
use Rattle.rules.specs.Tracking.{synchronized_parallelism_2, synchronized_parallelism_3}
use Rattle.rules.specs.Tracking.{synchronized_parallelism_4}
use Rattle.rules.specs.Run.{State, stands, after, Reached, begun, goes_on}
use Rattle.rules.proofs.Answered.{accepted_exactly}
use Rattle.rules.proofs.Drawn.{Into, into_before, into_behind, Side, Rooted, side_more, rooted_more}
use Rattle.rules.proofs.Drawn.{found, reached_kept}

-- each arc goes to a larger reference, below f
abbrev pub Up : ℕ → List Pair → Type 0
Up f [] = Unit {0}
Up f (a ∷ g) = (a.from < a.to) × (a.to < f) × Up f g

-- so they do below more, and one behind the other
pub up_more : (f f' : ℕ) (g : List Pair) → f ≤ f' → Up f g → Up f' g
up_more f f' [] l u = tt
up_more f f' (a ∷ g) l u = (u.0, omega (arith, l, u.1), up_more f f' g l u.2)

pub up_append : (f : ℕ) (g h : List Pair) → Up f g → Up f h → Up f (g ++ h)
up_append f [] h u v = v
up_append f (a ∷ g) h u v = (u.0, u.1, up_append f g h u.2 v)

-- what has an arc into it is below, too
pub into_below : (f n : ℕ) (g : List Pair) → Up f g → Into g n → n < f
into_below f n [] u i = absurd i
into_below f n (a ∷ g) u (inl e) = omega (arith, u.1, e)
into_below f n (a ∷ g) u (inr i) = into_below f n g u.2 i

-- each reference from a on and below b has an arc into it
abbrev pub Covers : ℕ → ℕ → List Pair → Type 0
Covers a b g = (n : ℕ) → a ≤ n → n < b → Into g n

covers_append : (a b c : ℕ) (g h : List Pair) → Covers a b g → Covers b c h → Covers a c (g ++ h)
covers_append a b c g h u v n l k = go (ltb n b) refl
  where
    go : (t : Bool) → ltb n b ≡ t → Into (g ++ h) n
    go true e = into_before g h n (u n l (ltb-true n b e))
    go false e = into_behind g h n (v n (ltb-false n b e) k)

-- arcs made while the next fresh reference goes from f to f', and m the reference behind them
pub record Climb (f m f' : ℕ) (g : List Pair) : Type 0 where
  pub more : f ≤ f'
  pub stands : m < f'
  pub up : Up f' g
  pub covers : Covers f f' g

one_arc : (m f : ℕ) → m < f → Climb f f (suc f) (pair m f ∷ [])
one_arc m f l = record {
  more = omega arith;
  stands = omega arith;
  up = (l, omega arith, tt);
  covers = λ n a b. inl (omega arith);
}

joins : (f m f₁ m' f₂ : ℕ) (g h : List Pair) → Climb f m f₁ g → Climb f₁ m' f₂ h → Climb f m' f₂ (g ++ h)
joins f m f₁ m' f₂ g h c d = record {
  more = omega (arith, c.more, d.more);
  stands = d.stands;
  up = up_append f₂ g h (up_more f₁ f₂ g d.more c.up) d.up;
  covers = covers_append f f₁ f₂ g h c.covers d.covers;
}

-- the operator stands where it stood
back : (f m f' m' : ℕ) (g : List Pair) → m' < f → Climb f m f' g → Climb f m' f' g
back f m f' m' g l c = record {
  more = c.more;
  stands = omega (arith, l, c.more);
  up = c.up;
  covers = c.covers;
}

inside_up : (f m f' : ℕ) (g h : List Pair) → Up f g → Climb f m f' h → Up f' (g ++ h)
inside_up f m f' g h u c = up_append f' g h (up_more f f' g c.more u) c.up

-- entering a side
entered : (own other : Option ℕ) (w : Place) (s : At) (P : Process) → Side s.arcs own P → Up s.fresh s.arcs
    → s.reference < s.fresh
    → Climb s.fresh (first_eval own other w s).reference (first_eval own other w s).fresh
    (first_eval own other w s).arcs
unfolding first_eval
entered (some n) other w s P h u l = record {
  more = omega arith;
  stands = into_below s.fresh n s.arcs u h;
  up = tt;
  covers = λ k a b. absurd (omega arith);
}
entered none (some o) w s P h u l = one_arc s.reference s.fresh l
entered none none w s P h u l = one_arc s.reference s.fresh l

-- a side's step with its entering: what the side makes of where it stands then, `inner`, is told of the whole
side_climb : (own other : Option ℕ) (w : Place) (s : At) (P : Process) (r : Outcome) → Side s.arcs own P
    → Rooted s.arcs P → Up s.fresh s.arcs → s.reference < s.fresh
    → (Rooted (s.arcs ++ (first_eval own other w s).arcs) P
    → Up (first_eval own other w s).fresh (s.arcs ++ (first_eval own other w s).arcs)
    → (first_eval own other w s).reference < (first_eval own other w s).fresh
    → Climb (first_eval own other w s).fresh r.reference r.fresh r.arcs)
    → Climb s.fresh r.reference r.fresh ((first_eval own other w s).arcs ++ r.arcs)
side_climb own other w s P r h g u l inner =
    let i = first_eval own other w s in
    let o = entered own other w s P h u l in
    let up = inside_up s.fresh i.reference i.fresh s.arcs i.arcs u o in
    joins s.fresh i.reference i.fresh r.reference r.fresh i.arcs r.arcs o
    (inner (rooted_more s.arcs i.arcs P g) up o.stands)

-- the parents of ended sides
pub parents_up : (m n : Option ℕ) (f : ℕ) (g : List Pair) → Up f g → Up (suc f) (parents m n f g)
unfolding parents
parents_up m n f [] u = tt
parents_up m n f (a ∷ g) u = go (parents_up m n f g u.2) (leads m a.to) (leads n a.to)
  where
    go : Up (suc f) (parents m n f g) → (b c : Bool)
        → Up (suc f) (choose b (pair a.from f ∷ parents m n f g)
        (choose c (pair a.from f ∷ parents m n f g) (parents m n f g)))
    go h true c = (omega (arith, u.0, u.1), omega arith, h)
    go h false true = (omega (arith, u.0, u.1), omega arith, h)
    go h false false = h

of_ended : (m : ℕ) (n : Option ℕ) (s : At) → Into s.arcs m → Up s.fresh s.arcs
    → Climb s.fresh s.fresh (suc s.fresh) (parents (some m) n s.fresh s.arcs)
of_ended m n s i u = record {
  more = omega arith;
  stands = omega arith;
  up = parents_up (some m) n s.fresh s.arcs u;
  covers = λ k a b.
      let here : s.fresh ≡ k = omega arith in
      subst (Into (parents (some m) n s.fresh s.arcs)) here (found n m s.fresh s.arcs i);
}

module _ (ts : List Term) where
  -- each rule climbs
  pub climbs : {a : Address} {P : Process} {s : At} {r : Outcome} → Tracks ts a P s r → Rooted s.arcs P
      → Up s.fresh s.arcs → s.reference < s.fresh → Climb s.fresh r.reference r.fresh r.arcs
  unfolding labelled prefixed around jointly carried started ended
  climbs (process_call {s = s}) h u l = one_arc s.reference s.fresh l
  climbs (prefixing {s = s}) h u l =
      joins s.fresh s.fresh (suc s.fresh) (suc s.fresh) (suc (suc s.fresh))
      (pair s.reference s.fresh ∷ []) (pair s.fresh (suc s.fresh) ∷ [])
      (one_arc s.reference s.fresh l) (one_arc s.fresh (suc s.fresh) (omega arith))
  climbs (skip {s = s}) h u l = one_arc s.reference s.fresh l
  climbs (stop {s = s}) h u l = one_arc s.reference s.fresh l
  climbs (internal_choice_1 {s = s}) h u l = one_arc s.reference s.fresh l
  climbs (internal_choice_2 {s = s}) h u l = one_arc s.reference s.fresh l
  climbs (external_choice_1 {w = w} {n₁ = m} {n₂ = n} {P = P} {s = s} {r = r} d e) h u l =
      back s.fresh r.reference r.fresh s.reference ((first_eval m n w s).arcs ++ r.arcs) l
      (side_climb m n w s P r h.0 h.2 u l (λ g v k. climbs d g v k))
  climbs (external_choice_2 {w = w} {n₁ = m} {n₂ = n} {Q = Q} {s = s} {r = r} d e) h u l =
      back s.fresh r.reference r.fresh s.reference ((first_eval n m w s).arcs ++ r.arcs) l
      (side_climb n m w s Q r h.1 h.3 u l (λ g v k. climbs d g v k))
  climbs (external_choice_3 {w = w} {n₁ = m} {n₂ = n} {P = P} {s = s} {r = r} d v) h u l =
      side_climb m n w s P r h.0 h.2 u l (λ g v k. climbs d g v k)
  climbs (external_choice_4 {w = w} {n₁ = m} {n₂ = n} {Q = Q} {s = s} {r = r} d v) h u l =
      side_climb n m w s Q r h.1 h.3 u l (λ g v k. climbs d g v k)
  climbs (sequential_composition_1 d n) h u l = climbs d h.0 u l
  climbs (sequential_composition_2 {s = s} {r = r} d e) h u l =
      let c = climbs d h.0 u l in
      joins s.fresh r.reference r.fresh r.fresh (suc r.fresh) r.arcs
      (pair r.reference r.fresh ∷ []) c (one_arc r.reference r.fresh c.stands)
  climbs (synchronized_parallelism_1 {w = w} {n₁ = m} {n₂ = n} {P = P} {s = s} {r = r} d e) h u l =
      back s.fresh r.reference r.fresh s.reference ((first_eval m n w s).arcs ++ r.arcs) l
      (side_climb m n w s P r h.0 h.2 u l (λ g v k. climbs d g v k))
  climbs (synchronized_parallelism_2 {w = w} {n₁ = m} {n₂ = n} {Q = Q} {s = s} {r = r} d e) h u l =
      back s.fresh r.reference r.fresh s.reference ((first_eval n m w s).arcs ++ r.arcs) l
      (side_climb n m w s Q r h.1 h.3 u l (λ g v k. climbs d g v k))
  climbs (synchronized_parallelism_3 {w = w} {n₁ = m} {n₂ = n} {P = P} {Q = Q} {s = s} {l = l} {r = r}
      d d' e e' c p) h u below =
      let i = first_eval m n w s in
      let j = right_eval m n w s l in
      let left = side_climb m n w s P l h.0 h.2 u below (λ g v k. climbs d g v k) in
      let around_left = append_assoc s.arcs i.arcs l.arcs in
      let up : Up l.fresh ((s.arcs ++ i.arcs) ++ l.arcs) =
      subst (Up l.fresh) (sym around_left)
      (inside_up s.fresh l.reference l.fresh s.arcs (i.arcs ++ l.arcs) u left) in
      let begun_right = side_more (s.arcs ++ i.arcs) l.arcs n Q (side_more s.arcs i.arcs n Q h.1) in
      let over = rooted_more (s.arcs ++ i.arcs) l.arcs Q (rooted_more s.arcs i.arcs Q h.3) in
      let still : s.reference < l.fresh = omega (arith, below, left.more) in
      let right = side_climb n (some i.reference) w (beside s i l) Q r begun_right over up still
      (λ g v k. climbs d' g v k) in
      back s.fresh r.reference r.fresh s.reference
      ((i.arcs ++ l.arcs) ++ (j.arcs ++ r.arcs)) below
      (joins s.fresh l.reference l.fresh r.reference r.fresh (i.arcs ++ l.arcs) (j.arcs ++ r.arcs)
      left right)
  climbs (synchronized_parallelism_4 {n₁ = none} p p') h u l = absurd (h.0 p)
  climbs (synchronized_parallelism_4 {n₁ = some m} {n₂ = n} {s = s} p p') h u l = of_ended m n s h.0 u

  -- what every run keeps
  pub record Climbed (s : State) : Type 0 where
    pub standing : s.reference < s.fresh
    pub up : Up s.fresh s.arcs
    pub covers : Covers 1 s.fresh s.arcs

  climbed_after : (s : State) (a : Address) (r : Outcome) → Tracks ts a s.process (stands s) r
      → Rooted s.arcs s.process → Climbed s → Climbed (after s r)
  unfolding after
  climbed_after s a r d g k =
      let c = climbs d g k.up k.standing in
      record {
        standing = c.stands;
        up = inside_up s.fresh r.reference r.fresh s.arcs r.arcs k.up c;
        covers = covers_append 1 s.fresh r.fresh s.arcs r.arcs k.covers c.covers;
      }

  pub reached_climbed : {s : State} → Reached ts s → Climbed s
  reached_climbed begun =
      record { standing = omega arith; up = tt; covers = λ n a b. absurd (omega arith) }
  reached_climbed (goes_on {s = s} {t = t} a e p h) =
      let d = (accepted_exactly ts s a e t).0 h in
      subst Climbed d.3 (climbed_after s a d.0 d.1 (reached_kept ts p).rooted (reached_climbed p))
