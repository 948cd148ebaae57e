-- The ends of arcs: where both ends of every arc have been drawn, entering a side keeps it so; and what a step
-- adds leads to references that it has drawn, whatever it steps. The first is all that an exchange asks of the
-- arcs that there are: they may go down, and round. By the derivation, rule by rule. Assumes nothing.
use Rattle.std.proofs.Common.{ℕ, suc, ◌≤◌, ◌<◌, refl, sym, subst, Bool, true, false, List, [], ◌∷◌, ◌++◌}
use Rattle.std.proofs.Common.{append-nil, arith}
use Rattle.std.proofs.Math.Option.{Option, none, some}
use Rattle.lines.specs.Line.{choose}
use Rattle.terms.specs.Term.{Term}
use Rattle.places.specs.Place.{Place}
use Rattle.rules.specs.Process.{Address, Process}
use Rattle.rules.specs.Track.{Pair, pair, At, Outcome, labelled, prefixed, first_eval, around, beside}
use Rattle.rules.specs.Track.{right_eval, jointly, carried, started, leads, parents, ended}
use Rattle.rules.specs.Tracking.{Tracks, process_call, prefixing, skip, stop, internal_choice_1}
use Rattle.rules.specs.Tracking.{internal_choice_2, external_choice_1, external_choice_2, external_choice_3}
use Rattle.rules.specs.Tracking.{external_choice_4, sequential_composition_1, sequential_composition_2}
use Rattle.rules.specs.Tracking.{synchronized_parallelism_1, synchronized_parallelism_2}
use Rattle.rules.specs.Tracking.{synchronized_parallelism_3, synchronized_parallelism_4}
use Rattle.rules.proofs.Outward.{draws, entering_draws}
use Rattle.rules.proofs.Climbing.{Up}
use Rattle.rules.proofs.Marked.{one_same}
use Rattle.rules.proofs.Meetings.{times}

-- both ends of each pair are below f
abbrev pub Ends : ℕ → List Pair → Type 0
Ends f [] = Unit {0}
Ends f (a ∷ g) = (a.from < f) × (a.to < f) × Ends f g

-- so they are where arcs climb
pub up_ends : (f : ℕ) (g : List Pair) → Up f g → Ends f g
up_ends f [] u = tt
up_ends f (a ∷ g) u = (omega (arith, u.0, u.1), u.1, up_ends f g u.2)

-- and where they are for each that counts
pub counted_ends : (f : ℕ) (g : List Pair) → ((i j : ℕ) → 1 ≤ times i j g → (i < f) × (j < f)) → Ends f g
unfolding times
counted_ends f [] h = tt
counted_ends f (a ∷ g) h =
    let (low, low') = h a.from a.to
    (rw (one_same a.from a.from refl, one_same a.to a.to refl) (omega arith)) in
    (low, low', counted_ends f g (λ i j l. h i j (omega (arith, l))))

-- entering a side
ends_on : (m f : ℕ) (g : List Pair) → m < f → Ends f g → Ends (suc f) (g ++ (pair m f ∷ []))
ends_on m f [] l u = (omega (arith, l), omega arith, tt)
ends_on m f (a ∷ g) l u = (omega (arith, u.0), omega (arith, u.1), ends_on m f g l u.2)

pub entered_ends : (own other : Option ℕ) (w : Place) (s : At) → s.reference < s.fresh
    → Ends s.fresh s.arcs
    → Ends (first_eval own other w s).fresh (s.arcs ++ (first_eval own other w s).arcs)
unfolding first_eval
entered_ends (some n) other w s l u = subst (Ends s.fresh) (sym (append-nil s.arcs)) u
entered_ends none (some o) w s l u = ends_on s.reference s.fresh s.arcs l u
entered_ends none none w s l u = ends_on s.reference s.fresh s.arcs l u

-- every arc leads to a reference before f
abbrev pub Before : ℕ → List Pair → Type 0
Before f [] = Unit {0}
Before f (a ∷ g) = (a.to < f) × Before f g

before_on : (f f' : ℕ) (g h : List Pair) → f ≤ f' → Before f g → Before f' h → Before f' (g ++ h)
before_on f f' [] h l u v = v
before_on f f' (a ∷ g) h l u v = (omega (arith, l, u.0), before_on f f' g h l u.1 v)

-- a side's step with its entering
entering_before : (own other : Option ℕ) (w : Place) (s : At)
    → Before (first_eval own other w s).fresh (first_eval own other w s).arcs
unfolding first_eval
entering_before (some n) other w s = tt
entering_before none (some o) w s = (omega arith, tt)
entering_before none none w s = (omega arith, tt)

side_before : (own other : Option ℕ) (w : Place) (s : At) (r : Outcome)
    → (first_eval own other w s).fresh ≤ r.fresh → Before r.fresh r.arcs
    → Before r.fresh ((first_eval own other w s).arcs ++ r.arcs)
side_before own other w s r l u =
    before_on (first_eval own other w s).fresh r.fresh (first_eval own other w s).arcs r.arcs l
    (entering_before own other w s) u

-- the arcs of ended sides' parents
parents_before : (m n : Option ℕ) (f : ℕ) (g : List Pair) → Before (suc f) (parents m n f g)
unfolding parents
parents_before m n f [] = tt
parents_before m n f (a ∷ g) = go (parents_before m n f g) (leads m a.to) (leads n a.to)
  where
    go : Before (suc f) (parents m n f g) → (b c : Bool)
        → Before (suc f) (choose b (pair a.from f ∷ parents m n f g)
        (choose c (pair a.from f ∷ parents m n f g) (parents m n f g)))
    go h true c = (omega arith, h)
    go h false true = (omega arith, h)
    go h false false = h

-- each rule's arcs lead to what is drawn by then
pub draws_before : (ts : List Term) {a : Address} {P : Process} {s : At} {r : Outcome} → Tracks ts a P s r
    → Before r.fresh r.arcs
unfolding labelled prefixed around jointly carried started ended
draws_before ts process_call = (omega arith, tt)
draws_before ts prefixing = (omega arith, (omega arith, tt))
draws_before ts skip = (omega arith, tt)
draws_before ts stop = (omega arith, tt)
draws_before ts internal_choice_1 = (omega arith, tt)
draws_before ts internal_choice_2 = (omega arith, tt)
draws_before ts (external_choice_1 {w = w} {n₁ = m} {n₂ = n} {s = s} {r = r} d e) =
    side_before m n w s r (draws ts d).more (draws_before ts d)
draws_before ts (external_choice_2 {w = w} {n₁ = m} {n₂ = n} {s = s} {r = r} d e) =
    side_before n m w s r (draws ts d).more (draws_before ts d)
draws_before ts (external_choice_3 {w = w} {n₁ = m} {n₂ = n} {s = s} {r = r} d v) =
    side_before m n w s r (draws ts d).more (draws_before ts d)
draws_before ts (external_choice_4 {w = w} {n₁ = m} {n₂ = n} {s = s} {r = r} d v) =
    side_before n m w s r (draws ts d).more (draws_before ts d)
draws_before ts (sequential_composition_1 d n) = draws_before ts d
draws_before ts (sequential_composition_2 {s = s} {r = r} d e) =
    before_on r.fresh (suc r.fresh) r.arcs (pair r.reference r.fresh ∷ []) (omega arith)
    (draws_before ts d) (omega arith, tt)
draws_before ts (synchronized_parallelism_1 {w = w} {n₁ = m} {n₂ = n} {s = s} {r = r} d e) =
    side_before m n w s r (draws ts d).more (draws_before ts d)
draws_before ts (synchronized_parallelism_2 {w = w} {n₁ = m} {n₂ = n} {s = s} {r = r} d e) =
    side_before n m w s r (draws ts d).more (draws_before ts d)
draws_before ts (synchronized_parallelism_3 {w = w} {n₁ = m} {n₂ = n} {s = s} {l = l} {r = r} d d' e e' c p) =
    let i = first_eval m n w s in
    let j = right_eval m n w s l in
    let begun : l.fresh ≤ j.fresh = (entering_draws n (some i.reference) w (beside s i l)).more in
    let more : j.fresh ≤ r.fresh = (draws ts d').more in
    before_on l.fresh r.fresh (i.arcs ++ l.arcs) (j.arcs ++ r.arcs) (omega (arith, begun, more))
    (side_before m n w s l (draws ts d).more (draws_before ts d))
    (side_before n (some i.reference) w (beside s i l) r more (draws_before ts d'))
draws_before ts (synchronized_parallelism_4 {n₁ = m} {n₂ = n} {s = s} p p') =
    parents_before m n s.fresh s.arcs
