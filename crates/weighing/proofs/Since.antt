-- The arcs of a run, and those that a step has added on its way. Those lead to fresh references, so that the
-- references which a process holds from before have their parents among the run's arcs alone, and the words of
-- the run count them. Assumes nothing.
use Rattle.std.proofs.Common.{ℕ, zero, suc, ◌+◌, ◌*◌, ◌≤◌, ◌<◌, ◌≡◌, refl, sym, ap, ◌∙◌, Bool, true, false}
use Rattle.std.proofs.Common.{◌||◌, List, [], ◌∷◌, ◌++◌, append-nil, append_assoc, arith, length, eqb, ltb}
use Rattle.std.proofs.Common.{ne_eqb, eq-eqb, ltb-true, lt-ltb, eqb-true}
use Rattle.std.proofs.lemmas.Bool.{eqb-false}
use Rattle.std.proofs.Math.Option.{Option, none, some}
use Rattle.lines.specs.Line.{choose}
use Rattle.places.specs.Place.{Place}
use Rattle.terms.specs.Term.{Term}
use Rattle.rules.specs.Process.{Address, Process, leaf, prefix, internal, split, sequence, Ω, ⊥'}
use Rattle.rules.specs.Track.{Pair, pair, At, first_eval, inside, beside, leads, parents}
use Rattle.rules.specs.Step.{Stepped, step}
use Rattle.rules.proofs.Derived.{step_derived}
use Rattle.rules.proofs.Drawn.{Side, Rooted}
use Rattle.rules.proofs.Climbing.{Up, into_below}
use Rattle.rules.proofs.Outward.{Outward, outward_less, outward_append, entering_draws, draws}
use Rattle.control.specs.words.Words.{track_word}
use Rattle.looking.specs.code.Looking as Looking

-- every reference that a process holds is below f
abbrev pub Under : ℕ → Option ℕ → Type 0
Under f none = Unit {0}
Under f (some n) = n < f

abbrev pub Below : ℕ → Process → Type 0
Below f (leaf v l) = Unit {0}
Below f (prefix v e P) = Unit {0}
Below f (internal v P Q) = Unit {0}
Below f (split v k m n P Q) = Under f m × Under f n × Below f P × Below f Q
Below f (sequence v b P Q) = Below f P
Below f Ω = Unit {0}
Below f ⊥' = Unit {0}

-- so they are in every run
side_under : (f : ℕ) (g : List Pair) (m : Option ℕ) (P : Process) → Up f g → Side g m P → Under f m
side_under f g none P u h = tt
side_under f g (some n) P u h = into_below f n g u h

pub rooted_below : (f : ℕ) (g : List Pair) (P : Process) → Up f g → Rooted g P → Below f P
rooted_below f g (leaf v l) u r = tt
rooted_below f g (prefix v e P) u r = tt
rooted_below f g (internal v P Q) u r = tt
rooted_below f g (split v k m n P Q) u r = (
  side_under f g m P u r.0,
  side_under f g n Q u r.1,
  rooted_below f g P u r.2,
  rooted_below f g Q u r.3,
)
rooted_below f g (sequence v b P Q) u r = rooted_below f g P u r.0
rooted_below f g Ω u r = tt
rooted_below f g ⊥' u r = tt

-- the arcs of a run, and behind them arcs that lead to f and further
pub record Since (base : List Pair) (f : ℕ) (s : At) : Type 0 where
  pub extra : List Pair
  pub is : s.arcs ≡ base ++ extra
  pub outward : Outward f extra
  pub fresh : f ≤ s.fresh

-- before a step nothing is added
pub since_start : (s : At) → Since s.arcs s.fresh s
since_start s = record { extra = []; is = sym (append-nil s.arcs); outward = tt; fresh = omega arith }

module _ (base : List Pair) (f : ℕ) where
  -- a step on its way: arcs that it has added, a side entered, and the operator again behind its left
  since_more : (s : At) (f' m : ℕ) (g : List Pair) → s.fresh ≤ f' → Outward s.fresh g → Since base f s
      → Since base f (record { reference = m; fresh = f'; arcs = s.arcs ++ g })
  since_more s f' m g l o h = record {
    extra = h.extra ++ g;
    is = ap (λ z. z ++ g) h.is ∙ append_assoc base h.extra g;
    outward = outward_append f h.extra g h.outward (outward_less f s.fresh g h.fresh o);
    fresh = omega (arith, h.fresh);
  }

  pub since_inside : (own other : Option ℕ) (v : Place) (s : At) → Since base f s
      → Since base f (inside (first_eval own other v s) s)
  since_inside own other v s h =
      let d = entering_draws own other v s in
      since_more s _ _ (first_eval own other v s).arcs d.more d.outward h

  pub since_beside : (ts : List Term) (own other : Option ℕ) (v : Place) (s : At) (P : Process) (a : Address)
      (y : Stepped) → step ts P (inside (first_eval own other v s) s) a ≡ some y → Since base f s
      → Since base f (beside s (first_eval own other v s) y.outcome)
  since_beside ts own other v s P a y e h =
      let (b, q, d) = step_derived ts P (inside (first_eval own other v s) s) a y e in
      let c = draws ts d in
      since_more (inside (first_eval own other v s) s) _ _ y.outcome.arcs c.more c.outward
      (since_inside own other v s h)

-- arcs that lead elsewhere make no parents
parents_none : (f i j k : ℕ) (g : List Pair) → i < f → j < f → Outward f g → parents (some i) (some j) k g ≡ []
unfolding parents leads
parents_none f i j k [] hi hj o = refl
parents_none f i j k (a ∷ g) hi hj o =
    let far : f ≤ a.to = o.0 in
    rw (
      ne_eqb i a.to (λ e. omega arith),
      ne_eqb j a.to (λ e. omega arith),
      parents_none f i j k g hi hj o.1,
    )

pub parents_since : (f i j k : ℕ) (g h : List Pair) → i < f → j < f → Outward f h
    → parents (some i) (some j) k (g ++ h) ≡ parents (some i) (some j) k g
unfolding parents
parents_since f i j k [] h hi hj o = parents_none f i j k h hi hj o
parents_since f i j k (a ∷ g) h hi hj o = rw (parents_since f i j k g h hi hj o)

-- no more are counted than there is room for
pub counted_few : (g : List ℕ) (a b i n : ℕ) → i ≤ 8192 → i + Looking.parents g a b i n ≤ 8192
unfolding Looking.parents
counted_few g a b i zero l = omega arith
counted_few g a b i (suc n) l =
    go (ltb i 8192) (Looking.leads (track_word g (2 * i + 1)) a b) refl (counted_few g a b (suc i) n)
  where
    go : (c d : Bool) → ltb i 8192 ≡ c
        → (suc i ≤ 8192 → suc i + Looking.parents g a b (suc i) n ≤ 8192)
        → i + choose c (choose d 1 0 + Looking.parents g a b (suc i) n) 0 ≤ 8192
    go true true e h = let k = h (ltb-true i 8192 e) in omega arith
    go true false e h = let k = h (ltb-true i 8192 e) in omega arith
    go false d e h = omega arith

-- words that hold where each arc leads to count the parents
abbrev pub Leads : List ℕ → ℕ → List Pair → Type 0
Leads g i [] = Unit {0}
Leads g i (a ∷ as') = (track_word g (2 * i + 1) ≡ a.to) × Leads g (suc i) as'

eqb_sym : (a b : ℕ) → eqb a b ≡ eqb b a
eqb_sym a b = go (eqb b a) refl
  where
    go : (t : Bool) → eqb b a ≡ t → eqb a b ≡ t
    go true e = eq-eqb a b (sym (eqb-true b a e))
    go false e = ne_eqb a b (λ h. eqb-false b a e (sym h))

counted_from : (g : List ℕ) (m n k i : ℕ) (as' : List Pair) → i + length as' ≤ 8192 → Leads g i as'
    → length (parents (some m) (some n) k as') ≡ Looking.parents g m n i (length as')
unfolding parents leads Looking.parents Looking.leads
counted_from g m n k i [] few h = refl
counted_from g m n k i (a ∷ as') few h =
    let more = counted_from g m n k (suc i) as' (omega arith) h.1 in
    rw (lt-ltb i 8192 (omega arith), h.0, eqb_sym a.to m, eqb_sym a.to n)
    (go (parents (some m) (some n) k as') _ more (eqb m a.to) (eqb n a.to))
  where
    go : (ps : List Pair) (c : ℕ) → length ps ≡ c → (b d : Bool)
        → length (choose b (pair a.from k ∷ ps) (choose d (pair a.from k ∷ ps) ps))
        ≡ choose (b || d) 1 0 + c
    go ps c e true d = omega arith
    go ps c e false true = omega arith
    go ps c e false false = omega arith

pub counted : (g : List ℕ) (base : List Pair) → length base ≤ 8192 → Leads g 0 base
    → (m n k : ℕ) → length (parents (some m) (some n) k base) ≡ Looking.parents g m n 0 (length base)
counted g base few h m n k = counted_from g m n k 0 base (omega arith) h
