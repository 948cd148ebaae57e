-- What a gauge reads. Against the arcs that a run has made in the end, a gauge counts the labels made so far,
-- each for what its reference counts, and the parts of control that may still be labelled, each by its first
-- label; a side that no step has entered counts for the arc that it will get. Each rule is a chain of few
-- moves, and no move adds more to the count than the labels that it makes allow; so the labels of a run count
-- for no more than they allow. Assumes nothing.
use Rattle.std.proofs.Common.{ℕ, suc, ◌+◌, ◌≤◌, ◌≡◌, refl, sym, subst, ◌∙◌, Bool, true, List, [], ◌∷◌, ◌++◌}
use Rattle.std.proofs.Common.{append_assoc, arith, eq-eqb}
use Rattle.std.proofs.Math.Option.{Option, none, some}
use Rattle.std.proofs.Math.ListN.{get_elem?}
use Rattle.terms.specs.Term.{STOP, external, parallel, Term}
use Rattle.terms.specs.Term as Term
use Rattle.places.specs.Place.{Place, left_path}
use Rattle.rules.specs.Process.{Address, Split, together, Process, leaf, prefix, internal, split}
use Rattle.rules.specs.Process.{sequence, Ω, ⊥', below, joined, untouched, right_side, main}
use Rattle.rules.specs.Plain.{operator}
use Rattle.rules.specs.Track.{Label, Pair, pair, At, Outcome, labelled, prefixed, first_eval, inside}
use Rattle.rules.specs.Track.{around, right_eval, jointly, carried, started, parents, ended}
use Rattle.rules.specs.Tracking.{Tracks, process_call, prefixing, skip, stop, internal_choice_1}
use Rattle.rules.specs.Tracking.{internal_choice_2, external_choice_1, external_choice_2}
use Rattle.rules.specs.Tracking.{external_choice_3, external_choice_4, sequential_composition_1}
use Rattle.rules.specs.Tracking.{sequential_composition_2, synchronized_parallelism_1}
use Rattle.rules.specs.Tracking.{synchronized_parallelism_2, synchronized_parallelism_3}
use Rattle.rules.specs.Tracking.{synchronized_parallelism_4}
use Rattle.rules.specs.Run.{State, start, stands, after, Reached, begun, goes_on}
use Rattle.rules.proofs.Answered.{accepted_exactly}
use Rattle.rules.proofs.Drawn.{untouched_on}
use Rattle.rules.proofs.Stripped.{ends_at_Ω}
use Rattle.rules.proofs.Placed.{child, found, found_below, Begun, Placed, placed, placed_located}
use Rattle.rules.proofs.Weighed.{share, share_is, drawn, drawn_next, drawn_once, sum, sum_append, arc}
use Rattle.rules.proofs.Weighed.{between, weight, weight_of, parents_all, Unled, led_on, drawn_arc}
use Rattle.rules.proofs.Weighed.{parts, total, has_right, has_right_behind}
use Rattle.rules.proofs.Parents.{moved, standing, Ready, unled, ready_behind, beginning, onward_ready}
use Rattle.rules.proofs.Parents.{left_stays, left_entry, right_entry, leading, run_ready}
use Rattle.rules.proofs.Sided.{Splits, other_term, leaf_splits_not, opens, when, when_most, when_more}

-- a way to count against the arcs that a run has made in the end: which labels count; what a reference counts
-- for that has such a label, and one where Ω stands; what one may count for that is drawn from m; what a label
-- allows; and why no move counts for more
pub record Gauge (ts : List Term) : Type 0 where
  pub arcs : List Pair
  pub test : Place → Bool
  pub here : ℕ → ℕ
  pub last : ℕ → ℕ
  pub drawn_from : ℕ → ℕ
  pub allows : Place → ℕ → ℕ
  pub least : (m : ℕ) → last m ≤ here m
  pub draws : (m f : ℕ) → ((i : ℕ) → between i f arcs ≤ share i m 1) → here f ≤ drawn_from m
  pub merges : (a b f : ℕ) → ((i : ℕ) → between i f arcs ≤ between i a arcs + between i b arcs)
      → last f ≤ last a + last b
  pub single : (w : Place) (m : ℕ) → (Splits (found ts w) → ⊥) → drawn_from m ≤ allows w m
  pub double : (w : Place) (k : Split) (t u : Term) (m : ℕ)
      → found ts w ≡ some (Term.binary (operator k) t u)
      → when (opens test (untouched (below w 1) t)) (drawn_from m)
      + when (opens test (untouched (below w 2) u)) (drawn_from m) ≤ allows w m
  pub closes : (w : Place) (t u : Term) (m : ℕ) → found ts w ≡ some (Term.binary Term.sequence t u)
      → when (test w) (here m) ≤ last m

-- what a process that stands at m counts for
unfoldable load : {ts : List Term} → Gauge ts → ℕ → Process → ℕ
load x m (leaf w l) = when (x.test w) (x.here m)
load x m (prefix w e P) = when (x.test (below w 1)) (x.here m)
load x m (internal w P Q) = when (x.test w) (x.here m)
load x m (split w k none none P Q) = when (x.test w) (x.here m)
load x m (split w k none (some b) P Q) = load x b Q + when (opens x.test P) (x.drawn_from m)
load x m (split w k (some a) none P Q) = load x a P + when (opens x.test Q) (x.drawn_from m)
load x m (split w k (some a) (some b) P Q) = load x a P + load x b Q
load x m (sequence w b P Q) = load x m P
load x m Ω = x.last m
load x m ⊥' = 0

-- what a side of an entered operator counts for, where the operator stands at m
unfoldable side_load : {ts : List Term} → Gauge ts → ℕ → Option ℕ → Process → ℕ
side_load x m none P = when (opens x.test P) (x.drawn_from m)
side_load x m (some a) P = load x a P

-- what labels count for, and what they allow
abbrev pub counted : {ts : List Term} → Gauge ts → List Label → ℕ
counted x ls = weight_of (λ w m. when (x.test w) (x.here m)) ls

abbrev pub allowed : {ts : List Term} → Gauge ts → List Label → ℕ
allowed x ls = weight_of x.allows ls

-- a process that counts for no more than where it stands
abbrev New : List Term → Process → Type 0
New ts P = (x : Gauge ts) (m : ℕ) → load x m P ≤ x.here m

-- R, which stands at m, has a side P that stands at a, beside Q that stands at `other`
abbrev Beside : (ts : List Term) → Process → ℕ → ℕ → Process → Option ℕ → Process → Type 0
Beside ts R m a P other Q = (x : Gauge ts) → load x m R ≡ load x a P + side_load x m other Q

module _ {ts : List Term} where
  untouched_load : (x : Gauge ts) (m : ℕ) (w : Place) (t : Term)
      → load x m (untouched w t) ≡ when (opens x.test (untouched w t)) (x.here m)
  unfolding load opens untouched joined
  untouched_load x m w (Term.leaf l) = refl
  untouched_load x m w (Term.prefix e t) = refl
  untouched_load x m w (Term.binary Term.internal t u) = refl
  untouched_load x m w (Term.binary external t u) = refl
  untouched_load x m w (Term.binary Term.sequence t u) = untouched_load x m (below w 1) t
  untouched_load x m w (Term.binary (parallel y) t u) = refl

  part_new : (w : Place) (t : Term) (P : Process) → P ≡ untouched w t → New ts P
  part_new w t P e x m =
      rw e (omega (arith, untouched_load x m w t, when_most (opens x.test (untouched w t)) (x.here m)))

  rhs_new : (n : ℕ) (o : Option Term) → New ts (right_side n o)
  unfolding load right_side
  rhs_new n none x m = omega arith
  rhs_new n (some t) x m = part_new (record { definition = n; path = [] }) t _ refl x m

  left_beside : (m : ℕ) (w : Place) (k : Split) (a : ℕ) (b : Option ℕ) (P Q : Process)
      → Beside ts (split w k (some a) b P Q) m a P b Q
  unfolding load side_load
  left_beside m w k a none P Q x = refl
  left_beside m w k a (some b) P Q x = refl

  right_beside : (m : ℕ) (w : Place) (k : Split) (a : Option ℕ) (b : ℕ) (P Q : Process)
      → Beside ts (split w k a (some b) P Q) m b Q a P
  unfolding load side_load
  right_beside m w k none b P Q x = refl
  right_beside m w k (some a) b P Q x = omega arith

-- the arcs g are among A, and are all of A that lead to references drawn before f
record Agrees (A g : List Pair) (f : ℕ) : Type 0 where
  kept : (i j : ℕ) → between i j g ≤ between i j A
  complete : (i j : ℕ) → 1 ≤ drawn j f → between i j A ≤ between i j g

-- arcs made while the next fresh reference goes from f to f' lead only to references drawn for them
abbrev Draws : ℕ → List Pair → ℕ → Type 0
Draws f g f' = (i j : ℕ) → between i j g + drawn j f ≤ drawn j f'

agrees_before : {A : List Pair} (g h : List Pair) (f f' : ℕ) → Draws f h f' → Agrees A (g ++ h) f'
    → Agrees A g f
agrees_before g h f f' d k = record {
  kept = λ i j. omega (arith, k.kept i j, sum_append (arc i j) g h);
  complete = λ i j l.
      let all = k.complete i j (omega (arith, l, d i j)) in
      omega (arith, l, all, d i j, drawn_once j f', sum_append (arc i j) g h);
}

-- a reference is drawn once the next fresh one is past it
just_drawn : (f : ℕ) → 1 ≤ drawn f (suc f)
just_drawn f = omega (arith, drawn_next f f, share_is f f 1 (eq-eqb f f refl))

-- the arc from m is the only one to f, where f was drawn for it
lone_arc : {A : List Pair} (g : List Pair) (m f : ℕ) → Unled f g → Agrees A (g ++ (pair m f ∷ [])) (suc f)
    → (i : ℕ) → between i f A ≤ share i m 1
lone_arc g m f u k i = omega (arith, k.complete i f (just_drawn f), led_on i m f g u)

-- a move from P, which stands as s says, to Q at m, with the next fresh reference f, labels ls and arcs g
-- added, that counts for no more than its labels allow
record Bears (ts : List Term) (P : Process) (s : At) (Q : Process) (m f : ℕ) (ls : List Label) (g : List Pair)
    : Type 0 where
  bears : (x : Gauge ts) → Agrees x.arcs (s.arcs ++ g) f
      → load x m Q + counted x ls ≤ load x s.reference P + allowed x ls

module _ {ts : List Term} where
  -- one move behind the other
  chain : {P Q R : Process} {s : At} {m m' f f' : ℕ} {ls ls' : List Label} {g g' : List Pair}
      → Bears ts P s Q m f ls g → Bears ts Q (moved s m f g) R m' f' ls' g' → Draws f g' f'
      → Bears ts P s R m' f' (ls ++ ls') (g ++ g')
  chain {s = s} {f = f} {f' = f'} {ls = ls} {ls' = ls'} {g = g} {g' = g'} k l d = record {
    bears = λ x h.
        let whole : Agrees x.arcs ((s.arcs ++ g) ++ g') f' = rw append_assoc h in
        omega (
          arith,
          k.bears x (agrees_before (s.arcs ++ g) g' f f' d whole),
          l.bears x whole,
          sum_append (weight (λ w m. when (x.test w) (x.here m))) ls ls',
          sum_append (weight x.allows) ls ls',
        );
  }

  -- the reference is labelled with a place that does not split, and gets an arc to a fresh one, where Q stands
  labelling : {P Q : Process} (w : Place) (s : At) → Unled s.fresh s.arcs → (Splits (found ts w) → ⊥)
      → ((x : Gauge ts) → when (x.test w) (x.here s.reference) ≤ load x s.reference P) → New ts Q
      → Bears ts P s Q s.fresh (suc s.fresh) (record { reference = s.reference; place = w } ∷ [])
      (pair s.reference s.fresh ∷ [])
  unfolding sum
  labelling w s u splits_not was new = record {
    bears = λ x h.
        let m = s.reference in
        let f = s.fresh in
        let on = x.draws m f (lone_arc s.arcs m f u h) in
        omega (arith, was x, new x f, on, x.single w m splits_not);
  }

  -- two ended sides end their parallel
  merging : {w : Place} {y a b : ℕ} {P Q : Process} {s : At} → P ≡ Ω → Q ≡ Ω
      → Ready ts (split w (together y) (some a) (some b) P Q) s
      → Bears ts (split w (together y) (some a) (some b) P Q) s Ω s.fresh (suc s.fresh) []
      (parents (some a) (some b) s.fresh s.arcs)
  unfolding total load sum
  merging {a = a} {b = b} {P = P} {Q = Q} {s = s} p q h = record {
    bears = λ x k.
        let f = s.fresh in
        let g = s.arcs in
        let few : (i : ℕ) → between i a g + between i b g ≤ 1 =
        λ i.
        let left : total (parts ts i) g a P ≡ share i a 1 + between i a g = rw p in
        let right : total (parts ts i) g b Q ≡ share i b 1 + between i b g = rw q in
        omega (arith, h.few i, left, right, drawn_once i f) in
        let last = parents (some a) (some b) f g in
        let both : (i : ℕ) → between i f x.arcs ≤ between i a x.arcs + between i b x.arcs =
        λ i. omega (
          arith,
          k.complete i f (just_drawn f),
          k.kept i a,
          k.kept i b,
          parents_all i a b f g (few i),
          unled s h i,
          sum_append (arc i f) g last,
          sum_append (arc i a) g last,
          sum_append (arc i b) g last,
        ) in
        let left : load x a P ≡ x.last a = rw p in
        let right : load x b Q ≡ x.last b = rw q in
        omega (arith, left, right, x.merges a b f both);
  }

  -- a sequence goes on in its left
  onward : {w : Place} {b : Bool} {P P' Q : Process} {s : At} {m f : ℕ} {ls : List Label} {g : List Pair}
      → Bears ts P s P' m f ls g → Bears ts (sequence w b P Q) s (sequence w true P' Q) m f ls g
  unfolding load
  onward k = record { bears = k.bears }

  -- a side P of R that has been entered moves: R stays as R', or is dropped
  module _ {P P' R : Process} {s : At} {m f : ℕ} {ls : List Label} {g : List Pair} (a : ℕ) (other : Option ℕ)
      (Q : Process) (was : Beside ts R s.reference a P other Q)
      (k : Bears ts P (standing s a) P' m f ls g) where
    staying : {R' : Process} → Beside ts R' s.reference m P' other Q
        → Bears ts R s R' s.reference f ls g
    staying is = record { bears = λ x h. omega (arith, k.bears x h, was x, is x) }

    dropping : Bears ts R s P' m f ls g
    dropping = record { bears = λ x h. omega (arith, k.bears x h, was x) }

  module _ {w : Place} {k : Split} {P Q R : Process} {s : At} {c m f : ℕ} {ls : List Label} {g : List Pair}
    where
      left_staying : {b : Option ℕ} → Bears ts P (standing s c) R m f ls g
          → Bears ts (split w k (some c) b P Q) s (split w k (some m) b R Q) s.reference f ls g
      left_staying {b = b} l =
          staying c b Q (left_beside s.reference w k c b P Q) l (left_beside s.reference w k m b R Q)

      left_dropping : {b : Option ℕ} → Bears ts P (standing s c) R m f ls g
          → Bears ts (split w k (some c) b P Q) s R m f ls g
      left_dropping {b = b} l = dropping c b Q (left_beside s.reference w k c b P Q) l

      right_staying : {a : Option ℕ} → Bears ts Q (standing s c) R m f ls g
          → Bears ts (split w k a (some c) P Q) s (split w k a (some m) P R) s.reference f ls g
      right_staying {a = a} l =
          staying c a P (right_beside s.reference w k a c P Q) l (right_beside s.reference w k a m P R)

      right_dropping : {a : Option ℕ} → Bears ts Q (standing s c) R m f ls g
          → Bears ts (split w k a (some c) P Q) s R m f ls g
      right_dropping {a = a} l = dropping c a P (right_beside s.reference w k a c P Q) l

  -- what R counts for, at w and m, before a step of its side P, beside `rest`
  abbrev Before : Gauge ts → (own met : Option ℕ) → Place → ℕ → Process → Process → (rest : ℕ) → Type 0
  Before x (some a) met w m R P rest = load x m R ≡ load x a P + rest
  Before x none (some o) w m R P rest = load x m R ≡ when (opens x.test P) (x.drawn_from m) + rest
  Before x none none w m R P rest =
      (load x m R ≡ when (x.test w) (x.here m))
      × (when (opens x.test P) (x.drawn_from m) + rest ≤ x.allows w m)

  -- a split by its left, by its right, and by its right where the left has stepped
  left_before : (x : Gauge ts) (m : ℕ) (w : Place) (k : Split) (a b : Option ℕ) (P Q : Process)
      → Placed ts (split w k a b P Q) → Before x a b w m (split w k a b P Q) P (side_load x m b Q)
  unfolding load side_load
  left_before x m w k (some a) b P Q h = left_beside m w k a b P Q x
  left_before x m w k none (some b) P Q h = omega arith
  left_before x m w k none none P Q (t, u, e, p, q) = (refl, rw (p, q) (x.double w k t u m e))

  right_before : (x : Gauge ts) (m : ℕ) (w : Place) (k : Split) (a b : Option ℕ) (P Q : Process)
      → Placed ts (split w k a b P Q) → Before x b a w m (split w k a b P Q) Q (side_load x m a P)
  unfolding load side_load
  right_before x m w k a (some b) P Q h = right_beside m w k a b P Q x
  right_before x m w k (some a) none P Q h = omega arith
  right_before x m w k none none P Q (t, u, e, p, q) =
      (refl, rw (p, q) (omega (arith, x.double w k t u m e)))

  right_behind : (x : Gauge ts) (m o : ℕ) (w : Place) (k : Split) (a : ℕ) (b : Option ℕ) (P Q : Process)
      → Placed ts (split w k (some a) b P Q)
      → Before x b (some o) w m (split w k (some a) b P Q) Q (side_load x m (some a) P)
  right_behind x m o w k a none P Q h = right_before x m w k (some a) none P Q h
  right_behind x m o w k a (some b) P Q h = right_before x m w k (some a) (some b) P Q h

  -- the side joins in, at a fresh reference
  joining : (x : Gauge ts) (v : Place) (t : Term) (s : At) (P : Process) → P ≡ untouched v t
      → Unled s.fresh s.arcs
      → Agrees x.arcs (s.arcs ++ (pair s.reference s.fresh ∷ [])) (suc s.fresh)
      → load x s.fresh P ≤ when (opens x.test P) (x.drawn_from s.reference)
  joining x v t s P p u h =
      let m = s.reference in
      let f = s.fresh in
      let on = x.draws m f (lone_arc s.arcs m f u h) in
      let is : load x f P ≡ when (opens x.test P) (x.here f) = rw p (untouched_load x f v t) in
      omega (arith, is, when_more (opens x.test P) (x.here f) (x.drawn_from m) on)

  -- R is entered on the side of P, and is R' then
  entering : (own met other : Option ℕ) (w v : Place) (t : Term) (s : At) (P Q R R' : Process)
      → Begun own v t P (Placed ts P) → Unled s.fresh s.arcs
      → ((x : Gauge ts) → Before x own met w s.reference R P (side_load x s.reference other Q))
      → Beside ts R' s.reference (first_eval own met w s).reference P other Q
      → Bears ts R s R' s.reference (first_eval own met w s).fresh (first_eval own met w s).labels
      (first_eval own met w s).arcs
  unfolding first_eval sum
  entering (some a) met other w v t s P Q R R' p u was is =
      record { bears = λ x h. omega (arith, was x, is x) }
  entering none (some o) other w v t s P Q R R' p u was is =
      record { bears = λ x h. omega (arith, was x, is x, joining x v t s P p u h) }
  entering none none other w v t s P Q R R' p u was is =
      record { bears = λ x h. omega (arith, (was x).0, (was x).1, is x, joining x v t s P p u h) }

  module _ {w : Place} {k : Split} {a b : Option ℕ} {P Q : Process} {s : At}
      (h : Ready ts (split w k a b P Q) s) where
    left_entered :
        Bears ts (split w k a b P Q) s (split w k (some (first_eval a b w s).reference) b P Q) s.reference
        (first_eval a b w s).fresh (first_eval a b w s).labels (first_eval a b w s).arcs
    left_entered =
        let (t, u, e, p, q) = h.located in
        entering a b b w (below w 1) t s P Q _ _ p (unled s h)
        (λ x. left_before x s.reference w k a b P Q h.located) (left_beside s.reference w k _ b P Q)

    -- `met` is what the right finds of the left
    right_entering : (met : Option ℕ)
        → ((x : Gauge ts)
        → Before x b met w s.reference (split w k a b P Q) Q (side_load x s.reference a P))
        → Bears ts (split w k a b P Q) s (split w k a (some (first_eval b met w s).reference) P Q)
        s.reference (first_eval b met w s).fresh (first_eval b met w s).labels
        (first_eval b met w s).arcs
    right_entering met was =
        let (t, u, e, p, q) = h.located in
        entering b met a w (below w 2) u s Q P _ _ q (unled s h) was (right_beside s.reference w k a _ P Q)

    right_entered :
        Bears ts (split w k a b P Q) s (split w k a (some (first_eval b a w s).reference) P Q) s.reference
        (first_eval b a w s).fresh (first_eval b a w s).labels (first_eval b a w s).arcs
    right_entered = right_entering a (λ x. right_before x s.reference w k a b P Q h.located)

    -- where its right can move then
    right_ready : Ready ts Q (inside (first_eval b a w s) s)
    right_ready = (right_entry a (has_right s.reference w k a b P Q) h).part

module _ (ts : List Term) where
  -- each rule is a chain of moves
  bearing : {a : Address} {P : Process} {s : At} {r : Outcome} → Tracks ts a P s r → Ready ts P s
      → Bears ts P s r.process r.reference r.fresh r.labels r.arcs
  unfolding total load child labelled prefixed around jointly carried started ended
  bearing (process_call {n = n} {w = w} {s = s}) h =
      labelling w s (unled s h) (leaf_splits_not ts w _ h.located) (λ x. omega arith)
      (rhs_new n (get_elem? ts n))
  bearing (prefixing {a = e} {w = w} {P = P} {s = s}) h =
      let (t, i, p) = h.located in
      let k = beginning {ts = ts} {P = prefix w e P} {Q = prefix w e P} (below w 1) s (λ x g m. refl) in
      let s' = moved s s.fresh (suc s.fresh) (pair s.reference s.fresh ∷ []) in
      let event = labelling {ts = ts} {P = prefix w e P} {Q = leaf w STOP} (below w 1) s (unled s h)
      (other_term ts (below w 1) (found_below ts w 1 _ i) (λ k. k)) (λ x. omega arith)
      (λ x m. when_most (x.test w) (x.here m)) in
      let arrow = labelling {ts = ts} {P = leaf w STOP} w s' (unled s' (ready_behind h k h.located))
      (other_term ts w i (λ k. k)) (λ x. omega arith) (part_new (below w 2) t P p) in
      chain event arrow (λ i j. drawn_arc i j s.fresh (suc s.fresh))
  bearing (skip {w = w} {s = s}) h =
      labelling w s (unled s h) (leaf_splits_not ts w _ h.located) (λ x. omega arith) (λ x m. x.least m)
  bearing (stop {w = w} {s = s}) h =
      labelling w s (unled s h) (leaf_splits_not ts w _ h.located) (λ x. omega arith) (λ x m. omega arith)
  bearing (internal_choice_1 {w = w} {P = P} {s = s}) h =
      let (t, u, e, p, q) = h.located in
      labelling w s (unled s h) (other_term ts w e (λ k. k)) (λ x. omega arith) (part_new (below w 1) t P p)
  bearing (internal_choice_2 {w = w} {Q = Q} {s = s}) h =
      let (t, u, e, p, q) = h.located in
      labelling w s (unled s h) (other_term ts w e (λ k. k)) (λ x. omega arith) (part_new (below w 2) u Q q)
  bearing (external_choice_1 d e) h =
      let k = (left_entry h).part in
      chain (left_entered h) (left_staying (bearing d k)) (leading ts d k).once
  bearing (external_choice_2 d e) h =
      let k = right_ready h in
      chain (right_entered h) (right_staying (bearing d k)) (leading ts d k).once
  bearing (external_choice_3 d v) h =
      let k = (left_entry h).part in
      chain (left_entered h) (left_dropping (bearing d k)) (leading ts d k).once
  bearing (external_choice_4 d v) h =
      let k = right_ready h in
      chain (right_entered h) (right_dropping (bearing d k)) (leading ts d k).once
  bearing (sequential_composition_1 d n) h = onward (bearing d (onward_ready h))
  bearing (sequential_composition_2 {w = w} {P = P} {Q = Q} {s = s} {r = r} d e) h =
      let (t, u, i, p, q) = h.located in
      let m = r.reference in
      let s' = moved s m r.fresh r.arcs in
      let k = onward_ready h in
      let ready = ready_behind k (leading ts d k)
      (placed_located ts r.process (placed ts d (placed_located ts P p))) in
      let was : (x : Gauge ts) → load x m r.process ≡ x.last m = λ x. rw (ends_at_Ω d e) in
      let right = labelling {ts = ts} {P = sequence w true r.process Q} w s' (unled s' ready)
      (other_term ts w i (λ k. k)) (λ x. omega (arith, was x, x.closes w t u m i))
      (part_new (below w 2) u Q q) in
      chain (onward (bearing d k)) right (λ i j. drawn_arc i j m r.fresh)
  bearing (synchronized_parallelism_1 d e) h =
      let k = (left_entry h).part in
      chain (left_entered h) (left_staying (bearing d k)) (leading ts d k).once
  bearing (synchronized_parallelism_2 d e) h =
      let k = right_ready h in
      chain (right_entered h) (right_staying (bearing d k)) (leading ts d k).once
  bearing (synchronized_parallelism_3 {w = w} {x = y} {n₁ = m} {n₂ = n} {Q = Q} {s = s} {l = l} {r = r}
      d d' e e' c p) h =
      let (t, u, f, p, q) = h.located in
      let i = first_eval m n w s in
      let j = right_eval m n w s l in
      let left = left_entry h in
      let on_left = left_stays left.whole (leading ts d left.part) in
      let ready = ready_behind left.whole on_left (t, u, f, placed ts d left.part.located, q) in
      let right = right_entry (some i.reference)
      (has_right_behind s.reference i.reference w (together y) l.reference n l.process Q) ready in
      let right_moves = right_entering ready (some i.reference)
      (λ x. right_behind x s.reference i.reference w (together y) l.reference n l.process Q
      ready.located) in
      let on_right = (leading ts d' right.part).once in
      let rights : Draws l.fresh (j.arcs ++ r.arcs) r.fresh =
      λ a b. omega (arith, right.moves.once a b, on_right a b, sum_append (arc a b) j.arcs r.arcs) in
      let both : Draws i.fresh (l.arcs ++ (j.arcs ++ r.arcs)) r.fresh =
      λ a b. omega (
        arith,
        on_left.once a b,
        rights a b,
        sum_append (arc a b) l.arcs (j.arcs ++ r.arcs),
      ) in
      rw (
        append_assoc i.labels l.labels (j.labels ++ r.labels),
        append_assoc i.arcs l.arcs (j.arcs ++ r.arcs),
      )
      (chain (left_entered h)
      (chain (left_staying (bearing d left.part))
      (chain right_moves (right_staying (bearing d' right.part)) on_right) rights) both)
  bearing (synchronized_parallelism_4 {w = w} {n₁ = none} p q) h =
      let (t, u, e, i, j) = h.located in
      absurd (untouched_on (below w 1) t (sym i ∙ p))
  bearing (synchronized_parallelism_4 {w = w} {n₁ = some a} {n₂ = none} p q) h =
      let (t, u, e, i, j) = h.located in
      absurd (untouched_on (below w 2) u (sym j ∙ q))
  bearing (synchronized_parallelism_4 {n₁ = some a} {n₂ = some b} p q) h = merging p q h

  -- and so is every run
  abbrev Run : State → Type 0
  Run s = Bears ts main (stands start) s.process s.reference s.fresh s.labels s.arcs

  bearing_run : {s : State} → Reached ts s → Run s
  unfolding after sum
  bearing_run begun = record { bears = λ x h. omega arith }
  bearing_run (goes_on {s = s} {t = t} a e p h) =
      let d = (accepted_exactly ts s a e t).0 h in
      let k = run_ready ts p in
      subst Run d.3 (chain (bearing_run p) (bearing d.1 k) (leading ts d.1 k).once)

  -- so the labels of a run count for no more than they allow
  pub gauged : {s : State} → Reached ts s → (x : Gauge ts) → x.arcs ≡ s.arcs → x.here 0 ≡ 0
      → counted x s.labels ≤ allowed x s.labels
  unfolding load
  gauged {s = s} p x e z =
      let whole : Agrees x.arcs s.arcs s.fresh =
      rw e (record { kept = λ i j. omega arith; complete = λ i j l. omega arith }) in
      omega (
        arith,
        z,
        (bearing_run p).bears x whole,
        when_most (x.test (record { definition = 0; path = left_path })) (x.here 0),
      )
