-- What control weighs. A scale sums over the parts of a process, each by where it stands: of a reference, how
-- often a part stands there, or is labelled there, and how many arcs lead from there to an Ω. New arcs lead only
-- to references that are drawn for them, and ended sides hand on the arcs that they have, so no scale gains by
-- them. `Parents` weighs the rules. Assumes nothing.
use Rattle.std.proofs.Common.{ℕ, zero, suc, ◌+◌, ◌≤◌, ◌≡◌, refl, ap, Bool, true, false, List, [], ◌∷◌, ◌++◌}
use Rattle.std.proofs.Common.{◌⊎◌, inl, inr, arith, eqb, eqb-true, eq-eqb, ne_eqb}
use Rattle.std.proofs.Math.Option.{Option, none, some}
use Rattle.lines.specs.Line.{choose}
use Rattle.terms.specs.Term.{call, SKIP, STOP, external, parallel, Term}
use Rattle.terms.specs.Term as Term
use Rattle.places.specs.Place.{Place}
use Rattle.rules.specs.Process.{Split, Process, leaf, prefix, internal, split, sequence, Ω, ⊥', below}
use Rattle.rules.specs.Process.{joined, untouched, right_side}
use Rattle.rules.specs.Track.{Label, Pair, pair, leads, parents}
use Rattle.rules.proofs.Placed.{found}
use Rattle.rules.proofs.Marked.{one, tally}

-- x where n is m
unfoldable pub share : ℕ → ℕ → ℕ → ℕ
share n m x = choose (eqb n m) x 0

pub share_most : (n m x : ℕ) → share n m x ≤ x
unfolding share
share_most n m x = go (eqb n m)
  where
    go : (b : Bool) → choose b x 0 ≤ x
    go true = omega arith
    go false = omega arith

pub share_more : (n m x y : ℕ) → x ≤ y → share n m x ≤ share n m y
unfolding share
share_more n m x y l = go (eqb n m)
  where
    go : (b : Bool) → choose b x 0 ≤ choose b y 0
    go true = l
    go false = omega arith

pub share_is : (n m x : ℕ) → eqb n m ≡ true → share n m x ≡ x
unfolding share
share_is n m x e = rw e

pub share_not : (n m x : ℕ) → eqb n m ≡ false → share n m x ≡ 0
unfolding share
share_not n m x e = rw e

-- how often n is one of the references drawn before f
pub drawn : ℕ → ℕ → ℕ
drawn n zero = 0
drawn n (suc f) = share n f 1 + drawn n f

pub drawn_next : (n f : ℕ) → share n f 1 + drawn n f ≡ drawn n (suc f)
unfolding drawn
drawn_next n f = refl

pub undrawn : (n f : ℕ) → f ≤ n → drawn n f ≡ 0
unfolding drawn
undrawn n zero l = refl
undrawn n (suc f) l = omega (arith, undrawn n f (omega arith), share_not n f 1 (ne_eqb n f (λ e. omega arith)))

pub drawn_once : (n f : ℕ) → drawn n f ≤ 1
unfolding drawn share
drawn_once n zero = omega arith
drawn_once n (suc f) = go (eqb n f) refl (drawn_once n f)
  where
    go : (b : Bool) → eqb n f ≡ b → drawn n f ≤ 1 → choose b 1 0 + drawn n f ≤ 1
    go true e l = omega (arith, undrawn n f (omega (arith, eqb-true n f e)))
    go false e l = omega arith

-- the sum over a list
unfoldable pub sum : {A : Type 0} → (A → ℕ) → List A → ℕ
sum f [] = 0
sum f (a ∷ as') = f a + sum f as'

pub sum_append : {A : Type 0} (f : A → ℕ) (g h : List A) → sum f (g ++ h) ≡ sum f g + sum f h
unfolding sum
sum_append f [] h = omega arith
sum_append f (a ∷ g) h = omega (arith, sum_append f g h)

pub sum_none : {A : Type 0} (g : List A) → sum (λ a. 0) g ≡ 0
unfolding sum
sum_none [] = refl
sum_none (a ∷ g) = omega (arith, sum_none g)

-- 1 for an arc from i to j, and how many of these there are
abbrev pub arc : ℕ → ℕ → Pair → ℕ
arc i j a = share i a.from (share j a.to 1)

abbrev pub between : ℕ → ℕ → List Pair → ℕ
between i j g = sum (arc i j) g

arc_is : (i j : ℕ) (p : Pair) → eqb j p.to ≡ true → arc i j p ≡ share i p.from 1
arc_is i j p e = ap (share i p.from) (share_is j p.to 1 e)

arc_not : (i j : ℕ) (p : Pair) → eqb j p.to ≡ false → arc i j p ≡ 0
arc_not i j p e = omega (arith, share_most i p.from (share j p.to 1), share_not j p.to 1 e)

-- 1 for an arc that starts at n, and how many of these there are
abbrev pub leaves : ℕ → Pair → ℕ
leaves n a = share n a.from 1

abbrev pub out : ℕ → List Pair → ℕ
out n g = sum (leaves n) g

-- what a label weighs by its place and reference, and labels together
abbrev pub weight : (Place → ℕ → ℕ) → Label → ℕ
weight v l = v l.place l.reference

abbrev pub weight_of : (Place → ℕ → ℕ) → List Label → ℕ
weight_of v ls = sum (weight v) ls

-- the further arcs of two ended sides weigh at most what the arcs do that they are made for
parents_sum : (f h : Pair → ℕ) (m n : Option ℕ) (k : ℕ) (g : List Pair)
    → ((p : Pair) → f (pair p.from k) ≤ h p) → sum f (parents m n k g) ≤ sum h g
unfolding parents sum
parents_sum f h m n k [] i = omega arith
parents_sum f h m n k (p ∷ g) i = go (leads m p.to) (leads n p.to) (parents_sum f h m n k g i)
  where
    go : (t u : Bool) → sum f (parents m n k g) ≤ sum h g
        → sum f (choose t (pair p.from k ∷ parents m n k g)
        (choose u (pair p.from k ∷ parents m n k g) (parents m n k g))) ≤ h p + sum h g
    go true u l = omega (arith, i p)
    go false true l = omega (arith, i p)
    go false false l = omega arith

pub parents_out : (n : ℕ) (a b : Option ℕ) (k : ℕ) (g : List Pair) → out n (parents a b k g) ≤ out n g
parents_out n a b k g = parents_sum (leaves n) (leaves n) a b k g (λ p. omega arith)

-- a reference with an arc to one of the sides at most gets as many further arcs to k, and none elsewhere
pub parents_all : (i a b k : ℕ) (g : List Pair) → between i a g + between i b g ≤ 1
    → between i k (parents (some a) (some b) k g) ≡ between i a g + between i b g
unfolding parents leads sum
parents_all i a b k [] l = omega arith
parents_all i a b k (p ∷ g) l =
    go (eqb a p.to) (eqb b p.to) refl refl (parents_all i a b k g (omega (arith, l)))
  where
    new : arc i k (pair p.from k) ≡ share i p.from 1
    new = arc_is i k (pair p.from k) (eq-eqb k k refl)

    go : (t u : Bool) → eqb a p.to ≡ t → eqb b p.to ≡ u
        → between i k (parents (some a) (some b) k g) ≡ between i a g + between i b g
        → between i k (choose t (pair p.from k ∷ parents (some a) (some b) k g)
        (choose u (pair p.from k ∷ parents (some a) (some b) k g) (parents (some a) (some b) k g)))
        ≡ (arc i a p + between i a g) + (arc i b p + between i b g)
    go true true d e h = omega (arith, h, l, new, arc_is i a p d, arc_is i b p e)
    go true false d e h = omega (arith, h, new, arc_is i a p d, arc_not i b p e)
    go false true d e h = omega (arith, h, new, arc_not i a p d, arc_is i b p e)
    go false false d e h = omega (arith, h, arc_not i a p d, arc_not i b p e)

pub parents_once : (i j a b k : ℕ) (g : List Pair) → between i a g + between i b g ≤ 1
    → between i j (parents (some a) (some b) k g) ≤ share j k 1
parents_once i j a b k g l = go (eqb j k) refl
  where
    go : (t : Bool) → eqb j k ≡ t → between i j (parents (some a) (some b) k g) ≤ share j k 1
    go true e = omega (
      arith,
      l,
      parents_all i a b k g l,
      ap (λ j. between i j (parents (some a) (some b) k g)) (eqb-true j k e),
      share_is j k 1 e,
    )
    go false e = omega (
      arith,
      parents_sum (arc i j) (λ p. 0) (some a) (some b) k g
          (λ p. omega (arith, arc_not i j (pair p.from k) e)),
      sum_none g,
    )

-- no arc leads to m
abbrev pub Unled : ℕ → List Pair → Type 0
Unled m g = (i : ℕ) → between i m g ≡ 0

-- what leads to a reference f just drawn: the arc from m, or the further arcs of two ended sides
pub led_on : (n m f : ℕ) (g : List Pair) → Unled f g → between n f (g ++ (pair m f ∷ [])) ≤ share n m 1
unfolding sum
led_on n m f g u = omega (
  arith,
  sum_append (arc n f) g (pair m f ∷ []),
  u n,
  share_more n m (share f f 1) 1 (share_most f f 1),
)

pub led_over : (n a b f : ℕ) (g : List Pair) → Unled f g → between n a g + between n b g ≤ 1
    → between n f (g ++ parents (some a) (some b) f g) ≤ between n a g + between n b g
led_over n a b f g u l = omega (
  arith,
  sum_append (arc n f) g (parents (some a) (some b) f g),
  u n,
  parents_all n a b f g l,
)

pub drawn_arc : (i j m f : ℕ) → between i j (pair m f ∷ []) + drawn j f ≤ drawn j (suc f)
unfolding sum
drawn_arc i j m f = omega (arith, share_most i m (share j f 1), drawn_next j f)

-- a way to weigh the parts of control, each by where it stands: one that no step has entered, an operator that
-- one has entered, and Ω; with it what a label weighs, and the references drawn; and why no move adds weight
pub record Scale (ts : List Term) : Type 0 where
  pub unentered : ℕ → ℕ
  pub entered : Place → ℕ → ℕ
  pub over : List Pair → ℕ → ℕ
  pub label : Place → ℕ → ℕ
  pub before : ℕ → ℕ
  pub draws : (f : ℕ) → unentered f + before f ≤ before (suc f)
  pub enters : (w : Place) (m : ℕ) → entered w m ≤ unentered m + label w m
  pub ends : (w : Place) (m f : ℕ) (g : List Pair) → found ts w ≡ some (Term.leaf SKIP) → Unled f g
      → over (g ++ (pair m f ∷ [])) f + before f ≤ unentered m + label w m + before (suc f)
  pub merges : (a b f : ℕ) (g : List Pair) → Unled f g → ((i : ℕ) → between i a g + between i b g ≤ 1)
      → over (g ++ parents (some a) (some b) f g) f + before f ≤ over g a + over g b + before (suc f)
  pub keeps : (g h : List Pair) (m : ℕ) → Unled m h → over (g ++ h) m ≤ over g m

-- all parts that stand at n, and the arcs from n to where an Ω stands
abbrev pub parts : (ts : List Term) → ℕ → Scale ts
parts ts n = record {
  unentered = λ m. share n m 1;
  entered = λ w m. share n m 1;
  over = λ g m. share n m 1 + between n m g;
  label = λ w m. 0;
  before = drawn n;
  draws = λ f. omega (arith, drawn_next n f);
  enters = λ w m. omega arith;
  ends = λ w m f g e u. omega (arith, drawn_next n f, led_on n m f g u);
  merges = λ a b f g u l. omega (arith, drawn_next n f, led_over n a b f g u (l n));
  keeps = λ g h m u. omega (arith, sum_append (arc n m) g h, u n);
}

-- `v` says what the places weigh, a SKIP's not nothing
abbrev pub Sure : List Term → (Place → ℕ) → Type 0
Sure ts v = (w : Place) → found ts w ≡ some (Term.leaf SKIP) → 1 ≤ v w

-- the arcs from n to where an Ω stands, and the entered operators and the labels of n by their places
abbrev pub marks : (ts : List Term) (v : Place → ℕ) → Sure ts v → ℕ → Scale ts
marks ts v sure n = record {
  unentered = λ m. 0;
  entered = λ w m. share n m (v w);
  over = λ g m. between n m g;
  label = λ w m. share n m (v w);
  before = λ f. 0;
  draws = λ f. omega arith;
  enters = λ w m. omega arith;
  ends = λ w m f g e u. omega (arith, led_on n m f g u, share_more n m 1 (v w) (sure w e));
  merges = λ a b f g u l. omega (arith, led_over n a b f g u (l n));
  keeps = λ g h m u. omega (arith, sum_append (arc n m) g h, u n);
}

-- every label weighs 1
pub plain_sure : (ts : List Term) → Sure ts (λ w. 1)
plain_sure ts w e = omega arith

abbrev pub named : (ts : List Term) → ℕ → Scale ts
named ts n = marks ts (λ w. 1) (plain_sure ts) n

-- what an operator at w that stands at m weighs, and what a side weighs
abbrev pub head : {ts : List Term} → Scale ts → Option ℕ → Option ℕ → Place → ℕ → ℕ
head x none none w m = x.unentered m
head x none (some b) w m = x.entered w m
head x (some a) b w m = x.entered w m

abbrev pub side : Option ℕ → (ℕ → ℕ) → ℕ
side none f = 0
side (some a) f = f a

-- what a process that stands at m weighs
unfoldable pub total : {ts : List Term} → Scale ts → List Pair → ℕ → Process → ℕ
total x g m (leaf w l) = x.unentered m
total x g m (prefix w e P) = x.unentered m
total x g m (internal w P Q) = x.unentered m
total x g m (split w k a b P Q) =
    head x a b w m + (side a (λ r. total x g r P) + side b (λ r. total x g r Q))
total x g m (sequence w b P Q) = total x g m P
total x g m Ω = x.over g m
total x g m ⊥' = x.unentered m

-- a process that weighs what a part does that no step has entered
abbrev pub New : List Term → Process → Type 0
New ts P = (x : Scale ts) (g : List Pair) (m : ℕ) → total x g m P ≡ x.unentered m

-- R, at w, has a side P that stands at `own`, beside Q that stands at `other`; `met` is what P finds of the other
-- where it is entered
abbrev pub Has : (ts : List Term) → Process → ℕ → Place → (own met other : Option ℕ) → Process → Process
    → Type 0
Has ts R m w own met other P Q =
    (x : Scale ts) (g : List Pair)
    → total x g m R ≡ head x own met w m + side own (λ r. total x g r P) + side other (λ r. total x g r Q)

module _ {ts : List Term} where
  untouched_total : (x : Scale ts) (g : List Pair) (m : ℕ) (w : Place) (t : Term)
      → total x g m (untouched w t) ≡ x.unentered m
  unfolding total untouched joined
  untouched_total x g m w (Term.leaf l) = refl
  untouched_total x g m w (Term.prefix e t) = refl
  untouched_total x g m w (Term.binary Term.internal t u) = refl
  untouched_total x g m w (Term.binary external t u) = omega arith
  untouched_total x g m w (Term.binary Term.sequence t u) = untouched_total x g m (below w 1) t
  untouched_total x g m w (Term.binary (parallel y) t u) = omega arith

  pub rhs_new : (n : ℕ) (o : Option Term) → New ts (right_side n o)
  unfolding total right_side
  rhs_new n none x g m = refl
  rhs_new n (some t) x g m = untouched_total x g m (record { definition = n; path = [] }) t

  pub part_new : (w : Place) (t : Term) (P : Process) → P ≡ untouched w t → New ts P
  part_new w t P e x g m = rw e (untouched_total x g m w t)

  -- a split by its left, by its right, and by its right where the left was entered first
  pub has_left : (m : ℕ) (w : Place) (k : Split) (a b : Option ℕ) (P Q : Process)
      → Has ts (split w k a b P Q) m w a b b P Q
  unfolding total
  has_left m w k a b P Q x g = omega arith

  pub has_right : (m : ℕ) (w : Place) (k : Split) (a b : Option ℕ) (P Q : Process)
      → Has ts (split w k a b P Q) m w b a a Q P
  unfolding total
  has_right m w k none none P Q x g = omega arith
  has_right m w k none (some b) P Q x g = omega arith
  has_right m w k (some a) none P Q x g = omega arith
  has_right m w k (some a) (some b) P Q x g = omega arith

  pub has_right_behind : (m c : ℕ) (w : Place) (k : Split) (a : ℕ) (b : Option ℕ) (P Q : Process)
      → Has ts (split w k (some a) b P Q) m w b (some c) (some a) Q P
  unfolding total
  has_right_behind m c w k a none P Q x g = omega arith
  has_right_behind m c w k a (some b) P Q x g = omega arith

  -- arcs to references that had not been drawn weigh nothing
  kept_total : (x : Scale ts) (g h : List Pair) (f m : ℕ) (P : Process)
      → ((n : ℕ) → total (parts ts n) g m P ≤ drawn n f) → ((i j : ℕ) → between i j h + drawn j f ≤ 1)
      → total x (g ++ h) m P ≤ total x g m P
  unfolding total
  kept_total x g h f m (leaf w l) p q = omega arith
  kept_total x g h f m (prefix w e P) p q = omega arith
  kept_total x g h f m (internal w P Q) p q = omega arith
  kept_total x g h f m (split w k none none P Q) p q = omega arith
  kept_total x g h f m (split w k (some a) none P Q) p q =
      omega (arith, kept_total x g h f a P (λ n. omega (arith, p n)) q)
  kept_total x g h f m (split w k none (some b) P Q) p q =
      omega (arith, kept_total x g h f b Q (λ n. omega (arith, p n)) q)
  kept_total x g h f m (split w k (some a) (some b) P Q) p q =
      omega (
        arith,
        kept_total x g h f a P (λ n. omega (arith, p n)) q,
        kept_total x g h f b Q (λ n. omega (arith, p n)) q,
      )
  kept_total x g h f m (sequence w b P Q) p q = kept_total x g h f m P p q
  kept_total x g h f m Ω p q = x.keeps g h m (λ i. omega (arith, p m, q i m, share_is m m 1 (eq-eqb m m refl)))
  kept_total x g h f m ⊥' p q = omega arith

  pub kept_side : (x : Scale ts) (g h : List Pair) (f : ℕ) (a : Option ℕ) (P : Process)
      → ((n : ℕ) → side a (λ r. total (parts ts n) g r P) ≤ drawn n f)
      → ((i j : ℕ) → between i j h + drawn j f ≤ 1)
      → side a (λ r. total x (g ++ h) r P) ≤ side a (λ r. total x g r P)
  kept_side x g h f none P p q = omega arith
  kept_side x g h f (some a) P p q = kept_total x g h f a P p q

-- R stands at r in P, which stands at m
pub data Within (R : Process) (r : ℕ) : Process → ℕ → Type 0 where
  here : Within R r R r
  in_left : {w : Place} {k : Split} {a m : ℕ} {b : Option ℕ} {P Q : Process}
      → Within R r P a → Within R r (split w k (some a) b P Q) m
  in_right : {w : Place} {k : Split} {a : Option ℕ} {b m : ℕ} {P Q : Process}
      → Within R r Q b → Within R r (split w k a (some b) P Q) m
  in_sequence : {w : Place} {b : Bool} {m : ℕ} {P Q : Process}
      → Within R r P m → Within R r (sequence w b P Q) m

pub within_total : {ts : List Term} (x : Scale ts) (g : List Pair) {R : Process} {r : ℕ} {P : Process} {m : ℕ} → Within R r P m
    → total x g r R ≤ total x g m P
unfolding total
within_total x g here = omega arith
within_total x g (in_left k) = omega (arith, within_total x g k)
within_total x g (in_right k) = omega (arith, within_total x g k)
within_total x g (in_sequence k) = within_total x g k

-- n has a label, of whose place S holds
abbrev pub Labelled : (Place → Type 0) → ℕ → List Label → Type 0
Labelled S n [] = ⊥
Labelled S n (l ∷ ls) = ((n ≡ l.reference) × S l.place) ⊎ Labelled S n ls

-- a label counts
pub labelled_tally : (S : Place → Type 0) (n : ℕ) (ls : List Label) → Labelled S n ls → 1 ≤ tally n ls
unfolding tally one
labelled_tally S n [] k = absurd k
labelled_tally S n (l ∷ ls) (inl k) = rw (eq-eqb n l.reference k.0) (omega arith)
labelled_tally S n (l ∷ ls) (inr k) = omega (arith, labelled_tally S n ls k)

pub weight_labelled : (n : ℕ) (v : Place → ℕ) (S : Place → Type 0) → ((w : Place) → 1 ≤ v w → S w)
    → (ls : List Label) → 1 ≤ weight_of (λ w m. share n m (v w)) ls → Labelled S n ls
unfolding sum share
weight_labelled n v S h [] l = absurd (omega arith)
weight_labelled n v S h (m ∷ ls) l =
    go (eqb n m.reference) refl (v m.place) refl l (λ k. weight_labelled n v S h ls k)
  where
    go : (b : Bool) → eqb n m.reference ≡ b → (x : ℕ) → v m.place ≡ x
        → 1 ≤ choose b x 0 + weight_of (λ w m. share n m (v w)) ls
        → (1 ≤ weight_of (λ w m. share n m (v w)) ls → Labelled S n ls) → Labelled S n (m ∷ ls)
    go true e zero i l k = inr (k (omega arith))
    go true e (suc x) i l k = inl (eqb-true n m.reference e, h m.place (omega (arith, i)))
    go false e x i l k = inr (k (omega arith))

pub some_weight : (x : ℕ) → (x ≡ 0 → ⊥) → 1 ≤ x
some_weight zero h = absurd (h refl)
some_weight (suc x) h = omega arith

-- 1 for a SKIP, and for a place of one
unfoldable pub skip_weight : Option Term → ℕ
skip_weight none = 0
skip_weight (some (Term.leaf (call n))) = 0
skip_weight (some (Term.leaf SKIP)) = 1
skip_weight (some (Term.leaf STOP)) = 0
skip_weight (some (Term.prefix e t)) = 0
skip_weight (some (Term.binary o t u)) = 0

pub skip_weighed : (o : Option Term) → 1 ≤ skip_weight o → o ≡ some (Term.leaf SKIP)
unfolding skip_weight
skip_weighed none l = absurd (omega arith)
skip_weighed (some (Term.leaf (call n))) l = absurd (omega arith)
skip_weighed (some (Term.leaf SKIP)) l = refl
skip_weighed (some (Term.leaf STOP)) l = absurd (omega arith)
skip_weighed (some (Term.prefix e t)) l = absurd (omega arith)
skip_weighed (some (Term.binary o t u)) l = absurd (omega arith)

abbrev pub skip_at : List Term → Place → ℕ
skip_at ts w = skip_weight (found ts w)

pub skip_sure : (ts : List Term) → Sure ts (skip_at ts)
unfolding skip_weight
skip_sure ts w e = rw e (omega arith)
