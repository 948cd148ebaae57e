-- Branches: in every run a labelled node that is no choice and no parallel has at most one arc to a labelled
-- node; a choice or parallel has such arcs to its sides only, and at most one to each; and a labelled node
-- with more than one arc into it is a sequence's. Two gauges tell it: of the arcs from a node to references
-- whose labels pass a test; and of the references with arcs from two nodes, which only two ended sides make,
-- for the Ω that a sequence labels. Assumes nothing.
use Rattle.std.proofs.Common.{ℕ, ◌+◌, ◌≤◌, ◌≡◌, refl, sym, ap, ◌∙◌, Bool, true, false, List, [], ◌∷◌, ◌⊎◌}
use Rattle.std.proofs.Common.{arith, eqb, ltb, eqb-true, eq-eqb, ne_eqb, lt-ltb}
use Rattle.std.proofs.lemmas.Bool.{eqb-false}
use mathlib.Core.List.Memᴰ
use Rattle.std.proofs.Math.Option.{Option, none, some}
use Rattle.lines.specs.Line.{choose}
use Rattle.terms.specs.Term.{external, parallel, Term}
use Rattle.terms.specs.Term as Term
use Rattle.places.specs.Place.{Place, under}
use Rattle.rules.specs.Process.{below, untouched}
use Rattle.rules.specs.Track.{Label, Pair}
use Rattle.rules.specs.Run.{State, Reached}
use Rattle.rules.proofs.Marked.{one, tally, label_counts, labelled_once}
use Rattle.rules.proofs.Meetings.{Labelled}
use Rattle.rules.proofs.Placed.{found}
use Rattle.rules.proofs.Weighed.{share, share_most, share_more, share_is, share_not, drawn_next}
use Rattle.rules.proofs.Weighed.{drawn_once, sum, sum_none, between, weight_of}
use Rattle.rules.proofs.Parents.{runs, arcs_once}
use Rattle.rules.proofs.Sided.{Splits, opens, Under, elsewhere, not_elsewhere, when, when_most}
use Rattle.rules.proofs.Sided.{allowance, allowance_one, allowance_sides, allowance_under}
use Rattle.rules.proofs.Sided.{allowance_elsewhere}
use Rattle.rules.proofs.Gauged.{Gauge, gauged}

-- any place passes
abbrev pub any : Place → Bool
any w = true

-- how many labels of j have a place that passes a test
abbrev pub passing : (Place → Bool) → ℕ → List Label → ℕ
passing v j ls = weight_of (λ w m. share j m (when (v w) 1)) ls

-- how many arcs lead from n to a reference with such a label
abbrev pub ways : (Place → Bool) → ℕ → List Label → List Pair → ℕ
ways v n ls g = sum (λ a. share n a.from (passing v a.to ls)) g

-- the sum over the references of such labels
abbrev over : (Place → Bool) → (ℕ → ℕ) → List Label → ℕ
over v f ls = weight_of (λ w m. when (v w) (f m)) ls

-- the same arcs, label by label
abbrev by_labels : (Place → Bool) → ℕ → List Label → List Pair → ℕ
by_labels v n ls g = over v (λ m. between n m g) ls

share_sum : (n m x y : ℕ) → share n m (x + y) ≡ share n m x + share n m y
unfolding share
share_sum n m x y = go (eqb n m)
  where
    go : (b : Bool) → choose b (x + y) 0 ≡ choose b x 0 + choose b y 0
    go true = refl
    go false = omega arith

share_turned : (n m x : ℕ) → share n m x ≡ share m n x
unfolding share
share_turned n m x = go (eqb n m) refl
  where
    go : (b : Bool) → eqb n m ≡ b → choose (eqb n m) x 0 ≡ choose (eqb m n) x 0
    go true e = rw (e, eq-eqb m n (sym (eqb-true n m e)))
    go false e = rw (e, ne_eqb m n (λ h. eqb-false n m e (sym h)))

when_sum : (b : Bool) (x y : ℕ) → when b (x + y) ≡ when b x + when b y
unfolding when
when_sum true x y = refl
when_sum false x y = omega arith

arc_passing : (b : Bool) (n i m j : ℕ) → when b (share n i (share m j 1)) ≡ share n i (share j m (when b 1))
unfolding when
arc_passing true n i m j = ap (share n i) (share_turned m j 1)
arc_passing false n i m j = omega (arith, share_most n i (share j m 0), share_most j m 0)

one_more : (v : Place → Bool) (n : ℕ) (a : Pair) (g : List Pair) (ls : List Label)
    → by_labels v n ls (a ∷ g) ≡ share n a.from (passing v a.to ls) + by_labels v n ls g
unfolding sum
one_more v n a g [] = omega (arith, share_most n a.from 0)
one_more v n a g (l ∷ ls) =
    let b = v l.place in
    let m = l.reference in
    omega (
      arith,
      one_more v n a g ls,
      when_sum b (share n a.from (share m a.to 1)) (between n m g),
      arc_passing b n a.from m a.to,
      share_sum n a.from (share a.to m (when b 1)) (passing v a.to ls),
    )

ways_by_labels : (v : Place → Bool) (n : ℕ) (ls : List Label) (g : List Pair)
    → ways v n ls g ≡ by_labels v n ls g
unfolding sum
ways_by_labels v n ls [] = go ls
  where
    go : (ls : List Label) → 0 ≡ over v (λ m. 0) ls
    go [] = refl
    go (l ∷ ls) = omega (arith, when_most (v l.place) 0, go ls)
ways_by_labels v n ls (a ∷ g) = omega (arith, ways_by_labels v n ls g, one_more v n a g ls)

-- a label that passes counts
counts : (v : Place → Bool) (f : ℕ → ℕ) {j : ℕ} {w : Place} {ls : List Label} → Labelled ls j w → v w ≡ true
    → 1 ≤ f j → 1 ≤ over v f ls
unfolding sum when
counts v f (Memᴰ.head {x = l} e) t h =
    let passes : v l.place ≡ true = ap (λ k. v k.place) (sym e) ∙ t in
    rw passes (omega (arith, h, ap (λ k. f k.reference) e))
counts v f (Memᴰ.tail i) t h = omega (arith, counts v f i t h)

-- of a reference labelled once, the labels weigh what its own does
weighs_none : (n : ℕ) (f : Place → ℕ) (ls : List Label) → tally n ls ≡ 0
    → weight_of (λ w m. share n m (f w)) ls ≡ 0
unfolding tally one share sum
weighs_none n f [] e = refl
weighs_none n f (l ∷ ls) e = go (eqb n l.reference) e (λ z. weighs_none n f ls z)
  where
    rest : ℕ
    rest = weight_of (λ w m. share n m (f w)) ls

    go : (b : Bool) → choose b 1 0 + tally n ls ≡ 0 → (tally n ls ≡ 0 → rest ≡ 0)
        → choose b (f l.place) 0 + rest ≡ 0
    go true z h = absurd (omega arith)
    go false z h = omega (arith, h (omega arith))

weighs_own : (n : ℕ) (w : Place) (f : Place → ℕ) {ls : List Label} → Labelled ls n w → tally n ls ≤ 1
    → weight_of (λ w m. share n m (f w)) ls ≤ f w
unfolding tally one share sum
weighs_own n w f (Memᴰ.head {x = l} {xs = ls} e) h =
    let same = eq-eqb n l.reference (ap (λ k. k.reference) e) in
    let others : tally n ls ≡ 0 = omega (arith, rw same at h) in
    rw same (omega (arith, ap (λ k. f k.place) e, weighs_none n f ls others))
weighs_own n w f (Memᴰ.tail {x = l} {xs = ls} i) h =
    go (eqb n l.reference) h (λ k. weighs_own n w f i k)
  where
    rest : ℕ
    rest = weight_of (λ w m. share n m (f w)) ls

    go : (b : Bool) → choose b 1 0 + tally n ls ≤ 1 → (tally n ls ≤ 1 → rest ≤ f w)
        → choose b (f l.place) 0 + rest ≤ f w
    go true z k = absurd (omega (arith, label_counts i))
    go false z k = omega (arith, k (omega arith))

-- what the sides of a split count for, they allow
share_sides : (n m : ℕ) (a b : Bool)
    → when a (share n m 1) + when b (share n m 1) ≤ share n m (when a 1 + when b 1)
unfolding share
share_sides n m a b = go (eqb n m)
  where
    go : (c : Bool) → when a (choose c 1 0) + when b (choose c 1 0) ≤ choose c (when a 1 + when b 1) 0
    go true = omega arith
    go false = omega (arith, when_most a 0, when_most b 0)

-- the gauge of the arcs from n to references whose labels pass
abbrev arcs_from : (ts : List Term) → List Pair → (Place → Bool) → ℕ → Gauge ts
arcs_from ts g v n = record {
  arcs = g;
  test = v;
  here = λ m. between n m g;
  last = λ m. between n m g;
  drawn_from = λ m. share n m 1;
  allows = λ w m. share n m (allowance v w (found ts w));
  least = λ m. omega arith;
  draws = λ m f h. h n;
  merges = λ a b f h. h n;
  single = λ w m h.
      share_more n m 1 (allowance v w (found ts w)) (omega (arith, allowance_one v w (found ts w) h));
  double = λ w k t u m e.
      let a = opens v (untouched (below w 1) t) in
      let b = opens v (untouched (below w 2) u) in
      omega (arith, share_sides n m a b, ap (share n m) (ap (allowance v w) e ∙ allowance_sides v w k t u));
  closes = λ w t u m e. when_most (v w) (between n m g);
}

-- a term is a sequence
abbrev pub Sequence : Option Term → Type 0
Sequence o = (t : Term) × (u : Term) × (o ≡ some (Term.binary Term.sequence t u))

-- the test whether a term is another
unfoldable unjoined : Option Term → Bool
unjoined none = true
unjoined (some (Term.leaf l)) = true
unjoined (some (Term.prefix e t)) = true
unjoined (some (Term.binary Term.internal t u)) = true
unjoined (some (Term.binary external t u)) = true
unjoined (some (Term.binary Term.sequence t u)) = false
unjoined (some (Term.binary (parallel x) t u)) = true

not_unjoined : (o : Option Term) → (unjoined o ≡ true → ⊥) → Sequence o
unfolding unjoined
not_unjoined none h = absurd (h refl)
not_unjoined (some (Term.leaf l)) h = absurd (h refl)
not_unjoined (some (Term.prefix e t)) h = absurd (h refl)
not_unjoined (some (Term.binary Term.internal t u)) h = absurd (h refl)
not_unjoined (some (Term.binary external t u)) h = absurd (h refl)
not_unjoined (some (Term.binary Term.sequence t u)) h = (t, u, refl)
not_unjoined (some (Term.binary (parallel x) t u)) h = absurd (h refl)

abbrev unjoined_at : List Term → Place → Bool
unjoined_at ts w = unjoined (found ts w)

-- the arcs to m from k, where i has one too
abbrev crossing : ℕ → ℕ → List Pair → ℕ → ℕ
crossing i k g m = when (ltb 0 (between i m g)) (between k m g)

-- none, where all arcs to it are from one node
not_crossing : (i k m f : ℕ) (g : List Pair) → (i ≡ k → ⊥) → ((n : ℕ) → between n f g ≤ share n m 1)
    → crossing i k g f ≤ 0
unfolding when
not_crossing i k m f g apart h = go (eqb i m) refl
  where
    go : (b : Bool) → eqb i m ≡ b → crossing i k g f ≤ 0
    go true e =
        let other : eqb k m ≡ false = ne_eqb k m (λ z. apart (eqb-true i m e ∙ sym z)) in
        omega (arith, h k, share_not k m 1 other, when_most (ltb 0 (between i f g)) (between k f g))
    go false e =
        let nothing : between i f g ≡ 0 = omega (arith, h i, share_not i m 1 e) in
        rw nothing (omega arith)

-- the gauge of the references with arcs from i and from k, but for Ω's and a sequence's
arcs_from_both : (ts : List Term) (g : List Pair) (i k : ℕ) → (i ≡ k → ⊥) → Gauge ts
unfolding unjoined when
arcs_from_both ts g i k apart = record {
  arcs = g;
  test = unjoined_at ts;
  here = crossing i k g;
  last = λ m. 0;
  drawn_from = λ m. 0;
  allows = λ w m. 0;
  least = λ m. omega arith;
  draws = λ m f h. not_crossing i k m f g apart h;
  merges = λ a b f h. omega arith;
  single = λ w m h. omega arith;
  double = λ w s t u m e.
      let a = opens (unjoined_at ts) (untouched (below w 1) t) in
      let b = opens (unjoined_at ts) (untouched (below w 2) u) in
      omega (arith, when_most a 0, when_most b 0);
  closes = λ w t u m e. rw e (omega arith);
}

-- how many arcs lead to j
abbrev pub into : ℕ → List Pair → ℕ
into j g = sum (λ a. share j a.to 1) g

arc_own : (a : Pair) (j : ℕ) → eqb j a.to ≡ true → share a.from a.from (share j a.to 1) ≡ 1
arc_own a j e =
    let i = a.from in
    share_is i i (share j a.to 1) (eq-eqb i i refl) ∙ share_is j a.to 1 e

parent : (j : ℕ) (g : List Pair) → 1 ≤ into j g → (i : ℕ) × (1 ≤ between i j g)
unfolding sum
parent j [] h = absurd (omega arith)
parent j (a ∷ g) h = go (eqb j a.to) refl (λ k. parent j g k)
  where
    go : (b : Bool) → eqb j a.to ≡ b → (1 ≤ into j g → (i : ℕ) × (1 ≤ between i j g))
        → (i : ℕ) × (1 ≤ between i j (a ∷ g))
    go true e more = (a.from, omega (arith, arc_own a j e))
    go false e more =
        let (i, k) = more (omega (arith, h, share_not j a.to 1 e)) in
        (i, omega arith)

-- two nodes have arcs to j
abbrev TwoParents : ℕ → List Pair → Type 0
TwoParents j g = (i : ℕ) × (k : ℕ) × (i ≡ k → ⊥) × (1 ≤ between i j g) × (1 ≤ between k j g)

-- so it is with more than one arc to j, where none is made twice
two_parents : (j : ℕ) (g : List Pair) → ((i : ℕ) → between i j g ≤ 1) → 2 ≤ into j g → TwoParents j g
unfolding sum
two_parents j [] few h = absurd (omega arith)
two_parents j (a ∷ g) few h = go (eqb j a.to) refl (λ few k. two_parents j g few k)
  where
    go : (b : Bool) → eqb j a.to ≡ b → (((i : ℕ) → between i j g ≤ 1) → 2 ≤ into j g → TwoParents j g)
        → TwoParents j (a ∷ g)
    go true e more =
        let i = a.from in
        let own = arc_own a j e in
        let (k, l) = parent j g (omega (arith, h, share_is j a.to 1 e)) in
        (i, k, λ z. omega (arith, few i, own, ap (λ n. between n j g) z), omega (arith, own), omega arith)
    go false e more =
        let (i, k, apart, l, l') =
        more (λ i. omega (arith, few i)) (omega (arith, h, share_not j a.to 1 e)) in
        (i, k, apart, omega arith, omega arith)

module _ (ts : List Term) {s : State} (p : Reached ts s) where
  -- no arc leads back to where control starts
  none_back : (i : ℕ) → between i 0 s.arcs ≡ 0
  none_back i =
      omega (arith, (runs ts p).once i 0, drawn_once 0 s.fresh, drawn_next 0 0, share_is 0 0 1 refl)

  module _ {n : ℕ} {w : Place} (h : Labelled s.labels n w) where
    -- a labelled node has no more such arcs than its label allows
    few_ways : (v : Place → Bool) → by_labels v n s.labels s.arcs ≤ allowance v w (found ts w)
    few_ways v = omega (
      arith,
      gauged ts p (arcs_from ts s.arcs v n) refl (none_back n),
      weighs_own n w (λ w. allowance v w (found ts w)) h (labelled_once ts p n),
    )

    -- one that is no choice and no parallel has at most one arc to a labelled node
    pub one_way_on : (Splits (found ts w) → ⊥) → ways any n s.labels s.arcs ≤ 1
    one_way_on splits_not = omega (
      arith,
      few_ways any,
      allowance_one any w (found ts w) splits_not,
      ways_by_labels any n s.labels s.arcs,
    )

    -- a choice or parallel has arcs to labelled nodes of its sides only
    pub sides_on : {j : ℕ} {v : Place} → Splits (found ts w) → Labelled s.labels j v
        → 1 ≤ between n j s.arcs → Under w 1 v ⊎ Under w 2 v
    sides_on {v = v} splits a to_j =
        not_elsewhere w v (λ e. omega (
          arith,
          counts (elsewhere w) (λ m. between n m s.arcs) a e to_j,
          few_ways (elsewhere w),
          allowance_elsewhere w (found ts w) splits,
        ))

    -- and at most one to each side
    pub sides_on_once : (x : ℕ) → Splits (found ts w) → ways (under w x) n s.labels s.arcs ≤ 1
    sides_on_once x splits = omega (
      arith,
      few_ways (under w x),
      allowance_under w x (found ts w) splits,
      ways_by_labels (under w x) n s.labels s.arcs,
    )

    -- a labelled node with arcs into it from two nodes is a sequence's
    pub joined_from_two : (i k : ℕ) → (i ≡ k → ⊥) → 1 ≤ between i n s.arcs → 1 ≤ between k n s.arcs
        → Sequence (found ts w)
    unfolding arcs_from_both when
    joined_from_two i k apart from_i from_k =
        let g = s.arcs in
        let at_start : crossing i k g 0 ≡ 0 =
        omega (arith, none_back k, when_most (ltb 0 (between i 0 g)) (between k 0 g)) in
        let here : 1 ≤ crossing i k g n = rw (lt-ltb 0 (between i n g) from_i) from_k in
        not_unjoined (found ts w) (λ e. omega (
          arith,
          gauged ts p (arcs_from_both ts g i k apart) refl at_start,
          counts (unjoined_at ts) (crossing i k g) h e here,
          sum_none s.labels,
        ))

    -- and so is one with more than one arc into it
    pub joined_at_sequences : 2 ≤ into n s.arcs → Sequence (found ts w)
    joined_at_sequences l =
        let (i, k, apart, from_i, from_k) = two_parents n s.arcs (λ i. arcs_once ts p i n) l in
        joined_from_two i k apart from_i from_k
