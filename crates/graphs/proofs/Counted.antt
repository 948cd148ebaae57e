-- Labels and arcs, looked up and counted: a reference labelled once is looked up as it is labelled, a pair is among
-- some exactly where it counts, and of the labelled references that a node leads to a test keeps no more than the
-- node has ways to labels that pass. By induction over the lists. Assumes nothing.
use Rattle.std.proofs.Common.{ℕ, suc, ◌+◌, ◌*◌, ◌≤◌, ◌≡◌, refl, sym, ap, ap₂, ◌∙◌, Bool, true, false, ◌&&◌}
use Rattle.std.proofs.Common.{◌||◌, List, [], ◌∷◌, ◌↔◌, arith, length, eqb, eqb-true, eq-eqb}
use mathlib.Core.List.Memᴰ
use Rattle.std.proofs.Math.Option.{Option, none, some}
use Rattle.lines.specs.Line.{choose}
use Rattle.places.specs.Place.{Place}
use Rattle.rules.specs.Track.{Label, lookup, Pair}
use Rattle.rules.proofs.Marked.{one, tally, label_counts}
use Rattle.rules.proofs.Meetings.{times, Labelled}
use Rattle.rules.proofs.Weighed.{share, share_is, sum, between, out}
use Rattle.rules.proofs.Sided.{when}
use Rattle.rules.proofs.Branches.{passing, ways}
use Rattle.graphs.specs.Graph.{present, keep, heads, joins}
use Rattle.graphs.specs.Shape.{every}

-- what is looked up is labelled
pub lookup_labelled : {n : ℕ} {w : Place} (ls : List Label) → lookup n ls ≡ some w → Labelled ls n w
unfolding lookup
lookup_labelled [] e = let z : ◌≡◌ {A = ℕ} 0 1 = cc in absurd (omega arith)
lookup_labelled {n = n} {w = w} (l ∷ ls) e = go (eqb n l.reference) refl e (lookup_labelled ls)
  where
    go : (b : Bool) → eqb n l.reference ≡ b → choose b (some l.place) (lookup n ls) ≡ some w
        → (lookup n ls ≡ some w → Labelled ls n w) → Labelled (l ∷ ls) n w
    go true q e more =
        let at : w ≡ l.place = cc in
        Memᴰ.head (ap₂ (λ n w. record { reference = n; place = w }) (eqb-true n l.reference q) at)
    go false q e more = Memᴰ.tail (more e)

-- what is labelled once is looked up so
pub labelled_lookup : {n : ℕ} {w : Place} {ls : List Label} → Labelled ls n w → tally n ls ≤ 1
    → lookup n ls ≡ some w
unfolding lookup tally one
labelled_lookup {n = n} (Memᴰ.head {x = l} e) h =
    rw (eq-eqb n l.reference (ap (λ k. k.reference) e)) (ap (λ k. some k.place) (sym e))
labelled_lookup {n = n} {w = w} (Memᴰ.tail {x = l} {xs = ls} i) h =
    go (eqb n l.reference) h (λ k. labelled_lookup i k)
  where
    go : (b : Bool) → choose b 1 0 + tally n ls ≤ 1 → (tally n ls ≤ 1 → lookup n ls ≡ some w)
        → choose b (some l.place) (lookup n ls) ≡ some w
    go true h more = absurd (omega (arith, label_counts i))
    go false h more = more (omega arith)

-- meetings count as arcs do
pub times_between : (i j : ℕ) (g : List Pair) → times i j g ≡ between i j g
unfolding times sum one share
times_between i j [] = refl
times_between i j (a ∷ g) = go (eqb i a.from) (eqb j a.to) (times_between i j g)
  where
    go : (b c : Bool) → times i j g ≡ between i j g
        → choose b 1 0 * choose c 1 0 + times i j g ≡ choose b (choose c 1 0) 0 + between i j g
    go true true h = omega (arith, h)
    go true false h = omega (arith, h)
    go false true h = omega (arith, h)
    go false false h = omega (arith, h)

-- a pair is among some exactly where it counts
pub joins_between : (i j : ℕ) (g : List Pair) → (joins g i j ≡ true) ↔ (1 ≤ between i j g)
unfolding joins sum share
joins_between i j [] = (λ e. let z : ◌≡◌ {A = ℕ} 0 1 = cc in absurd (omega arith), λ h. absurd (omega arith))
joins_between i j (a ∷ g) = go (eqb i a.from) (eqb j a.to) (joins_between i j g)
  where
    go : (b c : Bool) → (joins g i j ≡ true) ↔ (1 ≤ between i j g)
        → (((b && c) || joins g i j) ≡ true) ↔ (1 ≤ choose b (choose c 1 0) 0 + between i j g)
    go true true h = (λ e. omega arith, λ l. refl)
    go true false h = (λ e. omega (arith, h.0 e), λ l. h.1 (omega (arith, l)))
    go false c h = (λ e. omega (arith, h.0 e), λ l. h.1 (omega (arith, l)))

pub joins_times : (i j : ℕ) (g : List Pair) → (joins g i j ≡ true) ↔ (1 ≤ times i j g)
joins_times i j g = rw (times_between i j g) (joins_between i j g)

-- no more are kept than there are, and all where all pass
pub keep_most : (t : ℕ → Bool) (ns : List ℕ) → length (keep t ns) ≤ length ns
unfolding keep
keep_most t [] = omega arith
keep_most t (n ∷ ns) = go (t n) (keep_most t ns)
  where
    go : (b : Bool) → length (keep t ns) ≤ length ns
        → length (choose b (n ∷ keep t ns) (keep t ns)) ≤ suc (length ns)
    go true h = omega arith
    go false h = omega arith

pub keep_all : (ns : List ℕ) → length (keep (λ n. true) ns) ≡ length ns
unfolding keep
keep_all [] = refl
keep_all (n ∷ ns) = omega (arith, keep_all ns)

-- as many as arcs lead out
pub heads_out : (n : ℕ) (g : List Pair) → length (heads n g) ≡ out n g
unfolding heads sum share
heads_out n [] = refl
heads_out n (a ∷ g) = go (eqb n a.from) (heads_out n g)
  where
    go : (b : Bool) → length (heads n g) ≡ out n g
        → length (choose b (a.to ∷ heads n g) (heads n g)) ≡ choose b 1 0 + out n g
    go true h = omega (arith, h)
    go false h = omega (arith, h)

-- a label that passes counts
passing_counts : (v : Place → Bool) (m : ℕ) (w : Place) (ls : List Label) → lookup m ls ≡ some w → v w ≡ true
    → 1 ≤ passing v m ls
unfolding lookup sum share when
passing_counts v m w [] e h = let z : ◌≡◌ {A = ℕ} 0 1 = cc in absurd (omega arith)
passing_counts v m w (l ∷ ls) e h = go (eqb m l.reference) e (λ k. passing_counts v m w ls k h)
  where
    go : (b : Bool) → choose b (some l.place) (lookup m ls) ≡ some w
        → (lookup m ls ≡ some w → 1 ≤ passing v m ls)
        → 1 ≤ choose b (choose (v l.place) 1 0) 0 + passing v m ls
    go true e more =
        let same : l.place ≡ w = cc in
        let passes : v l.place ≡ true = ap v same ∙ h in
        rw passes (omega arith)
    go false e more = omega (arith, more e)

-- where the arcs from n lead to labelled references
module _ (n : ℕ) (ls : List Label) where
  abbrev labelled_heads : List Pair → List ℕ
  labelled_heads g = keep (λ m. present (lookup m ls)) (heads n g)

  -- those to which an arc of some leads
  abbrev Reach : List Pair → (ℕ → Place → Type 0) → Type 0
  Reach g S = (m : ℕ) (w : Place) → lookup m ls ≡ some w → 1 ≤ between n m g → S m w

  -- the first arc leads to one, and so do the others
  arc_here : (a : Pair) (g : List Pair) → eqb n a.from ≡ true → 1 ≤ between n a.to (a ∷ g)
  unfolding sum
  arc_here a g e =
      let k = a.to in
      omega (arith, share_is n a.from (share k k 1) e, share_is k k 1 (eq-eqb k k refl))

  reach_more : (a : Pair) (g : List Pair) (S : ℕ → Place → Type 0) → Reach (a ∷ g) S → Reach g S
  unfolding sum
  reach_more a g S h m w e l = h m w e (omega (arith, l))

  -- each of them passes
  pub every_head : (t : ℕ → Bool) (g : List Pair) → Reach g (λ m w. t m ≡ true)
      → every t (labelled_heads g) ≡ true
  unfolding heads keep every present
  every_head t [] h = refl
  every_head t (a ∷ g) h = by_arc (eqb n a.from) refl (every_head t g (reach_more a g _ h))
    where
      by_label : eqb n a.from ≡ true → (o : Option Place) → lookup a.to ls ≡ o
          → every t (labelled_heads g) ≡ true
          → every t (choose (present o) (a.to ∷ labelled_heads g) (labelled_heads g)) ≡ true
      by_label q none e k = k
      by_label q (some w) e k = rw (h a.to w e (arc_here a g q)) k

      by_arc : (b : Bool) → eqb n a.from ≡ b → every t (labelled_heads g) ≡ true
          → every t (keep (λ m. present (lookup m ls)) (choose b (a.to ∷ heads n g) (heads n g))) ≡ true
      by_arc true q k = by_label q _ refl k
      by_arc false q k = k

  -- those that a test keeps are ways to labels that pass
  abbrev Few : (Place → Bool) → (ℕ → Bool) → List Pair → Type 0
  Few v t g = length (keep t (labelled_heads g)) ≤ ways v n ls g

  pub few_heads : (v : Place → Bool) (t : ℕ → Bool) (g : List Pair) → Reach g (λ m w. t m ≡ true → v w ≡ true)
      → Few v t g
  unfolding heads keep sum share present
  few_heads v t [] h = omega arith
  few_heads v t (a ∷ g) h = by_arc (eqb n a.from) refl (few_heads v t g (reach_more a g _ h))
    where
      by_test : eqb n a.from ≡ true → (w : Place) → lookup a.to ls ≡ some w → (b : Bool) → t a.to ≡ b
          → Few v t g
          → length (choose b (a.to ∷ keep t (labelled_heads g)) (keep t (labelled_heads g)))
          ≤ passing v a.to ls + ways v n ls g
      by_test q w e true i k =
          omega (arith, k, passing_counts v a.to w ls e (h a.to w e (arc_here a g q) i))
      by_test q w e false i k = omega (arith, k)

      by_label : eqb n a.from ≡ true → (o : Option Place) → lookup a.to ls ≡ o → Few v t g
          → length (keep t (choose (present o) (a.to ∷ labelled_heads g) (labelled_heads g)))
          ≤ passing v a.to ls + ways v n ls g
      by_label q none e k = omega (arith, k)
      by_label q (some w) e k = by_test q w e _ refl k

      by_arc : (b : Bool) → eqb n a.from ≡ b → Few v t g
          → length (keep t (keep (λ m. present (lookup m ls)) (choose b (a.to ∷ heads n g) (heads n g))))
          ≤ choose b (passing v a.to ls) 0 + ways v n ls g
      by_arc true q k = by_label q _ refl k
      by_arc false q k = omega (arith, k)
