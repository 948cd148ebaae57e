-- What is seen of tracks in two orders: places, arcs and meetings are carried by the map, since no order of a
-- list shows in them; for places no reference may be labelled twice. Labels of references that a map fixes are
-- fixed. Assumes nothing.
use Rattle.std.proofs.Common.{ℕ, ◌+◌, ◌≤◌, ◌<◌, ◌≡◌, refl, sym, ap, ap₂, ◌∙◌, Bool, true, false, ◌||◌, List}
use Rattle.std.proofs.Common.{[], ◌∷◌, ◌++◌, map, arith, eqb}
use Rattle.std.proofs.Math.Bool.{or_comm}
use Rattle.std.proofs.Math.Option.{Option, none, some}
use Rattle.lines.specs.Line.{choose}
use Rattle.places.specs.Place.{Place}
use Rattle.rules.specs.Track.{Label, lookup, Pair}
use Rattle.rules.proofs.Marked.{one, one_same, past, past_drawn, tally, tally_append, label_counts}
use Rattle.graphs.specs.Graph.{joins, meets}
use Rattle.graphs.proofs.Pairs.{joins_append}
use Rattle.graphs.proofs.Counted.{lookup_labelled}
use Rattle.exchange.proofs.RenamedSteps.{on_label, on_pair, eqb_renamed}
use Rattle.exchange.proofs.Swapped.{Swaps}

-- the first of two that is there
abbrev or_else : Option Place → Option Place → Option Place
or_else none o = o
or_else (some w) o = some w

lookup_append : (n : ℕ) (ls ms : List Label) → lookup n (ls ++ ms) ≡ or_else (lookup n ls) (lookup n ms)
unfolding lookup
lookup_append n [] ms = refl
lookup_append n (l ∷ ls) ms = rw (lookup_append n ls ms) (go (eqb n l.reference))
  where
    go : (b : Bool) → choose b (some l.place) (or_else (lookup n ls) (lookup n ms))
        ≡ or_else (choose b (some l.place) (lookup n ls)) (lookup n ms)
    go true = refl
    go false = refl

-- two lists of which at most one has a label of n, in either order
lookup_either : (n : ℕ) (ls ms : List Label) → tally n ls + tally n ms ≤ 1
    → or_else (lookup n ms) (lookup n ls) ≡ or_else (lookup n ls) (lookup n ms)
lookup_either n ls ms h = go (lookup n ls) (lookup n ms) refl refl
  where
    go : (o o' : Option Place) → lookup n ls ≡ o → lookup n ms ≡ o' → or_else o' o ≡ or_else o o'
    go none none e e' = refl
    go none (some w) e e' = refl
    go (some w) none e e' = refl
    go (some w) (some v) e e' =
        absurd (omega (arith, h, label_counts (lookup_labelled ls e), label_counts (lookup_labelled ms e')))

module _ (φ : ℕ → ℕ) (apart : (n m : ℕ) → φ n ≡ φ m → n ≡ m) where
  lookup_renamed : (n : ℕ) (ls : List Label) → lookup (φ n) (map (on_label φ) ls) ≡ lookup n ls
  unfolding lookup
  lookup_renamed n [] = refl
  lookup_renamed n (l ∷ ls) = rw (eqb_renamed φ apart n l.reference, lookup_renamed n ls)

  joins_renamed : (g : List Pair) (n m : ℕ) → joins (map (on_pair φ) g) (φ n) (φ m) ≡ joins g n m
  unfolding joins
  joins_renamed [] n m = refl
  joins_renamed (a ∷ g) n m =
      rw (eqb_renamed φ apart n a.from, eqb_renamed φ apart m a.to, joins_renamed g n m)

  -- places are carried
  pub swaps_lookup : {xs ys : List Label} → Swaps (on_label φ) xs ys → (n : ℕ) → tally n xs ≤ 1
      → lookup (φ n) ys ≡ lookup n xs
  swaps_lookup {xs = xs} k n h =
      let p = k.first in
      let u = k.former in
      let v = k.latter in
      let f = map (on_label φ) in
      let few : tally n u + tally n v ≤ 1 = omega (
        arith,
        h,
        ap (tally n) k.here,
        tally_append n p (u ++ v),
        tally_append n u v,
      ) in
      ap (lookup (φ n)) k.there
      ∙ lookup_append (φ n) (f p) (f v ++ f u)
      ∙ rw (lookup_append (φ n) (f v) (f u), lookup_renamed n p, lookup_renamed n v, lookup_renamed n u)
      (ap (or_else (lookup n p)) (lookup_either n u v few ∙ sym (lookup_append n u v)))
      ∙ sym (lookup_append n p (u ++ v))
      ∙ ap (lookup n) (sym k.here)

  -- arcs are carried
  pub swaps_joins : {xs ys : List Pair} → Swaps (on_pair φ) xs ys → (n m : ℕ)
      → joins ys (φ n) (φ m) ≡ joins xs n m
  swaps_joins k n m =
      let p = k.first in
      let u = k.former in
      let v = k.latter in
      let f = map (on_pair φ) in
      ap (λ g. joins g (φ n) (φ m)) k.there
      ∙ joins_append (f p) (f v ++ f u) (φ n) (φ m)
      ∙ rw (joins_append (f v) (f u) (φ n) (φ m), joins_renamed p n m, joins_renamed v n m, joins_renamed u n m)
      (ap (λ b. joins p n m || b) (or_comm (joins v n m) (joins u n m) ∙ sym (joins_append u v n m)))
      ∙ sym (joins_append p (u ++ v) n m)
      ∙ ap (λ g. joins g n m) (sym k.here)

  -- and meetings
  pub swaps_meets : {xs ys : List Pair} → Swaps (on_pair φ) xs ys → (n m : ℕ)
      → meets ys (φ n) (φ m) ≡ meets xs n m
  swaps_meets k n m = ap₂ (λ b c. b || c) (swaps_joins k n m) (swaps_joins k m n)

-- labels of references below f are fixed by a map that fixes what is below f
pub labels_fixed : (φ : ℕ → ℕ) (f : ℕ) → ((n : ℕ) → n < f → φ n ≡ n) → (ls : List Label)
    → ((n : ℕ) → tally n ls ≤ past n f) → map (on_label φ) ls ≡ ls
unfolding tally
labels_fixed φ f fixes [] h = refl
labels_fixed φ f fixes (l ∷ ls) h =
    let i = l.reference in
    let here : one i i + tally i ls ≤ past i f = h i in
    let low = past_drawn i f (omega (arith, here, one_same i i refl)) in
    ap₂ (λ n ks. record { reference = n; place = l.place } ∷ ks) (fixes i low)
    (labels_fixed φ f fixes ls (λ n. let all : one n i + tally n ls ≤ past n f = h n in omega (arith, all)))
