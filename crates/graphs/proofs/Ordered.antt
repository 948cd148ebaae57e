-- The order of a track's references. Distinct references have no more ways on than there are arcs, so the
-- walk of a graph comes to an end, and its order is distinct, of labelled references, and closed under
-- labelled arcs. In a run every labelled reference but 0 has an arc into it from a smaller one, which is
-- labelled, so the order has every labelled reference. Assumes nothing.
use Rattle.std.proofs.Common.{ℕ, zero, suc, ◌+◌, ◌≤◌, ◌<◌, ◌≡◌, refl, sym, ap, ◌∙◌, Bool, true, false, ◌&&◌}
use Rattle.std.proofs.Common.{◌||◌, not, List, [], ◌∷◌, ◌++◌, inl, inr, arith, length, length-append, eqb}
use Rattle.std.proofs.Common.{eqb-true, eq-eqb}
use Rattle.std.proofs.Math.Option.{some}
use Rattle.lines.specs.Line.{choose}
use Rattle.terms.specs.Term.{Term}
use Rattle.rules.specs.Track.{Label, Pair, lookup}
use Rattle.rules.specs.Run.{State, Reached}
use Rattle.rules.proofs.Offered.{or_right}
use Rattle.rules.proofs.Drawn.{Into}
use Rattle.rules.proofs.Marked.{one, tally, past_drawn, reached_marked}
use Rattle.rules.proofs.Climbing.{Up, reached_climbed}
use Rattle.rules.proofs.Parents.{arcs_from_labelled}
use Rattle.rules.proofs.Weighed.{sum, sum_none, share, out, labelled_tally}
use Rattle.graphs.specs.Graph.{Graph, graph_of, present, labelled, keep, heads, targets, side, next}
use Rattle.graphs.specs.Graph.{joins}
use Rattle.graphs.specs.Walk.{among, walk, order}
use Rattle.graphs.proofs.Walking.{Distinct, Within, Closed, among_append, among_first, among_none}
use Rattle.graphs.proofs.Walking.{within_none, walk_distinct, walk_within, walk_extends, Ends}
use Rattle.graphs.proofs.Walking.{walk_more, walk_closed, sum_both, sum_least, sum_one, ends_by_load}

and_first : (a b : Bool) → (a && b) ≡ true → a ≡ true
and_first true b e = refl
and_first false b e = e

-- who is kept passes the test
pub among_keep : (t : ℕ → Bool) (m : ℕ) (xs : List ℕ) → among m (keep t xs) ≡ (t m && among m xs)
unfolding among keep
among_keep t m [] = go (t m)
  where
    go : (b : Bool) → false ≡ (b && false)
    go true = refl
    go false = refl
among_keep t m (x ∷ xs) =
    go (t x) (eqb m x) refl (λ e. ap t (eqb-true m x e)) (among_keep t m xs)
  where
    go : (b c : Bool) → eqb m x ≡ c → (c ≡ true → t m ≡ b) → among m (keep t xs) ≡ (t m && among m xs)
        → among m (choose b (x ∷ keep t xs) (keep t xs)) ≡ (t m && (c || among m xs))
    go true true q same h = rw (q, same refl)
    go true false q same h = rw q h
    go false true q same h = rw (same refl) (rw (same refl) at h)
    go false false q same h = h

-- a list parted by a test has its length
parted_length : (t : ℕ → Bool) (xs : List ℕ) → length (keep t xs) + length (keep (λ n. not (t n)) xs) ≡ length xs
unfolding keep
parted_length t [] = refl
parted_length t (x ∷ xs) = go (t x) (parted_length t xs)
  where
    go : (b : Bool) → length (keep t xs) + length (keep (λ n. not (t n)) xs) ≡ length xs
        → length (choose b (x ∷ keep t xs) (keep t xs))
        + length (choose (not b) (x ∷ keep (λ n. not (t n)) xs) (keep (λ n. not (t n)) xs)) ≡ suc (length xs)
    go true h = omega arith
    go false h = omega arith

-- where arcs lead
pub among_heads : (n m : ℕ) (as' : List Pair) → among m (heads n as') ≡ joins as' n m
unfolding among heads joins
among_heads n m [] = refl
among_heads n m (a ∷ as') = go (eqb n a.from) (among_heads n m as')
  where
    go : (b : Bool) → among m (heads n as') ≡ joins as' n m
        → among m (choose b (a.to ∷ heads n as') (heads n as')) ≡ ((b && eqb m a.to) || joins as' n m)
    go true h = ap (λ c. eqb m a.to || c) h
    go false h = h

module _ (g : Graph) where
  -- a target is labelled, and one of the arcs leads to it
  pub targets_joined : (n m : ℕ) → among m (targets g n) ≡ (labelled g m && joins g.arcs n m)
  targets_joined n m =
      among_keep (labelled g) m (heads n g.arcs) ∙ ap (λ b. labelled g m && b) (among_heads n m g.arcs)

  -- the walk goes on to the targets
  pub next_targets : (n m : ℕ) → among m (next g n) ≡ among m (targets g n)
  unfolding next
  next_targets n m =
      rw (
        among_append m (keep (side g 1 n) (targets g n)) (keep (λ k. not (side g 1 n k)) (targets g n)),
        among_keep (side g 1 n) m (targets g n),
        among_keep (λ k. not (side g 1 n k)) m (targets g n),
      )
      (go (side g 1 n m) (among m (targets g n)))
    where
      go : (b c : Bool) → ((b && c) || (not b && c)) ≡ c
      go true true = refl
      go true false = refl
      go false c = refl

-- distinct references have no more arcs than there are
heads_load : (as' : List Pair) (xs : List ℕ) → Distinct xs → sum (λ n. length (heads n as')) xs ≤ length as'
unfolding heads one
heads_load [] xs d = omega (arith, sum_none xs)
heads_load (a ∷ as') xs d =
    omega (
      arith,
      sum_least (λ n. length (heads n (a ∷ as'))) (λ n. one n a.from + length (heads n as')) xs
          (λ n i. go n (eqb n a.from)),
      sum_both (λ n. one n a.from) (λ n. length (heads n as')) xs,
      sum_one a.from xs d,
      heads_load as' xs d,
    )
  where
    go : (n : ℕ) (b : Bool)
        → length (choose b (a.to ∷ heads n as') (heads n as')) ≤ choose b 1 0 + length (heads n as')
    go n true = omega arith
    go n false = omega arith

module _ (g : Graph) where
  -- the domain of the walk
  abbrev Labelled : ℕ → Type 0
  Labelled n = labelled g n ≡ true

  -- the walk stays among labelled references
  next_labelled : Closed Labelled (next g)
  next_labelled n h m i =
      and_first (labelled g m) (joins g.arcs n m) (sym (targets_joined g n m) ∙ sym (next_targets g n m) ∙ i)

  -- from the first, where that is labelled
  abbrev begin : List ℕ
  begin = keep (labelled g) (0 ∷ [])

  begin_labelled : Within Labelled begin
  begin_labelled m i =
      and_first (labelled g m) (among m (0 ∷ [])) (sym (among_keep (labelled g) m (0 ∷ [])) ∙ i)

  -- distinct references have no more ways on than there are arcs
  next_load : (xs : List ℕ) → Distinct xs → sum (λ n. length (next g n)) xs ≤ length g.arcs
  unfolding next
  next_load xs d =
      omega (
        arith,
        sum_least (λ n. length (next g n)) (λ n. length (heads n g.arcs)) xs (λ n i. omega (
          arith,
          length-append (keep (side g 1 n) (targets g n)) (keep (λ m. not (side g 1 n m)) (targets g n)),
          parted_length (side g 1 n) (targets g n),
          parted_length (labelled g) (heads n g.arcs),
        )),
        heads_load g.arcs xs d,
      )

  -- so the walk ends
  order_ends : Ends (next g) (suc (length g.arcs)) begin []
  unfolding sum
  order_ends =
      ends_by_load (next g) Labelled next_labelled (length g.arcs) (λ xs d h. next_load xs d) _ begin []
      begin_labelled (within_none Labelled) tt (omega (arith, parted_length (labelled g) (0 ∷ [])))

  -- more turns give the same order
  pub order_enough : (f : ℕ) → suc (length g.arcs) ≤ f
      → walk f (next g) (keep (labelled g) (0 ∷ [])) [] ≡ order g
  unfolding order
  order_enough f l = (walk_more (next g) (suc (length g.arcs)) f begin [] order_ends l).0

  -- numbers are given once
  pub order_distinct : Distinct (order g)
  unfolding order
  order_distinct = walk_distinct (next g) (suc (length g.arcs)) begin [] tt

  -- to labelled references
  pub order_labelled : (n : ℕ) → among n (order g) ≡ true → labelled g n ≡ true
  unfolding order
  order_labelled =
      walk_within (next g) Labelled next_labelled (suc (length g.arcs)) begin [] begin_labelled
      (within_none Labelled)

  -- to 0 first
  pub order_begins : labelled g 0 ≡ true → (rest : List ℕ) × (order g ≡ 0 ∷ rest)
  unfolding order walk keep among
  order_begins h = rw h (walk_extends (next g) (length g.arcs) (next g 0 ++ []) (0 ∷ []))

  pub order_first : labelled g 0 ≡ true → among 0 (order g) ≡ true
  order_first h = let (rest, e) = order_begins h in rw e (among_first 0 rest)

  -- and wherever a labelled arc leads from a reference that has its number
  pub order_closed : (n m : ℕ) → among n (order g) ≡ true → among m (next g n) ≡ true → among m (order g) ≡ true
  unfolding order
  order_closed n m i =
      (walk_closed (next g) (suc (length g.arcs)) begin [] order_ends (λ k j. absurd (among_none k j))).1 n i m

-- a reference is labelled where labels count it
pub label_counted : (n : ℕ) (ls : List Label) → present (lookup n ls) ≡ true → 1 ≤ tally n ls
unfolding present lookup tally one
label_counted n [] h = let z : ◌≡◌ {A = ℕ} 0 1 = cc in absurd (omega arith)
label_counted n (l ∷ ls) h = go (eqb n l.reference) (label_counted n ls) h
  where
    go : (b : Bool) → (present (lookup n ls) ≡ true → 1 ≤ tally n ls)
        → present (choose b (some l.place) (lookup n ls)) ≡ true → 1 ≤ choose b 1 0 + tally n ls
    go true further h = omega arith
    go false further h = omega (arith, further h)

pub counted_label : (n : ℕ) (ls : List Label) → 1 ≤ tally n ls → present (lookup n ls) ≡ true
unfolding present lookup tally one
counted_label n [] h = absurd (omega arith)
counted_label n (l ∷ ls) h = go (eqb n l.reference) (λ k. counted_label n ls k) h
  where
    go : (b : Bool) → (1 ≤ tally n ls → present (lookup n ls) ≡ true) → 1 ≤ choose b 1 0 + tally n ls
        → present (choose b (some l.place) (lookup n ls)) ≡ true
    go true further h = refl
    go false further h = further (omega arith)

-- an arc that joins starts where it starts
pub joined_out : (n m : ℕ) (as' : List Pair) → joins as' n m ≡ true → 1 ≤ out n as'
unfolding joins sum share
joined_out n m [] h = let z : ◌≡◌ {A = ℕ} 0 1 = cc in absurd (omega arith)
joined_out n m (a ∷ as') h = go (eqb n a.from) (λ k. joined_out n m as' k) h
  where
    go : (b : Bool) → (joins as' n m ≡ true → 1 ≤ out n as')
        → ((b && eqb m a.to) || joins as' n m) ≡ true → 1 ≤ choose b 1 0 + out n as'
    go true further h = omega arith
    go false further h = omega (arith, further h)

-- where arcs climb, one that leads to n is from a smaller reference
pub into_joined : (f n : ℕ) (as' : List Pair) → Up f as' → Into as' n → (m : ℕ) × (m < n) × (joins as' m n ≡ true)
unfolding joins
into_joined f n [] up i = absurd i
into_joined f n (a ∷ as') up (inl e) =
    (a.from, omega (arith, up.0), rw (eq-eqb a.from a.from refl, eq-eqb n a.to (sym e)))
into_joined f n (a ∷ as') up (inr i) =
    let (m, l, j) = into_joined f n as' up.2 i in
    (m, l, or_right (eqb m a.from && eqb n a.to) (joins as' m n) j)

module _ (ts : List Term) {s : State} (p : Reached ts s) where
  -- a labelled reference has been drawn
  pub labelled_drawn : (n : ℕ) → labelled (graph_of s) n ≡ true → n < s.fresh
  labelled_drawn n h =
      past_drawn n s.fresh (omega (arith, label_counted n s.labels h, (reached_marked ts p).summed n))

  -- an arc starts at a labelled reference
  pub joined_labelled : (n m : ℕ) → joins s.arcs n m ≡ true → labelled (graph_of s) n ≡ true
  joined_labelled n m j =
      counted_label n s.labels
      (labelled_tally (λ w. Unit {0}) n s.labels (arcs_from_labelled ts p n (joined_out n m s.arcs j)))

  -- each labelled reference has its number
  reaches_below : (b n : ℕ) → n < b → labelled (graph_of s) n ≡ true → among n (order (graph_of s)) ≡ true
  reaches_below zero n l h = absurd (omega arith)
  reaches_below (suc b) zero l h = order_first (graph_of s) h
  reaches_below (suc b) (suc n) l h =
      let g = graph_of s in
      let climbed = reached_climbed ts p in
      let (m, less, j) = into_joined s.fresh (suc n) s.arcs climbed.up
      (climbed.covers (suc n) (omega arith) (labelled_drawn (suc n) h)) in
      order_closed g m (suc n) (reaches_below b m (omega arith) (joined_labelled m (suc n) j))
      (next_targets g m (suc n) ∙ targets_joined g m (suc n) ∙ rw (h, j))

  pub run_reaches : (n : ℕ) → labelled (graph_of s) n ≡ true → among n (order (graph_of s)) ≡ true
  run_reaches n h = reaches_below (suc n) n (omega arith) h
