-- A map that carries a part of one graph to another carries the order of the walk. Where each node has at
-- most one way on of each kind, the ways on are known by who is among them, so the mapped ways on are those
-- of the other graph; and the walk of renamed ways on is the renamed walk. Assumes nothing.
use Rattle.std.proofs.Common.{ℕ, suc, ◌+◌, ◌≤◌, ◌≡◌, refl, sym, ap, ◌∙◌, subst, Bool, true, false, ◌&&◌, not}
use Rattle.std.proofs.Common.{List, [], ◌∷◌, map, arith, length}
use Rattle.std.proofs.lemmas.List.{map-append}
use Rattle.lines.specs.Line.{choose}
use Rattle.lines.proofs.Digits.{both}
use Rattle.rules.specs.Track.{lookup}
use Rattle.graphs.specs.Graph.{joins, Graph, labelled, keep, targets, side, next}
use Rattle.graphs.specs.Walk.{among, walk, order}
use Rattle.graphs.proofs.Walking.{Within, Closed, among_first, among_none, among_only, within_none}
use Rattle.graphs.proofs.Walking.{OneToOne, walk_renamed}
use Rattle.graphs.proofs.Ordered.{among_keep, targets_joined, next_targets, order_enough}

-- of the ways on to the .1 side, and of the others, a node has at most one
abbrev pub NarrowAt : Graph → ℕ → Type 0
NarrowAt g n = (length (keep (side g 1 n) (targets g n)) ≤ 1)
    × (length (keep (λ m. not (side g 1 n m)) (targets g n)) ≤ 1)

-- and each node has
abbrev pub Narrow : Graph → Type 0
Narrow g = (n : ℕ) → NarrowAt g n

-- a labelled target that passes a test
abbrev pub way : Graph → (ℕ → Bool) → ℕ → ℕ → Bool
way g t n m = t m && (labelled g m && joins g.arcs n m)

-- who is among those kept
pub among_ways : (g : Graph) (t : ℕ → Bool) (n m : ℕ) → among m (keep t (targets g n)) ≡ way g t n m
among_ways g t n m = among_keep t m (targets g n) ∙ ap (λ b. t m && b) (targets_joined g n m)

-- what a way on is
pub way_parts : (g : Graph) (t : ℕ → Bool) (n m : ℕ) → way g t n m ≡ true
    → (t m ≡ true) × (labelled g m ≡ true) × (joins g.arcs n m ≡ true)
way_parts g t n m e =
    let (kind, arc) = both (t m) _ e in
    let (placed, joined) = both (labelled g m) _ arc in
    (kind, placed, joined)

-- two lists of at most one, the one with what the other is mapped to
few_same : (φ : ℕ → ℕ) (xs ys : List ℕ) → length xs ≤ 1 → length ys ≤ 1
    → ((l : ℕ) → among l xs ≡ true → among (φ l) ys ≡ true)
    → ((m : ℕ) → among m ys ≡ true → (l : ℕ) × (among l xs ≡ true)) → ys ≡ map φ xs
few_same φ [] [] s t h k = refl
few_same φ [] (y ∷ ys) s t h k =
    let (l, there) = k y (among_first y ys) in absurd (among_none l there)
few_same φ (x ∷ []) [] s t h k = absurd (among_none (φ x) (h x (among_first x [])))
few_same φ (x ∷ []) (y ∷ []) s t h k = ap (λ z. z ∷ []) (sym (among_only (φ x) y (h x (among_first x []))))
few_same φ (x ∷ []) (y ∷ z ∷ ys) s t h k = absurd (omega arith)
few_same φ (x ∷ z ∷ xs) ys s t h k = absurd (omega arith)

-- a map from a domain of references in one graph to references in another carries places and arcs; arcs to
-- labelled references leave neither the domain nor what it is mapped to, and reference 0 is carried to
-- itself where it is labelled
pub record Carries (D : ℕ → Type 0) (φ : ℕ → ℕ) (g h : Graph) : Type 0 where
  pub apart : OneToOne D φ
  pub places : (n : ℕ) → D n → lookup (φ n) h.labels ≡ lookup n g.labels
  pub arcs : (n m : ℕ) → D n → D m → joins h.arcs (φ n) (φ m) ≡ joins g.arcs n m
  pub stays : (n m : ℕ) → D n → joins g.arcs n m ≡ true → labelled g m ≡ true → D m
  pub reaches : (n m : ℕ) → D n → joins h.arcs (φ n) m ≡ true → labelled h m ≡ true
      → (l : ℕ) × D l × (φ l ≡ m)
  pub start : labelled h 0 ≡ labelled g 0
  pub first : labelled g 0 ≡ true → D 0 × (φ 0 ≡ 0)

module _ (D : ℕ → Type 0) (φ : ℕ → ℕ) (g h : Graph) (c : Carries D φ g h) where
  -- a way on is one in the other graph
  way_carried : (t u : ℕ → Bool) → ((m : ℕ) → D m → u (φ m) ≡ t m) → (n m : ℕ) → D n → D m
      → way h u (φ n) (φ m) ≡ way g t n m
  way_carried t u alike n m here there = rw (alike m there, c.places m there, c.arcs n m here there)

  -- the ways on of one kind, where there is at most one
  ways_carried : (t u : ℕ → Bool) → ((m : ℕ) → D m → u (φ m) ≡ t m) → (n : ℕ) → D n
      → length (keep t (targets g n)) ≤ 1 → length (keep u (targets h (φ n))) ≤ 1
      → keep u (targets h (φ n)) ≡ map φ (keep t (targets g n))
  ways_carried t u alike n here few few' =
      few_same φ (keep t (targets g n)) (keep u (targets h (φ n))) few few'
      (λ l e.
      let found = sym (among_ways g t n l) ∙ e in
      let (kind, placed, joined) = way_parts g t n l found in
      among_ways h u (φ n) (φ l) ∙ way_carried t u alike n l here (c.stays n l here joined placed) ∙ found)
      (λ m e.
      let found = sym (among_ways h u (φ n) m) ∙ e in
      let (kind, placed, joined) = way_parts h u (φ n) m found in
      let (l, there, is) = c.reaches n m here joined placed in
      (l, among_ways g t n l ∙ sym (way_carried t u alike n l here there) ∙ ap (way h u (φ n)) is ∙ found))

  -- sides are carried
  pub side_carried : (x n : ℕ) → D n → (m : ℕ) → D m → side h x (φ n) (φ m) ≡ side g x n m
  side_carried x n here m there = rw (c.places n here, c.places m there)

  -- the ways on are carried
  pub next_carried : Narrow g → Narrow h → (n : ℕ) → D n → next h (φ n) ≡ map φ (next g n)
  unfolding next
  next_carried few few' n here =
      rw (
        ways_carried (side g 1 n) (side h 1 (φ n)) (side_carried 1 n here) n here (few n).0 (few' (φ n)).0,
        ways_carried (λ m. not (side g 1 n m)) (λ m. not (side h 1 (φ n) m))
            (λ m there. ap not (side_carried 1 n here m there)) n here (few n).1 (few' (φ n)).1,
      )
      (sym (map-append φ (keep (side g 1 n) (targets g n)) _))

  -- and do not leave the domain
  pub next_stays : Closed D (next g)
  next_stays n here m e =
      let target = sym (targets_joined g n m) ∙ sym (next_targets g n m) ∙ e in
      let (placed, joined) = both (labelled g m) _ target in
      c.stays n m here joined placed

  -- the walk begins in the domain
  begin_within : Within D (keep (labelled g) (0 ∷ []))
  unfolding keep
  begin_within n e = go (labelled g 0) refl e
    where
      go : (b : Bool) → labelled g 0 ≡ b → among n (choose b (0 ∷ []) []) ≡ true → D n
      go true p e = subst D (sym (among_only n 0 e)) (c.first p).0
      go false p e = absurd (among_none n e)

  -- and where it begins is carried
  begin_carried : keep (labelled h) (0 ∷ []) ≡ map φ (keep (labelled g) (0 ∷ []))
  unfolding keep
  begin_carried = rw c.start (go (labelled g 0) refl)
    where
      go : (b : Bool) → labelled g 0 ≡ b → choose b (0 ∷ []) [] ≡ map φ (choose b (0 ∷ []) [])
      go true p = ap (λ k. k ∷ []) (sym (c.first p).1)
      go false p = refl

  -- the order is carried
  pub order_carried : Narrow g → Narrow h → order h ≡ map φ (order g)
  order_carried few few' =
      let f = suc (length g.arcs + length h.arcs) in
      sym (order_enough h f (omega arith))
      ∙ ap (λ p. walk f (next h) p []) begin_carried
      ∙ walk_renamed D φ c.apart (next g) (next h) next_stays (next_carried few few') f
      (keep (labelled g) (0 ∷ [])) [] begin_within (within_none D)
      ∙ ap (map φ) (order_enough g f (omega arith))
