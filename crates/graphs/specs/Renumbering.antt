-- The mission, demand 3: a renumbering that fixes the start node and carries the saved nodes, places, arcs and meetings of one
-- track onto those of another. A renumbering is two maps between references, inverse to each other on the labelled ones.
use Rattle.std.specs.Prelude.{ℕ, ◌≡◌, true}
use Rattle.rules.specs.Track.{lookup}
use Rattle.graphs.specs.Graph.{joins, meets, Graph, labelled}

-- two maps, inverse to each other on labelled references, that carry places, arcs, meetings and reference 0
pub record Renumbers (φ ψ : ℕ → ℕ) (g h : Graph) : Type 0 where
  pub back : (n : ℕ) → labelled g n ≡ true → ψ (φ n) ≡ n
  pub forth : (m : ℕ) → labelled h m ≡ true → φ (ψ m) ≡ m
  pub places : (n : ℕ) → labelled g n ≡ true → lookup (φ n) h.labels ≡ lookup n g.labels
  pub places_back : (m : ℕ) → labelled h m ≡ true → lookup (ψ m) g.labels ≡ lookup m h.labels
  pub arcs : (n m : ℕ) → labelled g n ≡ true → labelled g m ≡ true
      → joins h.arcs (φ n) (φ m) ≡ joins g.arcs n m
  pub meetings : (n m : ℕ) → labelled g n ≡ true → labelled g m ≡ true
      → meets h.meetings (φ n) (φ m) ≡ meets g.meetings n m
  pub first : labelled g 0 ≡ true → φ 0 ≡ 0
  pub first_back : labelled h 0 ≡ true → ψ 0 ≡ 0

-- a one-to-one map between the labelled references of two graphs that fixes the start node and carries the
-- places, arcs and meetings of the one onto those of the other
abbrev pub Renumbering : Graph → Graph → Type 0
Renumbering g h = (φ : ℕ → ℕ) × (ψ : ℕ → ℕ) × Renumbers φ ψ g h
