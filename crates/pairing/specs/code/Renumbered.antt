-- Pairs of references by their numbers.
use Rattle.std.specs.Prelude.{ℕ, zero, suc, Bool, ◌&&◌, List, [], ◌∷◌, ◌++◌, length, ltb}
use Rattle.std.proofs.lemmas.List.Edits.{sets}
use Rattle.lines.specs.Line.{choose}
use Rattle.rules.specs.Track.{Pair, pair}
use Rattle.links.specs.words.Columns.{at, flat}

-- a pair of numbers, by one more than each; the lower one first where either order will do
unfoldable pub renumbered_one : Bool → ℕ → ℕ → List Pair
renumbered_one either zero m = []
renumbered_one either (suc n) zero = []
renumbered_one either (suc n) (suc m) = choose (either && ltb m n) (pair m n) (pair n m) ∷ []

-- the pairs whose two ends have numbers
unfoldable pub renumbered : Bool → List ℕ → List Pair → List Pair
renumbered either ns [] = []
renumbered either ns (a ∷ as') =
    renumbered_one either (at ns a.from) (at ns a.to) ++ renumbered either ns as'

-- the words of a track that pairs are put to, with how many they are
pub record PairsPut : Type 0 where
  pub count : ℕ
  pub track : List ℕ

abbrev pub with_count : ℕ → List ℕ → PairsPut
with_count n w = record { count = n; track = w }

-- pairs put to words from one on
abbrev pub pairs_put : List ℕ → ℕ → List Pair → PairsPut
pairs_put w base ps = with_count (length ps) (sets w base (flat ps))
