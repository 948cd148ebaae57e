-- The numbering walk. Document 01, 'Saving and reading': numbers come from a walk from reference 0, depth first, a node
-- numbered when first met, of two arcs the .1 side first.
use Rattle.std.specs.Prelude.{ℕ, zero, suc, Bool, false, ◌||◌, List, [], ◌∷◌, ◌++◌, length, eqb}
use Rattle.lines.specs.Line.{choose}
use Rattle.graphs.specs.Graph.{Graph, labelled, keep, next}

-- a reference is among some
unfoldable pub among : ℕ → List ℕ → Bool
among n [] = false
among n (m ∷ ms) = eqb n m || among n ms

-- in at most so many turns, a pending node each: one that has no number gets the next, and where it leads is gone to
-- before what else is pending
unfoldable pub walk : ℕ → (ℕ → List ℕ) → List ℕ → List ℕ → List ℕ
walk zero on pending numbered = numbered
walk (suc f) on [] numbered = numbered
walk (suc f) on (n ∷ pending) numbered =
    walk f on (choose (among n numbered) pending (on n ++ pending))
    (choose (among n numbered) numbered (numbered ++ (n ∷ [])))

-- the references in the order of their numbers; no node is pending more often than arcs lead to it, the first once more
unfoldable pub order : Graph → List ℕ
order g = walk (suc (length g.arcs)) (next g) (keep (labelled g) (0 ∷ [])) []
