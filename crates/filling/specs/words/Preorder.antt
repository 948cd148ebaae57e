-- The column `after`: the number of the term behind each term and its subterms, by the kinds of all.
use Rattle.std.specs.Prelude.{ℕ, zero, suc, List, get_or, set}
use Rattle.kinds.specs.Kind.{subterms}

-- the number of the term behind n terms and their subterms, from number j on; `xs` has it for each term alone
unfoldable pub past : ℕ → ℕ → List ℕ → ℕ
past zero j xs = j
past (suc n) j xs = past n (get_or xs j 0) xs

-- the number of the term behind each term and its subterms, worked out from the last term to the first
unfoldable pub walked : ℕ → List ℕ → List ℕ → List ℕ
walked zero ks xs = xs
walked (suc i) ks xs = walked i ks (set xs i (past (subterms (get_or ks i 0)) (suc i) xs))
