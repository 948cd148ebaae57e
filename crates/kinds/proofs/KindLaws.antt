-- The constant table by kind: each place of a list is at most its largest, which computes. Assumes nothing.
use Rattle.std.proofs.Common.{ℕ, zero, suc, ◌≤◌, ◌-◌, ◌+◌, List, [], ◌∷◌, arith, get_or}
use Rattle.kinds.specs.Kind.{payload_table, subterm_table, payload_bytes, subterms}

-- the largest of a list
largest : List ℕ → ℕ
largest [] = 0
largest (x ∷ xs) = x + (largest xs - x)

at_most : (xs : List ℕ) (k : ℕ) → get_or xs k 0 ≤ largest xs
unfolding largest
at_most [] k = omega arith
at_most (x ∷ xs) zero = omega arith
at_most (x ∷ xs) (suc k) = let r = at_most xs k in omega arith

pub subterms_most : (k : ℕ) → subterms k ≤ 2
unfolding subterms largest
subterms_most k = at_most subterm_table k

pub payload_most : (k : ℕ) → payload_bytes k ≤ 8
unfolding payload_bytes largest
payload_most k = at_most payload_table k
