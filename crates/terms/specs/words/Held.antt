-- How columns hold the terms of a table.
use Rattle.std.specs.Prelude.{ℕ, suc, ◌≡◌, List, get_or}
use Rattle.kinds.specs.Kind as Kind
use Rattle.terms.specs.Term.{leaf, prefix, binary, Term, leaf_kind, leaf_payload, operator_kind}
use Rattle.terms.specs.Term.{operator_payload}

-- columns that hold a term at number i: its kind and payload, its subterms, and the
-- number of the term behind it
abbrev pub HoldsTerm : List ℕ → List ℕ → List ℕ → ℕ → Term → Type 0
HoldsTerm ks ps xs i (leaf l) =
    (get_or ks i 0 ≡ leaf_kind l) × (get_or ps i 0 ≡ leaf_payload l) × (get_or xs i 0 ≡ suc i)
HoldsTerm ks ps xs i (prefix e t) =
    (get_or ks i 0 ≡ Kind.prefix) × (get_or ps i 0 ≡ e) × (get_or xs i 0 ≡ get_or xs (suc i) 0)
    × HoldsTerm ks ps xs (suc i) t
HoldsTerm ks ps xs i (binary o t u) =
    (get_or ks i 0 ≡ operator_kind o) × (get_or ps i 0 ≡ operator_payload o)
    × (get_or xs i 0 ≡ get_or xs (get_or xs (suc i) 0) 0)
    × HoldsTerm ks ps xs (suc i) t × HoldsTerm ks ps xs (get_or xs (suc i) 0) u
