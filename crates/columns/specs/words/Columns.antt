-- The columns of a checked table, and what a column has at a number: 0 out of range.
use Rattle.std.specs.Prelude.{ℕ, List, [], get_or, ltb}
use Rattle.lines.specs.Line.{choose}

-- a column for each thing that is known of a term, and one for the definitions' roots
pub record Columns : Type 0 where
  pub kinds : List ℕ
  pub payloads : List ℕ
  pub owners : List ℕ
  pub after : List ℕ
  pub roots : List ℕ

-- with other payloads, or other owners
abbrev pub with_payloads : List ℕ → Columns → Columns
with_payloads ps c =
    record { kinds = c.kinds; payloads = ps; owners = c.owners; after = c.after; roots = c.roots }

abbrev pub with_owners : List ℕ → Columns → Columns
with_owners os c =
    record { kinds = c.kinds; payloads = c.payloads; owners = os; after = c.after; roots = c.roots }

-- what a column of n has at i
unfoldable pub look : ℕ → List ℕ → ℕ → ℕ
look n xs i = choose (ltb i n) (get_or xs i 0) 0

-- all five
abbrev pub all_columns : List ℕ → List ℕ → List ℕ → List ℕ → List ℕ → Columns
all_columns k p o a r = record { kinds = k; payloads = p; owners = o; after = a; roots = r }

-- those that places are worked out from
abbrev pub columns : List ℕ → List ℕ → List ℕ → List ℕ → Columns
columns k o a r = all_columns k [] o a r

-- those that a saved text is read against
abbrev pub read_columns : List ℕ → List ℕ → List ℕ → List ℕ → Columns
read_columns k p a r = all_columns k p [] a r
