-- The terms of a table as trees. Document 01, 'Lines': a definition's terms stand in preorder; Fig. 2 of the
-- report has their forms.
use Rattle.std.specs.Prelude.{ℕ, zero, suc, ◌+◌, ◌≤◌, ◌<◌, ◌^◌, List, [], ◌∷◌, ◌++◌, eqb}
use Rattle.lines.specs.Line.{choose}
use Rattle.kinds.specs.Kind as Kind
use Rattle.frames.specs.TableFrame.{path_room}
use Rattle.tables.specs.Table.{Item, Sofar}

-- what has no subterm
pub data Leaf : Type 0 where
  call : ℕ → Leaf
  SKIP : Leaf
  STOP : Leaf

-- what stands between two terms; a parallel has its set, event k being bit k
pub data Operator : Type 0 where
  internal : Operator
  external : Operator
  sequence : Operator
  parallel : ℕ → Operator

pub data Term : Type 0 where
  leaf : Leaf → Term
  prefix : ℕ → Term → Term
  binary : Operator → Term → Term → Term

-- a term's kind and payload
unfoldable pub leaf_kind : Leaf → ℕ
leaf_kind (call d) = Kind.call
leaf_kind SKIP = Kind.SKIP
leaf_kind STOP = Kind.STOP

unfoldable pub leaf_payload : Leaf → ℕ
leaf_payload (call d) = d
leaf_payload SKIP = 0
leaf_payload STOP = 0

unfoldable pub operator_kind : Operator → ℕ
operator_kind internal = Kind.internal
operator_kind external = Kind.external
operator_kind sequence = Kind.sequence
operator_kind (parallel x) = Kind.parallel

unfoldable pub operator_payload : Operator → ℕ
operator_payload internal = 0
operator_payload external = 0
operator_payload sequence = 0
operator_payload (parallel x) = x

-- how many terms a term is, with its subterms
unfoldable pub size : Term → ℕ
size (leaf l) = 1
size (prefix e t) = suc (size t)
size (binary o t u) = suc (size t + size u)

-- a term of definition d and its subterms in preorder
unfoldable pub preorder : ℕ → Term → List Item
preorder d (leaf l) = record { definition = d; kind = leaf_kind l; payload = leaf_payload l } ∷ []
preorder d (prefix e t) = record { definition = d; kind = Kind.prefix; payload = e } ∷ preorder d t
preorder d (binary o t u) =
    record { definition = d; kind = operator_kind o; payload = operator_payload o }
    ∷ preorder d t ++ preorder d u

-- definitions from number d on, one behind the other
unfoldable pub flat : ℕ → List Term → List Item
flat d [] = []
flat d (t ∷ ts) = preorder d t ++ flat (suc d) ts

-- the number of each definition's root, where the first is n
unfoldable pub starts : ℕ → List Term → List ℕ
starts n [] = []
starts n (t ∷ ts) = n ∷ starts (n + size t) ts

-- the form of a kind, with its payload
unfoldable pub leaf_of : ℕ → ℕ → Leaf
leaf_of k p = choose (eqb k Kind.call) (call p) (choose (eqb k Kind.SKIP) SKIP STOP)

unfoldable pub operator_of : ℕ → ℕ → Operator
operator_of k p =
    choose (eqb k Kind.internal) internal
    (choose (eqb k Kind.external) external
    (choose (eqb k Kind.sequence) sequence (parallel p)))

-- terms read from the last to the first: each takes its subterms off the front of those read
unfoldable pub grown : ℕ → Item → List Term → List Term
grown zero i ts = leaf (leaf_of i.kind i.payload) ∷ ts
grown (suc zero) i [] = []
grown (suc zero) i (t ∷ ts) = prefix i.payload t ∷ ts
grown (suc (suc n)) i [] = []
grown (suc (suc n)) i (t ∷ []) = t ∷ []
grown (suc (suc n)) i (t ∷ u ∷ ts) = binary (operator_of i.kind i.payload) t u ∷ ts

unfoldable pub trees : List Item → List Term
trees [] = []
trees (i ∷ xs) = grown (Kind.subterms i.kind) i (trees xs)

-- the definitions of a table
abbrev pub definitions_of : Sofar → List Term
definitions_of s = trees s.terms

-- every literal's path is at most 64 digits, where the term's own has n
abbrev pub Shallow : ℕ → Term → Type 0
Shallow n (leaf l) = n ≤ path_room
Shallow n (prefix e t) = (n + 1 ≤ path_room) × Shallow (n + 1) t
Shallow n (binary o t u) = (n ≤ path_room) × (Shallow (n + 1) t × Shallow (n + 1) u)

-- every call is of one of d definitions, and every event is one of e
abbrev pub LeafWithin : ℕ → Leaf → Type 0
LeafWithin d (call n) = n < d
LeafWithin d SKIP = Unit {0}
LeafWithin d STOP = Unit {0}

abbrev pub OperatorWithin : ℕ → Operator → Type 0
OperatorWithin e internal = Unit {0}
OperatorWithin e external = Unit {0}
OperatorWithin e sequence = Unit {0}
OperatorWithin e (parallel x) = x < 2 ^ e

abbrev pub Within : ℕ → ℕ → Term → Type 0
Within d e (leaf l) = LeafWithin d l
Within d e (prefix n t) = (n < e) × Within d e t
Within d e (binary o t u) = OperatorWithin e o × (Within d e t × Within d e u)
