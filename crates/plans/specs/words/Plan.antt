-- The plan of a table: four words for each term. Its kind; its operand, a prefix's event or the root that a
-- call leads to; its second subterm; and one more than the sequence around it: the nearest one that it stands
-- in the left of, with no choice or parallel between, 0 where there is none.
use Rattle.std.specs.Prelude.{ℕ, suc, ◌+◌, ◌*◌, ◌<◌, ◌≡◌, List, [], get_or, ltb, replicate}
use Rattle.std.proofs.Math.Option.{some}
use Rattle.std.proofs.Math.ListN.{get_elem?}
use Rattle.lines.specs.Line.{choose}
use Rattle.frames.specs.TableFrame.{term_room, event_room}
use Rattle.kinds.specs.Kind as Kind
use Rattle.terms.specs.Term.{Leaf, call, SKIP, STOP, Operator, internal, external, sequence, parallel, Term}
use Rattle.terms.specs.Term.{leaf, prefix, binary, leaf_kind, operator_kind, operator_payload, size}
use Rattle.places.specs.Place.{Place}
use Rattle.rules.specs.Process.{below}

-- the plan of no term
abbrev pub no_plan : List ℕ
no_plan = replicate 4096 0

-- a word of a term, 0 where there is no such term
unfoldable pub word : ℕ → List ℕ → ℕ → ℕ
word k w t = choose (ltb t term_room) (get_or w (4 * t + k) 0) 0

abbrev pub kind : List ℕ → ℕ → ℕ
kind = word 0

abbrev pub operand : List ℕ → ℕ → ℕ
operand = word 1

abbrev pub second : List ℕ → ℕ → ℕ
second = word 2

abbrev pub around : List ℕ → ℕ → ℕ
around = word 3

-- where a table's terms stand: the place of each number, the place of each prefix's event, and the root of each
-- definition
pub record Layout : Type 0 where
  pub place : ℕ → Place
  pub event : ℕ → Place
  pub root : ℕ → ℕ

-- one more than the sequence around an operator's subterms, where i is its number and o tells of its own
unfoldable pub first_around : Operator → ℕ → ℕ → ℕ
first_around internal i o = o
first_around external i o = 0
first_around sequence i o = suc i
first_around (parallel x) i o = 0

unfoldable pub second_around : Operator → ℕ → ℕ
second_around internal o = o
second_around external o = 0
second_around sequence o = o
second_around (parallel x) o = 0

-- a leaf's operand
abbrev pub Leads : Layout → List ℕ → ℕ → Leaf → Type 0
Leads l w i (call n) = operand w i ≡ l.root n
Leads l w i SKIP = Unit {0}
Leads l w i STOP = Unit {0}

-- a plan and sets that hold a term from number i on, in preorder, inside the sequence that o tells of
abbrev pub Planned : Layout → List ℕ → List ℕ → ℕ → ℕ → Term → Type 0
Planned l w x i o (leaf f) = (kind w i ≡ leaf_kind f) × (around w i ≡ o) × Leads l w i f
Planned l w x i o (prefix e t) =
    (kind w i ≡ Kind.prefix) × (around w i ≡ o) × (operand w i ≡ e) × (e < event_room)
    × (l.event i ≡ below (l.place i) 1) × (l.place (suc i) ≡ below (l.place i) 2)
    × Planned l w x (suc i) o t
Planned l w x i o (binary p t u) =
    (kind w i ≡ operator_kind p) × (around w i ≡ o) × (get_or x i 0 ≡ operator_payload p)
    × (l.place (suc i) ≡ below (l.place i) 1) × (l.place (second w i) ≡ below (l.place i) 2)
    × Planned l w x (suc i) (first_around p i o) t × Planned l w x (second w i) (second_around p o) u
    × (second w i ≡ suc i + size t)

-- a plan and sets that hold the definitions of a table
abbrev pub HoldsTable : Layout → List ℕ → List ℕ → List Term → Type 0
HoldsTable l w x ts =
    (n : ℕ) (t : Term) → get_elem? ts n ≡ some t
    → (l.place (l.root n) ≡ record { definition = n; path = [] }) × Planned l w x (l.root n) 0 t
