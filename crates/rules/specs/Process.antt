-- Processes under tracking: Fig. 2 of the report for their forms, Definition 1 for the place that each
-- literal carries, and Fig. 7 for what tracking adds. Document 01, 'Steps and addresses' and 'Room'.
use Rattle.std.specs.Prelude.{ℕ, ◌+◌, Bool, true, false, List, [], ◌∷◌, ◌++◌}
use Rattle.std.proofs.Math.Option.{Option, none, some}
use Rattle.std.proofs.Math.ListN.{get_elem?}
use Rattle.terms.specs.Term.{Leaf, call, Operator, external, parallel, Term}
use Rattle.terms.specs.Term as Term
use Rattle.places.specs.Place.{Place, left_path}

-- the digits of an address
pub data Digit : Type 0 where
  one : Digit
  two : Digit
  three : Digit
  four : Digit

abbrev pub Address : Type 0
Address = List Digit

-- what two sides step on their own under: an external choice, or a parallel with its set
pub data Split : Type 0 where
  choice : Split
  together : ℕ → Split

-- a process, with the place of each literal. A split carries the reference of each side, none where the side
-- has not stepped yet (the report's •); a sequence whether a step has entered it. Ω has terminated, and ⊥ is
-- deadlocked
pub data Process : Type 0 where
  leaf : Place → Leaf → Process
  prefix : Place → ℕ → Process → Process
  internal : Place → Process → Process → Process
  split : Place → Split → Option ℕ → Option ℕ → Process → Process → Process
  sequence : Place → Bool → Process → Process → Process
  Ω : Process
  ⊥' : Process

-- the place one digit below
abbrev pub below : Place → ℕ → Place
below w x = record { definition = w.definition; path = w.path ++ (x ∷ []) }

-- a binary term's process, before any step
unfoldable pub joined : Operator → Place → Process → Process → Process
joined Term.internal w P Q = internal w P Q
joined external w P Q = split w choice none none P Q
joined Term.sequence w P Q = sequence w false P Q
joined (parallel x) w P Q = split w (together x) none none P Q

-- a term at a place, before any step (AddSpPos)
unfoldable pub untouched : Place → Term → Process
untouched w (Term.leaf l) = leaf w l
untouched w (Term.prefix e t) = prefix w e (untouched (below w 2) t)
untouched w (Term.binary o t u) = joined o w (untouched (below w 1) t) (untouched (below w 2) u)

-- the right-hand side of a definition; a table has every definition that it calls
unfoldable pub right_side : ℕ → Option Term → Process
right_side n none = ⊥'
right_side n (some t) = untouched (record { definition = n; path = [] }) t

abbrev pub rhs : List Term → ℕ → Process
rhs ts n = right_side n (get_elem? ts n)

-- where control starts: a call of definition 00 with the place of its left-hand side
abbrev pub main : Process
main = leaf (record { definition = 0; path = left_path }) (call 0)

-- control cells: an untouched term, Ω or ⊥ is one; an external choice or parallel a step has entered is one
-- plus both sides; an entered sequence one plus its left
unfoldable pub cells : Process → ℕ
cells (leaf w l) = 1
cells (prefix w e P) = 1
cells (internal w P Q) = 1
cells (split w s none none P Q) = 1
cells (split w s none (some n) P Q) = 1 + (cells P + cells Q)
cells (split w s (some m) n P Q) = 1 + (cells P + cells Q)
cells (sequence w false P Q) = 1
cells (sequence w true P Q) = 1 + cells P
cells Ω = 1
cells ⊥' = 1
