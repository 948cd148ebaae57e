-- A run's table has every definition that its control calls: the table's definitions call none but its own, and control
-- starts as a call of the first of them. Assumes nothing.
use Rattle.std.proofs.Common.{ℕ, ◌<◌, ◌≡◌, refl, List, [], ◌∷◌, arith, length}
use Rattle.std.proofs.Math.Option.{none}
use Rattle.std.proofs.Math.ListN.{get_elem?}
use Rattle.terms.specs.Term.{Term}
use Rattle.rules.specs.Run.{State, Reached}
use Rattle.rules.proofs.Ranged.{reached_ranged, ranged_calls, Calls}
use Rattle.plans.specs.words.Plan.{Layout}
use Rattle.runs.specs.words.Held.{Table}

-- a table has a first definition
some_definition : (ts : List Term) → (get_elem? ts 0 ≡ none → ⊥) → 0 < length ts
some_definition [] h = absurd (h refl)
some_definition (t ∷ ts) h = omega arith

-- and every definition that a run calls
pub reached_calls : (l : Layout) (p x : List ℕ) (ts : List Term) → Table l p x ts → (s : State) → Reached ts s
    → Calls ts s.process
reached_calls l p x ts table s reached =
    ranged_calls (length ts) table.events ts s.process refl
    (reached_ranged (length ts) table.events ts table.within (some_definition ts table.some_first) reached)
