-- The STOP step. Document 01, 'Steps and addresses': STOP may step by itself, which changes nothing. Which addresses name
-- that step: those whose digits lead down to a STOP, by 1 and 2 through choices and parallels, and through sequences
-- without a digit.
use Rattle.std.specs.Prelude.{ℕ, Bool, [], ◌∷◌}
use Rattle.std.proofs.Math.Option.{Option}
use Rattle.terms.specs.Term.{STOP}
use Rattle.places.specs.Place.{Place}
use Rattle.rules.specs.Process.{one, two, Address, Split, Process, leaf, split, sequence}

pub data LeadsToSTOP : Address → Process → Type 0 where
  there : {w : Place} → LeadsToSTOP [] (leaf w STOP)
  by_first : {a : Address} {w : Place} {o : Split} {n₁ n₂ : Option ℕ} {P Q : Process} → LeadsToSTOP a P
      → LeadsToSTOP (one ∷ a) (split w o n₁ n₂ P Q)
  by_second : {a : Address} {w : Place} {o : Split} {n₁ n₂ : Option ℕ} {P Q : Process} → LeadsToSTOP a Q
      → LeadsToSTOP (two ∷ a) (split w o n₁ n₂ P Q)
  inside : {a : Address} {w : Place} {b : Bool} {P Q : Process} → LeadsToSTOP a P
      → LeadsToSTOP a (sequence w b P Q)
