-- Document 01, 'What each door owes its caller': two outcomes allowed by a door's promise are equal.
use Rattle.std.specs.Prelude.{◌≡◌}

-- a promise speaks of what was lent, of the answer and of what was lent as it is at the exit, under the lifetimes of a call; an
-- outcome is what a caller sees of the answer and behind each reference that was lent to be written
module _ {K : Type 0} {Lent Answer Left : K → Type 0} {Outcome : Type 0} where
  abbrev pub Settles : ((κ : K) → Lent κ → Answer κ → Left κ → Type 0) → ((κ : K) → Answer κ → Left κ → Outcome) → Type 0
  Settles promise outcome =
      (κ : K) (lent : Lent κ) (x y : Answer κ) (s t : Left κ) → promise κ lent x s → promise κ lent y t
      → outcome κ x s ≡ outcome κ y t

infixr 20 ◌beside◌
-- an outcome of two parts
abbrev pub ◌beside◌ : {A B : Type 0} → A → B → A × B
a beside b = (a, b)
