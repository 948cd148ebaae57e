-- A promise that is an equation of the outcome with what was lent settles it: two outcomes are equal to one thing. Assumes nothing.
use Rattle.std.proofs.Common.{◌≡◌, sym, ap₂, ◌∙◌}
use Rattle.outcomes.specs.Settles.{Settles, ◌beside◌}

-- an outcome that the promise equates with something that was lent
module _ {K : Type 0} {Lent Answer Left : K → Type 0} {Outcome : Type 0}
    {promise : (κ : K) → Lent κ → Answer κ → Left κ → Type 0} {outcome : (κ : K) → Answer κ → Left κ → Outcome}
    {is : (κ : K) → Lent κ → Outcome} where
  pub by_equation : ((κ : K) (lent : Lent κ) (x : Answer κ) (s : Left κ) → promise κ lent x s → outcome κ x s ≡ is κ lent)
      → Settles promise outcome
  by_equation told κ lent x y s t p q = told κ lent x s p ∙ sym (told κ lent y t q)

-- an outcome of two parts
pub both : {A B : Type 0} {a c : A} {b d : B} → a ≡ c → b ≡ d → a beside b ≡ c beside d
both e f = ap₂ ◌beside◌ e f
