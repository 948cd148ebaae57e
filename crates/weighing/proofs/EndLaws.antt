-- The end of a parallel, by what the tests on the way found. Assumes nothing.
use Rattle.std.proofs.Common.{ℕ, ◌≡◌, ◌∙◌, Bool, List, ne_eqb}
use Rattle.kinds.specs.Kind as Kind
use Rattle.control.specs.words.Words.{node}
use Rattle.control.specs.words.Control.{state, at_end}
use Rattle.weights.specs.code.Rules.{ended}
use Rattle.looking.specs.code.Looking.{parents}
use Rattle.weighing.specs.code.Ending.{weigh_end}
use Rattle.weights.specs.code.Rules.{Weighed}
use Rattle.std.specs.Prelude.{None}

-- the end of a parallel
module _ (w g : List ℕ) (arcs n k at size : ℕ) (within : Bool) where
  pub end_elsewhere : (k ≡ Kind.parallel → ⊥) → None ≡ weigh_end w g arcs n k at size within
  unfolding weigh_end
  end_elsewhere h = simp (ne_eqb k Kind.parallel h)

  module _ (parallel : k ≡ Kind.parallel) (m : ℕ) (left : m ≡ node 4 w n) where
    pub end_left_goes_on : (s : ℕ) → s ≡ state w m → (s ≡ at_end → ⊥)
        → None ≡ weigh_end w g arcs n k at size within
    unfolding weigh_end
    end_left_goes_on s is h = rw (parallel, ← left) (simp (ne_eqb (state w m) at_end (λ z. h (is ∙ z))))

    module _ (ended_left : state w m ≡ at_end) (j : ℕ) (right : j ≡ node 5 w n) where
      pub end_right_goes_on : (s : ℕ) → s ≡ state w j → (s ≡ at_end → ⊥)
          → None ≡ weigh_end w g arcs n k at size within
      unfolding weigh_end
      end_right_goes_on s is h =
          rw (parallel, ← left, ← right) (simp (ended_left, ne_eqb (state w j) at_end (λ z. h (is ∙ z))))

      pub end_of_both : state w j ≡ at_end → (c : ℕ) (y : Weighed) → c ≡ parents g m j 0 arcs
          → y ≡ ended at size c within → y ≡ weigh_end w g arcs n k at size within
      unfolding weigh_end
      end_of_both h c y p q = rw (parallel, ← left, ← right, q, p) (simp (ended_left, h))
