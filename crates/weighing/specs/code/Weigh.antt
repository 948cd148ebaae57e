-- The weight of a step, whatever the words hold: of a term that no step has touched, and of what stands at a
-- reference. The first number bounds how deep it is gone.
use Rattle.std.specs.Prelude.{ℕ, zero, suc, ◌+◌, ◌-◌, Bool, false, not, List, eqb}
use Rattle.lines.specs.Line.{choose}
use Rattle.kinds.specs.Kind as Kind
use Rattle.plans.specs.words.Plan.{kind, operand, second, around}
use Rattle.control.specs.words.Words.{node}
use Rattle.control.specs.words.Control.{state, term, frame, resting, entered}
use Rattle.control.specs.words.Sums.{capped}
use Rattle.weights.specs.code.Rules.{by_leaf, entering, end_of, one, both}
use Rattle.looking.specs.code.Looking.{digit_at, is_split, is_side, taken, is_within, set_of, inside}
use Rattle.weighing.specs.code.Ending.{weigh_end}
use Rattle.weights.specs.code.Rules.{Weighed}
use Rattle.std.specs.Prelude.{None}

-- how many levels of a term are gone down to, at most
abbrev pub levels : ℕ
levels = 66

module _ (p x : List ℕ) (count : ℕ) (ds : List ℕ) where
  -- a split's step by a digit: what the side that is gone to first gives, and what the right gives from where
  -- the left's digits end
  unfoldable pub by_digit : ℕ → ℕ → Weighed → (ℕ → Weighed) → ℕ → ℕ → ℕ → Bool → Weighed
  by_digit d t found across size own other within =
      choose (not (is_side d)) None
      (choose (not (eqb d 3)) (one (kind p t) (set_of x t) found size own other within)
      (both (kind p t) (set_of x t) found (across (end_of found count)) size own other))

  -- a term that no step has touched
  unfoldable pub of_term : ℕ → ℕ → Bool → ℕ → ℕ → Weighed
  of_term zero t nested at size = None
  of_term (suc left) t nested at size =
      choose (eqb (kind p t) Kind.sequence) (of_term left (capped (t + 1)) nested at (capped (size + 1)))
      (choose (not (is_split (kind p t)))
      (by_leaf (kind p t) (operand p t) (digit_at ds count at) (is_within nested (around p t)) at size)
      (by_digit (digit_at ds count at) t
      (entering (of_term left (taken (digit_at ds count at) (capped (t + 1)) (second p t)) false (capped (at + 1)) 1) 1)
      (λ from. entering (of_term left (second p t) false from 1) 0)
      (capped (size + 2)) 1 1 (is_within nested (around p t))))

  module _ (w g : List ℕ) (arcs : ℕ) where
    -- what stands at reference n; where n is 0, term t, a side that has not stepped yet
    unfoldable pub at_reference : ℕ → ℕ → ℕ → ℕ → ℕ → ℕ → Weighed
    at_reference zero n t bound at size = None
    at_reference (suc left) n t bound at size =
        choose (eqb n 0) (entering (of_term levels t false at 1) 0)
        (choose (eqb (state w n) resting) (of_term levels (term w n) (not (eqb (frame w n) bound)) at size)
        (choose (not (eqb (state w n) entered)) None
        (choose (eqb (digit_at ds count at) 4)
        (weigh_end w g arcs n (kind p (term w n)) at size
        (is_within (not (eqb (frame w n) bound)) (around p (term w n))))
        (by_digit (digit_at ds count at) (term w n)
        (at_reference left (node (3 + taken (digit_at ds count at) 1 2) w n)
        (taken (digit_at ds count at) (capped (term w n + 1)) (second p (term w n)))
        (inside p (kind p (term w n)) (term w n) n (frame w n)) (capped (at + 1))
        (node (5 + taken (digit_at ds count at) 1 2) w n))
        (λ from. at_reference left (node 5 w n) (second p (term w n))
        (inside p (kind p (term w n)) (term w n) n (frame w n)) from
        (node (8 - taken (digit_at ds count at) 1 2) w n))
        size (node (5 + taken (digit_at ds count at) 1 2) w n)
        (node (8 - taken (digit_at ds count at) 1 2) w n)
        (is_within (not (eqb (frame w n) bound)) (around p (term w n)))))))
