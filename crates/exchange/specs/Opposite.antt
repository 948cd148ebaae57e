-- The mission, demand 3: two addresses that agree down to a parallel and there go to opposite sides, with no external choice
-- and no joint step above it. Above the parallel stand sequences, and parallels by 1 or 2, entered or not.
use Rattle.std.specs.Prelude.{ℕ, Bool, ◌∷◌}
use Rattle.std.proofs.Math.Option.{Option}
use Rattle.places.specs.Place.{Place}
use Rattle.rules.specs.Process.{one, two, Address, together, Process, split, sequence}

pub data Opposite : Address → Address → Process → Type 0 where
  left_and_right : {a b : Address} {w : Place} {x : ℕ} {m n : Option ℕ} {P Q : Process}
      → Opposite (one ∷ a) (two ∷ b) (split w (together x) m n P Q)
  right_and_left : {a b : Address} {w : Place} {x : ℕ} {m n : Option ℕ} {P Q : Process}
      → Opposite (two ∷ a) (one ∷ b) (split w (together x) m n P Q)
  both_left : {a b : Address} {w : Place} {x : ℕ} {m n : Option ℕ} {P Q : Process}
      → Opposite a b P → Opposite (one ∷ a) (one ∷ b) (split w (together x) m n P Q)
  both_right : {a b : Address} {w : Place} {x : ℕ} {m n : Option ℕ} {P Q : Process}
      → Opposite a b Q → Opposite (two ∷ a) (two ∷ b) (split w (together x) m n P Q)
  in_sequence : {a b : Address} {w : Place} {c : Bool} {P Q : Process}
      → Opposite a b P → Opposite a b (sequence w c P Q)
