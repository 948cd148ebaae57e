-- What private functions answer whatever they are handed; `proofs/Steps.antt` shows what
-- it is at a line of a script.
use Rattle.std.specs.Prelude.{ℕ}
use Rattle.scripts.specs.Script.{Asked, address, refused}

-- the number of the refusal that is asked for, and 0 for a step
unfoldable pub refusal : Asked → ℕ
refusal (address ds) = 0
refusal (refused r) = r
