-- Sets of events told by their members, whatever their width: what a set holds, and whether it holds none.
use Rattle.std.specs.Prelude.{ℕ, ◌≡◌, Bool, true, false, ◌&&◌, ◌||◌}
use Rattle.lines.specs.Line.{choose}
use Rattle.sets.specs.EventSet.{member}

-- x is the set of the events that pass a test
abbrev pub SetOf : (ℕ → Bool) → ℕ → Type 0
SetOf test x = (k : ℕ) → member k x ≡ test k

-- document 01, 'Steps and addresses': for a parallel with set x, over offers l and r, the visible ones are
-- those of l or r outside x and of both inside x
abbrev pub shown : ℕ → ℕ → ℕ → ℕ → Bool
shown x l r k = choose (member k x) (member k l && member k r) (member k l || member k r)

-- the answer b to whether a set x has no event: yes, and no event is in it; or no, and some event is
pub record Emptiness (x : ℕ) (b : Bool) : Type 0 where
  pub no_event : b ≡ true → (k : ℕ) → member k x ≡ false
  pub some_event : b ≡ false → (k : ℕ) × (member k x ≡ true)
