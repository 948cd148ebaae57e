-- What an answer of `places::place` tells.
use Rattle.std.specs.Prelude.{ℕ, Option, Some, None}
use Rattle.frames.specs.TableFrame.{definition_room}
use Rattle.places.specs.declared.Placed.{Placed}

-- how many digits the path of an answer has
abbrev pub told_length : Option Placed → ℕ
told_length (Some p) = p.length
told_length None = 0

-- the definition of an answer
abbrev pub told_definition : Option Placed → ℕ
told_definition (Some p) = p.definition
told_definition None = definition_room
