-- What the bytes of a node's line say.
use Rattle.std.specs.Prelude.{ℕ, List}
use Rattle.rules.specs.Track.{Label}
use Rattle.lines.specs.Line.{number_at}
use Rattle.graphs.specs.Parsed.{place_at}

-- what a node's bytes say
abbrev pub label_at : List ℕ → Label
label_at bs = record { reference = number_at 1 bs; place = place_at bs }
