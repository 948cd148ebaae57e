-- What `status::status_at` promises of the words of a run.
use Rattle.std.specs.Prelude.{List, ℕ}
use Rattle.rules.specs.declared.Status.{Status}
use Rattle.status.specs.words.Told.{TellsStatus}
use Rattle.counting.specs.code.Counting.{reference}
use Rattle.runs.specs.words.Held.{Words}

-- a status that may be told of words, at the reference that they tell
abbrev pub StatusOf : List ℕ → List ℕ → Words → Status → Type 0
StatusOf p x v r = TellsStatus p x v.nodes (reference v.counters) r
