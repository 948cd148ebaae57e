-- What a script's line comes to, whatever the words hold.
use Rattle.std.specs.Prelude.{ℕ, List}
use Rattle.std.proofs.lemmas.List.Edits.{sets}
use Rattle.lines.specs.Line.{Raw}
use Rattle.scripts.specs.Script as Script
use Rattle.scripts.specs.ScriptStep.{ScriptStep}
use Rattle.scripts.specs.ScriptStep as Line
use Rattle.runs.specs.Answer.{Answer, Accepted, Refused}
use Rattle.playing.specs.Played.{Played}
use Rattle.playing.specs.Played as Comes
use Rattle.runs.specs.code.Doors.{Stepped, stepped}

-- what a line of a script comes to, with the words after it
pub record LinePlayed : Type 0 where
  pub played : Played
  pub nodes : List ℕ
  pub track : List ℕ
  pub counters : List ℕ

abbrev pub with_played : Played → List ℕ → List ℕ → List ℕ → LinePlayed
with_played r w g c = record { played = r; nodes = w; track = g; counters = c }

unfoldable pub of_answer : ℕ → Answer → Played
of_answer next (Accepted s) = Comes.Stepped s.event next
of_answer next (Refused n) = Comes.Refused n

module _ (p x w g c : List ℕ) where
  abbrev pub unplayed : Played → LinePlayed
  unplayed r = with_played r w g c

  unfoldable pub step_played : ℕ → Stepped → LinePlayed
  step_played next s = with_played (of_answer next s.answer) s.nodes s.track s.counters

  -- by what the line asks for, with its digits in the lent array
  unfoldable pub by_line : ScriptStep → List ℕ → LinePlayed
  by_line (Line.Address n next) ds = step_played next (stepped p x n ds w g c)
  by_line (Line.Refused n) ds = unplayed (Comes.Refused n)
  by_line Line.End ds = unplayed Comes.End

  -- the first of a script's lines, where they stand from `at` on
  unfoldable pub played : ℕ → List Raw → List ℕ → LinePlayed
  played at ls ds = by_line (Script.answer at ls) (sets ds 0 (Script.left ls))
