-- What stands at a cursor, by how the text's lines are spelled: strictly, in a saved track, or as desks write them, in a table or
-- a script.
use Rattle.std.specs.Prelude.{ℕ, List}
use Rattle.lines.specs.Line.{Raw, answer}
use Rattle.lines.specs.declared.Line.{Line}
use Rattle.desk_lines.specs.DeskLine.{desk_answer}
use Rattle.line_reader.specs.declared.Spelling.{Spelling}
use Rattle.line_reader.specs.declared.Spelling.TheVariants.{Strict, Desk}

abbrev pub answer_by : Spelling → ℕ → List Raw → Line
answer_by Strict at ls = answer at ls
answer_by Desk at ls = desk_answer at ls
