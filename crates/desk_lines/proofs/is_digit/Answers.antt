-- `desk_lines::is_digit` meets its contract: a character has a place among the 64 that the number tells of, and its bit there tells,
-- or it has none and is no digit. Assumes nothing.
use Rattle.std.proofs.Common.{◌∙◌, rules, le-ltb}
use Rattle.desk_lines.proofs.Capitals.{bit_tells, no_place}
use Rattle.desk_lines.proofs.is_digit.Goals as goal

pub returns-then-place-lt64 : goal.returns-then-place-lt64
returns-then-place-lt64 c = bit_tells c.args.c (search rules) c.if-place-lt64.true

pub returns-else-place-lt64 : goal.returns-else-place-lt64
returns-else-place-lt64 c = le-ltb _ 64 c.if-place-lt64.false ∙ no_place c.args.c (search rules) c.if-place-lt64.false
