-- `framing::put_path` meets its contract. The loop's invariant: what is owed are the digits from number
-- i on. Assumes nothing.
use Rattle.std.proofs.Common.{take, drop}
use Rattle.lines.specs.Line.{hex}
use Rattle.spelling.proofs.Putting.{Owed}
use Rattle.framing.proofs.put_path.Given as goal

abbrev pub invariant-loop-digit : goal.invariant-loop-digit
invariant-loop-digit l = Owed (hex (take l.count l.path)) l.from l.initial.out (hex (drop l.digit-index (take l.count l.path))) l.at l.out
