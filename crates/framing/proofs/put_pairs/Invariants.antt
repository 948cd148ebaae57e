-- `framing::put_pairs` meets its contract. The loop's invariant: what is owed are the lines of the
-- pairs from number i on. Assumes nothing.
use Rattle.std.proofs.Common.{◌-◌, map}
use Rattle.lines.specs.Line.{text}
use Rattle.spelling.proofs.Putting.{Owed}
use Rattle.control.specs.words.Views.{pairs}
use Rattle.graphs.specs.Saved.{pair_frame}
use Rattle.framing.proofs.put_pairs.Given as goal

abbrev pub invariant-loop-i : goal.invariant-loop-i
invariant-loop-i l = Owed (text (map (pair_frame l.code) (pairs l.base l.track 0 l.count))) l.from l.initial.out
    (text (map (pair_frame l.code) (pairs l.base l.track l.i (l.count - l.i)))) l.at l.out
