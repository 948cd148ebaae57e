-- `control::word` meets its contract, in range and out of it. Assumes nothing.
use Rattle.std.proofs.Common.{◌∙◌}
use Rattle.control.proofs.Laws.{node_in, node_out}
use Rattle.control.proofs.word.Goals as goal

pub returns-then-n-lt-REFERENCES : goal.returns-then-n-lt-REFERENCES
returns-then-n-lt-REFERENCES c = c.from.ensures ∙ node_in _ _ _ c.if-n-lt-REFERENCES.true

pub returns-else-n-lt-REFERENCES : goal.returns-else-n-lt-REFERENCES
returns-else-n-lt-REFERENCES c = node_out _ _ _ c.if-n-lt-REFERENCES.false
