-- `control::put` meets its contract, in range and out of it. Assumes nothing.
use Rattle.control.proofs.Laws.{put_in, put_out}
use Rattle.control.proofs.put.Goals as goal

pub returns-then-n-lt-REFERENCES : goal.returns-then-n-lt-REFERENCES
returns-then-n-lt-REFERENCES c = put_in _ _ _ _ c.if-n-lt-REFERENCES.true

pub returns-else-n-lt-REFERENCES : goal.returns-else-n-lt-REFERENCES
returns-else-n-lt-REFERENCES c = put_out _ _ _ _ c.if-n-lt-REFERENCES.false
