-- `plans::word` meets its contract, in range and out of it. Assumes nothing.
use Rattle.std.proofs.Common.{◌∙◌}
use Rattle.plans.proofs.Laws.{word_in, word_out}
use Rattle.plans.proofs.word.Goals as goal

pub returns-then-t-lt-TERM_ROOM : goal.returns-then-t-lt-TERM_ROOM
returns-then-t-lt-TERM_ROOM c = c.from.ensures ∙ word_in _ _ _ c.if-t-lt-TERM_ROOM.true

pub returns-else-t-lt-TERM_ROOM : goal.returns-else-t-lt-TERM_ROOM
returns-else-t-lt-TERM_ROOM c = word_out _ _ _ c.if-t-lt-TERM_ROOM.false
