-- `numbers::byte` meets its contract: where the characters have byte number k, both of its characters can be
-- read and `byte_of` makes the byte of them; where they do not, both sides are 0. Assumes nothing.
use Rattle.std.proofs.Common.{◌∙◌}
use Rattle.numbers.proofs.Laws.{byte_some, byte_none}
use Rattle.numbers.proofs.byte.Goals as goal

pub returns-then-chars-k : goal.returns-then-chars-k
returns-then-chars-k c = byte_none _ _ c.if-chars-k.true

pub returns : goal.returns
returns c = c.byte_of.ensures ∙ byte_some _ _ c.if-chars-k.false
