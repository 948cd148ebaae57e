-- `links::put_side_word` meets its contract, in range and out of it. Assumes nothing.
use Rattle.std.proofs.Common.{rules}
use Rattle.links.specs.words.Columns.{put}
use Rattle.links.proofs.put_side_word.Goals as goal

pub returns-then-i-lt-SIDE_WORDS : goal.returns-then-i-lt-SIDE_WORDS
unfolding put
returns-then-i-lt-SIDE_WORDS c = search rules

pub returns-else-i-lt-SIDE_WORDS : goal.returns-else-i-lt-SIDE_WORDS
unfolding put
returns-else-i-lt-SIDE_WORDS c = search rules
