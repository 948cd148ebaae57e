-- `control::put_track` meets its contract, in range and out of it. Assumes nothing.
use Rattle.control.proofs.Laws.{put_track_in, put_track_out}
use Rattle.control.proofs.put_track.Goals as goal

pub returns-then-i-lt-TRACK_WORDS : goal.returns-then-i-lt-TRACK_WORDS
returns-then-i-lt-TRACK_WORDS c = put_track_in _ _ _ c.if-i-lt-TRACK_WORDS.true

pub returns-else-i-lt-TRACK_WORDS : goal.returns-else-i-lt-TRACK_WORDS
returns-else-i-lt-TRACK_WORDS c = put_track_out _ _ _ c.if-i-lt-TRACK_WORDS.false
