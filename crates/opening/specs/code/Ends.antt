-- What the first and the last line of a saved track come to, whatever they are handed.
use Rattle.std.specs.Prelude.{ℕ, ◌+◌, List, [], ◌∷◌}
use Rattle.lines.specs.Line.{Raw, frame}
use Rattle.graphs.specs.Parsed.{Frame, opening, node, arc, meeting, last, wrong, frame_of, the_last, refusal}
use Rattle.graphs.specs.Parsed.{first_refusal}
use Rattle.opening.specs.code.Phases.{by_frame, line_read}
use Rattle.opening.specs.Answers.{TrackOpened, Track, Fails, Lines, Goes, Stops}

-- line 1 by its frame, where the next line begins at `next`: the counts of a track
unfoldable pub counts : ℕ → Frame → TrackOpened
counts next (opening e n a s) = Track n a s next
counts next (node i w) = Fails 2
counts next (arc a) = Fails 2
counts next (meeting a) = Fails 2
counts next last = Fails 2
counts next wrong = Fails 2

-- line 1: the counts of a track, or the number that it meets
unfoldable pub opened : List Raw → TrackOpened
opened = line_read Fails (λ bs. first_refusal (frame_of bs)) (λ bs next ls. counts next (frame_of bs)) 0

-- behind the last line any line is a frame out of place
unfoldable pub none_read : ℕ → ℕ → List Raw → Lines
none_read k at [] = Goes at
none_read k at (l ∷ ls) = by_frame (λ r. Stops r k) (λ bs. 2) (λ bs next ls. Goes next) at ls (frame l)

-- the last line, line k, and what stands behind it; no range bears on it
unfoldable pub last_read : ℕ → ℕ → List Raw → Lines
last_read k at ls =
    line_read (λ r. Stops r k) (λ bs. refusal 0 0 the_last (frame_of bs)) (λ bs next ls. none_read (k + 1) next ls)
    at ls
