-- Document 01, 'The program's listing': the frames of a listing, but for those of the saved track.
use Rattle.std.specs.Prelude.{ℕ, List, [], ◌∷◌}
use Rattle.lines.specs.Line.{text, two}
use Rattle.rules.specs.declared.Event.{Event}
use Rattle.rules.specs.declared.Event.TheVariants.{Tau as τ, Tick as ✓, Visible as visible}
use Rattle.rules.specs.declared.Status.{Status}
use Rattle.rules.specs.declared.Status.TheVariants.{Live as live, Ended as ended, Stuck as stuck}

-- 40 00 (τ), 40 01 (✓) or 40 02 ee (event ee): an accepted step
unfoldable pub step_frame : Event → List ℕ
step_frame τ = 0x40 ∷ 0 ∷ []
step_frame ✓ = 0x40 ∷ 1 ∷ []
step_frame (visible e) = 0x40 ∷ 2 ∷ e ∷ []

-- 41 ss: 00 live, 01 ended, 02 stuck
unfoldable pub status_frame : Status → List ℕ
status_frame live = 0x41 ∷ 0 ∷ []
status_frame ended = 0x41 ∷ 1 ∷ []
status_frame stuck = 0x41 ∷ 2 ∷ []

-- 4e rr llll: a refusal's number and line
unfoldable pub refusal_frame : ℕ → ℕ → List ℕ
refusal_frame n line = 0x4e ∷ n ∷ two line

-- a refusal told alone
abbrev pub alone : ℕ → ℕ → List ℕ
alone r n = text (refusal_frame r n ∷ [])
