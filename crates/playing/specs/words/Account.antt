-- What a script's line comes to where lent words hold a run: document 01's account of the line, by the answer's cases, and
-- the state that the words hold behind it.
use Rattle.std.specs.Prelude.{ℕ, ◌+◌, ◌≡◌, List, [], ◌∷◌, length}
use Rattle.lines.specs.Line.{Raw, characters}
use Rattle.desk_lines.specs.DeskLine.{desk_frame}
use Rattle.scripts.specs.Script.{most, asked}
use Rattle.terms.specs.Term.{Term}
use Rattle.rules.specs.Run.{State}
use Rattle.rules.specs.Run as Run
use Rattle.plans.specs.words.Plan.{Layout}
use Rattle.runs.specs.words.Held.{Table, Holds, behind, Words}
use Rattle.playing.specs.LineAnswer.{line_answer}
use Rattle.playing.specs.Played.{Played, Stepped, Refused, End}

-- the answer's case for each of document 01's, with its number and values; the line behind begins at `next`
unfoldable pub line_told : ℕ → Run.Answer → Played
line_told next (Run.accepted e t) = Stepped e next
line_told next (Run.refused n) = Refused n

-- what the first of a script's lines comes to in a state, where they stand from `at` on
unfoldable pub first_told : List Term → State → ℕ → List Raw → Played
first_told ts s at [] = End
first_told ts s at (l ∷ ls) = line_told (at + length (characters l) + 1) (line_answer ts s (asked (desk_frame l)))

-- the state behind it: where there is no line, or a refused one, it is as it was
unfoldable pub first_behind : List Term → State → List Raw → State
first_behind ts s [] = s
first_behind ts s (l ∷ ls) = behind s (line_answer ts s (asked (desk_frame l)))

-- what playing a script's first line owes a run, by an array of digits that is as long as its type says: its answer is
-- document 01's, and the words after it hold the state behind it
abbrev pub Plays : List ℕ → List ℕ → List ℕ → ℕ → List Raw → Words → Played → Words → Type 0
Plays p x ds at ls v r v' =
    length ds ≡ most → (l : Layout) (ts : List Term) (s : State) → Table l p x ts
    → Holds l p x ts v.nodes v.track v.counters s
    → (r ≡ first_told ts s at ls)
    × Holds l p x ts v'.nodes v'.track v'.counters (first_behind ts s ls)
