-- A text in its strict spelling: what a converter would write, if one were needed. Each line goes into small letters and loses
-- its CR; what is no line stays as it is.
use Rattle.std.specs.Prelude.{ℕ, ◌≡◌, List, [], ◌∷◌, ◌++◌, map}
use Rattle.std.proofs.Math.Option.{Option, none, some}
use Rattle.lines.specs.Line.{LF, Raw, full, open_ended, lines}
use Rattle.desk_lines.specs.DeskLine.{strict, desk_frame}

-- the lines of two texts say the same, one by one
abbrev pub SaidAlike : List Raw → List Raw → Type 0
SaidAlike ls ms = map desk_frame ls ≡ map desk_frame ms

-- a line in its strict spelling, by its bytes
unfoldable pub respelled_by : Option (List ℕ) → Raw → Raw
respelled_by none l = l
respelled_by (some bs) l = strict l

unfoldable pub respelled_line : Raw → Raw
respelled_line l = respelled_by (desk_frame l) l

-- lines as a text
unfoldable pub joined : List Raw → List ℕ
joined [] = []
joined (full cs ∷ ls) = cs ++ LF ∷ joined ls
joined (open_ended cs ∷ ls) = cs ++ joined ls

unfoldable pub respelled : List ℕ → List ℕ
respelled t = joined (map respelled_line (lines t))
