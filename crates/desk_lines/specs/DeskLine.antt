-- Document 02, W1: the lines of tables and scripts, which desks write. Some offices write A-F and end a line with CR LF: such
-- a line says what its strict spelling says, in small letters and without the CR. A saved track has strict lines alone.
use Rattle.std.specs.Prelude.{ℕ, ◌+◌, ◌&&◌, List, [], ◌∷◌, map, leb, eqb}
use Rattle.std.proofs.Math.Option.{Option}
use Rattle.lines.specs.Line.{choose, Raw, full, open_ended, frame, characters, Form, answer_of}
use Rattle.lines.specs.declared.Line.{Line}

-- the carriage return
abbrev pub CR : ℕ
CR = 13

-- A to F as a to f, any other character as it is
unfoldable pub small : ℕ → ℕ
small c = choose (leb 65 c && leb c 70) (c + 32) c

-- characters without the CR that is the last of them
unfoldable pub without_CR : List ℕ → List ℕ
without_CR [] = []
without_CR (c ∷ []) = choose (eqb c CR) [] (c ∷ [])
without_CR (c ∷ d ∷ cs) = c ∷ without_CR (d ∷ cs)

-- the strict spelling of a line: small letters, and its end is LF alone
unfoldable pub strict : Raw → Raw
strict (full cs) = full (map small (without_CR cs))
strict (open_ended cs) = open_ended cs

-- the bytes of a desk's line, those of its strict spelling; none where it is no line
unfoldable pub desk_frame : Raw → Option (List ℕ)
desk_frame l = frame (strict l)

-- the form of a desk's lines: in front of a line's end stand as many characters as its strict spelling has
abbrev pub desk_form : Form
desk_form = record { own = λ l. characters (strict l); reads = desk_frame }

-- the answer for the first of a text's lines, where the text stands from `at` on
abbrev pub desk_answer : ℕ → List Raw → Line
desk_answer = answer_of desk_form
