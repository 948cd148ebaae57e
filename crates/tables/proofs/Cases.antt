-- Tables judged by computation: document 01's case A is accepted with its counts, and for each
-- number of refusal from 1 to 5 a text meets it at its line, the lowest where several hold. One
-- statement for all. Assumes nothing.
use Rattle.std.proofs.Common.{ℕ, ◌+◌, ◌≡◌, refl, List, [], ◌∷◌, ◌++◌, map, replicate}
use Rattle.lines.specs.Line.{character, hex, text, digit, before, lines, pair, bytes, frame, characters}
use Rattle.lines.specs.Line.{number_from}
use Rattle.lines.specs.Judging.{at_end, at_line, judged_from}
use Rattle.desk_lines.specs.DeskLine.{small, without_CR, strict, desk_frame}
use Rattle.kinds.specs.Kind.{known, payload_bytes, subterms}
use Rattle.frames.specs.TableFrame.{frame_of, limit, longest, refusal, first_refusal, closes}
use Rattle.tables.specs.Table.{next_due, seen, taken, whole_at, number_met, stage_behind, judged}
use Rattle.tables.specs.words.Columns.{answer}
use Rattle.tables.specs.Checked.{Checked, Accepted, Refused}

-- the frames that the texts are made of
opening : List ℕ
opening = 0x10 ∷ 1 ∷ 1 ∷ 1 ∷ []

first : List ℕ
first = 0x11 ∷ 0 ∷ []

e0 : List ℕ
e0 = 0x12 ∷ 2 ∷ 0 ∷ []

SKIP : List ℕ
SKIP = 0x12 ∷ 7 ∷ []

STOP : List ℕ
STOP = 0x12 ∷ 8 ∷ []

-- case A: (e0 → SKIP) and (e0 → STOP) in parallel on e0
case_A : List (List ℕ)
case_A =
    opening ∷ first
    ∷ (0x12 ∷ 6 ∷ 0 ∷ 0 ∷ 0 ∷ 0 ∷ 0 ∷ 0 ∷ 0 ∷ 1 ∷ []) ∷ e0 ∷ SKIP ∷ e0 ∷ STOP
    ∷ (0x1f ∷ 0 ∷ 5 ∷ []) ∷ []

-- n prefixes and SKIP, with their count
prefixes : ℕ → List (List ℕ)
prefixes n = opening ∷ first ∷ replicate n e0 ++ SKIP ∷ (0x1f ∷ 0 ∷ (n + 1) ∷ []) ∷ []

of : ℕ → ℕ → ℕ → Checked
of d e t = Accepted (record { definitions = d; events = e; terms = t })

pub texts : List (List ℕ)
texts =
    text case_A
    ∷ text (prefixes 64)
    ∷ text (prefixes 65)
    ∷ []
    ∷ text (opening ∷ [])
    ∷ (text (opening ∷ first ∷ []) ++ (49 ∷ []))
    ∷ text (opening ∷ SKIP ∷ [])
    ∷ text (opening ∷ first ∷ (0x12 ∷ 2 ∷ 1 ∷ []) ∷ [])
    ∷ text (opening ∷ (0x11 ∷ 1 ∷ []) ∷ [])
    ∷ text (opening ∷ first ∷ e0 ∷ (0x1f ∷ 0 ∷ 0 ∷ []) ∷ [])
    ∷ text (opening ∷ first ∷ e0 ∷ (0x1f ∷ 0 ∷ 1 ∷ []) ∷ [])
    ∷ text (opening ∷ first ∷ SKIP ∷ SKIP ∷ [])
    ∷ text (opening ∷ (0x1f ∷ 0 ∷ 0 ∷ []) ∷ [])
    ∷ text (case_A ++ SKIP ∷ [])
    ∷ []

pub answers : List Checked
answers =
    of 1 1 5
    ∷ of 1 1 65
    ∷ Refused 5 67
    ∷ Refused 2 1
    ∷ Refused 2 2
    ∷ Refused 1 3
    ∷ Refused 2 2
    ∷ Refused 3 3
    ∷ Refused 3 2
    ∷ Refused 3 4
    ∷ Refused 4 4
    ∷ Refused 4 4
    ∷ Refused 4 2
    ∷ Refused 2 9
    ∷ []

pub cases_judged : map (λ (t : List ℕ). answer (judged t)) texts ≡ answers
unfolding opening first e0 SKIP STOP case_A prefixes of texts answers character hex text digit before lines
    pair bytes frame small without_CR strict desk_frame characters number_from known payload_bytes subterms frame_of limit longest refusal
    first_refusal closes next_due seen taken at_end at_line judged_from whole_at number_met stage_behind judged
    answer
cases_judged = refl
