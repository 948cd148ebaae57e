-- Document 01's saved texts and the reader's refusals, by computation: runs A to H, K and M with what they
-- save, and case A's text with each rule of the reader broken in turn. A text is written as document 01 writes
-- its case A, with `/` for LF; what is expected comes from the independent program. Assumes nothing.
use Rattle.std.proofs.Common.{ℕ, zero, suc, ◌+◌, ◌-◌, ◌≡◌, refl, List, [], ◌∷◌, map}
use Prim.Native.String.{String, ◌++◌, len, slice, find}
use mathlib.Core.List.{◌++◌ as ◌++ᴸ◌}
use Rattle.lines.specs.Line.{digit, before, lines, pair, bytes, frame, number_from, character, hex, text}
use Rattle.lines.specs.Line as Line
use Rattle.lines.specs.Judging.{Judged, at_end, at_line, judged_from}
use Rattle.lines.specs.Judging as Judging
use Rattle.lines.proofs.Typed.{typed}
use Rattle.sets.specs.EventSet.{member}
use Rattle.terms.specs.Term.{Term, leaf, prefix, binary, call, SKIP, STOP, external, sequence, parallel, size}
use Rattle.places.specs.Place.{term_at, shifted, event_end, literal_at, begins, under}
use Rattle.rules.specs.Process.{one, two, three, four, Address, joined, untouched, right_side, cells}
use Rattle.rules.specs.Track.{lookup, labelled, prefixed, first_eval, around, each_with, meet, jointly}
use Rattle.rules.specs.Track.{carried, started, leads, parents, ended}
use Rattle.rules.specs.Step.{one_side, by_side, same, both_sides, with_right, in_sequence, by_left, at_Ω}
use Rattle.rules.specs.Step.{then, step}
use Rattle.rules.specs.Run.{State, start, after, over_room, Answer, accepted, refused, within_room, whole}
use Rattle.rules.specs.Run.{answered, answer}
use Rattle.graphs.specs.Graph.{Graph, graph_of, present, keep, heads, on_side, next, joins}
use Rattle.graphs.specs.Walk.{among, walk, order}
use Rattle.graphs.specs.Saved.{numbered, row, rows, rows_up, canonical, opening_frame, node_frame}
use Rattle.graphs.specs.Saved.{pair_frame, frames, saved}
use Rattle.graphs.specs.Saved as Saved
use Rattle.graphs.specs.Parsed.{frame_of, dues, ends_below, in_range, refusal, first_refusal, taken}
use Rattle.graphs.specs.Parsed.{whole_at, behind_first, stage_behind, number_met}
use Rattle.graphs.specs.Shape.{every, in_order, in_definition, in_term, there, placed, splits_term}
use Rattle.graphs.specs.Shape.{splits_literal, branches, event_of_term, event_of_literal, event_of}
use Rattle.graphs.specs.Shape.{one_event, joins_events, before_first, ascends, upward, from_on, walked}
use Rattle.graphs.specs.Shape.{shaped, judged, read}
use Rattle.graphs.specs.Shape as Shape

-- a text with one of its lines replaced
with_line : String → String → String → String
with_line line instead s = slice s 0 (find s line) ++ instead ++ slice s (find s line + len line) (len s)

-- a text so many times
times : ℕ → String → String
times zero s = ""
times (suc n) s = s ++ times n s

-- event k and then STOP
stopping : ℕ → Term
stopping k = prefix k (leaf STOP)

-- a parallel with a set
beside : ℕ → Term → Term → Term
beside x t u = binary (parallel x) t u

-- case A's table and saved text, and C's text
table_A : List Term
table_A = beside 1 (prefix 0 (leaf SKIP)) (stopping 0) ∷ []

track_A : String
track_A =
    "3001000800070001/310000000100/3100010000/31000200020101/310003000101/31000400020102/31000500020201/"
    ++ "310006000102/31000700020202/3200000001/3200010002/3200010005/3200020003/3200030004/3200050006/"
    ++ "3200060007/3300020005/3f/"

track_C : String
track_C =
    "3001000600050000/310000000100/3100010000/31000200020101/310003000101/31000400020201/310005000102/"
    ++ "3200000001/3200010002/3200010004/3200020003/3200040005/3f/"

-- the state that the accepted ones of some addresses reach
reached : List Term → State → List Address → State
reached ts s [] = s
reached ts s (a ∷ more) = reached ts (go (answer ts s a)) more
  where
    go : Answer → State
    go (refused r) = s
    go (accepted e t) = t

-- a run by its addresses, with what it saves
pub record Saving : Type 0 where
  pub table : List Term
  pub addresses : List Address
  pub expected : String

saving : List Term → List Address → String → Saving
saving ts as' s = record { table = ts; addresses = as'; expected = s }

-- the first step is the call
called : List Term → List Address → String → Saving
called ts as' s = saving ts ([] ∷ as') s

-- A, B, C in both orders, D, E, F, G, H, K by 2, and M
pub savings : List Saving
savings =
    called table_A ((three ∷ []) ∷ (one ∷ []) ∷ (two ∷ []) ∷ []) track_A
    ∷ called table_A ((three ∷ []) ∷ (two ∷ []) ∷ (one ∷ []) ∷ []) track_A
    ∷ called (beside 0 (stopping 0) (stopping 1) ∷ []) ((one ∷ []) ∷ (two ∷ []) ∷ []) track_C
    ∷ called (beside 0 (stopping 0) (stopping 1) ∷ []) ((two ∷ []) ∷ (one ∷ []) ∷ []) track_C
    ∷ called (beside 0 (leaf SKIP) (leaf SKIP) ∷ []) ((one ∷ []) ∷ (two ∷ []) ∷ (four ∷ []) ∷ [])
    ("3001000400030000/310000000100/3100010000/310002000101/310003000102/3200000001/3200010002/"
    ++ "3200010003/3f/")
    ∷ called (binary sequence (beside 0 (leaf SKIP) (leaf SKIP)) (leaf STOP) ∷ [])
    ((one ∷ []) ∷ (two ∷ []) ∷ (four ∷ []) ∷ [])
    ("3001000500050000/310000000100/310001000101/31000200020101/3100030000/31000400020102/3200000001/"
    ++ "3200010002/3200010004/3200020003/3200040003/3f/")
    ∷ called (binary external (leaf SKIP) (stopping 0) ∷ []) ((one ∷ []) ∷ [])
    "3001000300020000/310000000100/3100010000/310002000101/3200000001/3200010002/3f/"
    ∷ called (binary external (leaf (call 1)) (stopping 0) ∷ prefix 1 (leaf SKIP) ∷ [])
    ((one ∷ []) ∷ (two ∷ []) ∷ [])
    ("3001000500040000/310000000100/3100010000/310002000101/31000300020201/310004000102/3200000001/"
    ++ "3200010002/3200010003/3200030004/3f/")
    ∷ called (beside 1 (beside 1 (stopping 0) (stopping 0)) (stopping 0) ∷ []) ((three ∷ three ∷ []) ∷ [])
    ("3001000900080003/310000000100/3100010000/310002000101/3100030003010101/31000400020101/"
    ++ "3100050003010201/31000600020102/31000700020201/310008000102/3200000001/3200010002/3200010007/"
    ++ "3200020003/3200020005/3200030004/3200050006/3200070008/3300030005/3300030007/3300050007/3f/")
    ∷ called (beside 1 (stopping 0) (stopping 1) ∷ []) ((two ∷ []) ∷ [])
    "3001000400030000/310000000100/3100010000/31000200020201/310003000102/3200000001/3200010002/3200020003/3f/"
    ∷ saving table_A [] "3001000000000000/3f/"
    ∷ []

-- what a run saves, and what it has to save
pub saved_text : Saving → List ℕ
saved_text r = saved (graph_of (reached r.table start r.addresses))

pub expected_text : Saving → List ℕ
expected_text r = typed r.expected

-- each of the runs saves the text that stands beside it
pub cases_saved : map saved_text savings ≡ map expected_text savings
unfolding
    typed stopping beside table_A track_A track_C reached saving called savings saved_text
    expected_text joined untouched right_side cells labelled prefixed first_eval around each_with meet jointly
    carried started leads parents ended member one_side by_side same both_sides with_right in_sequence by_left
    at_Ω then step after over_room within_room whole answered answer character hex text begins under lookup
    present keep heads on_side next joins among walk order Saved.placed numbered row rows rows_up canonical
    Line.two opening_frame node_frame pair_frame frames
cases_saved = refl

-- a text for a table, with the number and line of its refusal, both 0 where it is read
pub record Reading : Type 0 where
  pub table : List Term
  pub given : String
  pub number : ℕ
  pub line : ℕ

for_table : List Term → String → ℕ → ℕ → Reading
for_table ts s n k = record { table = ts; given = s; number = n; line = k }

for_A : String → ℕ → ℕ → Reading
for_A s n k = for_table table_A s n k

-- case A's text, with a line replaced
broken : String → String → ℕ → ℕ → Reading
broken line instead n k = for_A (with_line line instead track_A) n k

-- a line replaced, which breaks a rule of shape
misshapen : String → String → Reading
misshapen line instead = broken line instead 13 0

-- node 1 at a place where nothing stands
misplaced : String
misplaced = with_line "3100010000/" "310001000109/" track_A

-- texts that are read: case A's, that of no step, and graphs that no run makes
reads : List Reading
reads =
    for_A track_A 0 0
    ∷ for_A "3001000000000000/3f/" 0 0
    ∷ for_table (leaf STOP ∷ []) "3001000100010000/310000000100/3200000000/3f/" 0 0
    ∷ for_table (leaf STOP ∷ [])
    "3001000200020000/310000000100/3100010000/3200000001/3200010001/3f/" 0 0
    ∷ for_table (leaf STOP ∷ [])
    "3001000200020000/310000000100/3100010000/3200000001/3200010000/3f/" 0 0
    ∷ []

-- numbers 1, 2 and 3, the last two in texts that break a rule of shape too
by_lines : List Reading
by_lines =
    for_A (slice track_A 0 (len track_A - 1)) 1 18
    ∷ broken "3100010000/" "310001000/" 1 3
    ∷ for_A "3001000000000000/3F/" 1 2
    ∷ for_A "3001000000000000/3f;/" 1 2
    ∷ for_A "3001000000000000;/3f/" 1 1
    ∷ broken "3100010000/" "3100010000;/" 1 3
    ∷ for_A (track_A ++ "/") 1 19
    ∷ for_A "" 2 1
    ∷ for_A "3001000000000000/" 2 2
    ∷ broken "3f/" "" 2 18
    ∷ for_A (track_A ++ "3f/") 2 19
    ∷ broken "3001000800070001/" "300100080007/" 2 1
    ∷ broken "3200000001/" "3300000001/" 2 10
    ∷ broken "3001000800070001/" "3001000700070001/" 2 9
    ∷ broken "310003000101/" "310003000201/" 2 5
    ∷ broken "3001000800070001/" "3002000800070001/" 3 1
    ∷ for_A "3001100100000000/3f/" 3 1
    ∷ for_A "3001000020010000/3f/" 3 1
    ∷ for_A "3001000000001001/3f/" 3 1
    ∷ broken "310003000101/" "310003010101/" 3 5
    ∷ broken "3100010000/" ("3100010041" ++ times 65 "01" ++ "/") 3 3
    ∷ broken "3200060007/" "3200060008/" 3 16
    ∷ broken "3300020005/" "3300080005/" 3 17
    ∷ for_A "3001000000010000/3200000000/3f/" 3 2
    ∷ for_A (slice misplaced 0 (len misplaced - 1)) 1 18
    ∷ for_A (with_line "3200060007/" "3200060009/" misplaced) 3 16
    ∷ []

-- number 13, rule by rule: number order, places, order of pairs, arcs of a split and of another node, the
-- walk's numbers, and meetings of one event
by_shape : List Reading
by_shape =
    misshapen "3100010000/31000200020101/" "31000200020101/3100010000/"
    ∷ misshapen "3100010000/" "3100020000/"
    ∷ misshapen "3100010000/" "31ffff0000/"
    ∷ for_A misplaced 13 0
    ∷ misshapen "310000000100/" "3100000000/"
    ∷ for_table (leaf STOP ∷ []) "3001000100000000/3100000000/3f/" 13 0
    ∷ misshapen "3100010000/" "310001000100/"
    ∷ for_table (leaf STOP ∷ []) "3001000200010000/310000000100/310001000100/3200000001/3f/" 13 0
    ∷ misshapen "310003000101/" "310003000103/"
    ∷ misshapen "310003000101/" "31000300020103/"
    ∷ misshapen "3200010002/3200010005/" "3200010005/3200010002/"
    ∷ misshapen "3200010002/" "3200000001/"
    ∷ misshapen "3300020005/" "3300050002/"
    ∷ misshapen "3300020005/" "3300020002/"
    ∷ for_A
    (with_line "3001000800070001/" "3001000800070002/"
    (with_line "3300020005/" "3300020005/3300020005/" track_A)) 13 0
    ∷ misshapen "3200010005/" "3200010007/"
    ∷ misshapen "3200010005/" "3200010001/"
    ∷ misshapen "3200010005/" "3200010003/"
    ∷ for_A
    ("3001000400030000/310000000100/3100010000/31000200020101/310003000101/3200000001/3200010002/"
    ++ "3200010003/3f/") 13 0
    ∷ for_A
    (with_line "3001000800070001/" "3001000800080001/"
    (with_line "3200030004/" "3200030004/3200030005/" track_A)) 13 0
    ∷ misshapen "31000200020101/" "31000200020201/"
    ∷ misshapen "3200060007/" "3200070007/"
    ∷ misshapen "3300020005/" "3300020006/"
    ∷ misshapen "3300020005/" "3300000005/"
    ∷ for_table (beside 1 (prefix 0 (leaf SKIP)) (stopping 1) ∷ []) track_A 13 0
    ∷ []

pub readings : List Reading
readings = reads ++ᴸ by_lines ++ᴸ by_shape

-- the number and line of a refusal
numbered_line : Judged Graph → ℕ × ℕ
numbered_line (Judging.accepted g) = (0, 0)
numbered_line (Judging.refused n k) = (n, k)

-- what the reader answers, and what it has to answer
pub read_answer : Reading → ℕ × ℕ
read_answer r = numbered_line (read r.table (typed r.given))

pub expected_answer : Reading → ℕ × ℕ
expected_answer r = (r.number, r.line)

-- each of the texts is read, or refused, as it says
pub cases_read : map read_answer readings ≡ map expected_answer readings
unfolding
    typed with_line times stopping beside table_A track_A for_table for_A broken misshapen misplaced reads
    by_lines by_shape readings numbered_line read_answer expected_answer digit before lines pair bytes frame
    number_from size term_at shifted event_end literal_at begins under lookup present keep heads on_side next
    joins among walk order frame_of dues ends_below in_range refusal first_refusal taken at_end at_line
    judged_from whole_at behind_first stage_behind number_met Shape.same every in_order in_definition in_term
    there placed splits_term splits_literal branches event_of_term event_of_literal event_of one_event
    joins_events Shape.before before_first ascends upward from_on walked shaped judged
cases_read = refl
