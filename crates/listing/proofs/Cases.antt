-- Document 01's cases A to H, K and M, and those of document 02's W1 and W2, from input to output, by computation: one table for
-- each, and one statement over them and over further inputs that are refused. A text is written as document 01 writes its case
-- A, with `/` for LF, and with `;` for CR. Case A is document 01's own text; every other output comes from the independent
-- program. Assumes nothing.
use Prim.Native.String.{String, ◌++◌}
use Rattle.std.proofs.Common.{◌≡◌, refl, List, [], ◌∷◌, map}
use mathlib.Core.List.{◌++◌ as ◌++ᴸ◌}
use Rattle.lines.specs.Line.{digit, before, lines, pair, bytes, frame, characters, number_from, character}
use Rattle.lines.specs.Line.{hex, text, two}
use Rattle.lines.specs.Judging.{at_end, at_line, judged_from}
use Rattle.lines.proofs.Typed.{typed}
use Rattle.desk_lines.specs.DeskLine.{small, without_CR, strict, desk_frame}
use Rattle.scripts.specs.Script.{well_formed, all_digits, in_range, asked}
use Rattle.kinds.specs.Kind.{known, payload_bytes, subterms}
use Rattle.sets.specs.EventSet.{member}
use Rattle.frames.specs.TableFrame.{frame_of, limit, longest, refusal, first_refusal, closes}
use Rattle.tables.specs.Table.{next_due, seen, taken, whole_at, number_met, stage_behind, judged}
use Rattle.terms.specs.Term.{leaf_of, operator_of, grown, trees}
use Rattle.places.specs.Place.{begins, under}
use Rattle.rules.specs.Process.{joined, untouched, right_side, cells}
use Rattle.rules.specs.Track.{lookup, labelled, prefixed, first_eval, around, each_with, meet, jointly}
use Rattle.rules.specs.Track.{carried, started, leads, parents, ended}
use Rattle.rules.specs.Step.{one_side, by_side, same, both_sides, with_right, in_sequence, by_left, at_Ω}
use Rattle.rules.specs.Step.{then, step}
use Rattle.rules.specs.Run.{after, over_room, whole, answer}
use Rattle.rules.specs.Run as Run
use Rattle.rules.specs.Offers.{leaf_offers, offers-✓, offers_event, offers_some, plain_τ, moves, status}
use Rattle.rules.specs.Addressed.{digit_of, with_digit, answered, address_of}
use Rattle.graphs.specs.Graph.{present, keep, heads, on_side, next, joins}
use Rattle.graphs.specs.Walk.{among, walk, order}
use Rattle.graphs.specs.Saved.{placed, numbered, row, rows, rows_up, canonical, opening_frame, node_frame}
use Rattle.graphs.specs.Saved.{pair_frame, frames}
use Rattle.inputs.specs.Cut.{starts_1f, extent, table_length, table_text, script_text}
use Rattle.telling.specs.ListingFrame.{step_frame, status_frame, refusal_frame}
use Rattle.playing.specs.LineAnswer.{line_answer}
use Rattle.listing.specs.Listing.{goes_on, played, end_frames, within_room, run_listing}
use Rattle.listing.specs.Listing.{table_listing, listing}

-- an input, and the output that it has to give
pub record Case : Type 0 where
  pub given : String
  pub expected : String

case : String → String → Case
case i o = record { given = i; expected = o }

-- (e0→SKIP) ∥ (e0→STOP) on e0, and case A's output
table_A : String
table_A = "10010101/1100/12060000000000000001/120200/1207/120200/1208/1f0005/"

listed_A : String
listed_A =
    "4000/400200/4000/4000/4102/3001000800070001/310000000100/3100010000/31000200020101/310003000101/"
    ++ "31000400020102/31000500020201/310006000102/31000700020202/3200000001/3200010002/3200010005/"
    ++ "3200020003/3200030004/3200050006/3200060007/3300020005/3f/"

-- (e0→STOP) ∥ (e1→STOP), empty set, and what it saves
table_C : String
table_C = "10010102/1100/12060000000000000000/120200/1208/120201/1208/1f0005/"

track_C : String
track_C =
    "3001000600050000/310000000100/3100010000/31000200020101/310003000101/31000400020201/310005000102/"
    ++ "3200000001/3200010002/3200010004/3200020003/3200040005/3f/"

-- (e0→STOP) ∥ (e1→STOP) on e0
table_K : String
table_K = "10010102/1100/12060000000000000001/120200/1208/120201/1208/1f0005/"

-- document 01's cases, in its order
pub cases : List Case
cases =
    -- A. (e0→SKIP) ∥ (e0→STOP) on e0, by 3, 1, 2
    case (table_A ++ "200000/20000103/20000101/20000102/") listed_A
    -- B. the same, by 3, 2, 1
    ∷ case (table_A ++ "200000/20000103/20000102/20000101/") listed_A
    -- C. (e0→STOP) ∥ (e1→STOP), empty set, by 1, 2
    ∷ case (table_C ++ "200000/20000101/20000102/") ("4000/400200/400201/4102/" ++ track_C)
    -- C. the same, by 2, 1
    ∷ case (table_C ++ "200000/20000102/20000101/") ("4000/400201/400200/4102/" ++ track_C)
    -- D. SKIP ∥ SKIP by 1, 2, 4
    ∷ case "10010100/1100/12060000000000000000/1207/1207/1f0003/200000/20000101/20000102/20000104/"
    ("4000/4000/4000/4001/4101/3001000400030000/310000000100/3100010000/310002000101/310003000102/"
    ++ "3200000001/3200010002/3200010003/3f/")
    -- E. (SKIP ∥ SKIP);STOP by 1, 2, 4
    ∷ case "10010100/1100/1205/12060000000000000000/1207/1207/1208/1f0005/200000/20000101/20000102/20000104/"
    ("4000/4000/4000/4000/4102/3001000500050000/310000000100/310001000101/31000200020101/3100030000/"
    ++ "31000400020102/3200000001/3200010002/3200010004/3200020003/3200040003/3f/")
    -- F. SKIP □ (e0→STOP) by 1
    ∷ case "10010101/1100/1204/1207/120200/1208/1f0004/200000/20000101/"
    ("4000/4001/4101/3001000300020000/310000000100/3100010000/310002000101/3200000001/3200010002/3f/")
    -- G. C □ (e0→STOP), C = e1→SKIP, by 1, 2
    ∷ case "10010202/1100/1204/120101/120200/1208/1101/120201/1207/1f0006/200000/20000101/20000102/"
    ("4000/4000/400200/4102/3001000500040000/310000000100/3100010000/310002000101/31000300020201/"
    ++ "310004000102/3200000001/3200010002/3200010003/3200030004/3f/")
    -- H. ((e0→STOP) ∥ (e0→STOP)) ∥ (e0→STOP), both sets e0, by the one address 3 3
    ∷ case
    ("10010101/1100/12060000000000000001/12060000000000000001/120200/1208/120200/1208/120200/1208/1f0008/"
    ++ "200000/2000020303/")
    ("4000/400200/4102/3001000900080003/310000000100/3100010000/310002000101/3100030003010101/"
    ++ "31000400020101/3100050003010201/31000600020102/31000700020201/310008000102/3200000001/3200010002/"
    ++ "3200010007/3200020003/3200020005/3200030004/3200050006/3200070008/3300030005/3300030007/3300050007/3f/")
    -- K. (e0→STOP) ∥ (e1→STOP) on e0, by 1
    ∷ case (table_K ++ "200000/20000101/") "4000/4100/4e070002/3001000100000000/310000000100/3f/"
    -- K. the same, by 3
    ∷ case (table_K ++ "200000/20000103/") "4000/4100/4e070002/3001000100000000/310000000100/3f/"
    -- K. the same, by 2
    ∷ case (table_K ++ "200000/20000102/")
    ("4000/400201/4102/3001000400030000/310000000100/3100010000/31000200020201/310003000102/3200000001/"
    ++ "3200010002/3200020003/3f/")
    -- M. A's table, and no script line
    ∷ case table_A "4100/3001000000000000/3f/"
    ∷ []

-- A's first two steps and their status, what a refused line tells, and the track that they leave
stopped_A : String → String
stopped_A refusal =
    "4000/400200/4100/" ++ refusal
    ++ "3001000600050001/310000000100/3100010000/31000200020101/310003000101/31000400020201/310005000102/"
    ++ "3200000001/3200010002/3200010004/3200020003/3200040005/3300020004/3f/"

-- document 02, W1: capitals and CR LF, and what is no line all the same
pub desk_cases : List Case
desk_cases =
    -- A from the other office, and with both kinds of lines
    case
    ("10010101;/1100;/12060000000000000001;/120200;/1207;/120200;/1208;/1F0005;/"
    ++ "200000;/20000103;/20000101;/20000102;/") listed_A
    ∷ case
    ("10010101;/1100/12060000000000000001/120200;/1207/120200;/1208/1F0005/"
    ++ "200000;/20000103/20000101;/20000102/") listed_A
    -- e10→STOP of 11 events
    ∷ case "1001010B/1100;/12020A/1208/1F0002;/200000/200000/"
    ("4000/40020a/4102/3001000300020000/310000000100/310001000101/3100020000/3200000001/3200010002/3f/")
    -- a CR inside a line, two at its end, one alone in front of LF, and one with no LF behind it
    ∷ case "10010100/1100/12;07/1f0001/200000/" "4e010003/"
    ∷ case "10010100/1100/1207;;/1f0001/200000/" "4e010003/"
    ∷ case "10010100/;/1207/1f0001/" "4e010002/"
    ∷ case "10010100/1100/1207/1f0001;" "4e010004/"
    -- `1F` ends a table where it is no line, too
    ∷ case "10010100/1100/1207/1Fg/200000/" "4e010004/"
    -- the same in A's third script line
    ∷ case (table_A ++ "200000;/20000103;/2000;0101;/20000102/") (stopped_A "4e010003/")
    ∷ case (table_A ++ "200000;/20000103;/20000101;;/20000102/") (stopped_A "4e010003/")
    ∷ case (table_A ++ "200000;/20000103;/;/") (stopped_A "4e010003/")
    ∷ case (table_A ++ "200000;/20000103;/20000101;") (stopped_A "4e010003/")
    ∷ []

-- what a run of the first call alone saves
called : String
called = "3001000100000000/310000000100/3f/"

-- document 02, W2: which runs are stuck
pub stuck_cases : List Case
stuck_cases =
    -- A cut after its third script line: a STOP stands, and has not stepped
    case (table_A ++ "200000/20000103/20000101/")
    ("4000/400200/4000/4102/3001000700060001/310000000100/3100010000/31000200020101/310003000101/31000400020102/"
    ++ "31000500020201/310006000102/3200000001/3200010002/3200010005/3200020003/3200030004/3200050006/3300020005/3f/")
    -- a prefix that waits alone
    ∷ case "10010101/1100/120200/1208/1f0002/200000/" ("4000/4100/" ++ called)
    -- a parallel whose sides wait for events of the set that the other does not offer
    ∷ case "10010102/1100/12060000000000000003/120200/1208/120201/1208/1f0005/200000/" ("4000/4102/" ++ called)
    -- one whose other side is a STOP, which has not stepped, and which has
    ∷ case "10010101/1100/12060000000000000001/120200/1208/1208/1f0004/200000/" ("4000/4102/" ++ called)
    ∷ case "10010101/1100/12060000000000000001/120200/1208/1208/1f0004/200000/20000102/"
    "4000/4000/4102/3001000300020000/310000000100/3100010000/310002000102/3200000001/3200010002/3f/"
    -- a call
    ∷ case "10010100/1100/120100/1f0001/200000/" ("4000/4100/" ++ called)
    ∷ []

-- further inputs: refusals of a table, told alone, and of a script's line
pub further : List Case
further =
    -- no input: the text ends early
    case "" "4e020001/"
    -- a last line without LF in the table
    ∷ case "10010100/1100/1207/1f0001" "4e010004/"
    -- a table of no last line
    ∷ case "10010100/1100/1207/" "4e020004/"
    -- a term without its kind
    ∷ case "10010100/1100/12/1f0001/200000/" "4e020003/"
    -- a term too few for tttt
    ∷ case "10010100/1100/1207/1f0002/200000/" "4e030004/"
    -- a prefix without its continuation
    ∷ case "10010101/1100/120200/1f0001/200000/" "4e040004/"
    -- A with the third script line an odd count of digits, not as long as it says, a digit 05, and without LF
    ∷ case (table_A ++ "200000/20000103/2000010/20000102/") (stopped_A "4e010003/")
    ∷ case (table_A ++ "200000/20000103/20000201/20000102/") (stopped_A "4e020003/")
    ∷ case (table_A ++ "200000/20000103/20000105/20000102/") (stopped_A "4e030003/")
    ∷ case (table_A ++ "200000/20000103/20000101") (stopped_A "4e010003/")
    -- A with its first script line refused
    ∷ case (table_A ++ "20000101/200000/") "4100/4e070001/3001000000000000/3f/"
    ∷ []

-- each of the inputs is listed as the output that stands beside it
pub cases_listed
    : map (λ (c : Case). listing (typed c.given)) (cases ++ᴸ desk_cases ++ᴸ stuck_cases ++ᴸ further)
    ≡ map (λ (c : Case). typed c.expected) (cases ++ᴸ desk_cases ++ᴸ stuck_cases ++ᴸ further)
unfolding
    typed case table_A listed_A table_C track_C table_K cases stopped_A desk_cases called stuck_cases further digit before lines pair bytes
    frame small without_CR strict desk_frame characters number_from character hex text well_formed all_digits in_range asked known payload_bytes
    subterms member frame_of limit longest refusal first_refusal closes next_due seen taken at_end at_line
    judged_from whole_at number_met stage_behind judged leaf_of operator_of grown trees begins under joined
    untouched right_side cells lookup labelled prefixed first_eval around each_with meet jointly carried
    started leads parents ended one_side by_side same both_sides with_right in_sequence by_left at_Ω then
    step after over_room Run.within_room whole Run.answered answer leaf_offers offers-✓
    offers_event offers_some plain_τ moves status digit_of with_digit answered present keep heads on_side next joins
    among walk order placed numbered row rows rows_up canonical two opening_frame node_frame pair_frame
    frames starts_1f extent table_length table_text script_text step_frame status_frame refusal_frame
    address_of line_answer goes_on played end_frames within_room run_listing table_listing listing
cases_listed = refl
