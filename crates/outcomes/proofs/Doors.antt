-- Every door's promise settles its outcome. The promise is the one that the door's contract states (`Learnt`, what a caller is
-- told), and no copy of it. Where it is an equation of the outcome with what was lent, that it settles is immediate, by one law;
-- a set, and what is offered, are told by their members, which determine them. Assumes nothing.
use Rattle.std.proofs.Common.{List, Option, Result, ℕ, ◌≡◌, refl, sym, ap, ◌∙◌, Bool, true, false}
use Rattle.std.proofs.lemmas.Bool.{false≢true}
use Rattle.lines.specs.declared.Refusal.{Refusal}
use Rattle.lines.specs.declared.RefusedAt.{RefusedAt}
use Rattle.lines.proofs.Refusals.{met_once}
use Rattle.scripts.proofs.Laws.{step_told_once}
use Rattle.refusals.proofs.Told.{first_told_once, line_told_once}
use Rattle.columns.specs.words.Columns.{Columns}
use Rattle.columns.specs.words.Held.{held}
use Rattle.tables.specs.declared.TableCounts.{TableCounts}
use Rattle.tables.specs.Checked.{checked_told}
use Rattle.tables.proofs.Told.{checked_told_once}
use Rattle.tables.specs.words.Columns.{Outcome, with_columns}
use Rattle.sets.specs.Told.{Emptiness}
use Rattle.sets.proofs.Told.{told_once}
use Rattle.offering.proofs.Once.{offers_once}
use Rattle.runs.specs.Answer.{answer_told}
use Rattle.runs.specs.declared.Shown.{Shown}
use Rattle.runs.specs.code.Doors.{Stepped, with_answer}
use Rattle.runs.proofs.Laws.{answer_told_once}
use Rattle.playing.specs.declared.PlayedStep.{PlayedStep}
use Rattle.playing.specs.Played.{played_told}
use Rattle.playing.specs.code.Playing.{LinePlayed, with_played}
use Rattle.playing.proofs.Laws.{played_told_once}
use Rattle.walks.specs.code.Walked.{with_numbers}
use Rattle.numbering.specs.code.Numbered.{with_counts}
use Rattle.writing.specs.declared.TooShort.{TooShort}
use Rattle.writing.specs.Answers.{saved_told}
use Rattle.writing.specs.words.Slice.{Put, with_slice}
use Rattle.writing.proofs.Whole.{saved_told_once}
use Rattle.links.specs.declared.GraphCounts.{GraphCounts}
use Rattle.reading.specs.Answers.{read_told}
use Rattle.reading.specs.code.Outcome.{TrackRead, with_graph}
use Rattle.reading.proofs.Promises.{read_told_once}
use Rattle.outcomes.specs.Settles.{Settles, ◌beside◌}
use Rattle.outcomes.proofs.Settling.{by_equation, both}
use Rattle.lines.proofs.find_line.Reads as lines-find-line
use Rattle.lines.proofs.part_of.Reads as lines-part-of
use Rattle.lines.proofs.wanted.Reads as lines-wanted
use Rattle.lines.proofs.Refusal.number.Reads as lines-refusal-number
use Rattle.lines.proofs.Refusal.at.Reads as lines-refusal-at
use Rattle.desk_lines.proofs.find_desk_line.Reads as desk-lines-find-desk-line
use Rattle.line_reader.proofs.next_line.Reads as line-reader-next-line
use Rattle.line_reader.proofs.characters.Reads as line-reader-characters
use Rattle.numbers.proofs.byte.Reads as numbers-byte
use Rattle.numbers.proofs.number.Reads as numbers-number
use Rattle.scripts.proofs.next_step.Reads as scripts-next-step
use Rattle.kinds.proofs.subterms.Reads as kinds-subterms
use Rattle.kinds.proofs.payload_bytes.Reads as kinds-payload-bytes
use Rattle.refusals.proofs.first_line.Reads as refusals-first-line
use Rattle.refusals.proofs.table_line.Reads as refusals-table-line
use Rattle.tables.proofs.check.Reads as tables-check
use Rattle.places.proofs.place.Reads as places-place
use Rattle.sets.proofs.has.Reads as sets-has
use Rattle.sets.proofs.only.Reads as sets-only
use Rattle.sets.proofs.either.Reads as sets-either
use Rattle.sets.proofs.shared.Reads as sets-shared
use Rattle.sets.proofs.empty.Reads as sets-empty
use Rattle.inputs.proofs.table_end.Reads as inputs-table-end
use Rattle.plans.proofs.lay_out.Reads as plans-lay-out
use Rattle.offers.proofs.offers.Reads as offers-offers
use Rattle.offers.proofs.offers_of_part.Reads as offers-offers-of-part
use Rattle.status.proofs.status_at.Reads as status-status-at
use Rattle.parts.proofs.whole.Reads as parts_whole
use Rattle.parts.proofs.standing_in.Reads as parts-standing-in
use Rattle.parts.proofs.sides_of.Reads as parts-sides-of
use Rattle.runs.proofs.start.Reads as runs-start
use Rattle.runs.proofs.step.Reads as runs-step
use Rattle.playing.proofs.play.Reads as playing-play
use Rattle.links.proofs.link.Reads as links-link
use Rattle.walks.proofs.walk.Reads as walks-walk
use Rattle.numbering.proofs.number.Reads as numbering-number
use Rattle.writing.proofs.write.Reads as writing-write
use Rattle.writing.proofs.refusal_of.Reads as writing-refusal-of
use Rattle.saving.proofs.save.Reads as saving-save
use Rattle.reading.proofs.read_track.Reads as reading-read-track
use Rattle.listing.proofs.list.Reads as listing-list

-- a set is empty or it is not
one_emptiness : (s : ℕ) (x y : Bool) → Emptiness s x → Emptiness s y → x ≡ y
one_emptiness s true true p q = refl
one_emptiness s false false p q = refl
one_emptiness s true false p q =
    let (k, stands) = q.some_event refl in absurd (false≢true (sym (p.no_event refl k) ∙ stands))
one_emptiness s false true p q =
    let (k, stands) = p.some_event refl in absurd (false≢true (sym (q.no_event refl k) ∙ stands))

-- what an answer tells with what stands behind it tells the answer
check_once : (x y : Result TableCounts RefusedAt) {c d : Columns}
    → with_columns (checked_told x) c ≡ with_columns (checked_told y) d → x beside c ≡ y beside d
check_once x y h = both (checked_told_once x y (ap (λ (o : Outcome). o.answer) h)) (ap (λ (o : Outcome). o.columns) h)

step_once : (x y : Result Shown Refusal) {w w' g g' c c' : List ℕ}
    → with_answer (answer_told x) w g c ≡ with_answer (answer_told y) w' g' c'
    → x beside w beside g beside c ≡ y beside w' beside g' beside c'
step_once x y h =
    both (answer_told_once x y (ap (λ (o : Stepped). o.answer) h)) (both (ap (λ (o : Stepped). o.nodes) h)
    (both (ap (λ (o : Stepped). o.track) h) (ap (λ (o : Stepped). o.counters) h)))

play_once : (x y : Result (Option PlayedStep) Refusal) {w w' g g' c c' : List ℕ}
    → with_played (played_told x) w g c ≡ with_played (played_told y) w' g' c'
    → x beside w beside g beside c ≡ y beside w' beside g' beside c'
play_once x y h =
    both (played_told_once x y (ap (λ (o : LinePlayed). o.played) h)) (both (ap (λ (o : LinePlayed). o.nodes) h)
    (both (ap (λ (o : LinePlayed). o.track) h) (ap (λ (o : LinePlayed). o.counters) h)))

write_once : (x y : Result ℕ TooShort) {a b : List ℕ}
    → with_slice (saved_told x) a ≡ with_slice (saved_told y) b → x beside a ≡ y beside b
write_once x y h = both (saved_told_once x y (ap (λ (o : Put). o.answer) h)) (ap (λ (o : Put). o.slice) h)

read_once : (x y : Result GraphCounts RefusedAt) {l l' g g' : List ℕ}
    → with_graph (read_told x) l g ≡ with_graph (read_told y) l' g' → x beside l beside g ≡ y beside l' beside g'
read_once x y h =
    both (read_told_once x y (ap (λ (o : TrackRead). o.answer) h))
    (both (ap (λ (o : TrackRead). o.labels) h) (ap (λ (o : TrackRead). o.graph) h))

-- what the first part of an outcome tells, in front of the others
in_front : {A B R : Type 0} {a b : A} {c d : B} {r q : R} → (a ≡ b → c ≡ d) → a beside r ≡ b beside q
    → c beside r ≡ d beside q
in_front once h = both (once (ap (λ z. z.0) h)) (ap (λ z. z.1) h)

-- ---- frames

pub lines_find_line_settled : Settles lines-find-line.Learnt (λ κ x s. x)
lines_find_line_settled = by_equation (λ κ lent x s p. p)

pub lines_part_of_settled : Settles lines-part-of.Learnt (λ κ x s. x.now)
lines_part_of_settled = by_equation (λ κ lent x s p. p)

pub lines_wanted_settled : Settles lines-wanted.Learnt (λ κ x s. x)
lines_wanted_settled = by_equation (λ κ lent x s p. p)

pub lines_refusal_number_settled : Settles lines-refusal-number.Learnt (λ κ x s. x)
lines_refusal_number_settled = by_equation (λ κ lent x s p. p)

pub lines_refusal_at_settled : Settles lines-refusal-at.Learnt (λ κ x s. x.refusal beside x.line)
lines_refusal_at_settled = by_equation (λ κ lent x s p. both p.0 p.1)

pub desk_lines_find_desk_line_settled : Settles desk-lines-find-desk-line.Learnt (λ κ x s. x)
desk_lines_find_desk_line_settled = by_equation (λ κ lent x s p. p)

pub line_reader_next_line_settled : Settles line-reader-next-line.Learnt (λ κ x s. x)
line_reader_next_line_settled = by_equation (λ κ lent x s p. p)

pub line_reader_characters_settled : Settles line-reader-characters.Learnt (λ κ x s. x.now)
line_reader_characters_settled = by_equation (λ κ lent x s p. p)

pub numbers_byte_settled : Settles numbers-byte.Learnt (λ κ x s. x)
numbers_byte_settled = by_equation (λ κ lent x s p. p)

pub numbers_number_settled : Settles numbers-number.Learnt (λ κ x s. x)
numbers_number_settled = by_equation (λ κ lent x s p. p)

pub scripts_next_step_settled : Settles scripts-next-step.Learnt
    (λ κ x s. let (text, (at, (digits, _))) = s in x beside digits.now)
scripts_next_step_settled κ lent x y s t p q = both (step_told_once x y (p.0 ∙ sym q.0)) (p.1 ∙ sym q.1)

pub kinds_subterms_settled : Settles kinds-subterms.Learnt (λ κ x s. x)
kinds_subterms_settled = by_equation (λ κ lent x s p. p)

pub kinds_payload_bytes_settled : Settles kinds-payload-bytes.Learnt (λ κ x s. x)
kinds_payload_bytes_settled = by_equation (λ κ lent x s p. p)

pub refusals_first_line_settled : Settles refusals-first-line.Learnt (λ κ x s. x)
refusals_first_line_settled κ lent x y s t p q = first_told_once x y (p ∙ sym q)

pub refusals_table_line_settled : Settles refusals-table-line.Learnt (λ κ x s. x)
refusals_table_line_settled κ lent x y s t p q = line_told_once x y (p ∙ sym q)

pub tables_check_settled : Settles tables-check.Learnt
    (λ κ x s. let (text, (table, _)) = s in x beside held table.now)
tables_check_settled κ lent x y s t p q = check_once x y (p ∙ sym q)

pub places_place_settled : Settles places-place.Learnt
    (λ κ x s. let (literal, (table, (path, _))) = s in x beside path.now)
places_place_settled = by_equation (λ κ lent x s p. both p.0 p.1)

pub sets_has_settled : Settles sets-has.Learnt (λ κ x s. x)
sets_has_settled = by_equation (λ κ lent x s p. p)

pub sets_only_settled : Settles sets-only.Learnt (λ κ x s. x)
sets_only_settled κ lent x y s t p q = told_once _ x y p q

pub sets_either_settled : Settles sets-either.Learnt (λ κ x s. x)
sets_either_settled κ lent x y s t p q = told_once _ x y p q

pub sets_shared_settled : Settles sets-shared.Learnt (λ κ x s. x)
sets_shared_settled κ lent x y s t p q = told_once _ x y p q

pub sets_empty_settled : Settles sets-empty.Learnt (λ κ x s. x)
sets_empty_settled κ lent x y s t p q = one_emptiness _ x y p q

pub inputs_table_end_settled : Settles inputs-table-end.Learnt (λ κ x s. x)
inputs_table_end_settled = by_equation (λ κ lent x s p. p)

-- ---- rules

pub plans_lay_out_settled : Settles plans-lay-out.Learnt
    (λ κ x s. let (terms, (table, (plan, _))) = s in plan.now)
plans_lay_out_settled = by_equation (λ κ lent x s p. p)

pub offers_offers_settled : Settles offers-offers.Learnt (λ κ x s. x)
offers_offers_settled κ lent x y s t p q = offers_once x y (p.0 ∙ sym q.0)

pub offers_offers_of_part_settled : Settles offers-offers-of-part.Learnt (λ κ x s. x)
offers_offers_of_part_settled κ lent x y s t p q = offers_once x y (p.0 ∙ sym q.0)

pub status_status_at_settled : Settles status-status-at.Learnt (λ κ x s. x)
status_status_at_settled = by_equation (λ κ lent x s p. p.0)

pub parts_whole_settled : Settles parts_whole.Learnt (λ κ x s. x)
parts_whole_settled = by_equation (λ κ lent x s p. p.0)

pub parts_standing_in_settled : Settles parts-standing-in.Learnt (λ κ x s. x)
parts_standing_in_settled = by_equation (λ κ lent x s p. p.0)

pub parts_sides_of_settled : Settles parts-sides-of.Learnt (λ κ x s. x)
parts_sides_of_settled = by_equation (λ κ lent x s p. p.0)

pub runs_start_settled : Settles runs-start.Learnt
    (λ κ x s. let (run, _) = s in run.now.words.nodes beside run.now.words.track beside run.now.counters)
runs_start_settled = by_equation (λ κ lent x s p. both p.0 (both p.1.0 p.1.1.0))

pub runs_step_settled : Settles runs-step.Learnt
    (λ κ x s. let (count, (digits, (show, (run, _)))) = s in
    x beside run.now.words.nodes beside run.now.words.track beside run.now.counters)
runs_step_settled κ lent x y s t p q = step_once x y (p.0 ∙ sym q.0)

pub playing_play_settled : Settles playing-play.Learnt
    (λ κ x s. let (text, (at, (digits, (show, (run, _))))) = s in
    (x beside run.now.words.nodes beside run.now.words.track beside run.now.counters) beside digits.now)
playing_play_settled κ lent x y s t p q = both (play_once x y (p.0 ∙ sym q.0)) (p.1.0 ∙ sym q.1.0)

-- ---- saving

pub links_link_settled : Settles links-link.Learnt
    (λ κ x s. let (arcs, (marks, (track, (table, (sides, _))))) = s in x beside sides.now)
links_link_settled = by_equation (λ κ lent x s p. both p.0 p.1)

pub walks_walk_settled : Settles walks-walk.Learnt
    (λ κ x s. let (marks, (sides, (numbers, (labels, (pending, _))))) = s in
    with_numbers x numbers.now labels.now beside pending.now)
walks_walk_settled = by_equation (λ κ lent x s p. both p.0 p.1)

pub numbering_number_settled : Settles numbering-number.Learnt
    (λ κ x s. let (arcs, (meetings, (marks, (track, (table, (graph, (sides, (pending, (numbers, (spare, _)))))))))) = s in
    with_counts x graph.now.labels graph.now.track beside sides.now beside pending.now beside numbers.now beside spare.now)
numbering_number_settled =
    by_equation (λ κ lent x s p. both p.0 (both p.1.0 (both p.1.1.0
    (both p.1.1.1.0 p.1.1.1.1))))

pub writing_write_settled : Settles writing-write.Learnt
    (λ κ x s. let (counts, (graph, (table, (text, _)))) = s in
    x beside text.now)
writing_write_settled κ lent x y s t p q = write_once x y (p ∙ sym q)

pub writing_refusal_of_settled : Settles writing-refusal-of.Learnt (λ κ x s. x)
writing_refusal_of_settled κ lent x y s t p q = met_once x y (p ∙ sym q)

saving_told : Settles saving-save.Learnt
    (λ κ x s. let (table, (run, (work, (text, _)))) = s in
    with_slice (saved_told x) text.now beside work.now)
saving_told = by_equation (λ κ lent x s p. both p.0 p.1.0)

pub saving_save_settled : Settles saving-save.Learnt
    (λ κ x s. let (table, (run, (work, (text, _)))) = s in (x beside text.now) beside work.now)
saving_save_settled κ lent x y s t p q = in_front (write_once x y) (saving_told κ lent x y s t p q)

reading_told : Settles reading-read-track.Learnt
    (λ κ x s. let (text, (definitions, (table, (found, (work, _))))) = s in
    with_graph (read_told x) found.now.labels found.now.track beside work.now)
reading_told = by_equation (λ κ lent x s p. both p.0 p.1.1)

pub reading_read_track_settled : Settles reading-read-track.Learnt
    (λ κ x s. let (text, (definitions, (table, (found, (work, _))))) = s in
    (x beside found.now.labels beside found.now.track) beside work.now)
reading_read_track_settled κ lent x y s t p q = in_front (read_once x y) (reading_told κ lent x y s t p q)

-- ---- programs

pub listing_list_settled : Settles listing-list.Learnt
    (λ κ x s. let (input, (out, _)) = s in x beside out.now)
listing_list_settled = by_equation (λ κ lent x s p. both p.0 p.1)
