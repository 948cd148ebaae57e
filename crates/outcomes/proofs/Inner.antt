-- The promise of every public function that is no door settles its outcome too, by the same laws as a door's. Assumes nothing.
use Rattle.std.proofs.Common.{sym, ◌∙◌}
use Rattle.columns.specs.words.Held.{held}
use Rattle.offering.proofs.Once.{offers_once}
use Rattle.leaves.specs.code.Leaves.{with_words}
use Rattle.pairing.specs.code.Renumbered.{with_count}
use Rattle.lines.proofs.Refusals.{told_once}
use Rattle.opening.proofs.Handed.{opened_told_once, lines_told_once}
use Rattle.outcomes.specs.Settles.{Settles, ◌beside◌}
use Rattle.outcomes.proofs.Settling.{by_equation, both}
use Rattle.numbers.proofs.number_at.Reads as numbers-number-at
use Rattle.numbers.proofs.byte_at.Reads as numbers-byte-at
use Rattle.frames.proofs.read_frame.Reads as frames-read-frame
use Rattle.frames.proofs.closes.Reads as frames-closes
use Rattle.columns.proofs.Table.new.Reads as columns-table-new
use Rattle.columns.proofs.kind_of.Reads as columns-kind-of
use Rattle.columns.proofs.payload_of.Reads as columns-payload-of
use Rattle.columns.proofs.owner_of.Reads as columns-owner-of
use Rattle.columns.proofs.after_of.Reads as columns-after-of
use Rattle.columns.proofs.after_word.Reads as columns-after-word
use Rattle.columns.proofs.root_of.Reads as columns-root-of
use Rattle.columns.proofs.root_word.Reads as columns-root-word
use Rattle.filling.proofs.take.Reads as filling-take
use Rattle.filling.proofs.walk.Reads as filling-walk
use Rattle.marks.proofs.own_mark.Reads as marks-own-mark
use Rattle.marks.proofs.event_mark.Reads as marks-event-mark
use Rattle.marks.proofs.find.Reads as marks-find
use Rattle.marks.proofs.literal_of.Reads as marks-literal-of
use Rattle.marks.proofs.term_of.Reads as marks-term-of
use Rattle.marks.proofs.is_own.Reads as marks-is-own
use Rattle.marks.proofs.is_event.Reads as marks-is-event
use Rattle.inputs.proofs.input_room.Reads as inputs-input-room
use Rattle.inputs.proofs.table_and_script.Reads as inputs-table-and-script
use Rattle.plans.proofs.Show.new.Reads as plans-show-new
use Rattle.plans.proofs.kind_of.Reads as plans-kind-of
use Rattle.plans.proofs.operand_of.Reads as plans-operand-of
use Rattle.plans.proofs.second_of.Reads as plans-second-of
use Rattle.plans.proofs.around_of.Reads as plans-around-of
use Rattle.control.proofs.Run.new.Reads as control-run-new
use Rattle.control.proofs.word.Reads as control-word
use Rattle.control.proofs.put.Reads as control-put
use Rattle.control.proofs.track_word.Reads as control-track-word
use Rattle.control.proofs.put_track.Reads as control-put-track
use Rattle.control.proofs.sum.Reads as control-sum
use Rattle.control.proofs.product.Reads as control-product
use Rattle.control.proofs.less.Reads as control-less
use Rattle.weights.proofs.by_leaf.Reads as weights-by-leaf
use Rattle.weights.proofs.entering.Reads as weights-entering
use Rattle.weights.proofs.end_of.Reads as weights-end-of
use Rattle.weights.proofs.one.Reads as weights-one
use Rattle.weights.proofs.both.Reads as weights-both
use Rattle.weights.proofs.ended.Reads as weights-ended
use Rattle.weights.proofs.stays.Reads as weights-stays
use Rattle.weights.proofs.shown.Reads as weights-shown
use Rattle.looking.proofs.digit_at.Reads as looking-digit-at
use Rattle.looking.proofs.is_split.Reads as looking-is-split
use Rattle.looking.proofs.is_side.Reads as looking-is-side
use Rattle.looking.proofs.taken.Reads as looking-taken
use Rattle.looking.proofs.is_within.Reads as looking-is-within
use Rattle.looking.proofs.beyond.Reads as looking-beyond
use Rattle.looking.proofs.inside_of.Reads as looking-inside-of
use Rattle.looking.proofs.parents.Reads as looking-parents
use Rattle.looking.proofs.leads.Reads as looking-leads
use Rattle.weighing.proofs.weigh_at.Reads as weighing-weigh-at
use Rattle.offering.proofs.own.Reads as offering-own
use Rattle.offering.proofs.combined.Reads as offering-combined
use Rattle.offering.proofs.settled.Reads as offering-settled
use Rattle.offering.proofs.unseen.Reads as offering-unseen
use Rattle.offers.proofs.inside.Reads as offers-inside
use Rattle.offers.proofs.ended.Reads as offers-ended
use Rattle.offers.proofs.first_of.Reads as offers-first-of
use Rattle.drawing.proofs.label.Reads as drawing-label
use Rattle.drawing.proofs.draw.Reads as drawing-draw
use Rattle.drawing.proofs.past_fresh.Reads as drawing-past-fresh
use Rattle.drawing.proofs.stand.Reads as drawing-stand
use Rattle.drawing.proofs.keep.Reads as drawing-keep
use Rattle.drawing.proofs.meet_all.Reads as drawing-meet-all
use Rattle.drawing.proofs.join.Reads as drawing-join
use Rattle.leaves.proofs.call_start.Reads as leaves-call-start
use Rattle.leaves.proofs.take_leaf.Reads as leaves-take-leaf
use Rattle.leaves.proofs.take_end.Reads as leaves-take-end
use Rattle.leaves.proofs.settle.Reads as leaves-settle
use Rattle.leaves.proofs.come.Reads as leaves-come
use Rattle.sides.proofs.enter.Reads as sides-enter
use Rattle.sides.proofs.enter_side.Reads as sides-enter-side
use Rattle.sides.proofs.put_side.Reads as sides-put-side
use Rattle.sides.proofs.close_one.Reads as sides-close-one
use Rattle.sides.proofs.close_both.Reads as sides-close-both
use Rattle.stepping.proofs.take.Reads as stepping-take
use Rattle.counting.proofs.counter.Reads as counting-counter
use Rattle.counting.proofs.over_room.Reads as counting-over-room
use Rattle.counting.proofs.tally_of.Reads as counting-tally-of
use Rattle.counting.proofs.recount.Reads as counting-recount
use Rattle.spelling.proofs.put_number.Reads as spelling-put-number
use Rattle.spelling.proofs.put_byte.Reads as spelling-put-byte
use Rattle.spelling.proofs.put_end.Reads as spelling-put-end
use Rattle.links.proofs.Graph.new.Reads as links-graph-new
use Rattle.links.proofs.Work.new.Reads as links-work-new
use Rattle.links.proofs.reference_word.Reads as links-reference-word
use Rattle.links.proofs.side_word.Reads as links-side-word
use Rattle.sorting.proofs.sort.Reads as sorting-sort
use Rattle.pairing.proofs.renumber.Reads as pairing-renumber
use Rattle.framing.proofs.put_opening.Reads as framing-put-opening
use Rattle.framing.proofs.put_pairs.Reads as framing-put-pairs
use Rattle.framing.proofs.put_last.Reads as framing-put-last
use Rattle.framing.proofs.nodes_length.Reads as framing-nodes-length
use Rattle.framing.proofs.put_nodes.Reads as framing-put-nodes
use Rattle.finding.proofs.mark_of.Reads as finding-mark-of
use Rattle.opening.proofs.first_line.Reads as opening-first-line
use Rattle.opening.proofs.last_lines.Reads as opening-last-lines
use Rattle.node_lines.proofs.read_nodes.Reads as node-lines-read-nodes
use Rattle.pair_lines.proofs.read_pairs.Reads as pair-lines-read-pairs
use Rattle.shape_rules.proofs.in_order.Reads as shape-rules-in-order
use Rattle.shape_rules.proofs.all_marked.Reads as shape-rules-all-marked
use Rattle.shape_rules.proofs.ascend.Reads as shape-rules-ascend
use Rattle.shape_rules.proofs.join_events.Reads as shape-rules-join-events
use Rattle.shapes.proofs.has_shape.Reads as shapes-has-shape
use Rattle.telling.proofs.put_event.Reads as telling-put-event
use Rattle.telling.proofs.put_status.Reads as telling-put-status
use Rattle.telling.proofs.put_refusal.Reads as telling-put-refusal
use Rattle.telling.proofs.put_copy.Reads as telling-put-copy

-- ---- frames

pub numbers_number_at_settled : Settles numbers-number-at.Learnt (λ κ x s. x)
numbers_number_at_settled = by_equation (λ κ lent x s p. p.0)

pub numbers_byte_at_settled : Settles numbers-byte-at.Learnt (λ κ x s. x)
numbers_byte_at_settled = by_equation (λ κ lent x s p. p.0)

pub frames_read_frame_settled : Settles frames-read-frame.Learnt (λ κ x s. x)
frames_read_frame_settled = by_equation (λ κ lent x s p. p)

pub frames_closes_settled : Settles frames-closes.Learnt (λ κ x s. x)
frames_closes_settled = by_equation (λ κ lent x s p. p)

pub columns_table_new_settled : Settles columns-table-new.Learnt (λ κ x s. held x)
columns_table_new_settled = by_equation (λ κ lent x s p. p)

pub columns_kind_of_settled : Settles columns-kind-of.Learnt (λ κ x s. x)
columns_kind_of_settled = by_equation (λ κ lent x s p. p)

pub columns_payload_of_settled : Settles columns-payload-of.Learnt (λ κ x s. x)
columns_payload_of_settled = by_equation (λ κ lent x s p. p)

pub columns_owner_of_settled : Settles columns-owner-of.Learnt (λ κ x s. x)
columns_owner_of_settled = by_equation (λ κ lent x s p. p)

pub columns_after_of_settled : Settles columns-after-of.Learnt (λ κ x s. x)
columns_after_of_settled = by_equation (λ κ lent x s p. p)

pub columns_after_word_settled : Settles columns-after-word.Learnt (λ κ x s. x)
columns_after_word_settled = by_equation (λ κ lent x s p. p)

pub columns_root_of_settled : Settles columns-root-of.Learnt (λ κ x s. x)
columns_root_of_settled = by_equation (λ κ lent x s p. p)

pub columns_root_word_settled : Settles columns-root-word.Learnt (λ κ x s. x)
columns_root_word_settled = by_equation (λ κ lent x s p. p)

pub filling_take_settled : Settles filling-take.Learnt
    (λ κ x s. let (frame, (seen, (waiting, (table, _)))) = s in
    x beside waiting.now beside table.now.kinds beside table.now.payloads beside table.now.owners
    beside table.now.roots beside table.now.after)
filling_take_settled =
    by_equation (λ κ lent x s p. both p.0 (both p.1.0 (both p.1.1.0 (both p.1.1.1.0
    (both p.1.1.1.1.0 (both p.1.1.1.1.1.0 p.1.1.1.1.1.1))))))

pub filling_walk_settled : Settles filling-walk.Learnt
    (λ κ x s. let (kinds, (count, (after, _))) = s in after.now)
filling_walk_settled = by_equation (λ κ lent x s p. p)

pub marks_own_mark_settled : Settles marks-own-mark.Learnt (λ κ x s. x)
marks_own_mark_settled = by_equation (λ κ lent x s p. p)

pub marks_event_mark_settled : Settles marks-event-mark.Learnt (λ κ x s. x)
marks_event_mark_settled = by_equation (λ κ lent x s p. p)

pub marks_find_settled : Settles marks-find.Learnt (λ κ x s. x)
marks_find_settled = by_equation (λ κ lent x s p. p)

pub marks_literal_of_settled : Settles marks-literal-of.Learnt (λ κ x s. x)
marks_literal_of_settled = by_equation (λ κ lent x s p. p)

pub marks_term_of_settled : Settles marks-term-of.Learnt (λ κ x s. x)
marks_term_of_settled = by_equation (λ κ lent x s p. p)

pub marks_is_own_settled : Settles marks-is-own.Learnt (λ κ x s. x)
marks_is_own_settled = by_equation (λ κ lent x s p. p)

pub marks_is_event_settled : Settles marks-is-event.Learnt (λ κ x s. x)
marks_is_event_settled = by_equation (λ κ lent x s p. p)

pub inputs_input_room_settled : Settles inputs-input-room.Learnt (λ κ x s. x)
inputs_input_room_settled = by_equation (λ κ lent x s p. p)

pub inputs_table_and_script_settled : Settles inputs-table-and-script.Learnt (λ κ x s. x.0.now beside x.1.now)
inputs_table_and_script_settled = by_equation (λ κ lent x s p. both p.0 p.1)

-- ---- rules

pub plans_show_new_settled : Settles plans-show-new.Learnt (λ κ x s. held x.table beside x.plan)
plans_show_new_settled = by_equation (λ κ lent x s p. both p.0 p.1)

pub plans_kind_of_settled : Settles plans-kind-of.Learnt (λ κ x s. x)
plans_kind_of_settled = by_equation (λ κ lent x s p. p)

pub plans_operand_of_settled : Settles plans-operand-of.Learnt (λ κ x s. x)
plans_operand_of_settled = by_equation (λ κ lent x s p. p)

pub plans_second_of_settled : Settles plans-second-of.Learnt (λ κ x s. x)
plans_second_of_settled = by_equation (λ κ lent x s p. p)

pub plans_around_of_settled : Settles plans-around-of.Learnt (λ κ x s. x)
plans_around_of_settled = by_equation (λ κ lent x s p. p)

pub control_run_new_settled : Settles control-run-new.Learnt (λ κ x s. x)
control_run_new_settled = by_equation (λ κ lent x s p. p)

pub control_word_settled : Settles control-word.Learnt (λ κ x s. x)
control_word_settled = by_equation (λ κ lent x s p. p)

pub control_put_settled : Settles control-put.Learnt
    (λ κ x s. let (n, (k, (value, (nodes, _)))) = s in nodes.now)
control_put_settled = by_equation (λ κ lent x s p. p)

pub control_track_word_settled : Settles control-track-word.Learnt (λ κ x s. x)
control_track_word_settled = by_equation (λ κ lent x s p. p)

pub control_put_track_settled : Settles control-put-track.Learnt
    (λ κ x s. let (i, (value, (track, _))) = s in track.now)
control_put_track_settled = by_equation (λ κ lent x s p. p)

pub control_sum_settled : Settles control-sum.Learnt (λ κ x s. x)
control_sum_settled = by_equation (λ κ lent x s p. p)

pub control_product_settled : Settles control-product.Learnt (λ κ x s. x)
control_product_settled = by_equation (λ κ lent x s p. p)

pub control_less_settled : Settles control-less.Learnt (λ κ x s. x)
control_less_settled = by_equation (λ κ lent x s p. p)

pub weights_by_leaf_settled : Settles weights-by-leaf.Learnt (λ κ x s. x)
weights_by_leaf_settled = by_equation (λ κ lent x s p. p)

pub weights_entering_settled : Settles weights-entering.Learnt (λ κ x s. x)
weights_entering_settled = by_equation (λ κ lent x s p. p)

pub weights_end_of_settled : Settles weights-end-of.Learnt (λ κ x s. x)
weights_end_of_settled = by_equation (λ κ lent x s p. p)

pub weights_one_settled : Settles weights-one.Learnt (λ κ x s. x)
weights_one_settled = by_equation (λ κ lent x s p. p)

pub weights_both_settled : Settles weights-both.Learnt (λ κ x s. x)
weights_both_settled = by_equation (λ κ lent x s p. p)

pub weights_ended_settled : Settles weights-ended.Learnt (λ κ x s. x)
weights_ended_settled = by_equation (λ κ lent x s p. p)

pub weights_stays_settled : Settles weights-stays.Learnt (λ κ x s. x)
weights_stays_settled = by_equation (λ κ lent x s p. p)

pub weights_shown_settled : Settles weights-shown.Learnt (λ κ x s. x)
weights_shown_settled = by_equation (λ κ lent x s p. p)

pub looking_digit_at_settled : Settles looking-digit-at.Learnt (λ κ x s. x)
looking_digit_at_settled = by_equation (λ κ lent x s p. p)

pub looking_is_split_settled : Settles looking-is-split.Learnt (λ κ x s. x)
looking_is_split_settled = by_equation (λ κ lent x s p. p)

pub looking_is_side_settled : Settles looking-is-side.Learnt (λ κ x s. x)
looking_is_side_settled = by_equation (λ κ lent x s p. p)

pub looking_taken_settled : Settles looking-taken.Learnt (λ κ x s. x)
looking_taken_settled = by_equation (λ κ lent x s p. p)

pub looking_is_within_settled : Settles looking-is-within.Learnt (λ κ x s. x)
looking_is_within_settled = by_equation (λ κ lent x s p. p)

pub looking_beyond_settled : Settles looking-beyond.Learnt (λ κ x s. x)
looking_beyond_settled = by_equation (λ κ lent x s p. p)

pub looking_inside_of_settled : Settles looking-inside-of.Learnt (λ κ x s. x)
looking_inside_of_settled = by_equation (λ κ lent x s p. p)

pub looking_parents_settled : Settles looking-parents.Learnt (λ κ x s. x)
looking_parents_settled = by_equation (λ κ lent x s p. p)

pub looking_leads_settled : Settles looking-leads.Learnt (λ κ x s. x)
looking_leads_settled = by_equation (λ κ lent x s p. p)

pub weighing_weigh_at_settled : Settles weighing-weigh-at.Learnt (λ κ x s. x)
weighing_weigh_at_settled = by_equation (λ κ lent x s p. p)

pub offering_own_settled : Settles offering-own.Learnt (λ κ x s. x)
offering_own_settled κ lent x y s t p q = offers_once x y (p ∙ sym q)

pub offering_combined_settled : Settles offering-combined.Learnt (λ κ x s. x)
offering_combined_settled κ lent x y s t p q = offers_once x y (p ∙ sym q)

pub offering_settled_settled : Settles offering-settled.Learnt (λ κ x s. x)
offering_settled_settled κ lent x y s t p q = offers_once x y (p ∙ sym q)

pub offering_unseen_settled : Settles offering-unseen.Learnt (λ κ x s. x)
offering_unseen_settled κ lent x y s t p q = offers_once x y (p ∙ sym q)

pub offers_ended_settled : Settles offers-ended.Learnt (λ κ x s. x)
offers_ended_settled = by_equation (λ κ lent x s p. p)

pub offers_inside_settled : Settles offers-inside.Learnt (λ κ x s. x)
offers_inside_settled = by_equation (λ κ lent x s p. p)

pub offers_first_of_settled : Settles offers-first-of.Learnt (λ κ x s. x)
offers_first_of_settled = by_equation (λ κ lent x s p. p)

pub drawing_label_settled : Settles drawing-label.Learnt
    (λ κ x s. let (n, (mark, (tally, (nodes, _)))) = s in x beside nodes.now)
drawing_label_settled = by_equation (λ κ lent x s p. both p.0 p.1)

pub drawing_draw_settled : Settles drawing-draw.Learnt
    (λ κ x s. let (from, (tally, (track, _))) = s in x beside track.now)
drawing_draw_settled = by_equation (λ κ lent x s p. both p.0 p.1)

pub drawing_past_fresh_settled : Settles drawing-past-fresh.Learnt (λ κ x s. x)
drawing_past_fresh_settled = by_equation (λ κ lent x s p. p)

pub drawing_stand_settled : Settles drawing-stand.Learnt
    (λ κ x s. let (n, (state, (term, (frame, (nodes, _))))) = s in nodes.now)
drawing_stand_settled = by_equation (λ κ lent x s p. p)

pub drawing_keep_settled : Settles drawing-keep.Learnt
    (λ κ x s. let (n, (tally, (track, _))) = s in x beside track.now)
drawing_keep_settled = by_equation (λ κ lent x s p. both p.0 p.1)

pub drawing_meet_all_settled : Settles drawing-meet-all.Learnt
    (λ κ x s. let (from, (middle, (to, (tally, (track, _))))) = s in x beside track.now)
drawing_meet_all_settled = by_equation (λ κ lent x s p. both p.0 p.1)

pub drawing_join_settled : Settles drawing-join.Learnt
    (λ κ x s. let (first, (second, (to, (tally, (track, _))))) = s in x beside track.now)
drawing_join_settled = by_equation (λ κ lent x s p. both p.0 p.1)

pub leaves_call_start_settled : Settles leaves-call-start.Learnt
    (λ κ x s. let (tally, (words, _)) = s in with_words x words.now.nodes words.now.track)
leaves_call_start_settled = by_equation (λ κ lent x s p. p)

pub leaves_take_leaf_settled : Settles leaves-take-leaf.Learnt
    (λ κ x s. let (n, (bound, (at, (size, (digit, (tally, (plan, (words, _)))))))) = s in
    with_words x words.now.nodes words.now.track)
leaves_take_leaf_settled = by_equation (λ κ lent x s p. p)

pub leaves_take_end_settled : Settles leaves-take-end.Learnt
    (λ κ x s. let (n, (bound, (at, (size, (tally, (plan, (words, _))))))) = s in
    with_words x words.now.nodes words.now.track)
leaves_take_end_settled = by_equation (λ κ lent x s p. p)

pub leaves_settle_settled : Settles leaves-settle.Learnt
    (λ κ x s. let (done, (t, (frame, (bound, (plan, (words, _)))))) = s in
    with_words x words.now.nodes words.now.track)
leaves_settle_settled = by_equation (λ κ lent x s p. p)

pub leaves_come_settled : Settles leaves-come.Learnt (λ κ x s. x)
leaves_come_settled = by_equation (λ κ lent x s p. p)

pub sides_enter_settled : Settles sides-enter.Learnt
    (λ κ x s. let (n, (t, (tally, (nodes, _)))) = s in x beside nodes.now)
sides_enter_settled = by_equation (λ κ lent x s p. both p.0 p.1)

pub sides_enter_side_settled : Settles sides-enter-side.Learnt
    (λ κ x s. let (n, (side, (t, (frame, (tally, (words, _)))))) = s in
    x beside words.now.nodes beside words.now.track)
sides_enter_side_settled = by_equation (λ κ lent x s p. both p.0 (both p.1.0 p.1.1))

pub sides_put_side_settled : Settles sides-put-side.Learnt
    (λ κ x s. let (n, (side, (reference, (size, (nodes, _))))) = s in nodes.now)
sides_put_side_settled = by_equation (λ κ lent x s p. p)

pub sides_close_one_settled : Settles sides-close-one.Learnt
    (λ κ x s. let (n, (side, (bound, (size, (own, (other, (done, (plan, (words, _))))))))) = s in
    with_words x words.now.nodes words.now.track)
sides_close_one_settled = by_equation (λ κ lent x s p. p)

pub sides_close_both_settled : Settles sides-close-both.Learnt
    (λ κ x s. let (n, (size, (own, (other, (met, (done, (across, (words, _)))))))) = s in
    with_words x words.now.nodes words.now.track)
sides_close_both_settled = by_equation (λ κ lent x s p. p)

pub stepping_take_settled : Settles stepping-take.Learnt
    (λ κ x s. let (n, (bound, (at, (size, (left, (count, (tally, (digits, (plan, (words, _)))))))))) = s in
    with_words x words.now.nodes words.now.track)
stepping_take_settled = by_equation (λ κ lent x s p. p)

pub counting_counter_settled : Settles counting-counter.Learnt (λ κ x s. x)
counting_counter_settled = by_equation (λ κ lent x s p. p)

pub counting_over_room_settled : Settles counting-over-room.Learnt (λ κ x s. x)
counting_over_room_settled κ lent x y s t p q = told_once x y (p ∙ sym q)

pub counting_tally_of_settled : Settles counting-tally-of.Learnt (λ κ x s. x)
counting_tally_of_settled = by_equation (λ κ lent x s p. p)

pub counting_recount_settled : Settles counting-recount.Learnt
    (λ κ x s. let (taken, (counters, _)) = s in counters.now)
counting_recount_settled = by_equation (λ κ lent x s p. p)

-- ---- saving

pub spelling_put_number_settled : Settles spelling-put-number.Learnt
    (λ κ x s. let (at, (n, (out, _))) = s in x beside out.now)
spelling_put_number_settled = by_equation (λ κ lent x s p. both p.ends p.stands)

pub spelling_put_byte_settled : Settles spelling-put-byte.Learnt
    (λ κ x s. let (at, (byte, (out, _))) = s in x beside out.now)
spelling_put_byte_settled = by_equation (λ κ lent x s p. both p.ends p.stands)

pub spelling_put_end_settled : Settles spelling-put-end.Learnt
    (λ κ x s. let (at, (out, _)) = s in x beside out.now)
spelling_put_end_settled = by_equation (λ κ lent x s p. both p.ends p.stands)

pub links_graph_new_settled : Settles links-graph-new.Learnt (λ κ x s. x)
links_graph_new_settled = by_equation (λ κ lent x s p. p)

pub links_work_new_settled : Settles links-work-new.Learnt (λ κ x s. x)
links_work_new_settled = by_equation (λ κ lent x s p. p)

pub links_reference_word_settled : Settles links-reference-word.Learnt (λ κ x s. x)
links_reference_word_settled = by_equation (λ κ lent x s p. p)

pub links_side_word_settled : Settles links-side-word.Learnt (λ κ x s. x)
links_side_word_settled = by_equation (λ κ lent x s p. p)

pub sorting_sort_settled : Settles sorting-sort.Learnt
    (λ κ x s. let (nodes, (base, (count, (track, (spare, (starts, _)))))) = s in
    track.now beside spare.now beside starts.now)
sorting_sort_settled = by_equation (λ κ lent x s p. both p.0 (both p.1.0 p.1.1))

pub pairing_renumber_settled : Settles pairing-renumber.Learnt
    (λ κ x s. let (base, (count, (either, (track, (numbers, (to, _)))))) = s in with_count x to.now)
pairing_renumber_settled = by_equation (λ κ lent x s p. p)

pub framing_put_opening_settled : Settles framing-put-opening.Learnt
    (λ κ x s. let (nodes, (arcs, (meetings, (out, _)))) = s in x beside out.now)
framing_put_opening_settled = by_equation (λ κ lent x s p. both p.0.ends p.0.stands)

pub framing_put_pairs_settled : Settles framing-put-pairs.Learnt
    (λ κ x s. let (code, (base, (count, (track, (from, (out, _)))))) = s in x beside out.now)
framing_put_pairs_settled = by_equation (λ κ lent x s p. both p.0.ends p.0.stands)

pub framing_put_last_settled : Settles framing-put-last.Learnt
    (λ κ x s. let (at, (out, _)) = s in x beside out.now)
framing_put_last_settled = by_equation (λ κ lent x s p. both p.ends p.stands)

pub framing_nodes_length_settled : Settles framing-nodes-length.Learnt (λ κ x s. x)
framing_nodes_length_settled = by_equation (λ κ lent x s p. p.0)

pub framing_put_nodes_settled : Settles framing-put-nodes.Learnt
    (λ κ x s. let (count, (labels, (table, (from, (out, _))))) = s in
    x beside out.now)
framing_put_nodes_settled = by_equation (λ κ lent x s p. both p.0.ends p.0.stands)

pub finding_mark_of_settled : Settles finding-mark-of.Learnt (λ κ x s. x)
finding_mark_of_settled = by_equation (λ κ lent x s p. p)

pub opening_first_line_settled : Settles opening-first-line.Learnt (λ κ x s. x)
opening_first_line_settled κ lent x y s t p q = opened_told_once x y (p ∙ sym q)

pub opening_last_lines_settled : Settles opening-last-lines.Learnt (λ κ x s. x)
opening_last_lines_settled κ lent x y s t p q = lines_told_once x y (p ∙ sym q)

pub node_lines_read_nodes_settled : Settles node-lines-read-nodes.Learnt
    (λ κ x s. let (text, (from, (count, (definitions, (table, (labels, _)))))) = s in
    x beside labels.now)
node_lines_read_nodes_settled κ lent x y s t p q = both (lines_told_once x y (p.0 ∙ sym q.0)) (p.1 ∙ sym q.1)

pub pair_lines_read_pairs_settled : Settles pair-lines-read-pairs.Learnt
    (λ κ x s. let (code, (base, (text, (from, (first, (count, (nodes, (graph, _)))))))) = s in
    x beside graph.now)
pair_lines_read_pairs_settled κ lent x y s t p q = both (lines_told_once x y (p.0 ∙ sym q.0)) (p.1 ∙ sym q.1)

pub shape_rules_in_order_settled : Settles shape-rules-in-order.Learnt (λ κ x s. x)
shape_rules_in_order_settled = by_equation (λ κ lent x s p. p)

pub shape_rules_all_marked_settled : Settles shape-rules-all-marked.Learnt (λ κ x s. x)
shape_rules_all_marked_settled = by_equation (λ κ lent x s p. p)

pub shape_rules_ascend_settled : Settles shape-rules-ascend.Learnt (λ κ x s. x)
shape_rules_ascend_settled = by_equation (λ κ lent x s p. p)

pub shape_rules_join_events_settled : Settles shape-rules-join-events.Learnt (λ κ x s. x)
shape_rules_join_events_settled = by_equation (λ κ lent x s p. p)

pub shapes_has_shape_settled : Settles shapes-has-shape.Learnt
    (λ κ x s. let (counts, (labels, (graph, (table, (sides, (pending, (numbers, (walked, _)))))))) = s in
    x beside sides.now beside pending.now beside numbers.now beside walked.now)
shapes_has_shape_settled =
    by_equation (λ κ lent x s p. both p.0 (both p.1.0 (both p.1.1.0
    (both p.1.1.1.0 p.1.1.1.1))))

-- ---- programs

pub telling_put_event_settled : Settles telling-put-event.Learnt
    (λ κ x s. let (event, (at, (out, _))) = s in x beside out.now)
telling_put_event_settled = by_equation (λ κ lent x s p. both p.ends p.stands)

pub telling_put_status_settled : Settles telling-put-status.Learnt
    (λ κ x s. let (status, (at, (out, _))) = s in x beside out.now)
telling_put_status_settled = by_equation (λ κ lent x s p. both p.ends p.stands)

pub telling_put_refusal_settled : Settles telling-put-refusal.Learnt
    (λ κ x s. let (number, (line, (at, (out, _)))) = s in x beside out.now)
telling_put_refusal_settled = by_equation (λ κ lent x s p. both p.ends p.stands)

pub telling_put_copy_settled : Settles telling-put-copy.Learnt
    (λ κ x s. let (characters, (count, (from, (out, _)))) = s in x beside out.now)
telling_put_copy_settled = by_equation (λ κ lent x s p. both p.ends p.stands)
