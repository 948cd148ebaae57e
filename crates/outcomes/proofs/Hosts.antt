-- The promises of what a host calls settle their outcomes: of the functions over the parts of blocks, and of the numbers that are
-- told. Each is an equation with what was lent; the events that are offered are told by their members, which determine them.
-- Assumes nothing.
use Rattle.std.proofs.Common.{ℕ, ◌≡◌, sym, ◌∙◌, ap}
use mir.Syntax.{Dict}
use denote.RattleType.{RattleType}
use denote.Param.Laws.{Laws, IsCopy}
use Rattle.std.specs.declared.clone.Clone.{Ghosts}
use Rattle.columns.specs.words.Held.{held}
use Rattle.sets.proofs.Told.{same_members}
use Rattle.table_parts.specs.code.TableTold.{with_table}
use Rattle.run_parts.specs.code.RunTold.{with_start, with_run, with_line, with_events, EventsTold}
use Rattle.track_parts.specs.code.TrackTold.{with_text, with_track}
use Rattle.outcomes.specs.Settles.{Settles, ◌beside◌}
use Rattle.outcomes.proofs.Settling.{by_equation, both}
use Rattle.answers.proofs.of_event.Reads as answers-of-event
use Rattle.answers.proofs.of_status.Reads as answers-of-status
use Rattle.answers.proofs.of_offers.Reads as answers-of-offers
use Rattle.answers.proofs.NumberAt.of.Reads as answers-number-at-of
use Rattle.answers.proofs.of_refusal.Reads as answers-of-refusal
use Rattle.answers.proofs.of_step.Reads as answers-of-step
use Rattle.answers.proofs.of_played.Reads as answers-of-played
use Rattle.answers.proofs.cursor_behind.Reads as answers-cursor-behind
use Rattle.answers.proofs.of_judged.Reads as answers-of-judged
use Rattle.answers.proofs.line_of.Reads as answers-line-of
use Rattle.answers.proofs.of_saved.Reads as answers-of-saved
use Rattle.answers.proofs.length_of.Reads as answers-length-of
use Rattle.answers.proofs.unready.Reads as answers-unready
use Rattle.table_parts.proofs.check_parts.Reads as table-parts-check-parts
use Rattle.run_parts.proofs.start_parts.Reads as run-parts-start-parts
use Rattle.run_parts.proofs.step_parts.Reads as run-parts-step-parts
use Rattle.run_parts.proofs.play_parts.Reads as run-parts-play-parts
use Rattle.run_parts.proofs.offers_parts.Reads as run-parts-offers-parts
use Rattle.run_parts.proofs.status_parts.Reads as run-parts-status-parts
use Rattle.track_parts.proofs.save_parts.Reads as track-parts-save-parts
use Rattle.track_parts.proofs.read_parts.Reads as track-parts-read-parts
use Rattle.track_parts.proofs.write_parts.Reads as track-parts-write-parts
use Rattle.peashuttle.proofs.peashuttle_proved_list.Reads as peashuttle-peashuttle-proved-list

-- what is told of events allows one number and one set
events_once : (m n e f : ℕ) → with_events m e ≡ with_events n f → m beside e ≡ n beside f
events_once m n e f h =
    both (ap (λ (o : EventsTold). o.number) h) (same_members e f (λ k. ap (λ (o : EventsTold). o.event k) h))

-- ---- numbers that are told

pub answers_of_event_settled : Settles answers-of-event.Learnt (λ κ x s. x)
answers_of_event_settled = by_equation (λ κ lent x s p. p)

pub answers_of_status_settled : Settles answers-of-status.Learnt (λ κ x s. x)
answers_of_status_settled = by_equation (λ κ lent x s p. p)

pub answers_of_offers_settled : Settles answers-of-offers.Learnt (λ κ x s. x)
answers_of_offers_settled = by_equation (λ κ lent x s p. p)

pub answers_of_refusal_settled : Settles answers-of-refusal.Learnt (λ κ x s. x)
answers_of_refusal_settled = by_equation (λ κ lent x s p. p)

pub answers_number_at_of_settled : Settles answers-number-at-of.Learnt (λ κ x s. x)
answers_number_at_of_settled = by_equation (λ κ lent x s p. p)

pub answers_of_step_settled : Settles answers-of-step.Learnt (λ κ x s. x)
answers_of_step_settled = by_equation (λ κ lent x s p. p)

pub answers_of_played_settled : Settles answers-of-played.Learnt (λ κ x s. x)
answers_of_played_settled = by_equation (λ κ lent x s p. p)

pub answers_cursor_behind_settled : Settles answers-cursor-behind.Learnt (λ κ x s. x)
answers_cursor_behind_settled = by_equation (λ κ lent x s p. p)

pub answers_of_judged_settled : (T : RattleType) (l : Laws T) (c : IsCopy T) (g : Ghosts T.Denot) (d : Dict)
    → Settles (answers-of-judged.Learnt T l c g d) (λ κ x s. x)
answers_of_judged_settled T l c g d = by_equation (λ κ lent x s p. p)

pub answers_line_of_settled : (T : RattleType) (l : Laws T) (c : IsCopy T) (g : Ghosts T.Denot) (d : Dict)
    → Settles (answers-line-of.Learnt T l c g d) (λ κ x s. x)
answers_line_of_settled T l c g d = by_equation (λ κ lent x s p. p)

pub answers_of_saved_settled : Settles answers-of-saved.Learnt (λ κ x s. x)
answers_of_saved_settled = by_equation (λ κ lent x s p. p)

pub answers_length_of_settled : Settles answers-length-of.Learnt (λ κ x s. x)
answers_length_of_settled = by_equation (λ κ lent x s p. p)

pub answers_unready_settled : Settles answers-unready.Learnt (λ κ x s. x)
answers_unready_settled = by_equation (λ κ lent x s p. p)

-- ---- parts of blocks

pub table_parts_check_parts_settled : Settles table-parts-check-parts.Learnt
    (λ κ x s. let (text, (line, (head, (show, _)))) = s in
    with_table x line.now head.now (held show.now.table) show.now.plan)
table_parts_check_parts_settled = by_equation (λ κ lent x s p. p)

pub run_parts_start_parts_settled : Settles run-parts-start-parts.Learnt
    (λ κ x s. let (stamp, (run, _)) = s in
    with_start stamp.now run.now.words.nodes run.now.words.track run.now.counters)
run_parts_start_parts_settled = by_equation (λ κ lent x s p. p)

pub run_parts_step_parts_settled : Settles run-parts-step-parts.Learnt
    (λ κ x s. let (address, (head, (show, (stamp, (digits, (run, _)))))) = s in
    with_run x digits.now run.now.words.nodes run.now.words.track run.now.counters)
run_parts_step_parts_settled = by_equation (λ κ lent x s p. p)

pub run_parts_play_parts_settled : Settles run-parts-play-parts.Learnt
    (λ κ x s. let (script, (at, (head, (show, (stamp, (digits, (run, _))))))) = s in
    with_line x at.now digits.now run.now.words.nodes run.now.words.track run.now.counters)
run_parts_play_parts_settled = by_equation (λ κ lent x s p. p)

pub run_parts_offers_parts_settled : Settles run-parts-offers-parts.Learnt
    (λ κ x s. let (events, (head, (show, (stamp, (run, _))))) = s in x beside events.now)
run_parts_offers_parts_settled κ lent x y s t p q = events_once x y s.0.now t.0.now (p ∙ sym q)

pub run_parts_status_parts_settled : Settles run-parts-status-parts.Learnt (λ κ x s. x)
run_parts_status_parts_settled = by_equation (λ κ lent x s p. p)

pub track_parts_save_parts_settled : Settles track-parts-save-parts.Learnt
    (λ κ x s. let (text, (length, (head, (table, (stamp, (run, (work, _))))))) = s in
    with_text x length.now text.now
    beside work.now)
track_parts_save_parts_settled = by_equation (λ κ lent x s p. both p.0 p.1)

pub track_parts_read_parts_settled : Settles track-parts-read-parts.Learnt
    (λ κ x s. let (text, (line, (head, (table, (found, (graph, (work, _))))))) = s in
    with_track x line.now found.now graph.now.labels graph.now.track
    beside work.now)
track_parts_read_parts_settled = by_equation (λ κ lent x s p. both p.0 p.1)

pub track_parts_write_parts_settled : Settles track-parts-write-parts.Learnt
    (λ κ x s. let (text, (length, (head, (table, (found, (graph, _)))))) = s in
    with_text x length.now text.now)
track_parts_write_parts_settled = by_equation (λ κ lent x s p. p)

-- ---- what the archive exports, where no block is taken

pub peashuttle_peashuttle_proved_list_settled : Settles peashuttle-peashuttle-proved-list.Learnt
    (λ κ x s. let (input, (out, _)) = s in x beside out.now)
peashuttle_peashuttle_proved_list_settled = by_equation (λ κ lent x s p. both p.0 p.1)
