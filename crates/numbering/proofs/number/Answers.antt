-- `numbering::number` meets its contract: no number passes how many nodes the walk numbered, so the pairs by
-- their numbers can be sorted; put together it is the graph by its numbers, and the scratch is cleared last.
-- Assumes nothing.
use Rattle.std.proofs.Common.{ℕ, refl, arith, replicate}
use Rattle.std.proofs.lemmas.List.{length-replicate}
use Rattle.control.specs.words.Words.{track_words}
use Rattle.numbering.proofs.Assembled.{puts_long, nodes_most, nodes_above, assembled}
use Rattle.numbering.proofs.number.Goals as goal

pub number_pairs-arcs-requires : goal.number_pairs-arcs-requires
number_pairs-arcs-requires c =
    let numbered = c.walk-nodes.ensures.labels_after in
    let nodes = nodes_most _ _ _ _ _ numbered in
    let blank = length-replicate {A = ℕ} track_words 0 in
    record { nodes_le_reference_room = (omega (arith, nodes), omega (arith, c.min.ensures), omega (arith, c.min.ensures)); graph_len = (blank, blank); by_index = nodes_above _ _ _ _ _ numbered }

pub number_pairs-meetings-requires : goal.number_pairs-meetings-requires
number_pairs-meetings-requires c =
    let numbered = c.walk-nodes.ensures.labels_after in
    let nodes = nodes_most _ _ _ _ _ numbered in
    let blank = length-replicate {A = ℕ} track_words 0 in
    record { nodes_le_reference_room = (omega (arith, nodes), omega (arith, c.min-count.ensures), omega (arith, c.min-count.ensures)); graph_len = (puts_long 0 (replicate track_words 0) _ _ _ blank c.number_pairs-arcs.ensures.graph_after, c.number_pairs-arcs.ensures.spare_len); by_index = nodes_above _ _ _ _ _ numbered }

pub returns : goal.returns
returns c =
    let done = assembled _ _ _ _ _ c.walk-nodes.ensures.labels_after _ _ _ _ _ _ _ _ _ _ _ c.link.ensures.sides_after
    c.min.ensures c.number_pairs-arcs.ensures.graph_after
    c.min-count.ensures c.number_pairs-meetings.ensures.graph_after in
    record { graph_after = done; sides_after = refl; pending_after = c.number_pairs-meetings.ensures.starts_after; numbers_after = refl; spare_after = refl }
