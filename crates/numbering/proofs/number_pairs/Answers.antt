-- `numbering::number_pairs` meets its contract: the numbers of the pairs are put, read back, and put in order.
-- Assumes nothing.
use Rattle.std.proofs.Common.{arith}
use Rattle.links.proofs.Listed.{put_long}
use Rattle.numbering.proofs.Assembled.{kept_fits, kept_sorted}
use Rattle.numbering.proofs.number_pairs.Goals as goal

pub sort-requires : goal.sort-requires
sort-requires c =
    let fit = kept_fits _ _ _ _ _ _ _ _ _ c.requires.by_index c.requires.nodes_le_reference_room.2 c.requires.graph_len.0
    c.renumber-kept.ensures in
    record { nodes_le_reference_room = (omega arith, omega (arith, fit.0), omega (arith, fit.0)); track_len = (fit.1, c.requires.graph_len.1); count_value = fit.2 }

pub returns : goal.returns
returns c =
    let ordered = kept_sorted _ _ _ _ _ _ _ _ _ c.requires.by_index c.requires.nodes_le_reference_room.2 c.requires.graph_len.0
    c.renumber-kept.ensures _ c.sort.ensures.track_after in
    let spare_long = put_long _ _ _ _ c.requires.graph_len.1 c.sort.ensures.spare_after in
    record { graph_after = ordered; spare_len = spare_long; starts_after = c.sort.ensures.starts_after }
