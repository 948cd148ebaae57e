-- `writing::write` meets its contract: the size is that of the text, and the parts put one behind another are
-- the text. Assumes nothing.
use Rattle.std.proofs.Common.{arith}
use Rattle.writing.specs.Answers.{saved_told}
use Rattle.columns.specs.words.Columns.{columns}
use Rattle.writing.proofs.Whole.{size_told, text_put, fits, falls_short}
use Rattle.writing.proofs.write.Goals as goal

pub returns-then-text-size : goal.returns-then-text-size
unfolding saved_told
returns-then-text-size c =
    let sized =
    size_told (columns _ _ _ _) _ _ _ c.min-n.ensures c.min-a.ensures c.min-s.ensures _
    c.nodes_length.ensures.value in
    falls_short _ _ _ sized c.if-text-size.true

pub put_pairs-behind_meetings-requires : goal.put_pairs-behind_meetings-requires
put_pairs-behind_meetings-requires c =
    omega (
      arith,
      c.put_opening-behind_opening.ensures.value,
      c.put_nodes-behind_nodes.ensures.upper_bound,
      c.put_pairs-behind_arcs.ensures.value,
      c.min-n.ensures,
      c.min-a.ensures,
      c.min-s.ensures,
    )

pub put_last-requires : goal.put_last-requires
put_last-requires c =
    omega (
      arith,
      c.put_opening-behind_opening.ensures.value,
      c.put_nodes-behind_nodes.ensures.upper_bound,
      c.put_pairs-behind_arcs.ensures.value,
      c.min-n.ensures,
      c.min-a.ensures,
      c.min-s.ensures,
      c.put_pairs-behind_meetings.ensures.value,
    )

pub returns : goal.returns
unfolding saved_told
returns c =
    let n = c.min-n.ensures in
    let a = c.min-a.ensures in
    let m = c.min-s.ensures in
    fits _ _ _ (size_told (columns _ _ _ _) _ _ _ n a m _ c.nodes_length.ensures.value) c.if-text-size.false
    (text_put (columns _ _ _ _) _ _ _ n a m c.put_opening-behind_opening.ensures.puts c.put_nodes-behind_nodes.ensures.puts
    c.put_pairs-behind_arcs.ensures.puts c.put_pairs-behind_meetings.ensures.puts
    c.put_last.ensures)
