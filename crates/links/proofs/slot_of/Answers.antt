-- `links::slot_of` meets its contract, a law for each return. Assumes nothing.
use Rattle.std.proofs.Common.{ap, ◌∙◌}
use Rattle.links.specs.code.Linked.{told}
use Rattle.links.proofs.LinkLaws.{slot_whole, slot_low, slot_side}
use Rattle.links.proofs.slot_of.Goals as goal

pub returns-then-not-splits : goal.returns-then-not-splits
returns-then-not-splits c = ap told (slot_whole _ _ _ _ _ c.splits.ensures c.if-not-splits.true)

pub returns-then-other-lt2 : goal.returns-then-other-lt2
returns-then-other-lt2 c =
    ap told (slot_low _ _ _ _ _ c.splits.ensures c.if-not-splits.false c.if-other-lt2.true)

pub returns : goal.returns
returns c =
    c.side_of.ensures
    ∙ ap told (slot_side _ _ _ _ _ c.splits.ensures c.if-not-splits.false c.if-other-lt2.false
    _ _ c.term_of.ensures c.term_of-2.ensures)
