-- `links::side_of` meets its contract, a law for each return. Assumes nothing.
use Rattle.std.proofs.Common.{ap, lt-ltb, le-ltb}
use Rattle.links.specs.code.Linked.{told}
use Rattle.links.proofs.LinkLaws.{side_none, side_first, side_behind}
use Rattle.links.proofs.side_of.Goals as goal

pub returns-then-other-term : goal.returns-then-other-term
returns-then-other-term c = ap told (side_none _ _ _ c.if-other-term.true)

pub returns-then-other-after_of : goal.returns-then-other-after_of
returns-then-other-after_of c =
    ap told (side_first _ _ _ c.if-other-term.false _ c.after_of.ensures c.if-other-after_of.true)

pub returns-then-other-after_of-2 : goal.returns-then-other-after_of-2
returns-then-other-after_of-2 c =
    let side = side_behind _ _ _ c.if-other-term.false _ _ c.after_of.ensures
    c.if-other-after_of.false c.after_of-else-other-after_of.ensures in
    ap told (rw (lt-ltb _ _ c.if-other-after_of-2.true) at side)

pub returns-else-other-after_of-2 : goal.returns-else-other-after_of-2
returns-else-other-after_of-2 c =
    let side = side_behind _ _ _ c.if-other-term.false _ _ c.after_of.ensures
    c.if-other-after_of.false c.after_of-else-other-after_of.ensures in
    ap told (rw (le-ltb _ _ c.if-other-after_of-2.false) at side)
