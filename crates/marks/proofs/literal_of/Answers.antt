-- `marks::literal_of` meets its contract: the tests are those of `literal`. Assumes nothing.
use Rattle.std.proofs.Common.{ap, le-ltb, lt-ltb, eq-eqb, ne_eqb}
use Rattle.places.specs.declared.Literal.TheVariants.{Own, Event}
use Rattle.marks.specs.words.Mark.{literal}
use Rattle.marks.proofs.literal_of.Goals as goal

pub returns-then-mark-lt2 : goal.returns-then-mark-lt2
unfolding literal
returns-then-mark-lt2 c = simp (lt-ltb _ 2 c.if-mark-lt2.true)

pub returns-then-mark-eq0 : goal.returns-then-mark-eq0
unfolding literal
returns-then-mark-eq0 c = simp (le-ltb _ 2 c.if-mark-lt2.false, eq-eqb _ 0 c.if-mark-eq0.true) (ap Own c.term_of.ensures)

pub returns-else-mark-eq0 : goal.returns-else-mark-eq0
unfolding literal
returns-else-mark-eq0 c =
    simp (le-ltb _ 2 c.if-mark-lt2.false, ne_eqb _ 0 c.if-mark-eq0.false) (ap Event c.term_of-else-mark-eq0.ensures)
