use Rattle.std.proofs.Common.{◌∙◌, sym, arith, length-set}
use Rattle.kinds.proofs.KindLaws.{subterms_most}
use Rattle.filling.proofs.Walked.{walked_turn, walked_end}
use Rattle.filling.proofs.walk.Goals as goal

pub behind-requires : goal.behind-requires
behind-requires c = (rw c.subterms-n.ensures (subterms_most _), omega arith, c.loop-i.invariant.long)

pub loop-i-preserved : goal.loop-i-preserved
loop-i-preserved c = record {
  long = simp length-set c.loop-i.invariant.long;
  rest = c.loop-i.invariant.rest ∙ walked_turn _ _ _ _ _ c.loop-i-test.true c.subterms-n.ensures c.behind.ensures;
}

pub returns : goal.returns
returns c = sym (c.loop-i.invariant.rest ∙ walked_end _ _ _ c.loop-i-test.false)
