use Rattle.std.proofs.Common.{arith}
use Rattle.looking.proofs.LookLaws.{none_counted, counted_all, counted_on}
use Rattle.looking.proofs.LookLaws.{one_found, none_found}
use Rattle.looking.proofs.parents.Goals as goal
use Rattle.looking.proofs.parents.Goals.{then-leads, else-leads}

pub loop-i-init : goal.loop-i-init
loop-i-init c = none_counted _ _ _ _

pub loop-i-preserved : goal.loop-i-preserved
loop-i-preserved c =
    counted_on _ _ _ _ _ _ c.loop-i.invariant (omega arith) (omega arith)
    _ _ c.track_word-to.ensures c.leads.ensures c.if-leads.found
    (elim c.if-leads.branch [
      | then-leads w ↦ one_found _ _ _ w.if-leads.true w.found-is
      | else-leads w ↦ none_found _ _ _ w.if-leads.false w.found-is
    ])

pub returns : goal.returns
returns c = counted_all _ _ _ _ _ _ c.loop-i.invariant (omega arith)
