use Rattle.std.proofs.Common.{◌≡◌, arith}
use Rattle.saving.proofs.MarkLaws.{none_taken, mark_taken}
use Rattle.saving.proofs.take_marks.Goals as goal

pub loop-n-init : goal.loop-n-init
loop-n-init c = none_taken _

pub loop-n-preserved : goal.loop-n-preserved
loop-n-preserved c = mark_taken _ _ c.loop-n.n (omega arith) c.loop-n.invariant

pub returns : goal.returns
returns c =
    let over = c.loop-n in
    let all : over.n ≡ c.args.count = omega arith in
    rw (← all) over.invariant
