use Rattle.std.proofs.Common.{arith}
use Rattle.framing.proofs.Spelt.{pairs_owed, pairs_put, pair_less, pairs_long}
use Rattle.framing.proofs.put_pairs.Goals as goal

pub loop-i-init : goal.loop-i-init
loop-i-init c = pairs_owed _ _ _ _

pub put_pair-at-requires : goal.put_pair-at-requires
put_pair-at-requires c =
    let l = c.loop-i in
    let a = c.args in
    omega (arith, l.invariant.lengths, pairs_long a.code a.base a.track.now 0 a.count)

pub loop-i-preserved : goal.loop-i-preserved
loop-i-preserved c =
    pair_less _ _ _ _ _ _ _ c.loop-i-test.true c.track_word.ensures c.track_word-in-loop-i.ensures
    c.loop-i.invariant c.put_pair-at.ensures

pub returns : goal.returns
returns c =
    let lines = pairs_put _ _ _ _ _ c.loop-i-test.false c.loop-i.invariant in
    record { puts = lines; value = rw pairs_long at lines.ends }
