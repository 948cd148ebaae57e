use Rattle.std.proofs.Common.{◌≡◌, refl, arith}
use Rattle.control.specs.words.Views.{pairs}
use Rattle.links.specs.words.Columns.{flat}
use Rattle.pairing.specs.code.Renumbered.{renumbered}
use Rattle.pairing.proofs.Renumbering.{one_at_most, turn_kept}
use Rattle.pairing.proofs.renumber.Goals as goal

pub loop-i-init : goal.loop-i-init
unfolding pairs renumbered flat
loop-i-init c = record { few = omega arith; counted = refl; put = refl }

pub loop-i-preserved : goal.loop-i-preserved
loop-i-preserved c =
    let known = c.loop-i.invariant in
    let kept = c.keep-kept.ensures in
    let most = one_at_most c.args.either c.number_of-first.result c.number_of-second.result in
    let (counted, put) = turn_kept _ _ _ _ _ _ _ _ _ _ c.track_word.ensures c.track_word-in-loop-i.ensures
    c.number_of-first.ensures c.number_of-second.ensures known.counted _ _ _ _ known.put (kept.value, kept.to_after) in
    record { few = omega (arith, kept.value); counted = counted; put = put }

pub returns : goal.returns
returns c =
    let all : c.args.count ≡ c.loop-i.i = omega arith in
    rw (all, c.loop-i.invariant.counted, c.loop-i.invariant.put)
