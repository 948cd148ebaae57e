-- Each turn of the inner loop takes one off what is pending: it has a number, or gets the next one. Assumes nothing.
use Rattle.std.proofs.Common.{arith, refl}
use Rattle.walks.proofs.Turns.{walk_begins, walk_done, pending_most, next_below, turn_passes}
use Rattle.walks.proofs.Turns.{turn_fits, turn_numbers, pushed_most}
use Rattle.walks.proofs.walk.Goals as goal

pub walk-init : goal.walk-init
walk-init c = walk_begins _ _ _ c.pending_first-top.ensures

pub loop-top-init : goal.loop-top-init
loop-top-init c = c.walk.invariant

pub offset_bounds-pending-top : goal.offset_bounds-pending-top
offset_bounds-pending-top c = omega (arith, pending_most _ _ _ _ _ _ _ c.loop-top.invariant)

pub bounds-pending-top : goal.bounds-pending-top
bounds-pending-top c = omega (arith, pending_most _ _ _ _ _ _ _ c.loop-top.invariant, c.if-top-eq0.false)

pub bounds-numbers-next : goal.bounds-numbers-next
bounds-numbers-next c =
    next_below _ _ _ _ _ _ _ c.loop-top.invariant _ (omega (arith, c.if-top-eq0.false)) c.from-next.ensures

pub loop-top-preserved : goal.loop-top-preserved
loop-top-preserved c =
    turn_passes _ _ _ _ _ _ _ c.loop-top.invariant _ (omega (arith, c.if-top-eq0.false)) c.from-next.ensures
    (λ numbered. omega arith)

pub give_number-count-requires : goal.give_number-count-requires
give_number-count-requires c =
    let fits = turn_fits _ _ _ _ _ _ _ c.loop-top.invariant _ (omega (arith, c.if-top-eq0.false))
    c.from-next.ensures (omega arith) in
    (fits.0, fits.1)

pub push-top-requires : goal.push-top-requires
push-top-requires c =
    let fits = turn_fits _ _ _ _ _ _ _ c.loop-top.invariant _ (omega (arith, c.if-top-eq0.false))
    c.from-next.ensures (omega arith) in
    (fits.0, omega arith, omega (arith, fits.2))

pub push-top-requires-in-walk : goal.push-top-requires-in-walk
push-top-requires-in-walk c =
    let fits = turn_fits _ _ _ _ _ _ _ c.loop-top.invariant _ (omega (arith, c.if-top-eq0.false))
    c.from-next.ensures (omega arith) in
    let one = c.push-top.ensures in
    (fits.0, omega arith, omega (arith, fits.2, pushed_most _ _ _ _ _ _ (one.value, one.pending_after)))

pub walk-smaller : goal.walk-smaller
walk-smaller c =
    let fits = turn_fits _ _ _ _ _ _ _ c.loop-top.invariant _ (omega (arith, c.if-top-eq0.false))
    c.from-next.ensures (omega arith) in
    omega (arith, fits.1, c.give_number-count.ensures.value)

pub walk-preserved : goal.walk-preserved
walk-preserved c =
    let given = c.give_number-count.ensures in
    let one = c.push-top.ensures in
    let two = c.push-top-in-walk.ensures in
    turn_numbers _ _ _ _ _ _ _ c.loop-top.invariant _ (omega (arith, c.if-top-eq0.false)) c.from-next.ensures
    (omega arith) _ _ _ _ _ _ _ (given.value, (given.numbers_after, given.labels_after))
    (one.value, one.pending_after) (two.value, two.pending_after)

pub returns : goal.returns
returns c =
    record {
      labels_after = walk_done _ _ _ _ _ _ _ c.loop-top.invariant (omega (arith, c.if-top-eq0.true));
      pending_after = refl;
    }
