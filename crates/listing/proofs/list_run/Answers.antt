-- `listing::list_run` meets its contract: each part of the run's listing is put behind the one before, and the
-- steps' lines end low enough for a cursor behind them. Assumes nothing.
use Rattle.std.proofs.Common.{arith}
use Rattle.listing.proofs.Whole.{status_ends, stop_ends, run_put}
use Rattle.listing.proofs.list_run.Goals as goal

pub put_stop-behind_stop-requires : goal.put_stop-behind_stop-requires
put_stop-behind_stop-requires c = omega (arith, status_ends _ c.put_status-behind_status.ensures, c.put_steps-stop.ensures.1.1.1.1.1.1)

pub put_track-requires : goal.put_track-requires
put_track-requires c =
    omega (
      arith,
      stop_ends _ _ c.put_stop-behind_stop.ensures,
      status_ends _ c.put_status-behind_status.ensures,
      c.put_steps-stop.ensures.1.1.1.1.1.1,
    )

pub returns : goal.returns
returns c =
    run_put _ _ _ _ _ _ _ (c.start.ensures.nodes_after, (c.start.ensures.track_after, (c.start.ensures.counters_after, c.start.ensures.begins))) c.put_steps-stop.ensures c.from-reference.ensures
    c.status_at-status.ensures.value
    c.put_status-behind_status.ensures
    c.put_stop-behind_stop.ensures
    c.put_track.ensures
