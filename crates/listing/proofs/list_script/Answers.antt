-- `listing::list_script` meets its contract: a script over its room is told by refusal 6, and one within it is
-- played over the plan that the columns come to. Assumes nothing.
use Rattle.lines.specs.Refusal.{number}
use Rattle.listing.proofs.Whole.{script_over, script_within}
use Rattle.listing.proofs.list_script.Goals as goal

pub returns-then-script-gt-SCRIPT_TEXT_ROOM : goal.returns-then-script-gt-SCRIPT_TEXT_ROOM
unfolding number
returns-then-script-gt-SCRIPT_TEXT_ROOM c = script_over _ _ _ _ _ _ _ c.if-script-gt-SCRIPT_TEXT_ROOM.true
    (rw c.number.ensures at c.put_refusal.ensures)

pub returns : goal.returns
returns c =
    script_within _ _ _ _ _ _ _ c.if-script-gt-SCRIPT_TEXT_ROOM.false c.lay_out.ensures
    c.list_run.ensures
