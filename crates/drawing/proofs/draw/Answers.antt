-- `drawing::draw` meets its contract: an arc to the next fresh reference, which is past then. Assumes
-- nothing.
use Rattle.std.proofs.Common.{◌∙◌, ap}
use Rattle.drawing.specs.code.Drawing.{drawn}
use Rattle.drawing.proofs.draw.Goals as goal

pub returns : goal.returns
returns c = record { value = c.past_fresh.ensures ∙ ap drawn c.arc-joined.ensures.value; track_after = c.arc-joined.ensures.track_after }
