-- `listing::put_track` meets its contract: the array that the track is saved into has its room, so by the answer
-- the text stands in front of it and is copied, or refusal 12 is told. Assumes nothing.
use Rattle.std.proofs.Common.{ap, refl}
use Rattle.lines.specs.Refusal.{number}
use Rattle.writing.specs.Answers.{saved_told}
use Rattle.listing.proofs.Lines.{track_short, track_fits, track_whole}
use Rattle.listing.proofs.put_track.Goals as goal

pub put_copy-requires : goal.put_copy-requires
unfolding saved_told
put_copy-requires c =
    let fits =
    track_fits _ _ c.save.ensures.text_after refl (ap saved_told c.in-Ok.is) in
    (fits.0, c.requires, fits.1)

pub returns-in-Err : goal.returns-in-Err
unfolding saved_told number
returns-in-Err c =
    track_short _ _ c.save.ensures.text_after refl (ap saved_told c.in-Err.is)
    (rw c.number.ensures at c.put_refusal.ensures)

pub returns-in-Ok : goal.returns-in-Ok
unfolding saved_told
returns-in-Ok c =
    track_whole _ _ c.save.ensures.text_after refl (ap saved_told c.in-Ok.is)
    c.put_copy.ensures
