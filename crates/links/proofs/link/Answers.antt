use Rattle.std.proofs.Common.{◌∙◌}
use Rattle.links.proofs.LinkLaws.{fit_turn, linked_turn, linking_over}
use Rattle.links.proofs.link.Goals as goal

pub loop-i-preserved : goal.loop-i-preserved
loop-i-preserved c =
    let known = c.loop-i.invariant in
    let linking = c.link_arc-fits.ensures in
    record {
      fits_are = known.fits_are ∙ fit_turn _ _ _ _ _ _ _ _ _ _ _ c.loop-i-test.true c.track_word-from.ensures
          c.track_word-to.ensures (linking.value, linking.sides_after) c.loop-i.fits;
      linked_are = known.linked_are ∙ linked_turn _ _ _ _ _ _ _ _ _ _ _ c.loop-i-test.true c.track_word-from.ensures
          c.track_word-to.ensures (linking.value, linking.sides_after);
    }

pub returns : goal.returns
returns c =
    let known = c.loop-i.invariant in
    let told = linking_over _ _ _ _ _ _ c.min-i-end.ensures _ _ _ _ c.loop-i-test.false known.fits_are
    known.linked_are in
    record { value = told.0; sides_after = told.1 }
