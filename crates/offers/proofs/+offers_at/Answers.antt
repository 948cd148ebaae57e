use Rattle.std.proofs.Common.{◌-◌, ◌∙◌, rules, arith}
use Rattle.offers.proofs.Returns.{level_less, fits_found, at_none, at_side, at_still, at_rest, at_crowded}
use Rattle.offers.proofs.Returns.{at_split}
use Rattle.offers.proofs.+offers_at.Goals as goal

pub returns-then-left-eq0 : goal.returns-then-left-eq0
returns-then-left-eq0 t c f h = c.unseen.ensures ∙ at_none _ _ _ _ _ _ _ f c.if-left-eq0.true

pub returns-then-n-eq0 : goal.returns-then-n-eq0
returns-then-n-eq0 t c f h =
    let any = c.if-left-eq0.false in
    at_side _ _ _ _ _ _ _ f _ (level_less f _ h any) any _ c.if-n-eq0.true c.offers_of_term.ensures

pub returns-then-state-gt-ENTERED : goal.returns-then-state-gt-ENTERED
returns-then-state-gt-ENTERED t c f h =
    let any = c.if-left-eq0.false in
    at_still _ _ _ _ _ _ _ f _ (level_less f _ h any) any c.if-n-eq0.false _ c.word-state.ensures _
    c.if-state-gt-ENTERED.true c.unseen-then-state-gt-ENTERED.ensures

pub returns-then-state-eq-UNTOUCHED : goal.returns-then-state-eq-UNTOUCHED
returns-then-state-eq-UNTOUCHED t c f h =
    let any = c.if-left-eq0.false in
    at_rest _ _ _ _ _ _ _ f _ (level_less f _ h any) any c.if-n-eq0.false _ c.word-state.ensures _ _ _ _
    c.word-term.ensures c.followed-nested.ensures c.settled.ensures c.if-state-eq-UNTOUCHED.true
    c.offers_of_term-resting.ensures

pub returns-then-not-fits : goal.returns-then-not-fits
returns-then-not-fits t c f h =
    let any = c.if-left-eq0.false in
    at_crowded _ _ _ _ _ _ _ f _ (level_less f _ h any) any c.if-n-eq0.false _ c.word-state.ensures _ _ _ _
    c.word-cells.ensures c.word-others.ensures c.fits.ensures
    c.if-state-gt-ENTERED.false c.if-state-eq-UNTOUCHED.false c.if-not-fits.true c.unseen-then-not-fits.ensures

pub offers_at-l-requires : goal.offers_at-l-requires
offers_at-l-requires t c =
    let few = fits_found _ _ _ _ c.fits.ensures c.if-not-fits.false in
    let begun = c.requires in
    search rules

pub offers_at-r-requires : goal.offers_at-r-requires
offers_at-r-requires t c =
    let few = fits_found _ _ _ _ c.fits.ensures c.if-not-fits.false in
    let begun = c.requires in
    search rules

pub returns : goal.returns
returns t c f h =
    let any = c.if-left-eq0.false in
    let few = fits_found _ _ _ _ c.fits.ensures c.if-not-fits.false in
    at_split _ _ _ _ _ _ _ f _ (level_less f _ h any) any c.if-n-eq0.false _ c.word-state.ensures _ _ _ _
    c.word-term.ensures c.followed-nested.ensures c.settled-2.ensures _ _ _ _ _ _ _ _ _ _ _ _ _
    c.word-cells.ensures c.word-others.ensures c.fits.ensures
    c.word-first.ensures c.word-second.ensures c.inside-within.ensures
    c.first_of.ensures c.second_of-subterm.ensures c.kind_of.ensures
    c.payload_of.ensures c.both_ended-both.ensures
    (c.offers_at-l.ensures (f - 1) (omega arith)) (c.offers_at-r.ensures (f - 1) (omega arith))
    c.if-state-gt-ENTERED.false c.if-state-eq-UNTOUCHED.false c.if-not-fits.false c.combined-sides.ensures
