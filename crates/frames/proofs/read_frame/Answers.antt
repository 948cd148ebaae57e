-- `frames::read_frame` meets its contract. The tag tells the shape, and the count of bytes whether
-- the line has it. Assumes nothing.
use Rattle.std.proofs.Common.{refl, sym, ◌∙◌, rules, arith}
use Rattle.std.proofs.lemmas.Grind.{common_steps}
use Rattle.frames.proofs.Frames.{fits, misfits, opening, definition, closing, no_tag, number_behind}
use Rattle.frames.proofs.read_frame.Goals as goal

pub returns-in-17 : goal.returns-in-17
returns-in-17 c = fits _ (definition _ c.byte-in-17.ensures) (sym c.byte.ensures ∙ c.in-17.is) c.if-count-eq2.true

pub returns-in-31 : goal.returns-in-31
returns-in-31 c =
    let terms = number_behind c.args.chars.now 1 c.number.ensures (search rules) in
    fits _ (closing _ terms) (sym c.byte.ensures ∙ c.in-31.is) c.if-count-eq3.true

pub returns-in-16 : goal.returns-in-16
returns-in-16 c =
    fits _ (opening _ c.byte-in-16.ensures c.byte-in-16-2.ensures c.byte-in-16-3.ensures)
    (sym c.byte.ensures ∙ c.in-16.is) c.if-count-eq4.true

pub returns-in_default : goal.returns-in_default
returns-in_default c = misfits _ (definition _ refl) (sym c.byte.ensures ∙ c.in-17.is) c.if-count-eq2.false

pub returns-in_default-2 : goal.returns-in_default-2
returns-in_default-2 c = misfits _ (closing _ refl) (sym c.byte.ensures ∙ c.in-31.is) c.if-count-eq3.false

pub returns-in_default-3 : goal.returns-in_default-3
returns-in_default-3 c = misfits _ (opening _ refl refl refl) (sym c.byte.ensures ∙ c.in-16.is) c.if-count-eq4.false

pub returns-in_default-4 : goal.returns-in_default-4
returns-in_default-4 c =
    no_tag _ c.byte.ensures (λ e. grind (arith, common_steps)) (λ e. grind (arith, common_steps)) (λ e. grind (arith, common_steps))
    (λ e. grind (arith, common_steps))
