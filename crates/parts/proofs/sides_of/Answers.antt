-- `parts::sides_of` meets its contract: the subterms of a side that has not stepped, those of a term that no step has
-- touched, or both sides by their words; of a part of a control they are its sides. Assumes nothing.
use Rattle.parts.proofs.Returns.{divides_waiting, divides_there, there_rests, there_enters, stepped_parts}
use Rattle.parts.proofs.Held.{sides_promised}
use Rattle.parts.proofs.sides_of.Goals as goal

pub returns-then-n-eq0 : goal.returns-then-n-eq0
returns-then-n-eq0 c =
    let told = sides_promised _ _ _ _ (divides_waiting _ _ _ _ c.if-n-eq0.true c.subterms.ensures) in
    record { value = told.0; sides_told = told.1 }

pub returns-then-word-ne-ENTERED : goal.returns-then-word-ne-ENTERED
returns-then-word-ne-ENTERED c =
    let told = sides_promised _ _ _ _
    (divides_there _ _ _ _ c.if-n-eq0.false
    (there_rests _ _ _ _ _ _ c.word.ensures c.word-term.ensures c.if-word-ne-ENTERED.true
    c.subterms-then-word-ne-ENTERED.ensures)) in
    record { value = told.0; sides_told = told.1 }

pub returns : goal.returns
returns c =
    let told = sides_promised _ _ _ _
    (divides_there _ _ _ _ c.if-n-eq0.false
    (there_enters _ _ _ _ _ _ c.word.ensures c.word-term.ensures c.if-word-ne-ENTERED.false
    (stepped_parts _ _ _ _ _ _ _ _ _ c.inside-bound.ensures c.word-2.ensures
    c.first_of.ensures c.word-3.ensures c.second_of.ensures))) in
    record { value = told.0; sides_told = told.1 }
