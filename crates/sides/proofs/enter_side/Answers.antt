-- `sides::enter_side` meets its contract, by whether the side has a reference. Assumes nothing.
use Rattle.sides.proofs.Laws.{side_there, side_fresh}
use Rattle.sides.proofs.enter_side.Goals as goal

pub returns-then-reference-ne0 : goal.returns-then-reference-ne0
returns-then-reference-ne0 c =
    let told = side_there _ _ _ _ _ _ _ _ c.word-reference.ensures c.if-reference-ne0.true in
    record { value = told.0; nodes_after = told.1.0; track_after = told.1.1 }

pub returns : goal.returns
returns c =
    let told = side_fresh _ _ _ _ _ _ _ _ c.word-reference.ensures
    c.if-reference-ne0.false _ _ _ _
    c.stand.ensures c.put.ensures (c.draw.ensures.value, c.draw.ensures.track_after) in
    record { value = told.0; nodes_after = told.1.0; track_after = told.1.1 }
