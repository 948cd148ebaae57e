-- `sides::enter` meets its contract, word by word. Assumes nothing.
use Rattle.sides.proofs.Laws.{entered_made}
use Rattle.sides.proofs.enter.Goals as goal

pub returns : goal.returns
returns c =
    let told = entered_made _ _ _ _ _ _ _ _ _ _
    c.put.ensures
    c.put-2.ensures c.put-3.ensures
    c.own_mark.ensures (c.label.ensures.value, c.label.ensures.nodes_after) in
    record { value = told.0; nodes_after = told.1 }
