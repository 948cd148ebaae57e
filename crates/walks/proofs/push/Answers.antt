-- `walks::push` meets its contract, by whether the word leads to a reference. Assumes nothing.
use Rattle.std.proofs.Common.{arith}
use Rattle.walks.proofs.Turns.{push_none, push_one}
use Rattle.walks.proofs.push.Goals as goal

pub returns-in-1-to-8193 : goal.returns-in-1-to-8193
returns-in-1-to-8193 c =
    let told = push_one _ _ _ _ _ c.side_word.ensures (omega arith) (omega arith) in
    record { value = told.0; pending_after = told.1 }

pub returns-in_default : goal.returns-in_default
returns-in_default c =
    let told = push_none _ _ _ _ _ c.side_word.ensures (λ some. omega arith) in
    record { value = told.0; pending_after = told.1 }

pub returns-in_default-2 : goal.returns-in_default-2
returns-in_default-2 c =
    let told = push_none _ _ _ _ _ c.side_word.ensures (λ some. omega arith) in
    record { value = told.0; pending_after = told.1 }
