-- `parts::standing_in` meets its contract: a side that has not stepped goes by its term, and else it goes by the state:
-- untouched, entered, Ω, or ⊥; of a part of a control it is what stands there. Assumes nothing.
use Rattle.std.proofs.Common.{◌∙◌, arith}
use Rattle.parts.proofs.Returns.{stands_waiting, stands_there, there_stands, state_resting, state_entered, state_ended, state_dead}
use Rattle.parts.proofs.Held.{standing_promised}
use Rattle.parts.proofs.standing_in.Goals as goal

pub returns-then-part-eq0 : goal.returns-then-part-eq0
returns-then-part-eq0 c =
    let told = standing_promised _ _ _ _ (stands_waiting _ _ _ _ c.if-part-eq0.true c.of_term.ensures) in
    record { value = told.0; standing_told = told.1 }

pub returns-in-0 : goal.returns-in-0
returns-in-0 c =
    let told = standing_promised _ _ _ _
    (stands_there _ _ _ _ c.if-part-eq0.false
    (there_stands _ _ _ _ _ _ c.word-state.ensures c.word-term.ensures
    (c.of_term-in-0.ensures ∙ state_resting _ _ _ c.in-0.is))) in
    record { value = told.0; standing_told = told.1 }

pub returns-in-1 : goal.returns-in-1
returns-in-1 c =
    let told = standing_promised _ _ _ _
    (stands_there _ _ _ _ c.if-part-eq0.false
    (there_stands _ _ _ _ _ _ c.word-state.ensures c.word-term.ensures (state_entered _ _ _ c.in-1.is))) in
    record { value = told.0; standing_told = told.1 }

pub returns-in-2 : goal.returns-in-2
returns-in-2 c =
    let told = standing_promised _ _ _ _
    (stands_there _ _ _ _ c.if-part-eq0.false
    (there_stands _ _ _ _ _ _ c.word-state.ensures c.word-term.ensures (state_ended _ _ _ c.in-2.is))) in
    record { value = told.0; standing_told = told.1 }

pub returns-in_default : goal.returns-in_default
returns-in_default c =
    let told = standing_promised _ _ _ _
    (stands_there _ _ _ _ c.if-part-eq0.false
    (there_stands _ _ _ _ _ _ c.word-state.ensures c.word-term.ensures
    (state_dead _ _ _ (λ z. omega arith) (λ z. omega arith) (λ z. omega arith)))) in
    record { value = told.0; standing_told = told.1 }
