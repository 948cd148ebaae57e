-- `filling::owe` meets its contract. A kind has none, one or two subterms, and for each count a law of
-- `Taken` says what is due and what waits. Assumes nothing.
use Rattle.std.proofs.Common.{◌≡◌, ◌∙◌, sym, arith}
use Rattle.kinds.specs.Kind.{subterms}
use Rattle.kinds.proofs.KindLaws.{subterms_most}
use Rattle.filling.proofs.Taken.{owed_leaf, owed_more, pushed_not, pushed_two}
use Rattle.filling.proofs.owe.Goals as goal

pub returns-in-0 : goal.returns-in-0
returns-in-0 c =
    let none : subterms c.args.kind ≡ 0 = sym c.subterms.ensures ∙ c.in-0.is in
    record { value = owed_leaf _ _ _ none _ c.last.ensures; waiting_after = pushed_not _ _ _ (λ z. omega arith) }

pub returns-in-1 : goal.returns-in-1
returns-in-1 c =
    let one : subterms c.args.kind ≡ 1 = sym c.subterms.ensures ∙ c.in-1.is in
    record { value = owed_more _ _ _ 1 one (λ z. omega arith); waiting_after = pushed_not _ _ _ (λ z. omega arith) }

pub returns-in_default : goal.returns-in_default
returns-in_default c =
    let two : subterms c.args.kind ≡ 2 = omega (arith, subterms_most c.args.kind) in
    record { value = owed_more _ _ _ 2 two (λ z. omega arith); waiting_after = pushed_two _ _ _ two }
