use Rattle.std.proofs.Common.{sym, ◌∙◌, rules}
use Rattle.scripts.proofs.Judged.{digit_low, digit_high, digit_more, digits_end}
use Rattle.scripts.proofs.digits_fit.Goals as goal

pub returns-then-not-contains : goal.returns-then-not-contains
returns-then-not-contains c = search (rules, digit_low, digit_high)

pub loop-k-preserved : goal.loop-k-preserved
loop-k-preserved c =
    let l = c.loop-k in
    let v = c.if-not-contains.ensures {u = tt} in
    let b = c.byte.ensures in
    sym (digit_more _ l.k c.loop-k-test.true (search rules) (search rules)) ∙ l.invariant

pub returns : goal.returns
returns c =
    let l = c.loop-k in
    sym (digits_end _ l.k c.loop-k-test.false) ∙ l.invariant
