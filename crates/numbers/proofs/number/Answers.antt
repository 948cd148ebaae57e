use Rattle.std.proofs.Common.{◌≡◌, sym, ◌∙◌, arith, get_or}
use Rattle.numbers.specs.code.Numbers.{byte_of}
use Rattle.numbers.proofs.Laws.{number_more, number_end}
use Rattle.numbers.proofs.number.Goals as goal

pub loop-pair-preserved : goal.loop-pair-preserved
loop-pair-preserved c =
    let step = c.in-Some.ensures.steps in
    let pair = c.in-Some.pair.now in
    let known = c.loop-pair.invariant in
    let read : c.from.result ≡ byte_of (get_or pair 0 0) (get_or pair 1 0) = c.from.ensures ∙ c.byte_of.ensures in
    let more = number_more c.loop-pair.number _ pair _ step.1.0 (step.1.1 ∙ known.in_pairs) in
    record { in_pairs = step.0 ∙ known.in_pairs; left = rw read (sym more ∙ known.left) }

pub returns : goal.returns
returns c =
    let step = c.in-None.ensures.steps in
    let known = c.loop-pair.invariant in
    sym (number_end c.loop-pair.number _ (omega (arith, step.1.0, known.in_pairs))) ∙ known.left
