-- `lines::digits_end` meets its contract: the search stops at the first character that is no digit, and there the run of digits
-- ends. Assumes nothing.
use Rattle.std.proofs.Common.{◌≡◌, ◌-◌, rules, tests, arith, leb, take, drop, length}
use Rattle.std.specs.List.{position}
use Rattle.std.proofs.lemmas.Iterator.{YieldsList-from_slice}
use Rattle.std.proofs.lemmas.Iterator.Search.{position_from_yields_List}
use Rattle.std.proofs.lemmas.List.{map-id}
use Rattle.lines.specs.Line.{digit}
use Rattle.lines.proofs.Runs.{run_found}
use Rattle.lines.proofs.digits_end.Goals as goal

pub returns : goal.returns
returns c =
    let s = c.args.text.now in
    let found : c.position.result ≡ position (λ x. leb 16 (digit x)) (take (length s - c.args.from) (drop c.args.from s)) =
    position_from_yields_List _ _ _ c.position.result c.position.ensures.ran (YieldsList-from_slice _ c.iter.ensures.rest) (λ x b q k. search (rules, tests)) in
    let there = simp map-id at (run_found (λ x. x) s c.args.from c.position.result found) in
    (omega (arith, there.0), omega (arith, there.1))
