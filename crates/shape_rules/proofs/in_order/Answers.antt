-- `shape_rules::in_order` meets its contract, number by number. Assumes nothing.
use Rattle.std.proofs.Common.{◌+◌, eqb, refl, rules, tests, ◌∙◌}
use Rattle.std.proofs.Math.Nat.{sub-zero}
use Rattle.std.proofs.lemmas.Iterator.{YieldsList-from_range}
use Rattle.std.proofs.lemmas.Iterator.Search.{all_from_yields_List}
use Rattle.links.specs.words.Columns.{at}
use Rattle.shape_rules.proofs.RuleTests.{every_ranged}
use Rattle.shape_rules.proofs.in_order.Goals as goal

pub returns : goal.returns
returns c =
    all_from_yields_List (λ k. eqb (at c.args.numbers.now k) (k + 1)) _ _ _ c.all.ensures.ran
    (YieldsList-from_range 0 c.args.nodes c.args.nodes refl (sub-zero c.args.nodes)) (λ x b q k. search (rules, tests))
    ∙ every_ranged _ 0 _
