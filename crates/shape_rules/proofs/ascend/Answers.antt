-- `shape_rules::ascend` meets its contract, each pair compared with the one before it. Assumes nothing.
use Rattle.std.proofs.Common.{◌-◌, refl, rules, tests, ◌∙◌}
use Rattle.std.proofs.lemmas.Iterator.{YieldsList-from_range}
use Rattle.std.proofs.lemmas.Iterator.Search.{all_from_yields_List}
use Rattle.shape_rules.proofs.RuleTests.{every_ranged, behind_last, all_ascend, pair_before}
use Rattle.shape_rules.proofs.ascend.Goals as goal

pub returns : goal.returns
returns c =
    all_from_yields_List (behind_last c.args.base c.args.graph.now) _ _ _ c.all.ensures.ran
    (YieldsList-from_range 1 c.args.count (c.args.count - 1) refl refl) (λ x b q k. search (rules, tests, pair_before))
    ∙ every_ranged _ 1 _ ∙ all_ascend _ _ _
