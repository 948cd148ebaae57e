-- `shape_rules::join_events` meets its contract, meeting by meeting. Assumes nothing.
use Rattle.std.proofs.Common.{refl, rules, tests, ◌∙◌}
use Rattle.std.proofs.Math.Nat.{sub-zero}
use Rattle.std.proofs.lemmas.Iterator.{YieldsList-from_range}
use Rattle.std.proofs.lemmas.Iterator.Search.{all_from_yields_List}
use Rattle.control.specs.words.Words.{meetings_from}
use Rattle.shape_rules.proofs.RuleTests.{every_ranged, pair_from, meets_well, all_meet}
use Rattle.shape_rules.proofs.join_events.Goals as goal

pub returns : goal.returns
returns c =
    let a = c.args in
    all_from_yields_List (λ i. meets_well meetings_from a.graph.now a.payloads.now a.labels.now (pair_from meetings_from a.graph.now i)) _ _ _ c.all.ensures.ran
    (YieldsList-from_range 0 a.meetings a.meetings refl (sub-zero a.meetings)) (λ x b q k. search (rules, tests))
    ∙ every_ranged _ 0 _ ∙ all_meet _ _ _ _ _
