-- `weights::settled` meets its contract, by whether there is a weight, whether a sequence is around,
-- and the event. Assumes nothing.
use Rattle.std.proofs.Common.{sym, ◌∙◌, true≢false}
use Rattle.weights.proofs.RuleLaws.{settled_nothing, settled_outside, settled_on, settled_tick}
use Rattle.weights.proofs.settled.Goals.{then-not-within-via-then-not-within, then-not-within-via-else-not-within+then-not-matches}
use Rattle.weights.proofs.settled.Goals.{in-Tick, in_default}
use Rattle.weights.proofs.settled.Goals as goal

pub returns-in_err-w : goal.returns-in_err-w
returns-in_err-w c = c.from_residual.ensures ∙ settled_nothing _ _ c.in_err-w.was

pub returns-then-not-within : goal.returns-then-not-within
returns-then-not-within c =
    let is = c.in_ok-w.was in
    is ∙ elim c.then-not-within.branch [
      | then-not-within-via-then-not-within w ↦ settled_outside _ _ _ is w.if-not-within.true
      | then-not-within-via-else-not-within+then-not-matches w ↦ elim w.match-matches.branch [
        | in-Tick v ↦ absurd (true≢false (sym v.matches-is ∙ w.if-not-matches.true))
        | in_default v ↦ settled_on _ _ _ is w.if-not-within.false v.in_default.not-Tick
      ]
    ]

pub returns : goal.returns
returns c =
    elim c.match-matches.branch [
      | in-Tick w ↦
          settled_tick _ _ _ c.in_ok-w.was c.if-not-within.false w.in-Tick.is _ _ _
          c.less.ensures c.sum.ensures c.sum-2.ensures
      | in_default w ↦ absurd (true≢false (sym c.if-not-matches.false ∙ w.matches-is))
    ]
