-- `weights::shown` meets its contract, by the event and the kind. Assumes nothing.
use Rattle.weights.proofs.RuleLaws.{choice_shows, shows_on, shows_tick}
use Rattle.weights.proofs.shown.Goals as goal

pub returns-in_default : goal.returns-in_default
returns-in_default c = shows_on _ _ c.in_default.not-Tick

pub returns-then-kind-eq-PARALLEL_WORD : goal.returns-then-kind-eq-PARALLEL_WORD
returns-then-kind-eq-PARALLEL_WORD c = shows_tick _ c.if-kind-eq-PARALLEL_WORD.true _ c.in-Tick.is

pub returns-else-kind-eq-PARALLEL_WORD : goal.returns-else-kind-eq-PARALLEL_WORD
returns-else-kind-eq-PARALLEL_WORD c = choice_shows _ c.if-kind-eq-PARALLEL_WORD.false _ c.in-Tick.is
