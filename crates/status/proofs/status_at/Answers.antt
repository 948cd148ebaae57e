-- `status::status_at` meets its contract: at Ω, or by what is offered: τ, ✓, no event, or some. Assumes
-- nothing.
use Rattle.std.proofs.Common.{sym, ◌∙◌, rules}
use Rattle.status.proofs.Returns.{status_ended, status_plain, status_tick, status_stuck, status_event}
use Rattle.status.proofs.Runs.{promised}
use Rattle.status.proofs.status_at.Goals.{then-offered-via-then-offered, then-offered-via-else-offered+then-offered-2}
use Rattle.status.proofs.status_at.Goals.{then-offered-via-else-offered+else-offered-2+then-not-empty}
use Rattle.status.proofs.status_at.Goals as goal

pub returns-then-ended : goal.returns-then-ended
returns-then-ended c =
    let told = promised _ _ _ _ _ (status_ended _ _ _ _ (sym c.ended.ensures ∙ c.if-ended.true)) in
    record { value = told.0; tells_status = told.1 }

pub returns-then-offered : goal.returns-then-offered
returns-then-offered c =
    let going = sym c.ended.ensures ∙ c.if-ended.false in
    let is = c.offers-offered.ensures.result_value in
    let told = promised _ _ _ _ _ (elim c.then-offered.branch [
      | then-offered-via-then-offered w ↦ status_plain _ _ _ _ c.offers-offered.result is going w.if-offered.true
      | then-offered-via-else-offered+then-offered-2 w ↦
          status_tick _ _ _ _ c.offers-offered.result is going w.if-offered.false w.if-offered-2.true
      | then-offered-via-else-offered+else-offered-2+then-not-empty w ↦
          let found = w.empty.ensures.some_event w.if-not-empty.true in
          status_event _ _ _ _ c.offers-offered.result is going w.if-offered.false w.if-offered-2.false
          (search (rules, c.offers-offered.type_inv)) found.0 found.1
    ]) in
    record { value = told.0; tells_status = told.1 }

pub returns : goal.returns
returns c =
    let going = sym c.ended.ensures ∙ c.if-ended.false in
    let told = promised _ _ _ _ _
    (status_stuck _ _ _ _ c.offers-offered.result c.offers-offered.ensures.result_value going c.if-offered.false c.if-offered-2.false
    (c.empty.ensures.no_event c.if-not-empty.false)) in
    record { value = told.0; tells_status = told.1 }
