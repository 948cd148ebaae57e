-- `places::event_to` meets its contract. A term that is no prefix has no event; a prefix's path has at most
-- 63 digits, so that the event's digit fits behind it. Assumes nothing.
use Rattle.std.proofs.Common.{sym, ◌∙◌, arith}
use Rattle.columns.specs.words.Columns.{columns}
use Rattle.places.proofs.Literals.{event_none, event_astray, event_room, event_ends}
use Rattle.places.proofs.event_to.Goals as goal

pub returns-then-kind-ne-PREFIX : goal.returns-then-kind-ne-PREFIX
returns-then-kind-ne-PREFIX c =
    let told = event_none (columns _ _ _ _) _ _ (λ e. c.if-kind-ne-PREFIX.true (c.kind_of-kind.ensures ∙ e)) in
    record { value = told.0; path_after = told.1 }

pub returns-in_err-length : goal.returns-in_err-length
returns-in_err-length c =
    let is = sym c.kind_of-kind.ensures ∙ c.if-kind-ne-PREFIX.false in
    let told =
    event_astray (columns _ _ _ _) _ _ is _ _ (c.path_to.ensures.value, c.path_to.ensures.path_after) c.in_err-length.was in
    record { value = c.from_residual.ensures ∙ sym c.in_err-length.was ∙ told.0; path_after = told.1 }

pub bounds-path-length : goal.bounds-path-length
bounds-path-length c =
    let is = sym c.kind_of-kind.ensures ∙ c.if-kind-ne-PREFIX.false in
    let e =
    event_room (columns _ _ _ _) _ _ is _ _ (c.path_to.ensures.value, c.path_to.ensures.path_after) _ c.in_ok-length.was in
    omega arith

pub overflow_add-result : goal.overflow_add-result
overflow_add-result c = omega (arith, bounds-path-length c)

pub returns : goal.returns
returns c =
    let is = sym c.kind_of-kind.ensures ∙ c.if-kind-ne-PREFIX.false in
    let told =
    event_ends (columns _ _ _ _) _ _ is _ _ (c.path_to.ensures.value, c.path_to.ensures.path_after) _ c.in_ok-length.was in
    record { value = told.0; path_after = told.1 }
