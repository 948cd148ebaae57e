-- `places::place` meets its contract: each arm answers by the path of its kind of literal. Assumes nothing.
use Rattle.std.proofs.Common.{◌∙◌}
use Rattle.columns.specs.words.Columns.{columns}
use Rattle.places.proofs.Literals.{left_placed, nowhere_placed, somewhere_placed, own_has, event_has}
use Rattle.places.proofs.place.Goals as goal

pub returns-in-Left : goal.returns-in-Left
returns-in-Left c =
    let told = left_placed (columns _ _ _ _) _ _ _ c.in-Left.is in
    record { value = told.0; path_after = told.1 }

pub returns-in_err-length-in-Own : goal.returns-in_err-length-in-Own
returns-in_err-length-in-Own c =
    let told = nowhere_placed (columns _ _ _ _) _ _ _ _ (own_has _ _ _ c.in-Own.is) _ _
    (c.path_to.ensures.value, c.path_to.ensures.path_after) c.in_err-length-in-Own.was in
    record { value = c.from_residual.ensures ∙ told.0; path_after = told.1 }

pub returns-in_ok-length-in-Own : goal.returns-in_ok-length-in-Own
returns-in_ok-length-in-Own c =
    let told = somewhere_placed (columns _ _ _ _) _ _ _ _ (own_has _ _ _ c.in-Own.is) _ _
    (c.path_to.ensures.value, c.path_to.ensures.path_after) _ _ c.owner_of.ensures c.in_ok-length-in-Own.was in
    record { value = told.0; path_after = told.1 }

pub returns-in_err-length-in-Event : goal.returns-in_err-length-in-Event
returns-in_err-length-in-Event c =
    let told = nowhere_placed (columns _ _ _ _) _ _ _ _ (event_has _ _ _ c.in-Event.is) _ _
    (c.event_to.ensures.value, c.event_to.ensures.path_after) c.in_err-length-in-Event.was in
    record { value = c.from_residual-in_err-length-in-Event.ensures ∙ told.0; path_after = told.1 }

pub returns-in_ok-length-in-Event : goal.returns-in_ok-length-in-Event
returns-in_ok-length-in-Event c =
    let told = somewhere_placed (columns _ _ _ _) _ _ _ _ (event_has _ _ _ c.in-Event.is) _ _
    (c.event_to.ensures.value, c.event_to.ensures.path_after) _ _ c.owner_of-in-Event.ensures
    c.in_ok-length-in-Event.was in
    record { value = told.0; path_after = told.1 }
