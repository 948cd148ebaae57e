-- `places::path_to` meets its contract: the way is followed from the root of the definition that
-- owns the term. Assumes nothing.
use Rattle.std.proofs.Common.{ap, ◌∙◌}
use Rattle.columns.specs.words.Columns.{look, columns}
use Rattle.places.proofs.Literals.{own_path}
use Rattle.places.proofs.path_to.Goals as goal

pub returns : goal.returns
returns c =
    let owner = c.from.ensures ∙ c.owner_of-definition.ensures in
    let told = own_path (columns _ _ _ _) _ _ _ _ _ _ (c.root_of-root.ensures ∙ ap (look 64 _) owner)
    (c.descend.ensures.value, c.descend.ensures.path_after) in
    record { value = told.0; path_after = told.1 }
