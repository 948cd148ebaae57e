-- `walks::pending_first` meets its contract, by whether reference 0 has a mark. Assumes nothing.
use Rattle.std.proofs.Common.{◌∙◌}
use Rattle.walks.proofs.Turns.{first_many}
use Rattle.walks.proofs.pending_first.Goals as goal

pub returns : goal.returns
returns c = c.from.ensures ∙ first_many _ _ c.reference_word.ensures
