-- `offers::fits` meets its contract: the first side's cells are too many, or it goes by what they leave. Assumes
-- nothing.
use Rattle.std.proofs.Common.{◌∙◌, le-ltb}
use Rattle.offers.proofs.Returns.{fits_not, fits_rest}
use Rattle.offers.proofs.fits.Goals as goal

pub returns-then-cells-left : goal.returns-then-cells-left
returns-then-cells-left c = fits_rest _ _ _ c.if-cells-left.true

pub returns-else-cells-left : goal.returns-else-cells-left
returns-else-cells-left c = le-ltb _ _ c.if-cells-left.false ∙ fits_not _ _ _ c.if-cells-left.false
