-- `parts::whole` meets its contract: the whole control stands at its reference. Assumes nothing.
use Rattle.std.proofs.Common.{refl}
use Rattle.offers.specs.words.Told.{stepped}
use Rattle.parts.proofs.whole.Goals as goal

pub returns : goal.returns
returns c = record { value = refl; holds_whole = λ l p x w P h m. stepped h m }
