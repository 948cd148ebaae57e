-- `lines::Refusal::number` meets its contract: a refusal counts as its number. Assumes nothing.
use Rattle.lines.proofs.Refusals.{counted}
use Rattle.lines.proofs.Refusal.number.Goals as goal

pub returns : goal.returns
returns c = counted c.args.self
