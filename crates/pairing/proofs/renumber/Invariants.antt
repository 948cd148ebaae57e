-- `pairing::renumber` meets its contract: what the pairs so far became is put and counted. Assumes nothing.
use Rattle.std.proofs.Common.{◌≡◌, ◌≤◌, length}
use Rattle.std.proofs.lemmas.List.Edits.{sets}
use Rattle.control.specs.words.Views.{pairs}
use Rattle.links.specs.words.Columns.{flat}
use Rattle.pairing.specs.code.Renumbered.{renumbered}
use Rattle.pairing.proofs.renumber.Given as goal

abbrev pub invariant-loop-i : goal.invariant-loop-i
invariant-loop-i l = record {
  few : l.kept ≤ l.i;
  counted : l.kept ≡ length (renumbered l.either' l.numbers (pairs l.base l.track 0 l.i));
  put : l.to ≡ sets l.initial.to l.base (flat (renumbered l.either' l.numbers (pairs l.base l.track 0 l.i)));
}
