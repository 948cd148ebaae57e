-- `links::link` meets its contract. The loop's invariant: what is linked, then the rest of the arcs, is the
-- whole answer. Assumes nothing.
use Rattle.std.proofs.Common.{◌≡◌, ◌&&◌, replicate}
use Rattle.links.specs.code.Linked.{side_words}
use Rattle.links.proofs.LinkLaws.{fit_from, linked_from}
use Rattle.links.proofs.link.Given as goal

abbrev pub invariant-loop-i : goal.invariant-loop-i
invariant-loop-i l = record {
  fits_are : fit_from l.marks l.table.kinds l.table.after l.track l.i-end (replicate side_words 0) 0
      ≡ (l.fits && fit_from l.marks l.table.kinds l.table.after l.track l.i-end l.sides l.i);
  linked_are : linked_from l.marks l.table.kinds l.table.after l.track l.i-end (replicate side_words 0) 0
      ≡ linked_from l.marks l.table.kinds l.table.after l.track l.i-end l.sides l.i;
}
