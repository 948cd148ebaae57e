-- `finding::start_mark` meets its contract: each test on the line's bytes is one of the spec's. Assumes nothing.
use Rattle.finding.proofs.NodeLine.{start_length, start_definition, start_path, start_fits}
use Rattle.finding.proofs.start_mark.Goals as goal
use Rattle.finding.proofs.start_mark.Goals.{then-chars-via-then-chars, then-chars-via-else-chars+then-byte-ne0}
use Rattle.finding.proofs.start_mark.Goals.{then-chars-via-else-chars+else-byte-ne0+then-byte-ne0-2}

pub returns-then-chars : goal.returns-then-chars
returns-then-chars c =
    elim c.then-chars.branch [
      | then-chars-via-then-chars w ↦ start_length _ w.if-chars.true
      | then-chars-via-else-chars+then-byte-ne0 w ↦ start_definition _ w.byte.ensures w.if-byte-ne0.true
      | then-chars-via-else-chars+else-byte-ne0+then-byte-ne0-2 w ↦ start_path _ w.byte.ensures w.if-chars.false
          w.if-byte-ne0.false w.byte-else-byte-ne0.ensures w.if-byte-ne0-2.true
    ]

pub returns : goal.returns
returns c =
    start_fits _ c.byte.ensures c.if-chars.false c.if-byte-ne0.false
    c.byte-else-byte-ne0.ensures c.if-byte-ne0-2.false
