-- `reading::judge` meets its contract: lines that are refused decide, and the scratch is cleared; else the columns hold the
-- graph that they say, and the test of its shape decides, which leaves the scratch all 0. Assumes nothing.
use Rattle.std.proofs.Common.{not, refl, ap}
use Rattle.lines.specs.Refusal.{number}
use Rattle.reading.specs.Answers.{read_told}
use Rattle.reading.proofs.Promises.{lines_refused, rules_decide}
use Rattle.reading.proofs.judge.Goals as goal

pub returns-in_default : goal.returns-in_default
unfolding read_told
returns-in_default c =
    let judged = lines_refused _ _ _ _ _ _ _ c.read_lines-read.ensures (ap read_told c.in_default.is) in
    record { held = judged; work_after = refl }

pub returns-then-not-fits : goal.returns-then-not-fits
unfolding number read_told
returns-then-not-fits c =
    let lines = c.read_lines-read.ensures in
    let shape = c.has_shape-fits.ensures in
    let judged = rules_decide _ _ _ _ _ _ _ lines (ap read_told c.in-Ok.is) shape.value (ap not c.if-not-fits.true) in
    record { held = rw (c.at.ensures.0, c.at.ensures.1) judged; work_after = rw (shape.sides_after, shape.pending_after, shape.numbers_after, shape.walked_after) refl }

pub returns : goal.returns
unfolding read_told
returns c =
    let lines = c.read_lines-read.ensures in
    let shape = c.has_shape-fits.ensures in
    let judged = rules_decide _ _ _ _ _ _ _ lines (ap read_told c.in-Ok.is) shape.value (ap not c.if-not-fits.false) in
    record { held = judged; work_after = rw (shape.sides_after, shape.pending_after, shape.numbers_after, shape.walked_after) refl }
