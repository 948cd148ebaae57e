-- The sides of an entered choice or parallel, whatever the words hold.
use Rattle.std.specs.Prelude.{ℕ, ◌+◌, ◌-◌, List, eqb}
use Rattle.lines.specs.Line.{choose}
use Rattle.plans.specs.words.Plan.{kind}
use Rattle.control.specs.words.Words.{node, put}
use Rattle.control.specs.words.Control.{term, frame, resting}
use Rattle.control.specs.words.Control as Control
use Rattle.control.specs.words.Sums.{capped}
use Rattle.weights.specs.code.Rules.{stays, shown}
use Rattle.drawing.specs.code.Drawing as Marks
use Rattle.drawing.specs.code.Drawing.{labelled, standing, one_arc, drawn, with_arc, met_all}
use Rattle.marks.specs.words.Mark.{own_mark}
use Rattle.leaves.specs.code.Leaves.{Done, with_words, come, settled}
use Rattle.drawing.specs.declared.Tally.{Tally}
use Rattle.leaves.specs.declared.Taken.{Taken}

abbrev pub one_node : Tally → Tally
one_node = Marks.one_node

-- entered, neither side yet
unfoldable pub entered : ℕ → ℕ → List ℕ → List ℕ
entered n t w = labelled n (own_mark t) (put 7 (put 6 (put 1 w n Control.entered) n 1) n 1)

-- the first time that a side steps
unfoldable pub side_tally : ℕ → ℕ → Tally → List ℕ → Tally
side_tally n side k w = choose (eqb (node (3 + side) w n) 0) (drawn (one_arc k)) k

unfoldable pub side_nodes : ℕ → ℕ → ℕ → ℕ → Tally → List ℕ → List ℕ
side_nodes n side t f k w =
    choose (eqb (node (3 + side) w n) 0) (put (3 + side) (standing k.fresh resting t f w) n k.fresh) w

unfoldable pub side_track : ℕ → ℕ → Tally → List ℕ → List ℕ → List ℕ
side_track n side k w g = choose (eqb (node (3 + side) w n) 0) (with_arc n k.fresh k.arcs g) g

-- a side that has stepped
unfoldable pub put_side : ℕ → ℕ → ℕ → ℕ → List ℕ → List ℕ
put_side n side m size w = put (5 + side) (put (3 + side) w n m) n size

-- what one side's step makes of its split
unfoldable pub one : List ℕ → ℕ → ℕ → ℕ → ℕ → ℕ → ℕ → Taken → List ℕ → List ℕ → Done
one p n side b size own other d w g =
    choose (stays (kind p (term w n)) d.event)
    (with_words
    (come (shown (kind p (term w n)) d.event) n (capped (size - own + d.size)) d.at d.tally)
    (put_side n side d.reference d.size w) g)
    (settled p
    (come d.event d.reference (capped (size - own - other - 1 + d.size)) d.at d.tally)
    (term w n) (frame w n) b w g)

-- what a joint step makes of its parallel
unfoldable pub both : ℕ → ℕ → ℕ → ℕ → ℕ → Taken → Taken → List ℕ → List ℕ → Done
both n size own other met l r w g = with_words
    (come l.event n (capped (capped (size - own - other + l.size) + r.size)) r.at
    (met_all met (l.tally.met - met) l.tally.met (r.tally.met - l.tally.met) r.tally g).tally)
    (put_side n 2 r.reference r.size w)
    (met_all met (l.tally.met - met) l.tally.met (r.tally.met - l.tally.met) r.tally g).track
