-- `looking::parents` meets its contract: what is found, with the parents among the arcs that are
-- left, is all of them. Assumes nothing.
use Rattle.looking.proofs.LookLaws.{Counted}
use Rattle.looking.proofs.parents.Given as goal

abbrev pub invariant-loop-i : goal.invariant-loop-i
invariant-loop-i l = Counted l.track l.first l.second l.arcs l.found l.i
