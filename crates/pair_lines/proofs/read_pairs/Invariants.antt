-- `pair_lines::read_pairs` meets its contract. The loop's invariant: so many pairs are read, their numbers stand in the words,
-- and all lines tell them with what the lines from the cursor on tell. Assumes nothing.
use Rattle.pair_lines.proofs.Laws.{PairsSofar}
use Rattle.pair_lines.proofs.read_pairs.Given as goal

abbrev pub invariant-loop-i : goal.invariant-loop-i
invariant-loop-i l = PairsSofar l.text l.code l.nodes l.count l.first l.from l.base l.initial.graph l.graph l.i l.at
