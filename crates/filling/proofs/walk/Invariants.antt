-- `filling::walk` meets its contract. The loop's invariant: the walk from number i down, over what is
-- stored so far, is the whole walk. Assumes nothing.
use Rattle.std.proofs.Common.{◌≡◌, length}
use Rattle.filling.specs.words.Preorder.{walked}
use Rattle.filling.proofs.walk.Given as goal

abbrev pub invariant-loop-i : goal.invariant-loop-i
invariant-loop-i l = record {
  long : length l.after ≡ 1024;
  rest : walked l.count l.kinds l.initial.after ≡ walked l.i l.kinds l.after;
}
