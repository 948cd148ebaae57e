-- The weight of the end of a parallel whose sides have ended, whatever the words hold.
use Rattle.std.specs.Prelude.{ℕ, Bool, ◌&&◌, List, eqb}
use Rattle.lines.specs.Line.{choose}
use Rattle.kinds.specs.Kind as Kind
use Rattle.control.specs.words.Words.{node}
use Rattle.control.specs.words.Control.{state, at_end}
use Rattle.weights.specs.code.Rules.{ended}
use Rattle.weights.specs.code.Rules.{Weighed}
use Rattle.std.specs.Prelude.{None}
use Rattle.looking.specs.code.Looking.{parents}

unfoldable pub weigh_end : List ℕ → List ℕ → ℕ → ℕ → ℕ → ℕ → ℕ → Bool → Weighed
weigh_end w g arcs n k at size within =
    choose (eqb k Kind.parallel && (eqb (state w (node 4 w n)) at_end && eqb (state w (node 5 w n)) at_end))
    (ended at size (parents g (node 4 w n) (node 5 w n) 0 arcs) within)
    None
