-- The step of what stands at a reference, whatever the words hold. The first number bounds how deep it is gone.
use Rattle.std.specs.Prelude.{ℕ, zero, suc, ◌+◌, ◌-◌, List, eqb}
use Rattle.lines.specs.Line.{choose}
use Rattle.kinds.specs.Kind as Kind
use Rattle.plans.specs.words.Plan.{kind, second}
use Rattle.control.specs.words.Words.{node, put}
use Rattle.control.specs.words.Control.{state, term, frame, resting}
use Rattle.rules.specs.declared.Event.TheVariants.{Tau}
use Rattle.control.specs.words.Sums.{capped}
use Rattle.looking.specs.code.Looking.{digit_at, is_split, taken, inside}
use Rattle.leaves.specs.code.Leaves.{Done, with_words, come, leaf, end}
use Rattle.sides.specs.code.Sides.{one_node, entered, side_tally, side_nodes, side_track, put_side, one, both}
use Rattle.drawing.specs.declared.Tally.{Tally}

module _ (p : List ℕ) (count : ℕ) (ds : List ℕ) where
  -- a step of the kind that `go` takes, at a side of n that is entered first where it has not stepped yet
  unfoldable pub in_side : (ℕ → ℕ → ℕ → ℕ → Tally → List ℕ → List ℕ → Done) → ℕ → ℕ → ℕ → ℕ → ℕ → ℕ → Tally
      → List ℕ → List ℕ → Done
  in_side go n side t inside at size k w g =
      go (node (3 + side) (side_nodes n side t inside k w) n) inside at size (side_tally n side k w)
      (side_nodes n side t inside k w) (side_track n side k w g)

  -- by one side, or by both
  unfoldable pub close : ℕ → ℕ → ℕ → ℕ → ℕ → ℕ → Done → Done
  close n side b size own other d =
      one p n side b size own other d.taken d.nodes d.track

  unfoldable pub across : (ℕ → ℕ → ℕ → ℕ → Tally → List ℕ → List ℕ → Done) → ℕ → ℕ → ℕ → ℕ → Done → Done
  across go n t inside size l =
      in_side go n 2 t inside l.taken.at size l.taken.tally
      (put_side n 1 l.taken.reference l.taken.size l.nodes) l.track

  unfoldable pub close_both : ℕ → ℕ → ℕ → ℕ → ℕ → Done → Done → Done
  close_both n size own other met l r = both n size own other met l.taken r.taken r.nodes r.track

  unfoldable pub take : ℕ → ℕ → ℕ → ℕ → ℕ → Tally → List ℕ → List ℕ → Done
  take zero n b at size k w g = with_words (come Tau n size at k) w g
  take (suc left) n b at size k w g =
      choose (eqb (state w n) resting)
      (choose (eqb (kind p (term w n)) Kind.sequence)
      (take left n b at (capped (size + 1)) k (put 2 w n (capped (term w n + 1))) g)
      (choose (is_split (kind p (term w n)))
      (take left n b at (capped (size + 2)) (one_node k) (entered n (term w n) w) g)
      (leaf p n b at size (digit_at ds count at) k w g)))
      (choose (eqb (digit_at ds count at) 4) (end p n b at size k w g)
      (choose (eqb (digit_at ds count at) 3)
      (close_both n size (node 6 w n) (node 7 w n) k.met
      (in_side (take left) n 1 (capped (term w n + 1))
      (inside p (kind p (term w n)) (term w n) n (frame w n)) (capped (at + 1)) (node 6 w n) k w g)
      (across (take left) n (second p (term w n))
      (inside p (kind p (term w n)) (term w n) n (frame w n)) (node 7 w n)
      (in_side (take left) n 1 (capped (term w n + 1))
      (inside p (kind p (term w n)) (term w n) n (frame w n)) (capped (at + 1)) (node 6 w n) k w g)))
      (close n (taken (digit_at ds count at) 1 2) b size
      (node (5 + taken (digit_at ds count at) 1 2) w n) (node (8 - taken (digit_at ds count at) 1 2) w n)
      (in_side (take left) n (taken (digit_at ds count at) 1 2)
      (taken (digit_at ds count at) (capped (term w n + 1)) (second p (term w n)))
      (inside p (kind p (term w n)) (term w n) n (frame w n)) (capped (at + 1))
      (node (5 + taken (digit_at ds count at) 1 2) w n) k w g))))
