-- The rooms that a weight would pass are those that the state behind its step passes: the words count what the state has,
-- and a count that stops at 65,535 is past every room. Assumes nothing.
use Rattle.std.proofs.Common.{ℕ, ◌+◌, ◌<◌, ◌≡◌, refl, ap, ◌∙◌, Bool, true, false, List, ◌++◌, arith, length}
use Rattle.std.proofs.Common.{length-append, ltb, ltb-true, ltb-false, lt-ltb, le-ltb}
use Rattle.rules.specs.Process.{Address, cells}
use Rattle.rules.specs.Track.{Outcome}
use Rattle.rules.specs.Run.{State, after, cell_room, node_room, arc_room, meeting_room}
use Rattle.rules.specs.Run as Run
use Rattle.control.specs.words.Sums.{capped}
use Rattle.control.proofs.Capped.{capped_least, capped_right}
use Rattle.weighing.proofs.Told.{weight}
use Rattle.counting.specs.code.Counting.{nodes, arcs, meetings, over_room}

-- a count passes a room where what it counts does
capped_past : (room n : ℕ) → room < 65535 → ltb room (capped n) ≡ ltb room n
capped_past room n h = go (ltb room n) refl
  where
    go : (b : Bool) → ltb room n ≡ b → ltb room (capped n) ≡ b
    go true e = lt-ltb room (capped n) (rw (capped_least n) (omega (arith, ltb-true room n e)))
    go false e = le-ltb room (capped n) (rw (capped_least n) (omega (arith, ltb-false room n e)))

summed_past : {A : Type 0} (room m : ℕ) (xs ys : List A) → room < 65535 → m ≡ length xs
    → ltb room (capped (m + capped (length ys))) ≡ ltb room (length (xs ++ ys))
summed_past room m xs ys h e =
    ap (ltb room) (capped_right m (length ys)) ∙ capped_past room (m + length ys) h
    ∙ ap (ltb room) (omega (arith, e, length-append xs ys))

pub rooms_told : (s : State) (c : List ℕ) (count : ℕ) (r : Outcome) (a : Address) → nodes c ≡ length s.labels
    → arcs c ≡ length s.arcs → meetings c ≡ length s.meetings
    → over_room (weight count r a) c ≡ Run.over_room (after s r)
unfolding over_room Run.over_room weight after
rooms_told s c count r a e f g =
    rw (
      capped_past cell_room (cells r.process) (omega arith),
      summed_past node_room (nodes c) s.labels r.labels (omega arith) e,
      summed_past arc_room (arcs c) s.arcs r.arcs (omega arith) f,
      summed_past meeting_room (meetings c) s.meetings r.meetings (omega arith) g,
    )
