-- The refusals of a saved text. No line meets a number over 3; so a text that is refused at a line is refused
-- with 1, 2 or 3 and that line, and one whose lines say a graph with 13 and line 0. Assumes nothing.
use Rattle.std.proofs.Common.{ℕ, zero, suc, ◌≤◌, ◌≡◌, refl, Bool, true, false, ◌&&◌, List, [], ◌∷◌, arith}
use Rattle.std.proofs.Common.{leb, eqb}
use Rattle.lines.specs.Line.{choose, Raw}
use Rattle.lines.specs.Judging.{Judged, accepted, refused, judged_from}
use Rattle.lines.proofs.Judging.{refused_line}
use Rattle.terms.specs.Term.{Term}
use Rattle.places.specs.Place.{Place}
use Rattle.rules.specs.Track.{Pair}
use Rattle.rules.specs.Run.{node_room, arc_room, meeting_room}
use Rattle.graphs.specs.Graph.{Graph}
use Rattle.graphs.specs.Parsed.{Frame, opening, node, arc, meeting, last, wrong, ends_below, in_range}
use Rattle.graphs.specs.Parsed.{Due, a_node, an_arc, a_meeting, the_last, unless, refusal, first_refusal}
use Rattle.graphs.specs.Parsed.{Stage, at_start, due, number_met, track_lines}
use Rattle.graphs.specs.Shape.{shaped, judged}
use Rattle.graphs.specs.Refusal.{Refusal, no_line, out_of_place, out_of_range, misshapen}

-- a number that a line meets, and the line's
abbrev OfLine : ℕ → ℕ → Type 0
OfLine n k = (1 ≤ n) × (n ≤ 3) × (1 ≤ k)

line_refusal : (n k : ℕ) → OfLine n k → Refusal n k
line_refusal zero k (l, m, i) = absurd (omega arith)
line_refusal (suc zero) k (l, m, i) = no_line refl i
line_refusal (suc (suc zero)) k (l, m, i) = out_of_place refl i
line_refusal (suc (suc (suc zero))) k (l, m, i) = out_of_range refl i
line_refusal (suc (suc (suc (suc n)))) k (l, m, i) = absurd (omega arith)

-- what holds of every kind of frame holds of a frame
by_kind : (P : Frame → Type 0) → ((e n a s : ℕ) → P (opening e n a s)) → ((i : ℕ) (w : Place) → P (node i w))
    → ((a : Pair) → P (arc a)) → ((a : Pair) → P (meeting a)) → P last → P wrong → (f : Frame) → P f
by_kind P o n a m l x (opening e k b s) = o e k b s
by_kind P o n a m l x (node i w) = n i w
by_kind P o n a m l x (arc b) = a b
by_kind P o n a m l x (meeting b) = m b
by_kind P o n a m l x last = l
by_kind P o n a m l x wrong = x

-- no number is over 3
unless_few : (b : Bool) → unless b ≤ 3
unless_few true = omega arith
unless_few false = omega arith

two_few : ◌≤◌ 2 3
two_few = omega arith

refusal_few : (d n : ℕ) (x : Due) (f : Frame) → refusal d n x f ≤ 3
unfolding refusal
refusal_few d n a_node =
    by_kind _ (λ e k a s. two_few) (λ i w. unless_few (in_range d w)) (λ a. two_few) (λ a. two_few) two_few two_few
refusal_few d n an_arc =
    by_kind _ (λ e k a s. two_few) (λ i w. two_few) (λ a. unless_few (ends_below n a)) (λ a. two_few) two_few two_few
refusal_few d n a_meeting =
    by_kind _ (λ e k a s. two_few) (λ i w. two_few) (λ a. two_few) (λ a. unless_few (ends_below n a)) two_few two_few
refusal_few d n the_last =
    by_kind _ (λ e k a s. two_few) (λ i w. two_few) (λ a. two_few) (λ a. two_few) (omega arith) two_few

first_few : (f : Frame) → first_refusal f ≤ 3
unfolding first_refusal
first_few =
    by_kind _
    (λ e n a s. unless_few (eqb e 1 && (leb n node_room && (leb a arc_room && leb s meeting_room))))
    (λ i w. two_few) (λ a. two_few) (λ a. two_few) two_few two_few

number_few : (d : ℕ) (s : Stage) (bs : List ℕ) → number_met d s bs ≤ 3
unfolding number_met
number_few d at_start bs = first_few _
number_few d (due n [] g) bs = two_few
number_few d (due n (x ∷ xs) g) bs = refusal_few d n x _

-- lines are refused with 1, 2 or 3, and a line
pub parsed_refused : (d n k : ℕ) (ls : List Raw) → judged_from (track_lines d) at_start 1 ls ≡ refused n k
    → Refusal n k
parsed_refused d n k ls e =
    line_refusal n k (refused_line (track_lines d) 3 two_few (number_few d) n k at_start 1 ls e)

-- what is refused of a parsed text is refused in it, or is its shape
pub judged_refused : (ts : List Term) (r : Judged Graph) (n k : ℕ) → (r ≡ refused n k → Refusal n k)
    → judged ts r ≡ refused n k → Refusal n k
unfolding judged
judged_refused ts (accepted g) n k further e = go (shaped ts g) e
  where
    go : (b : Bool) → choose b (accepted g) (refused 13 0) ≡ refused n k → Refusal n k
    go true e = let z : ◌≡◌ {A = ℕ} 0 1 = cc in absurd (omega arith)
    go false e =
        let is : ◌≡◌ {A = ℕ} 13 n = cc in
        let at : ◌≡◌ {A = ℕ} 0 k = cc in
        misshapen (omega arith) (omega arith)
judged_refused ts (refused m j) n k further e = further e
