-- The steps that look no further down, whatever the words hold: what they come to, and the words after them.
use Rattle.std.specs.Prelude.{ℕ, ◌+◌, ◌-◌, ◌%◌, List, eqb}
use Rattle.lines.specs.Line.{choose}
use Rattle.kinds.specs.Kind as Kind
use Rattle.plans.specs.words.Plan.{kind, operand, second, around}
use Rattle.marks.specs.words.Mark.{own_mark, event_mark, start_mark}
use Rattle.control.specs.words.Words.{node}
use Rattle.control.specs.words.Control.{term, frame, resting, at_end, dead, beyond}
use Rattle.rules.specs.declared.Event.{Event}
use Rattle.rules.specs.declared.Event.TheVariants.{Tau, Tick, Visible}
use Rattle.control.specs.words.Sums.{capped}
use Rattle.looking.specs.code.Looking.{taken}
use Rattle.drawing.specs.code.Drawing.{one_node, one_arc, one_met, drawn, labelled, standing, with_arc}
use Rattle.drawing.specs.code.Drawing.{with_met, joined}
use Rattle.drawing.specs.declared.Tally.{Tally}
use Rattle.leaves.specs.declared.Taken.{Taken}

-- what a step comes to, with the words after it
pub record Done : Type 0 where
  pub taken : Taken
  pub nodes : List ℕ
  pub track : List ℕ

abbrev pub with_words : Taken → List ℕ → List ℕ → Done
with_words d w g = record { taken = d; nodes = w; track = g }

abbrev pub come : Event → ℕ → ℕ → ℕ → Tally → Taken
come e n size at k = record { event = e; reference = n; size = size; at = at; tally = k }

-- reference n is labelled, and gets an arc to a fresh one
unfoldable pub on : Tally → Tally
on k = drawn (one_arc (one_node k))

-- a sequence starts its right
unfoldable pub started : List ℕ → Taken → ℕ → ℕ → List ℕ → List ℕ → Done
started p d k f w g = with_words
    (come Tau d.tally.fresh (d.size - 1) d.at (on d.tally))
    (standing d.tally.fresh resting (second p k) f (labelled d.reference (own_mark k) w))
    (with_arc d.reference d.tally.fresh d.tally.arcs g)

-- a ✓ inside sequences
unfoldable pub ends : List ℕ → Taken → ℕ → ℕ → ℕ → List ℕ → List ℕ → Done
ends p d t f b w g =
    choose (eqb (around p t) 0)
    (choose (eqb f b) (with_words d w g) (started p d (around p (term w f) - 1) (frame w f) w g))
    (started p d (around p t - 1) f w g)

unfoldable pub by_event : Event → List ℕ → Taken → ℕ → ℕ → ℕ → List ℕ → List ℕ → Done
by_event Tau p d t f b w g = with_words d w g
by_event (Visible e) p d t f b w g = with_words d w g
by_event Tick p d t f b w g = ends p d t f b w g

-- what a step comes to inside the sequences around term t
unfoldable pub settled : List ℕ → Taken → ℕ → ℕ → ℕ → List ℕ → List ℕ → Done
settled p d t f b w g = by_event d.event p d t f b w g

-- a prefix: its event's node, and then its arrow's
unfoldable pub prefix : ℕ → ℕ → ℕ → ℕ → ℕ → ℕ → Tally → List ℕ → List ℕ → Done
prefix n t f e at size k w g = with_words
    (come (Visible (e % 256)) (on k).fresh size at (one_met (on (on k))))
    (standing (on k).fresh resting (capped (t + 1)) f
    (labelled k.fresh (own_mark t) (labelled n (event_mark t) w)))
    (with_met n (on (on k)).met
    (with_arc k.fresh (on k).fresh (on k).arcs (with_arc n k.fresh k.arcs g)))

-- a step that labels once and draws once, with what stands there then
unfoldable pub single : Event → ℕ → ℕ → ℕ → ℕ → ℕ → ℕ → ℕ → Tally → List ℕ → List ℕ → Done
single e n state t u f at size k w g = with_words
    (come e k.fresh size at (on k))
    (standing k.fresh state u f (labelled n (own_mark t) w))
    (with_arc n k.fresh k.arcs g)

unfoldable pub after_settling : List ℕ → ℕ → ℕ → ℕ → Done → Done
after_settling p t f b d = settled p d.taken t f b d.nodes d.track

unfoldable pub leaf : List ℕ → ℕ → ℕ → ℕ → ℕ → ℕ → Tally → List ℕ → List ℕ → Done
leaf p n b at size d k w g =
    choose (eqb (kind p (term w n)) Kind.prefix)
    (prefix n (term w n) (frame w n) (operand p (term w n)) at size k w g)
    (choose (eqb (kind p (term w n)) Kind.SKIP)
    (after_settling p (term w n) (frame w n) b (single Tick n at_end (term w n) 0 0 at size k w g))
    (choose (eqb (kind p (term w n)) Kind.STOP)
    (single Tau n dead (term w n) (term w n) (frame w n) at size k w g)
    (choose (eqb (kind p (term w n)) Kind.call)
    (single Tau n resting (term w n) (operand p (term w n)) (beyond p (term w n) n (frame w n)) at size k w g)
    (single Tau n resting (term w n) (taken d (capped (term w n + 1)) (second p (term w n))) (frame w n)
    (capped (at + 1)) size k w g))))

-- two ended sides end their parallel
unfoldable pub end : List ℕ → ℕ → ℕ → ℕ → ℕ → Tally → List ℕ → List ℕ → Done
end p n b at size k w g =
    settled p
    (come Tick k.fresh (size - 2) (capped (at + 1))
    (drawn (joined (node 4 w n) (node 5 w n) k.fresh 0 k.arcs k g).tally))
    (term (standing k.fresh at_end 0 0 w) n) (frame (standing k.fresh at_end 0 0 w) n) b
    (standing k.fresh at_end 0 0 w)
    (joined (node 4 w n) (node 5 w n) k.fresh 0 k.arcs k g).track

-- the start's call: reference 0 is labelled with the left-hand side of definition 00, whose root is term 0
unfoldable pub called : Tally → List ℕ → List ℕ → Done
called k w g = with_words
    (come Tau k.fresh 1 0 (on k))
    (standing k.fresh resting 0 0 (labelled 0 start_mark w))
    (with_arc 0 k.fresh k.arcs g)
