-- What each rule makes of the weights of its premises. Counts stop at 65,535.
use Rattle.std.specs.Prelude.{ℕ, ◌+◌, ◌*◌, ◌-◌, ◌%◌, Bool, true, false, ◌&&◌, eqb, leb, Option, Some, None}
use Rattle.lines.specs.Line.{choose}
use Rattle.kinds.specs.Kind as Kind
use Rattle.sets.specs.EventSet.{member}
use Rattle.rules.specs.declared.Event.{Event}
use Rattle.rules.specs.declared.Event.TheVariants.{Tau, Tick, Visible}
use Rattle.control.specs.words.Sums.{capped}
use Rattle.weights.specs.declared.Weight.{Weight}

-- a derivation's weight, where there is one
abbrev pub Weighed : Type 0
Weighed = Option Weight

-- a step that labels and draws as often as it says
unfoldable pub step : Event → ℕ → ℕ → ℕ → ℕ → Weighed
step e at size count met = Some (record {
  event = e;
  at = at;
  size = size;
  nodes = count;
  arcs = count;
  meetings = 0;
  met = met;
})

-- a ✓ starts a sequence's right, and shows as τ
unfoldable pub started : Event → Weight → Weighed
started Tau w = Some w
started (Visible e) w = Some w
started Tick w = Some (record {
  event = Tau;
  at = w.at;
  size = w.size - 1;
  nodes = capped (w.nodes + 1);
  arcs = capped (w.arcs + 1);
  meetings = w.meetings;
  met = 0;
})

-- where a sequence is around
unfoldable pub settled : Weighed → Bool → Weighed
settled None within = None
settled (Some w) within = choose within (started w.event w) (Some w)

-- call, prefix, internal choice, SKIP and STOP
unfoldable pub by_leaf : ℕ → ℕ → ℕ → Bool → ℕ → ℕ → Weighed
by_leaf k operand d within at size =
    choose (eqb k Kind.prefix) (step (Visible (operand % 256)) at size 2 1)
    (choose (eqb k Kind.SKIP) (settled (step Tick at size 1 0) within)
    (choose (eqb k Kind.call) (step Tau at size 1 0)
    (choose (eqb k Kind.STOP) (step Tau at size 1 0)
    (choose (eqb k Kind.internal && (leb 1 d && leb d 2)) (step Tau (capped (at + 1)) size 1 0) None))))

-- a side that is entered: so many labels, and an arc
unfoldable pub entering : Weighed → ℕ → Weighed
entering None n = None
entering (Some w) n = Some (record {
  event = w.event;
  at = w.at;
  size = w.size;
  nodes = capped (w.nodes + n);
  arcs = capped (w.arcs + 1);
  meetings = w.meetings;
  met = w.met;
})

-- where the digits of a derivation end; behind all of them where there is none
unfoldable pub end_of : Weighed → ℕ → ℕ
end_of (Some w) count = w.at
end_of None count = count

-- a parallel lets no event of its set through that only one side does
unfoldable pub barred : ℕ → ℕ → Event → Bool
barred k x Tau = false
barred k x Tick = false
barred k x (Visible e) = eqb k Kind.parallel && member e x

-- a parallel stays whatever its side shows, a choice on τ
unfoldable pub stays : ℕ → Event → Bool
stays k Tau = true
stays k Tick = eqb k Kind.parallel
stays k (Visible e) = eqb k Kind.parallel

-- a side's ✓ shows as τ through a parallel
unfoldable pub shown : ℕ → Event → Event
shown k Tau = Tau
shown k Tick = choose (eqb k Kind.parallel) Tau Tick
shown k (Visible e) = Visible e

unfoldable pub resized : Event → ℕ → Weight → Weight
resized e size w = record {
  event = e;
  at = w.at;
  size = size;
  nodes = w.nodes;
  arcs = w.arcs;
  meetings = w.meetings;
  met = w.met;
}

-- a split's rules for one side's step
unfoldable pub one : ℕ → ℕ → Weighed → ℕ → ℕ → ℕ → Bool → Weighed
one k x None size own other within = None
one k x (Some w) size own other within =
    choose (barred k x w.event) None
    (choose (stays k w.event) (Some (resized (shown k w.event) (capped (size - own + w.size)) w))
    (settled (Some (resized w.event (capped (size - own - other - 1 + w.size)) w)) within))

-- both sides do the same event of the set
unfoldable pub agree : ℕ → ℕ → Event → Event → Bool
agree k x Tau f = false
agree k x Tick f = false
agree k x (Visible a) Tau = false
agree k x (Visible a) Tick = false
agree k x (Visible a) (Visible b) = eqb k Kind.parallel && (eqb a b && member a x)

-- a parallel's rule for a joint step
unfoldable pub both : ℕ → ℕ → Weighed → Weighed → ℕ → ℕ → ℕ → Weighed
both k x None r size own other = None
both k x (Some l) None size own other = None
both k x (Some l) (Some r) size own other =
    choose (agree k x l.event r.event)
    (Some (record {
      event = l.event;
      at = r.at;
      size = capped (capped (size - own - other + l.size) + r.size);
      nodes = capped (l.nodes + r.nodes);
      arcs = capped (l.arcs + r.arcs);
      meetings = capped (capped (l.meetings + r.meetings) + capped (l.met * r.met));
      met = capped (l.met + r.met);
    }))
    None

-- a parallel's rule for two sides that have ended
unfoldable pub ended : ℕ → ℕ → ℕ → Bool → Weighed
ended at size parents within = settled
    (Some (record {
      event = Tick;
      at = capped (at + 1);
      size = size - 2;
      nodes = 0;
      arcs = parents;
      meetings = 0;
      met = 0;
    }))
    within
