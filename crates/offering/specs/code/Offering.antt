-- What is offered, whatever is handed in: by a kind alone, by two sides together, and where a sequence is around.
use Rattle.std.specs.Prelude.{ℕ, ◌%◌, Bool, true, false, ◌&&◌, ◌||◌, ltb, eqb}
use Rattle.lines.specs.Line.{choose}
use Rattle.sets.specs.EventSet.{member}
use Rattle.frames.specs.TableFrame.{event_room}
use Rattle.kinds.specs.Kind as Kind
use Rattle.offering.specs.declared.Offered.{Offered}

-- what is offered: whether τ is, and by the plain rules, whether ✓ is, and whether each event is
pub record Offer : Type 0 where
  pub tau : Bool
  pub plain : Bool
  pub tick : Bool
  pub event : ℕ → Bool

-- what an answer says
abbrev pub seen : Offered → Offer
seen r = record { tau = r.tau; plain = r.plain; tick = r.tick; event = λ k. member k r.events }

-- no visible event, and no STOP
abbrev pub unseen : Bool → Bool → Offer
unseen a b = record { tau = a; plain = a; tick = b; event = λ k. false }

-- STOP's own step
abbrev pub stopping : Offer
stopping = record { tau = true; plain = false; tick = false; event = λ k. false }

-- one event
abbrev pub one_event : ℕ → Offer
one_event e = record { tau = false; plain = false; tick = false; event = λ k. ltb e event_room && eqb k e }

-- by its own kind and operand, a prefix offers its event, SKIP ✓, and a call, STOP and an internal choice τ, STOP's
-- not by the plain rules
unfoldable pub own : ℕ → ℕ → Offer
own k e =
    choose (eqb k Kind.prefix) (one_event (e % 256))
    (choose (eqb k Kind.SKIP) (unseen false true)
    (choose (eqb k Kind.STOP) stopping (unseen true false)))

-- ✓ told as τ, where a sequence is around
unfoldable pub settled : Bool → Offer → Offer
settled true o = record {
  tau = o.tau || o.tick;
  plain = o.plain || o.tick;
  tick = false;
  event = o.event;
}
settled false o = o

-- what two sides offer: a choice what either does; a parallel with set x the events that x lets pass, τ for a
-- side's τ or ✓, and ✓ where both have ended
abbrev pub chosen : Offer → Offer → Offer
chosen l r = record {
  tau = l.tau || r.tau;
  plain = l.plain || r.plain;
  tick = l.tick || r.tick;
  event = λ k. l.event k || r.event k;
}

abbrev pub side_by_side : ℕ → Bool → Offer → Offer → Offer
side_by_side x both l r = record {
  tau = (l.tau || l.tick) || (r.tau || r.tick);
  plain = (l.plain || l.tick) || (r.plain || r.tick);
  tick = both;
  event = λ k. choose (member k x) (l.event k && r.event k) (l.event k || r.event k);
}

unfoldable pub combined : ℕ → ℕ → Bool → Offer → Offer → Offer
combined k x both l r = choose (eqb k Kind.parallel) (side_by_side x both l r) (chosen l r)
