-- Offers and status. Document 01, 'Steps and addresses': the events that a control has derivations for, by
-- following the term downward. Document 02, W2: ended at Ω, stuck when the plain rules give the stripped control
-- no step and it is not Ω, else live. Events and status are the enums that src/ declares, events by the report's
-- signs.
use Rattle.std.specs.Prelude.{ℕ, zero, suc, Bool, true, false, ◌&&◌, ◌||◌, eqb}
use Rattle.lines.specs.Line.{choose}
use Rattle.terms.specs.Term.{Leaf, call, SKIP, STOP}
use Rattle.rules.specs.declared.Event.{Event}
use Rattle.rules.specs.declared.Event.TheVariants.{Tau as τ, Tick as ✓, Visible as visible}
use Rattle.rules.specs.Process.{choice, together, Process, leaf, prefix, internal, split, sequence, Ω}
use Rattle.rules.specs.Process.{⊥'}
use Rattle.sets.specs.EventSet.{member}
use Rattle.rules.specs.Step.{at_Ω}
use Rattle.rules.specs.declared.Status.{Status}
use Rattle.rules.specs.declared.Status.TheVariants.{Live as live, Ended as ended, Stuck as stuck}

-- what a leaf offers; STOP's own step is a τ
unfoldable pub leaf_offers : Leaf → Event → Bool
leaf_offers (call n) τ = true
leaf_offers (call n) ✓ = false
leaf_offers (call n) (visible k) = false
leaf_offers SKIP τ = false
leaf_offers SKIP ✓ = true
leaf_offers SKIP (visible k) = false
leaf_offers STOP τ = true
leaf_offers STOP ✓ = false
leaf_offers STOP (visible k) = false

-- ✓ is offered
unfoldable pub offers-✓ : Process → Bool
offers-✓ (leaf w l) = leaf_offers l ✓
offers-✓ (prefix w e P) = false
offers-✓ (internal w P Q) = false
offers-✓ (split w choice m n P Q) = offers-✓ P || offers-✓ Q
offers-✓ (split w (together x) m n P Q) = at_Ω P && at_Ω Q
offers-✓ (sequence w b P Q) = false
offers-✓ Ω = false
offers-✓ ⊥' = false

-- τ is offered: a sequence and a parallel show a side's ✓ as τ
unfoldable pub offers_τ : Process → Bool
offers_τ (leaf w l) = leaf_offers l τ
offers_τ (prefix w e P) = false
offers_τ (internal w P Q) = true
offers_τ (split w choice m n P Q) = offers_τ P || offers_τ Q
offers_τ (split w (together x) m n P Q) = (offers_τ P || offers-✓ P) || (offers_τ Q || offers-✓ Q)
offers_τ (sequence w b P Q) = offers_τ P || offers-✓ P
offers_τ Ω = false
offers_τ ⊥' = false

-- event k is offered: for a parallel, of either side outside its set, and of both inside
unfoldable pub offers_event : ℕ → Process → Bool
offers_event k (leaf w l) = leaf_offers l (visible k)
offers_event k (prefix w e P) = eqb k e
offers_event k (internal w P Q) = false
offers_event k (split w choice m n P Q) = offers_event k P || offers_event k Q
offers_event k (split w (together x) m n P Q) =
    choose (member k x) (offers_event k P && offers_event k Q) (offers_event k P || offers_event k Q)
offers_event k (sequence w b P Q) = offers_event k P
offers_event k Ω = false
offers_event k ⊥' = false

unfoldable pub offers : Process → Event → Bool
offers P τ = offers_τ P
offers P ✓ = offers-✓ P
offers P (visible k) = offers_event k P

-- one of the first n events is offered
unfoldable pub offers_some : ℕ → Process → Bool
offers_some zero P = false
offers_some (suc n) P = offers_event n P || offers_some n P

-- the plain rules have a τ of the stripped control: as offered, but that STOP has no step there, and ⊥ strips to STOP
unfoldable pub plain_τ : Process → Bool
plain_τ (leaf w (call n)) = true
plain_τ (leaf w SKIP) = false
plain_τ (leaf w STOP) = false
plain_τ (prefix w e P) = false
plain_τ (internal w P Q) = true
plain_τ (split w choice m n P Q) = plain_τ P || plain_τ Q
plain_τ (split w (together x) m n P Q) = (plain_τ P || offers-✓ P) || (plain_τ Q || offers-✓ Q)
plain_τ (sequence w b P Q) = plain_τ P || offers-✓ P
plain_τ Ω = false
plain_τ ⊥' = false

-- the plain rules have a step of the stripped control, under a table of n events: ✓ and events are theirs as offered
unfoldable pub moves : ℕ → Process → Bool
moves n P = plain_τ P || (offers-✓ P || offers_some n P)

-- the status of a control under a table of n events
unfoldable pub status : ℕ → Process → Status
status n P = choose (at_Ω P) ended (choose (moves n P) live stuck)
