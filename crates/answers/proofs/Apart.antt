-- A number tells one answer: events among events, statuses among statuses, refusals among refusals, and no event is told as a
-- refusal. By cases; a visible event and a refusal add their own number to a constant. Assumes nothing.
use Rattle.std.proofs.Common.{ℕ, ◌+◌, ◌<◌, ◌≡◌, refl, ap, arith}
use Rattle.rules.specs.declared.Event.{Event}
use Rattle.rules.specs.declared.Event.TheVariants.{Tau as τ, Tick as ✓, Visible as visible}
use Rattle.rules.specs.declared.Status.{Status}
use Rattle.rules.specs.declared.Status.TheVariants.{Live as live, Ended as ended, Stuck as stuck}
use Rattle.answers.specs.Numbers.{of_event, of_status, of_refusal}

pub event_once : (a b : Event) → of_event a ≡ of_event b → a ≡ b
unfolding of_event
event_once τ τ h = refl
event_once τ ✓ h = absurd (omega arith)
event_once τ (visible e) h = absurd (omega arith)
event_once ✓ τ h = absurd (omega arith)
event_once ✓ ✓ h = refl
event_once ✓ (visible e) h = absurd (omega arith)
event_once (visible e) τ h = absurd (omega arith)
event_once (visible e) ✓ h = absurd (omega arith)
event_once (visible e) (visible f) h = let same : e ≡ f = omega arith in ap visible same

pub status_once : (a b : Status) → of_status a ≡ of_status b → a ≡ b
unfolding of_status
status_once live live h = refl
status_once live ended h = absurd (omega arith)
status_once live stuck h = absurd (omega arith)
status_once ended live h = absurd (omega arith)
status_once ended ended h = refl
status_once ended stuck h = absurd (omega arith)
status_once stuck live h = absurd (omega arith)
status_once stuck ended h = absurd (omega arith)
status_once stuck stuck h = refl

pub refusal_once : (m n : ℕ) → of_refusal m ≡ of_refusal n → m ≡ n
unfolding of_refusal
refusal_once m n h = omega arith

-- an event's byte is below 256
pub event_is_no_refusal : (a : Event) → of_event a < 2 + 256 → (n : ℕ) → of_event a ≡ of_refusal n → ⊥
unfolding of_refusal
event_is_no_refusal a small n h = omega arith
