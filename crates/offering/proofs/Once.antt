-- What an answer says settles it: its parts are told, and a set by its members. Assumes nothing.
use Rattle.std.proofs.Common.{ℕ, ◌≡◌, ap, Bool}
use Rattle.sets.proofs.Told.{same_members}
use Rattle.offering.specs.declared.Offered.{Offered}
use Rattle.offering.specs.code.Offering.{Offer, seen}

-- what is told allows one answer only
same_parts : (a b c d e f : Bool) (m n : ℕ) → a ≡ b → c ≡ d → e ≡ f → m ≡ n
    → ◌≡◌ {A = Offered} (record { tau = a; plain = c; tick = e; events = m })
    (record { tau = b; plain = d; tick = f; events = n })
same_parts a b c d e f m n p q r s = cc

pub offers_once : (r q : Offered) → seen r ≡ seen q → r ≡ q
offers_once r q h =
    same_parts r.tau q.tau r.plain q.plain r.tick q.tick r.events q.events
    (ap (λ (o : Offer). o.tau) h)
    (ap (λ (o : Offer). o.plain) h)
    (ap (λ (o : Offer). o.tick) h)
    (same_members r.events q.events (λ k. ap (λ (o : Offer). o.event k) h))
