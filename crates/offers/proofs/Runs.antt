-- What is told of a run is what document 01 says of its control: its offers by what is told at its reference, at
-- the start by the call, and whether it has ended; and of a part of its control by what is told at the part's. Assumes nothing.
use Rattle.std.proofs.Common.{ℕ, ◌-◌, ◌≡◌, refl, ap, sym, ◌∙◌, List, [], arith, ne_eqb}
use Rattle.rules.specs.Process.{Process}
use Rattle.rules.specs.Run.{cell_room}
use Rattle.rules.specs.Step.{at_Ω}
use Rattle.rules.specs.Offers.{leaf_offers, offers_τ, offers-✓, offers_event, plain_τ}
use Rattle.plans.specs.words.Plan.{Layout}
use Rattle.offering.specs.declared.Offered.{Offered}
use Rattle.offering.specs.code.Offering.{Offer, seen, settled}
use Rattle.offers.specs.code.Following.{ended, at, offered}
use Rattle.offers.specs.words.Told.{offer_of, Low, Controls, starts, stands, HoldsPart, waits, stepped}
use Rattle.offers.specs.words.Told.{TellsOffers}
use Rattle.offers.proofs.Returns.{ended_not, at_side}
use Rattle.offers.proofs.Standing.{nested, beyond_bound, ended_told, untouched_offers, offers_told}

-- an answer that says what a control offers tells its offers
offers_tell : (P : Process) (r : Offered) → seen r ≡ offer_of P → TellsOffers r P
offers_tell P r same = record {
  tau_is = ap (λ (o : Offer). o.tau) same;
  plain_is = ap (λ (o : Offer). o.plain) same;
  tick_is = ap (λ (o : Offer). o.tick) same;
  events_are = λ k. ap (λ (o : Offer). o.event k) same;
}

module _ (l : Layout) (p x w : List ℕ) (low : Low l) where
  -- a run's control has its offers, and its end
  pub run_offers : (n : ℕ) (P : Process) → Controls l p x w n P → offered p x w n ≡ offer_of P
  unfolding offered leaf_offers offers_τ offers-✓ offers_event plain_τ nested settled
  run_offers n P (starts z e) = rw (z, e)
  run_offers n P (stands h m) =
      let above = beyond_bound l p x w P n 0 [] h in
      rw (ne_eqb n 0 (λ z. omega arith)) (offers_told l p x w low P n 0 0 cell_room cell_room [] h m (omega arith))

  pub run_ended : (n : ℕ) (P : Process) → Controls l p x w n P → ended w n ≡ at_Ω P
  unfolding at_Ω
  run_ended n P (starts z e) = sym (ended_not w n z) ∙ rw e
  run_ended n P (stands h m) = ended_told l p x w P n 0 [] h

  pub run_tells : (n : ℕ) (P : Process) (r : Offered) → seen r ≡ offered p x w n → Controls l p x w n P
      → TellsOffers r P
  run_tells n P r told c = offers_tell P r (told ∙ run_offers n P c)

  -- a part of a control has its offers
  pub part_offers : (n t b : ℕ) (P : Process) → HoldsPart l p x w n t b P
      → at cell_room p x w cell_room n t b ≡ offer_of P
  unfolding nested settled
  part_offers n t b P (waits z h) =
      sym (at_side p x w cell_room n t b cell_room (cell_room - 1) refl (λ e. omega arith) (offer_of P) z
      (sym (untouched_offers l p x w low t 0 P h)))
  part_offers n t b P (stepped h m) =
      offers_told l p x w low P n t b cell_room cell_room [] h m (omega arith)

  pub part_tells : (n t b : ℕ) (P : Process) (r : Offered) → seen r ≡ at cell_room p x w cell_room n t b
      → HoldsPart l p x w n t b P → TellsOffers r P
  part_tells n t b P r told h = offers_tell P r (told ∙ part_offers n t b P h)
