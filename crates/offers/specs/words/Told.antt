-- What the answers are of a control that the words of a run hold: its offers, and the plain rules' τ, by the account of
-- document 01 and of document 02's W2 in `Offers` of rules.
use Rattle.std.specs.Prelude.{ℕ, ◌≤◌, ◌≡◌, List, [], length}
use Rattle.sets.specs.EventSet.{member}
use Rattle.frames.specs.TableFrame.{path_room}
use Rattle.rules.specs.Process.{Process, main, cells}
use Rattle.rules.specs.Run.{cell_room}
use Rattle.rules.specs.Offers.{offers_τ, offers-✓, offers_event, plain_τ}
use Rattle.plans.specs.words.Plan.{Layout}
use Rattle.control.specs.words.Control.{Untouched, HoldsControl}
use Rattle.offering.specs.declared.Offered.{Offered}
use Rattle.offering.specs.code.Offering.{Offer}

-- what a control offers
abbrev pub offer_of : Process → Offer
offer_of P = record { tau = offers_τ P; plain = plain_τ P; tick = offers-✓ P; event = λ k. offers_event k P }

-- document 01, 'Room': 64 digits in the path of any literal
abbrev pub Low : Layout → Type 0
Low l = (i : ℕ) → length (l.place i).path ≤ path_room

-- the control P of a run at reference n: at the start a call of definition 00, and then what stands there, of
-- no more cells than there is room for
pub data Controls (l : Layout) (p x w : List ℕ) (n : ℕ) (P : Process) : Type 0 where
  starts : n ≡ 0 → P ≡ main → Controls l p x w n P
  stands : HoldsControl l p x w n 0 P [] → cells P ≤ cell_room → Controls l p x w n P

-- a part P of a run's control, at reference n up to bound b: a side that has not stepped, of term t, is at reference 0;
-- else it is what stands there, of no more cells than there is room for
pub data HoldsPart (l : Layout) (p x w : List ℕ) (n t b : ℕ) (P : Process) : Type 0 where
  waits : n ≡ 0 → Untouched l p x w t 0 P → HoldsPart l p x w n t b P
  stepped : HoldsControl l p x w n b P [] → cells P ≤ cell_room → HoldsPart l p x w n t b P

-- an answer that tells what a control offers
pub record TellsOffers (r : Offered) (P : Process) : Type 0 where
  pub tau_is : r.tau ≡ offers_τ P
  pub plain_is : r.plain ≡ plain_τ P
  pub tick_is : r.tick ≡ offers-✓ P
  pub events_are : (k : ℕ) → member k r.events ≡ offers_event k P
