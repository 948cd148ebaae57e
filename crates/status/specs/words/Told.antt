-- What the answer is of a control that the words of a run hold: its status, by document 02's account in `Offers` of
-- rules, under any count of events that covers what it offers: a search through so many finds an event where there is one.
use Rattle.std.specs.Prelude.{ℕ, ◌≤◌, ◌<◌, ◌≡◌, true, List}
use Rattle.frames.specs.TableFrame.{event_room}
use Rattle.rules.specs.declared.Status.{Status}
use Rattle.rules.specs.Process.{Process}
use Rattle.rules.specs.Offers.{offers_event, status}
use Rattle.plans.specs.words.Plan.{Layout}
use Rattle.offers.specs.words.Told.{Low, Controls}

-- a count of events that a table may have, which covers what a control offers
pub record Covers (e : ℕ) (P : Process) : Type 0 where
  pub in_room : e ≤ event_room
  pub all_below : (k : ℕ) → offers_event k P ≡ true → k < e

-- an answer that tells the status of the control at reference n
abbrev pub TellsStatus : List ℕ → List ℕ → List ℕ → ℕ → Status → Type 0
TellsStatus p x w n r =
    (l : Layout) (P : Process) (e : ℕ) → Low l → Controls l p x w n P → Covers e P → r ≡ status e P
