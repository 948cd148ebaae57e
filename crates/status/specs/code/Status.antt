-- The status of a run, by whether it is at Ω and what following its control downward tells of its offers, STOP's own step
-- apart, whatever the words hold.
use Rattle.std.specs.Prelude.{ℕ, zero, suc, Bool, false, ◌||◌, List}
use Rattle.lines.specs.Line.{choose}
use Rattle.frames.specs.TableFrame.{event_room}
use Rattle.rules.specs.declared.Status.{Status}
use Rattle.rules.specs.declared.Status.TheVariants.{Live, Ended, Stuck}
use Rattle.offering.specs.code.Offering.{Offer}
use Rattle.offers.specs.code.Following.{ended, offered}

-- one of the first n events passes a test
unfoldable pub some_of : ℕ → (ℕ → Bool) → Bool
some_of zero test = false
some_of (suc n) test = test n || some_of n test

-- the status of what is at Ω or not, and offers
unfoldable pub standing : Bool → Offer → Status
standing b o = choose b Ended (choose (o.plain || (o.tick || some_of event_room o.event)) Live Stuck)

unfoldable pub status : List ℕ → List ℕ → List ℕ → ℕ → Status
status p x w n = standing (ended w n) (offered p x w n)
