-- What the answers are of a part that the words of a run hold: what stands there, by its place, and its sides, which
-- the words hold in turn.
use Rattle.std.specs.Prelude.{ℕ, ◌≤◌, ◌≡◌, List, []}
use Rattle.std.proofs.Math.Option.{Option, none, some}
use Rattle.places.specs.Place.{Place}
use Rattle.rules.specs.Process.{Process, leaf, prefix, internal, split, sequence, Ω, ⊥', cells}
use Rattle.rules.specs.Run.{cell_room}
use Rattle.plans.specs.words.Plan.{Layout}
use Rattle.control.specs.words.Control.{HoldsControl}
use Rattle.offers.specs.words.Told as Told
use Rattle.parts.specs.Parts.{standing, entered}
use Rattle.parts.specs.declared.Part.{Part}
use Rattle.parts.specs.declared.Sides.{Sides}
use Rattle.parts.specs.declared.Standing.{Standing}
use Rattle.parts.specs.declared.Standing.TheVariants.{Term, Split, Ended, Dead}

-- a part that the words hold
abbrev pub Holds : Layout → List ℕ → List ℕ → List ℕ → Part → Process → Type 0
Holds l p x w a P = Told.HoldsPart l p x w a.reference a.term a.bound P

-- the reference of a side, 0 where it has not stepped
unfoldable pub side_reference : Option ℕ → ℕ
side_reference none = 0
side_reference (some n) = n

-- a term without sides that stands at a place
abbrev pub TellsTerm : Layout → Standing → Place → Type 0
TellsTerm l r v = (t : ℕ) × (r ≡ Term t) × (l.place t ≡ v)

-- an answer that tells what stands there: a term by its place, of a choice or parallel also whether a step has entered it
abbrev pub TellsStanding : Layout → Standing → Process → Type 0
TellsStanding l r (leaf v f) = TellsTerm l r v
TellsStanding l r (prefix v e P) = TellsTerm l r v
TellsStanding l r (internal v P Q) = TellsTerm l r v
TellsStanding l r (split v k i j P Q) = (t : ℕ) × (r ≡ Split t (entered i j)) × (l.place t ≡ v)
TellsStanding l r (sequence v b P Q) = ⊥
TellsStanding l r Ω = r ≡ Ended
TellsStanding l r ⊥' = r ≡ Dead

-- a part that is a side with a reference or none
abbrev pub IsSide : Layout → List ℕ → List ℕ → List ℕ → Part → Option ℕ → Process → Type 0
IsSide l p x w a i P = (a.reference ≡ side_reference i) × Holds l p x w a P

-- an answer that tells the sides of what stands there; of what has none it says nothing
abbrev pub TellsSides : Layout → List ℕ → List ℕ → List ℕ → Sides → Process → Type 0
TellsSides l p x w r (leaf v f) = Unit {0}
TellsSides l p x w r (prefix v e P) = Unit {0}
TellsSides l p x w r (internal v P Q) = Unit {0}
TellsSides l p x w r (split v k i j P Q) = IsSide l p x w r.first i P × IsSide l p x w r.second j Q
TellsSides l p x w r (sequence v b P Q) = Unit {0}
TellsSides l p x w r Ω = Unit {0}
TellsSides l p x w r ⊥' = Unit {0}

-- the promises: the whole control of a run is a part
abbrev pub HoldsWhole : ℕ → Part → Type 0
HoldsWhole n r =
    (l : Layout) (p x w : List ℕ) (P : Process) → HoldsControl l p x w n 0 P [] → cells P ≤ cell_room
    → Holds l p x w r P

-- what stands in a part is told, and so are its sides
abbrev pub StandingTold : List ℕ → List ℕ → Part → Standing → Type 0
StandingTold p w a r =
    (l : Layout) (x : List ℕ) (P : Process) → Told.Low l → Holds l p x w a P → TellsStanding l r (standing P)

abbrev pub SidesTold : List ℕ → List ℕ → Part → Sides → Type 0
SidesTold p w a r =
    (l : Layout) (x : List ℕ) (P : Process) → Told.Low l → Holds l p x w a P → TellsSides l p x w r (standing P)
