-- The mission, demand 2: the derivations of Fig. 7 that addresses name, from where a run stands. Document 02, W2: that the plain
-- rules have a step. Document 01, 'Steps and addresses': the step that every run begins with.
use Rattle.std.specs.Prelude.{ℕ, ◌<◌, List}
use Rattle.terms.specs.Term.{Term}
use Rattle.places.specs.Place.{left_path}
use Rattle.rules.specs.declared.Event.{Event}
use Rattle.rules.specs.declared.Event.TheVariants.{Tau as τ}
use Rattle.rules.specs.Process.{Address, Process, leaf, prefix, internal, split, sequence, Ω, ⊥', rhs}
use Rattle.rules.specs.Track.{Outcome, labelled}
use Rattle.rules.specs.Tracking.{Tracks}
use Rattle.rules.specs.Plain.{Plain, Steps}
use Rattle.rules.specs.Run.{State, start, stands}

-- a derivation that an address names, from where a run stands
abbrev pub Named : List Term → State → Address → Outcome → Type 0
Named ts s a r = Tracks ts a s.process (stands s) r

-- the plain rules have a step of a process
abbrev pub Moves : List Term → Plain → Type 0
Moves ts p = (e : Event) × (q : Plain) × Steps ts p e q

-- every event of a control is below n
abbrev pub Among : ℕ → Process → Type 0
Among n (leaf w l) = Unit {0}
Among n (prefix w e P) = (e < n) × Among n P
Among n (internal w P Q) = Among n P × Among n Q
Among n (split w s i j P Q) = Among n P × Among n Q
Among n (sequence w b P Q) = Among n P × Among n Q
Among n Ω = Unit {0}
Among n ⊥' = Unit {0}

-- the first step of every run: the call of definition 00, at its left-hand side
abbrev pub first_step : List Term → Outcome
first_step ts = labelled τ (rhs ts 0) (record { definition = 0; path = left_path }) (stands start)
