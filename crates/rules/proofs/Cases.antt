-- Document 01's runs A to H and K, and what document 02's W2 says of a status, played by computation: events, status,
-- how many nodes, saved arcs, arcs made and meetings the track has, the place of reference 2, which C speaks of, and
-- the refusal. One statement for all. Assumes nothing.
use Rattle.std.proofs.Common.{ℕ, suc, ◌≡◌, refl, Bool, false, ◌&&◌, ◌||◌, List, [], ◌∷◌, ◌++◌, length, eqb}
use Rattle.std.proofs.Math.Option.{Option, none, some}
use Rattle.lines.specs.Line.{choose}
use Rattle.terms.specs.Term.{call, SKIP, STOP, external, sequence, parallel, Term, leaf, prefix, binary}
use Rattle.places.specs.Place.{Place}
use Rattle.rules.specs.declared.Event.{Event}
use Rattle.rules.specs.declared.Event.TheVariants.{Tau as τ, Tick as ✓, Visible as visible}
use Rattle.rules.specs.Process.{one, two, three, four, Address, joined, untouched, right_side, cells}
use Rattle.rules.specs.Track.{Label, lookup, Pair, labelled, prefixed, first_eval, around, each_with, meet}
use Rattle.rules.specs.Track.{jointly, carried, started, leads, parents, ended}
use Rattle.sets.specs.EventSet.{member}
use Rattle.rules.specs.Step.{one_side, by_side, same, both_sides, with_right, in_sequence, by_left}
use Rattle.rules.specs.Step.{at_Ω, then, step}
use Rattle.rules.specs.Run.{State, start, after, over_room, Answer, accepted, refused, within_room}
use Rattle.rules.specs.Run.{whole, answered, answer}
use Rattle.rules.specs.declared.Status.{Status}
use Rattle.rules.specs.declared.Status.TheVariants.{Live as live, Ended, Stuck as stuck}
use Rattle.rules.specs.Offers.{leaf_offers, offers-✓, offers_event, offers_some, plain_τ, moves, status}

-- a label of a reference
labels_it : List Label → ℕ → Bool
labels_it [] n = false
labels_it (l ∷ ls) n = eqb l.reference n || labels_it ls n

-- the arcs whose two ends are labelled
saved : List Label → List Pair → ℕ
saved ls [] = 0
saved ls (a ∷ more) =
    choose (labels_it ls a.from && labels_it ls a.to) (suc (saved ls more)) (saved ls more)

-- a run as far as it is accepted: its events, the refusal that ends it, 0 where none does, and the state behind
-- the accepted steps
pub record Ran : Type 0 where
  pub events : List Event
  pub refusal : ℕ
  pub state : State

-- a run by some addresses, up to the first that is refused
unfoldable pub play : List Term → List Event → State → List Address → Ran
play ts es s [] = record { events = es; refusal = 0; state = s }
play ts es s (a ∷ more) = go (answer ts s a) (λ e t. play ts (es ++ (e ∷ [])) t more)
  where
    go : Answer → (Event → State → Ran) → Ran
    go (refused r) on = record { events = es; refusal = r; state = s }
    go (accepted e t) on = on e t

-- a run from the start, whose first step is the call
unfoldable pub ran : List Term → List Address → Ran
ran ts addresses = play ts [] start ([] ∷ addresses)

-- what is told of a run that has been played
pub record Told : Type 0 where
  pub events : List Event
  pub status : Status
  pub nodes : ℕ
  pub arcs : ℕ
  pub made : ℕ
  pub meetings : ℕ
  pub second : Option Place
  pub refusal : ℕ

tell : ℕ → Ran → Told
tell n r = record {
  events = r.events;
  status = status n r.state.process;
  nodes = length r.state.labels;
  arcs = saved r.state.labels r.state.arcs;
  made = length r.state.arcs;
  meetings = length r.state.meetings;
  second = lookup 2 r.state.labels;
  refusal = r.refusal;
}

-- what is told of a run of a table of n events
run : ℕ → List Term → List Address → Told
run n ts addresses = tell n (ran ts addresses)

-- event k and then STOP
stopping : ℕ → Term
stopping k = prefix k (leaf STOP)

pub runs : List Told
runs =
    run 1 (binary (parallel 1) (prefix 0 (leaf SKIP)) (stopping 0) ∷ [])
    ((three ∷ []) ∷ (one ∷ []) ∷ (two ∷ []) ∷ [])
    ∷ run 1 (binary (parallel 1) (prefix 0 (leaf SKIP)) (stopping 0) ∷ [])
    ((three ∷ []) ∷ (two ∷ []) ∷ (one ∷ []) ∷ [])
    ∷ run 2 (binary (parallel 0) (stopping 0) (stopping 1) ∷ []) ((one ∷ []) ∷ (two ∷ []) ∷ [])
    ∷ run 2 (binary (parallel 0) (stopping 0) (stopping 1) ∷ []) ((two ∷ []) ∷ (one ∷ []) ∷ [])
    ∷ run 0 (binary (parallel 0) (leaf SKIP) (leaf SKIP) ∷ []) ((one ∷ []) ∷ (two ∷ []) ∷ (four ∷ []) ∷ [])
    ∷ run 0 (binary sequence (binary (parallel 0) (leaf SKIP) (leaf SKIP)) (leaf STOP) ∷ [])
    ((one ∷ []) ∷ (two ∷ []) ∷ (four ∷ []) ∷ [])
    ∷ run 1 (binary external (leaf SKIP) (stopping 0) ∷ []) ((one ∷ []) ∷ [])
    ∷ run 2 (binary external (leaf (call 1)) (stopping 0) ∷ prefix 1 (leaf SKIP) ∷ [])
    ((one ∷ []) ∷ (two ∷ []) ∷ [])
    ∷ run 1 (binary (parallel 1) (binary (parallel 1) (stopping 0) (stopping 0)) (stopping 0) ∷ [])
    ((three ∷ three ∷ []) ∷ [])
    ∷ run 2 (binary (parallel 1) (stopping 0) (stopping 1) ∷ []) ((one ∷ []) ∷ [])
    ∷ run 2 (binary (parallel 1) (stopping 0) (stopping 1) ∷ []) ((three ∷ []) ∷ [])
    ∷ run 2 (binary (parallel 1) (stopping 0) (stopping 1) ∷ []) ((two ∷ []) ∷ [])
    -- W2: A cut after its third script line; a prefix that waits alone; a parallel whose sides wait for events of
    -- the set that the other does not offer, and with a STOP for one side, before its step and behind it; a call
    ∷ run 1 (binary (parallel 1) (prefix 0 (leaf SKIP)) (stopping 0) ∷ []) ((three ∷ []) ∷ (one ∷ []) ∷ [])
    ∷ run 1 (stopping 0 ∷ []) []
    ∷ run 2 (binary (parallel 3) (stopping 0) (stopping 1) ∷ []) []
    ∷ run 1 (binary (parallel 1) (stopping 0) (leaf STOP) ∷ []) []
    ∷ run 1 (binary (parallel 1) (stopping 0) (leaf STOP) ∷ []) ((two ∷ []) ∷ [])
    ∷ run 0 (leaf (call 0) ∷ []) []
    ∷ []

told : List Event → Status → ℕ → ℕ → ℕ → ℕ → Option Place → ℕ → Told
told es st n a m k p r =
    record { events = es; status = st; nodes = n; arcs = a; made = m; meetings = k; second = p; refusal = r }

-- a place in the right-hand side of definition 00
placed : List ℕ → Option Place
placed p = some (record { definition = 0; path = p })

pub outcomes : List Told
outcomes =
    told (τ ∷ visible 0 ∷ τ ∷ τ ∷ []) stuck 8 7 9 1 (placed (1 ∷ 1 ∷ [])) 0
    ∷ told (τ ∷ visible 0 ∷ τ ∷ τ ∷ []) stuck 8 7 9 1 (placed (1 ∷ 1 ∷ [])) 0
    -- C: "reference 2 is e0's in the first order and e1's in the second": e0 is at 1.1, and e1 at 2.1
    ∷ told (τ ∷ visible 0 ∷ visible 1 ∷ []) stuck 6 5 7 0 (placed (1 ∷ 1 ∷ [])) 0
    ∷ told (τ ∷ visible 1 ∷ visible 0 ∷ []) stuck 6 5 7 0 (placed (2 ∷ 1 ∷ [])) 0
    ∷ told (τ ∷ τ ∷ τ ∷ ✓ ∷ []) Ended 4 3 7 0 (placed (1 ∷ [])) 0
    ∷ told (τ ∷ τ ∷ τ ∷ τ ∷ []) stuck 5 5 8 0 (placed (1 ∷ 1 ∷ [])) 0
    ∷ told (τ ∷ ✓ ∷ []) Ended 3 2 3 0 (placed (1 ∷ [])) 0
    ∷ told (τ ∷ τ ∷ visible 0 ∷ []) stuck 5 4 6 0 (placed (1 ∷ [])) 0
    ∷ told (τ ∷ visible 0 ∷ []) stuck 9 8 11 3 (placed (1 ∷ [])) 0
    ∷ told (τ ∷ []) live 1 0 1 0 none 7
    ∷ told (τ ∷ []) live 1 0 1 0 none 7
    ∷ told (τ ∷ visible 1 ∷ []) stuck 4 3 4 0 (placed (2 ∷ 1 ∷ [])) 0
    ∷ told (τ ∷ visible 0 ∷ τ ∷ []) stuck 7 6 8 1 (placed (1 ∷ 1 ∷ [])) 0
    ∷ told (τ ∷ []) live 1 0 1 0 none 0
    ∷ told (τ ∷ []) stuck 1 0 1 0 none 0
    ∷ told (τ ∷ []) stuck 1 0 1 0 none 0
    ∷ told (τ ∷ τ ∷ []) stuck 3 2 3 0 (placed (2 ∷ [])) 0
    ∷ told (τ ∷ []) live 1 0 1 0 none 0
    ∷ []

pub cases_played : runs ≡ outcomes
unfolding
    labels_it saved play ran tell run stopping runs told placed outcomes joined untouched right_side cells
    lookup labelled prefixed first_eval around each_with meet jointly carried started leads parents ended member
    one_side by_side same both_sides with_right in_sequence by_left at_Ω then step after over_room
    within_room whole answered answer leaf_offers offers-✓ offers_event offers_some plain_τ moves status
cases_played = refl
