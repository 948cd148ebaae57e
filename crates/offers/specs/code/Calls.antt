-- How many calls it takes to follow a control and its terms downward, whatever the words hold: one, and those of the
-- calls that it makes, test for test as in `Following`. Counted are the calls of what follows; each makes but a few
-- others, which follow nothing. `proofs/Bounded.antt` shows how many they are at most.
use Rattle.std.specs.Prelude.{ℕ, zero, suc, ◌+◌, Bool, not, List, ltb, eqb}
use Rattle.lines.specs.Line.{choose}
use Rattle.frames.specs.TableFrame.{term_room}
use Rattle.kinds.specs.Kind as Kind
use Rattle.rules.specs.Run.{cell_room}
use Rattle.plans.specs.words.Plan.{kind, second}
use Rattle.control.specs.words.Control.{state, term, first, second_side, first_cells, second_cells, resting, entered}
use Rattle.offers.specs.code.Following.{first_of, in_order, levels, fits}

-- a term by its kind, where its subterms take so many calls
unfoldable pub by_kind : ℕ → Bool → ℕ → ℕ → ℕ
by_kind k ordered l r =
    choose (ltb k Kind.external) 1
    (choose (ltb Kind.parallel k) 1
    (choose (not ordered) 1
    (choose (eqb k Kind.sequence) (1 + l) (1 + (l + r)))))

-- a term that no step has touched
unfoldable pub term_calls : ℕ → List ℕ → ℕ → ℕ → ℕ
term_calls zero p t end = 1
term_calls (suc f) p t end =
    by_kind (kind p t) (in_order (first_of t) (second p t) end)
    (term_calls f p (first_of t) (second p t)) (term_calls f p (second p t) end)

-- by the state of a reference, where its term untouched, or its sides together, take so many calls
unfoldable pub by_state : ℕ → Bool → ℕ → ℕ → ℕ
by_state s fitting untouched sides =
    choose (ltb entered s) 1 (choose (eqb s resting) (1 + untouched) (choose (not fitting) 1 (1 + sides)))

-- what stands at reference n, of as many cells as are left; at reference 0 a side that has not stepped, of term t
unfoldable pub control_calls : ℕ → List ℕ → List ℕ → ℕ → ℕ → ℕ → ℕ
control_calls zero p w left n t = 1
control_calls (suc f) p w left n t =
    choose (eqb left 0) 1
    (choose (eqb n 0) (1 + term_calls levels p t term_room)
    (by_state (state w n) (fits (first_cells w n) (second_cells w n) left)
    (term_calls levels p (term w n) term_room)
    (control_calls f p w (first_cells w n) (first w n) (first_of (term w n))
    + control_calls f p w (second_cells w n) (second_side w n) (second p (term w n)))))

-- a run at a reference
unfoldable pub calls : List ℕ → List ℕ → ℕ → ℕ
calls p w n = choose (eqb n 0) 1 (1 + control_calls cell_room p w cell_room n 0)
