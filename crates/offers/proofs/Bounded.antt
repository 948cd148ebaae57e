-- Following takes few calls whatever the words hold, since each call divides what it may follow between the calls that
-- it makes. Of a term the two subterms have the numbers behind its own, up to the second and up to the end, so its
-- calls are no more than its numbers; of a control the two sides have fewer cells together than are left. Assumes
-- nothing.
use Rattle.std.proofs.Common.{ℕ, zero, suc, ◌+◌, ◌*◌, ◌-◌, ◌≤◌, ◌<◌, ◌≡◌, refl, Bool, true, false, not, List}
use Rattle.std.proofs.Common.{arith, ltb, eqb, ltb-false}
use Rattle.std.proofs.lemmas.Bool.{eqb-false}
use Rattle.lines.specs.Line.{choose}
use Rattle.lines.proofs.Choosing.{choose_most}
use Rattle.frames.specs.TableFrame.{term_room}
use Rattle.rules.specs.Run.{cell_room}
use Rattle.plans.specs.words.Plan.{kind, second}
use Rattle.control.specs.words.Control.{state, term, first, second_side, first_cells, second_cells}
use Rattle.offers.specs.code.Following.{first_of, levels, fits}
use Rattle.offers.specs.code.Calls.{by_kind, term_calls, by_state, control_calls, calls}
use Rattle.offers.proofs.Returns.{first_in, order_both, fits_both}
use Rattle.offers.proofs.Untouched.{in_plan}

-- a term's calls, where it goes on to subterms only if its kind has two and they are in order
kind_most : (k l r m : ℕ) (c : Bool) → 0 < m → (4 ≤ k → c ≡ true → 1 + (l + r) ≤ m) → by_kind k c l r ≤ m
unfolding by_kind
kind_most k l r m c some on = go (ltb k 4) refl c refl
  where
    go : (a : Bool) → ltb k 4 ≡ a → (b : Bool) → c ≡ b
        → choose a 1 (choose (ltb 6 k) 1 (choose (not b) 1 (choose (eqb k 5) (1 + l) (1 + (l + r))))) ≤ m
    go true e b is = some
    go false e true is =
        let most = on (ltb-false k 4 e) is in
        choose_most m (ltb 6 k) 1 _ some (choose_most m (eqb k 5) (1 + l) (1 + (l + r)) (omega arith) most)
    go false e false is = choose_most m (ltb 6 k) 1 1 some some

-- as many as its numbers, from its own to before the end
pub term_bounded : (p : List ℕ) (f t end : ℕ) → term_calls f p t end ≤ suc (end - suc t)
unfolding term_calls
term_bounded p zero t end = omega arith
term_bounded p (suc f) t end =
    kind_most (kind p t) _ _ (suc (end - suc t)) _ (omega arith)
    (λ high ordered.
    let next = first_in t (in_plan p t (omega arith)) in
    let inside = order_both (first_of t) (second p t) end ordered in
    omega (arith, term_bounded p f (first_of t) (second p t), term_bounded p f (second p t) end))

-- a control's, where it goes on to sides only if they fit
state_most : (s u v m : ℕ) (c : Bool) → 1 + u ≤ m → (c ≡ true → 1 + v ≤ m) → by_state s c u v ≤ m
unfolding by_state
state_most s u v m true rest on =
    choose_most m (ltb 1 s) 1 _ (omega arith) (choose_most m (eqb s 0) (1 + u) (1 + v) rest (on refl))
state_most s u v m false rest on =
    choose_most m (ltb 1 s) 1 _ (omega arith) (choose_most m (eqb s 0) (1 + u) 1 rest (omega arith))

-- a term's for each cell, and one
pub control_bounded : (p w : List ℕ) (f left n t : ℕ) → control_calls f p w left n t ≤ 1 + left * term_room
unfolding control_calls
control_bounded p w zero left n t = omega arith
control_bounded p w (suc f) left n t =
    go (eqb left 0) refl
    (control_bounded p w f (first_cells w n) (first w n) (first_of (term w n)))
    (control_bounded p w f (second_cells w n) (second_side w n) (second p (term w n)))
  where
    go : (b : Bool) → eqb left 0 ≡ b → {l r : ℕ} → l ≤ 1 + first_cells w n * term_room
        → r ≤ 1 + second_cells w n * term_room
        → choose b 1 (choose (eqb n 0) (1 + term_calls levels p t term_room)
        (by_state (state w n) (fits (first_cells w n) (second_cells w n) left)
        (term_calls levels p (term w n) term_room) (l + r))) ≤ 1 + left * term_room
    go true e one two = omega arith
    go false e one two =
        let some = eqb-false left 0 e in
        choose_most (1 + left * term_room) (eqb n 0) _ _ (omega (arith, term_bounded p levels t term_room))
        (state_most (state w n) _ _ _ _ (omega (arith, term_bounded p levels (term w n) term_room))
        (λ fit. let few = fits_both (first_cells w n) (second_cells w n) left fit in omega arith))

-- a run's offers take no more calls than there is room for cells, each with as many terms as there is room for, and two
pub calls_bounded : (p w : List ℕ) (n : ℕ) → calls p w n ≤ 2 + cell_room * term_room
unfolding calls
calls_bounded p w n =
    choose_most (2 + cell_room * term_room) (eqb n 0) 1 _ (omega arith)
    (omega (arith, control_bounded p w cell_room cell_room n 0))
