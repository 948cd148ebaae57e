-- What following a control and its terms downward computes, whatever the words hold, in at most so many levels.
-- `proofs/Standing.antt` shows that it is what the control offers where the words hold one, and `proofs/Bounded.antt`
-- that it takes few calls where they hold anything else.
use Rattle.std.specs.Prelude.{ℕ, zero, suc, ◌+◌, Bool, true, false, ◌&&◌, ◌||◌, not, List, ltb, eqb}
use Rattle.lines.specs.Line.{choose}
use Rattle.frames.specs.TableFrame.{term_room}
use Rattle.kinds.specs.Kind as Kind
use Rattle.columns.specs.words.Columns.{look}
use Rattle.rules.specs.Run.{cell_room}
use Rattle.plans.specs.words.Plan.{kind, operand, second, around}
use Rattle.control.specs.words.Control.{state, term, frame, first, second_side, resting, entered, at_end}
use Rattle.control.specs.words.Control.{first_cells, second_cells, beyond}
use Rattle.offering.specs.code.Offering.{Offer, unseen, own, settled, combined}

-- a term by its kind, its operand, its set, and what its subterms offer where they are in order
unfoldable pub by_kind : ℕ → ℕ → ℕ → Bool → Offer → Offer → Offer
by_kind k e x ordered l r =
    choose (ltb k Kind.external) (own k e)
    (choose (ltb Kind.parallel k) (own k e)
    (choose (not ordered) (unseen false false)
    (choose (eqb k Kind.sequence) (settled true l) (combined k x false l r))))

-- a term's first subterm
unfoldable pub first_of : ℕ → ℕ
first_of t = choose (ltb t term_room) (t + 1) 0

-- a first subterm stands before a second, and that before the end
unfoldable pub in_order : ℕ → ℕ → ℕ → Bool
in_order i j end = ltb i j && ltb j end

-- a term that no step has touched, whose terms stand before the end: those of its first subterm before its second
unfoldable pub of_term : ℕ → List ℕ → List ℕ → ℕ → ℕ → Offer
of_term zero p x t end = unseen false false
of_term (suc f) p x t end =
    by_kind (kind p t) (operand p t) (look term_room x t) (in_order (first_of t) (second p t) end)
    (of_term f p x (first_of t) (second p t)) (of_term f p x (second p t) end)

-- the levels of a term: a path has at most 64 digits
abbrev pub levels : ℕ
levels = 65

-- a sequence is around term t, which stands at reference n, up to bound b
unfoldable pub followed : List ℕ → List ℕ → ℕ → ℕ → ℕ → Bool
followed p w n t b = not (eqb (around p t) 0) || not (eqb (frame w n) b)

-- the bound of the sides of a choice or parallel t that stands at reference n
unfoldable pub bound : List ℕ → List ℕ → ℕ → ℕ → ℕ
bound p w n t = choose (eqb (kind p t) Kind.parallel) n (beyond p t n (frame w n))

-- what stands at a reference is Ω
unfoldable pub ended : List ℕ → ℕ → Bool
ended w n = not (eqb n 0) && eqb (state w n) at_end

-- by the state of a reference, where a sequence may be around it: its term untouched, or its sides together where
-- they fit
unfoldable pub by_state : ℕ → Bool → Bool → Offer → Offer → Offer
by_state s fitting nested untouched sides =
    choose (ltb entered s) (unseen false false)
    (choose (eqb s resting) (settled nested untouched)
    (choose (not fitting) (unseen false false) (settled nested sides)))

-- two sides' cells, and the cell that they are sides of, are no more than are left
unfoldable pub fits : ℕ → ℕ → ℕ → Bool
fits a b left = ltb (a + b) left

-- what stands at reference n up to bound b, of as many cells as are left; at reference 0 a side that has not stepped,
-- of term t. The cells are divided between two sides, so as many levels as cells are enough
unfoldable pub at : ℕ → List ℕ → List ℕ → List ℕ → ℕ → ℕ → ℕ → ℕ → Offer
at zero p x w left n t b = unseen false false
at (suc f) p x w left n t b =
    choose (eqb left 0) (unseen false false)
    (choose (eqb n 0) (of_term levels p x t term_room)
    (by_state (state w n) (fits (first_cells w n) (second_cells w n) left) (followed p w n (term w n) b)
    (of_term levels p x (term w n) term_room)
    (combined (kind p (term w n)) (look term_room x (term w n))
    (ended w (first w n) && ended w (second_side w n))
    (at f p x w (first_cells w n) (first w n) (first_of (term w n)) (bound p w n (term w n)))
    (at f p x w (second_cells w n) (second_side w n) (second p (term w n)) (bound p w n (term w n))))))

-- what a run at a reference offers, whose control has no more cells than there is room for; at reference 0 it starts
-- by a call
unfoldable pub offered : List ℕ → List ℕ → List ℕ → ℕ → Offer
offered p x w n = choose (eqb n 0) (unseen true false) (at cell_room p x w cell_room n 0 0)
