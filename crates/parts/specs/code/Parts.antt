-- What stands in a part and what its sides are, whatever the words hold.
use Rattle.std.specs.Prelude.{ℕ, zero, suc, true, false, ◌||◌, List, eqb}
use Rattle.lines.specs.Line.{choose}
use Rattle.kinds.specs.Kind as Kind
use Rattle.plans.specs.words.Plan.{kind, second}
use Rattle.control.specs.words.Control.{state, term, first, second_side, resting, entered, at_end}
use Rattle.offers.specs.code.Following.{first_of, levels, bound}
use Rattle.parts.specs.declared.Part.{Part}
use Rattle.parts.specs.declared.Sides.{Sides}
use Rattle.parts.specs.declared.Standing.{Standing}
use Rattle.parts.specs.declared.Standing.TheVariants.{Term, Split, Ended, Dead}

-- the whole control of a run at a reference
abbrev pub whole : ℕ → Part
whole n = record { reference = n; term = 0; bound = 0 }

-- a side that has not stepped, of a term
abbrev pub waiting : ℕ → Part
waiting t = record { reference = 0; term = t; bound = 0 }

-- what stands in a term, at most so many sequences passed
unfoldable pub unsequenced : ℕ → List ℕ → ℕ → ℕ
unsequenced zero p t = t
unsequenced (suc f) p t = choose (eqb (kind p t) Kind.sequence) (unsequenced f p (first_of t)) t

-- a term by its kind
unfoldable pub by_kind : ℕ → ℕ → Standing
by_kind k t = choose (eqb k Kind.external || eqb k Kind.parallel) (Split t false) (Term t)

-- what stands in a term that no step has touched, and its subterms as sides
unfoldable pub of_term : List ℕ → ℕ → Standing
of_term p t = by_kind (kind p (unsequenced levels p t)) (unsequenced levels p t)

abbrev pub both_waiting : List ℕ → ℕ → Sides
both_waiting p t = record { first = waiting (first_of t); second = waiting (second p t) }

unfoldable pub subterms : List ℕ → ℕ → Sides
subterms p t = both_waiting p (unsequenced levels p t)

-- by the state of a reference, where its term is t, and untouched so much stands in it
unfoldable pub by_state : ℕ → ℕ → Standing → Standing
by_state s t untouched =
    choose (eqb s resting) untouched
    (choose (eqb s entered) (Split t true) (choose (eqb s at_end) Ended Dead))

-- the sides of an entered choice or parallel t, which stands at reference n
abbrev pub stepped_sides : List ℕ → List ℕ → ℕ → ℕ → Sides
stepped_sides p w n t = record {
  first = record { reference = first w n; term = first_of t; bound = bound p w n t };
  second = record { reference = second_side w n; term = second p t; bound = bound p w n t };
}

-- what stands at a reference, and its sides
unfoldable pub standing_at : List ℕ → List ℕ → ℕ → Standing
standing_at p w n = by_state (state w n) (term w n) (of_term p (term w n))

unfoldable pub sides_at : List ℕ → List ℕ → ℕ → Sides
sides_at p w n =
    choose (eqb (state w n) entered) (stepped_sides p w n (term w n)) (subterms p (term w n))

-- what stands in a part, and its sides
unfoldable pub standing : List ℕ → List ℕ → Part → Standing
standing p w a = choose (eqb a.reference 0) (of_term p a.term) (standing_at p w a.reference)

unfoldable pub sides : List ℕ → List ℕ → Part → Sides
sides p w a = choose (eqb a.reference 0) (subterms p a.term) (sides_at p w a.reference)
