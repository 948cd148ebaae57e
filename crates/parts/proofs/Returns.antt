-- What the definitions of the code are at each test: one law a return, over plain variables. Assumes nothing.
use Rattle.std.proofs.Common.{ℕ, suc, ◌≡◌, true, List, eq-eqb, ne_eqb}
use Rattle.plans.specs.words.Plan.{kind, second}
use Rattle.control.specs.words.Control.{state, term, first, second_side}
use Rattle.offers.specs.code.Following.{first_of, levels, bound}
use Rattle.parts.specs.declared.Part.{Part}
use Rattle.parts.specs.declared.Sides.{Sides}
use Rattle.parts.specs.declared.Standing.{Standing}
use Rattle.parts.specs.declared.Standing.TheVariants.{Split, Ended, Dead}
use Rattle.parts.specs.code.Parts.{unsequenced, by_kind, of_term, subterms, by_state, stepped_sides}
use Rattle.parts.specs.code.Parts.{standing_at, sides_at, standing, sides}

-- a sequence is passed, at most as many as are left
module _ (p : List ℕ) (t f : ℕ) where
  pub passed_none : f ≡ 0 → unsequenced f p t ≡ t
  unfolding unsequenced
  passed_none h = rw h

  module _ (g : ℕ) (more : f ≡ suc g) where
    pub passed_last : (kind p t ≡ 5 → ⊥) → unsequenced f p t ≡ t
    unfolding unsequenced
    passed_last h = rw (more, ne_eqb (kind p t) 5 h)

    pub passed_one : kind p t ≡ 5 → unsequenced f p t ≡ unsequenced g p (first_of t)
    unfolding unsequenced
    passed_one h = rw (more, h)

-- what stands in a term, and its subterms, where the sequences around it are passed
module _ (p : List ℕ) (t u : ℕ) (is : u ≡ unsequenced levels p t) where
  pub term_stands : (k : ℕ) (r : Standing) → k ≡ kind p u → r ≡ by_kind k u → r ≡ of_term p t
  unfolding of_term
  term_stands k r kind_is h = rw (← is, ← kind_is) h

  pub term_divides : (i j : ℕ) → i ≡ first_of u → j ≡ second p u → ◌≡◌ {A = Sides} (record {
    first = record { reference = 0; term = i; bound = 0 };
    second = record { reference = 0; term = j; bound = 0 };
  }) (subterms p t)
  unfolding subterms
  term_divides i j first_is second_is = rw (← is, first_is, second_is)

-- what stands at a reference by its state
module _ (s t : ℕ) (o : Standing) where
  pub state_resting : s ≡ 0 → o ≡ by_state s t o
  unfolding by_state
  state_resting h = simp (eq-eqb s 0 h)

  pub state_entered : s ≡ 1 → Split t true ≡ by_state s t o
  unfolding by_state
  state_entered h = rw h

  pub state_ended : s ≡ 2 → Ended ≡ by_state s t o
  unfolding by_state
  state_ended h = rw h

  pub state_dead : (s ≡ 0 → ⊥) → (s ≡ 1 → ⊥) → (s ≡ 2 → ⊥) → Dead ≡ by_state s t o
  unfolding by_state
  state_dead h m q = simp (ne_eqb s 0 h, ne_eqb s 1 m, ne_eqb s 2 q)

-- what stands at a reference, and its sides
module _ (p w : List ℕ) (n : ℕ) where
  pub there_stands : (s t : ℕ) (r : Standing) → s ≡ state w n → t ≡ term w n → r ≡ by_state s t (of_term p t)
      → r ≡ standing_at p w n
  unfolding standing_at
  there_stands s t r state_is term_is h = rw (← state_is, ← term_is) h

  pub there_rests : (s t : ℕ) (r : Sides) → s ≡ state w n → t ≡ term w n → (s ≡ 1 → ⊥) → r ≡ subterms p t
      → r ≡ sides_at p w n
  unfolding sides_at
  there_rests s t r state_is term_is h is = rw (← state_is, ← term_is, ne_eqb s 1 h) is

  pub there_enters : (s t : ℕ) (r : Sides) → s ≡ state w n → t ≡ term w n → s ≡ 1 → r ≡ stepped_sides p w n t
      → r ≡ sides_at p w n
  unfolding sides_at
  there_enters s t r state_is term_is h is = rw (← state_is, ← term_is, h) is

-- a part at reference 0, and at another
module _ (p w : List ℕ) (a : Part) where
  pub stands_waiting : (r : Standing) → a.reference ≡ 0 → r ≡ of_term p a.term → r ≡ standing p w a
  unfolding standing
  stands_waiting r h is = rw (eq-eqb a.reference 0 h) is

  pub stands_there : (r : Standing) → (a.reference ≡ 0 → ⊥) → r ≡ standing_at p w a.reference
      → r ≡ standing p w a
  unfolding standing
  stands_there r h is = rw (ne_eqb a.reference 0 h) is

  pub divides_waiting : (r : Sides) → a.reference ≡ 0 → r ≡ subterms p a.term → r ≡ sides p w a
  unfolding sides
  divides_waiting r h is = rw (eq-eqb a.reference 0 h) is

  pub divides_there : (r : Sides) → (a.reference ≡ 0 → ⊥) → r ≡ sides_at p w a.reference → r ≡ sides p w a
  unfolding sides
  divides_there r h is = rw (ne_eqb a.reference 0 h) is

-- both sides of an entered choice or parallel, by their words
pub stepped_parts : (p w : List ℕ) (n t i j u v b : ℕ) → b ≡ bound p w n t → i ≡ first w n → u ≡ first_of t
    → j ≡ second_side w n → v ≡ second p t → ◌≡◌ {A = Sides} (record {
      first = record { reference = i; term = u; bound = b };
      second = record { reference = j; term = v; bound = b };
    }) (stepped_sides p w n t)
stepped_parts p w n t i j u v b bound_is first_is first_term second_is second_term =
    rw (bound_is, first_is, first_term, second_is, second_term)
