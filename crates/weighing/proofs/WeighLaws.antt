-- The weight of a term, and of what stands at a reference, by what the tests on the way found: out of
-- levels, a sequence, a leaf, a digit that names no side, one side, or both. Each call's answer is given
-- by a name and its equation, as the code has it. Assumes nothing.
use Rattle.std.proofs.Common.{ℕ, suc, ◌+◌, ◌-◌, ◌≡◌, sym, ◌∙◌, Bool, true, false, not, List, eqb, eq-eqb, ne_eqb}
use Rattle.kinds.specs.Kind as Kind
use Rattle.plans.specs.words.Plan.{kind, operand, second, around}
use Rattle.control.specs.words.Words.{node}
use Rattle.control.specs.words.Control.{state, term, frame, resting, entered}
use Rattle.control.specs.words.Sums.{capped}
use Rattle.weights.specs.code.Rules.{by_leaf, entering, end_of, one, both}
use Rattle.looking.specs.code.Looking.{digit_at, is_split, is_side, taken, is_within, set_of, inside}
use Rattle.weighing.specs.code.Ending.{weigh_end}
use Rattle.weighing.specs.code.Weigh.{levels, by_digit, of_term, at_reference}
use Rattle.weights.specs.code.Rules.{Weighed}
use Rattle.std.specs.Prelude.{None}

-- a split's step by a digit
module _ (p x : List ℕ) (count : ℕ) (ds : List ℕ) (d t : ℕ) (found : Weighed) (across : ℕ → Weighed)
    (size own other : ℕ) (within : Bool) where
  astray : is_side d ≡ false → None ≡ by_digit p x count ds d t found across size own other within
  unfolding by_digit
  astray h = simp h

  module _ (side : is_side d ≡ true) where
    alone : (d ≡ 3 → ⊥) → one (kind p t) (set_of x t) found size own other within
        ≡ by_digit p x count ds d t found across size own other within
    unfolding by_digit
    alone h = simp (side, ne_eqb d 3 h)

    jointly : d ≡ 3 → both (kind p t) (set_of x t) found (across (end_of found count)) size own other
        ≡ by_digit p x count ds d t found across size own other within
    unfolding by_digit
    jointly h = simp (side, eq-eqb d 3 h)

-- what is looked up of a term that is no sequence: its kind, the digit, and whether a sequence is around it
pub record Looked (p x : List ℕ) (count : ℕ) (ds : List ℕ) (left t : ℕ) (nested : Bool) (at size less k d : ℕ)
    (within split : Bool) : Type 0 where
  pub more : left ≡ suc less
  pub kind_is : k ≡ kind p t
  pub other : k ≡ Kind.sequence → ⊥
  pub digit_is : d ≡ digit_at ds count at
  pub o : ℕ
  pub around_is : o ≡ around p t
  pub within_is : within ≡ is_within nested o
  pub split_is : split ≡ is_split k

-- what its first side weighs, and what is looked up for that
pub record Sided (p x : List ℕ) (count : ℕ) (ds : List ℕ) (t at size less d j set larger : ℕ)
    (found : Weighed) : Type 0 where
  pub first : ℕ
  pub first_is : first ≡ capped (t + 1)
  pub second_is : j ≡ second p t
  pub next : ℕ
  pub next_is : next ≡ capped (at + 1)
  pub set_is : set ≡ set_of x t
  pub larger_is : larger ≡ capped (size + 2)
  pub gone : ℕ
  pub gone_is : gone ≡ taken d first j
  pub raw : Weighed
  pub raw_is : raw ≡ of_term p x count ds less gone false next 1
  pub found_is : found ≡ entering raw 1

-- a term that no step has touched
module _ (p x : List ℕ) (count : ℕ) (ds : List ℕ) (left t : ℕ) (nested : Bool) (at size : ℕ) where
  pub term_spent : left ≡ 0 → None ≡ of_term p x count ds left t nested at size
  unfolding of_term
  term_spent h = rw h

  pub term_sequence : (less k f s : ℕ) (y : Weighed) → left ≡ suc less → k ≡ kind p t → k ≡ Kind.sequence
      → f ≡ capped (t + 1) → s ≡ capped (size + 1) → y ≡ of_term p x count ds less f nested at s
      → y ≡ of_term p x count ds left t nested at size
  unfolding of_term
  term_sequence less k f s y more kind_is h f_is s_is y_is =
      rw (y_is, f_is, s_is, more) (simp (eq-eqb (kind p t) Kind.sequence (sym kind_is ∙ h)))

module _ {p x : List ℕ} {count : ℕ} {ds : List ℕ} {left t : ℕ} {nested : Bool} {at size less k d : ℕ}
    {within split : Bool} (l : Looked p x count ds left t nested at size less k d within split) where
  no_sequence : eqb (kind p t) Kind.sequence ≡ false
  no_sequence = ne_eqb (kind p t) Kind.sequence (λ z. l.other (l.kind_is ∙ z))

  pub term_leaf : split ≡ false → {e : ℕ} {y : Weighed} → e ≡ operand p t
      → y ≡ by_leaf k e d within at size → y ≡ of_term p x count ds left t nested at size
  unfolding of_term
  term_leaf h e_is y_is =
      let whole : is_split (kind p t) ≡ false = rw (← l.kind_is, ← l.split_is) h in
      rw (y_is, l.kind_is, e_is, l.digit_is, l.within_is, l.around_is, l.more)
      (simp (no_sequence, whole))

  module _ (splits : split ≡ true) where
    -- a split is weighed by its digit
    by_sides : of_term p x count ds left t nested at size ≡ by_digit p x count ds d t
        (entering
        (of_term p x count ds less (taken d (capped (t + 1)) (second p t)) false (capped (at + 1)) 1) 1)
        (λ from. entering (of_term p x count ds less (second p t) false from 1) 0)
        (capped (size + 2)) 1 1 within
    unfolding of_term
    by_sides =
        let there : is_split (kind p t) ≡ true = rw (← l.kind_is, ← l.split_is) splits in
        rw (l.digit_is, l.within_is, l.around_is, l.more) (simp (no_sequence, there))

    module _ {s : Bool} (s_is : s ≡ is_side d) where
      pub term_astray : s ≡ false → None ≡ of_term p x count ds left t nested at size
      term_astray h = rw by_sides (astray p x count ds d t _ _ _ _ _ _ (sym s_is ∙ h))

      module _ (side : s ≡ true) {j set larger : ℕ} {found : Weighed}
          (g : Sided p x count ds t at size less d j set larger found) where
        pub term_one : (d ≡ 3 → ⊥) → {y : Weighed} → y ≡ one k set found larger 1 1 within
            → y ≡ of_term p x count ds left t nested at size
        term_one h y_is =
            rw (by_sides, y_is, g.found_is, g.raw_is, l.kind_is, g.set_is, g.gone_is, g.first_is)
            (rw (g.second_is, g.next_is, g.larger_is)
            (alone p x count ds d t _ _ _ _ _ _ (sym s_is ∙ side) h))

        pub term_both : d ≡ 3 → {from : ℕ} {over across y : Weighed} → from ≡ end_of found count
            → over ≡ of_term p x count ds less j false from 1 → across ≡ entering over 0
            → y ≡ both k set found across larger 1 1 → y ≡ of_term p x count ds left t nested at size
        term_both h from_is over_is across_is y_is =
            rw (by_sides, y_is, across_is, over_is, from_is, g.found_is, g.raw_is, l.kind_is, g.set_is)
            (rw (g.gone_is, g.first_is, g.second_is, g.next_is, g.larger_is)
            (jointly p x count ds d t _ _ _ _ _ _ (sym s_is ∙ side) h))

-- the words of a reference that there is: its state, term and frame
pub record Standing (p x : List ℕ) (count : ℕ) (ds w g : List ℕ) (arcs left n t bound at size less s u f : ℕ)
    : Type 0 where
  pub more : left ≡ suc less
  pub there : n ≡ 0 → ⊥
  pub state_is : s ≡ state w n
  pub term_is : u ≡ term w n
  pub frame_is : f ≡ frame w n

-- what is looked up of an entered split: its kind, the digit, and whether a sequence is around it
pub record Opened (p x : List ℕ) (count : ℕ) (ds w g : List ℕ) (arcs left n t bound at size less u f k d : ℕ)
    (within : Bool) : Type 0 where
  pub s : ℕ
  pub standing : Standing p x count ds w g arcs left n t bound at size less s u f
  pub enters : s ≡ entered
  pub kind_is : k ≡ kind p u
  pub digit_is : d ≡ digit_at ds count at
  pub o : ℕ
  pub around_is : o ≡ around p u
  pub within_is : within ≡ is_within (not (eqb f bound)) o

-- what its first side weighs, and what is looked up for that
pub record Crossed (p x : List ℕ) (count : ℕ) (ds w g : List ℕ) (arcs n at less u f k d j set e own other : ℕ)
    (found : Weighed) : Type 0 where
  pub second_is : j ≡ second p u
  pub next : ℕ
  pub next_is : next ≡ capped (at + 1)
  pub set_is : set ≡ set_of x u
  pub inside_is : e ≡ inside p k u n f
  pub side : ℕ
  pub side_is : side ≡ taken d 1 2
  pub own_is : own ≡ node (5 + side) w n
  pub other_is : other ≡ node (8 - side) w n
  pub gone : ℕ
  pub gone_is : gone ≡ node (3 + side) w n
  pub first : ℕ
  pub first_is : first ≡ capped (u + 1)
  pub below : ℕ
  pub below_is : below ≡ taken d first j
  pub found_is : found ≡ at_reference p x count ds w g arcs less gone below e next own

-- what stands at a reference
module _ (p x : List ℕ) (count : ℕ) (ds w g : List ℕ) (arcs left n t bound at size : ℕ) where
  pub at_spent : left ≡ 0 → None ≡ at_reference p x count ds w g arcs left n t bound at size
  unfolding at_reference
  at_spent h = rw h

  pub at_fresh : (less : ℕ) (raw y : Weighed) → left ≡ suc less → n ≡ 0
      → raw ≡ of_term p x count ds levels t false at 1 → y ≡ entering raw 0
      → y ≡ at_reference p x count ds w g arcs left n t bound at size
  unfolding at_reference
  at_fresh less raw y more h raw_is y_is = rw (y_is, raw_is, more) (simp (eq-eqb n 0 h))

module _ {p x : List ℕ} {count : ℕ} {ds w g : List ℕ} {arcs left n t bound at size less s u f : ℕ}
    (l : Standing p x count ds w g arcs left n t bound at size less s u f) where
  pub at_rest : s ≡ resting → {y : Weighed} → y ≡ of_term p x count ds levels u (not (eqb f bound)) at size
      → y ≡ at_reference p x count ds w g arcs left n t bound at size
  unfolding at_reference
  at_rest h y_is =
      rw (y_is, l.term_is, l.frame_is, l.more)
      (simp (ne_eqb n 0 l.there, eq-eqb (state w n) resting (sym l.state_is ∙ h)))

  pub at_an_end : (s ≡ resting → ⊥) → (s ≡ entered → ⊥)
      → None ≡ at_reference p x count ds w g arcs left n t bound at size
  unfolding at_reference
  at_an_end h e =
      let stirred = ne_eqb (state w n) resting (λ z. h (l.state_is ∙ z)) in
      let closed = ne_eqb (state w n) entered (λ z. e (l.state_is ∙ z)) in
      rw l.more (simp (ne_eqb n 0 l.there, stirred, closed))

module _ {p x : List ℕ} {count : ℕ} {ds w g : List ℕ} {arcs left n t bound at size less u f k d : ℕ}
    {within : Bool} (l : Opened p x count ds w g arcs left n t bound at size less u f k d within) where
  present : eqb n 0 ≡ false
  present = ne_eqb n 0 l.standing.there

  open_there : state w n ≡ entered
  open_there = sym l.standing.state_is ∙ l.enters

  pub at_the_end : d ≡ 4 → {y : Weighed} → y ≡ weigh_end w g arcs n k at size within
      → y ≡ at_reference p x count ds w g arcs left n t bound at size
  unfolding at_reference
  at_the_end h y_is =
      let named = eq-eqb (digit_at ds count at) 4 (sym l.digit_is ∙ h) in
      rw (y_is, l.kind_is, l.within_is, l.around_is, l.standing.term_is, l.standing.frame_is)
      (rw l.standing.more (simp (present, open_there, named)))

  module _ (goes : d ≡ 4 → ⊥) where
    -- an entered split is weighed by its digit
    at_sides : at_reference p x count ds w g arcs left n t bound at size ≡ by_digit p x count ds d u
        (at_reference p x count ds w g arcs less (node (3 + taken d 1 2) w n)
        (taken d (capped (u + 1)) (second p u)) (inside p k u n f) (capped (at + 1))
        (node (5 + taken d 1 2) w n))
        (λ from. at_reference p x count ds w g arcs less (node 5 w n) (second p u) (inside p k u n f) from
        (node (8 - taken d 1 2) w n))
        size (node (5 + taken d 1 2) w n) (node (8 - taken d 1 2) w n) within
    unfolding at_reference
    at_sides =
        let on = ne_eqb (digit_at ds count at) 4 (λ z. goes (l.digit_is ∙ z)) in
        rw (l.kind_is, l.digit_is, l.within_is, l.around_is, l.standing.term_is, l.standing.frame_is)
        (rw l.standing.more (simp (present, open_there, on)))

    module _ {b : Bool} (b_is : b ≡ is_side d) where
      pub at_astray : b ≡ false → None ≡ at_reference p x count ds w g arcs left n t bound at size
      at_astray h = rw at_sides (astray p x count ds d u _ _ _ _ _ _ (sym b_is ∙ h))

      module _ (named : b ≡ true) {j set e own other : ℕ} {found : Weighed}
          (c : Crossed p x count ds w g arcs n at less u f k d j set e own other found) where
        pub at_one : (d ≡ 3 → ⊥) → {y : Weighed} → y ≡ one k set found size own other within
            → y ≡ at_reference p x count ds w g arcs left n t bound at size
        at_one h y_is =
            rw (at_sides, y_is, c.found_is, c.gone_is, c.below_is, c.own_is, c.other_is, c.side_is)
            (rw (c.first_is, c.second_is, c.inside_is, c.next_is, c.set_is, l.kind_is)
            (alone p x count ds d u _ _ _ _ _ _ (sym b_is ∙ named) h))

        pub at_both : d ≡ 3 → {from q : ℕ} {across y : Weighed} → from ≡ end_of found count → q ≡ node 5 w n
            → across ≡ at_reference p x count ds w g arcs less q j e from other
            → y ≡ both k set found across size own other
            → y ≡ at_reference p x count ds w g arcs left n t bound at size
        at_both h from_is q_is across_is y_is =
            rw (at_sides, y_is, across_is, q_is, from_is, c.found_is, c.gone_is, c.below_is, c.own_is)
            (rw (c.other_is, c.side_is, c.first_is, c.second_is, c.inside_is, c.next_is, c.set_is)
            (rw l.kind_is (jointly p x count ds d u _ _ _ _ _ _ (sym b_is ∙ named) h)))
