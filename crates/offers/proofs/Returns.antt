-- What the definitions of the code are at each test: one law a return, over plain variables. Assumes nothing.
use Rattle.std.proofs.Common.{ℕ, zero, suc, ◌+◌, ◌-◌, ◌≤◌, ◌<◌, ◌≡◌, refl, sym, ◌∙◌, Bool, true, false, ◌&&◌, not}
use Rattle.std.proofs.Common.{List, arith, ltb, eqb, lt-ltb, le-ltb, eq-eqb, ne_eqb, ltb-true, ltb-false}
use Rattle.frames.specs.TableFrame.{term_room}
use Rattle.columns.specs.words.Columns.{look}
use Rattle.rules.specs.Run.{cell_room}
use Rattle.plans.specs.words.Plan.{kind, operand, second, around}
use Rattle.control.specs.words.Control.{state, term, frame, first, second_side, at_end, beyond}
use Rattle.control.specs.words.Control.{first_cells, second_cells}
use Rattle.offering.specs.code.Offering.{Offer, unseen, own, settled, combined}
use Rattle.offers.specs.code.Following.{by_kind, first_of, in_order, of_term, levels, followed, bound, ended}
use Rattle.offers.specs.code.Following.{by_state, fits, at, offered}

-- a level falls, where there are as many as cells are left
pub one_less : (n : ℕ) → (n ≡ 0 → ⊥) → n ≡ suc (n - 1)
one_less n h = omega arith

pub level_less : (f left : ℕ) → left ≤ f → (left ≡ 0 → ⊥) → f ≡ suc (f - 1)
level_less f left h some = omega arith

-- a term's first subterm
module _ (t : ℕ) where
  pub first_in : t < term_room → t + 1 ≡ first_of t
  unfolding first_of
  first_in h = simp (lt-ltb t term_room h)

  pub first_out : term_room ≤ t → 0 ≡ first_of t
  unfolding first_of
  first_out h = simp (le-ltb t term_room h)

-- what is left after one side's cells
module _ (a b left : ℕ) where
  pub fits_not : left ≤ a → false ≡ fits a b left
  unfolding fits
  fits_not h = let many : left ≤ a + b = omega arith in simp (le-ltb (a + b) left many)

  pub fits_rest : a < left → ltb b (left - a) ≡ fits a b left
  unfolding fits
  fits_rest h = go (ltb b (left - a)) refl
    where
      go : (c : Bool) → ltb b (left - a) ≡ c → c ≡ ltb (a + b) left
      go true e =
          let few = ltb-true b (left - a) e in
          let fit : a + b < left = omega arith in sym (lt-ltb (a + b) left fit)
      go false e =
          let many = ltb-false b (left - a) e in
          let over : left ≤ a + b = omega arith in sym (le-ltb (a + b) left over)

  pub fits_is : a + b < left → fits a b left ≡ true
  unfolding fits
  fits_is h = lt-ltb (a + b) left h

  -- where they fit, both sides' cells are fewer than are left
  pub fits_both : fits a b left ≡ true → a + b < left
  unfolding fits
  fits_both h = ltb-true (a + b) left h

  pub fits_found : (c : Bool) → c ≡ fits a b left → c ≡ true → a + b < left
  fits_found c is h = fits_both (sym is ∙ h)

-- subterms in order
module _ (i j end : ℕ) where
  pub order_first : i < j → ltb j end ≡ in_order i j end
  unfolding in_order
  order_first h = simp (lt-ltb i j h)

  pub order_not : j ≤ i → false ≡ in_order i j end
  unfolding in_order
  order_not h = simp (le-ltb i j h)

  pub order_is : i < j → j < end → in_order i j end ≡ true
  unfolding in_order
  order_is h m = simp (lt-ltb i j h, lt-ltb j end m)

  pub order_both : in_order i j end ≡ true → (i < j) × (j < end)
  unfolding in_order
  order_both h = go (ltb i j) refl (ltb j end) refl h
    where
      go : (a : Bool) → ltb i j ≡ a → (b : Bool) → ltb j end ≡ b → a && b ≡ true → (i < j) × (j < end)
      go true d true e z = (ltb-true i j d, ltb-true j end e)
      go true d false e z = let y : ◌≡◌ {A = ℕ} 0 1 = cc in absurd (omega arith)
      go false d b e z = let y : ◌≡◌ {A = ℕ} 0 1 = cc in absurd (omega arith)

-- what a negation that fails tells
pub of_not : (a : Bool) → not a ≡ false → a ≡ true
of_not true e = refl
of_not false e = sym e

-- a conjunction by its first part
pub both_first : (a b : Bool) → a ≡ false → false ≡ a && b
both_first a b h = rw h

pub both_second : (a b c : Bool) → a ≡ true → c ≡ b → c ≡ a && b
both_second a b c h e = rw h e

module _ (w : List ℕ) (n : ℕ) where
  pub ended_not : n ≡ 0 → false ≡ ended w n
  unfolding ended
  ended_not h = simp (eq-eqb n 0 h)

  pub ended_state : (n ≡ 0 → ⊥) → eqb (state w n) at_end ≡ ended w n
  unfolding ended
  ended_state h = simp (ne_eqb n 0 h)

module _ (p w : List ℕ) (n t : ℕ) where
  pub bound_parallel : kind p t ≡ 6 → n ≡ bound p w n t
  unfolding bound
  bound_parallel h = simp (eq-eqb (kind p t) 6 h)

  pub bound_there : (kind p t ≡ 6 → ⊥) → (around p t ≡ 0 → ⊥) → n ≡ bound p w n t
  unfolding bound beyond
  bound_there h m = simp (ne_eqb (kind p t) 6 h, ne_eqb (around p t) 0 m)

  pub bound_beyond : (kind p t ≡ 6 → ⊥) → around p t ≡ 0 → frame w n ≡ bound p w n t
  unfolding bound beyond
  bound_beyond h m = simp (ne_eqb (kind p t) 6 h, eq-eqb (around p t) 0 m)

module _ (p w : List ℕ) (n t b : ℕ) where
  pub followed_there : (around p t ≡ 0 → ⊥) → true ≡ followed p w n t b
  unfolding followed
  followed_there h = simp (ne_eqb (around p t) 0 h)

  pub followed_beyond : around p t ≡ 0 → not (eqb (frame w n) b) ≡ followed p w n t b
  unfolding followed
  followed_beyond h = simp (eq-eqb (around p t) 0 h)

-- a term by its kind
module _ (k e x : ℕ) (c : Bool) (l r : Offer) where
  pub kind_low : k < 4 → own k e ≡ by_kind k e x c l r
  unfolding by_kind
  kind_low h = simp (lt-ltb k 4 h)

  pub kind_high : 6 < k → own k e ≡ by_kind k e x c l r
  unfolding by_kind
  kind_high h = let above : 4 ≤ k = omega arith in simp (le-ltb k 4 above, lt-ltb 6 k h)

  pub kind_apart : 4 ≤ k → k ≤ 6 → c ≡ false → unseen false false ≡ by_kind k e x c l r
  unfolding by_kind
  kind_apart h g m = simp (le-ltb k 4 h, le-ltb 6 k g, m)

  pub kind_sequence : k ≡ 5 → c ≡ true → settled true l ≡ by_kind k e x c l r
  unfolding by_kind
  kind_sequence h m = rw (h, m)

  pub kind_split : 4 ≤ k → k ≤ 6 → (k ≡ 5 → ⊥) → c ≡ true → combined k x false l r ≡ by_kind k e x c l r
  unfolding by_kind
  kind_split h g n m = simp (le-ltb k 4 h, le-ltb 6 k g, ne_eqb k 5 n, m)

module _ (p x : List ℕ) (t end : ℕ) where
  pub term_none : (f : ℕ) → f ≡ 0 → unseen false false ≡ of_term f p x t end
  unfolding of_term
  term_none f h = rw h

  pub term_more : (f g : ℕ) → f ≡ suc g → of_term f p x t end
      ≡ by_kind (kind p t) (operand p t) (look term_room x t) (in_order (first_of t) (second p t) end)
      (of_term g p x (first_of t) (second p t)) (of_term g p x (second p t) end)
  unfolding of_term
  term_more f g h = rw h

  -- with a level left; a term has its kind and operand, and its subterms their order and offers
  module _ (f g k : ℕ) (more : f ≡ suc g) (is : k ≡ kind p t) (o : Offer) where
    pub term_low : (e : ℕ) → e ≡ operand p t → k < 4 → o ≡ own k e → o ≡ of_term f p x t end
    term_low e same h r = rw (term_more f g more, ← is, ← same) (r ∙ kind_low k e _ _ _ _ h)

    pub term_high : (e : ℕ) → e ≡ operand p t → 6 < k → o ≡ own k e → o ≡ of_term f p x t end
    term_high e same h r = rw (term_more f g more, ← is, ← same) (r ∙ kind_high k e _ _ _ _ h)

    module _ (i j : ℕ) (c : Bool) (first_is : i ≡ first_of t) (second_is : j ≡ second p t)
        (ordered : c ≡ in_order i j end) where
      pub term_apart : 4 ≤ k → k ≤ 6 → c ≡ false → o ≡ unseen false false → o ≡ of_term f p x t end
      term_apart h u m r =
          rw (term_more f g more, ← is, ← first_is, ← second_is, ← ordered)
          (r ∙ kind_apart k _ _ c _ _ h u m)

      module _ (l : Offer) (left : l ≡ of_term g p x i j) (together : c ≡ true) where
        pub term_sequence : k ≡ 5 → o ≡ settled true l → o ≡ of_term f p x t end
        term_sequence h r =
            rw (term_more f g more, ← is, ← first_is, ← second_is, ← ordered, ← left)
            (r ∙ kind_sequence k _ _ c l _ h together)

        pub term_split : (s : ℕ) (m : Offer) → m ≡ of_term g p x j end → s ≡ look term_room x t
            → 4 ≤ k → k ≤ 6 → (k ≡ 5 → ⊥) → o ≡ combined k s false l m → o ≡ of_term f p x t end
        term_split s m right set_is h u n r =
            rw (term_more f g more, ← is, ← first_is, ← second_is, ← ordered, ← left, ← right, ← set_is)
            (r ∙ kind_split k _ s c l m h u n together)

-- what stands at a reference by its state
module _ (s : ℕ) (c nested : Bool) (o q : Offer) where
  pub state_still : 1 < s → unseen false false ≡ by_state s c nested o q
  unfolding by_state
  state_still h = simp (lt-ltb 1 s h)

  pub state_resting : s ≡ 0 → settled nested o ≡ by_state s c nested o q
  unfolding by_state
  state_resting h = rw h

  pub state_crowded : s ≤ 1 → (s ≡ 0 → ⊥) → c ≡ false → unseen false false ≡ by_state s c nested o q
  unfolding by_state
  state_crowded h n m = simp (le-ltb 1 s h, ne_eqb s 0 n, m)

  pub state_entered : s ≤ 1 → (s ≡ 0 → ⊥) → c ≡ true → settled nested q ≡ by_state s c nested o q
  unfolding by_state
  state_entered h n m = simp (le-ltb 1 s h, ne_eqb s 0 n, m)

module _ (p x w : List ℕ) (left n t b : ℕ) where
  pub at_none : (f : ℕ) → left ≡ 0 → unseen false false ≡ at f p x w left n t b
  unfolding at
  at_none zero h = refl
  at_none (suc f) h = simp (eq-eqb left 0 h)

  module _ (f g : ℕ) (more : f ≡ suc g) (some : left ≡ 0 → ⊥) where
    pub at_side : (o : Offer) → n ≡ 0 → o ≡ of_term levels p x t term_room → o ≡ at f p x w left n t b
    unfolding at
    at_side o h there = rw (more, ne_eqb left 0 some, eq-eqb n 0 h) there

    pub at_more : (d : ℕ) → (n ≡ 0 → ⊥) → d ≡ term w n → at f p x w left n t b
        ≡ by_state (state w n) (fits (first_cells w n) (second_cells w n) left) (followed p w n d b)
        (of_term levels p x d term_room)
        (combined (kind p d) (look term_room x d) (ended w (first w n) && ended w (second_side w n))
        (at g p x w (first_cells w n) (first w n) (first_of d) (bound p w n d))
        (at g p x w (second_cells w n) (second_side w n) (second p d) (bound p w n d)))
    unfolding at
    at_more d here term_is = rw (more, ne_eqb left 0 some, ne_eqb n 0 here, term_is)

    module _ (here : n ≡ 0 → ⊥) (s : ℕ) (state_is : s ≡ state w n) (o : Offer) where
      pub at_still : 1 < s → o ≡ unseen false false → o ≡ at f p x w left n t b
      at_still h r = rw (at_more (term w n) here refl, ← state_is) (r ∙ state_still s _ _ _ _ h)

      -- with both sides' cells, which fit or do not
      module _ (e m : ℕ) (c : Bool) (first_has : e ≡ first_cells w n) (second_has : m ≡ second_cells w n)
          (fit : c ≡ fits e m left) where
        pub at_crowded : s ≤ 1 → (s ≡ 0 → ⊥) → c ≡ false → o ≡ unseen false false → o ≡ at f p x w left n t b
        at_crowded h z u r =
            rw (at_more (term w n) here refl, ← state_is, ← first_has, ← second_has, ← fit)
            (r ∙ state_crowded s c _ _ _ h z u)

      module _ (d : ℕ) (nested : Bool) (q : Offer) (term_is : d ≡ term w n)
          (nested_is : nested ≡ followed p w n d b) (settled_is : o ≡ settled nested q) where
        pub at_rest : s ≡ 0 → q ≡ of_term levels p x d term_room → o ≡ at f p x w left n t b
        at_rest h there =
            rw (at_more d here term_is, ← state_is, ← nested_is, ← there)
            (settled_is ∙ state_resting s _ nested q _ h)

        -- with both sides' cells e and m, references i and j, terms u and v, and offers
        module _ (e m i j u v c k y : ℕ) (l r : Offer) (room both : Bool)
            (first_has : e ≡ first_cells w n) (second_has : m ≡ second_cells w n) (fit : room ≡ fits e m left)
            (first_is : i ≡ first w n) (second_is : j ≡ second_side w n) (bound_is : c ≡ bound p w n d)
            (first_term : u ≡ first_of d) (second_term : v ≡ second p d) (kind_is : k ≡ kind p d)
            (set_is : y ≡ look term_room x d) (ended_are : both ≡ ended w i && ended w j)
            (first_told : l ≡ at g p x w e i u c) (second_told : r ≡ at g p x w m j v c) where
          pub at_split : s ≤ 1 → (s ≡ 0 → ⊥) → room ≡ true → q ≡ combined k y both l r
              → o ≡ at f p x w left n t b
          at_split h z roomy sides =
              rw (
                at_more d here term_is,
                ← state_is,
                ← nested_is,
                ← first_has,
                ← second_has,
                ← fit,
                ← first_is,
                ← second_is,
                ← bound_is,
                ← first_term,
                ← second_term,
                ← kind_is,
                ← set_is,
                ← ended_are,
                ← first_told,
                ← second_told,
                ← sides,
              )
              (settled_is ∙ state_entered s room nested _ q h z roomy)

module _ (p x w : List ℕ) (n : ℕ) where
  pub offered_start : n ≡ 0 → unseen true false ≡ offered p x w n
  unfolding offered
  offered_start h = simp (eq-eqb n 0 h)

  pub offered_there : (n ≡ 0 → ⊥) → at cell_room p x w cell_room n 0 0 ≡ offered p x w n
  unfolding offered
  offered_there h = simp (ne_eqb n 0 h)
