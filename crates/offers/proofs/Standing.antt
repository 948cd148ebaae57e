-- What is told at a reference is what the control that stands there offers, with ✓ as τ where sequences are
-- around it: by induction on the control along the words that hold it, which tell each side's cells, so that none
-- lacks any. An untouched term goes by its plan; of a choice or a parallel each side goes on, stepped or not.
-- Assumes nothing.
use Rattle.std.proofs.Common.{ℕ, suc, ◌+◌, ◌-◌, ◌≤◌, ◌<◌, ◌≡◌, refl, ap, sym, ◌∙◌, Bool, true, false, ◌&&◌}
use Rattle.std.proofs.Common.{◌||◌, not, List, [], ◌∷◌, arith, add-one, eqb, eq-eqb, ne_eqb, eqb-true}
use Rattle.std.proofs.lemmas.Bool.{eqb-false}
use Rattle.std.proofs.Math.Option.{Option, none, some}
use Rattle.frames.specs.TableFrame.{term_room}
use Rattle.places.specs.Place.{Place}
use Rattle.columns.specs.words.Columns.{look}
use Rattle.columns.proofs.Laws.{look_in}
use Rattle.rules.specs.Process.{Process, leaf, prefix, internal, split, sequence, Ω, ⊥', Split, choice}
use Rattle.rules.specs.Process.{together, cells}
use Rattle.rules.specs.Step.{at_Ω}
use Rattle.rules.specs.Offers.{offers_τ, offers-✓, offers_event, plain_τ}
use Rattle.plans.specs.words.Plan.{Layout, kind, second, around}
use Rattle.control.specs.words.Control.{state, term, frame, first, second_side, at_end, inside, split_kind}
use Rattle.control.specs.words.Control.{split_set, Around, Untouched, Rests, Splits, HoldsControl}
use Rattle.control.specs.words.Control.{first_cells, second_cells}
use Rattle.offering.specs.code.Offering.{Offer, unseen, settled, combined}
use Rattle.offers.specs.code.Following.{of_term, levels, followed, bound, ended, at}
use Rattle.offers.specs.words.Told.{offer_of, Low}
use Rattle.offers.proofs.Returns.{one_less, first_in, ended_not, ended_state, followed_there}
use Rattle.offers.proofs.Returns.{followed_beyond, at_side, at_more, state_still, state_resting}
use Rattle.offers.proofs.Returns.{state_entered, fits_is}
use Rattle.offers.proofs.Untouched.{in_plan, no_Ω, untouched_told}

-- whether there are sequences around
unfoldable pub nested : List ℕ → Bool
nested [] = false
nested (k ∷ ks) = true

-- a cell at least
pub some_cells : (P : Process) → 0 < cells P
unfolding cells
some_cells (leaf v f) = omega arith
some_cells (prefix v e P) = omega arith
some_cells (internal v P Q) = omega arith
some_cells (split v k none none P Q) = omega arith
some_cells (split v k none (some j) P Q) = omega arith
some_cells (split v k (some i) j P Q) = omega arith
some_cells (sequence v false P Q) = omega arith
some_cells (sequence v true P Q) = omega arith
some_cells Ω = omega arith
some_cells ⊥' = omega arith

-- ✓ told as τ: of nothing it is nothing, and told once it is told
settled_nothing : (b : Bool) → unseen false false ≡ settled b (unseen false false)
unfolding settled
settled_nothing true = refl
settled_nothing false = refl

settled_twice : (b : Bool) (o : Offer) → settled true o ≡ settled b (settled true o)
unfolding settled
settled_twice true o = rw (once o.tau o.tick, once o.plain o.tick)
  where
    once : (a c : Bool) → (a || c) || false ≡ (a || c)
    once true c = refl
    once false true = refl
    once false false = refl
settled_twice false o = refl

-- an entered sequence's offers are its left's, inside one sequence more; Ω and ⊥ offer nothing
within_sequence : (v : Place) (P Q : Process) (k : ℕ) (ks : List ℕ)
    → settled (nested (k ∷ ks)) (offer_of P) ≡ settled (nested ks) (offer_of (sequence v true P Q))
unfolding nested settled offers_τ offers-✓ offers_event plain_τ
within_sequence v P Q k ks = settled_twice (nested ks) (offer_of P)

nothing_Ω : (ks : List ℕ) → settled (nested ks) (unseen false false) ≡ settled (nested ks) (offer_of Ω)
unfolding offers_τ offers-✓ offers_event plain_τ
nothing_Ω ks = refl

nothing-⊥ : (ks : List ℕ) → settled (nested ks) (unseen false false) ≡ settled (nested ks) (offer_of ⊥')
unfolding offers_τ offers-✓ offers_event plain_τ
nothing-⊥ ks = refl

-- two sides together
sides_told : (v : Place) (k : Split) (m n : Option ℕ) (P Q : Process)
    → combined (split_kind k) (split_set k) (at_Ω P && at_Ω Q) (offer_of P) (offer_of Q)
    ≡ offer_of (split v k m n P Q)
unfolding combined split_kind split_set offers_τ offers-✓ offers_event plain_τ
sides_told v choice m n P Q = refl
sides_told v (together y) m n P Q = refl

-- the bound of the sides
pub bound_told : (p w : List ℕ) (n d : ℕ) (k : Split) → kind p d ≡ split_kind k
    → bound p w n d ≡ inside p k d n (frame w n)
unfolding bound inside split_kind
bound_told p w n d choice h = rw h
bound_told p w n d (together y) h = rw h

pub some_split : (k : Split) → 0 < split_kind k
unfolding split_kind
some_split choice = omega arith
some_split (together y) = omega arith

-- a sequence is found around what stands at a reference where there is one
followed_told : (p w : List ℕ) (n d b : ℕ) (ks : List ℕ) → Around p w d (frame w n) b ks
    → followed p w n d b ≡ nested ks
unfolding nested
followed_told p w n d b [] h =
    sym (followed_beyond p w n d b h.0) ∙ ap not (eq-eqb (frame w n) b h.1)
followed_told p w n d b (k ∷ ks) h = go (eqb (around p d) 0) refl
  where
    go : (c : Bool) → eqb (around p d) 0 ≡ c → followed p w n d b ≡ true
    go true e =
        let z = eqb-true (around p d) 0 e in
        let above = (h.0 z).0 in
        sym (followed_beyond p w n d b z) ∙ ap not (ne_eqb (frame w n) b (λ q. omega arith))
    go false e = sym (followed_there p w n d b (eqb-false (around p d) 0 e))

module _ (l : Layout) (p x w : List ℕ) where
  -- what stands at a reference stands behind its bound
  pub beyond_bound : (P : Process) (n b : ℕ) (ks : List ℕ) → HoldsControl l p x w n b P ks → b < n
  beyond_bound (leaf v f) n b ks h = h.stands.within
  beyond_bound (prefix v e P) n b ks h = h.stands.within
  beyond_bound (internal v P Q) n b ks h = h.stands.within
  beyond_bound (split v k none none P Q) n b ks h = h.stands.within
  beyond_bound (split v k none (some j) P Q) n b ks h = h.0.stands.within
  beyond_bound (split v k (some i) none P Q) n b ks h = h.0.stands.within
  beyond_bound (split v k (some i) (some j) P Q) n b ks h = h.0.stands.within
  beyond_bound (sequence v false P Q) n b ks h = h.stands.within
  beyond_bound (sequence v true P Q) n b ks h = beyond_bound P n b (h.0 ∷ ks) h.2
  beyond_bound Ω n b ks h = h.0
  beyond_bound ⊥' n b ks h = h.0.within

  -- inside a sequence nothing is at Ω
  inside_no_Ω : (P : Process) (n b k : ℕ) (ks : List ℕ) → HoldsControl l p x w n b P (k ∷ ks) → at_Ω P ≡ false
  unfolding at_Ω
  inside_no_Ω (leaf v f) n b k ks h = refl
  inside_no_Ω (prefix v e P) n b k ks h = refl
  inside_no_Ω (internal v P Q) n b k ks h = refl
  inside_no_Ω (split v s i j P Q) n b k ks h = refl
  inside_no_Ω (sequence v c P Q) n b k ks h = refl
  inside_no_Ω Ω n b k ks h = let e = h.2 in let z : ◌≡◌ {A = ℕ} 0 1 = cc in absurd (omega arith)
  inside_no_Ω ⊥' n b k ks h = refl

  -- the state tells whether a control is at Ω
  pub end_told : (P : Process) (n b : ℕ) (ks : List ℕ) → HoldsControl l p x w n b P ks
      → eqb (state w n) at_end ≡ at_Ω P
  unfolding at_Ω
  end_told (leaf v f) n b ks h = rw h.rests
  end_told (prefix v e P) n b ks h = rw h.rests
  end_told (internal v P Q) n b ks h = rw h.rests
  end_told (split v k none none P Q) n b ks h = rw h.rests
  end_told (split v k none (some j) P Q) n b ks h = rw h.0.enters
  end_told (split v k (some i) none P Q) n b ks h = rw h.0.enters
  end_told (split v k (some i) (some j) P Q) n b ks h = rw h.0.enters
  end_told (sequence v false P Q) n b ks h = rw h.rests
  end_told (sequence v true P Q) n b ks h =
      end_told P n b (h.0 ∷ ks) h.2 ∙ inside_no_Ω P n b h.0 ks h.2
  end_told Ω n b ks h = rw h.1
  end_told ⊥' n b ks h = rw h.1

  pub ended_told : (P : Process) (n b : ℕ) (ks : List ℕ) → HoldsControl l p x w n b P ks → ended w n ≡ at_Ω P
  ended_told P n b ks h =
      let above = beyond_bound P n b ks h in
      sym (ended_state w n (λ z. omega arith)) ∙ end_told P n b ks h

  module _ (low : Low l) where
    pub untouched_offers : (i o : ℕ) (P : Process) → Untouched l p x w i o P
        → of_term levels p x i term_room ≡ offer_of P
    untouched_offers i o P h =
        untouched_told l p x low h.tree (l.place i) i o h.planned ∙ sym (ap offer_of h.is)

    -- told with f levels, where so many cells are left
    abbrev Tells : ℕ → ℕ → ℕ → ℕ → ℕ → Offer → Type 0
    Tells f left n t b o = at f p x w left n t b ≡ o

    -- a term that no step has touched
    rests_told : (P : Process) (n t b left f : ℕ) (ks : List ℕ) → Rests l p x w n b ks P → 0 < left → left ≤ f
        → Tells f left n t b (settled (nested ks) (offer_of P))
    rests_told P n t b left f ks h any m =
        let more = one_less f (λ z. omega arith) in
        let here : n ≡ 0 → ⊥ = λ z. omega (arith, h.stands.within) in
        rw (
          at_more p x w left n t b f (f - 1) more (λ z. omega arith) (term w n) here refl,
          followed_told p w n (term w n) b ks h.stands.chain,
          untouched_offers (term w n) _ P h.untouched_there,
        )
        (sym (state_resting (state w n) _ (nested ks) (offer_of P) _ h.rests))

    -- Ω and ⊥
    still_told : (n t b left f : ℕ) (ks : List ℕ) → b < n → 0 < left → left ≤ f → 1 < state w n
        → Tells f left n t b (settled (nested ks) (unseen false false))
    still_told n t b left f ks above any m h =
        let more = one_less f (λ z. omega arith) in
        let here : n ≡ 0 → ⊥ = λ z. omega arith in
        at_more p x w left n t b f (f - 1) more (λ z. omega arith) (term w n) here refl
        ∙ sym (state_still (state w n) _ _ _ _ h) ∙ settled_nothing (nested ks)

    -- a side at reference i, told by term t where it has not stepped: it offers what P does, and has ended
    -- where P has
    abbrev Side : ℕ → ℕ → ℕ → ℕ → ℕ → Process → Type 0
    Side f left i t c P = Tells f left i t c (offer_of P) × (ended w i ≡ at_Ω P)

    bare_side : (P : Process) (f left i t c : ℕ) → left ≡ cells P → left ≤ f → i ≡ 0
        → Untouched l p x w t 0 P → Side f left i t c P
    bare_side P f left i t c has m e h =
        let any = some_cells P in
        let more = one_less f (λ z. omega arith) in (
          sym (at_side p x w left i t c f (f - 1) more (λ z. omega arith) (offer_of P) e
              (sym (untouched_offers t 0 P h))),
          sym (ended_not w i e) ∙ rw h.is (sym (no_Ω (l.place t) h.tree)),
        )

    -- P's offers are told wherever it stands, where no fewer cells are left than it has
    abbrev Told : Process → Type 0
    Told P = (n t b left f : ℕ) (ks : List ℕ) → HoldsControl l p x w n b P ks → cells P ≤ left → left ≤ f
        → Tells f left n t b (settled (nested ks) (offer_of P))

    stepped_side : (P : Process) → Told P → (f left i j t c : ℕ) → left ≡ cells P → left ≤ f → i ≡ j
        → HoldsControl l p x w j c P [] → Side f left i t c P
    unfolding nested settled
    stepped_side P told f left i j t c has m e h =
        rw e (told j t c left f [] h (omega arith) m, ended_told P j c [] h)

    -- an entered choice or parallel, from its sides
    split_told : (P Q : Process) (n t b left f g : ℕ) (ks : List ℕ) (v : Place) (k : Split) (i j : Option ℕ)
        → Splits l p x w n b ks v k P Q → cells P + cells Q < left → f ≡ suc g
        → Side g (first_cells w n) (first w n) (suc (term w n)) (inside p k (term w n) n (frame w n)) P
        → Side g (second_cells w n) (second_side w n) (second p (term w n)) (inside p k (term w n) n (frame w n)) Q
        → Tells f left n t b (settled (nested ks) (offer_of (split v k i j P Q)))
    split_told P Q n t b left f g ks v k i j h few more one two =
        let d = term w n in
        let here : n ≡ 0 → ⊥ = λ z. omega (arith, h.stands.within) in
        let there : d < term_room = in_plan p d (omega (arith, h.kind_is, some_split k)) in
        let set_is : look term_room x d ≡ split_set k = sym (look_in term_room x d there) ∙ h.set_is in
        let fit = fits_is (first_cells w n) (second_cells w n) left (omega (arith, h.left_cells, h.right_cells)) in
        rw (
          at_more p x w left n t b f g more (λ z. omega arith) d here refl,
          followed_told p w n d b ks h.stands.chain,
          bound_told p w n d k h.kind_is,
          h.kind_is,
          set_is,
          ← first_in d there,
          add-one,
          one.0,
          two.0,
          one.1,
          two.1,
          sides_told v k i j P Q,
        )
        (sym (state_entered (state w n) _ (nested ks) _ _ (omega (arith, h.enters))
        (λ z. omega (arith, h.enters)) fit))

    pub offers_told : (P : Process) → Told P
    unfolding cells
    offers_told (leaf v q) n t b left f ks h m r = rests_told (leaf v q) n t b left f ks h (omega arith) r
    offers_told (prefix v e P) n t b left f ks h m r = rests_told (prefix v e P) n t b left f ks h (omega arith) r
    offers_told (internal v P Q) n t b left f ks h m r =
        rests_told (internal v P Q) n t b left f ks h (omega arith) r
    offers_told (split v k none none P Q) n t b left f ks h m r =
        rests_told (split v k none none P Q) n t b left f ks h (omega arith) r
    offers_told (split v k none (some j) P Q) n t b left f ks h m r =
        let one = h.0.left_cells in
        let two = h.0.right_cells in
        split_told P Q n t b left f (f - 1) ks v k none (some j) h.0 (omega arith) (one_less f (λ z. omega arith))
        (bare_side P (f - 1) _ (first w n) _ _ one (omega arith) h.1 h.3)
        (stepped_side Q (offers_told Q) (f - 1) _ (second_side w n) j _ _ two (omega arith) h.2 h.4)
    offers_told (split v k (some i) none P Q) n t b left f ks h m r =
        let one = h.0.left_cells in
        let two = h.0.right_cells in
        split_told P Q n t b left f (f - 1) ks v k (some i) none h.0 (omega arith) (one_less f (λ z. omega arith))
        (stepped_side P (offers_told P) (f - 1) _ (first w n) i _ _ one (omega arith) h.1 h.3)
        (bare_side Q (f - 1) _ (second_side w n) _ _ two (omega arith) h.2 h.4)
    offers_told (split v k (some i) (some j) P Q) n t b left f ks h m r =
        let one = h.0.left_cells in
        let two = h.0.right_cells in
        split_told P Q n t b left f (f - 1) ks v k (some i) (some j) h.0 (omega arith) (one_less f (λ z. omega arith))
        (stepped_side P (offers_told P) (f - 1) _ (first w n) i _ _ one (omega arith) h.1 h.3)
        (stepped_side Q (offers_told Q) (f - 1) _ (second_side w n) j _ _ two (omega arith) h.2 h.4)
    offers_told (sequence v false P Q) n t b left f ks h m r =
        rests_told (sequence v false P Q) n t b left f ks h (omega arith) r
    offers_told (sequence v true P Q) n t b left f ks h m r =
        offers_told P n t b left f (h.0 ∷ ks) h.2 (omega arith) r ∙ within_sequence v P Q h.0 ks
    offers_told Ω n t b left f ks h m r =
        still_told n t b left f ks h.0 (omega arith) r (omega (arith, h.1)) ∙ nothing_Ω ks
    offers_told ⊥' n t b left f ks h m r =
        still_told n t b left f ks h.0.within (omega arith) r (omega (arith, h.1)) ∙ nothing-⊥ ks
