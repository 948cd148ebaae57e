-- The sequences around what stands at a term go by the sequence that the plan has around the term and by the
-- frame: a call inside a sequence, and a choice inside one, put their own labelled reference before the frame.
-- So a chain up to the frame of a choice's sides and the chain around the choice are one, and a side for which
-- the choice is dropped keeps the sequences of both. Assumes nothing.
use Rattle.std.proofs.Common.{ℕ, suc, ◌+◌, ◌≤◌, ◌<◌, ◌≡◌, refl, subst, ap, sym, ◌∙◌, Bool, true, false, List}
use Rattle.std.proofs.Common.{[], ◌∷◌, ◌++◌, arith, length, eqb, eqb-true, eq-eqb, ne_eqb}
use Rattle.std.proofs.lemmas.Bool.{eqb-false}
use Rattle.std.proofs.Math.Option.{none, some}
use Rattle.lines.specs.Line.{choose}
use Rattle.places.specs.Place.{Place}
use Rattle.rules.specs.Process.{Split, choice, Process, leaf, prefix, internal, split, sequence, Ω, ⊥', cells}
use Rattle.plans.specs.words.Plan.{Layout, around}
use Rattle.control.specs.words.Control.{label, term, frame, innermost, behind, Around, beyond, inside}
use Rattle.control.specs.words.Control.{Stands, Rests, Splits, Follows, HoldsControl}

module _ (p w : List ℕ) where
  -- innermost sequence and frame behind it, by whether the plan has a sequence around the term
  module _ (t f : ℕ) where
    bare_innermost : around p t ≡ 0 → innermost p w t f ≡ around p (term w f)
    unfolding innermost
    bare_innermost h = simp (eq-eqb (around p t) 0 h)

    bare_behind : around p t ≡ 0 → behind p w t f ≡ frame w f
    unfolding behind
    bare_behind h = simp (eq-eqb (around p t) 0 h)

    in_innermost : (around p t ≡ 0 → ⊥) → innermost p w t f ≡ around p t
    unfolding innermost
    in_innermost h = simp (ne_eqb (around p t) 0 h)

    in_behind : (around p t ≡ 0 → ⊥) → behind p w t f ≡ f
    unfolding behind
    in_behind h = simp (ne_eqb (around p t) 0 h)

  bare_beyond : (t n f : ℕ) → around p t ≡ 0 → beyond p t n f ≡ f
  unfolding beyond
  bare_beyond t n f h = simp (eq-eqb (around p t) 0 h)

  in_beyond : (t n f : ℕ) → (around p t ≡ 0 → ⊥) → beyond p t n f ≡ n
  unfolding beyond
  in_beyond t n f h = simp (ne_eqb (around p t) 0 h)

  -- a term counts only by the sequence that the plan has around it
  innermost_term : (t u f : ℕ) → around p t ≡ around p u → innermost p w u f ≡ innermost p w t f
  unfolding innermost
  innermost_term t u f e = rw e

  behind_term : (t u f : ℕ) → around p t ≡ around p u → behind p w t f ≡ behind p w u f
  unfolding behind
  behind_term t u f e = rw e

  pub around_term : (t u f b : ℕ) (ks : List ℕ) → around p t ≡ around p u → Around p w t f b ks
      → Around p w u f b ks
  around_term t u f b [] e a = (sym e ∙ a.0, a.1)
  around_term t u f b (k ∷ ks) e a = (
    λ h. a.0 (e ∙ h),
    innermost_term t u f e ∙ a.1,
    subst (λ m. Around p w k m b ks) (behind_term t u f e) a.2,
  )

  -- a term inside the sequence of number k has it around it, and then what the sequence has
  pub around_inside : (u f b k : ℕ) (ks : List ℕ) → around p u ≡ suc k → Around p w k f b ks
      → Around p w u f b (k ∷ ks)
  around_inside u f b k ks e a =
      let some_around : around p u ≡ 0 → ⊥ = λ h. omega arith in (
        λ h. absurd (some_around h),
        in_innermost u f some_around ∙ e,
        rw (in_behind u f some_around) a,
      )

  -- what a sequence starts has the sequences behind it around it
  pub around_started : (t f b k u : ℕ) (ks : List ℕ) → around p u ≡ around p k → Around p w t f b (k ∷ ks)
      → Around p w u (behind p w t f) b ks
  around_started t f b k u ks e a = around_term k u (behind p w t f) b ks (sym e) a.2

  -- a frame is the last one, or leads on through a labelled reference
  by_frame : (F : ℕ → Type 0) (t f : ℕ) → (around p t ≡ 0 → F f) → F (behind p w t f) → F f
  by_frame F t f here there = go (eqb (around p t) 0) refl
    where
      go : (c : Bool) → eqb (around p t) 0 ≡ c → F f
      go true e = here (eqb-true (around p t) 0 e)
      go false e = subst F (in_behind t f (eqb-false (around p t) 0 e)) there

  pub around_past : (t f b : ℕ) (ks : List ℕ) → Around p w t f b ks → b ≤ f
  around_past t f b [] a = let e : f ≡ b = a.1 in omega arith
  around_past t f b (k ∷ ks) a = by_frame (λ g. b ≤ g) t f (λ h. let l : b < f = (a.0 h).0 in omega arith)
      (around_past k (behind p w t f) b ks a.2)

  -- a call, or a choice, at a reference that is labelled leads to what the plan has nothing around
  module _ (n t f u b : ℕ) (is_term : term w n ≡ t) (is_frame : frame w n ≡ f) (marked : label w n ≡ 0 → ⊥)
      (within : b < n) (bare : around p u ≡ 0) where
    called_inside : (ks : List ℕ) → (around p t ≡ 0 → ⊥) → Around p w t f b ks → Around p w u n b ks
    called_inside [] h a = absurd (h a.0)
    called_inside (k ∷ ks) h a = (
      λ _. (within, marked),
      bare_innermost u n bare ∙ ap (around p) is_term ∙ sym (in_innermost t f h) ∙ a.1,
      subst (λ m. Around p w k m b ks) (in_behind t f h ∙ sym is_frame ∙ sym (bare_behind u n bare)) a.2,
    )

    pub around_called : (ks : List ℕ) → Around p w t f b ks → Around p w u (beyond p t n f) b ks
    around_called ks a = go (eqb (around p t) 0) refl
      where
        go : (c : Bool) → eqb (around p t) 0 ≡ c → Around p w u (beyond p t n f) b ks
        go true e =
            let h = eqb-true (around p t) 0 e in
            rw (bare_beyond t n f h) (around_term t u f b ks (h ∙ sym bare) a)
        go false e =
            let h = eqb-false (around p t) 0 e in
            rw (in_beyond t n f h) (called_inside ks h a)

  -- a choice at m, with term u and frame g, inside sequences up to frame b
  module _ (m u g b : ℕ) (is_term : term w m ≡ u) (is_frame : frame w m ≡ g) (marked : label w m ≡ 0 → ⊥)
      (within : b < m) (outer : List ℕ) (around_choice : Around p w u g b outer) where
    -- b is no later than the frame of its sides
    pub frame_within : b ≤ beyond p u m g
    unfolding beyond
    frame_within = go (eqb (around p u) 0)
      where
        go : (c : Bool) → b ≤ choose c g m
        go true = around_past u g b outer around_choice
        go false = omega arith

    pub around_joined : (t f : ℕ) (ks : List ℕ) → Around p w t f (beyond p u m g) ks
        → Around p w t f b (ks ++ outer)
    around_joined t f [] a =
        subst (λ h. Around p w t h b outer) (sym a.1)
        (around_called m u g t b is_term is_frame marked within a.0 outer around_choice)
    around_joined t f (k ∷ ks) a = (
      λ h. (let l : beyond p u m g < f = (a.0 h).0 in omega (arith, frame_within), (a.0 h).1),
      a.1,
      around_joined k (behind p w t f) ks a.2,
    )

module _ (l : Layout) (p x w : List ℕ) where
  -- Ω has no sequences around it
  pub end_alone : (n b : ℕ) (P : Process) (k : ℕ) (ks : List ℕ) → P ≡ Ω → HoldsControl l p x w n b P (k ∷ ks) → ⊥
  end_alone n b P k ks e h =
      let nil : k ∷ ks ≡ [] = (subst (λ R. HoldsControl l p x w n b R (k ∷ ks)) e h).2 in
      let z : ◌≡◌ {A = ℕ} 0 1 = cc in
      omega arith

  pub holds_within : (n b : ℕ) (P : Process) (ks : List ℕ) → HoldsControl l p x w n b P ks → b < n
  holds_within n b (leaf v f) ks h = h.stands.within
  holds_within n b (prefix v e P) ks h = h.stands.within
  holds_within n b (internal v P Q) ks h = h.stands.within
  holds_within n b (split v k none none P Q) ks h = h.stands.within
  holds_within n b (split v k (some i) none P Q) ks h = h.0.stands.within
  holds_within n b (split v k none (some j) P Q) ks h = h.0.stands.within
  holds_within n b (split v k (some i) (some j) P Q) ks h = h.0.stands.within
  holds_within n b (sequence v false P Q) ks h = h.stands.within
  holds_within n b (sequence v true P Q) ks h = holds_within n b P (h.0 ∷ ks) h.2
  holds_within n b Ω ks h = h.0
  holds_within n b ⊥' ks h = h.0.within

  -- a choice at m that is dropped for a side: around the side's own sequences are the choice's; Ω has none
  module _ (m u g b : ℕ) (is_term : term w m ≡ u) (is_frame : frame w m ≡ g) (marked : label w m ≡ 0 → ⊥)
      (within : b < m) (outer : List ℕ) (around_choice : Around p w u g b outer) (n : ℕ) where
    pub dropped_within : inside p choice u m g < n → b < n
    unfolding inside
    dropped_within h =
        omega (arith, frame_within p w m u g b is_term is_frame marked within outer around_choice)

    stands_dropped : (ks : List ℕ) → Stands l p x w n (inside p choice u m g) ks
        → Stands l p x w n b (ks ++ outer)
    unfolding inside
    stands_dropped ks s = record {
      within = dropped_within s.within;
      framed = s.framed;
      chain = around_joined p w m u g b is_term is_frame marked within outer around_choice _ _ ks s.chain;
    }

    rests_dropped : (ks : List ℕ) (P : Process) → Rests l p x w n (inside p choice u m g) ks P
        → Rests l p x w n b (ks ++ outer) P
    rests_dropped ks P r = record {
      stands = stands_dropped ks r.stands;
      rests = r.rests;
      bare = r.bare;
      untouched_there = r.untouched_there;
    }

    splits_dropped : (ks : List ℕ) (v : Place) (k : Split) (P Q : Process)
        → Splits l p x w n (inside p choice u m g) ks v k P Q → Splits l p x w n b (ks ++ outer) v k P Q
    splits_dropped ks v k P Q s = record {
      stands = stands_dropped ks s.stands;
      enters = s.enters;
      marked = s.marked;
      place_is = s.place_is;
      kind_is = s.kind_is;
      set_is = s.set_is;
      left_cells = s.left_cells;
      right_cells = s.right_cells;
    }

    pub holds_dropped : (P : Process) (ks : List ℕ) → (P ≡ Ω → outer ≡ [])
        → HoldsControl l p x w n (inside p choice u m g) P ks → HoldsControl l p x w n b P (ks ++ outer)
    holds_dropped (leaf v f) ks last h = rests_dropped ks _ h
    holds_dropped (prefix v e P) ks last h = rests_dropped ks _ h
    holds_dropped (internal v P Q) ks last h = rests_dropped ks _ h
    holds_dropped (split v k none none P Q) ks last h = rests_dropped ks _ h
    holds_dropped (split v k (some i) none P Q) ks last h =
        (splits_dropped ks v k P Q h.0, h.1, h.2, h.3, h.4)
    holds_dropped (split v k none (some j) P Q) ks last h =
        (splits_dropped ks v k P Q h.0, h.1, h.2, h.3, h.4)
    holds_dropped (split v k (some i) (some j) P Q) ks last h =
        (splits_dropped ks v k P Q h.0, h.1, h.2, h.3, h.4)
    holds_dropped (sequence v false P Q) ks last h = rests_dropped ks _ h
    holds_dropped (sequence v true P Q) ks last h =
        (h.0, h.1, holds_dropped P (h.0 ∷ ks) (λ e. absurd (end_alone n _ P h.0 ks e h.2)) h.2)
    holds_dropped Ω ks last h =
        (dropped_within h.0, h.1, rw (last refl, h.2))
    holds_dropped ⊥' ks last h = (stands_dropped ks h.0, h.1)

-- a sequence that a step has entered, by its place and its right
pub record Awaiting : Type 0 where
  pub place : Place
  pub right : Process

-- a process inside sequences, innermost first
unfoldable pub wrapped : Process → List Awaiting → Process
wrapped P [] = P
wrapped P (q ∷ qs) = wrapped (sequence q.place true P q.right) qs

pub wrapped_cells : (P : Process) (qs : List Awaiting) → cells (wrapped P qs) ≡ length qs + cells P
unfolding wrapped cells
wrapped_cells P [] = omega arith
wrapped_cells P (q ∷ qs) = omega (arith, wrapped_cells (sequence q.place true P q.right) qs)

module _ (l : Layout) (p x w : List ℕ) where
  -- the sequences of numbers ks, one for one
  abbrev pub TellsBehind : List ℕ → List Awaiting → Type 0
  TellsBehind [] [] = Unit {0}
  TellsBehind [] (q ∷ qs) = ⊥
  TellsBehind (k ∷ ks) [] = ⊥
  TellsBehind (k ∷ ks) (q ∷ qs) = Follows l p x w k q.place q.right × TellsBehind ks qs

  -- what has them around it is held inside them, and the other way round
  pub wrapped_holds : (n b : ℕ) (P : Process) (ks : List ℕ) (qs : List Awaiting) (outer : List ℕ) → TellsBehind ks qs
      → HoldsControl l p x w n b P (ks ++ outer) → HoldsControl l p x w n b (wrapped P qs) outer
  unfolding wrapped
  wrapped_holds n b P [] [] outer t h = h
  wrapped_holds n b P [] (q ∷ qs) outer t h = absurd t
  wrapped_holds n b P (k ∷ ks) [] outer t h = absurd t
  wrapped_holds n b P (k ∷ ks) (q ∷ qs) outer t h =
      wrapped_holds n b (sequence q.place true P q.right) ks qs outer t.1 (k, t.0, h)
