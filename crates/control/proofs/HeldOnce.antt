-- The words of a run hold one control at a reference, where the table has every definition that the controls call. A control
-- is unwound to its core: what stands at the reference itself, inside sequences whose numbers the words tell. Of two cores
-- the state word tells one form, the plan one untouched term, and the words of a split's sides whether they have stepped and
-- where they stand; sides have fewer cells than their split. Then the sequences around agree one by one. Assumes nothing.
use Rattle.std.proofs.Common.{ℕ, zero, suc, ◌+◌, ◌≤◌, ◌<◌, ◌≡◌, refl, sym, ap, ap₂, subst, ◌∙◌, true, false}
use Rattle.std.proofs.Common.{List, [], ◌∷◌, arith}
use Rattle.std.proofs.Math.Option.{Option, none, some}
use Rattle.terms.specs.Term.{Term}
use Rattle.places.specs.Place.{Place}
use Rattle.rules.specs.Process.{Split, choice, together, Process, leaf, prefix, internal, split, sequence, Ω, ⊥', cells}
use Rattle.rules.proofs.Ranged.{Calls}
use Rattle.plans.specs.words.Plan.{Layout, second, HoldsTable}
use Rattle.control.specs.words.Control.{state, term, frame, first, second_side, behind, Around, inside, split_kind}
use Rattle.control.specs.words.Control.{split_set, Untouched, Stands, Rests, Splits, HoldsControl}
use Rattle.control.proofs.Chains.{holds_within, Awaiting, wrapped, wrapped_cells, TellsBehind}
use Rattle.control.proofs.TermOnce.{untouched_once}

-- the sequences around what stands at a term, up to a frame, are told
chain_once : (p w : List ℕ) (t f b : ℕ) (ks js : List ℕ) → Around p w t f b ks → Around p w t f b js → ks ≡ js
chain_once p w t f b [] [] a c = refl
chain_once p w t f b [] (j ∷ js) a c = let past : b < f = (c.0 a.0).0 in absurd (omega (arith, a.1))
chain_once p w t f b (k ∷ ks) [] a c = let past : b < f = (a.0 c.0).0 in absurd (omega (arith, c.1))
chain_once p w t f b (k ∷ ks) (j ∷ js) a c =
    let same : k ≡ j = omega (arith, a.1, c.1) in
    let others : ks ≡ js = chain_once p w k (behind p w t f) b ks js a.2
    (subst (λ m. Around p w m (behind p w t f) b js) (sym same) c.2) in
    cc

-- so is what two sides step under, by kind and set
split_told : (k j : Split) → split_kind k ≡ split_kind j → split_set k ≡ split_set j → k ≡ j
unfolding split_kind split_set
split_told choice choice h e = refl
split_told choice (together y) h e = absurd (omega arith)
split_told (together y) choice h e = absurd (omega arith)
split_told (together y) (together z) h e = ap together e

module _ (l : Layout) (p x w : List ℕ) where
  -- a side whose word is a, at reference m or untouched at number i
  abbrev Side : ℕ → ℕ → ℕ → Option ℕ → Process → Type 0
  Side a i b none P = (a ≡ 0) × Untouched l p x w i 0 P
  Side a i b (some m) P = (a ≡ m) × HoldsControl l p x w m b P []

  -- the frame that ends the sequences of a split's sides
  abbrev bound : Split → ℕ → ℕ
  bound k n = inside p k (term w n) n (frame w n)

  -- an entered choice or parallel with its sides
  record Enters (n b : ℕ) (ks : List ℕ) (C : Process) : Type 0 where
    place : Place
    operator : Split
    left_at : Option ℕ
    right_at : Option ℕ
    left : Process
    right : Process
    is : C ≡ split place operator left_at right_at left right
    sized : cells C ≡ suc (cells left + cells right)
    splits : Splits l p x w n b ks place operator left right
    on_left : Side (first w n) (suc (term w n)) (bound operator n) left_at left
    on_right : Side (second_side w n) (second p (term w n)) (bound operator n) right_at right

  -- what stands at a reference itself, inside sequences ks, by the reference's state
  abbrev Core : ℕ → ℕ → ℕ → List ℕ → Process → Type 0
  Core zero n b ks C = Rests l p x w n b ks C
  Core (suc zero) n b ks C = Enters n b ks C
  Core (suc (suc zero)) n b ks C = (ks ≡ []) × (C ≡ Ω)
  Core (suc (suc (suc s))) n b ks C = Stands l p x w n b ks × (C ≡ ⊥')

  -- a control, as its core inside sequences
  record Unwound (n b : ℕ) (R : Process) : Type 0 where
    core : Process
    numbers : List ℕ
    waiting : List Awaiting
    stands : Core (state w n) n b numbers core
    tells : TellsBehind l p x w numbers waiting
    is : wrapped core waiting ≡ R

  module _ (n b : ℕ) where
    core_unwound : (s : ℕ) (C : Process) (ks : List ℕ) (qs : List Awaiting) → state w n ≡ s → Core s n b ks C
        → TellsBehind l p x w ks qs → Unwound n b (wrapped C qs)
    core_unwound s C ks qs e h t = record {
      core = C;
      numbers = ks;
      waiting = qs;
      stands = subst (λ r. Core r n b ks C) (sym e) h;
      tells = t;
      is = refl;
    }

    rests_unwound : (P : Process) (ks : List ℕ) (qs : List Awaiting) → Rests l p x w n b ks P
        → TellsBehind l p x w ks qs → Unwound n b (wrapped P qs)
    rests_unwound P ks qs h t = core_unwound 0 P ks qs h.rests h t

    enters_unwound : (v : Place) (k : Split) (i j : Option ℕ) (P Q : Process) (ks : List ℕ) (qs : List Awaiting)
        → cells (split v k i j P Q) ≡ suc (cells P + cells Q) → Splits l p x w n b ks v k P Q
        → Side (first w n) (suc (term w n)) (bound k n) i P
        → Side (second_side w n) (second p (term w n)) (bound k n) j Q
        → TellsBehind l p x w ks qs → Unwound n b (wrapped (split v k i j P Q) qs)
    enters_unwound v k i j P Q ks qs sized h on_left on_right t =
        core_unwound 1 (split v k i j P Q) ks qs h.enters (record {
          place = v;
          operator = k;
          left_at = i;
          right_at = j;
          left = P;
          right = Q;
          is = refl;
          sized = sized;
          splits = h;
          on_left = on_left;
          on_right = on_right;
        }) t

    unwound : (P : Process) (ks : List ℕ) (qs : List Awaiting) → HoldsControl l p x w n b P ks
        → TellsBehind l p x w ks qs → Unwound n b (wrapped P qs)
    unfolding wrapped cells
    unwound (leaf v f) ks qs h t = rests_unwound (leaf v f) ks qs h t
    unwound (prefix v e P) ks qs h t = rests_unwound (prefix v e P) ks qs h t
    unwound (internal v P Q) ks qs h t = rests_unwound (internal v P Q) ks qs h t
    unwound (split v k none none P Q) ks qs h t = rests_unwound (split v k none none P Q) ks qs h t
    unwound (split v k (some i) none P Q) ks qs h t =
        enters_unwound v k (some i) none P Q ks qs (omega arith) h.0 (h.1, h.3) (h.2, h.4) t
    unwound (split v k none (some j) P Q) ks qs h t =
        enters_unwound v k none (some j) P Q ks qs (omega arith) h.0 (h.1, h.3) (h.2, h.4) t
    unwound (split v k (some i) (some j) P Q) ks qs h t =
        enters_unwound v k (some i) (some j) P Q ks qs (omega arith) h.0 (h.1, h.3) (h.2, h.4) t
    unwound (sequence v false P Q) ks qs h t = rests_unwound (sequence v false P Q) ks qs h t
    unwound (sequence v true P Q) ks qs h t =
        unwound P (h.0 ∷ ks) (record { place = v; right = Q } ∷ qs) h.2 (h.1, t)
    unwound Ω ks qs h t = core_unwound 2 Ω ks qs h.1 (h.2, refl) t
    unwound ⊥' ks qs h t = core_unwound 3 ⊥' ks qs h.1 (h.0, refl) t

-- the right sides of the sequences around call definitions of the table only
abbrev CallsBehind : List Term → List Awaiting → Type 0
CallsBehind ts [] = Unit {0}
CallsBehind ts (q ∷ qs) = Calls ts q.right × CallsBehind ts qs

wrapped_calls : (ts : List Term) (P : Process) (qs : List Awaiting) → Calls ts (wrapped P qs)
    → Calls ts P × CallsBehind ts qs
unfolding wrapped
wrapped_calls ts P [] c = (c, tt)
wrapped_calls ts P (q ∷ qs) c =
    let r = wrapped_calls ts (sequence q.place true P q.right) qs c in (r.0.0, (r.0.1, r.1))

module _ (l : Layout) (p x : List ℕ) (ts : List Term) (table : HoldsTable l p x ts) (w : List ℕ) where
  -- the sequences around are told by their numbers
  tells_once : (ks : List ℕ) (qs rs : List Awaiting) → TellsBehind l p x w ks qs → TellsBehind l p x w ks rs
      → CallsBehind ts qs → CallsBehind ts rs → qs ≡ rs
  tells_once [] [] [] t u c d = refl
  tells_once [] [] (r ∷ rs) t u c d = absurd u
  tells_once [] (q ∷ qs) rs t u c d = absurd t
  tells_once (k ∷ ks) [] rs t u c d = absurd t
  tells_once (k ∷ ks) (q ∷ qs) [] t u c d = absurd u
  tells_once (k ∷ ks) (q ∷ qs) (r ∷ rs) t u c d =
      let place : q.place ≡ r.place = sym t.0.place_is ∙ u.0.place_is in
      let right : q.right ≡ r.right =
      untouched_once l p x ts table w _ _ _ _ _ t.0.right u.0.right c.0 d.0 in
      let same : q ≡ r = ap₂ (λ (v : Place) (R : Process). record { place = v; right = R }) place right in
      ap₂ ◌∷◌ same (tells_once ks qs rs t.1 u.1 c.1 d.1)

  -- the words hold one control, of those of fewer cells than f
  abbrev Below : ℕ → Type 0
  Below f = (n b : ℕ) (P Q : Process) → cells P < f → HoldsControl l p x w n b P [] → HoldsControl l p x w n b Q []
      → Calls ts P → Calls ts Q → P ≡ Q

  module _ (f : ℕ) (below : Below f) where
    side_once : (a i b d : ℕ) (m o : Option ℕ) (P Q : Process) → b ≡ d → cells P < f → Side l p x w a i b m P
        → Side l p x w a i d o Q → Calls ts P → Calls ts Q → (m ≡ o) × (P ≡ Q)
    side_once a i b d none none P Q e few h k called also =
        (refl, untouched_once l p x ts table w i 0 0 P Q h.1 k.1 called also)
    side_once a i b d none (some o) P Q e few h k called also =
        absurd (omega (arith, h.0, k.0, holds_within l p x w o d Q [] k.1))
    side_once a i b d (some m) none P Q e few h k called also =
        absurd (omega (arith, h.0, k.0, holds_within l p x w m b P [] h.1))
    side_once a i b d (some m) (some o) P Q e few h k called also =
        let same : m ≡ o = sym h.0 ∙ k.0 in
        (ap some same, below m b P Q few h.1 (rw (same, e) k.1) called also)

    module _ (n b : ℕ) where
      enters_once : (ks js : List ℕ) (C D : Process) → cells C ≤ f → Enters l p x w n b ks C → Enters l p x w n b js D
          → Calls ts C → Calls ts D → C ≡ D
      enters_once ks js C D few h k c d =
          let c' = subst (λ R. Calls ts R) h.is c in
          let d' = subst (λ R. Calls ts R) k.is d in
          let place : h.place ≡ k.place = sym h.splits.place_is ∙ k.splits.place_is in
          let operator : h.operator ≡ k.operator = split_told _ _ (sym h.splits.kind_is ∙ k.splits.kind_is)
          (sym h.splits.set_is ∙ k.splits.set_is) in
          let ends = ap (λ s. bound l p x w s n) operator in
          let left = side_once (first w n) (suc (term w n)) _ _ h.left_at k.left_at h.left k.left ends
          (omega (arith, h.sized)) h.on_left k.on_left c'.0 d'.0 in
          let right = side_once (second_side w n) (second p (term w n)) _ _ h.right_at k.right_at h.right
          k.right ends (omega (arith, h.sized)) h.on_right k.on_right c'.1 d'.1 in
          let left_at : h.left_at ≡ k.left_at = left.0 in
          let right_at : h.right_at ≡ k.right_at = right.0 in
          let on_left : h.left ≡ k.left = left.1 in
          let on_right : h.right ≡ k.right = right.1 in
          let whole = h.is in
          let other_whole = k.is in
          cc

      core_once : (s : ℕ) (ks js : List ℕ) (C D : Process) → cells C ≤ f → Core l p x w s n b ks C
          → Core l p x w s n b js D → Calls ts C → Calls ts D → (C ≡ D) × (ks ≡ js)
      core_once zero ks js C D few h k c d = (
        untouched_once l p x ts table w _ _ _ C D h.untouched_there k.untouched_there c d,
        chain_once p w _ _ b ks js h.stands.chain k.stands.chain,
      )
      core_once (suc zero) ks js C D few h k c d = (
        enters_once ks js C D few h k c d,
        chain_once p w _ _ b ks js h.splits.stands.chain k.splits.stands.chain,
      )
      core_once (suc (suc zero)) ks js C D few h k c d = (h.1 ∙ sym k.1, h.0 ∙ sym k.0)
      core_once (suc (suc (suc s))) ks js C D few h k c d =
          (h.1 ∙ sym k.1, chain_once p w _ _ b ks js h.0.chain k.0.chain)

      unwound_once : (P Q : Process) → cells P ≤ f → Unwound l p x w n b P → Unwound l p x w n b Q
          → Calls ts P → Calls ts Q → P ≡ Q
      unwound_once P Q few h k c d =
          let c' = wrapped_calls ts h.core h.waiting (subst (λ R. Calls ts R) (sym h.is) c) in
          let d' = wrapped_calls ts k.core k.waiting (subst (λ R. Calls ts R) (sym k.is) d) in
          let fewer : cells h.core ≤ f =
          omega (arith, few, wrapped_cells h.core h.waiting, ap cells h.is) in
          let (core, numbers) = core_once (state w n) _ _ _ _ fewer h.stands k.stands c'.0 d'.0 in
          let tells = subst (λ ks. TellsBehind l p x w ks k.waiting) (sym numbers) k.tells in
          let waiting = tells_once h.numbers h.waiting k.waiting h.tells tells c'.1 d'.1 in
          sym h.is ∙ ap₂ wrapped core waiting ∙ k.is

  below_once : (f : ℕ) → Below f
  unfolding wrapped
  below_once zero n b P Q few h k c d = absurd (omega arith)
  below_once (suc f) n b P Q few h k c d =
      unwound_once f (below_once f) n b P Q (omega arith) (unwound l p x w n b P [] [] h tt)
      (unwound l p x w n b Q [] [] k tt) c d

  pub control_once : (n b : ℕ) (P Q : Process) → HoldsControl l p x w n b P [] → HoldsControl l p x w n b Q []
      → Calls ts P → Calls ts Q → P ≡ Q
  control_once n b P Q h k c d = below_once (suc (cells P)) n b P Q (omega arith) h k c d
