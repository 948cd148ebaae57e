-- What each rule makes of the weights of its premises, by what its tests found: whether there is a weight,
-- the kind, and the event. Assumes nothing.
use Rattle.std.proofs.Common.{ℕ, zero, suc, ◌+◌, ◌*◌, ◌-◌, ◌%◌, ◌≤◌, ◌<◌, ◌≡◌, refl, Bool, true, false, eqb}
use Rattle.std.proofs.Common.{arith, le-leb, eq-eqb, ne_eqb}
use Rattle.std.proofs.lemmas.Bool.{lt-leb}
use Rattle.std.proofs.Math.Bool.{and-false}
use Rattle.kinds.specs.Kind as Kind
use Rattle.sets.specs.EventSet.{member}
use Rattle.rules.specs.declared.Event.{Event}
use Rattle.rules.specs.declared.Event.TheVariants.{Tau, Tick, Visible}
use Rattle.control.specs.words.Sums.{capped}
use Rattle.weights.specs.code.Rules.{step, started, settled, by_leaf, barred, stays}
use Rattle.weights.specs.code.Rules.{shown, resized, one, agree, both, ended}
use Rattle.weights.specs.declared.Weight.{Weight}
use Rattle.weights.specs.code.Rules.{Weighed}
use Rattle.std.specs.Prelude.{Some, None}

-- an event is no ✓, and it is none that is shown
abbrev pub NoTick : Event → Type 0
NoTick e = e ≡ Tick → ⊥

abbrev pub NotVisible : Event → Type 0
NotVisible e = (a : ℕ) → e ≡ Visible a → ⊥

-- call, prefix, internal choice, SKIP and STOP
module _ (k operand d : ℕ) (within : Bool) (at size : ℕ) where
  pub prefix_leaf : k ≡ Kind.prefix
      → step (Visible (operand % 256)) at size 2 1 ≡ by_leaf k operand d within at size
  unfolding by_leaf
  prefix_leaf h = rw h

  pub SKIP_leaf : k ≡ Kind.SKIP → (s y : Weighed) → s ≡ step Tick at size 1 0 → y ≡ settled s within
      → y ≡ by_leaf k operand d within at size
  unfolding by_leaf
  SKIP_leaf h s y p q = rw (h, q, p)

  pub call_leaf : k ≡ Kind.call → step Tau at size 1 0 ≡ by_leaf k operand d within at size
  unfolding by_leaf
  call_leaf h = rw h

  pub STOP_leaf : k ≡ Kind.STOP → step Tau at size 1 0 ≡ by_leaf k operand d within at size
  unfolding by_leaf
  STOP_leaf h = rw h

  pub no_leaf : (k ≡ Kind.prefix → ⊥) → (k ≡ Kind.SKIP → ⊥) → (k ≡ Kind.call → ⊥) → (k ≡ Kind.STOP → ⊥)
      → (k ≡ Kind.internal → ⊥) → None ≡ by_leaf k operand d within at size
  unfolding by_leaf
  no_leaf p s c t i = simp (
    ne_eqb k Kind.prefix p,
    ne_eqb k Kind.SKIP s,
    ne_eqb k Kind.call c,
    ne_eqb k Kind.STOP t,
    ne_eqb k Kind.internal i,
  )

  module _ (is : k ≡ Kind.internal) where
    no_digit : d ≡ 0 → None ≡ by_leaf k operand d within at size
    unfolding by_leaf
    no_digit h = rw (is, h)

    no_side : 2 < d → None ≡ by_leaf k operand d within at size
    unfolding by_leaf
    no_side h = rw is (simp (le-leb 1 d (omega arith), lt-leb d 2 h))

    pub no_choice : (d ≡ 1 → ⊥) → (d ≡ 2 → ⊥) → None ≡ by_leaf k operand d within at size
    no_choice one two = go d refl
      where
        go : (e : ℕ) → d ≡ e → None ≡ by_leaf k operand d within at size
        go zero e = no_digit e
        go (suc zero) e = absurd (one e)
        go (suc (suc zero)) e = absurd (two e)
        go (suc (suc (suc n))) e = no_side (omega arith)

    pub chosen_leaf : (d ≡ 0 → ⊥) → d ≤ 2 → (i : ℕ) (y : Weighed) → i ≡ capped (at + 1)
        → y ≡ step Tau i size 1 0 → y ≡ by_leaf k operand d within at size
    unfolding by_leaf
    chosen_leaf h j i y p q = rw (is, q, p) (simp (le-leb 1 d (omega arith), le-leb d 2 j))

-- a ✓ starts a sequence's right, another event starts nothing
unless_tick : (e : Event) (w : Weight) → NoTick e → Some w ≡ started e w
unfolding started
unless_tick Tau w t = refl
unless_tick (Visible e) w t = refl
unless_tick Tick w t = absurd (t refl)

module _ (found : Weighed) (within : Bool) where
  pub settled_nothing : found ≡ None → None ≡ settled found within
  unfolding settled
  settled_nothing h = rw h

  module _ (w : Weight) (is : found ≡ Some w) where
    pub settled_outside : within ≡ false → Some w ≡ settled found within
    unfolding settled
    settled_outside h = rw (is, h)

    module _ (inside : within ≡ true) where
      pub settled_on : NoTick w.event → Some w ≡ settled found within
      unfolding settled
      settled_on t = rw (is, inside) (unless_tick w.event w t)

      pub settled_tick : w.event ≡ Tick → (s n a : ℕ) → s ≡ w.size - 1 → n ≡ capped (w.nodes + 1)
          → a ≡ capped (w.arcs + 1)
          → Some (record {
            event = Tau;
            at = w.at;
            size = s;
            nodes = n;
            arcs = a;
            meetings = w.meetings;
            met = 0;
          }) ≡ settled found within
      unfolding settled started
      settled_tick e s n a p q r = rw (is, inside, e, p, q, r)

-- a split, by its kind and the event of its side
module _ (k : ℕ) (other : k ≡ Kind.parallel → ⊥) where
  pub free_choice : (x : ℕ) (e : Event) → false ≡ barred k x e
  unfolding barred
  free_choice x Tau = refl
  free_choice x Tick = refl
  free_choice x (Visible v) = simp (ne_eqb k Kind.parallel other)

  pub choice_shows : (e : Event) → e ≡ Tick → Tick ≡ shown k e
  unfolding shown
  choice_shows e h = rw h (simp (ne_eqb k Kind.parallel other))

  pub choice_ends : (e : Event) → (e ≡ Tau → ⊥) → false ≡ stays k e
  unfolding stays
  choice_ends Tau h = absurd (h refl)
  choice_ends Tick h = simp (ne_eqb k Kind.parallel other)
  choice_ends (Visible v) h = simp (ne_eqb k Kind.parallel other)

module _ (k : ℕ) where
  pub free_silent : (x : ℕ) (e : Event) → NotVisible e → false ≡ barred k x e
  unfolding barred
  free_silent x Tau h = refl
  free_silent x Tick h = refl
  free_silent x (Visible v) h = absurd (h v refl)

  pub stays_tau : (e : Event) → e ≡ Tau → true ≡ stays k e
  unfolding stays
  stays_tau e h = rw h

  pub shows_on : (e : Event) → NoTick e → e ≡ shown k e
  unfolding shown
  shows_on Tau t = refl
  shows_on Tick t = absurd (t refl)
  shows_on (Visible v) t = refl

  pub parts_silent : (x : ℕ) (e f : Event) → NotVisible e → false ≡ agree k x e f
  unfolding agree
  parts_silent x Tau f t = refl
  parts_silent x Tick f t = refl
  parts_silent x (Visible a) f t = absurd (t a refl)

  pub parts_across : (x : ℕ) (e f : Event) (a : ℕ) → e ≡ Visible a → NotVisible f → false ≡ agree k x e f
  unfolding agree
  parts_across x e f a h t = rw h (go f t)
    where
      go : (f : Event) → NotVisible f → false ≡ agree k x (Visible a) f
      go Tau t = refl
      go Tick t = refl
      go (Visible b) t = absurd (t b refl)

  module _ (parallel : k ≡ Kind.parallel) where
    pub stays_parallel : (e : Event) → true ≡ stays k e
    unfolding stays
    stays_parallel Tau = refl
    stays_parallel Tick = rw parallel
    stays_parallel (Visible v) = rw parallel

    pub shows_tick : (e : Event) → e ≡ Tick → Tau ≡ shown k e
    unfolding shown
    shows_tick e h = rw (h, parallel)

    pub barred_visible : (x : ℕ) (e : Event) (v : ℕ) → e ≡ Visible v → member v x ≡ barred k x e
    unfolding barred
    barred_visible x e v h = rw (h, parallel)

  module _ (x : ℕ) (e f : Event) (a b : ℕ) (left : e ≡ Visible a) (right : f ≡ Visible b) where
    pub parts_apart : (a ≡ b → ⊥) → false ≡ agree k x e f
    unfolding agree
    parts_apart h = rw (left, right) (simp (ne_eqb a b h, and-false (eqb k Kind.parallel)))

    pub agree_on : a ≡ b → barred k x e ≡ agree k x e f
    unfolding agree barred
    agree_on h = rw (left, right) (simp (eq-eqb a b h))

-- a split's rules for one side's step
module _ (k x : ℕ) (found : Weighed) (size own other : ℕ) (within : Bool) where
  pub one_nothing : found ≡ None → None ≡ one k x found size own other within
  unfolding one
  one_nothing h = rw h

  module _ (w : Weight) (is : found ≡ Some w) where
    pub one_barred : barred k x w.event ≡ true → None ≡ one k x found size own other within
    unfolding one
    one_barred h = rw (is, h)

    module _ (free : barred k x w.event ≡ false) where
      pub one_stays : stays k w.event ≡ true → (e : Event) (r s : ℕ) → r ≡ size - own
          → s ≡ capped (r + w.size) → e ≡ shown k w.event → Some (resized e s w) ≡ one k x found size own other within
      unfolding one
      one_stays h e r s p q z = rw (is, free, h, z, q, p)

      pub one_resolves : stays k w.event ≡ false → (r s t u : ℕ) (y : Weighed)
          → r ≡ size - own → s ≡ r - other → t ≡ s - 1 → u ≡ capped (t + w.size)
          → y ≡ settled (Some (resized w.event u w)) within → y ≡ one k x found size own other within
      unfolding one
      one_resolves h r s t u y p q l m e = rw (is, free, h, e, m, l, q, p)

-- a parallel's rule for a joint step
module _ (k x : ℕ) (left right : Weighed) (size own other : ℕ) where
  pub both_nothing : left ≡ None → None ≡ both k x left right size own other
  unfolding both
  both_nothing h = rw h

  module _ (l : Weight) (is : left ≡ Some l) where
    pub both_half : right ≡ None → None ≡ both k x left right size own other
    unfolding both
    both_half h = rw (is, h)

    module _ (r : Weight) (across : right ≡ Some r) where
      pub both_apart : agree k x l.event r.event ≡ false
          → None ≡ both k x left right size own other
      unfolding both
      both_apart h = rw (is, across, h)

      pub both_meet : agree k x l.event r.event ≡ true → (i j s t n a p q m d : ℕ) → i ≡ size - own
          → j ≡ i - other → s ≡ capped (j + l.size) → t ≡ capped (s + r.size)
          → n ≡ capped (l.nodes + r.nodes) → a ≡ capped (l.arcs + r.arcs)
          → p ≡ capped (l.meetings + r.meetings) → q ≡ capped (l.met * r.met) → m ≡ capped (p + q)
          → d ≡ capped (l.met + r.met)
          → Some (record {
            event = l.event;
            at = r.at;
            size = t;
            nodes = n;
            arcs = a;
            meetings = m;
            met = d;
          }) ≡ both k x left right size own other
      unfolding both
      both_meet h i j s t n a p q m d ei ej es et en ea ep eq em ed =
          rw (is, across, h, et, es, ej, ei, en, ea, em, ep, eq, ed)

-- a parallel whose sides have ended
pub ended_settles : (at size parents : ℕ) (within : Bool) (i j : ℕ) (y : Weighed) → i ≡ capped (at + 1)
    → j ≡ size - 2
    → y ≡ settled
    (Some (record {
      event = Tick;
      at = i;
      size = j;
      nodes = 0;
      arcs = parents;
      meetings = 0;
      met = 0;
    }))
    within
    → y ≡ ended at size parents within
unfolding ended
ended_settles at size parents within i j y p q e = rw (e, p, q)
