-- Fig. 7 with tracking stripped is Fig. 3 and the STOP step. By induction over the derivation a tracked step is
-- a plain one, or a τ that changes nothing; by induction over the process every plain step has an address, which
-- serves wherever the process stands. A rule around a side's step is one law for both sides. Assumes nothing.
use Rattle.std.specs.Prelude.{ℕ, ◌≡◌, refl, Bool, true, List, ◌∷◌, ◌++◌, ◌⊎◌}
use Rattle.std.proofs.Common.{sym, ap, ap₂, ◌∙◌, inl, inr}
use Rattle.std.proofs.Math.Option.{Option, none, some}
use Rattle.std.proofs.Math.ListN.{get_elem?}
use Rattle.terms.specs.Term.{call, SKIP, Operator, external, parallel, Term}
use Rattle.terms.specs.Term as Term
use Rattle.places.specs.Place.{Place}
use Rattle.rules.specs.declared.Event.{Event}
use Rattle.rules.specs.declared.Event.TheVariants.{Tau as τ, Tick as ✓, Visible as visible}
use Rattle.rules.specs.Process.{Digit, one, two, three, Address, Split, choice, together, Process, leaf}
use Rattle.rules.specs.Process.{prefix, internal, split, sequence, Ω, ⊥', joined, untouched, right_side}
use Rattle.rules.specs.Process.{rhs}
use Rattle.rules.specs.Track.{At, Outcome, labelled, prefixed, around, jointly, carried, started, ended}
use Rattle.sets.specs.EventSet.{member}
use Rattle.rules.specs.Tracking.{Visible, Shows, passes, hides_τ, hides-✓, Tracks, process_call}
use Rattle.rules.specs.Tracking.{prefixing, skip, stop, internal_choice_1, internal_choice_2}
use Rattle.rules.specs.Tracking.{external_choice_1, external_choice_2, external_choice_3}
use Rattle.rules.specs.Tracking.{external_choice_4, sequential_composition_1, sequential_composition_2}
use Rattle.rules.specs.Tracking.{synchronized_parallelism_1, synchronized_parallelism_2}
use Rattle.rules.specs.Tracking.{synchronized_parallelism_3, synchronized_parallelism_4}
use Rattle.rules.specs.Plain.{Plain, binary, plain, plain_side, plain_rhs, operator, strip, Steps}
use Rattle.rules.specs.Plain as Fig3
use Rattle.rules.specs.Stopping.{LeadsToSTOP, there, by_first, by_second, inside}

-- a term before any step strips to the term
strip_joined : (o : Operator) (w : Place) (P Q : Process)
    → strip (joined o w P Q) ≡ binary o (strip P) (strip Q)
unfolding strip joined operator
strip_joined Term.internal w P Q = refl
strip_joined external w P Q = refl
strip_joined Term.sequence w P Q = refl
strip_joined (parallel x) w P Q = refl

pub strip_untouched : (w : Place) (t : Term) → strip (untouched w t) ≡ plain t
unfolding strip untouched plain
strip_untouched w (Term.leaf l) = refl
strip_untouched w (Term.prefix e t) = ap (Fig3.prefix e) (strip_untouched _ t)
strip_untouched w (Term.binary o t u) =
    strip_joined o w _ _ ∙ ap₂ (binary o) (strip_untouched _ t) (strip_untouched _ u)

strip_right_side : (n : ℕ) (o : Option Term) → strip (right_side n o) ≡ plain_side o
unfolding strip right_side plain_side
strip_right_side n none = refl
strip_right_side n (some t) = strip_untouched _ t

pub strip_rhs : (ts : List Term) (n : ℕ) → strip (rhs ts n) ≡ plain_rhs ts n
strip_rhs ts n = strip_right_side n (get_elem? ts n)

-- only Ω strips to Ω
Ω-stripped : (P : Process) → strip P ≡ Fig3.ended → P ≡ Ω
unfolding strip
Ω-stripped (leaf w l) e = cc
Ω-stripped (prefix w n P) e = cc
Ω-stripped (internal w P Q) e = cc
Ω-stripped (split w o m n P Q) e = cc
Ω-stripped (sequence w b P Q) e = cc
Ω-stripped Ω e = refl
Ω-stripped ⊥' e = cc

-- what a parallel shows of τ is τ, and it never shows ✓
shows_τ : {x : ℕ} {u e : Event} → Shows x u e → u ≡ τ → e ≡ τ
shows_τ (passes n) t = t
shows_τ hides_τ t = refl
shows_τ hides-✓ t = refl

shows_no-✓ : {x : ℕ} {u : Event} → Shows x u ✓ → ⊥
shows_no-✓ = elim [ ]

-- a plain step of P by e to q; or the STOP step that an address names, a τ that changes nothing
abbrev Seen : List Term → Address → Process → Event → Plain → Type 0
Seen ts a P e q = Steps ts (strip P) e q ⊎ ((e ≡ τ) × (q ≡ strip P) × LeadsToSTOP a P)

-- address a leads P, which stands at s, by e to what strips to q; and wherever it stands
abbrev Reached : List Term → Address → Process → At → Event → Plain → Type 0
Reached ts a P s e q = (r : Outcome) × Tracks ts a P s r × (r.event ≡ e) × (strip r.process ≡ q)

abbrev Reaches : List Term → Address → Process → Event → Plain → Type 0
Reaches ts a P e q = (s : At) → Reached ts a P s e q

-- a side of a split, its digit, and the stripped split with the side put in
data Side : Split → Process → Process → Type 0 where
  left : {w : Place} {o : Split} {m n : Option ℕ} {P Q : Process} → Side o P (split w o m n P Q)
  right : {w : Place} {o : Split} {m n : Option ℕ} {P Q : Process} → Side o Q (split w o m n P Q)

abbrev digit : {o : Split} {P S : Process} → Side o P S → Digit
digit left = one
digit right = two

abbrev put : {o : Split} {P S : Process} → Side o P S → Plain → Plain
put (left {o} {Q}) p = binary (operator o) p (strip Q)
put (right {o} {P}) q = binary (operator o) (strip P) q

-- where a side's event u leaves its split standing, the event that the split makes
data Leaves : Split → Event → Event → Type 0 where
  waits : {u : Event} → u ≡ τ → Leaves choice u τ
  shows : {x : ℕ} {u e : Event} → Shows x u e → Leaves (together x) u e

module _ {ts : List Term} where
  -- ✓ leads to Ω
  pub ends_at_Ω : {a : Address} {P : Process} {s : At} {r : Outcome} → Tracks ts a P s r
      → r.event ≡ ✓ → r.process ≡ Ω
  unfolding labelled prefixed around jointly carried started ended
  ends_at_Ω process_call e = cc
  ends_at_Ω prefixing e = cc
  ends_at_Ω skip e = refl
  ends_at_Ω stop e = cc
  ends_at_Ω internal_choice_1 e = cc
  ends_at_Ω internal_choice_2 e = cc
  ends_at_Ω (external_choice_1 d t) e = cc
  ends_at_Ω (external_choice_2 d t) e = cc
  ends_at_Ω (external_choice_3 d v) e = ends_at_Ω d e
  ends_at_Ω (external_choice_4 d v) e = ends_at_Ω d e
  ends_at_Ω (sequential_composition_1 d n) e = absurd (n e)
  ends_at_Ω (sequential_composition_2 d t) e = cc
  ends_at_Ω (synchronized_parallelism_1 d v) e = absurd (shows_no-✓ (rw e at v))
  ends_at_Ω (synchronized_parallelism_2 d v) e = absurd (shows_no-✓ (rw e at v))
  ends_at_Ω (synchronized_parallelism_3 d d' t t' i c) e = cc
  ends_at_Ω (synchronized_parallelism_4 t t') e = refl

  -- a visible step is no STOP step
  seen_visible : {a : Address} {P : Process} {q : Plain} {u e : Event} → Seen ts a P u q → u ≡ e → Visible e
      → Steps ts (strip P) e q
  seen_visible (inl h) t v = rw t at h
  seen_visible (inr h) t v = absurd (rw (sym t ∙ h.0) at v)

  -- a rule around a step, by which τ passes as τ, is one around the STOP step
  seen_inside : {a b : Address} {P S : Process} {q : Plain} {u e : Event} (f : Plain → Plain) → strip S ≡ f (strip P)
      → (LeadsToSTOP a P → LeadsToSTOP b S) → (u ≡ τ → e ≡ τ)
      → (Steps ts (strip P) u q → Steps ts (f (strip P)) e (f q)) → Seen ts a P u q → Seen ts b S e (f q)
  seen_inside f is leads still rule (inl h) = inl (rw is (rule h))
  seen_inside f is leads still rule (inr h) = inr (still h.0, ap f h.1 ∙ sym is, leads h.2)

  -- with tracking stripped, a step is a plain step of the same event, or the STOP step, which changes nothing, and then its
  -- address leads to a STOP
  pub tracked_plainly : {a : Address} {P : Process} {s : At} {r : Outcome} → Tracks ts a P s r
      → Steps ts (strip P) r.event (strip r.process)
      ⊎ ((r.event ≡ τ) × (strip r.process ≡ strip P) × LeadsToSTOP a P)
  unfolding strip operator labelled prefixed around jointly carried started ended
  tracked_plainly (process_call {n}) = inl (rw (strip_rhs ts n) Fig3.process_call)
  tracked_plainly prefixing = inl Fig3.prefixing
  tracked_plainly skip = inl Fig3.skip
  tracked_plainly stop = inr (refl, refl, there)
  tracked_plainly internal_choice_1 = inl Fig3.internal_choice_1
  tracked_plainly internal_choice_2 = inl Fig3.internal_choice_2
  tracked_plainly (external_choice_1 {Q} d t) =
      seen_inside (λ p. binary external p (strip Q)) refl by_first (λ i. refl)
      (λ h. Fig3.external_choice_1 (rw t at h)) (tracked_plainly d)
  tracked_plainly (external_choice_2 {P} d t) =
      seen_inside (λ q. binary external (strip P) q) refl by_second (λ i. refl)
      (λ h. Fig3.external_choice_2 (rw t at h)) (tracked_plainly d)
  tracked_plainly (external_choice_3 d v) =
      inl (Fig3.external_choice_3 (seen_visible (tracked_plainly d) refl v) v)
  tracked_plainly (external_choice_4 d v) =
      inl (Fig3.external_choice_4 (seen_visible (tracked_plainly d) refl v) v)
  tracked_plainly (sequential_composition_1 {Q} d n) =
      seen_inside (λ p. binary Term.sequence p (strip Q)) refl inside (λ i. i)
      (λ h. Fig3.sequential_composition_1 h n) (tracked_plainly d)
  tracked_plainly (sequential_composition_2 d t) =
      inl (Fig3.sequential_composition_2 (seen_visible (tracked_plainly d) t tt) (ap strip (ends_at_Ω d t)))
  tracked_plainly (synchronized_parallelism_1 {x} {Q} d v) =
      seen_inside (λ p. binary (parallel x) p (strip Q)) refl by_first (shows_τ v)
      (λ h. Fig3.synchronized_parallelism_1 h v) (tracked_plainly d)
  tracked_plainly (synchronized_parallelism_2 {x} {P} d v) =
      seen_inside (λ q. binary (parallel x) (strip P) q) refl by_second (shows_τ v)
      (λ h. Fig3.synchronized_parallelism_2 h v) (tracked_plainly d)
  tracked_plainly (synchronized_parallelism_3 d d' t t' i c) =
      inl (Fig3.synchronized_parallelism_3 (seen_visible (tracked_plainly d) t tt)
      (seen_visible (tracked_plainly d') t' tt) i)
  tracked_plainly (synchronized_parallelism_4 t t') =
      inl (Fig3.synchronized_parallelism_4 (ap strip t) (ap strip t'))

  -- a rule around a step, wherever the step's process stands under it
  reaches_inside : {a a' : Address} {P S : Process} {u e : Event} {p : Plain} (f : Plain → Plain) (g : At → At)
      → ((s : At) (r : Outcome) → Tracks ts a P (g s) r → r.event ≡ u
      → Reached ts a' S s e (f (strip r.process)))
      → Reaches ts a P u p → Reaches ts a' S e (f p)
  reaches_inside f g rule h s =
      let (r, d, t, i) = h (g s) in
      let (r', d', t', i') = rule s r d t in
      (r', d', t', i' ∙ ap f i)

  -- by rule: a side that leaves its split standing, one that is chosen, a sequence, and both sides of a parallel
  reaches_side : {o : Split} {P S : Process} {a : Address} {u e : Event} {p : Plain} (k : Side o P S)
      → Reaches ts a P u p → Leaves o u e → Reaches ts (digit k ∷ a) S e (put k p)
  unfolding strip operator around
  reaches_side (left {Q}) h (waits t) =
      reaches_inside (λ p. binary external p (strip Q)) _
      (λ s r d i. (_, external_choice_1 d (i ∙ t), refl, refl)) h
  reaches_side (right {P}) h (waits t) =
      reaches_inside (λ q. binary external (strip P) q) _
      (λ s r d i. (_, external_choice_2 d (i ∙ t), refl, refl)) h
  reaches_side (left {Q}) h (shows {x} v) =
      reaches_inside (λ p. binary (parallel x) p (strip Q)) _
      (λ s r d i. (_, synchronized_parallelism_1 d (rw i v), refl, refl)) h
  reaches_side (right {P}) h (shows {x} v) =
      reaches_inside (λ q. binary (parallel x) (strip P) q) _
      (λ s r d i. (_, synchronized_parallelism_2 d (rw i v), refl, refl)) h

  reaches_chosen : {P S : Process} {a : Address} {e : Event} {p : Plain} (k : Side choice P S)
      → Reaches ts a P e p → Visible e → Reaches ts (digit k ∷ a) S e p
  unfolding around
  reaches_chosen left h v =
      reaches_inside (λ p. p) _ (λ s r d i. (_, external_choice_3 d (rw i v), i, refl)) h
  reaches_chosen right h v =
      reaches_inside (λ p. p) _ (λ s r d i. (_, external_choice_4 d (rw i v), i, refl)) h

  module _ {a : Address} {w : Place} {b : Bool} {P Q : Process} {e : Event} {p : Plain}
      (h : Reaches ts a P e p) where
    reaches_on : (e ≡ ✓ → ⊥) → Reaches ts a (sequence w b P Q) e (binary Term.sequence p (strip Q))
    unfolding strip carried
    reaches_on n =
        reaches_inside (λ p. binary Term.sequence p (strip Q)) (λ s. s)
        (λ s r d i. (_, sequential_composition_1 d (λ t. n (sym i ∙ t)), i, refl)) h

    reaches_over : e ≡ ✓ → Reaches ts a (sequence w b P Q) τ (strip Q)
    unfolding started
    reaches_over t =
        reaches_inside (λ p. strip Q) (λ s. s)
        (λ s r d i. (_, sequential_composition_2 d (i ∙ t), refl, refl)) h

  reaches_jointly : {a b c : Address} {w : Place} {x k : ℕ} {m n : Option ℕ} {P Q : Process} {u v : Event}
      {p q : Plain} → Reaches ts a P u p → Reaches ts b Q v q
      → u ≡ visible k → v ≡ visible k → member k x ≡ true → c ≡ a ++ b
      → Reaches ts (three ∷ c) (split w (together x) m n P Q) (visible k) (binary (parallel x) p q)
  unfolding strip operator jointly
  reaches_jointly {x} h j e f i c s =
      let (l, d, t, y) = h _ in
      let (r, d', t', y') = j _ in
      (_, synchronized_parallelism_3 d d' (t ∙ e) (t' ∙ f) i c, refl, ap₂ (binary (parallel x)) y y')

  -- a plain step has an address, the same wherever the process stands
  addressed : (P : Process) {e : Event} {q : Plain} → Steps ts (strip P) e q
      → (a : Address) × Reaches ts a P e q
  unfolding strip operator labelled prefixed ended
  addressed (leaf w (call n)) Fig3.process_call = (_, λ s. (_, process_call, refl, strip_rhs ts n))
  addressed (leaf w SKIP) Fig3.skip = (_, λ s. (_, skip, refl, refl))
  addressed (prefix w n P) Fig3.prefixing = (_, λ s. (_, prefixing, refl, refl))
  addressed (internal w P Q) Fig3.internal_choice_1 = (_, λ s. (_, internal_choice_1, refl, refl))
  addressed (internal w P Q) Fig3.internal_choice_2 = (_, λ s. (_, internal_choice_2, refl, refl))
  addressed (split w choice m n P Q) (Fig3.external_choice_1 h) =
      (_, reaches_side left (addressed P h).1 (waits refl))
  addressed (split w choice m n P Q) (Fig3.external_choice_2 h) =
      (_, reaches_side right (addressed Q h).1 (waits refl))
  addressed (split w choice m n P Q) (Fig3.external_choice_3 h v) =
      (_, reaches_chosen left (addressed P h).1 v)
  addressed (split w choice m n P Q) (Fig3.external_choice_4 h v) =
      (_, reaches_chosen right (addressed Q h).1 v)
  addressed (split w (together x) m n P Q) (Fig3.synchronized_parallelism_1 h v) =
      (_, reaches_side left (addressed P h).1 (shows v))
  addressed (split w (together x) m n P Q) (Fig3.synchronized_parallelism_2 h v) =
      (_, reaches_side right (addressed Q h).1 (shows v))
  addressed (split w (together x) m n P Q) (Fig3.synchronized_parallelism_3 h h' i) =
      (_, reaches_jointly (addressed P h).1 (addressed Q h').1 refl refl i refl)
  addressed (split w (together x) m n P Q) (Fig3.synchronized_parallelism_4 t t') =
      (_, λ s. (_, synchronized_parallelism_4 (Ω-stripped P t) (Ω-stripped Q t'), refl, refl))
  addressed (sequence w b P Q) (Fig3.sequential_composition_1 h n) = (_, reaches_on (addressed P h).1 n)
  addressed (sequence w b P Q) (Fig3.sequential_composition_2 h t) = (_, reaches_over (addressed P h).1 refl)
  addressed (leaf w Term.STOP) {e = e} {q = q} x3 = elim x3 [ ]
  addressed Ω {e = e} {q = q} x'' = elim x'' [ ]
  addressed ⊥' {e = e} {q = q} x3 = elim x3 [ ]

-- every plain step has an address, from every process that strips to where it starts, wherever that stands
pub plainly_tracked : (ts : List Term) {p q : Plain} {e : Event} → Steps ts p e q
    → (P : Process) → strip P ≡ p → (s : At)
    → (a : Address) × (r : Outcome) × Tracks ts a P s r × (r.event ≡ e) × (strip r.process ≡ q)
plainly_tracked ts h P t s =
    let (a, reached) = addressed P (rw (← t) at h) in
    let (r, d, e, p) = reached s in
    (a, r, d, e, p)
