-- What stands where in control: in every run each literal of control carries its place in the table, and what
-- no step has begun is the table's term there, untouched; the call that control starts as, which has the place of
-- a left-hand side, is the one exception. And Ω stands only at the top or as a side of a parallel, since only a
-- step of ✓ leaves Ω. By the derivation, rule by rule; for a run, by its accepted steps. Assumes nothing.
use Rattle.std.proofs.Common.{ℕ, ◌≡◌, refl, sym, subst, ap, ◌∙◌, false, List, [], ◌∷◌, ◌++◌, ◌⊎◌, inl, inr}
use Rattle.std.proofs.Common.{arith, eqb}
use Rattle.std.proofs.Math.Option.{Option, none, some}
use Rattle.std.proofs.Math.ListN.{get_elem?}
use Rattle.lines.specs.Line.{choose}
use Rattle.terms.specs.Term.{Operator, external, parallel, Term}
use Rattle.terms.specs.Term as Term
use Rattle.places.specs.Place.{Place}
use Rattle.rules.specs.declared.Event.{Event}
use Rattle.rules.specs.declared.Event.TheVariants.{Tau as τ, Tick as ✓}
use Rattle.rules.specs.Process.{Address, Split, choice, together, Process, leaf, prefix, internal}
use Rattle.rules.specs.Process.{split, sequence, Ω, ⊥', below, joined, untouched, right_side, main}
use Rattle.rules.specs.Plain.{operator}
use Rattle.rules.specs.Track.{At, Outcome, labelled, prefixed, around, jointly, carried, started, ended}
use Rattle.rules.specs.Tracking.{Tracks, process_call, prefixing, skip, stop, internal_choice_1}
use Rattle.rules.specs.Tracking.{internal_choice_2, external_choice_1, external_choice_2}
use Rattle.rules.specs.Tracking.{external_choice_3, external_choice_4, sequential_composition_1}
use Rattle.rules.specs.Tracking.{sequential_composition_2, synchronized_parallelism_1}
use Rattle.rules.specs.Tracking.{synchronized_parallelism_2, synchronized_parallelism_3}
use Rattle.rules.specs.Tracking.{synchronized_parallelism_4}
use Rattle.rules.specs.Step.{at_Ω}
use Rattle.rules.specs.Run.{State, after, Reached, begun, goes_on}
use Rattle.rules.proofs.Answered.{accepted_exactly}
use Rattle.rules.proofs.Drawn.{untouched_on}

-- the subterm at a digit
unfoldable pub child : ℕ → Option Term → Option Term
child x none = none
child x (some (Term.leaf l)) = none
child x (some (Term.prefix e t)) = choose (eqb x 2) (some t) none
child x (some (Term.binary o t u)) = choose (eqb x 1) (some t) (choose (eqb x 2) (some u) none)

-- the subterm at a path
unfoldable pub followed : Option Term → List ℕ → Option Term
followed o [] = o
followed o (x ∷ p) = followed (child x o) p

-- the table's term at a place
abbrev pub found : List Term → Place → Option Term
found ts w = followed (get_elem? ts w.definition) w.path

followed_below : (o : Option Term) (p : List ℕ) (x : ℕ) → followed o (p ++ (x ∷ [])) ≡ child x (followed o p)
unfolding followed
followed_below o [] x = refl
followed_below o (y ∷ p) x = followed_below (child y o) p x

pub found_below : (ts : List Term) (w : Place) (x : ℕ) (o : Option Term) → found ts w ≡ o
    → found ts (below w x) ≡ child x o
found_below ts w x o e = followed_below (get_elem? ts w.definition) w.path x ∙ ap (child x) e

-- a side that no step has begun is the term's own; one that has stepped is as `R` says
abbrev pub Begun : Option ℕ → Place → Term → Process → Type 0 → Type 0
Begun none w t P R = P ≡ untouched w t
Begun (some n) w t P R = R

-- each literal has its place
abbrev pub Placed : List Term → Process → Type 0
Placed ts (leaf w l) = found ts w ≡ some (Term.leaf l)
Placed ts (prefix w e P) = (t : Term) × (found ts w ≡ some (Term.prefix e t)) × (P ≡ untouched (below w 2) t)
Placed ts (internal w P Q) =
    (t : Term) × (u : Term) × (found ts w ≡ some (Term.binary Term.internal t u))
    × (P ≡ untouched (below w 1) t) × (Q ≡ untouched (below w 2) u)
Placed ts (split w k m n P Q) =
    (t : Term) × (u : Term) × (found ts w ≡ some (Term.binary (operator k) t u))
    × Begun m (below w 1) t P (Placed ts P) × Begun n (below w 2) u Q (Placed ts Q)
Placed ts (sequence w b P Q) =
    (t : Term) × (u : Term) × (found ts w ≡ some (Term.binary Term.sequence t u))
    × Placed ts P × (Q ≡ untouched (below w 2) u)
Placed ts Ω = Unit {0}
Placed ts ⊥' = Unit {0}

-- or it is where control starts
abbrev pub Located : List Term → Process → Type 0
Located ts (leaf w l) = Placed ts (leaf w l) ⊎ (leaf w l ≡ main)
Located ts (prefix w e P) = Placed ts (prefix w e P)
Located ts (internal w P Q) = Placed ts (internal w P Q)
Located ts (split w k m n P Q) = Placed ts (split w k m n P Q)
Located ts (sequence w b P Q) = Placed ts (sequence w b P Q)
Located ts Ω = Unit {0}
Located ts ⊥' = Unit {0}

pub placed_located : (ts : List Term) (P : Process) → Placed ts P → Located ts P
placed_located ts (leaf w l) p = inl p
placed_located ts (prefix w e P) p = p
placed_located ts (internal w P Q) p = p
placed_located ts (split w k m n P Q) p = p
placed_located ts (sequence w b P Q) p = p
placed_located ts Ω p = tt
placed_located ts ⊥' p = tt

untouched_placed : (ts : List Term) (w : Place) (t : Term) → found ts w ≡ some t → Placed ts (untouched w t)
unfolding untouched joined operator child
untouched_placed ts w (Term.leaf l) e = e
untouched_placed ts w (Term.prefix k t) e = (t, e, refl)
untouched_placed ts w (Term.binary Term.internal t u) e = (t, u, e, refl, refl)
untouched_placed ts w (Term.binary external t u) e = (t, u, e, refl, refl)
untouched_placed ts w (Term.binary Term.sequence t u) e =
    (t, u, e, untouched_placed ts (below w 1) t (found_below ts w 1 _ e), refl)
untouched_placed ts w (Term.binary (parallel x) t u) e = (t, u, e, refl, refl)

rhs_placed : (ts : List Term) (n : ℕ) (o : Option Term) → get_elem? ts n ≡ o → Placed ts (right_side n o)
unfolding right_side followed
rhs_placed ts n none e = tt
rhs_placed ts n (some t) e = untouched_placed ts (record { definition = n; path = [] }) t e

-- a term's part that no step has begun, and a side
part_placed : (ts : List Term) (w : Place) (t : Term) (P : Process) → found ts w ≡ some t → P ≡ untouched w t
    → Placed ts P
part_placed ts w t P e p = subst (Placed ts) (sym p) (untouched_placed ts w t e)

pub side_placed : (ts : List Term) (m : Option ℕ) (w : Place) (t : Term) (P : Process) → found ts w ≡ some t
    → Begun m w t P (Placed ts P) → Placed ts P
side_placed ts none w t P e p = part_placed ts w t P e p
side_placed ts (some n) w t P e p = p

side_located : (ts : List Term) (m : Option ℕ) (w : Place) (t : Term) (P : Process) → found ts w ≡ some t
    → Begun m w t P (Placed ts P) → Located ts P
side_located ts m w t P e p = placed_located ts P (side_placed ts m w t P e p)

-- a part that is not Ω, and is as `E` says
abbrev pub On : Process → Type 0 → Type 0
On P E = (P ≡ Ω → ⊥) × E

-- a side of a choice is not Ω; one of a parallel may be
abbrev pub Held : Split → Process → Type 0 → Type 0
Held choice P E = On P E
Held (together x) P E = E

-- Ω stands only at the top or as a side of a parallel
abbrev pub Ends : Process → Type 0
Ends (leaf w l) = Unit {0}
Ends (prefix w e P) = On P (Ends P)
Ends (internal w P Q) = On P (Ends P) × On Q (Ends Q)
Ends (split w k m n P Q) = Held k P (Ends P) × Held k Q (Ends Q)
Ends (sequence w b P Q) = On P (Ends P) × On Q (Ends Q)
Ends Ω = Unit {0}
Ends ⊥' = Unit {0}

joined_ends : (o : Operator) (w : Place) (P Q : Process) → On P (Ends P) → On Q (Ends Q) → Ends (joined o w P Q)
unfolding joined
joined_ends Term.internal w P Q p q = (p, q)
joined_ends external w P Q p q = (p, q)
joined_ends Term.sequence w P Q p q = (p, q)
joined_ends (parallel x) w P Q p q = (p.1, q.1)

untouched_ends : (w : Place) (t : Term) → On (untouched w t) (Ends (untouched w t))
unfolding untouched
untouched_ends w (Term.leaf l) = (untouched_on w (Term.leaf l), tt)
untouched_ends w (Term.prefix k t) = (untouched_on w (Term.prefix k t), untouched_ends (below w 2) t)
untouched_ends w (Term.binary o t u) = (
  untouched_on w (Term.binary o t u),
  joined_ends o w _ _ (untouched_ends (below w 1) t) (untouched_ends (below w 2) u),
)

-- a process that is another form than Ω
other_form : (P : Process) → at_Ω P ≡ false → P ≡ Ω → ⊥
unfolding at_Ω
other_form P e p = let z : ◌≡◌ {A = ℕ} 0 1 = cc (ap at_Ω p) in omega arith

rhs_ends : (n : ℕ) (o : Option Term) → On (right_side n o) (Ends (right_side n o))
unfolding right_side at_Ω
rhs_ends n none = (other_form ⊥' refl, tt)
rhs_ends n (some t) = untouched_ends (record { definition = n; path = [] }) t

-- τ is not ✓
silent : {e : Event} → e ≡ τ → e ≡ ✓ → ⊥
silent i j = let z : ◌≡◌ {A = ℕ} 0 1 = cc in omega arith

-- what a step leaves is Ω only where its event is ✓
abbrev EndsBy : Outcome → Type 0
EndsBy r = ((r.event ≡ ✓ → ⊥) → r.process ≡ Ω → ⊥) × Ends r.process

module _ (ts : List Term) where
  -- a step leaves each literal at its place
  pub placed : {a : Address} {P : Process} {s : At} {r : Outcome} → Tracks ts a P s r → Located ts P
      → Placed ts r.process
  unfolding labelled prefixed around jointly carried started ended child
  placed (process_call {n = n}) h = rhs_placed ts n (get_elem? ts n) refl
  placed (prefixing {w = w} {P = P}) (t, e, p) = part_placed ts (below w 2) t P (found_below ts w 2 _ e) p
  placed skip h = tt
  placed stop h = tt
  placed (internal_choice_1 {w = w} {P = P}) (t, u, e, p, q) =
      part_placed ts (below w 1) t P (found_below ts w 1 _ e) p
  placed (internal_choice_2 {w = w} {Q = Q}) (t, u, e, p, q) =
      part_placed ts (below w 2) u Q (found_below ts w 2 _ e) q
  placed (external_choice_1 {w = w} {n₁ = m} {P = P} d i) (t, u, e, p, q) =
      (t, u, e, placed d (side_located ts m (below w 1) t P (found_below ts w 1 _ e) p), q)
  placed (external_choice_2 {w = w} {n₂ = n} {Q = Q} d i) (t, u, e, p, q) =
      (t, u, e, p, placed d (side_located ts n (below w 2) u Q (found_below ts w 2 _ e) q))
  placed (external_choice_3 {w = w} {n₁ = m} {P = P} d v) (t, u, e, p, q) =
      placed d (side_located ts m (below w 1) t P (found_below ts w 1 _ e) p)
  placed (external_choice_4 {w = w} {n₂ = n} {Q = Q} d v) (t, u, e, p, q) =
      placed d (side_located ts n (below w 2) u Q (found_below ts w 2 _ e) q)
  placed (sequential_composition_1 {P = P} d n) (t, u, e, p, q) = (t, u, e, placed d (placed_located ts P p), q)
  placed (sequential_composition_2 {w = w} {Q = Q} d i) (t, u, e, p, q) =
      part_placed ts (below w 2) u Q (found_below ts w 2 _ e) q
  placed (synchronized_parallelism_1 {w = w} {n₁ = m} {P = P} d i) (t, u, e, p, q) =
      (t, u, e, placed d (side_located ts m (below w 1) t P (found_below ts w 1 _ e) p), q)
  placed (synchronized_parallelism_2 {w = w} {n₂ = n} {Q = Q} d i) (t, u, e, p, q) =
      (t, u, e, p, placed d (side_located ts n (below w 2) u Q (found_below ts w 2 _ e) q))
  placed (synchronized_parallelism_3 {w = w} {n₁ = m} {n₂ = n} {P = P} {Q = Q} d d' i j c k) (t, u, e, p, q) =
      let left = placed d (side_located ts m (below w 1) t P (found_below ts w 1 _ e) p) in
      (t, u, e, left, placed d' (side_located ts n (below w 2) u Q (found_below ts w 2 _ e) q))
  placed (synchronized_parallelism_4 i j) h = tt

  -- a step leaves no Ω but there
  ending : {a : Address} {P : Process} {s : At} {r : Outcome} → Tracks ts a P s r → Ends P → EndsBy r
  unfolding labelled prefixed around jointly carried started ended at_Ω
  ending (process_call {n = n}) h = let k = rhs_ends n (get_elem? ts n) in (λ i. k.0, k.1)
  ending prefixing h = (λ i. h.0, h.1)
  ending skip h = (λ i p. i refl, tt)
  ending stop h = (λ i. other_form ⊥' refl, tt)
  ending internal_choice_1 h = (λ i. h.0.0, h.0.1)
  ending internal_choice_2 h = (λ i. h.1.0, h.1.1)
  ending (external_choice_1 d e) h =
      let k = ending d h.0.1 in
      (λ i. other_form _ refl, ((k.0 (silent e), k.1), h.1))
  ending (external_choice_2 d e) h =
      let k = ending d h.1.1 in
      (λ i. other_form _ refl, (h.0, (k.0 (silent e), k.1)))
  ending (external_choice_3 d v) h = ending d h.0.1
  ending (external_choice_4 d v) h = ending d h.1.1
  ending (sequential_composition_1 d n) h =
      let k = ending d h.0.1 in
      (λ i. other_form _ refl, ((k.0 n, k.1), h.1))
  ending (sequential_composition_2 d e) h = (λ i. h.1.0, h.1.1)
  ending (synchronized_parallelism_1 d e) h = (λ i. other_form _ refl, ((ending d h.0).1, h.1))
  ending (synchronized_parallelism_2 d e) h = (λ i. other_form _ refl, (h.0, (ending d h.1).1))
  ending (synchronized_parallelism_3 d d' i j c k) h =
      (λ i. other_form _ refl, ((ending d h.0).1, (ending d' h.1).1))
  ending (synchronized_parallelism_4 i j) h = (λ i p. i refl, tt)

  -- in every run each literal of control has its place
  pub reached_located : {s : State} → Reached ts s → Located ts s.process
  unfolding after
  reached_located begun = inr refl
  reached_located (goes_on {s = s} {t = t} a e p h) =
      let d = (accepted_exactly ts s a e t).0 h in
      subst (λ t. Located ts t.process) d.3
      (placed_located ts d.0.process (placed d.1 (reached_located p)))

  -- in every run Ω stands only at the top or as a side of a parallel
  pub ends_stand : {s : State} → Reached ts s → Ends s.process
  unfolding after
  ends_stand begun = tt
  ends_stand (goes_on {s = s} {t = t} a e p h) =
      let d = (accepted_exactly ts s a e t).0 h in
      subst (λ t. Ends t.process) d.3 (ending d.1 (ends_stand p)).1
