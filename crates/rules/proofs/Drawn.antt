-- What every run draws: each reference of a side has an arc into it, so that an ended parallel always finds
-- parents; labels are at most as many as arcs, and the next fresh reference is at most one more than the arcs.
-- By the derivation, rule by rule; for a run, by its accepted steps. Assumes nothing.
use Rattle.std.proofs.Common.{ℕ, suc, ◌+◌, ◌≤◌, ◌≡◌, refl, sym, subst, ap, ◌∙◌, Bool, true, false, List, []}
use Rattle.std.proofs.Common.{◌∷◌, ◌++◌, append_assoc, ◌⊎◌, inl, inr, arith, length, length-append, eqb, ltb}
use Rattle.std.proofs.Common.{eq-eqb, ltb-false}
use Rattle.std.proofs.Math.Option.{Option, none, some}
use Rattle.std.proofs.Math.ListN.{get_elem?}
use Rattle.lines.specs.Line.{choose}
use Rattle.terms.specs.Term.{Term, external, parallel}
use Rattle.terms.specs.Term as Term
use Rattle.places.specs.Place.{Place}
use Rattle.rules.specs.declared.Event.{Event}
use Rattle.rules.specs.Process.{Address, Split, Process, leaf, prefix, internal, split, sequence, Ω, ⊥'}
use Rattle.rules.specs.Process.{below, joined, untouched, right_side, together, cells}
use Rattle.rules.specs.Track.{Pair, pair, At, Outcome, labelled, prefixed, Entered, first_eval, inside}
use Rattle.rules.specs.Track.{around, beside, right_eval, right_inside, jointly, carried, started}
use Rattle.rules.specs.Track.{leads, parents, ended}
use Rattle.rules.specs.Tracking.{Tracks, process_call, prefixing, skip, stop, internal_choice_1}
use Rattle.rules.specs.Tracking.{internal_choice_2, external_choice_1, external_choice_2}
use Rattle.rules.specs.Tracking.{external_choice_3, external_choice_4, sequential_composition_1}
use Rattle.rules.specs.Tracking.{sequential_composition_2, synchronized_parallelism_1}
use Rattle.rules.specs.Tracking.{synchronized_parallelism_2, synchronized_parallelism_3}
use Rattle.rules.specs.Tracking.{synchronized_parallelism_4}
use Rattle.rules.specs.Run.{State, stands, after, over_room, cell_room, node_room, arc_room}
use Rattle.rules.specs.Run.{meeting_room, Reached, begun, goes_on}
use Rattle.rules.proofs.Answered.{accepted_exactly}

-- an arc leads to n
abbrev pub Into : List Pair → ℕ → Type 0
Into [] n = ⊥
Into (a ∷ g) n = (a.to ≡ n) ⊎ Into g n

pub into_before : (g h : List Pair) (n : ℕ) → Into g n → Into (g ++ h) n
into_before [] h n i = absurd i
into_before (a ∷ g) h n (inl e) = inl e
into_before (a ∷ g) h n (inr i) = inr (into_before g h n i)

pub into_behind : (g h : List Pair) (n : ℕ) → Into h n → Into (g ++ h) n
into_behind [] h n i = i
into_behind (a ∷ g) h n i = inr (into_behind g h n i)

-- a side that has stepped has an arc into its reference; one that has not has not ended
abbrev pub Side : List Pair → Option ℕ → Process → Type 0
Side g none P = P ≡ Ω → ⊥
Side g (some n) P = Into g n

-- so have all sides of a process
abbrev pub Rooted : List Pair → Process → Type 0
Rooted g (leaf w l) = Unit {0}
Rooted g (prefix w e P) = Rooted g P
Rooted g (internal w P Q) = Rooted g P × Rooted g Q
Rooted g (split w k m n P Q) = Side g m P × Side g n Q × Rooted g P × Rooted g Q
Rooted g (sequence w b P Q) = Rooted g P × Rooted g Q
Rooted g Ω = Unit {0}
Rooted g ⊥' = Unit {0}

-- more arcs take nothing away
pub side_more : (g h : List Pair) (m : Option ℕ) (P : Process) → Side g m P → Side (g ++ h) m P
side_more g h none P s = s
side_more g h (some n) P s = into_before g h n s

pub rooted_more : (g h : List Pair) (P : Process) → Rooted g P → Rooted (g ++ h) P
rooted_more g h (leaf w l) r = tt
rooted_more g h (prefix w e P) r = rooted_more g h P r
rooted_more g h (internal w P Q) r = (rooted_more g h P r.0, rooted_more g h Q r.1)
rooted_more g h (split w k m n P Q) r = (
  side_more g h m P r.0,
  side_more g h n Q r.1,
  rooted_more g h P r.2,
  rooted_more g h Q r.3,
)
rooted_more g h (sequence w b P Q) r = (rooted_more g h P r.0, rooted_more g h Q r.1)
rooted_more g h Ω r = tt
rooted_more g h ⊥' r = tt

-- a term that no step has touched has not ended, and has no side that has stepped
pub untouched_on : (w : Place) (t : Term) → untouched w t ≡ Ω → ⊥
unfolding untouched joined
untouched_on w (Term.leaf l) e = let z : ◌≡◌ {A = ℕ} 0 1 = cc in omega arith
untouched_on w (Term.prefix k t) e = let z : ◌≡◌ {A = ℕ} 0 1 = cc in omega arith
untouched_on w (Term.binary Term.internal t u) e = let z : ◌≡◌ {A = ℕ} 0 1 = cc in omega arith
untouched_on w (Term.binary external t u) e = let z : ◌≡◌ {A = ℕ} 0 1 = cc in omega arith
untouched_on w (Term.binary Term.sequence t u) e = let z : ◌≡◌ {A = ℕ} 0 1 = cc in omega arith
untouched_on w (Term.binary (parallel x) t u) e = let z : ◌≡◌ {A = ℕ} 0 1 = cc in omega arith

untouched_rooted : (g : List Pair) (w : Place) (t : Term) → Rooted g (untouched w t)
unfolding untouched joined
untouched_rooted g w (Term.leaf l) = tt
untouched_rooted g w (Term.prefix k t) = untouched_rooted g (below w 2) t
untouched_rooted g w (Term.binary Term.internal t u) =
    (untouched_rooted g (below w 1) t, untouched_rooted g (below w 2) u)
untouched_rooted g w (Term.binary external t u) = (
  untouched_on (below w 1) t,
  untouched_on (below w 2) u,
  untouched_rooted g (below w 1) t,
  untouched_rooted g (below w 2) u,
)
untouched_rooted g w (Term.binary Term.sequence t u) =
    (untouched_rooted g (below w 1) t, untouched_rooted g (below w 2) u)
untouched_rooted g w (Term.binary (parallel x) t u) = (
  untouched_on (below w 1) t,
  untouched_on (below w 2) u,
  untouched_rooted g (below w 1) t,
  untouched_rooted g (below w 2) u,
)

rhs_rooted : (g : List Pair) (n : ℕ) (t : Option Term) → Rooted g (right_side n t)
unfolding right_side
rhs_rooted g n none = tt
rhs_rooted g n (some t) = untouched_rooted g (record { definition = n; path = [] }) t

-- what a step keeps
pub record Kept (s : At) (r : Outcome) : Type 0 where
  pub rooted : Rooted (s.arcs ++ r.arcs) r.process
  pub into : Into s.arcs s.reference → Into (s.arcs ++ r.arcs) r.reference
  pub drawn : r.fresh ≤ s.fresh + length r.arcs
  pub few : length r.labels ≤ length r.arcs

of_labelled : (e : Event) (P : Process) (w : Place) (s : At) → Rooted s.arcs P → Kept s (labelled e P w s)
unfolding labelled
of_labelled e P w s h = record {
  rooted = rooted_more s.arcs _ P h;
  into = λ i. into_behind s.arcs (pair s.reference s.fresh ∷ []) s.fresh (inl refl);
  drawn = omega arith;
  few = omega arith;
}

of_prefixed : (e : ℕ) (P : Process) (w : Place) (s : At) → Rooted s.arcs P → Kept s (prefixed e P w s)
unfolding prefixed
of_prefixed e P w s h = record {
  rooted = rooted_more s.arcs _ P h;
  into = λ i. into_behind s.arcs
      (pair s.reference s.fresh ∷ pair s.fresh (suc s.fresh) ∷ []) (suc s.fresh) (inr (inl refl));
  drawn = omega arith;
  few = omega arith;
}

-- entering a side: an arc into its reference, and no more draws and labels than arcs
entered_into : (own other : Option ℕ) (w : Place) (s : At) (P : Process) → Side s.arcs own P
    → Into (s.arcs ++ (first_eval own other w s).arcs) (first_eval own other w s).reference
unfolding first_eval
entered_into (some n) other w s P h = into_before s.arcs [] n h
entered_into none (some o) w s P h =
    into_behind s.arcs (pair s.reference s.fresh ∷ []) s.fresh (inl refl)
entered_into none none w s P h =
    into_behind s.arcs (pair s.reference s.fresh ∷ []) s.fresh (inl refl)

entered_drawn : (own other : Option ℕ) (w : Place) (s : At)
    → (first_eval own other w s).fresh ≤ s.fresh + length (first_eval own other w s).arcs
unfolding first_eval
entered_drawn (some n) other w s = omega arith
entered_drawn none (some o) w s = omega arith
entered_drawn none none w s = omega arith

entered_few : (own other : Option ℕ) (w : Place) (s : At)
    → length (first_eval own other w s).labels ≤ length (first_eval own other w s).arcs
unfolding first_eval
entered_few (some n) other w s = omega arith
entered_few none (some o) w s = omega arith
entered_few none none w s = omega arith

-- a side's step, told of the whole: `own` is the side's reference, `P` what it was
module _ (own other : Option ℕ) (w : Place) (s : At) (P : Process) (r : Outcome) (side : Side s.arcs own P)
    (k : Kept (inside (first_eval own other w s) s) r) where
  abbrev entry : Entered
  entry = first_eval own other w s

  regrouped : (s.arcs ++ entry.arcs) ++ r.arcs ≡ s.arcs ++ (entry.arcs ++ r.arcs)
  regrouped = append_assoc s.arcs entry.arcs r.arcs

  side_into : Into (s.arcs ++ (entry.arcs ++ r.arcs)) r.reference
  side_into = subst (λ g. Into g r.reference) regrouped (k.into (entered_into own other w s P side))

  side_rooted : Rooted (s.arcs ++ (entry.arcs ++ r.arcs)) r.process
  side_rooted = subst (λ g. Rooted g r.process) regrouped k.rooted

  side_drawn : r.fresh ≤ s.fresh + length (entry.arcs ++ r.arcs)
  side_drawn =
      let inner : r.fresh ≤ entry.fresh + length r.arcs = k.drawn in
      omega (arith, inner, entered_drawn own other w s, length-append entry.arcs r.arcs)

  side_few : length (entry.labels ++ r.labels) ≤ length (entry.arcs ++ r.arcs)
  side_few = omega (
    arith,
    k.few,
    entered_few own other w s,
    length-append entry.labels r.labels,
    length-append entry.arcs r.arcs,
  )

-- an operator goes on with its left stepped, with its right stepped, or is dropped for a side
of_left : (k : Split) (e : Event) (m n : Option ℕ) (w : Place) (s : At) (P Q : Process) (r : Outcome)
    → Rooted s.arcs (split w k m n P Q) → Kept (inside (first_eval m n w s) s) r
    → Kept s (around (first_eval m n w s) r e (split w k (some r.reference) n r.process Q) s.reference)
unfolding around
of_left k e m n w s P Q r h inner =
    let added = (first_eval m n w s).arcs ++ r.arcs in
    record {
      rooted = (
        side_into m n w s P r h.0 inner,
        side_more s.arcs added n Q h.1,
        side_rooted m n w s P r h.0 inner,
        rooted_more s.arcs added Q h.3,
      );
      into = into_before s.arcs added s.reference;
      drawn = side_drawn m n w s P r h.0 inner;
      few = side_few m n w s P r h.0 inner;
    }

of_right : (k : Split) (e : Event) (m n : Option ℕ) (w : Place) (s : At) (P Q : Process) (r : Outcome)
    → Rooted s.arcs (split w k m n P Q) → Kept (inside (first_eval n m w s) s) r
    → Kept s (around (first_eval n m w s) r e (split w k m (some r.reference) P r.process) s.reference)
unfolding around
of_right k e m n w s P Q r h inner =
    let added = (first_eval n m w s).arcs ++ r.arcs in
    record {
      rooted = (
        side_more s.arcs added m P h.0,
        side_into n m w s Q r h.1 inner,
        rooted_more s.arcs added P h.2,
        side_rooted n m w s Q r h.1 inner,
      );
      into = into_before s.arcs added s.reference;
      drawn = side_drawn n m w s Q r h.1 inner;
      few = side_few n m w s Q r h.1 inner;
    }

of_dropped : (own other : Option ℕ) (w : Place) (s : At) (P : Process) (r : Outcome) → Side s.arcs own P
    → Kept (inside (first_eval own other w s) s) r
    → Kept s (around (first_eval own other w s) r r.event r.process r.reference)
unfolding around
of_dropped own other w s P r h inner = record {
  rooted = side_rooted own other w s P r h inner;
  into = λ j. side_into own other w s P r h inner;
  drawn = side_drawn own other w s P r h inner;
  few = side_few own other w s P r h inner;
}

-- both sides stepped: the left's part is told of where the operator stands again, the right's from there on
of_joint : (x e : ℕ) (m n : Option ℕ) (w : Place) (s : At) (P Q : Process) (l r : Outcome)
    → Rooted s.arcs (split w (together x) m n P Q) → Kept (inside (first_eval m n w s) s) l
    → Kept (right_inside m n w s l) r
    → Kept s
    (jointly (first_eval m n w s) l (right_eval m n w s l) r e
    (split w (together x) (some l.reference) (some r.reference) l.process r.process) s.reference)
unfolding jointly
of_joint x e m n w s P Q l r h on_left on_right =
    let i = first_eval m n w s in
    let there : At = beside s i l in
    let j = right_eval m n w s l in
    let here = some i.reference in
    let lefts = i.arcs ++ l.arcs in
    let rights = j.arcs ++ r.arcs in
    let behind : there.arcs ≡ s.arcs ++ lefts = append_assoc s.arcs i.arcs l.arcs in
    let all : there.arcs ++ rights ≡ s.arcs ++ (lefts ++ rights) =
    ap (λ g. g ++ rights) behind ∙ append_assoc s.arcs lefts rights in
    let begun_right : Side there.arcs n Q =
    side_more (s.arcs ++ i.arcs) l.arcs n Q (side_more s.arcs i.arcs n Q h.1) in
    let left_into = into_before (s.arcs ++ lefts) rights l.reference (side_into m n w s P l h.0 on_left) in
    let left_rooted = rooted_more (s.arcs ++ lefts) rights l.process (side_rooted m n w s P l h.0 on_left) in
    let over = append_assoc s.arcs lefts rights in
    let right_drawn : r.fresh ≤ l.fresh + length rights = side_drawn n here w there Q r begun_right on_right in
    let right_few : length (j.labels ++ r.labels) ≤ length rights = side_few n here w there Q r begun_right on_right in
    record {
      rooted = (
        subst (λ g. Into g l.reference) over left_into,
        subst (λ g. Into g r.reference) all (side_into n here w there Q r begun_right on_right),
        subst (λ g. Rooted g l.process) over left_rooted,
        subst (λ g. Rooted g r.process) all (side_rooted n here w there Q r begun_right on_right),
      );
      into = into_before s.arcs (lefts ++ rights) s.reference;
      drawn = omega (arith, side_drawn m n w s P l h.0 on_left, right_drawn, length-append lefts rights);
      few = omega (
        arith,
        side_few m n w s P l h.0 on_left,
        right_few,
        length-append lefts rights,
        length-append (i.labels ++ l.labels) (j.labels ++ r.labels),
      );
    }

-- two sides that have ended have parents
pub found : (m : Option ℕ) (n k : ℕ) (g : List Pair) → Into g n → Into (parents (some n) m k g) k
unfolding parents leads
found m n k [] i = absurd i
found m n k (a ∷ g) (inl e) = rw (eq-eqb n a.to (sym e)) (inl refl)
found m n k (a ∷ g) (inr i) = go (found m n k g i) (eqb n a.to) (leads m a.to)
  where
    go : Into (parents (some n) m k g) k → (b c : Bool)
        → Into (choose b (pair a.from k ∷ parents (some n) m k g)
        (choose c (pair a.from k ∷ parents (some n) m k g) (parents (some n) m k g))) k
    go h true c = inl refl
    go h false true = inl refl
    go h false false = h

some_long : (g : List Pair) (n : ℕ) → Into g n → 1 ≤ length g
some_long [] n i = absurd i
some_long (a ∷ g) n i = omega arith

of_ended : (m : ℕ) (n : Option ℕ) (s : At) → Into s.arcs m → Kept s (ended (some m) n s)
unfolding ended
of_ended m n s i =
    let there = found n m s.fresh s.arcs i in
    let one_parent = some_long (parents (some m) n s.fresh s.arcs) s.fresh there in
    record {
      rooted = tt;
      into = λ j. into_behind s.arcs (parents (some m) n s.fresh s.arcs) s.fresh there;
      drawn = omega arith;
      few = omega arith;
    }

-- a sequence
of_carried : (s : At) (r : Outcome) (w : Place) (Q : Process) → Rooted s.arcs Q → Kept s r
    → Kept s (carried r (sequence w true r.process Q))
unfolding carried
of_carried s r w Q h k = record {
  rooted = (k.rooted, rooted_more s.arcs r.arcs Q h);
  into = k.into;
  drawn = k.drawn;
  few = k.few;
}

of_started : (s : At) (r : Outcome) (w : Place) (Q : Process) → Rooted s.arcs Q → Kept s r → Kept s (started r Q w)
unfolding started
of_started s r w Q h k =
    let last = pair r.reference r.fresh ∷ [] in
    record {
      rooted = rooted_more s.arcs (r.arcs ++ last) Q h;
      into = λ j.
          into_behind s.arcs (r.arcs ++ last) r.fresh (into_behind r.arcs last r.fresh (inl refl));
      drawn = omega (arith, k.drawn, length-append r.arcs last);
      few = omega (
        arith,
        k.few,
        length-append r.arcs last,
        length-append r.labels (record { reference = r.reference; place = w } ∷ []),
      );
    }

module _ (ts : List Term) where
  -- each rule keeps it, from a process all of whose sides have arcs into them
  pub kept : {a : Address} {P : Process} {s : At} {r : Outcome} → Tracks ts a P s r → Rooted s.arcs P → Kept s r
  kept (process_call {n = n} {w = w} {s = s}) h = of_labelled _ _ w s (rhs_rooted s.arcs n (get_elem? ts n))
  kept (prefixing {a = e} {w = w} {P = P} {s = s}) h = of_prefixed e P w s h
  kept (skip {w = w} {s = s}) h = of_labelled _ Ω w s tt
  kept (stop {w = w} {s = s}) h = of_labelled _ ⊥' w s tt
  kept (internal_choice_1 {w = w} {P = P} {s = s}) h = of_labelled _ P w s h.0
  kept (internal_choice_2 {w = w} {Q = Q} {s = s}) h = of_labelled _ Q w s h.1
  kept (external_choice_1 {w = w} {n₁ = m} {n₂ = n} {P = P} {Q = Q} {s = s} {r = r} d e) h =
      of_left _ _ m n w s P Q r h (kept d (rooted_more s.arcs _ P h.2))
  kept (external_choice_2 {w = w} {n₁ = m} {n₂ = n} {P = P} {Q = Q} {s = s} {r = r} d e) h =
      of_right _ _ m n w s P Q r h (kept d (rooted_more s.arcs _ Q h.3))
  kept (external_choice_3 {w = w} {n₁ = m} {n₂ = n} {P = P} {s = s} {r = r} d v) h =
      of_dropped m n w s P r h.0 (kept d (rooted_more s.arcs _ P h.2))
  kept (external_choice_4 {w = w} {n₁ = m} {n₂ = n} {Q = Q} {s = s} {r = r} d v) h =
      of_dropped n m w s Q r h.1 (kept d (rooted_more s.arcs _ Q h.3))
  kept (sequential_composition_1 {w = w} {Q = Q} {s = s} {r = r} d n) h = of_carried s r w Q h.1 (kept d h.0)
  kept (sequential_composition_2 {w = w} {Q = Q} {s = s} {r = r} d e) h = of_started s r w Q h.1 (kept d h.0)
  kept (synchronized_parallelism_1 {w = w} {n₁ = m} {n₂ = n} {P = P} {Q = Q} {s = s} {r = r} d e) h =
      of_left _ _ m n w s P Q r h (kept d (rooted_more s.arcs _ P h.2))
  kept (synchronized_parallelism_2 {w = w} {n₁ = m} {n₂ = n} {P = P} {Q = Q} {s = s} {r = r} d e) h =
      of_right _ _ m n w s P Q r h (kept d (rooted_more s.arcs _ Q h.3))
  kept (synchronized_parallelism_3 {w = w} {x = x} {n₁ = m} {n₂ = n} {P = P} {Q = Q} {s = s} {l = l} {r = r}
      d d' e e' c p) h =
      let i = first_eval m n w s in
      let on_left = kept d (rooted_more s.arcs i.arcs P h.2) in
      let g = (s.arcs ++ i.arcs) ++ l.arcs in
      let over : Rooted g Q = rooted_more (s.arcs ++ i.arcs) l.arcs Q (rooted_more s.arcs i.arcs Q h.3) in
      let j = right_eval m n w s l in
      let on_right = kept d' (rooted_more g j.arcs Q over) in
      of_joint x _ m n w s P Q l r h on_left on_right
  kept (synchronized_parallelism_4 {n₁ = none} p p') h = absurd (h.0 p)
  kept (synchronized_parallelism_4 {n₁ = some m} {n₂ = n} {s = s} p p') h = of_ended m n s h.0

-- what the rooms hold
pub rooms_hold : (s : State) → over_room s ≡ 0
    → (cells s.process ≤ cell_room) × (length s.labels ≤ node_room) × (length s.arcs ≤ arc_room)
    × (length s.meetings ≤ meeting_room)
unfolding over_room
rooms_hold s h = go _ _ _ _ refl refl refl refl h
  where
    go : (a b c d : Bool) → ltb cell_room (cells s.process) ≡ a → ltb node_room (length s.labels) ≡ b
        → ltb arc_room (length s.arcs) ≡ c → ltb meeting_room (length s.meetings) ≡ d
        → ◌≡◌ {A = ℕ} (choose a 8 (choose b 9 (choose c 10 (choose d 11 0)))) 0
        → (cells s.process ≤ cell_room) × (length s.labels ≤ node_room) × (length s.arcs ≤ arc_room)
        × (length s.meetings ≤ meeting_room)
    go true b c d p q r t h = absurd (omega arith)
    go false true c d p q r t h = absurd (omega arith)
    go false false true d p q r t h = absurd (omega arith)
    go false false false true p q r t h = absurd (omega arith)
    go false false false false p q r t h = (ltb-false _ _ p, ltb-false _ _ q, ltb-false _ _ r, ltb-false _ _ t)

-- what every run keeps
pub record KeptOn (s : State) : Type 0 where
  pub rooted : Rooted s.arcs s.process
  pub drawn : s.fresh ≤ suc (length s.arcs)
  pub few : length s.labels ≤ length s.arcs
  pub room : over_room s ≡ 0

kept_after : (ts : List Term) (s : State) (a : Address) (r : Outcome) → Tracks ts a s.process (stands s) r
    → KeptOn s → over_room (after s r) ≡ 0 → KeptOn (after s r)
unfolding after
kept_after ts s a r d k z =
    let on = kept ts d k.rooted in
    let more : r.fresh ≤ s.fresh + length r.arcs = on.drawn in
    record {
      rooted = on.rooted;
      drawn = omega (arith, k.drawn, more, length-append s.arcs r.arcs);
      few = omega (
        arith,
        k.few,
        on.few,
        length-append s.arcs r.arcs,
        length-append s.labels r.labels,
      );
      room = z;
    }

pub reached_kept : (ts : List Term) {s : State} → Reached ts s → KeptOn s
unfolding over_room cells
reached_kept ts begun = record { rooted = tt; drawn = omega arith; few = omega arith; room = refl }
reached_kept ts (goes_on {s = s} {t = t} a e p h) =
    let d = (accepted_exactly ts s a e t).0 h in
    subst KeptOn d.3 (kept_after ts s a d.0 d.1 (reached_kept ts p) (ap over_room d.3 ∙ d.4))

-- the next fresh reference of a run
pub fresh_room : (ts : List Term) {s : State} → Reached ts s → s.fresh ≤ 8193
fresh_room ts {s = s} p =
    let k = reached_kept ts p in
    let arcs : length s.arcs ≤ 8192 = (rooms_hold s k.room).2 in
    omega (arith, k.drawn, arcs)
