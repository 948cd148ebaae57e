-- No mark stands twice: in every run a reference is labelled at most once, and one that control may still
-- label has no label. Told by counting, for each reference n: the labels that n has, plus the parts of control
-- that stand at n without a label yet, are at most 1 where n has been drawn, and 0 where it has not. Each rule
-- keeps the sum within what it draws. Assumes nothing.
use Rattle.std.proofs.Common.{ℕ, suc, ◌+◌, ◌≤◌, ◌<◌, ◌≡◌, refl, subst, ap, Bool, true, false, List, [], ◌∷◌}
use Rattle.std.proofs.Common.{◌++◌, arith, eqb, ltb, eqb-true, eq-eqb, ltb-true, ltb-false}
use Rattle.std.proofs.lemmas.Bool.{eqb-false}
use mathlib.Core.List.{Memᴰ}
use Rattle.std.proofs.Math.Option.{Option, none, some}
use Rattle.std.proofs.Math.ListN.{get_elem?}
use Rattle.lines.specs.Line.{choose}
use Rattle.terms.specs.Term.{Term, external, parallel}
use Rattle.terms.specs.Term as Term
use Rattle.places.specs.Place.{Place}
use Rattle.rules.specs.declared.Event.{Event}
use Rattle.rules.specs.Process.{Address, Split, Process, leaf, prefix, internal, split, sequence, Ω, ⊥'}
use Rattle.rules.specs.Process.{below, joined, untouched, right_side, choice, together}
use Rattle.rules.specs.Track.{Label, At, Outcome, labelled, prefixed, first_eval, inside, around}
use Rattle.rules.specs.Track.{beside, right_eval, right_inside, jointly, carried, started, ended}
use Rattle.rules.specs.Tracking.{Tracks, process_call, prefixing, skip, stop, internal_choice_1}
use Rattle.rules.specs.Tracking.{internal_choice_2, external_choice_1, external_choice_2}
use Rattle.rules.specs.Tracking.{external_choice_3, external_choice_4, sequential_composition_1}
use Rattle.rules.specs.Tracking.{sequential_composition_2, synchronized_parallelism_1}
use Rattle.rules.specs.Tracking.{synchronized_parallelism_2, synchronized_parallelism_3}
use Rattle.rules.specs.Tracking.{synchronized_parallelism_4}
use Rattle.rules.specs.Run.{State, stands, after, Reached, begun, goes_on}
use Rattle.rules.proofs.Answered.{accepted_exactly}
use Rattle.rules.proofs.Stripped.{ends_at_Ω}

-- what counts passes its test
passed : (b : Bool) → 1 ≤ choose b 1 0 → b ≡ true
passed true h = refl
passed false h = absurd (omega arith)

-- 1 where n is m
unfoldable pub one : ℕ → ℕ → ℕ
one n m = choose (eqb n m) 1 0

pub one_same : (n m : ℕ) → n ≡ m → one n m ≡ 1
unfolding one
one_same n m e = rw (eq-eqb n m e)

pub same_one : (n m : ℕ) → 1 ≤ one n m → n ≡ m
unfolding one
same_one n m h = eqb-true n m (passed (eqb n m) h)

-- 1 where n is drawn before f
unfoldable pub past : ℕ → ℕ → ℕ
past n f = choose (ltb n f) 1 0

pub past_most : (n f : ℕ) → past n f ≤ 1
unfolding past
past_most n f = go (ltb n f)
  where
    go : (b : Bool) → choose b 1 0 ≤ 1
    go true = omega arith
    go false = omega arith

pub past_drawn : (n f : ℕ) → 1 ≤ past n f → n < f
unfolding past
past_drawn n f h = ltb-true n f (passed (ltb n f) h)

pub next_past : (n f : ℕ) → one n f + past n f ≡ past n (suc f)
unfolding one past
next_past n f = go (eqb n f) (ltb n f) (ltb n (suc f)) refl refl refl
  where
    go : (a b c : Bool) → eqb n f ≡ a → ltb n f ≡ b → ltb n (suc f) ≡ c
        → ◌≡◌ {A = ℕ} (choose a 1 0 + choose b 1 0) (choose c 1 0)
    go true true c p q r = let e = eqb-true n f p in let l = ltb-true n f q in absurd (omega arith)
    go true false true p q r = refl
    go true false false p q r = let e = eqb-true n f p in let l = ltb-false n (suc f) r in absurd (omega arith)
    go false true true p q r = refl
    go false true false p q r = let l = ltb-true n f q in let m = ltb-false n (suc f) r in absurd (omega arith)
    go false false true p q r =
        let e = eqb-false n f p in
        let l = ltb-false n f q in
        let m = ltb-true n (suc f) r in
        absurd (e (omega arith))
    go false false false p q r = refl

-- how often n is labelled
unfoldable pub tally : ℕ → List Label → ℕ
tally n [] = 0
tally n (l ∷ ls) = one n l.reference + tally n ls

pub tally_append : (n : ℕ) (ls ms : List Label) → tally n (ls ++ ms) ≡ tally n ls + tally n ms
unfolding tally
tally_append n [] ms = omega arith
tally_append n (l ∷ ls) ms = omega (arith, tally_append n ls ms)

-- a label in the list counts
pub label_counts : {l : Label} {ls : List Label} → Memᴰ l ls → 1 ≤ tally l.reference ls
unfolding tally
label_counts {l = l} (Memᴰ.head {x = m} e) =
    omega (arith, one_same l.reference m.reference (ap (λ k. k.reference) e))
label_counts (Memᴰ.tail i) = omega (arith, label_counts i)

-- how many parts of a process that stands at m stand at n without a label yet
pub waiting : ℕ → ℕ → Process → ℕ
waiting n m (leaf w l) = one n m
waiting n m (prefix w e P) = one n m
waiting n m (internal w P Q) = one n m
waiting n m (split w k none none P Q) = one n m
waiting n m (split w k (some a) none P Q) = waiting n a P
waiting n m (split w k none (some b) P Q) = waiting n b Q
waiting n m (split w k (some a) (some b) P Q) = waiting n a P + waiting n b Q
waiting n m (sequence w b P Q) = waiting n m P
waiting n m Ω = one n m
waiting n m ⊥' = one n m

-- no side of a process has stepped
abbrev pub Unentered : Process → Type 0
Unentered (leaf w l) = Unit {0}
Unentered (prefix w e P) = Unentered P
Unentered (internal w P Q) = Unentered P × Unentered Q
Unentered (split w k none none P Q) = Unentered P × Unentered Q
Unentered (split w k none (some b) P Q) = ⊥
Unentered (split w k (some a) n P Q) = ⊥
Unentered (sequence w b P Q) = Unentered P × Unentered Q
Unentered Ω = Unit {0}
Unentered ⊥' = Unit {0}

-- what has not begun is unentered
abbrev pub BySide : Option ℕ → Type 0 → Type 0 → Type 0
BySide none U F = U
BySide (some a) U F = F

abbrev pub Fit : Process → Type 0
Fit (leaf w l) = Unit {0}
Fit (prefix w e P) = Unentered P
Fit (internal w P Q) = Unentered P × Unentered Q
Fit (split w k m n P Q) = BySide m (Unentered P) (Fit P) × BySide n (Unentered Q) (Fit Q)
Fit (sequence w b P Q) = Fit P × Unentered Q
Fit Ω = Unit {0}
Fit ⊥' = Unit {0}

pub unentered_fit : (P : Process) → Unentered P → Fit P
unentered_fit (leaf w l) u = tt
unentered_fit (prefix w e P) u = u
unentered_fit (internal w P Q) u = u
unentered_fit (split w k none none P Q) u = u
unentered_fit (split w k none (some b) P Q) u = absurd u
unentered_fit (split w k (some a) n P Q) u = absurd u
unentered_fit (sequence w b P Q) u = (unentered_fit P u.0, u.1)
unentered_fit Ω u = tt
unentered_fit ⊥' u = tt

unentered_waits : (n m : ℕ) (P : Process) → Unentered P → waiting n m P ≡ one n m
unfolding waiting
unentered_waits n m (leaf w l) u = refl
unentered_waits n m (prefix w e P) u = refl
unentered_waits n m (internal w P Q) u = refl
unentered_waits n m (split w k none none P Q) u = refl
unentered_waits n m (split w k none (some b) P Q) u = absurd u
unentered_waits n m (split w k (some a) c P Q) u = absurd u
unentered_waits n m (sequence w b P Q) u = unentered_waits n m P u.0
unentered_waits n m Ω u = refl
unentered_waits n m ⊥' u = refl

pub untouched_unentered : (w : Place) (t : Term) → Unentered (untouched w t)
unfolding untouched joined
untouched_unentered w (Term.leaf l) = tt
untouched_unentered w (Term.prefix k t) = untouched_unentered (below w 2) t
untouched_unentered w (Term.binary Term.internal t u) =
    (untouched_unentered (below w 1) t, untouched_unentered (below w 2) u)
untouched_unentered w (Term.binary external t u) =
    (untouched_unentered (below w 1) t, untouched_unentered (below w 2) u)
untouched_unentered w (Term.binary Term.sequence t u) =
    (untouched_unentered (below w 1) t, untouched_unentered (below w 2) u)
untouched_unentered w (Term.binary (parallel x) t u) =
    (untouched_unentered (below w 1) t, untouched_unentered (below w 2) u)

pub rhs_unentered : (n : ℕ) (t : Option Term) → Unentered (right_side n t)
unfolding right_side
rhs_unentered n none = tt
rhs_unentered n (some t) = untouched_unentered (record { definition = n; path = [] }) t

-- what a step of P at s keeps
pub record Marked (P : Process) (s : At) (r : Outcome) : Type 0 where
  pub fit : Fit r.process
  pub summed : (n : ℕ)
      → tally n r.labels + waiting n r.reference r.process + past n s.fresh
      ≤ waiting n s.reference P + past n r.fresh

-- a part that stands where it is labelled, and goes on unentered
of_labelled : (e : Event) (P Q : Process) (w : Place) (s : At) → Unentered Q
    → ((n : ℕ) → waiting n s.reference P ≡ one n s.reference) → Marked P s (labelled e Q w s)
unfolding labelled tally
of_labelled e P Q w s u h = record {
  fit = unentered_fit Q u;
  summed = λ n. omega (arith, h n, unentered_waits n s.fresh Q u, next_past n s.fresh);
}

of_prefixed : (e : ℕ) (P : Process) (w : Place) (s : At) → Unentered P → Marked (prefix w e P) s (prefixed e P w s)
unfolding prefixed tally waiting
of_prefixed e P w s u = record {
  fit = unentered_fit P u;
  summed = λ n. omega (
    arith,
    unentered_waits n (suc s.fresh) P u,
    next_past n s.fresh,
    next_past n (suc s.fresh),
  );
}

of_ended : (x : ℕ) (w : Place) (m n : Option ℕ) (P Q : Process) (s : At)
    → Marked (split w (together x) m n P Q) s (ended m n s)
unfolding ended tally waiting
of_ended x w m n P Q s = record { fit = tt; summed = λ k. omega (arith, next_past k s.fresh) }

of_carried : (w : Place) (b : Bool) (P Q : Process) (s : At) (r : Outcome) → Unentered Q → Marked P s r
    → Marked (sequence w b P Q) s (carried r (sequence w true r.process Q))
unfolding carried waiting
of_carried w b P Q s r u k = record { fit = (k.fit, u); summed = λ n. k.summed n }

of_started : (w : Place) (b : Bool) (P Q : Process) (s : At) (r : Outcome) → r.process ≡ Ω → Unentered Q → Marked P s r
    → Marked (sequence w b P Q) s (started r Q w)
unfolding started waiting tally
of_started w b P Q s r e u k = record {
  fit = unentered_fit Q u;
  summed = λ n.
      let last : waiting n r.reference r.process ≡ one n r.reference = rw e in
      omega (
        arith,
        k.summed n,
        last,
        unentered_waits n r.fresh Q u,
        next_past n r.fresh,
        tally_append n r.labels (record { reference = r.reference; place = w } ∷ []),
      );
}

-- what waits in a split: by the side that steps, its operator's node with it, and by the other side
own_waiting : ℕ → ℕ → Option ℕ → Option ℕ → Process → ℕ
own_waiting n m (some a) other P = waiting n a P
own_waiting n m none none P = one n m
own_waiting n m none (some b) P = 0

other_waiting : ℕ → Option ℕ → Process → ℕ
other_waiting n none Q = 0
other_waiting n (some b) Q = waiting n b Q

by_left : (n m : ℕ) (w : Place) (k : Split) (a b : Option ℕ) (P Q : Process)
    → waiting n m (split w k a b P Q) ≡ own_waiting n m a b P + other_waiting n b Q
unfolding waiting own_waiting other_waiting
by_left n m w k none none P Q = omega arith
by_left n m w k (some a) none P Q = omega arith
by_left n m w k none (some b) P Q = omega arith
by_left n m w k (some a) (some b) P Q = refl

by_right : (n m : ℕ) (w : Place) (k : Split) (a b : Option ℕ) (P Q : Process)
    → waiting n m (split w k a b P Q) ≡ own_waiting n m b a Q + other_waiting n a P
unfolding waiting own_waiting other_waiting
by_right n m w k none none P Q = omega arith
by_right n m w k (some a) none P Q = omega arith
by_right n m w k none (some b) P Q = omega arith
by_right n m w k (some a) (some b) P Q = omega arith

-- entering a side labels what waited there, and draws where the side stands
pub side_fit : (own : Option ℕ) (P : Process) → BySide own (Unentered P) (Fit P) → Fit P
side_fit none P u = unentered_fit P u
side_fit (some a) P f = f

entered : (n : ℕ) (own other : Option ℕ) (w : Place) (s : At) (P : Process) → BySide own (Unentered P) (Fit P)
    → tally n (first_eval own other w s).labels + waiting n (first_eval own other w s).reference P + past n s.fresh
    ≡ own_waiting n s.reference own other P + past n (first_eval own other w s).fresh
unfolding first_eval tally own_waiting
entered n (some a) other w s P h = omega arith
entered n none (some b) w s P h = omega (arith, unentered_waits n s.fresh P h, next_past n s.fresh)
entered n none none w s P h = omega (arith, unentered_waits n s.fresh P h, next_past n s.fresh)

-- a side's step with its entering
side_summed : (n : ℕ) (own other : Option ℕ) (w : Place) (s : At) (P : Process) (r : Outcome)
    → BySide own (Unentered P) (Fit P) → Marked P (inside (first_eval own other w s) s) r
    → tally n ((first_eval own other w s).labels ++ r.labels) + waiting n r.reference r.process + past n s.fresh
    ≤ own_waiting n s.reference own other P + past n r.fresh
side_summed n own other w s P r h k =
    let i = first_eval own other w s in
    let inner : tally n r.labels + waiting n r.reference r.process + past n i.fresh
    ≤ waiting n i.reference P + past n r.fresh = k.summed n in
    omega (arith, inner, entered n own other w s P h, tally_append n i.labels r.labels)

of_left : (k : Split) (e : Event) (a b : Option ℕ) (w : Place) (s : At) (P Q : Process) (r : Outcome)
    → Fit (split w k a b P Q) → Marked P (inside (first_eval a b w s) s) r
    → Marked (split w k a b P Q) s
    (around (first_eval a b w s) r e (split w k (some r.reference) b r.process Q) s.reference)
unfolding around own_waiting
of_left k e a b w s P Q r h inner = record {
  fit = (inner.fit, h.1);
  summed = λ n. omega (
    arith,
    side_summed n a b w s P r h.0 inner,
    by_left n s.reference w k a b P Q,
    by_left n s.reference w k (some r.reference) b r.process Q,
  );
}

of_right : (k : Split) (e : Event) (a b : Option ℕ) (w : Place) (s : At) (P Q : Process) (r : Outcome)
    → Fit (split w k a b P Q) → Marked Q (inside (first_eval b a w s) s) r
    → Marked (split w k a b P Q) s
    (around (first_eval b a w s) r e (split w k a (some r.reference) P r.process) s.reference)
unfolding around own_waiting
of_right k e a b w s P Q r h inner = record {
  fit = (h.0, inner.fit);
  summed = λ n. omega (
    arith,
    side_summed n b a w s Q r h.1 inner,
    by_right n s.reference w k a b P Q,
    by_right n s.reference w k a (some r.reference) P r.process,
  );
}

-- a choice dropped for a side leaves the other behind
of_dropped : (own other : Option ℕ) (w : Place) (s : At) (P Q R : Process) (r : Outcome)
    → ((n : ℕ) → waiting n s.reference R ≡ own_waiting n s.reference own other P + other_waiting n other Q)
    → BySide own (Unentered P) (Fit P) → Marked P (inside (first_eval own other w s) s) r
    → Marked R s (around (first_eval own other w s) r r.event r.process r.reference)
unfolding around
of_dropped own other w s P Q R r is_split h inner = record {
  fit = inner.fit;
  summed = λ n. omega (arith, side_summed n own other w s P r h inner, is_split n);
}

-- once the other side has stepped, what waits for a side is its own
behind_other : (n m x : ℕ) (own : Option ℕ) (P : Process) → own_waiting n m own (some x) P ≡ other_waiting n own P
unfolding own_waiting other_waiting
behind_other n m x none P = refl
behind_other n m x (some a) P = refl

of_joint : (x e : ℕ) (a b : Option ℕ) (w : Place) (s : At) (P Q : Process) (l r : Outcome)
    → Fit (split w (together x) a b P Q) → Marked P (inside (first_eval a b w s) s) l
    → Marked Q (right_inside a b w s l) r
    → Marked (split w (together x) a b P Q) s
    (jointly (first_eval a b w s) l (right_eval a b w s l) r e
    (split w (together x) (some l.reference) (some r.reference) l.process r.process) s.reference)
unfolding jointly waiting
of_joint x e a b w s P Q l r h on_left on_right =
    let i = first_eval a b w s in
    let there : At = beside s i l in
    let j = right_eval a b w s l in
    record {
      fit = (on_left.fit, on_right.fit);
      summed = λ n.
          let right : tally n (j.labels ++ r.labels) + waiting n r.reference r.process + past n l.fresh
          ≤ own_waiting n s.reference b (some i.reference) Q + past n r.fresh =
          side_summed n b (some i.reference) w there Q r h.1 on_right in
          omega (
            arith,
            side_summed n a b w s P l h.0 on_left,
            right,
            behind_other n s.reference i.reference b Q,
            by_left n s.reference w (together x) a b P Q,
            tally_append n (i.labels ++ l.labels) (j.labels ++ r.labels),
          );
    }

module _ (ts : List Term) where
  pub marked : {a : Address} {P : Process} {s : At} {r : Outcome} → Tracks ts a P s r → Fit P → Marked P s r
  unfolding waiting
  marked (process_call {n = n} {w = w} {s = s}) h =
      of_labelled _ _ _ w s (rhs_unentered n (get_elem? ts n)) (λ k. refl)
  marked (prefixing {a = e} {w = w} {P = P} {s = s}) h = of_prefixed e P w s h
  marked (skip {w = w} {s = s}) h = of_labelled _ _ Ω w s tt (λ k. refl)
  marked (stop {w = w} {s = s}) h = of_labelled _ _ ⊥' w s tt (λ k. refl)
  marked (internal_choice_1 {w = w} {P = P} {s = s}) h = of_labelled _ _ P w s h.0 (λ k. refl)
  marked (internal_choice_2 {w = w} {Q = Q} {s = s}) h = of_labelled _ _ Q w s h.1 (λ k. refl)
  marked (external_choice_1 {w = w} {n₁ = m} {n₂ = n} {P = P} {Q = Q} {s = s} {r = r} d e) h =
      of_left _ _ m n w s P Q r h (marked d (side_fit m P h.0))
  marked (external_choice_2 {w = w} {n₁ = m} {n₂ = n} {P = P} {Q = Q} {s = s} {r = r} d e) h =
      of_right _ _ m n w s P Q r h (marked d (side_fit n Q h.1))
  marked (external_choice_3 {w = w} {n₁ = m} {n₂ = n} {P = P} {Q = Q} {s = s} {r = r} d v) h =
      of_dropped m n w s P Q _ r (λ k. by_left k s.reference w choice m n P Q) h.0
      (marked d (side_fit m P h.0))
  marked (external_choice_4 {w = w} {n₁ = m} {n₂ = n} {P = P} {Q = Q} {s = s} {r = r} d v) h =
      of_dropped n m w s Q P _ r (λ k. by_right k s.reference w choice m n P Q) h.1
      (marked d (side_fit n Q h.1))
  marked (sequential_composition_1 {w = w} {b = b} {P = P} {Q = Q} {s = s} {r = r} d n) h =
      of_carried w b P Q s r h.1 (marked d h.0)
  marked (sequential_composition_2 {w = w} {b = b} {P = P} {Q = Q} {s = s} {r = r} d e) h =
      of_started w b P Q s r (ends_at_Ω d e) h.1 (marked d h.0)
  marked (synchronized_parallelism_1 {w = w} {n₁ = m} {n₂ = n} {P = P} {Q = Q} {s = s} {r = r} d e) h =
      of_left _ _ m n w s P Q r h (marked d (side_fit m P h.0))
  marked (synchronized_parallelism_2 {w = w} {n₁ = m} {n₂ = n} {P = P} {Q = Q} {s = s} {r = r} d e) h =
      of_right _ _ m n w s P Q r h (marked d (side_fit n Q h.1))
  marked (synchronized_parallelism_3 {w = w} {x = x} {n₁ = m} {n₂ = n} {P = P} {Q = Q} {s = s} {l = l} {r = r}
      d d' e e' c p) h =
      of_joint x _ m n w s P Q l r h (marked d (side_fit m P h.0)) (marked d' (side_fit n Q h.1))
  marked (synchronized_parallelism_4 {w = w} {x = x} {n₁ = m} {n₂ = n} {P = P} {Q = Q} {s = s} p p') h =
      of_ended x w m n P Q s

  -- what every run keeps
  pub record MarkedOn (s : State) : Type 0 where
    pub fit : Fit s.process
    pub summed : (n : ℕ) → tally n s.labels + waiting n s.reference s.process ≤ past n s.fresh

  marked_after : (s : State) (a : Address) (r : Outcome) → Tracks ts a s.process (stands s) r → MarkedOn s
      → MarkedOn (after s r)
  unfolding after
  marked_after s a r d k =
      let on = marked d k.fit in
      record {
        fit = on.fit;
        summed = λ n.
            let step : tally n r.labels + waiting n r.reference r.process + past n s.fresh
            ≤ waiting n s.reference s.process + past n r.fresh = on.summed n in
            omega (arith, k.summed n, step, tally_append n s.labels r.labels);
      }

  pub reached_marked : {s : State} → Reached ts s → MarkedOn s
  unfolding tally waiting
  reached_marked begun = record { fit = tt; summed = λ n. omega (arith, next_past n 0) }
  reached_marked (goes_on {s = s} {t = t} a e p h) =
      let d = (accepted_exactly ts s a e t).0 h in
      subst MarkedOn d.3 (marked_after s a d.0 d.1 (reached_marked p))

  -- no mark stands twice
  pub labelled_once : {s : State} → Reached ts s → (n : ℕ) → tally n s.labels ≤ 1
  labelled_once {s = s} p n = omega (arith, (reached_marked p).summed n, past_most n s.fresh)
