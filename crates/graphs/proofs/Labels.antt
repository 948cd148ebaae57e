-- Where the labels of a run stand: the first step labels reference 0 with the place of definition 00's left-hand
-- side, and whatever a later step labels is another reference, with the place of a literal of the table. Each rule
-- labels places of literals that control carries, and these have their places; and no reference is labelled twice.
-- By the derivation, rule by rule; for a run, by its accepted steps. Assumes nothing.
use Rattle.std.proofs.Common.{ℕ, ◌≤◌, ◌≡◌, refl, sym, subst, ap, true, List, [], ◌∷◌, ◌++◌, ◌⊎◌, inl, inr}
use Rattle.std.proofs.Common.{arith}
use mathlib.Core.List.Memᴰ
use Rattle.std.proofs.Math.Option.{Option, none, some, some-injective}
use Rattle.terms.specs.Term.{Term}
use Rattle.places.specs.Place.{Place, left_path}
use Rattle.rules.specs.declared.Event.TheVariants.{Tau as τ}
use Rattle.rules.specs.Process.{Address, Process, below, main, rhs}
use Rattle.rules.specs.Track.{Label, At, Outcome, labelled, prefixed, first_eval, around, jointly, carried}
use Rattle.rules.specs.Track.{started, ended}
use Rattle.rules.specs.Tracking.{Tracks, process_call, prefixing, skip, stop, internal_choice_1}
use Rattle.rules.specs.Tracking.{internal_choice_2, external_choice_1, external_choice_2, external_choice_3}
use Rattle.rules.specs.Tracking.{external_choice_4, sequential_composition_1, sequential_composition_2}
use Rattle.rules.specs.Tracking.{synchronized_parallelism_1, synchronized_parallelism_2}
use Rattle.rules.specs.Tracking.{synchronized_parallelism_3, synchronized_parallelism_4}
use Rattle.rules.specs.Step.{step}
use Rattle.rules.specs.Run.{State, start, stands, after, Reached, begun, goes_on}
use Rattle.rules.proofs.Derived.{step_exactly}
use Rattle.rules.proofs.Answered.{accepted_exactly}
use Rattle.rules.proofs.Marked.{one_same, tally, label_counts, labelled_once}
use Rattle.rules.proofs.Meetings.{Labelled}
use Rattle.rules.proofs.Placed.{child, found_below, Placed, placed_located, side_placed, placed}
use Rattle.graphs.specs.Shape.{literal_of, there}
use Rattle.graphs.proofs.Literals.{own_there, event_there}

-- the label of reference 0
abbrev pub first_label : Label
first_label = record { reference = 0; place = record { definition = 0; path = left_path } }

module _ (ts : List Term) where
  -- a place of a literal of the table
  abbrev pub There : Place → Type 0
  There w = there ts (literal_of ts w) ≡ true

  -- each label has one
  abbrev Each : List Label → Type 0
  Each [] = Unit {0}
  Each (l ∷ ls) = There l.place × Each ls

  -- labels in a row, and one of them
  each_append : (ls ms : List Label) → Each ls → Each ms → Each (ls ++ ms)
  each_append [] ms h k = k
  each_append (l ∷ ls) ms h k = (h.0, each_append ls ms h.1 k)

  each_at : {n : ℕ} {w : Place} {ls : List Label} → Labelled ls n w → Each ls → There w
  each_at (Memᴰ.head {x = l} e) h = subst (λ l. There l.place) (sym e) h.0
  each_at (Memᴰ.tail i) h = each_at i h.1

  -- a run that has not begun has no label, and one that has none but the first of reference 0
  no_labels : {n : ℕ} {w : Place} → Labelled [] n w → ⊥
  unfolding tally
  no_labels i = omega (arith, label_counts i)

  counted_twice : {ls : List Label} {w : Place} (n : ℕ) (later : List Label) → ls ≡ first_label ∷ later → n ≡ 0
      → Labelled later n w → tally n ls ≤ 1 → ⊥
  unfolding tally
  counted_twice n later all z j h = omega (arith, h, ap (tally n) all, one_same n 0 z, label_counts j)

  -- entering a side labels its operator's place at most
  entered_each : (own other : Option ℕ) (w : Place) (s : At) → There w → Each (first_eval own other w s).labels
  unfolding first_eval
  entered_each (some n) other w s h = tt
  entered_each none (some o) w s h = tt
  entered_each none none w s h = (h, tt)

  side_each : (own other : Option ℕ) (w : Place) (s : At) (r : Outcome) → There w → Each r.labels
      → Each ((first_eval own other w s).labels ++ r.labels)
  side_each own other w s r h k =
      each_append (first_eval own other w s).labels r.labels (entered_each own other w s h) k

  -- a step from where each literal has its place labels such places
  labels_there : {a : Address} {P : Process} {s : At} {r : Outcome} → Tracks ts a P s r → Placed ts P
      → Each r.labels
  unfolding labelled prefixed around jointly carried started ended child
  labels_there (process_call {w = w}) e = (own_there ts w _ e, tt)
  labels_there (prefixing {a = a} {w = w}) (t, e, p) = (event_there ts w a t e, (own_there ts w _ e, tt))
  labels_there (skip {w = w}) e = (own_there ts w _ e, tt)
  labels_there (stop {w = w}) e = (own_there ts w _ e, tt)
  labels_there (internal_choice_1 {w = w}) (t, u, e, p, q) = (own_there ts w _ e, tt)
  labels_there (internal_choice_2 {w = w}) (t, u, e, p, q) = (own_there ts w _ e, tt)
  labels_there (external_choice_1 {w = w} {n₁ = m} {n₂ = n} {P = P} {s = s} {r = r} d i) (t, u, e, p, q) =
      side_each m n w s r (own_there ts w _ e)
      (labels_there d (side_placed ts m (below w 1) t P (found_below ts w 1 _ e) p))
  labels_there (external_choice_2 {w = w} {n₁ = m} {n₂ = n} {Q = Q} {s = s} {r = r} d i) (t, u, e, p, q) =
      side_each n m w s r (own_there ts w _ e)
      (labels_there d (side_placed ts n (below w 2) u Q (found_below ts w 2 _ e) q))
  labels_there (external_choice_3 {w = w} {n₁ = m} {n₂ = n} {P = P} {s = s} {r = r} d v) (t, u, e, p, q) =
      side_each m n w s r (own_there ts w _ e)
      (labels_there d (side_placed ts m (below w 1) t P (found_below ts w 1 _ e) p))
  labels_there (external_choice_4 {w = w} {n₁ = m} {n₂ = n} {Q = Q} {s = s} {r = r} d v) (t, u, e, p, q) =
      side_each n m w s r (own_there ts w _ e)
      (labels_there d (side_placed ts n (below w 2) u Q (found_below ts w 2 _ e) q))
  labels_there (sequential_composition_1 d n) (t, u, e, p, q) = labels_there d p
  labels_there (sequential_composition_2 {w = w} {r = r} d i) (t, u, e, p, q) =
      each_append r.labels _ (labels_there d p) (own_there ts w _ e, tt)
  labels_there (synchronized_parallelism_1 {w = w} {n₁ = m} {n₂ = n} {P = P} {s = s} {r = r} d i)
      (t, u, e, p, q) =
      side_each m n w s r (own_there ts w _ e)
      (labels_there d (side_placed ts m (below w 1) t P (found_below ts w 1 _ e) p))
  labels_there (synchronized_parallelism_2 {w = w} {n₁ = m} {n₂ = n} {Q = Q} {s = s} {r = r} d i)
      (t, u, e, p, q) =
      side_each n m w s r (own_there ts w _ e)
      (labels_there d (side_placed ts n (below w 2) u Q (found_below ts w 2 _ e) q))
  labels_there (synchronized_parallelism_3 {w = w} {n₁ = m} {n₂ = n} {P = P} {Q = Q} {s = s} {l = l} {r = r}
      d d' i j c k) (t, u, e, p, q) =
      let here = own_there ts w _ e in
      let left = labels_there d (side_placed ts m (below w 1) t P (found_below ts w 1 _ e) p) in
      let right = labels_there d' (side_placed ts n (below w 2) u Q (found_below ts w 2 _ e) q) in
      each_append ((first_eval m n w s).labels ++ l.labels) _ (side_each m n w s l here left)
      (side_each n _ w _ r here right)
  labels_there (synchronized_parallelism_4 i j) h = tt

  -- the step from where control starts
  first_step : (a : Address) (s : At) (r : Outcome) → Tracks ts a main s r
      → r ≡ labelled τ (rhs ts 0) first_label.place s
  unfolding step
  first_step a s r d =
      let is = (step_exactly ts main s a r).1 d in
      sym (ap (λ x. x.outcome) (some-injective _ _ is))

  -- what every run that has begun keeps
  pub record Opened (s : State) : Type 0 where
    pub later : List Label
    pub all : s.labels ≡ first_label ∷ later
    pub each : Each later
    pub process : Placed ts s.process

  -- the first step begins it, and each later one keeps it
  first_opened : (a : Address) (r : Outcome) → Tracks ts a main (stands start) r → Opened (after start r)
  unfolding after labelled
  first_opened a r d =
      let is = first_step a (stands start) r d in
      record { later = []; all = ap (λ r. r.labels) is; each = tt; process = placed ts d (inr refl) }

  next_opened : (s : State) (a : Address) (r : Outcome) → Tracks ts a s.process (stands s) r → Opened s
      → Opened (after s r)
  unfolding after
  next_opened s a r d k = record {
    later = k.later ++ r.labels;
    all = ap (λ ls. ls ++ r.labels) k.all;
    each = each_append k.later r.labels k.each (labels_there d k.process);
    process = placed ts d (placed_located ts s.process k.process);
  }

  -- a run has not begun, or keeps it
  pub reached_opened : {s : State} → Reached ts s → (s ≡ start) ⊎ Opened s
  reached_opened begun = inl refl
  reached_opened (goes_on {s = s} {t = t} a e p h) =
      let d = (accepted_exactly ts s a e t).0 h in
      inr (subst Opened d.3 (go s (reached_opened p) d.0 d.1))
    where
      go : (s : State) → (s ≡ start) ⊎ Opened s → (r : Outcome) → Tracks ts a s.process (stands s) r
          → Opened (after s r)
      go s (inl e) r d =
          let d' = subst (λ s. Tracks ts a s.process (stands s) r) e d in
          subst (λ s. Opened (after s r)) (sym e) (first_opened a r d')
      go s (inr k) r d = next_opened s a r d k

  -- a label is the first, or of another reference and with a literal's place
  abbrev pub Placing : ℕ → Place → Type 0
  Placing n w = (record { reference = n; place = w } ≡ first_label) ⊎ ((n ≡ 0 → ⊥) × There w)

  -- so is each of a run
  pub label_places : {s : State} {n : ℕ} {w : Place} → Reached ts s → Labelled s.labels n w → Placing n w
  label_places {s = s} {n = n} {w = w} p i = by_opened (reached_opened p)
    where
      by_later : (later : List Label) → s.labels ≡ first_label ∷ later → Each later
          → (record { reference = n; place = w } ≡ first_label) ⊎ Labelled later n w → Placing n w
      by_later later all each (inl e) = inl e
      by_later later all each (inr j) =
          inr (λ z. counted_twice n later all z j (labelled_once ts p n), each_at j each)

      by_opened : (s ≡ start) ⊎ Opened s → Placing n w
      by_opened (inl e) = absurd (no_labels (subst (λ s. Labelled s.labels n w) e i))
      by_opened (inr k) =
          let at = subst (λ ls. Labelled ls n w) k.all i in
          by_later k.later k.all k.each (Memᴰ.cases_cons at)
