-- In every run both ends of a meeting are labelled and differ, no two references meet twice, in either order,
-- and the ends are labelled with places of prefixes' events of one number. Told by counting: i and j meet in
-- a step, both orders together, no more often than the product of how often each is one of its event nodes,
-- and these it labels with places of the event that it shows; so over a run no more often than the product of
-- how often each is labelled, which is at most 1. A prefix of control stands where the table has it. Assumes
-- nothing.
use Rattle.std.proofs.Common.{ℕ, zero, suc, ◌+◌, ◌*◌, ◌≤◌, ◌<◌, ◌≡◌, refl, sym, subst, ap, ◌∙◌, List, [], ◌∷◌}
use Rattle.std.proofs.Common.{◌++◌, ◌⊎◌, inl, inr, ⊎_elim, arith, add_comm, add_assoc, zero-mul, mul-zero}
use Rattle.std.proofs.Common.{mul-add, add-mul, mul_comm, mul-le-mul}
use mathlib.Core.List.Memᴰ
use mathlib.Core.List.{Memᴰ}
use Rattle.std.proofs.Math.Option.{Option, none, some}
use Rattle.std.proofs.Math.ListN.{get_elem?}
use Rattle.terms.specs.Term.{Operator, external, parallel, Term, size}
use Rattle.terms.specs.Term as Term
use Rattle.terms.proofs.Held.{size_some}
use Rattle.places.specs.Place.{Place, path_in, term_at, PrefixAt, event, literal_at}
use Rattle.places.proofs.Sides.{Side, only, first, second, by_number, side_at, side_inside, path_root}
use Rattle.places.proofs.Sides.{term_root}
use Rattle.places.proofs.Laws.{event_found}
use Rattle.rules.specs.declared.Event.{Event}
use Rattle.rules.specs.declared.Event.TheVariants.{Visible as visible}
use Rattle.rules.specs.Process.{Address, Process, leaf, prefix, internal, split, sequence, Ω, ⊥', below}
use Rattle.rules.specs.Process.{joined, untouched, right_side}
use Rattle.rules.specs.Track.{Label, Pair, At, Outcome, labelled, prefixed, Entered, around, each_with}
use Rattle.rules.specs.Track.{meet, jointly, carried, started, ended}
use Rattle.rules.specs.Tracking.{Shows, passes, hides_τ, hides-✓, Tracks, process_call, prefixing, skip}
use Rattle.rules.specs.Tracking.{stop, internal_choice_1, internal_choice_2, external_choice_1}
use Rattle.rules.specs.Tracking.{external_choice_2, external_choice_3, external_choice_4}
use Rattle.rules.specs.Tracking.{sequential_composition_1, sequential_composition_2}
use Rattle.rules.specs.Tracking.{synchronized_parallelism_1, synchronized_parallelism_2}
use Rattle.rules.specs.Tracking.{synchronized_parallelism_3, synchronized_parallelism_4}
use Rattle.rules.specs.Run.{State, stands, after, Reached, begun, goes_on}
use Rattle.rules.proofs.Answered.{accepted_exactly}
use Rattle.rules.proofs.Quiet.{Quiet, quiet_meets_none}
use Rattle.rules.proofs.Marked.{one, same_one, tally, tally_append, labelled_once}

-- how often n is among event nodes
unfoldable pub among : ℕ → List ℕ → ℕ
among n [] = 0
among n (m ∷ ms) = one n m + among n ms

among_append : (n : ℕ) (xs ys : List ℕ) → among n (xs ++ ys) ≡ among n xs + among n ys
unfolding among
among_append n [] ys = omega arith
among_append n (x ∷ xs) ys = omega (arith, among_append n xs ys)

-- how often i meets j, in this order
unfoldable pub times : ℕ → ℕ → List Pair → ℕ
times i j [] = 0
times i j (m ∷ ms) = one i m.from * one j m.to + times i j ms

times_append : (i j : ℕ) (g h : List Pair) → times i j (g ++ h) ≡ times i j g + times i j h
unfolding times
times_append i j [] h = omega arith
times_append i j (m ∷ g) h = omega (arith, times_append i j g h)

-- each of the one meets each of the other
times_with : (i j x : ℕ) (ys : List ℕ) → times i j (each_with x ys) ≡ one i x * among j ys
unfolding times among each_with
times_with i j x [] = omega (arith, mul-zero (one i x))
times_with i j x (y ∷ ys) = omega (arith, times_with i j x ys, mul-add (one i x) (one j y) (among j ys))

times_meet : (i j : ℕ) (xs ys : List ℕ) → times i j (meet xs ys) ≡ among i xs * among j ys
unfolding times among meet
times_meet i j [] ys = omega (arith, zero-mul (among j ys))
times_meet i j (x ∷ xs) ys =
    simp (times_append, times_with, add-mul) (omega (arith, times_meet i j xs ys))

-- i and j meet, both orders together, no more often than the product of their counts
abbrev pub Few : (ℕ → ℕ) → List Pair → Type 0
Few c g = (i j : ℕ) → times i j g + times j i g ≤ c i * c j

few_none : Few (λ n. 0) []
unfolding times
few_none i j = omega arith

few_jointly : (xs ys : List ℕ) (g h : List Pair) → Few (λ n. among n xs) g → Few (λ n. among n ys) h
    → Few (λ n. among n (xs ++ ys)) ((g ++ h) ++ meet xs ys)
few_jointly xs ys g h left right i j =
    simp (times_append, times_meet, among_append, add-mul, mul-add)
    (omega (arith, left i j, right i j, mul_comm (among j xs) (among i ys)))

-- who meets counts
few_ends : (c : ℕ → ℕ) (g : List Pair) → Few c g → (i j : ℕ) → 1 ≤ times i j g → (1 ≤ c i) × (1 ≤ c j)
few_ends c g few i j h = go (c i) (c j) (omega (arith, few i j))
  where
    go : (a b : ℕ) → 1 ≤ a * b → (1 ≤ a) × (1 ≤ b)
    go zero b p = absurd (omega (arith, zero-mul b))
    go (suc a) zero p = absurd (omega (arith, mul-zero (suc a)))
    go (suc a) (suc b) p = (omega arith, omega arith)

-- what counts in a sum counts in a part
either : (a b : ℕ) → 1 ≤ a + b → (1 ≤ a) ⊎ (1 ≤ b)
either zero b h = inr (omega arith)
either (suc a) b h = inl (omega arith)

-- reference n is labelled with place w
abbrev pub Labelled : List Label → ℕ → Place → Type 0
Labelled ls n w = Memᴰ (record { reference = n; place = w }) ls

-- the labels of the one are labels of the other
abbrev Kept : List Label → List Label → Type 0
Kept ls ms = (l : Label) → Memᴰ l ls → Memᴰ l ms

-- a term stands at a place of the table: as the subterm of that number of the place's definition
pub record TermAt (ts : List Term) (w : Place) (t : Term) : Type 0 where
  pub root : Term
  pub number : ℕ
  pub held : get_elem? ts w.definition ≡ some root
  pub inside : number < size root
  pub here : term_at root number ≡ t
  pub path : w.path ≡ path_in root number

-- a side of number n of a term is a number of the term, one digit below
abbrev SideBelow : Term → ℕ → Type 0
SideBelow T n = (u : Term) (x k : ℕ) → Side (term_at T n) x k u
    → (n + k < size T) × (path_in T (n + k) ≡ path_in T n ++ (x ∷ [])) × (term_at T (n + k) ≡ u)

number_below : (T : Term) (n : ℕ) → n < size T → SideBelow T n
number_below =
    by_number SideBelow (λ T u x k s.
    let side : Side T x k u = rw (term_root T) at s in
    let (path, term) = side_at 0 side (size_some u) in
    rw (add_comm 0 k, path_root T)
    (omega (arith, size_some u, side_inside side), path ∙ ap (λ p. x ∷ p) (path_root u), term ∙ term_root u))
    λ T t y m n s h further u x k z.
    let side : Side (term_at t n) x k u = rw (side_at n s h).1 at z in
    let (inside, path, term) = further u x k side in
    let (upper, same) = side_at (n + k) s inside in
    rw (add_assoc m n k, (side_at n s h).0)
    (omega (arith, inside, side_inside s), upper ∙ ap (λ p. y ∷ p) path, same ∙ term)

-- an event is shown as it is
event_shown : {x n : ℕ} {u e : Event} → Shows x u e → u ≡ visible n → e ≡ visible n
event_shown (passes out) v = v
event_shown hides_τ v = v
event_shown hides-✓ v = cc

module _ (ts : List Term) where
  -- a side of a term of the table stands one digit below
  term_below : (w : Place) (T t : Term) (x k : ℕ) → TermAt ts w T → Side T x k t → TermAt ts (below w x) t
  term_below w T t x k h s =
      let at = number_below h.root h.number h.inside t x k (rw h.here s) in
      record {
        root = h.root;
        number = h.number + k;
        held = h.held;
        inside = at.0;
        here = at.2;
        path = ap (λ p. p ++ (x ∷ [])) h.path ∙ sym at.1;
      }

  -- each prefix of a process stands in the table at its place, with its event
  abbrev pub Standing : Process → Type 0
  Standing (leaf w l) = Unit {0}
  Standing (prefix w e P) = ((t : Term) × TermAt ts w (Term.prefix e t)) × Standing P
  Standing (internal w P Q) = Standing P × Standing Q
  Standing (split w k m n P Q) = Standing P × Standing Q
  Standing (sequence w b P Q) = Standing P × Standing Q
  Standing Ω = Unit {0}
  Standing ⊥' = Unit {0}

  -- so it is before any step
  joined_standing : (o : Operator) (w : Place) (P Q : Process) → Standing P → Standing Q
      → Standing (joined o w P Q)
  unfolding joined
  joined_standing Term.internal w P Q h k = (h, k)
  joined_standing external w P Q h k = (h, k)
  joined_standing Term.sequence w P Q h k = (h, k)
  joined_standing (parallel x) w P Q h k = (h, k)

  untouched_standing : (w : Place) (t : Term) → TermAt ts w t → Standing (untouched w t)
  unfolding untouched
  untouched_standing w (Term.leaf l) h = tt
  untouched_standing w (Term.prefix e t) h =
      ((t, h), untouched_standing (below w 2) t (term_below w _ t 2 _ h (only e t)))
  untouched_standing w (Term.binary o t u) h =
      joined_standing o w _ _ (untouched_standing (below w 1) t (term_below w _ t 1 _ h (first o t u)))
      (untouched_standing (below w 2) u (term_below w _ u 2 _ h (second o t u)))

  rhs_standing : (n : ℕ) (o : Option Term) → get_elem? ts n ≡ o → Standing (right_side n o)
  unfolding right_side
  rhs_standing n none e = tt
  rhs_standing n (some t) e = untouched_standing (record { definition = n; path = [] }) t (record {
    root = t;
    number = 0;
    held = e;
    inside = size_some t;
    here = term_root t;
    path = sym (path_root t);
  })

  -- a prefix of e has its event at w
  abbrev pub EventAt : ℕ → Place → Type 0
  EventAt e w = (v : Place) × (t : Term) × TermAt ts v (Term.prefix e t) × (w ≡ below v 1)

  -- which is the literal that the table has there
  pub event_literal : (e : ℕ) (w : Place) → EventAt e w → (T : Term) × (n : ℕ) × (t : Term)
      × (get_elem? ts w.definition ≡ some T) × (literal_at T w.path ≡ some (event n))
      × (term_at T n ≡ Term.prefix e t)
  event_literal e w (v, t, h, at) =
      let is_prefix : PrefixAt h.root h.number = rw h.here tt in (
        h.root,
        h.number,
        t,
        rw at h.held,
        rw (at, h.path) (event_found h.root h.number is_prefix),
        h.here,
      )

  -- reference n is labelled with the place of an event e
  abbrev pub EventNode : List Label → ℕ → ℕ → Type 0
  EventNode ls e n = (w : Place) × Labelled ls n w × EventAt e w

  -- more labels take nothing away
  node_more : (ls ms : List Label) (e n : ℕ) → Kept ls ms → EventNode ls e n → EventNode ms e n
  node_more ls ms e n k h = (h.0, k _ h.1, h.2)

  -- each of these is so labelled, with the event that a step shows
  abbrev pub Nodes : List Label → Event → List ℕ → Type 0
  Nodes ls u ns = (n : ℕ) → 1 ≤ among n ns → (e : ℕ) × (u ≡ visible e) × EventNode ls e n

  nodes_more : (ls ms : List Label) (u v : Event) (ns : List ℕ) → Kept ls ms
      → ((n : ℕ) → u ≡ visible n → v ≡ visible n) → Nodes ls u ns → Nodes ms v ns
  nodes_more ls ms u v ns k shown h n i =
      let (e, is, node) = h n i in (e, shown e is, node_more ls ms e n k node)

  -- the ends of each meeting are event nodes of one event
  abbrev pub OfOneEvent : List Label → List Pair → Type 0
  OfOneEvent ls g = (i j : ℕ) → 1 ≤ times i j g → (e : ℕ) × EventNode ls e i × EventNode ls e j

  events_more : (ls ms : List Label) (g : List Pair) → Kept ls ms → OfOneEvent ls g → OfOneEvent ms g
  events_more ls ms g k h i j m =
      let (e, from, to) = h i j m in (e, node_more ls ms e i k from, node_more ls ms e j k to)

  -- what a step keeps
  pub record Gathered (r : Outcome) : Type 0 where
    pub standing : Standing r.process
    pub counted : (n : ℕ) → among n r.met ≤ tally n r.labels
    pub nodes : Nodes r.labels r.event r.met
    pub few : Few (λ n. among n r.met) r.meetings

  -- so its meetings are of its event
  pub one_event : (r : Outcome) → Gathered r → OfOneEvent r.labels r.meetings
  one_event r k i j m =
      let ends = few_ends (λ n. among n r.met) r.meetings k.few i j m in
      let (e, is, from) = k.nodes i ends.0 in
      let (e', is', to) = k.nodes j ends.1 in
      let same : e' ≡ e = cc in
      (e, from, rw same at to)

  -- by rule: no event node, a prefix, and a side, or a sequence's left, with what its entering added
  of_none : (r : Outcome) → r.met ≡ [] → Few (λ n. 0) r.meetings → Standing r.process → Gathered r
  unfolding among
  of_none r no_node few h = record {
    standing = h;
    counted = λ n. rw no_node (omega arith);
    nodes = λ n i. absurd (omega (arith, rw no_node at i));
    few = rw no_node few;
  }

  of_prefixed : (e : ℕ) (P : Process) (w : Place) (s : At) → Standing (prefix w e P)
      → Gathered (prefixed e P w s)
  unfolding prefixed among times tally
  of_prefixed e P w s h = record {
    standing = h.1;
    counted = λ n. omega arith;
    nodes = λ n i.
        let here : n ≡ s.reference = same_one n s.reference (omega arith) in
        (e, refl, (below w 1, rw here (Memᴰ.head refl), (w, h.0.0, h.0.1, refl)));
    few = λ i j. omega arith;
  }

  of_around : (i : Entered) (r : Outcome) (e : Event) (P : Process) (m : ℕ)
      → (Standing r.process → Standing P) → ((n : ℕ) → r.event ≡ visible n → e ≡ visible n)
      → Gathered r → Gathered (around i r e P m)
  unfolding around
  of_around i r e P m h shown k = record {
    standing = h k.standing;
    counted = λ n. omega (arith, k.counted n, tally_append n i.labels r.labels);
    nodes = nodes_more r.labels _ _ e r.met (λ l. Memᴰ.append_right i.labels) shown k.nodes;
    few = k.few;
  }

  of_carried : (r : Outcome) (P : Process) → (Standing r.process → Standing P) → Gathered r
      → Gathered (carried r P)
  unfolding around carried
  of_carried r P h =
      of_around (record { reference = 0; fresh = 0; labels = []; arcs = [] }) r r.event P r.reference h
      (λ n v. v)

  -- both sides stepped, each with its entering
  of_joint : (i : Entered) (l : Outcome) (j : Entered) (r : Outcome) (e : ℕ) (P : Process) (m : ℕ)
      → (Standing l.process → Standing r.process → Standing P) → l.event ≡ visible e
      → r.event ≡ visible e → Gathered l → Gathered r → Gathered (jointly i l j r e P m)
  unfolding around jointly
  of_joint i l j r e P m h l_event r_event on_left on_right =
      let left = of_around i l (visible e) l.process m (λ k. k) (λ n v. sym l_event ∙ v) on_left in
      let right = of_around j r (visible e) r.process m (λ k. k) (λ n v. sym r_event ∙ v) on_right in
      let lefts = i.labels ++ l.labels in
      let rights = j.labels ++ r.labels in
      record {
        standing = h on_left.standing on_right.standing;
        counted = λ n. simp (among_append, tally_append n lefts rights)
            (omega (arith, left.counted n, right.counted n));
        nodes = λ n x. ⊎_elim
            (nodes_more lefts _ _ _ l.met (λ a. Memᴰ.append_left rights) (λ k v. v) left.nodes n)
            (nodes_more rights _ _ _ r.met (λ a. Memᴰ.append_right lefts) (λ k v. v) right.nodes n)
            (either (among n l.met) (among n r.met) (rw among_append at x));
        few = few_jointly l.met r.met l.meetings r.meetings left.few right.few;
      }

  -- each rule keeps it
  pub gathered : {a : Address} {P : Process} {s : At} {r : Outcome} → Tracks ts a P s r → Standing P
      → Gathered r
  unfolding labelled started ended among
  gathered (process_call {n = n}) h = of_none _ refl few_none (rhs_standing n (get_elem? ts n) refl)
  gathered (prefixing {a = e} {w = w} {P = P} {s = s}) h = of_prefixed e P w s h
  gathered skip h = of_none _ refl few_none tt
  gathered stop h = of_none _ refl few_none tt
  gathered internal_choice_1 h = of_none _ refl few_none h.0
  gathered internal_choice_2 h = of_none _ refl few_none h.1
  gathered (external_choice_1 {r = r} d t) h =
      of_around _ r _ _ _ (λ k. (k, h.1)) (λ n v. sym t ∙ v) (gathered d h.0)
  gathered (external_choice_2 {r = r} d t) h =
      of_around _ r _ _ _ (λ k. (h.0, k)) (λ n v. sym t ∙ v) (gathered d h.1)
  gathered (external_choice_3 {r = r} d v) h = of_around _ r _ _ _ (λ k. k) (λ n v. v) (gathered d h.0)
  gathered (external_choice_4 {r = r} d v) h = of_around _ r _ _ _ (λ k. k) (λ n v. v) (gathered d h.1)
  gathered (sequential_composition_1 {r = r} d n) h =
      of_carried r _ (λ k. (k, h.1)) (gathered d h.0)
  gathered (sequential_composition_2 {r = r} d t) h =
      let no_node : r.met ≡ [] = quiet_meets_none ts d (subst Quiet (sym t) tt) in
      of_none _ refl (rw no_node at (gathered d h.0).few) h.1
  gathered (synchronized_parallelism_1 {r = r} d v) h =
      of_around _ r _ _ _ (λ k. (k, h.1)) (λ n. event_shown v) (gathered d h.0)
  gathered (synchronized_parallelism_2 {r = r} d v) h =
      of_around _ r _ _ _ (λ k. (h.0, k)) (λ n. event_shown v) (gathered d h.1)
  gathered (synchronized_parallelism_3 {l = l} {r = r} {e = e} d d' t t' x c) h =
      of_joint _ l _ r e _ _ (λ k k'. (k, k')) t t' (gathered d h.0) (gathered d' h.1)
  gathered (synchronized_parallelism_4 p p') h = of_none _ refl few_none tt

  -- what every run keeps
  pub record GatheredOn (s : State) : Type 0 where
    pub standing : Standing s.process
    pub few : Few (λ n. tally n s.labels) s.meetings
    pub agreed : OfOneEvent s.labels s.meetings

  gathered_after : (s : State) (a : Address) (r : Outcome) → Tracks ts a s.process (stands s) r
      → GatheredOn s → GatheredOn (after s r)
  unfolding after
  gathered_after s a r d k =
      let on = gathered d k.standing in
      record {
        standing = on.standing;
        few = λ i j. simp (times_append, tally_append, add-mul, mul-add)
            (omega (arith, k.few i j, on.few i j, mul-le-mul (on.counted i) (on.counted j)));
        agreed = λ i j m. ⊎_elim
            (events_more s.labels _ s.meetings (λ l. Memᴰ.append_left r.labels) k.agreed i j)
            (events_more r.labels _ r.meetings (λ l. Memᴰ.append_right s.labels) (one_event r on) i j)
            (either (times i j s.meetings) (times i j r.meetings) (rw times_append at m));
      }

  pub reached_gathered : {s : State} → Reached ts s → GatheredOn s
  unfolding times tally
  reached_gathered begun = record { standing = tt; few = few_none; agreed = λ i j m. absurd (omega arith) }
  reached_gathered (goes_on {s = s} {t = t} a e p h) =
      let d = (accepted_exactly ts s a e t).0 h in
      subst GatheredOn d.3 (gathered_after s a d.0 d.1 (reached_gathered p))

  -- both ends of a meeting are labelled
  pub meetings_labelled : {s : State} → Reached ts s → (i j : ℕ) → 1 ≤ times i j s.meetings
      → (1 ≤ tally i s.labels) × (1 ≤ tally j s.labels)
  meetings_labelled {s = s} p =
      few_ends (λ n. tally n s.labels) s.meetings (reached_gathered p).few

  -- no two references meet twice, in either order
  pub meetings_once : {s : State} → Reached ts s → (i j : ℕ)
      → times i j s.meetings + times j i s.meetings ≤ 1
  meetings_once p i j =
      omega (arith, (reached_gathered p).few i j, mul-le-mul (labelled_once ts p i) (labelled_once ts p j))

  -- and none meets itself
  pub meetings_apart : {s : State} → Reached ts s → (i j : ℕ) → 1 ≤ times i j s.meetings → i ≡ j → ⊥
  meetings_apart p i j h e = let same = rw e at h in omega (arith, meetings_once p j j)

  -- the ends of a meeting are labelled with places of prefixes' events, of one event
  pub meetings_of_one_event : {s : State} → Reached ts s → OfOneEvent s.labels s.meetings
  meetings_of_one_event p = (reached_gathered p).agreed
