-- The exchange. Two accepted steps that agree down to a parallel and there go to opposite sides are two
-- derivations, and each has its derivation behind the other; the two orders differ by one renumbering, which
-- no counter, no event and no saved byte shows. It holds from every `Exchangeable` state, whose arcs may go
-- down and round, where both orders make narrow graphs; the states and graphs of runs are such. Assumes nothing.
use Rattle.std.specs.Prelude.{ℕ, zero, suc, ◌+◌, ◌≤◌, ◌<◌, ◌≡◌, refl, List, ◌++◌}
use Rattle.std.proofs.Common.{sym, ap, subst, ◌∙◌, arith}
use Rattle.terms.specs.Term.{Term}
use Rattle.rules.specs.declared.Event.{Event}
use Rattle.rules.specs.Process.{Address, cells}
use Rattle.rules.specs.Track.{Outcome, lookup}
use Rattle.rules.specs.Tracking.{Tracks}
use Rattle.rules.specs.Run.{State, stands, after, over_room, accepted, refused, within_room, answer, Reached}
use Rattle.rules.specs.Run.{goes_on}
use Rattle.rules.proofs.Answered.{answer_named, accepted_exactly}
use Rattle.rules.proofs.Marked.{past, past_most, past_drawn, waiting, tally, tally_append, marked}
use Rattle.rules.proofs.Marked.{reached_marked}
use Rattle.rules.proofs.Meetings.{meetings_labelled}
use Rattle.rules.proofs.Holding.{reached_held}
use Rattle.rules.proofs.Climbing.{reached_climbed}
use Rattle.graphs.specs.Graph.{graph_of}
use Rattle.graphs.specs.Saved.{graph_text}
use Rattle.graphs.specs.Renumbering.{Renumbers}
use Rattle.graphs.proofs.Renumbered.{renumbered_canonical}
use Rattle.graphs.proofs.Renaming.{Narrow}
use Rattle.graphs.proofs.Tracked.{run_narrow}
use Rattle.exchange.specs.Opposite.{Opposite}
use Rattle.exchange.proofs.References.{renamed_cells}
use Rattle.exchange.proofs.RenamedSteps.{on_label, on_pair}
use Rattle.exchange.proofs.Ends.{Ends, up_ends, counted_ends}
use Rattle.exchange.proofs.Later.{pairs_fixed}
use Rattle.exchange.proofs.Hands.{Stands, stands_below}
use Rattle.exchange.proofs.Swapped.{Swaps, swaps_parts, swaps_length}
use Rattle.exchange.proofs.Views.{swaps_lookup, swaps_joins, swaps_meets, labels_fixed}
use Rattle.exchange.proofs.Levels.{EitherOrder}
use Rattle.exchange.proofs.Orders.{exchanged}
use Rattle.exchange.specs.Orders.{SameCounters, BothOrders}

-- states of the same counters pass the same rooms
same_rooms : (s t : State) → SameCounters s t → over_room s ≡ over_room t
unfolding over_room
same_rooms s t (c, l, a, m) = rw (c, l, a, m)

-- an answer by its room's number
room_kept : (n : ℕ) (e : Event) (t : State) → n ≡ 0 → within_room n e t ≡ accepted e t
unfolding within_room
room_kept n e t z = rw z

room_passed : (n : ℕ) (e : Event) (t : State) → (n ≡ 0 → ⊥) → within_room n e t ≡ refused n
unfolding within_room
room_passed zero e t h = absurd (h refl)
room_passed (suc n) e t h = refl

-- What an exchange asks of the state before it
pub record Exchangeable (s : State) : Type 0 where
  -- references are held once, and arcs have both ends drawn
  pub control : Stands s.process (stands s)
  -- a reference is labelled once, or waits for its label once, and has been drawn
  pub marked_once : (n : ℕ)
      → tally n s.labels + waiting n s.reference s.process ≤ past n s.fresh
  -- both ends of a meeting have been drawn
  pub met : Ends s.fresh s.meetings

-- every state of a run has it
pub reached_exchangeable : (ts : List Term) {s : State} → Reached ts s → Exchangeable s
reached_exchangeable ts {s = s} p = record {
  control = record {
    fit = (reached_marked ts p).fit;
    holds = reached_held ts p;
    ends = up_ends s.fresh s.arcs (reached_climbed ts p).up;
  };
  marked_once = (reached_marked ts p).summed;
  met = counted_ends s.fresh s.meetings (λ i j h.
      let (here, there) = meetings_labelled ts p i j h in
      (drawn i here, drawn j there));
}
  where
    drawn : (n : ℕ) → 1 ≤ tally n s.labels → n < s.fresh
    drawn n h = past_drawn n s.fresh (omega (arith, h, (reached_marked ts p).summed n))

-- the graphs that a step at address b of state s makes are narrow
abbrev pub NarrowBehind : List Term → State → Address → Type 0
NarrowBehind ts s b = (e : Event) (t : State) → answer ts s b ≡ accepted e t → Narrow (graph_of t)

module _ (ts : List Term) {s : State} (p : Exchangeable s) (a b : Address) (r q : Outcome)
    (t : Tracks ts a s.process (stands s) r) (k : EitherOrder ts a b (stands s) r q) where
  -- the states behind both
  abbrev one_way : State
  one_way = after (after s r) k.then_second

  abbrev other_way : State
  other_way = after (after s q) k.then_first

  -- the tracks in the two orders
  swaps_labels : Swaps (on_label k.φ) one_way.labels other_way.labels
  unfolding after
  swaps_labels =
      swaps_parts s.labels r.labels k.then_second.labels q.labels k.then_first.labels
      (labels_fixed k.φ s.fresh k.fixes s.labels
      (λ n. omega (arith, p.marked_once n)))
      k.labels

  swaps_arcs : Swaps (on_pair k.φ) one_way.arcs other_way.arcs
  unfolding after
  swaps_arcs =
      swaps_parts s.arcs r.arcs k.then_second.arcs q.arcs k.then_first.arcs
      (pairs_fixed k.φ s.fresh k.fixes s.arcs p.control.ends)
      k.arcs

  swaps_meetings : Swaps (on_pair k.φ) one_way.meetings other_way.meetings
  unfolding after
  swaps_meetings =
      swaps_parts s.meetings r.meetings k.then_second.meetings q.meetings
      k.then_first.meetings
      (pairs_fixed k.φ s.fresh k.fixes s.meetings p.met)
      k.meetings

  -- no reference is labelled twice
  once : (n : ℕ) → tally n one_way.labels ≤ 1
  unfolding after
  once n =
      let o = k.then_second in
      let on = marked ts t p.control.fit in
      let first : tally n r.labels + waiting n r.reference r.process + past n s.fresh
      ≤ waiting n s.reference s.process + past n r.fresh = on.summed n in
      let second : tally n o.labels + waiting n o.reference o.process + past n r.fresh
      ≤ waiting n r.reference r.process + past n o.fresh =
      (marked ts k.second_tracks on.fit).summed n in
      omega (
        arith,
        first,
        second,
        p.marked_once n,
        tally_append n (s.labels ++ r.labels) o.labels,
        tally_append n s.labels r.labels,
        past_most n o.fresh,
      )

  -- the map is a renumbering
  apart : (n m : ℕ) → k.φ n ≡ k.φ m → n ≡ m
  apart n m e = sym (k.back n) ∙ ap k.ψ e ∙ k.back m

  carried_over : Renumbers k.φ k.ψ (graph_of one_way) (graph_of other_way)
  carried_over =
      let start = k.fixes 0 (let below = stands_below p.control in omega (arith, below)) in
      record {
        back = λ n h. k.back n;
        forth = λ m h. k.forth m;
        places = λ n h. swaps_lookup k.φ apart swaps_labels n (once n);
        places_back = λ m h.
            sym (swaps_lookup k.φ apart swaps_labels (k.ψ m) (once (k.ψ m)))
            ∙ ap (λ n. lookup n other_way.labels) (k.forth m);
        arcs = λ n m h h'. swaps_joins k.φ apart swaps_arcs n m;
        meetings = λ n m h h'. swaps_meets k.φ apart swaps_meetings n m;
        first = λ h. start;
        first_back = λ h. ap k.ψ (sym start) ∙ k.back 0;
      }

  same_counters : SameCounters one_way other_way
  unfolding after
  same_counters = (
    sym (ap cells k.process ∙ renamed_cells k.φ k.then_second.process),
    sym (swaps_length swaps_labels),
    sym (swaps_length swaps_arcs),
    sym (swaps_length swaps_meetings),
  )

  -- the answers
  then_second_answer : answer ts (after s r) b ≡ within_room (over_room one_way) q.event one_way
  unfolding after
  then_second_answer =
      answer_named ts (after s r) b k.then_second k.second_tracks
      ∙ ap (λ e. within_room (over_room one_way) e one_way) k.second_event

  then_first_answer : answer ts (after s q) a ≡ within_room (over_room one_way) r.event other_way
  unfolding after
  then_first_answer =
      answer_named ts (after s q) a k.then_first k.first_tracks
      ∙ ap (λ e. within_room (over_room other_way) e other_way) k.first_event
      ∙ ap (λ n. within_room n r.event other_way) (sym (same_rooms one_way other_way same_counters))

  both_orders : NarrowBehind ts (after s r) b → NarrowBehind ts (after s q) a
      → BothOrders ts a b s (after s r) (after s q) r.event q.event
  unfolding after
  both_orders few few' = record {
    first_then = one_way;
    second_then = other_way;
    counters = same_counters;
    rooms = same_rooms one_way other_way same_counters;
    both_accepted = kept;
    both_refused = λ z. (
      then_second_answer ∙ room_passed (over_room one_way) q.event one_way z,
      then_first_answer ∙ room_passed (over_room one_way) r.event other_way z,
    );
    φ = k.φ;
    ψ = k.ψ;
    back = k.back;
    forth = k.forth;
    fixes = k.fixes;
    process = k.process;
    reference = k.reference;
    fresh = k.fresh;
    renumbers = carried_over;
    same_bytes = λ z.
        let (behind_first, behind-second) = kept z in
        let one_graph = renumbered_canonical k.φ k.ψ (graph_of one_way) (graph_of other_way) carried_over
        (few q.event one_way behind_first) (few' r.event other_way behind-second) in
        ap graph_text (sym one_graph);
  }
    where
      kept : over_room one_way ≡ 0 → (answer ts (after s r) b ≡ accepted q.event one_way)
          × (answer ts (after s q) a ≡ accepted r.event other_way)
      kept z = (
        then_second_answer ∙ room_kept (over_room one_way) q.event one_way z,
        then_first_answer ∙ room_kept (over_room one_way) r.event other_way z,
      )

-- The exchange from any exchangeable state; that the graphs are narrow is used for the same bytes alone
pub exchange_from : (ts : List Term) {s : State} → Exchangeable s → (a b : Address) → Opposite a b s.process
    → (e f : Event) (s₁ s₂ : State) → answer ts s a ≡ accepted e s₁ → answer ts s b ≡ accepted f s₂
    → NarrowBehind ts s₁ b → NarrowBehind ts s₂ a → BothOrders ts a b s s₁ s₂ e f
exchange_from ts {s = s} p a b o e f s₁ s₂ h h' few few' =
    let (r, t, is, there, room) = (accepted_exactly ts s a e s₁).0 h in
    let (q, t', is', there', room') = (accepted_exactly ts s b f s₂).0 h' in
    go r q t (exchanged ts o (stands s) r q p.control t t') is is' there there'
  where
    go : (r q : Outcome) → Tracks ts a s.process (stands s) r → EitherOrder ts a b (stands s) r q
        → r.event ≡ e → q.event ≡ f → after s r ≡ s₁ → after s q ≡ s₂ → BothOrders ts a b s s₁ s₂ e f
    go r q t k is is' there there' =
        rw (sym is, sym is', sym there, sym there')
        (both_orders ts p a b r q t k (subst (λ u. NarrowBehind ts u b) (sym there) few)
        (subst (λ u. NarrowBehind ts u a) (sym there') few'))

-- "Take two addresses, both accepted in one state, that agree down to a parallel and there go to opposite
-- sides, with no external choice and no joint step above it. If neither order meets a room limit, both orders
-- are accepted, end in the same process apart from reference numbers, and save the same bytes."
pub exchange : (ts : List Term) {s : State} → Reached ts s → (a b : Address) → Opposite a b s.process
    → (e f : Event) (s₁ s₂ : State) → answer ts s a ≡ accepted e s₁ → answer ts s b ≡ accepted f s₂
    → BothOrders ts a b s s₁ s₂ e f
exchange ts p a b o e f s₁ s₂ h h' =
    exchange_from ts (reached_exchangeable ts p) a b o e f s₁ s₂ h h'
    (λ v u k. run_narrow ts (goes_on b v (goes_on a e p h) k))
    (λ v u k. run_narrow ts (goes_on a v (goes_on b f p h') k))
