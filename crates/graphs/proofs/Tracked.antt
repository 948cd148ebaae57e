-- What every run's track is as a graph to be saved: labels are placed as the reader wants them, a node leads on at
-- most once to its .1 side and at most once elsewhere, and branches as its place allows, meetings join two event
-- nodes of one event, and all is in range and within the rooms. Each is a law of runs told by counts, read through
-- what looking up, joining and keeping count. Assumes nothing.
use Rattle.std.proofs.Common.{ℕ, zero, suc, ◌≤◌, ◌<◌, ◌≡◌, refl, sym, subst, ap, ◌∙◌, Bool, true, false, not}
use Rattle.std.proofs.Common.{◌||◌, List, ◌⊎◌, inl, inr, ⊎_elim, arith, length, eq-eqb, ne_eqb, le-leb}
use Rattle.std.proofs.Math.Option.{Option, none, some}
use Rattle.std.proofs.Math.ListN.{get_elem?}
use Rattle.lines.specs.Line.{no_bytes, byte_first}
use Rattle.terms.specs.Term.{Term, Shallow}
use Rattle.places.specs.Place.{Place, under}
use Rattle.rules.specs.Track.{lookup}
use Rattle.rules.specs.Run.{State, Reached, node_room, arc_room, meeting_room}
use Rattle.rules.proofs.Drawn.{reached_kept, rooms_hold, fresh_room}
use Rattle.rules.proofs.Marked.{labelled_once}
use Rattle.rules.proofs.Meetings.{times, meetings_apart, meetings_of_one_event, EventNode}
use Rattle.rules.proofs.Offered.{or_left, or_right, or_either}
use Rattle.rules.proofs.Placed.{found}
use Rattle.rules.proofs.Weighed.{between, out, labelled_tally}
use Rattle.rules.proofs.Parents.{arcs_from_labelled}
use Rattle.rules.proofs.Sided.{Splits, true_under}
use Rattle.rules.proofs.Branches.{any, one_way_on, sides_on, sides_on_once}
use Rattle.graphs.specs.Graph.{Graph, graph_of, present, labelled, keep, heads, targets, on_side, side}
use Rattle.graphs.specs.Graph.{meets}
use Rattle.graphs.specs.Shape.{same, placed, every, branches, event_of, one_event}
use Rattle.graphs.proofs.Ordered.{counted_label}
use Rattle.graphs.proofs.Renaming.{NarrowAt, Narrow}
use Rattle.graphs.proofs.Literals.{splits_or_not, event_at, Ranged, ranged, literal_ranged}
use Rattle.graphs.proofs.Labels.{first_label, Placing, label_places}
use Rattle.graphs.proofs.Counted.{lookup_labelled, labelled_lookup, joins_times, keep_most, keep_all}
use Rattle.graphs.proofs.Counted.{heads_out, every_head, few_heads}

-- one node's place is on a side of the other's as the places are
side_is : {w v : Place} (g : Graph) (x n m : ℕ) → lookup n g.labels ≡ some w → lookup m g.labels ≡ some v
    → side g x n m ≡ under w x v
unfolding on_side
side_is g x n m e f = rw (e, f)

-- a test and its refusal do not hold both
not_both : {A : Type 0} (b : Bool) → b ≡ true → not b ≡ true → A
not_both true e f = let z : ◌≡◌ {A = ℕ} 0 1 = cc in absurd (omega arith)
not_both false e f = let z : ◌≡◌ {A = ℕ} 0 1 = cc in absurd (omega arith)

-- two optional events are of one number
abbrev OneEvent : Option ℕ → Option ℕ → Type 0
OneEvent a b = (e : ℕ) × (a ≡ some e) × (b ≡ some e)

module _ (ts : List Term) {s : State} (p : Reached ts s) where
  abbrev g : Graph
  g = graph_of s

  -- looked up as labelled
  pub placing : (n : ℕ) (w : Place) → lookup n s.labels ≡ some w → Placing ts n w
  placing n w e = label_places ts p (lookup_labelled s.labels e)

  -- every label is placed as the reader wants it
  pub labels_placed : (n : ℕ) (w : Place) → lookup n s.labels ≡ some w
      → placed ts (record { reference = n; place = w }) ≡ true
  unfolding placed same
  labels_placed n w e =
      ⊎_elim (λ i. ap (placed ts) i) (λ h. rw (ne_eqb n 0 h.0) h.1) (placing n w e)

  -- a node that has no label leads nowhere
  unlabelled_ends : (n : ℕ) (t : ℕ → Bool) → lookup n s.labels ≡ none → length (keep t (targets g n)) ≤ 0
  unfolding present
  unlabelled_ends n t e =
      let none_out : out n s.arcs ≤ 0 = go (out n s.arcs) refl in
      omega (
        arith,
        keep_most t (targets g n),
        keep_most (labelled g) (heads n s.arcs),
        heads_out n s.arcs,
        none_out,
      )
    where
      go : (k : ℕ) → out n s.arcs ≡ k → k ≤ 0
      go zero none_out = omega arith
      go (suc k) Some-out =
          let counted = labelled_tally _ n s.labels (arcs_from_labelled ts p n (omega (arith, Some-out))) in
          let both = sym (counted_label n s.labels counted) ∙ ap present e in
          let z : ◌≡◌ {A = ℕ} 0 1 = cc in absurd (omega arith)

  module _ (n : ℕ) (w : Place) (e : lookup n s.labels ≡ some w) where
    -- a place that does not split has at most one way on
    one_on_any : (Splits (found ts w) → ⊥) → (t : ℕ → Bool) → length (keep t (targets g n)) ≤ 1
    one_on_any splits_not t = omega (
      arith,
      few_heads n s.labels any t s.arcs (λ m v f l i. refl),
      one_way_on ts p (lookup_labelled s.labels e) splits_not,
    )

    -- one that does has at most one way to either side
    one_on_side : Splits (found ts w) → (x : ℕ) → length (keep (side g x n) (targets g n)) ≤ 1
    one_on_side splits x = omega (
      arith,
      few_heads n s.labels (under w x) (side g x n) s.arcs (λ m v f l i. sym (side_is g x n m e f) ∙ i),
      sides_on_once ts p (lookup_labelled s.labels e) x splits,
    )

    -- each way is to a side, so a way that is not to side 1 is to side 2
    on_sides : Splits (found ts w) → (m : ℕ) (v : Place) → lookup m s.labels ≡ some v
        → 1 ≤ between n m s.arcs → (side g 1 n m ≡ true) ⊎ (side g 2 n m ≡ true)
    on_sides splits m v f l =
        ⊎_elim (λ h. inl (side_is g 1 n m e f ∙ true_under w v 1 h))
        (λ h. inr (side_is g 2 n m e f ∙ true_under w v 2 h))
        (sides_on ts p (lookup_labelled s.labels e) splits (lookup_labelled s.labels f) l)

    off_side : Splits (found ts w) → length (keep (λ m. not (side g 1 n m)) (targets g n)) ≤ 1
    off_side splits = omega (
      arith,
      few_heads n s.labels (under w 2) (λ m. not (side g 1 n m)) s.arcs (λ m v f l i.
          ⊎_elim (λ h. not_both (side g 1 n m) h i) (λ h. sym (side_is g 2 n m e f) ∙ h)
          (on_sides splits m v f l)),
      sides_on_once ts p (lookup_labelled s.labels e) 2 splits,
    )

    -- so the ways on are few, whether or not it splits
    narrow_here : NarrowAt g n
    narrow_here =
        ⊎_elim (λ h. (one_on_side h.1 1, off_side h.1)) (λ h. (one_on_any h.1 _, one_on_any h.1 _))
        (splits_or_not ts w)

    each_on_a_side : Splits (found ts w) → every (λ m. side g 1 n m || side g 2 n m) (targets g n) ≡ true
    each_on_a_side splits =
        every_head n s.labels (λ m. side g 1 n m || side g 2 n m) s.arcs (λ m v f l.
        let first = side g 1 n m in
        let second = side g 2 n m in
        ⊎_elim (or_left first second) (or_right first second) (on_sides splits m v f l))

    -- a labelled node branches as its place allows
    pub run_branches : branches ts g (record { reference = n; place = w }) ≡ true
    unfolding branches
    run_branches =
        ⊎_elim (λ h.
        let first = le-leb _ 1 (one_on_side h.1 1) in
        let second = le-leb _ 1 (one_on_side h.1 2) in
        rw (h.0, each_on_a_side h.1, first, second))
        (λ h.
        let few = one_on_any h.1 (λ m. true) in
        rw h.0 (le-leb (length (targets g n)) 1 (omega (arith, keep_all (targets g n), few))))
        (splits_or_not ts w)

  -- a node leads on at most once to its .1 side and at most once elsewhere
  pub run_narrow : Narrow g
  run_narrow n = go (lookup n s.labels) refl
    where
      go : (o : Option Place) → lookup n s.labels ≡ o → NarrowAt g n
      go none e =
          let other = unlabelled_ends n (λ m. not (side g 1 n m)) e in
          (omega (arith, unlabelled_ends n (side g 1 n) e), omega (arith, other))
      go (some w) e = narrow_here n w e

  -- an event node has its event, and who meet have one
  event_node : (e n : ℕ) → EventNode ts s.labels e n → event_of ts (lookup n s.labels) ≡ some e
  event_node e n (w, i, h) = ap (event_of ts) (labelled_lookup i (labelled_once ts p n)) ∙ event_at ts w e h

  meets_one_event : (i j : ℕ) → 1 ≤ times i j s.meetings
      → (i ≡ j → ⊥) × OneEvent (event_of ts (lookup i s.labels)) (event_of ts (lookup j s.labels))
  meets_one_event i j h =
      let (e, from, to) = meetings_of_one_event ts p i j h in
      (meetings_apart ts p i j h, (e, event_node e i from, event_node e j to))

  -- who meet are two, and event nodes of one event
  pub run_meetings : (i j : ℕ) → meets s.meetings i j ≡ true → (i ≡ j → ⊥)
      × (one_event ts (event_of ts (lookup i s.labels)) (event_of ts (lookup j s.labels)) ≡ true)
  unfolding one_event
  run_meetings i j h =
      ⊎_elim (λ k.
      let (apart, (e, from, to)) = meets_one_event i j ((joins_times i j s.meetings).0 k) in
      (apart, rw (from, to) (eq-eqb e e refl)))
      (λ k.
      let (apart, (e, from, to)) = meets_one_event j i ((joins_times j i s.meetings).0 k) in
      (λ z. apart (sym z), rw (from, to) (eq-eqb e e refl)))
      (or_either _ _ h)

  -- every label's place is in range, where the table has a definition and none has a path of over 64 digits
  pub run_ranged : ((k : ℕ) (t : Term) → get_elem? ts k ≡ some t → Shallow 0 t) → 0 < length ts
      → (n : ℕ) (w : Place) → lookup n s.labels ≡ some w → Ranged (length ts) w
  run_ranged shallow some_there n w e =
      let bytes = byte_first {b = 0} (omega arith) no_bytes in
      let first = ranged (length ts) first_label.place (omega arith) some_there bytes in
      ⊎_elim (λ i. subst (λ l. Ranged (length ts) l.place) (sym i) first)
      (λ h. literal_ranged ts shallow w h.1) (placing n w e)

  -- and it is within the rooms
  pub run_rooms : (length s.labels ≤ node_room) × (length s.arcs ≤ arc_room)
      × (length s.meetings ≤ meeting_room) × (s.fresh ≤ 8193)
  run_rooms =
      let rooms = rooms_hold s (reached_kept ts p).room in
      (rooms.1, rooms.2, rooms.3, fresh_room ts p)
