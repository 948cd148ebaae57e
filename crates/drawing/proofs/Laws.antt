-- What a step writes, by what its tests found. Of a loop, what is kept so far, with the rest of its work, is
-- the whole: one law a turn, and one at its end. Assumes nothing.
use Rattle.std.proofs.Common.{ℕ, zero, suc, ◌+◌, ◌*◌, ◌-◌, ◌≤◌, ◌<◌, min, ◌≡◌, refl, ap, Bool, true, false}
use Rattle.std.proofs.Common.{List, ◌⊎◌, inl, inr, arith, add-one, lt-ltb, le-ltb}
use Rattle.control.specs.words.Words.{put, track_word, put_track, event_node, event_nodes_from, meetings_from}
use Rattle.control.specs.words.Sums.{capped}
use Rattle.looking.specs.code.Looking.{leads}
use Rattle.drawing.specs.code.Drawing.{one_node, one_arc, one_meeting, one_met, drawn, labelled}
use Rattle.drawing.specs.code.Drawing.{standing, with_arc, with_meeting, with_met, Kept, kept, met_each}
use Rattle.drawing.specs.code.Drawing.{met_all, joined}
use Rattle.drawing.specs.declared.Tally.{Tally}

-- a tally, count by count
abbrev counts : ℕ → ℕ → ℕ → ℕ → ℕ → Tally
counts fresh nodes arcs meetings met = record {
  fresh = fresh;
  nodes = nodes;
  arcs = arcs;
  meetings = meetings;
  met = met;
}

-- a tally with one more of something
module _ (k : Tally) (m : ℕ) where
  pub node_counted : m ≡ capped (k.nodes + 1)
      → counts k.fresh m k.arcs k.meetings k.met ≡ one_node k
  unfolding one_node
  node_counted h = rw h

  pub arc_counted : m ≡ capped (k.arcs + 1)
      → counts k.fresh k.nodes m k.meetings k.met ≡ one_arc k
  unfolding one_arc
  arc_counted h = rw h

  pub meeting_counted : m ≡ capped (k.meetings + 1)
      → counts k.fresh k.nodes k.arcs m k.met ≡ one_meeting k
  unfolding one_meeting
  meeting_counted h = rw h

  pub met_counted : m ≡ capped (k.met + 1)
      → counts k.fresh k.nodes k.arcs k.meetings m ≡ one_met k
  unfolding one_met
  met_counted h = rw h

  pub fresh_drawn : m ≡ capped (k.fresh + 1)
      → counts m k.nodes k.arcs k.meetings k.met ≡ drawn k
  unfolding drawn
  fresh_drawn h = rw h

-- words of the nodes
pub label_put : (n mark : ℕ) (w v : List ℕ) → v ≡ put 0 w n mark → v ≡ labelled n mark w
unfolding labelled
label_put n mark w v h = h

pub standing_put : (n s t f : ℕ) (w x y z : List ℕ) → x ≡ put 1 w n s → y ≡ put 2 x n t → z ≡ put 3 y n f
    → z ≡ standing n s t f w
unfolding standing
standing_put n s t f w x y z p q r = rw (r, q, p)

-- words of the track
module _ (m n i : ℕ) (g : List ℕ) where
  pub arc_put : i < 8192 → (h j : List ℕ) → h ≡ put_track g (2 * i) m → j ≡ put_track h (2 * i + 1) n
      → j ≡ with_arc m n i g
  unfolding with_arc
  arc_put room h j p q = rw (q, p) (simp (lt-ltb i 8192 room))

  pub arc_left_out : 8192 ≤ i → g ≡ with_arc m n i g
  unfolding with_arc
  arc_left_out full = simp (le-ltb i 8192 full)

  pub meeting_put : i < 4096 → (h j : List ℕ) → h ≡ put_track g (meetings_from + 2 * i) m
      → j ≡ put_track h (meetings_from + 2 * i + 1) n → j ≡ with_meeting m n i g
  unfolding with_meeting
  meeting_put room h j p q = rw (q, p) (simp (lt-ltb i 4096 room))

  pub meeting_left_out : 4096 ≤ i → g ≡ with_meeting m n i g
  unfolding with_meeting
  meeting_left_out full = simp (le-ltb i 4096 full)

module _ (i : ℕ) (g : List ℕ) where
  pub met_put : (n : ℕ) → i < 4096 → (h : List ℕ) → h ≡ put_track g (event_nodes_from + i) n → h ≡ with_met n i g
  unfolding with_met
  met_put n room h p = rw p (simp (lt-ltb i 4096 room))

  pub met_left_out : (n : ℕ) → 4096 ≤ i → g ≡ with_met n i g
  unfolding with_met
  met_left_out n full = simp (le-ltb i 4096 full)

  pub node_read : i < 4096 → (m : ℕ) → m ≡ track_word g (event_nodes_from + i) → m ≡ event_node i g
  unfolding event_node
  node_read room m p = rw p (simp (lt-ltb i 4096 room))

  pub node_past : 4096 ≤ i → 0 ≡ event_node i g
  unfolding event_node
  node_past full = simp (le-ltb i 4096 full)

-- what is kept is a tally and a track
pub parts_kept : (k : Tally) (g : List ℕ) (d : Kept) → kept k g ≡ d → (k ≡ d.tally) × (g ≡ d.track)
parts_kept k g d e = (ap (λ x. x.tally) e, ap (λ x. x.track) e)

-- one more turn of so many
turn_left : (i most : ℕ) → i < most → most - i ≡ suc (most - (i + 1))
turn_left i most h = omega arith

none_left : (i most : ℕ) → most ≤ i → most - i ≡ 0
none_left i most h = omega arith

-- a node meets event nodes
module _ (n i to : ℕ) (k : Tally) (g : List ℕ) where
  pub met_each_turn : i < to → (o : ℕ) (l : Tally) (h : List ℕ) → o ≡ event_node i g → l ≡ one_meeting k
      → h ≡ with_meeting n o k.meetings g
      → met_each n (i + 1) (to - (i + 1)) l h ≡ met_each n i (to - i) k g
  unfolding met_each
  met_each_turn below o l h p q r = rw (turn_left i to below, r, q, p, add-one i)

  pub met_each_end : to ≤ i → met_each n i (to - i) k g ≡ kept k g
  unfolding met_each
  met_each_end h = rw (none_left i to h)

-- event nodes meet event nodes
module _ (i most j b : ℕ) (k : Tally) (g : List ℕ) where
  pub met_all_turn : i < most → (o : ℕ) (l : Tally) (h : List ℕ) → o ≡ event_node i g
      → (l ≡ (met_each o j b k g).tally) × (h ≡ (met_each o j b k g).track)
      → met_all (i + 1) (most - (i + 1)) j b l h ≡ met_all i (most - i) j b k g
  unfolding met_all
  met_all_turn below o l h p q = rw (turn_left i most below, q.0, q.1, p, add-one i)

  pub met_all_end : most ≤ i → met_all i (most - i) j b k g ≡ kept k g
  unfolding met_all
  met_all_end h = rw (none_left i most h)

-- parents of two references get an arc to a third
module _ (m n t i : ℕ) (k : Tally) (g : List ℕ) where
  -- past the last arc, or past those that there is room for
  none_joined : (c : ℕ) → min (i + c) 8192 ≤ i → joined m n t i c k g ≡ kept k g
  unfolding joined
  none_joined zero h = refl
  none_joined (suc c) h = let full : 8192 ≤ i = omega arith in simp (le-ltb i 8192 full)

  module _ (most : ℕ) where
    pub joined_end : (end : ℕ) → end ≡ min most 8192 → end ≤ i → joined m n t i (most - i) k g ≡ kept k g
    joined_end end e h = none_joined (most - i) (omega arith)

    module _ (below : i < most) (room : i < 8192) (from to : ℕ) (b : Bool)
        (from_is : from ≡ track_word g (2 * i)) (to_is : to ≡ track_word g (2 * i + 1))
        (b_is : b ≡ leads to m n) where
      led : (x : Bool) → b ≡ x → leads (track_word g (2 * i + 1)) m n ≡ x
      led x h = rw (← to_is, ← b_is) h

      pub joined_turn : (l : Tally) (h : List ℕ)
          → ((b ≡ true) × (l ≡ one_arc k) × (h ≡ with_arc from t k.arcs g))
          ⊎ ((b ≡ false) × (l ≡ k) × (h ≡ g))
          → joined m n t (i + 1) (most - (i + 1)) l h ≡ joined m n t i (most - i) k g
      unfolding joined
      joined_turn l h (inl y) =
          rw (turn_left i most below, y.2, y.1, from_is, add-one i)
          (simp (lt-ltb i 8192 room, led true y.0))
      joined_turn l h (inr y) =
          rw (turn_left i most below, y.2, y.1, add-one i) (simp (lt-ltb i 8192 room, led false y.0))
