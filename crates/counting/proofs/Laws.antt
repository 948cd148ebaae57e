-- What the counters come to, and which room a step passes first, by what the tests found: each law takes what
-- the calls on the way promise. Assumes nothing.
use Rattle.std.proofs.Common.{ℕ, ◌+◌, ◌<◌, ◌≤◌, ◌≡◌, true, false, List, [], ◌∷◌, ltb, lt-ltb, le-ltb}
use Rattle.rules.specs.Run.{cell_room, node_room, arc_room, meeting_room}
use Rattle.control.specs.words.Sums.{capped}
use Rattle.weights.specs.declared.Weight.{Weight}
use Rattle.drawing.specs.declared.Tally.{Tally}
use Rattle.leaves.specs.declared.Taken.{Taken}
use Rattle.counting.specs.code.Counting.{fresh, nodes, arcs, meetings, over_room, tally_of, narrow}
use Rattle.counting.specs.code.Counting.{recounted}

-- a room, with what there is and what a step adds
module _ (room there more n i : ℕ) (n_is : n ≡ there) (i_is : i ≡ capped (n + more)) where
  passed : room < i → ltb room (capped (there + more)) ≡ true
  passed h = rw (← n_is, ← i_is) (lt-ltb room i h)

  kept : i ≤ room → ltb room (capped (there + more)) ≡ false
  kept h = rw (← n_is, ← i_is) (le-ltb room i h)

-- the rooms, in the order of their numbers
module _ (w : Weight) (c : List ℕ) where
  pub cells_over : cell_room < w.size → 8 ≡ over_room w c
  unfolding over_room
  cells_over h = simp (lt-ltb cell_room w.size h)

  module _ (few : w.size ≤ cell_room) (n i : ℕ) (n_is : n ≡ nodes c) (i_is : i ≡ capped (n + w.nodes)) where
    fits : ltb cell_room w.size ≡ false
    fits = le-ltb cell_room w.size few

    pub nodes_over : node_room < i → 9 ≡ over_room w c
    unfolding over_room
    nodes_over h = simp (fits, passed node_room (nodes c) w.nodes n i n_is i_is h)

    module _ (few_nodes : i ≤ node_room) (a j : ℕ) (a_is : a ≡ arcs c) (j_is : j ≡ capped (a + w.arcs)) where
      nodes_fit : ltb node_room (capped (nodes c + w.nodes)) ≡ false
      nodes_fit = kept node_room (nodes c) w.nodes n i n_is i_is few_nodes

      pub arcs_over : arc_room < j → 10 ≡ over_room w c
      unfolding over_room
      arcs_over h = simp (fits, nodes_fit, passed arc_room (arcs c) w.arcs a j a_is j_is h)

      module _ (few_arcs : j ≤ arc_room) (m k : ℕ) (m_is : m ≡ meetings c)
          (k_is : k ≡ capped (m + w.meetings)) where
        arcs_fit : ltb arc_room (capped (arcs c + w.arcs)) ≡ false
        arcs_fit = kept arc_room (arcs c) w.arcs a j a_is j_is few_arcs

        pub meetings_over : meeting_room < k → 11 ≡ over_room w c
        unfolding over_room
        meetings_over h =
            simp (fits, nodes_fit, arcs_fit, passed meeting_room (meetings c) w.meetings m k m_is k_is h)

        pub none_over : k ≤ meeting_room → 0 ≡ over_room w c
        unfolding over_room
        none_over h =
            simp (fits, nodes_fit, arcs_fit, kept meeting_room (meetings c) w.meetings m k m_is k_is h)

-- how far a run has come
pub tallied : (c : List ℕ) (f n a m : ℕ) → f ≡ fresh c → n ≡ nodes c → a ≡ arcs c → m ≡ meetings c
    → (k : Tally) → k ≡ record { fresh = f; nodes = n; arcs = a; meetings = m; met = 0 } → k ≡ tally_of c
unfolding tally_of
tallied c f n a m f_is n_is a_is m_is k k_is = rw (k_is, f_is, n_is, a_is, m_is)

-- the counters after a step
pub counted : (d : Taken) (r f s n a m : ℕ) → r ≡ narrow d.reference → f ≡ narrow d.tally.fresh
    → s ≡ narrow d.size → n ≡ narrow d.tally.nodes → a ≡ narrow d.tally.arcs
    → m ≡ narrow d.tally.meetings → r ∷ f ∷ s ∷ n ∷ a ∷ m ∷ 0 ∷ 0 ∷ [] ≡ recounted d
unfolding recounted
counted d r f s n a m r_is f_is s_is n_is a_is m_is = rw (r_is, f_is, s_is, n_is, a_is, m_is)
