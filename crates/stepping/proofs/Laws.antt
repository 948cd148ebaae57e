-- What the step of what stands at a reference comes to, with the words after it, by what its tests found:
-- each law takes what the calls on the way promise. Assumes nothing.
use Rattle.std.proofs.Common.{ℕ, suc, ◌+◌, ◌-◌, ◌≡◌, sym, ◌∙◌, Bool, true, false, List, eqb, eq-eqb, ne_eqb}
use Rattle.kinds.specs.Kind as Kind
use Rattle.plans.specs.words.Plan.{kind, second}
use Rattle.control.specs.words.Words.{node, put}
use Rattle.control.specs.words.Control.{state, term, frame, resting}
use Rattle.rules.specs.declared.Event.TheVariants.{Tau}
use Rattle.control.specs.words.Sums.{capped}
use Rattle.looking.specs.code.Looking.{digit_at, is_split, taken, inside}
use Rattle.leaves.specs.code.Leaves.{Done, with_words, come, leaf, end}
use Rattle.sides.specs.code.Sides.{one_node, entered, put_side, one, both}
use Rattle.stepping.specs.code.Take.{in_side, close, across, close_both, take}
use Rattle.drawing.specs.declared.Tally.{Tally}
use Rattle.leaves.specs.declared.Taken.{Taken}
use Rattle.leaves.proofs.Laws.{Comes}
use Rattle.sides.proofs.Laws.{Entered}

module _ (p : List ℕ) (count : ℕ) (ds : List ℕ) where
  -- the step of a side that is entered first
  side_taken : (less n side t i at size : ℕ) (k l : Tally) (w v g h : List ℕ) (r : ℕ) (y : Taken)
      (x z : List ℕ) → Entered n side t i k w g l v h → r ≡ node (3 + side) v n
      → Comes y x z (take p count ds less r i at size l v h)
      → in_side p count ds (take p count ds less) n side t i at size k w g ≡ with_words y x z
  unfolding in_side
  side_taken less n side t i at size k l w v g h r y x z enters r_is so =
      rw (← enters.0, ← enters.1.0, ← enters.1.1, ← r_is) (sym so)

  module _ (left n b at size : ℕ) (k : Tally) (w g : List ℕ) where
    abbrev All : Done
    All = take p count ds left n b at size k w g

    pub take_spent : left ≡ 0 → (y : Taken) → y ≡ come Tau n size at k → Comes y w g All
    unfolding take
    take_spent h y y_is = rw (h, y_is)

    module _ (less t c d s : ℕ) (more : left ≡ suc less) (t_is : t ≡ term w n) (c_is : c ≡ kind p t)
        (d_is : d ≡ digit_at ds count at) (s_is : s ≡ state w n) where
      module _ (rests : s ≡ resting) (y : Taken) (x z : List ℕ) where
        at_rest : eqb (state w n) resting ≡ true
        at_rest = eq-eqb (state w n) resting (sym s_is ∙ rests)

        kind_there : kind p (term w n) ≡ c
        kind_there = rw (← t_is, ← c_is)

        pub take_sequence : c ≡ Kind.sequence → (i j : ℕ) (v : List ℕ) → i ≡ capped (t + 1) → v ≡ put 2 w n i
            → j ≡ capped (size + 1) → Comes y x z (take p count ds less n b at j k v g) → Comes y x z All
        unfolding take
        take_sequence is i j v i_is v_is j_is so =
            rw more
            (simp (at_rest, kind_there, eq-eqb c Kind.sequence is) (rw (v_is, i_is, j_is, t_is) at so))

        module _ (other : c ≡ Kind.sequence → ⊥) (q : Bool) (q_is : q ≡ is_split c) where
          split_there : (u : Bool) → q ≡ u → is_split c ≡ u
          split_there u h = sym q_is ∙ h

          pub take_split : q ≡ true → (j : ℕ) (l : Tally) (v : List ℕ)
              → (l ≡ one_node k) × (v ≡ entered n t w) → j ≡ capped (size + 2)
              → Comes y x z (take p count ds less n b at j l v g) → Comes y x z All
          unfolding take
          take_split h j l v enters j_is so =
              rw more
              (simp (at_rest, kind_there, ne_eqb c Kind.sequence other, split_there true h)
              (rw (enters.0, enters.1, j_is, t_is) at so))

          pub take_whole : q ≡ false → Comes y x z (leaf p n b at size d k w g) → Comes y x z All
          unfolding take
          take_whole h so =
              rw more
              (simp (at_rest, kind_there, ne_eqb c Kind.sequence other, split_there false h) (rw d_is at so))

      module _ (stirred : s ≡ resting → ⊥) where
        at_work : eqb (state w n) resting ≡ false
        at_work = ne_eqb (state w n) resting (λ z. stirred (s_is ∙ z))

        pub take_the_end : d ≡ 4 → (y : Taken) (x z : List ℕ) → Comes y x z (end p n b at size k w g)
            → Comes y x z All
        unfolding take
        take_the_end h y x z so = rw more (simp (at_work, eq-eqb (digit_at ds count at) 4 (sym d_is ∙ h)) so)

        module _ (goes : d ≡ 4 → ⊥) (f i m own other j u sub next : ℕ) (f_is : f ≡ frame w n)
            (i_is : i ≡ inside p c t n f) (m_is : m ≡ taken d 1 2) (own_is : own ≡ node (5 + m) w n)
            (other_is : other ≡ node (8 - m) w n) (j_is : j ≡ second p t) (u_is : u ≡ capped (t + 1))
            (sub_is : sub ≡ taken d u j) (next_is : next ≡ capped (at + 1)) where
          -- the step of the side that is gone to first
          abbrev First : Done
          First = in_side p count ds (take p count ds less) n m sub i next own k w g

          no_end : eqb (digit_at ds count at) 4 ≡ false
          no_end = ne_eqb (digit_at ds count at) 4 (λ z. goes (d_is ∙ z))

          by_one : (d ≡ 3 → ⊥) → All ≡ close p count ds n m b size own other First
          unfolding take
          by_one h =
              let one_side = ne_eqb (digit_at ds count at) 3 (λ z. h (d_is ∙ z)) in
              rw (own_is, other_is, m_is, i_is, sub_is, u_is, j_is, next_is, c_is, f_is, t_is, d_is, more)
              (simp (at_work, no_end, one_side))

          by_both : d ≡ 3 → All ≡ close_both p count ds n size own other k.met First
              (across p count ds (take p count ds less) n j i other First)
          unfolding take taken
          by_both h =
              let both_sides = eq-eqb (digit_at ds count at) 3 (sym d_is ∙ h) in
              rw (own_is, other_is, m_is, i_is, sub_is, u_is, j_is, next_is, c_is, f_is, t_is, h, more)
              (simp (at_work, no_end, both_sides))

          module _ (l : Tally) (v h : List ℕ) (r : ℕ) (done : Taken) (w' g' : List ℕ)
              (enters : Entered n m sub i k w g l v h) (r_is : r ≡ node (3 + m) v n)
              (done_is : Comes done w' g' (take p count ds less r i next own l v h)) (y : Taken)
              (x z : List ℕ) where
            first_is : First ≡ with_words done w' g'
            first_is = side_taken less n m sub i next own k l w v g h r done w' g' enters r_is done_is

            pub take_one : (d ≡ 3 → ⊥) → Comes y x z (one p n m b size own other done w' g') → Comes y x z All
            unfolding close
            take_one alone so = rw (by_one alone, first_is) so

            pub take_both : d ≡ 3 → (w'' : List ℕ) → w'' ≡ put_side n 1 done.reference done.size w'
                → (l' : Tally) (v' h' : List ℕ) (r' : ℕ) (over : Taken) (v'' h'' : List ℕ)
                → Entered n 2 j i done.tally w'' g' l' v' h' → r' ≡ node 5 v' n
                → Comes over v'' h'' (take p count ds less r' i done.at other l' v' h')
                → Comes y x z (both n size own other k.met done over v'' h'') → Comes y x z All
            unfolding close_both across
            take_both jointly w'' w''-is l' v' h' r' over v'' h'' enters' r'-is over_is so =
                let over_there = side_taken less n 2 j i done.at other done.tally l' w'' v' g' h' r' in
                let second_is = over_there over v'' h'' enters' r'-is over_is in
                rw (by_both jointly, first_is, ← w''-is, second_is) so
