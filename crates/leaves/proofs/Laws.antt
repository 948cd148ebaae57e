-- What the steps that look no further down come to, with the words after them, by what their tests found:
-- each law takes what the calls on the way promise. Assumes nothing.
use Rattle.std.proofs.Common.{ℕ, ◌+◌, ◌-◌, ◌%◌, ◌≡◌, refl, sym, ap, ◌∙◌, List, eq-eqb, ne_eqb}
use Rattle.kinds.specs.Kind as Kind
use Rattle.plans.specs.words.Plan.{kind, operand, second, around}
use Rattle.marks.specs.words.Mark.{own_mark, event_mark, start_mark}
use Rattle.control.specs.words.Words.{node}
use Rattle.control.specs.words.Control.{term, frame, resting, at_end, dead, beyond}
use Rattle.rules.specs.declared.Event.{Event}
use Rattle.rules.specs.declared.Event.TheVariants.{Tau, Tick, Visible}
use Rattle.control.specs.words.Sums.{capped}
use Rattle.looking.specs.code.Looking.{taken}
use Rattle.weights.proofs.RuleLaws.{NoTick}
use Rattle.drawing.specs.code.Drawing.{one_node, one_arc, one_met, drawn, labelled, standing, with_arc}
use Rattle.drawing.specs.code.Drawing.{with_met, joined}
use Rattle.leaves.specs.code.Leaves.{Done, with_words, come, on, started, ends}
use Rattle.leaves.specs.code.Leaves.{by_event, settled, prefix, single, after_settling, leaf, end}
use Rattle.leaves.specs.code.Leaves.{called}
use Rattle.drawing.specs.declared.Tally.{Tally}
use Rattle.leaves.specs.declared.Taken.{Taken}

-- a step comes to d, with words w and g after it
abbrev pub Comes : Taken → List ℕ → List ℕ → Done → Type 0
Comes d w g e = with_words d w g ≡ e

-- told part by part
pub comes : {d d' : Taken} {w w' g g' : List ℕ} → d ≡ d' → w ≡ w' → g ≡ g' → Comes d w g (with_words d' w' g')
comes d_is w_is g_is = rw (d_is, w_is, g_is)

-- a reference is labelled, and gets an arc to a fresh one
module _ (n mark : ℕ) (k l j : Tally) (w v g h : List ℕ) (counts : (l ≡ one_node k) × (v ≡ labelled n mark w))
    (draws : (j ≡ drawn (one_arc l)) × (h ≡ with_arc n l.fresh l.arcs g)) where
  tally_on : j ≡ on k
  unfolding on
  tally_on = draws.0 ∙ ap (λ x. drawn (one_arc x)) counts.0

  arc_on : h ≡ with_arc n k.fresh k.arcs g
  unfolding one_node
  arc_on = rw counts.0 at draws.1

  -- a step that labels once and draws once
  pub single_made : (t : ℕ) → mark ≡ own_mark t → (e : Event) (s u f at size : ℕ) (x : List ℕ) (y : Taken)
      → x ≡ standing k.fresh s u f v → y ≡ come e k.fresh size at j
      → Comes y x h (single e n s t u f at size k w g)
  unfolding single
  single_made t mark_is e s u f at size x y x_is y_is =
      comes (rw (y_is, tally_on)) (rw (x_is, counts.1, mark_is)) arc_on

  -- the start's call
  pub called_made : n ≡ 0 → mark ≡ start_mark → (x : List ℕ) (y : Taken)
      → x ≡ standing k.fresh resting 0 0 v → y ≡ come Tau k.fresh 1 0 j → Comes y x h (called k w g)
  unfolding called
  called_made n_is mark_is x y x_is y_is =
      comes (rw (y_is, tally_on)) (rw (x_is, counts.1, n_is, mark_is)) (rw n_is at arc_on)

  -- a sequence starts its right
  pub start_made : (p : List ℕ) (d : Taken) → k ≡ d.tally → n ≡ d.reference → (t : ℕ) → mark ≡ own_mark t
      → (f s size : ℕ) (x : List ℕ) (y : Taken) → s ≡ second p t → x ≡ standing k.fresh resting s f v
      → size ≡ d.size - 1 → y ≡ come Tau k.fresh size d.at j → Comes y x h (started p d t f w g)
  unfolding started single
  start_made p d k_is n_is t mark_is f s size x y s_is x_is size_is y_is =
      rw (← k_is, ← n_is, ← s_is, ← size_is)
      (single_made t mark_is Tau resting s f d.at size x y x_is y_is)

-- a prefix: its event's node, and then its arrow's
module _ (n em om : ℕ) (k l j l' j' i : Tally) (w v u g h h' z : List ℕ)
    (counts : (l ≡ one_node k) × (v ≡ labelled n em w))
    (draws : (j ≡ drawn (one_arc l)) × (h ≡ with_arc n l.fresh l.arcs g))
    (counts' : (l' ≡ one_node j) × (u ≡ labelled k.fresh om v))
    (draws' : (j' ≡ drawn (one_arc l')) × (h' ≡ with_arc k.fresh l'.fresh l'.arcs h))
    (keeps : (i ≡ one_met j') × (z ≡ with_met n j'.met h')) where
  pub prefix_made : (t : ℕ) → em ≡ event_mark t → om ≡ own_mark t → (f e at size s : ℕ) (x : List ℕ)
      (y : Taken) → s ≡ capped (t + 1) → x ≡ standing j.fresh resting s f u
      → y ≡ come (Visible (e % 256)) j.fresh size at i → Comes y x z (prefix n t f e at size k w g)
  unfolding prefix
  prefix_made t em_is om_is f e at size s x y s_is x_is y_is =
      let first = tally_on n em k l j w v g h counts draws in
      let second_on = tally_on k.fresh om j l' j' v u h h' counts' draws' ∙ ap on first in
      let arc = arc_on k.fresh om j l' j' v u h h' counts' draws' in
      comes
      (rw (y_is, keeps.0, second_on, first))
      (rw (x_is, s_is, counts'.1, counts.1, om_is, em_is, first))
      (rw (keeps.1, second_on, arc, arc_on n em k l j w v g h counts draws, first))

-- what a step comes to inside the sequences around term t
module _ (p : List ℕ) (d : Taken) (t f b : ℕ) (w g : List ℕ) where
  unless_tick : (e : Event) → NoTick e → with_words d w g ≡ by_event e p d t f b w g
  unfolding by_event
  unless_tick Tau h = refl
  unless_tick (Visible e) h = refl
  unless_tick Tick h = absurd (h refl)

  pub settled_on : NoTick d.event → Comes d w g (settled p d t f b w g)
  unfolding settled
  settled_on = unless_tick d.event

  module _ (ticks : d.event ≡ Tick) (o : ℕ) (around_is : o ≡ around p t) where
    pub settled_last : o ≡ 0 → f ≡ b → Comes d w g (settled p d t f b w g)
    unfolding settled by_event ends
    settled_last none last =
        rw ticks (simp (eq-eqb (around p t) 0 (sym around_is ∙ none), eq-eqb f b last) refl)

    module _ (y : Taken) (x h : List ℕ) (m : ℕ) where
      pub settled_plan : (o ≡ 0 → ⊥) → m ≡ o - 1 → Comes y x h (started p d m f w g)
          → Comes y x h (settled p d t f b w g)
      unfolding settled by_event ends started
      settled_plan some_there m_is so =
          let inside = ne_eqb (around p t) 0 (λ z. some_there (around_is ∙ z)) in
          rw ticks (simp inside (rw (m_is, around_is) at so))

      pub settled_frame : o ≡ 0 → (f ≡ b → ⊥) → (u q r : ℕ) → u ≡ term w f → q ≡ around p u → m ≡ q - 1
          → r ≡ frame w f → Comes y x h (started p d m r w g) → Comes y x h (settled p d t f b w g)
      unfolding settled by_event ends started
      settled_frame none past u q r u_is q_is m_is r_is so =
          rw ticks
          (simp (eq-eqb (around p t) 0 (sym around_is ∙ none), ne_eqb f b past)
          (rw (m_is, q_is, u_is, r_is) at so))

-- a term that no step has touched, and that is no sequence, choice or parallel
module _ (p : List ℕ) (n b at size d : ℕ) (k : Tally) (w g : List ℕ) (t f c : ℕ) (t_is : t ≡ term w n)
    (f_is : f ≡ frame w n) (c_is : c ≡ kind p t) where
  abbrev Leaf : Done
  Leaf = leaf p n b at size d k w g

  kind_there : kind p (term w n) ≡ c
  kind_there = rw (← t_is, ← c_is)

  pub leaf_prefix : c ≡ Kind.prefix → (e : ℕ) → e ≡ operand p t → (y : Taken) (x z : List ℕ)
      → Comes y x z (prefix n t f e at size k w g) → Comes y x z Leaf
  unfolding leaf
  leaf_prefix is e e_is y x z so =
      simp (kind_there, eq-eqb c Kind.prefix is) (rw (e_is, t_is, f_is) at so)

  module _ (no_prefix : c ≡ Kind.prefix → ⊥) where
    pub leaf_SKIP : c ≡ Kind.SKIP → (e y : Taken) (v h x z : List ℕ)
        → Comes e v h (single Tick n at_end t 0 0 at size k w g) → Comes y x z (settled p e t f b v h)
        → Comes y x z Leaf
    unfolding leaf after_settling
    leaf_SKIP is e y v h x z made so =
        simp (kind_there, ne_eqb c Kind.prefix no_prefix, eq-eqb c Kind.SKIP is)
        (rw (t_is, f_is) at (so ∙ ap (after_settling p t f b) made))

    module _ (no_SKIP : c ≡ Kind.SKIP → ⊥) (y : Taken) (x z : List ℕ) where
      pub leaf_STOP : c ≡ Kind.STOP → Comes y x z (single Tau n dead t t f at size k w g) → Comes y x z Leaf
      unfolding leaf
      leaf_STOP is so =
          simp (kind_there, ne_eqb c Kind.prefix no_prefix, ne_eqb c Kind.SKIP no_SKIP, eq-eqb c Kind.STOP is)
          (rw (t_is, f_is) at so)

      module _ (no_STOP : c ≡ Kind.STOP → ⊥) (u : ℕ) where
        pub leaf_call : c ≡ Kind.call → (o : ℕ) → u ≡ operand p t → o ≡ beyond p t n f
            → Comes y x z (single Tau n resting t u o at size k w g) → Comes y x z Leaf
        unfolding leaf
        leaf_call is o u_is o_is so = simp (
          kind_there,
          ne_eqb c Kind.prefix no_prefix,
          ne_eqb c Kind.SKIP no_SKIP,
          ne_eqb c Kind.STOP no_STOP,
          eq-eqb c Kind.call is,
        ) (rw (u_is, o_is, t_is, f_is) at so)

        pub leaf_chosen : (c ≡ Kind.call → ⊥) → (i s j : ℕ) → i ≡ capped (t + 1) → s ≡ second p t
            → u ≡ taken d i s → j ≡ capped (at + 1)
            → Comes y x z (single Tau n resting t u f j size k w g) → Comes y x z Leaf
        unfolding leaf
        leaf_chosen no_call i s j i_is s_is u_is j_is so = simp (
          kind_there,
          ne_eqb c Kind.prefix no_prefix,
          ne_eqb c Kind.SKIP no_SKIP,
          ne_eqb c Kind.STOP no_STOP,
          ne_eqb c Kind.call no_call,
        ) (rw (u_is, i_is, s_is, j_is, t_is, f_is) at so)

-- two ended sides end their parallel
module _ (p : List ℕ) (n b at size : ℕ) (k : Tally) (w g : List ℕ) where
  pub end_made : (m o : ℕ) → m ≡ node 4 w n → o ≡ node 5 w n → (j l : Tally) (v h : List ℕ)
      → (j ≡ (joined m o k.fresh 0 k.arcs k g).tally)
      × (h ≡ (joined m o k.fresh 0 k.arcs k g).track)
      → l ≡ drawn j → v ≡ standing k.fresh at_end 0 0 w → (s i t f : ℕ) (e y : Taken) → s ≡ size - 2
      → i ≡ capped (at + 1) → e ≡ come Tick k.fresh s i l → t ≡ term v n → f ≡ frame v n → (x z : List ℕ)
      → Comes y x z (settled p e t f b v h) → Comes y x z (end p n b at size k w g)
  unfolding end
  end_made m o m_is o_is j l v h joins l_is v_is s i t f e y s_is i_is e_is t_is f_is x z so =
      rw (e_is, l_is, s_is, i_is, t_is, f_is, v_is, joins.0, joins.1, m_is, o_is) at so
