-- The sides of an entered choice or parallel, by what their tests found: each law takes what the calls on the
-- way promise. Assumes nothing.
use Rattle.std.proofs.Common.{ℕ, ◌+◌, ◌-◌, ◌≡◌, refl, sym, ap, ◌∙◌, Bool, true, false, List, eq-eqb, ne_eqb}
use Rattle.plans.specs.words.Plan.{kind}
use Rattle.control.specs.words.Words.{node, put}
use Rattle.control.specs.words.Control.{term, frame, resting}
use Rattle.control.specs.words.Control as Control
use Rattle.rules.specs.declared.Event.{Event}
use Rattle.control.specs.words.Sums.{capped}
use Rattle.weights.specs.code.Rules.{stays, shown}
use Rattle.drawing.specs.code.Drawing.{labelled, standing, one_arc, drawn, with_arc, Kept, met_all}
use Rattle.marks.specs.words.Mark.{own_mark}
use Rattle.leaves.specs.code.Leaves.{come, settled}
use Rattle.sides.specs.code.Sides.{one_node, entered, side_tally, side_nodes, side_track, put_side, one}
use Rattle.sides.specs.code.Sides.{both}
use Rattle.drawing.specs.declared.Tally.{Tally}
use Rattle.leaves.specs.declared.Taken.{Taken}
use Rattle.leaves.proofs.Laws.{Comes, comes}

pub entered_made : (n t m : ℕ) (k l : Tally) (w x y z v : List ℕ) → x ≡ put 1 w n Control.entered
    → y ≡ put 6 x n 1 → z ≡ put 7 y n 1 → m ≡ own_mark t → (l ≡ one_node k) × (v ≡ labelled n m z)
    → (l ≡ one_node k) × (v ≡ entered n t w)
unfolding entered
entered_made n t m k l w x y z v x_is y_is z_is m_is counts = rw (m_is, z_is, y_is, x_is) at counts

-- a side of n is entered where it has not stepped yet, with tally l and words v and h after that
abbrev pub Entered : ℕ → ℕ → ℕ → ℕ → Tally → List ℕ → List ℕ → Tally → List ℕ → List ℕ → Type 0
Entered n side t f k w g l v h =
    (l ≡ side_tally n side k w) × ((v ≡ side_nodes n side t f k w) × (h ≡ side_track n side k w g))

module _ (n side t f : ℕ) (k : Tally) (w g : List ℕ) (r : ℕ) (r_is : r ≡ node (3 + side) w n) where
  pub side_there : (r ≡ 0 → ⊥) → Entered n side t f k w g k w g
  unfolding side_tally side_nodes side_track
  side_there h =
      let there = ne_eqb (node (3 + side) w n) 0 (λ z. h (r_is ∙ z)) in
      (simp there, (simp there, simp there))

  pub side_fresh : r ≡ 0 → (l : Tally) (x v h : List ℕ) → x ≡ standing k.fresh resting t f w
      → v ≡ put (3 + side) x n k.fresh
      → (l ≡ drawn (one_arc k)) × (h ≡ with_arc n k.fresh k.arcs g)
      → Entered n side t f k w g l v h
  unfolding side_tally side_nodes side_track
  side_fresh h l x v j x_is v_is draws =
      let fresh = eq-eqb (node (3 + side) w n) 0 (sym r_is ∙ h) in (
        simp fresh draws.0,
        (simp fresh (v_is ∙ ap (λ u. put (3 + side) u n k.fresh) x_is), simp fresh draws.1),
      )

pub side_put : (n side m size : ℕ) (w x v : List ℕ) → x ≡ put (3 + side) w n m → v ≡ put (5 + side) x n size
    → v ≡ put_side n side m size w
unfolding put_side
side_put n side m size w x v x_is v_is = rw (v_is, x_is)

-- what one side's step makes of its split
module _ (p : List ℕ) (n side b size own other : ℕ) (d : Taken) (w g : List ℕ) (t c : ℕ) (s : Bool)
    (t_is : t ≡ term w n) (c_is : c ≡ kind p t) (s_is : s ≡ stays c d.event) where
  stays_so : (x : Bool) → s ≡ x → stays (kind p (term w n)) d.event ≡ x
  stays_so x h = rw (← t_is, ← c_is, ← s_is) h

  pub one_stays : s ≡ true → (v : List ℕ) (e : Event) (i j : ℕ)
      → v ≡ put_side n side d.reference d.size w → e ≡ shown c d.event → i ≡ size - own
      → j ≡ capped (i + d.size)
      → Comes (come e n j d.at d.tally) v g (one p n side b size own other d w g)
  unfolding one
  one_stays h v e i j v_is e_is i_is j_is =
      simp (stays_so true h) (comes (rw (e_is, j_is, i_is, c_is, t_is)) v_is refl)

  pub one_resolves : s ≡ false → (f i j l m : ℕ) → f ≡ frame w n → i ≡ size - own → j ≡ i - other → l ≡ j - 1
      → m ≡ capped (l + d.size) → (y : Taken) (x z : List ℕ)
      → Comes y x z (settled p (come d.event d.reference m d.at d.tally) t f b w g)
      → Comes y x z (one p n side b size own other d w g)
  unfolding one
  one_resolves h f i j l m f_is i_is j_is l_is m_is y x z so =
      simp (stays_so false h) (rw (m_is, l_is, j_is, i_is, f_is, t_is) at so)

-- what a joint step makes of its parallel
module _ (n size own other met : ℕ) (l r : Taken) (w g : List ℕ) where
  abbrev Met : Kept
  Met = met_all met (l.tally.met - met) l.tally.met (r.tally.met - l.tally.met) r.tally g

  pub both_made : (v h : List ℕ) (i j s u : ℕ) (k : Tally) → v ≡ put_side n 2 r.reference r.size w
      → i ≡ size - own → j ≡ i - other → s ≡ capped (j + l.size) → u ≡ capped (s + r.size)
      → (k ≡ Met.tally) × (h ≡ Met.track)
      → Comes (come l.event n u r.at k) v h (both n size own other met l r w g)
  unfolding both
  both_made v h i j s u k v_is i_is j_is s_is u_is meets =
      comes (rw (u_is, s_is, j_is, i_is, meets.0)) v_is meets.1
