-- A reference without a label has no sides, and stays so: a step puts sides only at a reference that is
-- labelled, and takes no label away. So an untouched choice or parallel, which has no label yet, finds its
-- words for the sides empty. Each of what a step writes keeps this, whatever else the words hold. Assumes
-- nothing.
use Rattle.std.proofs.Common.{ℕ, ◌+◌, ◌-◌, ◌≤◌, ◌<◌, ◌≡◌, refl, sym, ap, ◌∙◌, Bool, true, false, List, arith}
use Rattle.std.proofs.Common.{eqb, ltb, eqb-true, ltb-true}
use Rattle.std.proofs.lemmas.Bool.{eqb-false}
use Rattle.lines.specs.Line.{choose}
use Rattle.control.specs.words.Words.{node, put, reference_room}
use Rattle.kinds.specs.Kind as Kind
use Rattle.plans.specs.words.Plan.{kind, operand, second, around}
use Rattle.control.specs.words.Control.{label, term, frame, first, second_side, resting, at_end, dead, beyond}
use Rattle.rules.specs.declared.Event.{Event}
use Rattle.rules.specs.declared.Event.TheVariants.{Tau, Tick, Visible}
use Rattle.control.proofs.NodeLaws.{Whole, put_whole, put_other}
use Rattle.control.specs.words.Sums.{capped}
use Rattle.looking.specs.code.Looking.{taken}
use Rattle.weights.specs.code.Rules.{stays}
use Rattle.drawing.specs.code.Drawing.{labelled, standing}
use Rattle.marks.specs.words.Mark.{own_mark, event_mark}
use Rattle.marks.proofs.Laws.{own_small, event_small, own_some, event_some}
use Rattle.leaves.specs.code.Leaves.{Done, started, ends, by_event, settled, single}
use Rattle.leaves.specs.code.Leaves.{prefix, after_settling, leaf, end}
use Rattle.sides.specs.code.Sides.{entered, side_nodes, put_side, one, both}
use Rattle.drawing.specs.declared.Tally.{Tally}
use Rattle.leaves.specs.declared.Taken.{Taken}
use Rattle.step_laws.proofs.NodeViews.{standing_whole, standing_elsewhere, labelled_whole}
use Rattle.step_laws.proofs.NodeViews.{labelled_there, labelled_elsewhere}
use Rattle.step_laws.proofs.NodeViews.{put_side_whole, put_side_elsewhere, side_nodes_whole}
use Rattle.step_laws.proofs.NodeViews.{side_nodes_elsewhere}

pub record Sideless (w : List ℕ) : Type 0 where
  pub whole : Whole w
  pub none_there : (j : ℕ) → label w j ≡ 0 → (first w j ≡ 0) × (second_side w j ≡ 0)

-- a number out of range has no words
beyond_room : (i : ℕ) (w : List ℕ) (j : ℕ) → ltb j reference_room ≡ false → node i w j ≡ 0
unfolding node
beyond_room i w j h = rw h

-- words whose labels and sides are the same
same_sideless : (w w' : List ℕ) → Whole w' → ((j : ℕ) → label w' j ≡ label w j)
    → ((j : ℕ) → first w' j ≡ first w j)
    → ((j : ℕ) → second_side w' j ≡ second_side w j) → Sideless w → Sideless w'
same_sideless w w' whole labels firsts seconds s = record {
  whole = whole;
  none_there = λ j h.
      let there = s.none_there j (sym (labels j) ∙ h) in (firsts j ∙ there.0, seconds j ∙ there.1);
}

-- words in which only a labelled reference has other sides
beside_sideless : (n : ℕ) (w w' : List ℕ) → Whole w' → (label w n ≡ 0 → ⊥)
    → ((j : ℕ) → label w' j ≡ label w j)
    → ((j : ℕ) → (j ≡ n → ⊥) → (first w' j ≡ first w j) × (second_side w' j ≡ second_side w j)) → Sideless w
    → Sideless w'
beside_sideless n w w' whole marked labels sides s = record {
  whole = whole;
  none_there = λ j h.
      let bare = sym (labels j) ∙ h in
      let there = s.none_there j bare in
      let same = sides j (λ e. marked (ap (label w) (sym e) ∙ bare)) in
      (same.0 ∙ there.0, same.1 ∙ there.1);
}

module _ (n mark : ℕ) (w : List ℕ) (small : mark < 65536) (some_mark : mark ≡ 0 → ⊥) (s : Sideless w) where
  abbrev w' : List ℕ
  w' = labelled n mark w

  labelled_at : (j : ℕ) → label w' j ≡ 0 → j ≡ n → (c : Bool) → ltb j reference_room ≡ c
      → (first w' j ≡ 0) × (second_side w' j ≡ 0)
  labelled_at j h e true q =
      absurd (some_mark (sym (labelled_there n mark w (rw e at (ltb-true j reference_room q)) s.whole
      small)
      ∙ ap (label w') (sym e) ∙ h))
  labelled_at j h e false q = (beyond_room 4 w' j q, beyond_room 5 w' j q)

  labelled_by : (j : ℕ) → label w' j ≡ 0 → (b : Bool) → eqb j n ≡ b → (first w' j ≡ 0)
      × (second_side w' j ≡ 0)
  labelled_by j h true e = labelled_at j h (eqb-true j n e) (ltb j reference_room) refl
  labelled_by j h false e =
      let other = eqb-false j n e in
      let word : (i : ℕ) → i < 8 → node i w' j ≡ node i w j = λ i k. labelled_elsewhere n mark w i j k
      (λ q _. other q) in
      let there = s.none_there j (sym (word 0 (omega arith)) ∙ h) in
      (word 4 (omega arith) ∙ there.0, word 5 (omega arith) ∙ there.1)

  pub labelled_sideless : Sideless w'
  labelled_sideless = record {
    whole = labelled_whole n mark w s.whole;
    none_there = λ j h. labelled_by j h (eqb j n) refl;
  }

pub standing_sideless : (m s t f : ℕ) (w : List ℕ) → Sideless w → Sideless (standing m s t f w)
standing_sideless m s t f w h =
    let word : (i : ℕ) → i < 8 → (1 ≤ i → i ≤ 3 → ⊥) → (j : ℕ) → node i (standing m s t f w) j ≡ node i w j =
    λ i k q j. standing_elsewhere m s t f w i j k (λ _. q) in
    same_sideless w (standing m s t f w) (standing_whole m s t f w h.whole)
    (word 0 (omega arith) (λ a b. omega arith)) (word 4 (omega arith) (λ a b. omega arith))
    (word 5 (omega arith) (λ a b. omega arith)) h

pub put_sideless : (i : ℕ) (w : List ℕ) (n v : ℕ) → i < 8 → (i ≡ 0 → ⊥) → (i ≡ 4 → ⊥) → (i ≡ 5 → ⊥)
    → Sideless w
    → Sideless (put i w n v)
put_sideless i w n v h a b c s =
    same_sideless w (put i w n v) (put_whole i w n v s.whole)
    (λ j. put_other i w n v 0 j (λ e _. a e) h (omega arith))
    (λ j. put_other i w n v 4 j (λ e _. b e) h (omega arith))
    (λ j. put_other i w n v 5 j (λ e _. c e) h (omega arith)) s

pub entered_sideless : (n t : ℕ) (w : List ℕ) → Sideless w → Sideless (entered n t w)
unfolding entered
entered_sideless n t w s =
    labelled_sideless n (own_mark t) _ (own_small t) (own_some t)
    (put_sideless 7 _ n 1 (omega arith) (λ e. omega arith) (λ e. omega arith) (λ e. omega arith)
    (put_sideless 6 _ n 1 (omega arith) (λ e. omega arith) (λ e. omega arith) (λ e. omega arith)
    (put_sideless 1 w n _ (omega arith) (λ e. omega arith) (λ e. omega arith) (λ e. omega arith) s)))

-- a side is put at a labelled reference
module _ (n side : ℕ) (w : List ℕ) (is_side : (1 ≤ side) × (side ≤ 2)) (marked : label w n ≡ 0 → ⊥)
    (s : Sideless w) where
  pub put_side_sideless : (m size : ℕ) → Sideless (put_side n side m size w)
  put_side_sideless m size =
      let (low, high) = is_side in
      let word : (i : ℕ) → i < 6 → (j : ℕ) → (j ≡ n → i ≡ 3 + side → ⊥) → node i (put_side n side m size w) j
      ≡ node i w j =
      λ i k j q. put_side_elsewhere n side m size w is_side i j (omega arith) q (λ _ e. omega arith) in
      beside_sideless n w (put_side n side m size w) (put_side_whole n side m size w is_side s.whole)
      marked
      (λ j. word 0 (omega arith) j (λ _ e. omega arith))
      (λ j other. (word 4 (omega arith) j (λ e _. other e), word 5 (omega arith) j (λ e _. other e))) s

  pub side_nodes_sideless : (t f : ℕ) (k : Tally) → Sideless (side_nodes n side t f k w)
  side_nodes_sideless t f k =
      let (low, high) = is_side in
      let word : (i : ℕ) → i < 8 → (1 ≤ i → i ≤ 3 → ⊥) → (j : ℕ) → (j ≡ n → i ≡ 3 + side → ⊥)
      → node i (side_nodes n side t f k w) j ≡ node i w j =
      λ i h a j q. side_nodes_elsewhere n side t f k w is_side i j h (λ _. a) q in
      beside_sideless n w (side_nodes n side t f k w) (side_nodes_whole n side t f k w is_side s.whole)
      marked
      (λ j. word 0 (omega arith) (λ a b. omega arith) j (λ _ e. omega arith))
      (λ j other. (
        word 4 (omega arith) (λ a b. omega arith) j (λ e _. other e),
        word 5 (omega arith) (λ a b. omega arith) j (λ e _. other e),
      )) s

-- a step that leaves such words
pub record Keeps (d : Done) : Type 0 where
  pub after : Sideless d.nodes

chosen : (b : Bool) {c d : Done} → Keeps c → Keeps d → Keeps (choose b c d)
chosen true x y = x
chosen false x y = y

-- what sequences make of it
module _ (p : List ℕ) (d : Taken) (t f b : ℕ) (w g : List ℕ) (s : Sideless w) where
  started_sideless : (k i : ℕ) → Keeps (started p d k i w g)
  unfolding started
  started_sideless k i = record {
    after = standing_sideless d.tally.fresh resting (second p k) i _
        (labelled_sideless d.reference (own_mark k) w (own_small k) (own_some k) s);
  }

  ends_sideless : Keeps (ends p d t f b w g)
  unfolding ends
  ends_sideless =
      chosen (eqb (around p t) 0)
      (chosen (eqb f b) (record { after = s }) (started_sideless (around p (term w f) - 1) (frame w f)))
      (started_sideless (around p t - 1) f)

  event_sideless : (e : Event) → Keeps (by_event e p d t f b w g)
  unfolding by_event
  event_sideless Tau = record { after = s }
  event_sideless Tick = ends_sideless
  event_sideless (Visible e) = record { after = s }

  pub settled_sideless : Keeps (settled p d t f b w g)
  unfolding settled
  settled_sideless = event_sideless d.event

-- the steps that look no further down
module _ (p : List ℕ) (n b at size d : ℕ) (k : Tally) (w g : List ℕ) (s : Sideless w) where
  single_sideless : (e : Event) (q t i f at size : ℕ) → Keeps (single e n q t i f at size k w g)
  unfolding single
  single_sideless e q t i f at size = record {
    after = standing_sideless k.fresh q i f _
        (labelled_sideless n (own_mark t) w (own_small t) (own_some t) s);
  }

  prefix_sideless : (t f e : ℕ) → Keeps (prefix n t f e at size k w g)
  unfolding prefix
  prefix_sideless t f e = record {
    after = standing_sideless _ _ _ _ _ (labelled_sideless _ (own_mark t) _ (own_small t) (own_some t)
        (labelled_sideless n (event_mark t) w (event_small t) (event_some t) s));
  }

  after_sideless : (t f : ℕ) (c : Done) → Keeps c → Keeps (after_settling p t f b c)
  unfolding after_settling
  after_sideless t f c h = settled_sideless p c.taken t f b c.nodes c.track h.after

  pub leaf_sideless : Keeps (leaf p n b at size d k w g)
  unfolding leaf
  leaf_sideless =
      let i = term w n in
      let f = frame w n in
      chosen (eqb (kind p i) Kind.prefix) (prefix_sideless i f (operand p i))
      (chosen (eqb (kind p i) Kind.SKIP)
      (after_sideless i f (single Tick n at_end i 0 0 at size k w g)
      (single_sideless Tick at_end i 0 0 at size))
      (chosen (eqb (kind p i) Kind.STOP) (single_sideless Tau dead i i f at size)
      (chosen (eqb (kind p i) Kind.call) (single_sideless Tau resting i (operand p i) (beyond p i n f)
      at size)
      (single_sideless Tau resting i (taken d (capped (i + 1)) (second p i)) f (capped (at + 1)) size))))

  pub end_sideless : Keeps (end p n b at size k w g)
  unfolding end
  end_sideless = settled_sideless p _ _ _ b _ _ (standing_sideless k.fresh at_end 0 0 w s)

-- and what a split makes of its sides' steps
module _ (n : ℕ) (w g : List ℕ) (marked : label w n ≡ 0 → ⊥) (s : Sideless w) where
  pub one_sideless : (p : List ℕ) (side b size own other : ℕ) (d : Taken) → (1 ≤ side) × (side ≤ 2)
      → Keeps (one p n side b size own other d w g)
  unfolding one
  one_sideless p side b size own other d is_side =
      chosen (stays (kind p (term w n)) d.event)
      (record { after = put_side_sideless n side w is_side marked s d.reference d.size })
      (settled_sideless p _ (term w n) (frame w n) b w g s)

  pub both_sideless : (size own other met : ℕ) (d e : Taken) → Keeps (both n size own other met d e w g)
  unfolding both
  both_sideless size own other met d e = record {
    after = put_side_sideless n 2 w (omega arith, omega arith) marked s e.reference e.size;
  }
