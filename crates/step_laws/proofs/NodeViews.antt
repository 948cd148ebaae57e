-- What each word of each reference is after what a step writes: the words that it puts are the values, every
-- other word is as before, and nothing that a labelled reference keeps changes. Each is some puts in a row. And
-- what marks tell: a term's own mark the term's place, and an event's mark the event's. Assumes nothing.
use Rattle.std.proofs.Common.{ℕ, ◌+◌, ◌≤◌, ◌<◌, ◌≡◌, refl, ap, sym, ◌∙◌, Bool, true, false, List, arith, eqb}
use Rattle.std.proofs.Common.{eqb-true, eq-eqb, ne_eqb}
use Rattle.std.proofs.lemmas.Bool.{eqb-false}
use Rattle.std.proofs.Math.Option.{none, some}
use Rattle.lines.specs.Line.{choose}
use Rattle.marks.specs.words.Mark.{own_mark, event_mark}
use Rattle.marks.proofs.Laws.{own_small, own_is, event_is, own_read, event_read}
use Rattle.plans.specs.words.Plan.{Layout}
use Rattle.control.specs.words.Words.{reference_room, node, put}
use Rattle.control.specs.words.Control.{label, state, term, frame, first_cells, second_cells, resting}
use Rattle.control.specs.words.Control as Control
use Rattle.control.proofs.NodeLaws.{Whole, put_whole, put_same, put_other}
use Rattle.control.proofs.Framed.{Same, Lasting, words_lasting, marked_not_bare, put_elsewhere, put_lasting}
use Rattle.drawing.specs.code.Drawing.{labelled, standing}
use Rattle.sides.specs.code.Sides.{entered, side_nodes, put_side}
use Rattle.control.specs.words.Views.{literal_place, place_told, marked}
use Rattle.drawing.specs.declared.Tally.{Tally}

-- a word of the reference at which another is put
put_beside : (i : ℕ) (w : List ℕ) (n v j : ℕ) → i < 8 → j < 8 → (i ≡ j → ⊥)
    → node j (put i w n v) n ≡ node j w n
put_beside i w n v j h k other = put_other i w n v j n (λ e _. other e) h k

-- what is told of a reference at which something stands
pub record Stood (w : List ℕ) (n s t f : ℕ) : Type 0 where
  pub state_is : state w n ≡ s
  pub term_is : term w n ≡ t
  pub frame_is : frame w n ≡ f

module _ (m s t f : ℕ) (w : List ℕ) where
  pub standing_whole : Whole w → Whole (standing m s t f w)
  unfolding standing
  standing_whole h = put_whole 3 _ m f (put_whole 2 _ m t (put_whole 1 w m s h))

  pub standing_there : m < reference_room → Whole w → s < 65536 → t < 65536 → f < 65536
      → Stood (standing m s t f w) m s t f
  unfolding standing
  standing_there h l a b c =
      let w₁ = put 1 w m s in
      let w₂ = put 2 w₁ m t in
      let l₁ : Whole w₁ = put_whole 1 w m s l in
      record {
        state_is =
            put_beside 3 w₂ m f 1 (omega arith) (omega arith) (λ e. omega arith)
            ∙ put_beside 2 w₁ m t 1 (omega arith) (omega arith) (λ e. omega arith)
            ∙ put_same 1 w m s h (omega arith) l a;
        term_is =
            put_beside 3 w₂ m f 2 (omega arith) (omega arith) (λ e. omega arith)
            ∙ put_same 2 w₁ m t h (omega arith) l₁ b;
        frame_is = put_same 3 w₂ m f h (omega arith) (put_whole 2 w₁ m t l₁) c;
      }

  pub standing_elsewhere : (i j : ℕ) → i < 8 → (j ≡ m → 1 ≤ i → i ≤ 3 → ⊥)
      → node i (standing m s t f w) j ≡ node i w j
  unfolding standing
  standing_elsewhere i j h other =
      put_other 3 _ m f i j (λ e q. other (sym q) (omega arith) (omega arith)) (omega arith) h
      ∙ put_other 2 _ m t i j (λ e q. other (sym q) (omega arith) (omega arith)) (omega arith) h
      ∙ put_other 1 w m s i j (λ e q. other (sym q) (omega arith) (omega arith)) (omega arith) h

  pub standing_same : (j : ℕ) → (j ≡ m → ⊥) → Same w (standing m s t f w) j
  standing_same j other i h = standing_elsewhere i j h (λ e _ _. other e)

  pub standing_lasting : label w m ≡ 0 → Lasting w (standing m s t f w)
  standing_lasting bare = words_lasting w _
      (λ i j h k. standing_elsewhere i j (omega arith) (λ e _ _. marked_not_bare w j m bare k e))

module _ (n mark : ℕ) (w : List ℕ) where
  pub labelled_whole : Whole w → Whole (labelled n mark w)
  unfolding labelled
  labelled_whole = put_whole 0 w n mark

  pub labelled_there : n < reference_room → Whole w → mark < 65536 → label (labelled n mark w) n ≡ mark
  unfolding labelled
  labelled_there h l = put_same 0 w n mark h (omega arith) l

  pub labelled_elsewhere : (i j : ℕ) → i < 8 → (j ≡ n → i ≡ 0 → ⊥) → node i (labelled n mark w) j ≡ node i w j
  unfolding labelled
  labelled_elsewhere i j h other = put_other 0 w n mark i j (λ e q. other (sym q) (sym e)) (omega arith) h

  pub labelled_same : (j : ℕ) → (j ≡ n → ⊥) → Same w (labelled n mark w) j
  unfolding labelled
  labelled_same = put_elsewhere 0 w n mark (omega arith)

  pub labelled_lasting : label w n ≡ 0 → Lasting w (labelled n mark w)
  unfolding labelled
  labelled_lasting = put_lasting 0 w n mark (omega arith)

-- the places that a term's marks tell
module _ (t : ℕ) (h : t < 1024) (l : Layout) where
  pub own_told : place_told l (own_mark t) ≡ l.place t
  unfolding literal_place
  own_told = ap (literal_place l) (own_read (own_mark t) t (own_is t h))

  pub event_told : place_told l (event_mark t) ≡ l.event t
  unfolding literal_place
  event_told = ap (literal_place l) (event_read (event_mark t) t (event_is t h))

-- the place that a reference is labelled with goes by its label
pub marked_same : (l : Layout) (w w' : List ℕ) (j : ℕ) → label w' j ≡ label w j → marked l w' j ≡ marked l w j
unfolding marked
marked_same l w w' j e = rw e

pub marked_some : (l : Layout) (w : List ℕ) (j m : ℕ) → label w j ≡ m → (m ≡ 0 → ⊥)
    → marked l w j ≡ some (place_told l m)
unfolding marked
marked_some l w j m e h = rw e (simp (ne_eqb m 0 h))

pub marked_none : (l : Layout) (w : List ℕ) (j : ℕ) → label w j ≡ 0 → marked l w j ≡ none
unfolding marked
marked_none l w j e = simp (eq-eqb (label w j) 0 e)

-- after a label it has that one's, as in a list of labels with it in front
pub marked_labelled : (l : Layout) (n m : ℕ) (w : List ℕ) (j : ℕ) → n < reference_room → Whole w → m < 65536
    → (m ≡ 0 → ⊥)
    → marked l (labelled n m w) j ≡ choose (eqb j n) (some (place_told l m)) (marked l w j)
marked_labelled l n m w j h k small some_mark = go (eqb j n) refl
  where
    go : (b : Bool) → eqb j n ≡ b
        → marked l (labelled n m w) j ≡ choose b (some (place_told l m)) (marked l w j)
    go true e = marked_some l _ j m
        (ap (label (labelled n m w)) (eqb-true j n e) ∙ labelled_there n m w h k small) some_mark
    go false e = marked_same l w _ j (labelled_elsewhere n m w 0 j (omega arith) (λ q _. eqb-false j n e q))

-- entered, neither side yet
pub record Begun (w : List ℕ) (n t : ℕ) : Type 0 where
  pub label_is : label w n ≡ own_mark t
  pub state_is : state w n ≡ Control.entered
  pub first_cells_are : first_cells w n ≡ 1
  pub second_cells_are : second_cells w n ≡ 1

module _ (n t : ℕ) (w : List ℕ) where
  pub entered_whole : Whole w → Whole (entered n t w)
  unfolding entered
  entered_whole h =
      labelled_whole n (own_mark t) _
      (put_whole 7 _ n 1 (put_whole 6 _ n 1 (put_whole 1 w n Control.entered h)))

  pub entered_there : n < reference_room → Whole w → Begun (entered n t w) n t
  unfolding entered
  entered_there h l =
      let w₁ = put 1 w n Control.entered in
      let w₂ = put 6 w₁ n 1 in
      let w₃ = put 7 w₂ n 1 in
      let l₁ : Whole w₁ = put_whole 1 w n Control.entered l in
      let l₂ : Whole w₂ = put_whole 6 w₁ n 1 l₁ in
      let m = own_mark t in
      record {
        label_is = labelled_there n m w₃ h (put_whole 7 w₂ n 1 l₂) (own_small t);
        state_is =
            labelled_elsewhere n m w₃ 1 n (omega arith) (λ _ e. omega arith)
            ∙ put_beside 7 w₂ n 1 1 (omega arith) (omega arith) (λ e. omega arith)
            ∙ put_beside 6 w₁ n 1 1 (omega arith) (omega arith) (λ e. omega arith)
            ∙ put_same 1 w n Control.entered h (omega arith) l (omega arith);
        first_cells_are =
            labelled_elsewhere n m w₃ 6 n (omega arith) (λ _ e. omega arith)
            ∙ put_beside 7 w₂ n 1 6 (omega arith) (omega arith) (λ e. omega arith)
            ∙ put_same 6 w₁ n 1 h (omega arith) l₁ (omega arith);
        second_cells_are =
            labelled_elsewhere n m w₃ 7 n (omega arith) (λ _ e. omega arith)
            ∙ put_same 7 w₂ n 1 h (omega arith) l₂ (omega arith);
      }

  pub entered_elsewhere : (i j : ℕ) → i < 8 → (j ≡ n → (2 ≤ i) × (i ≤ 5))
      → node i (entered n t w) j ≡ node i w j
  unfolding entered
  entered_elsewhere i j h other =
      labelled_elsewhere n (own_mark t) _ i j h (λ q e. let o = other q in omega arith)
      ∙ put_other 7 _ n 1 i j (λ e q. let o = other (sym q) in omega arith) (omega arith) h
      ∙ put_other 6 _ n 1 i j (λ e q. let o = other (sym q) in omega arith) (omega arith) h
      ∙ put_other 1 w n Control.entered i j (λ e q. let o = other (sym q) in omega arith) (omega arith) h

  pub entered_same : (j : ℕ) → (j ≡ n → ⊥) → Same w (entered n t w) j
  entered_same j other i h = entered_elsewhere i j h (λ e. absurd (other e))

  pub entered_lasting : label w n ≡ 0 → Lasting w (entered n t w)
  entered_lasting bare = words_lasting w _
      (λ i j h k. entered_elsewhere i j (omega arith) (λ e. absurd (marked_not_bare w j n bare k e)))

-- the sides, 1 and 2
module _ (n side m size : ℕ) (w : List ℕ) (is_side : (1 ≤ side) × (side ≤ 2)) where
  pub put_side_whole : Whole w → Whole (put_side n side m size w)
  unfolding put_side
  put_side_whole h = put_whole (5 + side) _ n size (put_whole (3 + side) w n m h)

  pub put_side_there : n < reference_room → Whole w → m < 65536 → size < 65536
      → (node (3 + side) (put_side n side m size w) n ≡ m)
      × (node (5 + side) (put_side n side m size w) n ≡ size)
  unfolding put_side
  put_side_there h l a b =
      let w₁ = put (3 + side) w n m in (
        put_beside (5 + side) w₁ n size (3 + side) (omega arith) (omega arith) (λ e. omega arith)
            ∙ put_same (3 + side) w n m h (omega arith) l a,
        put_same (5 + side) w₁ n size h (omega arith) (put_whole (3 + side) w n m l) b,
      )

  pub put_side_elsewhere : (i j : ℕ) → i < 8 → (j ≡ n → i ≡ 3 + side → ⊥) → (j ≡ n → i ≡ 5 + side → ⊥)
      → node i (put_side n side m size w) j ≡ node i w j
  unfolding put_side
  put_side_elsewhere i j h other other' =
      put_other (5 + side) _ n size i j (λ e q. other' (sym q) (sym e)) (omega arith) h
      ∙ put_other (3 + side) w n m i j (λ e q. other (sym q) (sym e)) (omega arith) h

  pub put_side_same : (j : ℕ) → (j ≡ n → ⊥) → Same w (put_side n side m size w) j
  put_side_same j other i h = put_side_elsewhere i j h (λ e _. other e) (λ e _. other e)

  pub put_side_lasting : Lasting w (put_side n side m size w)
  put_side_lasting = words_lasting w _
      (λ i j h k. put_side_elsewhere i j (omega arith) (λ _ e. omega arith) (λ _ e. omega arith))

-- a side's first step: it stands at the fresh reference, and its split's word leads there
module _ (n side t f : ℕ) (k : Tally) (w : List ℕ) where
  pub side_nodes_begun : node (3 + side) w n ≡ 0
      → side_nodes n side t f k w ≡ put (3 + side) (standing k.fresh resting t f w) n k.fresh
  unfolding side_nodes
  side_nodes_begun h = simp (eq-eqb (node (3 + side) w n) 0 h)

  pub side_nodes_gone : (node (3 + side) w n ≡ 0 → ⊥) → side_nodes n side t f k w ≡ w
  unfolding side_nodes
  side_nodes_gone h = simp (ne_eqb (node (3 + side) w n) 0 h)

  module _ (is_side : (1 ≤ side) × (side ≤ 2)) where
    pub side_nodes_whole : Whole w → Whole (side_nodes n side t f k w)
    unfolding side_nodes
    side_nodes_whole h = go (eqb (node (3 + side) w n) 0)
      where
        go : (b : Bool) → Whole (choose b (put (3 + side) (standing k.fresh resting t f w) n k.fresh) w)
        go true = put_whole (3 + side) _ n k.fresh (standing_whole k.fresh resting t f w h)
        go false = h

    pub side_nodes_there : node (3 + side) w n ≡ 0 → n < reference_room → k.fresh < reference_room → Whole w
        → t < 65536 → f < 65536
        → (node (3 + side) (side_nodes n side t f k w) n ≡ k.fresh)
        × Stood (side_nodes n side t f k w) k.fresh resting t f
    side_nodes_there begun h h' l a b =
        let m : ℕ = k.fresh in
        let w₁ = standing m resting t f w in
        let s = standing_there m resting t f w h' l (omega arith) a b in
        let kept : (i : ℕ) → i < 4 → node i (put (3 + side) w₁ n m) m ≡ node i w₁ m =
        λ i q. put_other (3 + side) w₁ n m i m (λ e _. omega arith) (omega arith) (omega arith) in
        rw (side_nodes_begun begun) (
          put_same (3 + side) w₁ n m h (omega arith) (standing_whole m resting t f w l) (omega arith),
          record {
            state_is = kept 1 (omega arith) ∙ s.state_is;
            term_is = kept 2 (omega arith) ∙ s.term_is;
            frame_is = kept 3 (omega arith) ∙ s.frame_is;
          },
        )

    pub side_nodes_elsewhere : (i j : ℕ) → i < 8 → (j ≡ k.fresh → 1 ≤ i → i ≤ 3 → ⊥)
        → (j ≡ n → i ≡ 3 + side → ⊥) → node i (side_nodes n side t f k w) j ≡ node i w j
    unfolding side_nodes
    side_nodes_elsewhere i j h other other' = go (eqb (node (3 + side) w n) 0)
      where
        go : (b : Bool)
            → node i (choose b (put (3 + side) (standing k.fresh resting t f w) n k.fresh) w) j
            ≡ node i w j
        go true =
            put_other (3 + side) _ n k.fresh i j (λ e q. other' (sym q) (sym e)) (omega arith) h
            ∙ standing_elsewhere k.fresh resting t f w i j h other
        go false = refl

    pub side_nodes_same : (j : ℕ) → (j ≡ k.fresh → ⊥) → (j ≡ n → ⊥) → Same w (side_nodes n side t f k w) j
    side_nodes_same j other other' i h = side_nodes_elsewhere i j h (λ e _ _. other e) (λ e _. other' e)
