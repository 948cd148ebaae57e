-- A control is held by the words of the references that it stands at, and by those of the labelled references
-- that its frames lead through. So words that agree on the ones, and keep label, term and frame of the others,
-- hold it too. By induction over the process. Assumes nothing.
use Rattle.std.proofs.Common.{ℕ, ◌≤◌, ◌<◌, ◌≡◌, refl, subst, ap, sym, ◌∙◌, Bool, true, false, List, [], ◌∷◌}
use Rattle.std.proofs.Common.{arith, eqb, eqb-true}
use Rattle.std.proofs.Math.Option.{none, some}
use Rattle.lines.specs.Line.{choose}
use Rattle.terms.specs.Term.{Term, external, parallel}
use Rattle.terms.specs.Term as Term
use Rattle.places.specs.Place.{Place}
use Rattle.rules.specs.Process.{Split, Process, leaf, prefix, internal, split, sequence, Ω, ⊥', below, joined}
use Rattle.rules.specs.Process.{untouched, cells}
use Rattle.rules.proofs.Marked.{one, one_same}
use Rattle.rules.proofs.Holding.{held}
use Rattle.plans.specs.words.Plan.{Layout, second, around}
use Rattle.control.specs.words.Words.{node, put}
use Rattle.control.specs.words.Control.{label, term, frame, innermost, behind, Around, inside}
use Rattle.control.specs.words.Control.{first_cells, second_cells, Untouched, Stands, Rests, Splits}
use Rattle.control.specs.words.Control.{Follows, HoldsControl}
use Rattle.control.proofs.NodeLaws.{put_other}

-- the words of reference j are the same
abbrev pub Same : List ℕ → List ℕ → ℕ → Type 0
Same w w' j = (i : ℕ) → i < 8 → node i w' j ≡ node i w j

-- what lasts of a labelled reference
pub record Lasts (w w' : List ℕ) (j : ℕ) : Type 0 where
  pub label_lasts : label w' j ≡ label w j
  pub term_lasts : term w' j ≡ term w j
  pub frame_lasts : frame w' j ≡ frame w j

abbrev pub Lasting : List ℕ → List ℕ → Type 0
Lasting w w' = (j : ℕ) → (label w j ≡ 0 → ⊥) → Lasts w w' j

pub lasting_then : (w w' w'' : List ℕ) → Lasting w w' → Lasting w' w'' → Lasting w w''
lasting_then w w' w'' k k' j h =
    let a = k j h in
    let a' = k' j (λ e. h (sym a.label_lasts ∙ e)) in
    record {
      label_lasts = a'.label_lasts ∙ a.label_lasts;
      term_lasts = a'.term_lasts ∙ a.term_lasts;
      frame_lasts = a'.frame_lasts ∙ a.frame_lasts;
    }

-- so do the words of labelled references up to the frame
pub words_lasting : (w w' : List ℕ)
    → ((i j : ℕ) → i < 4 → (label w j ≡ 0 → ⊥) → node i w' j ≡ node i w j) → Lasting w w'
words_lasting w w' same j h = record {
  label_lasts = same 0 j (omega arith) h;
  term_lasts = same 2 j (omega arith) h;
  frame_lasts = same 3 j (omega arith) h;
}

-- a reference that is labelled is not one that is not
pub marked_not_bare : (w : List ℕ) (j n : ℕ) → label w n ≡ 0 → (label w j ≡ 0 → ⊥) → j ≡ n → ⊥
marked_not_bare w j n bare h e = h (ap (label w) e ∙ bare)

-- a word that is put
module _ (i : ℕ) (w : List ℕ) (n v : ℕ) (h : i < 8) where
  pub put_elsewhere : (j : ℕ) → (j ≡ n → ⊥) → Same w (put i w n v) j
  put_elsewhere j other k = put_other i w n v k j (λ _ e. other (sym e)) h

  pub put_lasting : label w n ≡ 0 → Lasting w (put i w n v)
  put_lasting bare = words_lasting w (put i w n v)
      (λ k j g marked. put_elsewhere j (marked_not_bare w j n bare marked) k (omega arith))

-- what a test chooses is the same where what it may choose is
chosen_same : (b : Bool) (m m' n : ℕ) → (b ≡ true → m' ≡ m) → choose b m' n ≡ choose b m n
chosen_same true m m' n h = h refl
chosen_same false m m' n h = refl

module _ (p w w' : List ℕ) (keeps : Lasting w w') where
  module _ (t f : ℕ) (there : around p t ≡ 0 → label w f ≡ 0 → ⊥) where
    innermost_lasting : innermost p w' t f ≡ innermost p w t f
    unfolding innermost
    innermost_lasting = chosen_same (eqb (around p t) 0) _ _ _
        (λ h. ap (around p) (keeps f (there (eqb-true (around p t) 0 h))).term_lasts)

    behind_lasting : behind p w' t f ≡ behind p w t f
    unfolding behind
    behind_lasting = chosen_same (eqb (around p t) 0) _ _ _
        (λ h. (keeps f (there (eqb-true (around p t) 0 h))).frame_lasts)

  pub around_lasting : (t f b : ℕ) (ks : List ℕ) → Around p w t f b ks → Around p w' t f b ks
  around_lasting t f b [] a = a
  around_lasting t f b (k ∷ ks) a =
      let there : around p t ≡ 0 → label w f ≡ 0 → ⊥ = λ h. (a.0 h).1 in (
        λ h. ((a.0 h).0, λ e. there h (sym (keeps f (there h)).label_lasts ∙ e)),
        innermost_lasting t f there ∙ a.1,
        subst (λ m. Around p w' k m b ks) (sym (behind_lasting t f there))
            (around_lasting k (behind p w t f) b ks a.2),
      )

-- an untouched term stands at one reference
term_held : (j n : ℕ) (v : Place) (t : Term) → held j n (untouched v t) ≡ one j n
unfolding held untouched joined
term_held j n v (Term.leaf l) = refl
term_held j n v (Term.prefix e t) = refl
term_held j n v (Term.binary Term.internal t u) = refl
term_held j n v (Term.binary external t u) = refl
term_held j n v (Term.binary Term.sequence t u) = term_held j n (below v 1) t
term_held j n v (Term.binary (parallel x) t u) = refl

pub untouched_held : (l : Layout) (p x w : List ℕ) (i o : ℕ) (P : Process) → Untouched l p x w i o P
    → (j n : ℕ) → held j n P ≡ one j n
untouched_held l p x w i o P u j n =
    subst (λ R. held j n R ≡ one j n) (sym u.is) (term_held j n (l.place i) u.tree)

-- what a plan tells does not go by the words
module _ (l : Layout) (p x w w' : List ℕ) where
  pub untouched_told : (i o : ℕ) (P : Process) → Untouched l p x w i o P → Untouched l p x w' i o P
  untouched_told i o P u = record { tree = u.tree; is = u.is; planned = u.planned }

  pub follows_told : (k : ℕ) (v : Place) (Q : Process) → Follows l p x w k v Q → Follows l p x w' k v Q
  follows_told k v Q f = record {
    place_is = f.place_is;
    right = untouched_told (second p k) (around p k) Q f.right;
  }

module _ (l : Layout) (p x w w' : List ℕ) (keeps : Lasting w w') where
  -- what stands at a reference whose term and frame are the same
  pub stands_framed : (n b : ℕ) (ks : List ℕ) → term w' n ≡ term w n → frame w' n ≡ frame w n
      → Stands l p x w n b ks → Stands l p x w' n b ks
  stands_framed n b ks same_term same_frame s = record {
    within = s.within;
    framed = rw same_frame s.framed;
    chain = rw (same_term, same_frame) (around_lasting p w w' keeps _ _ b ks s.chain);
  }

  -- a split whose words up to the frame are the same, with the cells that its sides have then
  pub splits_framed : (n b : ℕ) (ks : List ℕ) (v : Place) (k : Split) (P Q P' Q' : Process)
      → ((i : ℕ) → i < 4 → node i w' n ≡ node i w n)
      → first_cells w' n ≡ cells P' → second_cells w' n ≡ cells Q'
      → Splits l p x w n b ks v k P Q → Splits l p x w' n b ks v k P' Q'
  splits_framed n b ks v k P Q P' Q' same on_left on_right s = record {
    stands = stands_framed n b ks (same 2 (omega arith)) (same 3 (omega arith)) s.stands;
    enters = same 1 (omega arith) ∙ s.enters;
    marked = λ e. s.marked (sym (same 0 (omega arith)) ∙ e);
    place_is = rw (same 2 (omega arith)) s.place_is;
    kind_is = rw (same 2 (omega arith)) s.kind_is;
    set_is = rw (same 2 (omega arith)) s.set_is;
    left_cells = on_left;
    right_cells = on_right;
  }

  -- where all words are the same
  module _ (n : ℕ) (same : Same w w' n) (b : ℕ) (ks : List ℕ) where
    rests_same : (P : Process) → Rests l p x w n b ks P → Rests l p x w' n b ks P
    rests_same P r = record {
      stands = stands_framed n b ks (same 2 (omega arith)) (same 3 (omega arith)) r.stands;
      rests = same 1 (omega arith) ∙ r.rests;
      bare = same 0 (omega arith) ∙ r.bare;
      untouched_there = rw (same 2 (omega arith)) (untouched_told l p x w w' _ _ P r.untouched_there);
    }

    splits_same : (v : Place) (k : Split) (P Q : Process) → Splits l p x w n b ks v k P Q
        → Splits l p x w' n b ks v k P Q
    splits_same v k P Q s = splits_framed n b ks v k P Q P Q (λ i h. same i (omega arith))
        (same 6 (omega arith) ∙ s.left_cells) (same 7 (omega arith) ∙ s.right_cells) s

  resting_framed : (n b : ℕ) (ks : List ℕ) (P : Process) → ((j : ℕ) → 1 ≤ held j n P → Same w w' j)
      → Rests l p x w n b ks P → Rests l p x w' n b ks P
  resting_framed n b ks P same r =
      let one_part = untouched_held l p x w (term w n) _ P r.untouched_there n n in
      rests_same n (same n (omega (arith, one_part, one_same n n refl))) b ks P r

  inside_same : (n : ℕ) (k : Split) → Same w w' n
      → inside p k (term w' n) n (frame w' n) ≡ inside p k (term w n) n (frame w n)
  inside_same n k same = rw (same 2 (omega arith), same 3 (omega arith))

  pub holds_framed : (n b : ℕ) (P : Process) (ks : List ℕ) → ((j : ℕ) → 1 ≤ held j n P → Same w w' j)
      → HoldsControl l p x w n b P ks → HoldsControl l p x w' n b P ks
  unfolding held
  holds_framed n b (leaf v f) ks same h = resting_framed n b ks _ same h
  holds_framed n b (prefix v e P) ks same h = resting_framed n b ks _ same h
  holds_framed n b (internal v P Q) ks same h = resting_framed n b ks _ same h
  holds_framed n b (split v k none none P Q) ks same h = resting_framed n b ks _ same h
  holds_framed n b (split v k (some i) none P Q) ks same h =
      let own : Same w w' n = same n (omega (arith, one_same n n refl)) in (
        splits_same n own b ks v k P Q h.0,
        own 4 (omega arith) ∙ h.1,
        own 5 (omega arith) ∙ h.2,
        rw (inside_same n k own) (holds_framed i _ P [] (λ j a. same j (omega arith)) h.3),
        rw (own 2 (omega arith)) (untouched_told l p x w w' _ 0 Q h.4),
      )
  holds_framed n b (split v k none (some j) P Q) ks same h =
      let own : Same w w' n = same n (omega (arith, one_same n n refl)) in (
        splits_same n own b ks v k P Q h.0,
        own 4 (omega arith) ∙ h.1,
        own 5 (omega arith) ∙ h.2,
        rw (own 2 (omega arith)) (untouched_told l p x w w' _ 0 P h.3),
        rw (inside_same n k own) (holds_framed j _ Q [] (λ i a. same i (omega arith)) h.4),
      )
  holds_framed n b (split v k (some i) (some j) P Q) ks same h =
      let own : Same w w' n = same n (omega (arith, one_same n n refl)) in (
        splits_same n own b ks v k P Q h.0,
        own 4 (omega arith) ∙ h.1,
        own 5 (omega arith) ∙ h.2,
        rw (inside_same n k own) (holds_framed i _ P [] (λ m a. same m (omega arith)) h.3),
        rw (inside_same n k own) (holds_framed j _ Q [] (λ m a. same m (omega arith)) h.4),
      )
  holds_framed n b (sequence v false P Q) ks same h = resting_framed n b ks _ same h
  holds_framed n b (sequence v true P Q) ks same h =
      (h.0, follows_told l p x w w' h.0 v Q h.1, holds_framed n b P (h.0 ∷ ks) same h.2)
  holds_framed n b Ω ks same h =
      let own : Same w w' n = same n (omega (arith, one_same n n refl)) in
      (h.0, own 1 (omega arith) ∙ h.1, h.2)
  holds_framed n b ⊥' ks same h =
      let own : Same w w' n = same n (omega (arith, one_same n n refl)) in
      (stands_framed n b ks (own 2 (omega arith)) (own 3 (omega arith)) h.0, own 1 (omega arith) ∙ h.1)
