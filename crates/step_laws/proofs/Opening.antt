-- A choice or parallel that steps have entered, told by a side and the other: each side has a reference of
-- its own where it has stepped, and else rests in its term. Told of both sides this is what the words hold of
-- an entered split, and what they come to when the node of an untouched one is written. Assumes nothing.
use Rattle.std.proofs.Common.{ℕ, suc, ◌+◌, ◌≤◌, ◌<◌, ◌≡◌, refl, sym, ap, ◌∙◌, Bool, true, false, List, []}
use Rattle.std.proofs.Common.{◌∷◌, append-nil, arith, add-zero, eqb, ltb, eqb-true, ltb-true, ltb-false}
use Rattle.std.proofs.lemmas.Bool.{eqb-false}
use Rattle.std.proofs.Math.Option.{Option, none, some}
use Rattle.lines.specs.Line.{choose}
use Rattle.frames.specs.TableFrame.{term_room}
use Rattle.places.specs.Place.{Place}
use Rattle.rules.specs.Process.{Split, choice, together, Process, split, cells}
use Rattle.rules.proofs.Marked.{one, one_same, past, past_drawn, Unentered, BySide, Fit}
use Rattle.rules.proofs.Holding.{held, side_held, split_held}
use Rattle.marks.proofs.Laws.{own_some}
use Rattle.plans.specs.words.Plan.{Layout, kind, second, around}
use Rattle.plans.proofs.Laws.{word_out}
use Rattle.control.specs.words.Words.{reference_room, node}
use Rattle.control.specs.words.Control.{term, frame, first, second_side, inside, split_kind, Untouched}
use Rattle.control.specs.words.Control.{Splits, HoldsControl}
use Rattle.control.proofs.Framed.{Lasting, stands_framed, untouched_told}
use Rattle.drawing.specs.code.Drawing.{one_node}
use Rattle.sides.specs.code.Sides.{entered}
use Rattle.control.specs.words.Views.{marked, first_of}
use Rattle.step_laws.proofs.TrackLoops.{capped_below}
use Rattle.step_laws.proofs.NodeViews.{entered_whole, entered_there, entered_elsewhere, entered_same}
use Rattle.step_laws.proofs.NodeViews.{entered_lasting, own_told, marked_some, marked_none}
use Rattle.step_laws.proofs.NodeViews.{marked_same}
use Rattle.step_laws.proofs.Writing.{Words, Writes, first_none}
use Rattle.step_laws.proofs.Going.{Sound, Ready}
use Rattle.step_laws.proofs.Parts.{one_label, Formed, untouched_formed, single_cell}
use Rattle.rules.specs.Track.{lookup}

-- the sides of a split, with their numbers, and a split told by a side and the other
pub data Side : Type 0 where
  left : Side
  right : Side

abbrev pub number : Side → ℕ
number left = 1
number right = 2

pub is_side : (s : Side) → (1 ≤ number s) × (number s ≤ 2)
is_side left = (omega arith, omega arith)
is_side right = (omega arith, omega arith)

abbrev pub opposite : Side → Side
opposite left = right
opposite right = left

abbrev pub pick : Side → Process → Process → Process
pick left P Q = P
pick right P Q = Q

abbrev pub split_by : Side → Place → Split → Option ℕ → Option ℕ → Process → Process → Process
split_by left v k m o P Q = split v k m o P Q
split_by right v k m o P Q = split v k o m Q P

abbrev pub side_term : List ℕ → Side → ℕ → ℕ
side_term p left t = suc t
side_term p right t = second p t

-- the frame of the sides of what stands at reference n
abbrev pub frame_in : List ℕ → List ℕ → Split → ℕ → ℕ
frame_in p w k n = inside p k (term w n) n (frame w n)

-- one of the sides has stepped
abbrev pub SomeSide : Option ℕ → Option ℕ → Type 0
SomeSide none none = ⊥
SomeSide none (some o) = Unit {0}
SomeSide (some m) o = Unit {0}

pub split_by_held : (s : Side) (j n : ℕ) (v : Place) (k : Split) (m o : Option ℕ) (P Q : Process)
    → held j n (split_by s v k m o P Q) ≡ one j n + side_held j m P + side_held j o Q
split_by_held left j n v k m o P Q = split_held j n v k m o P Q
split_by_held right j n v k m o P Q = omega (arith, split_held j n v k o m Q P)

pub split_by_fit : (s : Side) (v : Place) (k : Split) (m o : Option ℕ) (P Q : Process)
    → Fit (split_by s v k m o P Q) → BySide m (Unentered P) (Fit P) × BySide o (Unentered Q) (Fit Q)
split_by_fit left v k m o P Q h = h
split_by_fit right v k m o P Q h = (h.1, h.0)

pub split_by_cells : (s : Side) (v : Place) (k : Split) (m o : Option ℕ) (P Q : Process) → SomeSide m o
    → cells (split_by s v k m o P Q) ≡ suc (cells P + cells Q)
unfolding cells
split_by_cells left v k none none P Q h = absurd h
split_by_cells left v k none (some o) P Q h = omega arith
split_by_cells left v k (some m) none P Q h = omega arith
split_by_cells left v k (some m) (some o) P Q h = omega arith
split_by_cells right v k none none P Q h = absurd h
split_by_cells right v k none (some o) P Q h = omega arith
split_by_cells right v k (some m) none P Q h = omega arith
split_by_cells right v k (some m) (some o) P Q h = omega arith

module _ (l : Layout) (p x w : List ℕ) where
  -- a side with word i, of term t inside frame f
  abbrev pub SideHeld : Option ℕ → ℕ → ℕ → ℕ → Process → Type 0
  SideHeld none i t f P = (i ≡ 0) × Untouched l p x w t 0 P
  SideHeld (some m) i t f P = (i ≡ m) × HoldsControl l p x w m f P []

  -- an entered split by its side s, and the other
  pub record Opened (s : Side) (n b : ℕ) (ks : List ℕ) (v : Place) (k : Split) (m o : Option ℕ) (P Q : Process)
      : Type 0 where
    pub splits : Splits l p x w n b ks v k (pick s P Q) (pick s Q P)
    pub own : SideHeld m (node (3 + number s) w n) (side_term p s (term w n)) (frame_in p w k n) P
    pub other : SideHeld o (node (3 + number (opposite s)) w n) (side_term p (opposite s) (term w n))
        (frame_in p w k n) Q

  module _ (n b : ℕ) (ks : List ℕ) (v : Place) (k : Split) where
    pub opened_turned : (s : Side) (m o : Option ℕ) (P Q : Process) → Opened s n b ks v k m o P Q
        → Opened (opposite s) n b ks v k o m Q P
    opened_turned left m o P Q h = record { splits = h.splits; own = h.other; other = h.own }
    opened_turned right m o P Q h = record { splits = h.splits; own = h.other; other = h.own }

    -- what the words hold of an entered split is so
    left_opened : (m o : Option ℕ) (P Q : Process) → SomeSide m o → HoldsControl l p x w n b (split v k m o P Q) ks
        → Opened left n b ks v k m o P Q
    left_opened none none P Q e h = absurd e
    left_opened none (some o) P Q e h = record { splits = h.0; own = (h.1, h.3); other = (h.2, h.4) }
    left_opened (some m) none P Q e h = record { splits = h.0; own = (h.1, h.3); other = (h.2, h.4) }
    left_opened (some m) (some o) P Q e h = record { splits = h.0; own = (h.1, h.3); other = (h.2, h.4) }

    left_held : (m o : Option ℕ) (P Q : Process) → SomeSide m o → Opened left n b ks v k m o P Q
        → HoldsControl l p x w n b (split v k m o P Q) ks
    left_held none none P Q e h = absurd e
    left_held none (some o) P Q e h = (h.splits, h.own.0, h.other.0, h.own.1, h.other.1)
    left_held (some m) none P Q e h = (h.splits, h.own.0, h.other.0, h.own.1, h.other.1)
    left_held (some m) (some o) P Q e h = (h.splits, h.own.0, h.other.0, h.own.1, h.other.1)

    turned_some : (m o : Option ℕ) → SomeSide m o → SomeSide o m
    turned_some none none e = e
    turned_some none (some o) e = tt
    turned_some (some m) none e = tt
    turned_some (some m) (some o) e = tt

    pub held_opened : (s : Side) (m o : Option ℕ) (P Q : Process) → SomeSide m o
        → HoldsControl l p x w n b (split_by s v k m o P Q) ks → Opened s n b ks v k m o P Q
    held_opened left m o P Q e h = left_opened m o P Q e h
    held_opened right m o P Q e h =
        opened_turned left o m Q P (left_opened o m Q P (turned_some m o e) h)

    pub opened_held : (s : Side) (m o : Option ℕ) (P Q : Process) → SomeSide m o → Opened s n b ks v k m o P Q
        → HoldsControl l p x w n b (split_by s v k m o P Q) ks
    opened_held left m o P Q e h = left_held m o P Q e h
    opened_held right m o P Q e h =
        left_held o m Q P (turned_some m o e) (opened_turned right m o P Q h)

-- a split's number is a term's
pub split_below : (p : List ℕ) (i : ℕ) (k : Split) → kind p i ≡ split_kind k → i < term_room
unfolding split_kind
split_below p i k h = go (ltb i term_room) refl k h
  where
    go : (b : Bool) → ltb i term_room ≡ b → (c : Split) → kind p i ≡ split_kind c → i < term_room
    go true e c h = ltb-true i term_room e
    go false e choice h = absurd (omega (arith, word_out 0 p i (ltb-false i term_room e)))
    go false e (together z) h = absurd (omega (arith, word_out 0 p i (ltb-false i term_room e)))

module _ (l : Layout) (p x : List ℕ) (count : ℕ) where
  -- words that hold an entered split, each of whose references is drawn and held once
  pub record Entry (s : Side) (n b : ℕ) (ks : List ℕ) (v : Place) (k : Split) (m o : Option ℕ) (P Q : Process)
      (u : Words)
      : Type 0 where
    pub sound : Sound u
    pub there : Opened l p x u.nodes s n b ks v k m o P Q
    pub own_fit : BySide m (Unentered P) (Fit P)
    pub other_fit : BySide o (Unentered Q) (Fit Q)
    pub once : (j : ℕ) → one j n + side_held j m P + side_held j o Q ≤ past j u.tally.fresh

  module _ (n b : ℕ) (ks : List ℕ) (v : Place) (k : Split) (u : Words) where
    pub entry_turned : (s : Side) (m o : Option ℕ) (P Q : Process) → Entry s n b ks v k m o P Q u
        → Entry (opposite s) n b ks v k o m Q P u
    entry_turned s m o P Q h = record {
      sound = h.sound;
      there = opened_turned l p x u.nodes n b ks v k s m o P Q h.there;
      own_fit = h.other_fit;
      other_fit = h.own_fit;
      once = λ j. omega (arith, h.once j);
    }

    pub ready_entry : (s : Side) (m o : Option ℕ) (P Q : Process) → SomeSide m o
        → Ready l p x count n b (split_by s v k m o P Q) ks u → Entry s n b ks v k m o P Q u
    ready_entry s m o P Q e h = record {
      sound = h.sound;
      there = held_opened l p x u.nodes n b ks v k s m o P Q e h.holds;
      own_fit = (split_by_fit s v k m o P Q h.fit).0;
      other_fit = (split_by_fit s v k m o P Q h.fit).1;
      once = λ j. omega (arith, h.once j, split_by_held s j n v k m o P Q);
    }

    -- its own reference is drawn
    pub entry_drawn : (s : Side) (m o : Option ℕ) (P Q : Process) → Entry s n b ks v k m o P Q u
        → n < u.tally.fresh
    entry_drawn s m o P Q h = past_drawn n u.tally.fresh (omega (arith, h.once n, one_same n n refl))

-- the words once the node of an untouched split is written
abbrev pub open_to : ℕ → Words → Words
open_to n u = record {
  tally = one_node u.tally;
  nodes = entered n (term u.nodes n) u.nodes;
  track = u.track;
}

-- an untouched split whose reference has no sides is opened, and labelled
module _ (l : Layout) (p x : List ℕ) (count n b : ℕ) (ks : List ℕ) (v : Place) (k : Split) (P Q : Process)
    (u : Words)
    (ready : Ready l p x count n b (split v k none none P Q) ks u)
    (sideless : (first u.nodes n ≡ 0) × (second_side u.nodes n ≡ 0))
    (room : u.tally.fresh ≤ reference_room) where
  abbrev w : List ℕ
  w = u.nodes

  abbrev t : ℕ
  t = term w n

  opened_plan : Formed l p x (entered n t w) t (around p t) (split v k none none P Q)
  opened_plan =
      untouched_formed l p x (entered n t w) t (around p t) (split v k none none P Q)
      (untouched_told l p x w (entered n t w) t (around p t) _ ready.holds.untouched_there)

  pub open_cells : (cells P ≡ 1) × (cells Q ≡ 1)
  open_cells = (single_cell l p x _ _ 0 P opened_plan.3, single_cell l p x _ _ 0 Q opened_plan.4)

  opened_drawn : n < u.tally.fresh
  unfolding held
  opened_drawn = past_drawn n u.tally.fresh (omega (arith, ready.once n, one_same n n refl))

  opened_room : t < 1024
  opened_room = split_below p t k opened_plan.1

  opened_lasting : Lasting w (entered n t w)
  opened_lasting = entered_lasting n t w ready.holds.bare

  opened_word : (i : ℕ) → 2 ≤ i → i ≤ 5 → node i (entered n t w) n ≡ node i w n
  opened_word i a c = entered_elsewhere n t w i n (omega arith) (λ e. (a, c))

  opened_labels : (j : ℕ)
      → marked l (entered n t w) j
      ≡ first_of (marked l w j) (lookup j (record { reference = n; place = v } ∷ []))
  unfolding lookup first_of
  opened_labels j = go (eqb j n) refl
    where
      go : (c : Bool) → eqb j n ≡ c
          → marked l (entered n t w) j ≡ first_of (marked l w j) (choose c (some v) none)
      go true e =
          let here : j ≡ n = eqb-true j n e in
          let begun = entered_there n t w (omega (arith, opened_drawn)) ready.sound.whole_nodes in
          rw here (rw (marked_none l w n ready.holds.bare)
          (marked_some l (entered n t w) n _ begun.label_is (own_some t)
          ∙ ap some (own_told t opened_room l ∙ opened_plan.0)))
      go false e =
          marked_same l w (entered n t w) j (entered_same n t w j (eqb-false j n e) 0 (omega arith))
          ∙ sym (first_none _)

  pub open_writes : (own : ℕ → ℕ) → ((j : ℕ) → own j ≡ 0 → one j n ≡ 0) → u.tally.nodes < 4096
      → Writes l own u (open_to n u) (one_label n v)
  unfolding one_node
  open_writes own is_own few = record {
    more = omega arith;
    nodes_counted = capped_below (u.tally.nodes + 1) (omega arith);
    arcs_counted = omega arith;
    meetings_counted = omega arith;
    met_counted = omega arith;
    labels_are = opened_labels;
    lasting = opened_lasting;
    apart = λ j h e. entered_same n t w j (λ q. omega (arith, is_own j e, one_same j n q));
    later = λ j h. entered_same n t w j (λ q. omega (arith, opened_drawn));
    arcs_are = sym (append-nil _);
    meetings_are = sym (append-nil _);
    met_are = λ i c e. rw (add-zero, append-nil);
    long_nodes = entered_whole n t w ready.sound.whole_nodes ∙ sym ready.sound.whole_nodes;
    long_track = refl;
  }

  opened_splits : Splits l p x (entered n t w) n b ks v k P Q
  opened_splits =
      let begun = entered_there n t w (omega (arith, opened_drawn)) ready.sound.whole_nodes in
      let at_term : term (entered n t w) n ≡ t = opened_word 2 (omega arith) (omega arith) in
      let plan = opened_plan in
      record {
        stands = stands_framed l p x w (entered n t w) opened_lasting n b ks at_term
            (opened_word 3 (omega arith) (omega arith)) ready.holds.stands;
        enters = begun.state_is;
        marked = λ e. own_some t (sym begun.label_is ∙ e);
        place_is = rw at_term plan.0;
        kind_is = rw at_term plan.1;
        set_is = rw at_term plan.2;
        left_cells = begun.first_cells_are ∙ sym open_cells.0;
        right_cells = begun.second_cells_are ∙ sym open_cells.1;
      }

  pub open_entry : Entry l p x count left n b ks v k none none P Q (open_to n u)
  unfolding one_node side_held held
  open_entry =
      let at_term : term (entered n t w) n ≡ t = opened_word 2 (omega arith) (omega arith) in
      record {
        sound = record {
          whole_nodes = entered_whole n t w ready.sound.whole_nodes;
          whole_track = ready.sound.whole_track;
          clean = λ j i h e.
              entered_same n t w j (λ q. omega (arith, opened_drawn)) i e ∙ ready.sound.clean j i h e;
          up = ready.sound.up;
        };
        there = record {
          splits = opened_splits;
          own = (opened_word 4 (omega arith) (omega arith) ∙ sideless.0, rw at_term opened_plan.3);
          other = (opened_word 5 (omega arith) (omega arith) ∙ sideless.1, rw at_term opened_plan.4);
        };
        own_fit = ready.fit.0;
        other_fit = ready.fit.1;
        once = λ j. omega (arith, ready.once j);
      }
