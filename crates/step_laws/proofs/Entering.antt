-- Entering a side of an entered choice or parallel: where it has stepped nothing is written; where not, it
-- comes to rest at a fresh reference, with an arc there and its split's word, inside the split's frame. So
-- the words are ready for the side's step from where the rules have it stand, and the other side is as it
-- was. Assumes nothing.
use Rattle.std.proofs.Common.{ℕ, suc, ◌+◌, ◌≤◌, ◌<◌, ◌≡◌, refl, sym, ap, subst, ◌∙◌, Bool, true, false, List}
use Rattle.std.proofs.Common.{[], ◌∷◌, append-nil, arith, add-zero, length, eqb, eq-eqb, ne_eqb}
use Rattle.std.proofs.Math.Option.{Option, none, some}
use Rattle.lines.specs.Line.{choose}
use Rattle.places.specs.Place.{Place}
use Rattle.rules.specs.Process.{Split, choice, together, Process, leaf, prefix, internal, split, sequence, Ω}
use Rattle.rules.specs.Process.{⊥', cells}
use Rattle.rules.specs.Track.{Entered, first_eval, lookup}
use Rattle.rules.specs.Track as Track
use Rattle.rules.proofs.Marked.{one, one_same, past_most, past_drawn, side_fit}
use Rattle.rules.proofs.Holding.{side_held}
use Rattle.plans.specs.words.Plan.{Layout, around}
use Rattle.control.specs.words.Words.{reference_room, node, put}
use Rattle.control.specs.words.Control.{label, term, frame, first_cells, second_cells, resting, beyond}
use Rattle.control.specs.words.Control.{inside, Rests, Splits, HoldsControl}
use Rattle.control.proofs.NodeLaws.{put_length, put_other}
use Rattle.control.proofs.Framed.{Same, Lasting, lasting_then, words_lasting, stands_framed, untouched_told}
use Rattle.control.proofs.Framed.{holds_framed}
use Rattle.drawing.specs.code.Drawing.{one_arc, drawn, standing, with_arc}
use Rattle.sides.specs.code.Sides.{side_tally, side_nodes, side_track}
use Rattle.step_laws.proofs.TrackLoops.{capped_below}
use Rattle.step_laws.proofs.NodeViews.{side_nodes_begun, side_nodes_gone, side_nodes_there}
use Rattle.step_laws.proofs.NodeViews.{side_nodes_elsewhere, side_nodes_same, marked_same}
use Rattle.step_laws.proofs.Writing.{Words, Added, nothing, Writes, first_none}
use Rattle.step_laws.proofs.Going.{at_words, Ready}
use Rattle.step_laws.proofs.Parts.{sound_clean, sound_after, draw_to, one_way, draw_writes}
use Rattle.step_laws.proofs.Parts.{untouched_below, untouched_around, rests_holds}
use Rattle.step_laws.proofs.Drawing.{side_entered, side_up}
use Rattle.step_laws.proofs.Opening.{Side, left, right, number, is_side, opposite, pick, side_term}
use Rattle.step_laws.proofs.Opening.{frame_in, SideHeld, Opened, Entry, entry_drawn}

-- the sides have other words
pub opposite_other : (s : Side) → number s ≡ number (opposite s) → ⊥
opposite_other left e = omega arith
opposite_other right e = omega arith

-- what is held stands behind its frame
pub holds_within : (l : Layout) (p x w : List ℕ) (n b : ℕ) (P : Process) (ks : List ℕ)
    → HoldsControl l p x w n b P ks → b < n
holds_within l p x w n b (leaf v f) ks h = h.stands.within
holds_within l p x w n b (prefix v e P) ks h = h.stands.within
holds_within l p x w n b (internal v P Q) ks h = h.stands.within
holds_within l p x w n b (split v k none none P Q) ks h = h.stands.within
holds_within l p x w n b (split v k (some i) none P Q) ks h = h.0.stands.within
holds_within l p x w n b (split v k none (some j) P Q) ks h = h.0.stands.within
holds_within l p x w n b (split v k (some i) (some j) P Q) ks h = h.0.stands.within
holds_within l p x w n b (sequence v false P Q) ks h = h.stands.within
holds_within l p x w n b (sequence v true P Q) ks h = holds_within l p x w n b P (h.0 ∷ ks) h.2
holds_within l p x w n b Ω ks h = h.0
holds_within l p x w n b ⊥' ks h = h.0.within

-- the frame of a split's sides is no later than the split
pub inside_most : (p : List ℕ) (k : Split) (t n f : ℕ) → f < n → inside p k t n f ≤ n
unfolding inside beyond
inside_most p (together z) t n f h = omega arith
inside_most p choice t n f h = go (eqb (around p t) 0)
  where
    go : (b : Bool) → choose b f n ≤ n
    go true = omega arith
    go false = omega arith

-- the words may change of a labelled reference that is the part's own
pub writes_at : (l : Layout) (own : ℕ → ℕ) (u v : Words) (a : Added) (n : ℕ) (w : List ℕ) → (own n ≡ 0 → ⊥)
    → n < u.tally.fresh → Lasting v.nodes w → ((j : ℕ) → label w j ≡ label v.nodes j)
    → ((j : ℕ) → (j ≡ n → ⊥) → Same v.nodes w j) → length w ≡ length v.nodes → Writes l own u v a
    → Writes l own u (record { tally = v.tally; nodes = w; track = v.track }) a
writes_at l own u v a n w is_own there lasts labels same long x = record {
  more = x.more;
  nodes_counted = x.nodes_counted;
  arcs_counted = x.arcs_counted;
  meetings_counted = x.meetings_counted;
  met_counted = x.met_counted;
  labels_are = λ j. marked_same l v.nodes w j (labels j) ∙ x.labels_are j;
  lasting = lasting_then u.nodes v.nodes w x.lasting lasts;
  apart = λ j h e i c. same j (λ q. is_own (sym (ap own q) ∙ e)) i c ∙ x.apart j h e i c;
  later = λ j h i c. same j (λ q. omega (arith, h, q, there, x.more)) i c ∙ x.later j h i c;
  arcs_are = x.arcs_are;
  meetings_are = x.meetings_are;
  met_are = x.met_are;
  long_nodes = long ∙ x.long_nodes;
  long_track = x.long_track;
}

-- nothing is written
pub nothing_writes : (l : Layout) (own : ℕ → ℕ) (u : Words) → Writes l own u u nothing
unfolding lookup
nothing_writes l own u = record {
  more = omega arith;
  nodes_counted = omega arith;
  arcs_counted = omega arith;
  meetings_counted = omega arith;
  met_counted = omega arith;
  labels_are = λ j. sym (first_none _);
  lasting = words_lasting u.nodes u.nodes (λ i j h e. refl);
  apart = λ j h e i c. refl;
  later = λ j h i c. refl;
  arcs_are = sym (append-nil _);
  meetings_are = sym (append-nil _);
  met_are = λ i c e. rw (add-zero, append-nil);
  long_nodes = refl;
  long_track = refl;
}

-- a side's word for its cells
pub side_cells : (l : Layout) (p x w : List ℕ) (s : Side) (n b : ℕ) (ks : List ℕ) (v : Place) (k : Split)
    (P Q : Process)
    → Splits l p x w n b ks v k (pick s P Q) (pick s Q P) → node (5 + number s) w n ≡ cells P
side_cells l p x w left n b ks v k P Q h = h.left_cells
side_cells l p x w right n b ks v k P Q h = h.right_cells

-- an entered split goes by the words of its reference and of its sides
module _ (l : Layout) (p x w w' : List ℕ) (keeps : Lasting w w') where
  side_on : (m : Option ℕ) (i i' t f : ℕ) (P : Process) → i' ≡ i → ((j : ℕ) → 1 ≤ side_held j m P → Same w w' j)
      → SideHeld l p x w m i t f P → SideHeld l p x w' m i' t f P
  unfolding side_held
  side_on none i i' t f P e same h = (e ∙ h.0, untouched_told l p x w w' t 0 P h.1)
  side_on (some m) i i' t f P e same h = (e ∙ h.0, holds_framed l p x w w' keeps m f P [] same h.1)

  cells_on : (s : Side) (n : ℕ) (P P' Q : Process) → first_cells w n ≡ cells (pick s P Q)
      → second_cells w n ≡ cells (pick s Q P)
      → node (5 + number (opposite s)) w' n ≡ node (5 + number (opposite s)) w n
      → node (5 + number s) w' n ≡ cells P'
      → (first_cells w' n ≡ cells (pick s P' Q)) × (second_cells w' n ≡ cells (pick s Q P'))
  cells_on left n P P' Q a b e h = (h, e ∙ b)
  cells_on right n P P' Q a b e h = (e ∙ a, h)

  module _ (s : Side) (n b : ℕ) (ks : List ℕ) (v : Place) (k : Split) (m o : Option ℕ) (P Q : Process)
      (h : Opened l p x w s n b ks v k m o P Q) (same : (i : ℕ) → i < 4 → node i w' n ≡ node i w n)
      (word : node (3 + number (opposite s)) w' n ≡ node (3 + number (opposite s)) w n)
      (size : node (5 + number (opposite s)) w' n ≡ node (5 + number (opposite s)) w n)
      (others : (j : ℕ) → 1 ≤ side_held j o Q → Same w w' j) where
    pub frame_on : frame_in p w' k n ≡ frame_in p w k n
    frame_on = rw (same 2 (omega arith), same 3 (omega arith))

    -- so one of its sides may change
    pub opened_on : (m' : Option ℕ) (P' : Process) → node (5 + number s) w' n ≡ cells P'
        → SideHeld l p x w' m' (node (3 + number s) w' n) (side_term p s (term w n)) (frame_in p w k n) P'
        → Opened l p x w' s n b ks v k m' o P' Q
    opened_on m' P' cells_are side =
        let was = h.splits in
        let at_term = same 2 (omega arith) in
        let now = cells_on s n P P' Q was.left_cells was.right_cells size cells_are in
        record {
          splits = record {
            stands = stands_framed l p x w w' keeps n b ks at_term (same 3 (omega arith)) was.stands;
            enters = same 1 (omega arith) ∙ was.enters;
            marked = λ e. was.marked (sym (same 0 (omega arith)) ∙ e);
            place_is = rw at_term was.place_is;
            kind_is = rw at_term was.kind_is;
            set_is = rw at_term was.set_is;
            left_cells = now.0;
            right_cells = now.1;
          };
          own = rw (frame_on, at_term) side;
          other = rw (frame_on, at_term) (side_on o _ _ _ _ Q word others h.other);
        }

-- the words once a side is entered
abbrev pub enter_to : List ℕ → Side → ℕ → ℕ → Words → Words
enter_to p s n f u = record {
  tally = side_tally n (number s) u.tally u.nodes;
  nodes = side_nodes n (number s) (side_term p s (term u.nodes n)) f u.tally u.nodes;
  track = side_track n (number s) u.tally u.nodes u.track;
}

-- what entering a side adds
abbrev pub entering : Entered → Added
entering i = record { labels = i.labels; arcs = i.arcs; meetings = []; met = [] }

module _ (n side : ℕ) (u : Words) where
  begun_tally : node (3 + side) u.nodes n ≡ 0 → side_tally n side u.tally u.nodes
      ≡ drawn (one_arc u.tally)
  unfolding side_tally
  begun_tally h = simp (eq-eqb (node (3 + side) u.nodes n) 0 h)

  begun_track : node (3 + side) u.nodes n ≡ 0 → side_track n side u.tally u.nodes u.track
      ≡ with_arc n u.tally.fresh u.tally.arcs u.track
  unfolding side_track
  begun_track h = simp (eq-eqb (node (3 + side) u.nodes n) 0 h)

  gone_tally : (node (3 + side) u.nodes n ≡ 0 → ⊥) → side_tally n side u.tally u.nodes ≡ u.tally
  unfolding side_tally
  gone_tally h = simp (ne_eqb (node (3 + side) u.nodes n) 0 h)

  gone_track : (node (3 + side) u.nodes n ≡ 0 → ⊥)
      → side_track n side u.tally u.nodes u.track ≡ u.track
  unfolding side_track
  gone_track h = simp (ne_eqb (node (3 + side) u.nodes n) 0 h)

module _ (l : Layout) (p x : List ℕ) (count : ℕ) (s : Side) (n b : ℕ) (ks : List ℕ) (v : Place) (k : Split)
    (o : Option ℕ) (P Q : Process) (c : ℕ) (u : Words) where
  -- words u' in which a side has been entered as the rules do
  pub record Enters (m : Option ℕ) (u' : Words) : Type 0 where
    pub writes : (own : ℕ → ℕ) → (own n ≡ 0 → ⊥)
        → Writes l own u u' (entering (first_eval m (some c) v (at_words n u)))
    pub word : node (3 + number s) u'.nodes n ≡ (first_eval m (some c) v (at_words n u)).reference
    pub fresh_is : u'.tally.fresh ≡ (first_eval m (some c) v (at_words n u)).fresh
    pub frame_is : frame_in p u'.nodes k n ≡ frame_in p u.nodes k n
    pub entry : Entry l p x count s n b ks v k (some (first_eval m (some c) v (at_words n u)).reference) o P
        Q u'

  -- a side that has stepped
  enters_gone : (i : ℕ) → Entry l p x count s n b ks v k (some i) o P Q u → Enters (some i) u
  unfolding first_eval
  enters_gone i h = record {
    writes = λ own is_own. nothing_writes l own u;
    word = h.there.own.0;
    fresh_is = refl;
    frame_is = refl;
    entry = h;
  }

  -- and one that has not
  module _ (h : Entry l p x count s n b ks v k none o P Q u) (room : u.tally.fresh < reference_room)
      (few : u.tally.arcs < 8192) where
    abbrev w : List ℕ
    w = u.nodes

    abbrev m : ℕ
    m = u.tally.fresh

    abbrev t : ℕ
    t = side_term p s (term w n)

    abbrev f : ℕ
    f = frame_in p w k n

    abbrev u' : Words
    u' = enter_to p s n f u

    split_drawn : n < m
    split_drawn = entry_drawn l p x count n b ks v k u s none o P Q h

    frame_before : f ≤ n
    frame_before = inside_most p k (term w n) n (frame w n) h.there.splits.stands.framed

    term_below : t < 1024
    term_below = untouched_below l p x w t 0 P h.there.own.1

    entered_is : u' ≡ record {
      tally = drawn (one_arc u.tally);
      nodes = put (3 + number s) (standing m resting t f w) n m;
      track = with_arc n m u.tally.arcs u.track;
    }
    entered_is = rw (
      begun_tally n (number s) u h.there.own.0,
      begun_track n (number s) u h.there.own.0,
      side_nodes_begun n (number s) t f u.tally w h.there.own.0,
    )

    -- words other than these stay
    elsewhere : (i j : ℕ) → i < 8 → (j ≡ m → ⊥) → (j ≡ n → i ≡ 3 + number s → ⊥) → node i u'.nodes j
        ≡ node i w j
    elsewhere i j a e q = side_nodes_elsewhere n (number s) t f u.tally w (is_side s) i j a (λ z _ _. e z) q

    at_split : (i : ℕ) → i < 8 → (i ≡ 3 + number s → ⊥) → node i u'.nodes n ≡ node i w n
    at_split i a e = elsewhere i n a (λ q. omega (arith, split_drawn)) (λ _ z. e z)

    others_same : (j : ℕ) → 1 ≤ side_held j o Q → Same w u'.nodes j
    others_same j a =
        let once = h.once j in
        let below : j < m = past_drawn j m (omega arith) in
        side_nodes_same n (number s) t f u.tally w (is_side s) j (λ q. omega arith)
        (λ q. omega (arith, one_same j n q, past_most j m))

    begun_fresh : u'.tally.fresh ≡ suc m
    unfolding drawn one_arc
    begun_fresh =
        let next : m + 1 ≡ suc m = omega arith in
        ap (λ y. y.fresh) (begun_tally n (number s) u h.there.own.0)
        ∙ capped_below (m + 1) (omega arith) ∙ next

    begun_writes : (own : ℕ → ℕ) → (own n ≡ 0 → ⊥) → Writes l own u u' (one_way n m)
    begun_writes own is_own =
        let w₁ = standing m resting t f w in
        let i = 3 + number s in
        let side = is_side s in
        subst (λ z. Writes l own u z (one_way n m)) (sym entered_is)
        (writes_at l own u (draw_to n resting t f u) (one_way n m) n (put i w₁ n m) is_own split_drawn
        (words_lasting w₁ _ (λ a j e q. put_other i w₁ n m a j (λ z _. omega arith) (omega arith)
        (omega arith)))
        (λ j. put_other i w₁ n m 0 j (λ z _. omega arith) (omega arith) (omega arith))
        (λ j e a q. put_other i w₁ n m a j (λ _ z. e (sym z)) (omega arith) q)
        (put_length i w₁ n m)
        (draw_writes l own u (sound_clean u h.sound) n split_drawn room few resting t f))

    -- it rests at the fresh reference
    begun_rests : Rests l p x u'.nodes m f [] P
    begun_rests =
        let there = side_nodes_there n (number s) t f u.tally w (is_side s) h.there.own.0
        (omega (arith, split_drawn)) room h.sound.whole_nodes (omega (arith, term_below))
        (omega (arith, frame_before, split_drawn)) in
        let un = h.there.own.1 in
        let bare_around = untouched_around l p x w t 0 P un in
        let stood = there.1 in
        record {
          stands = record {
            within = omega (arith, frame_before, split_drawn);
            framed = rw stood.frame_is (omega (arith, frame_before, split_drawn));
            chain = rw (stood.term_is, stood.frame_is) (bare_around, refl);
          };
          rests = stood.state_is;
          bare =
              side_nodes_elsewhere n (number s) t f u.tally w (is_side s) 0 m (omega arith)
              (λ _ q _. omega arith) (λ _ q. omega arith) ∙ h.sound.clean m 0 (omega arith) (omega arith);
          untouched_there = rw (stood.term_is, bare_around) (untouched_told l p x w u'.nodes t 0 P un);
        }

    begun_opened : Opened l p x u'.nodes s n b ks v k (some m) o P Q
    begun_opened =
        let there = side_nodes_there n (number s) t f u.tally w (is_side s) h.there.own.0
        (omega (arith, split_drawn)) room h.sound.whole_nodes (omega (arith, term_below))
        (omega (arith, frame_before, split_drawn)) in
        let side = is_side s in
        let across = is_side (opposite s) in
        opened_on l p x w u'.nodes
        (begun_writes (λ j. one j n) (λ e. omega (arith, e, one_same n n refl))).lasting
        s n b ks v k none o P Q h.there
        (λ i a. at_split i (omega arith) (λ q. omega arith))
        (at_split (3 + number (opposite s)) (omega arith) (λ q. opposite_other s (omega arith)))
        (at_split (5 + number (opposite s)) (omega arith) (λ q. omega arith)) others_same (some m) P
        (at_split (5 + number s) (omega arith) (λ q. omega arith) ∙ side_cells l p x w s n b ks v k P Q
        h.there.splits)
        (there.0, rests_holds l p x u'.nodes m f [] P begun_rests)

    enters_begun : Enters none u'
    unfolding first_eval side_held
    enters_begun =
        let side = is_side s in
        let own_writes = begun_writes (λ j. one j n) (λ e. omega (arith, e, one_same n n refl)) in
        record {
          writes = begun_writes;
          word = begun_opened.own.0;
          fresh_is = begun_fresh;
          frame_is = rw (
            at_split 2 (omega arith) (λ q. omega arith),
            at_split 3 (omega arith)
                (λ q. omega arith),
          );
          entry = record {
            sound = sound_after l _ u u' _ h.sound own_writes
                (rw begun_fresh (side_up none (some c) v (at_words n u) P split_drawn));
            there = begun_opened;
            own_fit = side_fit none P h.own_fit;
            other_fit = h.other_fit;
            once = λ j. rw begun_fresh (omega (
              arith,
              h.once j,
              side_entered none (some c) v (at_words n u) P h.own_fit j,
            ));
          };
        }

  -- a side, entered
  pub side_enters : (m : Option ℕ) → Entry l p x count s n b ks v k m o P Q u
      → (first_eval m (some c) v (at_words n u)).fresh ≤ reference_room
      → u.tally.arcs + length (first_eval m (some c) v (at_words n u)).arcs ≤ 8192
      → Enters m (enter_to p s n (frame_in p u.nodes k n) u)
  unfolding first_eval
  side_enters none h room few = enters_begun h (omega arith) (omega arith)
  side_enters (some i) h room few =
      let own = h.there.own in
      let some_word : node (3 + number s) u.nodes n ≡ 0 → ⊥ =
      λ e. omega (arith, e, own.0, holds_within l p x u.nodes i _ P [] own.1) in
      let is : enter_to p s n (frame_in p u.nodes k n) u ≡ u =
      rw (
        gone_tally n (number s) u some_word,
        gone_track n (number s) u some_word,
        side_nodes_gone n (number s) _ _ u.tally u.nodes some_word,
      ) in
      subst (Enters (some i)) (sym is) (enters_gone i h)

  -- from there it is ready for its step, where the rules have it stand
  module _ (m : Option ℕ) (u' : Words) (e : Enters m u') where
    pub enters_ready : Ready l p x count (first_eval m (some c) v (at_words n u)).reference
        (frame_in p u.nodes k n) P [] u'
    unfolding side_held
    enters_ready = record {
      sound = e.entry.sound;
      holds = rw e.frame_is at e.entry.there.own.1;
      fit = e.entry.own_fit;
      once = λ j. omega (arith, e.entry.once j);
    }

    pub enters_stands : at_words (first_eval m (some c) v (at_words n u)).reference u'
        ≡ Track.inside (first_eval m (some c) v (at_words n u)) (at_words n u)
    enters_stands =
        rw (e.fresh_is, (e.writes (λ j. one j n) (λ q. omega (arith, q, one_same n n refl))).arcs_are)
