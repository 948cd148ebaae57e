-- The small writes of a step, each as what it writes: a label, an arc to a fresh reference with or without what
-- stands there, both of these in a row, and an event node. A word that is not theirs stays, and what they add
-- is one more behind the last; what is whole and clean stays so. And what a plan tells of an untouched process,
-- which rests where it comes to stand. Assumes nothing.
use Rattle.std.proofs.Common.{ℕ, suc, ◌+◌, ◌≤◌, ◌<◌, ◌≡◌, refl, sym, ap, subst, ◌∙◌, Bool, true, false, List}
use Rattle.std.proofs.Common.{[], ◌∷◌, ◌++◌, append-nil, arith, add-zero, length, get_or, eqb, leb, ltb}
use Rattle.std.proofs.Common.{eqb-true, leb-true, leb-false, ltb-true, ltb-false}
use Rattle.std.proofs.Math.Option.{none, some}
use Rattle.lines.specs.Line.{choose}
use Rattle.kinds.specs.Kind as Kind
use Rattle.frames.specs.TableFrame.{term_room, event_room}
use Rattle.terms.specs.Term.{call, SKIP, STOP, external, parallel, Term, leaf_kind, operator_kind}
use Rattle.terms.specs.Term.{operator_payload}
use Rattle.terms.specs.Term as Term
use Rattle.places.specs.Place.{Place}
use Rattle.rules.specs.Process.{Process, leaf, prefix, internal, split, sequence, Ω, ⊥', joined, untouched}
use Rattle.rules.specs.Process.{below, cells}
use Rattle.rules.specs.Track.{pair, lookup}
use Rattle.rules.proofs.Climbing.{Up, up_more, up_append}
use Rattle.plans.specs.words.Plan.{Layout, kind, operand, second, around, first_around, second_around, Leads}
use Rattle.plans.specs.words.Plan.{Planned}
use Rattle.plans.proofs.Laws.{word_out}
use Rattle.control.specs.words.Words.{reference_room, track_words, node}
use Rattle.control.specs.words.Control.{label, resting, Around, split_kind, split_set, Untouched, Stands}
use Rattle.control.specs.words.Control.{Rests, HoldsControl}
use Rattle.control.proofs.NodeLaws.{Whole}
use Rattle.control.proofs.Framed.{Same, Lasting, words_lasting, untouched_told}
use Rattle.control.specs.words.Sums.{capped}
use Rattle.weighing.proofs.TermTold.{untouched_cells}
use Rattle.drawing.specs.code.Drawing.{one_node, one_arc, one_met, drawn, labelled, standing, with_arc}
use Rattle.drawing.specs.code.Drawing.{with_met}
use Rattle.control.specs.words.Views.{arcs_of, event_nodes, marked, place_told, first_of}
use Rattle.step_laws.proofs.TrackLaws.{arc_added, arc_keeps_meetings, arc_keeps_nodes, arc_length}
use Rattle.step_laws.proofs.TrackLaws.{met_added, met_keeps_arcs, met_keeps_meetings, met_length}
use Rattle.step_laws.proofs.TrackLoops.{capped_below}
use Rattle.step_laws.proofs.NodeViews.{standing_whole, standing_there, standing_elsewhere}
use Rattle.step_laws.proofs.NodeViews.{standing_same, standing_lasting, labelled_whole, labelled_same}
use Rattle.step_laws.proofs.NodeViews.{labelled_lasting, marked_same, marked_none, marked_labelled}
use Rattle.step_laws.proofs.Writing.{Words, Added, Writes, behind, first_none}
use Rattle.step_laws.proofs.Going.{Sound}

-- words after a label, after an arc to the fresh reference, after that with what stands there, after a label
-- and such an arc, and after an event node
abbrev pub label_to : ℕ → ℕ → Words → Words
label_to n mark u = record {
  tally = one_node u.tally;
  nodes = labelled n mark u.nodes;
  track = u.track;
}

abbrev pub arc_to : ℕ → Words → Words
arc_to n u = record {
  tally = drawn (one_arc u.tally);
  nodes = u.nodes;
  track = with_arc n u.tally.fresh u.tally.arcs u.track;
}

abbrev pub draw_to : ℕ → ℕ → ℕ → ℕ → Words → Words
draw_to n s t f u = record {
  tally = drawn (one_arc u.tally);
  nodes = standing u.tally.fresh s t f u.nodes;
  track = with_arc n u.tally.fresh u.tally.arcs u.track;
}

abbrev pub on_to : ℕ → ℕ → ℕ → ℕ → ℕ → Words → Words
on_to n mark s t f u = draw_to n s t f (label_to n mark u)

abbrev pub keep_to : ℕ → Words → Words
keep_to n u = record {
  tally = one_met u.tally;
  nodes = u.nodes;
  track = with_met n u.tally.met u.track;
}

-- one label, one arc, both, and one event node
abbrev pub one_label : ℕ → Place → Added
one_label n v = record { labels = record { reference = n; place = v } ∷ []; arcs = []; meetings = []; met = [] }

abbrev pub one_way : ℕ → ℕ → Added
one_way n m = record { labels = []; arcs = pair n m ∷ []; meetings = []; met = [] }

abbrev pub one_on : ℕ → Place → ℕ → Added
one_on n v m = record {
  labels = record { reference = n; place = v } ∷ [];
  arcs = pair n m ∷ [];
  meetings = [];
  met = [];
}

abbrev pub one_kept : ℕ → Added
one_kept n = record { labels = []; arcs = []; meetings = []; met = n ∷ [] }

-- words that are whole, and clean behind what is drawn
pub record Clean (u : Words) : Type 0 where
  pub whole_nodes : length u.nodes ≡ 65544
  pub whole_track : length u.track ≡ track_words
  pub clean : (j i : ℕ) → u.tally.fresh ≤ j → i < 8 → node i u.nodes j ≡ 0

pub sound_clean : (u : Words) → Sound u → Clean u
sound_clean u s = record { whole_nodes = s.whole_nodes; whole_track = s.whole_track; clean = s.clean }

-- what is labelled is drawn
pub marked_drawn : (u : Words) → Clean u → (j : ℕ) → (label u.nodes j ≡ 0 → ⊥) → j < u.tally.fresh
marked_drawn u c j h = go (leb u.tally.fresh j) refl
  where
    go : (b : Bool) → leb u.tally.fresh j ≡ b → j < u.tally.fresh
    go true e = absurd (h (c.clean j 0 (leb-true u.tally.fresh j e) (omega arith)))
    go false e = leb-false u.tally.fresh j e

-- lists to which nothing is added
nothing_more : {A : Type 0} (xs : List A) → xs ≡ xs ++ []
nothing_more xs = sym (append-nil xs)

nodes_none : (g : List ℕ) (i c : ℕ) → event_nodes g i (c + 0) ≡ event_nodes g i c ++ []
nodes_none g i c = rw (add-zero, append-nil)

-- what a label tells is one more behind the labels before it
label_marks : (l : Layout) (n mark : ℕ) (w : List ℕ) (v : Place) (j : ℕ) → n < reference_room → Whole w
    → mark < 65536 → (mark ≡ 0 → ⊥) → place_told l mark ≡ v → label w n ≡ 0
    → marked l (labelled n mark w) j
    ≡ first_of (marked l w j) (lookup j (record { reference = n; place = v } ∷ []))
unfolding lookup first_of
label_marks l n mark w v j h whole small some_mark told bare =
    marked_labelled l n mark w j h whole small some_mark ∙ go (eqb j n) refl
  where
    go : (b : Bool) → eqb j n ≡ b
        → choose b (some (place_told l mark)) (marked l w j) ≡ first_of (marked l w j) (choose b (some v) none)
    go true e = rw (told, marked_none l w j (ap (label w) (eqb-true j n e) ∙ bare))
    go false e = sym (first_none (marked l w j))

module _ (l : Layout) (own : ℕ → ℕ) (u : Words) (c : Clean u) where
  -- a reference that is the part's own, or drawn by it
  pub label_writes : (n mark : ℕ) (v : Place) → u.tally.fresh ≤ reference_room → n < u.tally.fresh
      → label u.nodes n ≡ 0 → mark < 65536 → (mark ≡ 0 → ⊥) → place_told l mark ≡ v → u.tally.nodes < 4096
      → ((j : ℕ) → j < u.tally.fresh → own j ≡ 0 → j ≡ n → ⊥)
      → Writes l own u (label_to n mark u) (one_label n v)
  unfolding one_node
  label_writes n mark v room drawn_there bare small some_mark told few apart = record {
    more = omega arith;
    nodes_counted = capped_below (u.tally.nodes + 1) (omega arith);
    arcs_counted = omega arith;
    meetings_counted = omega arith;
    met_counted = omega arith;
    labels_are = λ j.
        label_marks l n mark u.nodes v j (omega arith) c.whole_nodes small some_mark told bare;
    lasting = labelled_lasting n mark u.nodes bare;
    apart = λ j h e. labelled_same n mark u.nodes j (apart j h e);
    later = λ j h. labelled_same n mark u.nodes j (λ e. omega arith);
    arcs_are = nothing_more _;
    meetings_are = nothing_more _;
    met_are = λ i k e. nodes_none u.track i k;
    long_nodes = labelled_whole n mark u.nodes c.whole_nodes ∙ sym c.whole_nodes;
    long_track = refl;
  }

  -- an arc to the fresh reference, and words that change only there, and not by a label
  module _ (n : ℕ) (w : List ℕ) (drawn_there : n < u.tally.fresh) (room : u.tally.fresh < reference_room)
      (few : u.tally.arcs < 8192) where
    way_writes : ((j : ℕ) → label w j ≡ label u.nodes j) → Lasting u.nodes w
        → ((j : ℕ) → (j ≡ u.tally.fresh → ⊥) → Same u.nodes w j) → length w ≡ length u.nodes
        → Writes l own u
        (record {
          tally = drawn (one_arc u.tally);
          nodes = w;
          track = with_arc n u.tally.fresh u.tally.arcs u.track;
        })
        (one_way n u.tally.fresh)
    unfolding one_arc drawn lookup
    way_writes labels lasts same long =
        let k = u.tally in
        let up : capped (k.fresh + 1) ≡ k.fresh + 1 = capped_below (k.fresh + 1) (omega arith) in
        let one_more : capped (k.arcs + 1) ≡ k.arcs + 1 = capped_below (k.arcs + 1) (omega arith) in
        record {
          more = omega (arith, up);
          nodes_counted = omega arith;
          arcs_counted = one_more;
          meetings_counted = omega arith;
          met_counted = omega arith;
          labels_are = λ j. marked_same l u.nodes w j (labels j) ∙ sym (first_none _);
          lasting = lasts;
          apart = λ j h e. same j (λ q. omega arith);
          later = λ j h. same j (λ q. omega (arith, up));
          arcs_are =
              ap (arcs_of (with_arc n k.fresh k.arcs u.track)) one_more
              ∙ arc_added n k.fresh k.arcs u.track c.whole_track few (omega arith) (omega arith);
          meetings_are = arc_keeps_meetings n k.fresh k.arcs u.track _ ∙ nothing_more _;
          met_are = λ i m e. arc_keeps_nodes n k.fresh k.arcs u.track i _ ∙ nodes_none u.track i m;
          long_nodes = long;
          long_track = arc_length n k.fresh k.arcs u.track;
        }

  module _ (n : ℕ) (drawn_there : n < u.tally.fresh) (room : u.tally.fresh < reference_room)
      (few : u.tally.arcs < 8192) where
    pub arc_writes : Writes l own u (arc_to n u) (one_way n u.tally.fresh)
    arc_writes = way_writes n u.nodes drawn_there room few (λ j. refl)
        (words_lasting u.nodes u.nodes (λ i j h e. refl)) (λ j h i e. refl) refl

    pub draw_writes : (s t f : ℕ) → Writes l own u (draw_to n s t f u) (one_way n u.tally.fresh)
    draw_writes s t f =
        let m = u.tally.fresh in
        let w = u.nodes in
        way_writes n (standing m s t f w) drawn_there room few
        (λ j. standing_elsewhere m s t f w 0 j (omega arith) (λ e h. absurd (omega arith)))
        (standing_lasting m s t f w (c.clean m 0 (omega arith) (omega arith)))
        (standing_same m s t f w)
        (standing_whole m s t f w c.whole_nodes ∙ sym c.whole_nodes)

  -- an event node
  pub keep_writes : (n : ℕ) → n < 65536 → u.tally.arcs ≤ 8192 → u.tally.meetings ≤ 4096
      → u.tally.met < 4096 → Writes l own u (keep_to n u) (one_kept n)
  unfolding one_met lookup
  keep_writes n small arcs meetings few =
      let k = u.tally in
      record {
        more = omega arith;
        nodes_counted = omega arith;
        arcs_counted = omega arith;
        meetings_counted = omega arith;
        met_counted = capped_below (k.met + 1) (omega arith);
        labels_are = λ j. sym (first_none _);
        lasting = words_lasting u.nodes u.nodes (λ i j h e. refl);
        apart = λ j h e i s. refl;
        later = λ j h i s. refl;
        arcs_are = met_keeps_arcs n k.met u.track k.arcs arcs ∙ nothing_more _;
        meetings_are = met_keeps_meetings n k.met u.track k.meetings meetings ∙ nothing_more _;
        met_are = met_added n k.met u.track c.whole_track few small;
        long_nodes = refl;
        long_track = met_length n k.met u.track;
      }

-- what is whole and clean stays so
pub clean_after : (l : Layout) (own : ℕ → ℕ) (u v : Words) (a : Added) → Clean u → Writes l own u v a → Clean v
clean_after l own u v a c w = record {
  whole_nodes = w.long_nodes ∙ c.whole_nodes;
  whole_track = w.long_track ∙ c.whole_track;
  clean = λ j i h e. w.later j h i e ∙ c.clean j i (omega (arith, h, w.more)) e;
}

-- and arcs climb, where those that are added do
pub sound_after : (l : Layout) (own : ℕ → ℕ) (u v : Words) (a : Added) → Sound u → Writes l own u v a
    → Up v.tally.fresh a.arcs → Sound v
sound_after l own u v a s w up =
    let c = clean_after l own u v a (sound_clean u s) w in
    let g = arcs_of u.track u.tally.arcs in
    record {
      whole_nodes = c.whole_nodes;
      whole_track = c.whole_track;
      clean = c.clean;
      up = rw w.arcs_are (up_append _ g a.arcs (up_more _ _ g w.more s.up) up);
    }

-- a label and an arc to a fresh reference, as a step that labels once and draws once writes
module _ (l : Layout) (own : ℕ → ℕ) (u : Words) (c : Clean u) (n mark : ℕ) (v : Place)
    (drawn_there : n < u.tally.fresh) (room : u.tally.fresh < reference_room)
    (bare : label u.nodes n ≡ 0) (small : mark < 65536) (some_mark : mark ≡ 0 → ⊥)
    (told : place_told l mark ≡ v) (few_nodes : u.tally.nodes < 4096) (few_arcs : u.tally.arcs < 8192)
    (apart : (j : ℕ) → j < u.tally.fresh → own j ≡ 0 → j ≡ n → ⊥) where
  abbrev marked_to : Words
  marked_to = label_to n mark u

  labels_first : Writes l own u marked_to (one_label n v)
  labels_first =
      label_writes l own u c n mark v (omega arith) drawn_there bare small some_mark told few_nodes apart

  marked_clean : Clean marked_to
  marked_clean = clean_after l own u marked_to _ c labels_first

  pub on_writes : (s t f : ℕ) → Writes l own u (on_to n mark s t f u) (one_on n v u.tally.fresh)
  unfolding one_node
  on_writes s t f = behind l own own u marked_to (on_to n mark s t f u) _ _ (λ j h e. e) labels_first
      (draw_writes l own marked_to marked_clean n drawn_there room few_arcs s t f)

  -- where nothing comes to stand there
  pub on_arc_writes : Writes l own u (arc_to n (label_to n mark u)) (one_on n v u.tally.fresh)
  unfolding one_node
  on_arc_writes = behind l own own u marked_to (arc_to n marked_to) _ _ (λ j h e. e) labels_first
      (arc_writes l own marked_to marked_clean n drawn_there room few_arcs)

-- a planned number is a term's, and the plan tells the sequence around it
module _ (l : Layout) (p x : List ℕ) where
  planned_kind : (i o : ℕ) (t : Term) → Planned l p x i o t → kind p i ≡ 0 → ⊥
  unfolding leaf_kind operator_kind
  planned_kind i o (Term.leaf (call n)) h e = omega (arith, h.0, e)
  planned_kind i o (Term.leaf SKIP) h e = omega (arith, h.0, e)
  planned_kind i o (Term.leaf STOP) h e = omega (arith, h.0, e)
  planned_kind i o (Term.prefix k t) h e = omega (arith, h.0, e)
  planned_kind i o (Term.binary Term.internal t u) h e = omega (arith, h.0, e)
  planned_kind i o (Term.binary external t u) h e = omega (arith, h.0, e)
  planned_kind i o (Term.binary Term.sequence t u) h e = omega (arith, h.0, e)
  planned_kind i o (Term.binary (parallel s) t u) h e = omega (arith, h.0, e)

  pub planned_below : (i o : ℕ) (t : Term) → Planned l p x i o t → i < term_room
  planned_below i o t h = go (ltb i term_room) refl
    where
      go : (b : Bool) → ltb i term_room ≡ b → i < term_room
      go true e = ltb-true i term_room e
      go false e = absurd (planned_kind i o t h (sym (word_out 0 p i (ltb-false i term_room e))))

  planned_around : (i o : ℕ) (t : Term) → Planned l p x i o t → around p i ≡ o
  planned_around i o (Term.leaf f) h = h.1
  planned_around i o (Term.prefix k t) h = h.1
  planned_around i o (Term.binary q t u) h = h.1

-- what a plan tells of an untouched process, by its form
module _ (l : Layout) (p x w : List ℕ) (i o : ℕ) where
  abbrev pub Formed : Process → Type 0
  Formed (leaf v f) = (l.place i ≡ v) × (kind p i ≡ leaf_kind f) × Leads l p i f
  Formed (prefix v e P) =
      (l.place i ≡ v) × (kind p i ≡ Kind.prefix) × (operand p i ≡ e) × (e < event_room)
      × (l.event i ≡ below v 1) × Untouched l p x w (suc i) o P
  Formed (internal v P Q) =
      (l.place i ≡ v) × (kind p i ≡ Kind.internal) × Untouched l p x w (suc i) o P
      × Untouched l p x w (second p i) o Q
  Formed (split v k none none P Q) =
      (l.place i ≡ v) × (kind p i ≡ split_kind k) × (get_or x i 0 ≡ split_set k) × Untouched l p x w (suc i) 0 P
      × Untouched l p x w (second p i) 0 Q
  Formed (split v k none (some n) P Q) = ⊥
  Formed (split v k (some m) n P Q) = ⊥
  Formed (sequence v false P Q) =
      (l.place i ≡ v) × (kind p i ≡ Kind.sequence) × Untouched l p x w (suc i) (suc i) P
      × Untouched l p x w (second p i) o Q
  Formed (sequence v true P Q) = ⊥
  Formed Ω = ⊥
  Formed ⊥' = ⊥

  tree_there : (j m : ℕ) {v : Place} (t : Term) → l.place j ≡ v → Planned l p x j m t
      → Untouched l p x w j m (untouched v t)
  tree_there j m t e h = record { tree = t; is = rw e; planned = h }

  tree_formed : (t : Term) → Planned l p x i o t → Formed (untouched (l.place i) t)
  unfolding untouched joined operator_kind operator_payload split_kind split_set first_around second_around
  tree_formed (Term.leaf f) h = (refl, h.0, h.2)
  tree_formed (Term.prefix e t) h = (refl, h.0, h.2, h.3, h.4, tree_there (suc i) o t h.5 h.6)
  tree_formed (Term.binary Term.internal t u) h =
      (refl, h.0, tree_there (suc i) o t h.3 h.5, tree_there (second p i) o u h.4 h.6)
  tree_formed (Term.binary external t u) h =
      (refl, h.0, h.2, tree_there (suc i) 0 t h.3 h.5, tree_there (second p i) 0 u h.4 h.6)
  tree_formed (Term.binary Term.sequence t u) h =
      (refl, h.0, tree_there (suc i) (suc i) t h.3 h.5, tree_there (second p i) o u h.4 h.6)
  tree_formed (Term.binary (parallel s) t u) h =
      (refl, h.0, h.2, tree_there (suc i) 0 t h.3 h.5, tree_there (second p i) 0 u h.4 h.6)

  pub untouched_below : (P : Process) → Untouched l p x w i o P → i < term_room
  untouched_below P u = planned_below l p x i o u.tree u.planned

  pub untouched_around : (P : Process) → Untouched l p x w i o P → around p i ≡ o
  untouched_around P u = planned_around l p x i o u.tree u.planned

  pub untouched_formed : (P : Process) → Untouched l p x w i o P → Formed P
  untouched_formed P u = subst Formed (sym u.is) (tree_formed u.tree u.planned)

module _ (l : Layout) (p x w : List ℕ) where
  -- what rests is held
  rests_tree : (n b : ℕ) (ks : List ℕ) (v : Place) (t : Term) → Rests l p x w n b ks (untouched v t)
      → HoldsControl l p x w n b (untouched v t) ks
  unfolding untouched joined
  rests_tree n b ks v (Term.leaf f) r = r
  rests_tree n b ks v (Term.prefix e t) r = r
  rests_tree n b ks v (Term.binary Term.internal t u) r = r
  rests_tree n b ks v (Term.binary external t u) r = r
  rests_tree n b ks v (Term.binary Term.sequence t u) r = r
  rests_tree n b ks v (Term.binary (parallel s) t u) r = r

  pub rests_holds : (n b : ℕ) (ks : List ℕ) (P : Process) → Rests l p x w n b ks P → HoldsControl l p x w n b P ks
  rests_holds n b ks P r =
      let u = r.untouched_there in
      subst (λ R. HoldsControl l p x w n b R ks) (sym u.is)
      (rests_tree n b ks _ u.tree (subst (Rests l p x w n b ks) u.is r))

  pub single_cell : (i o : ℕ) (P : Process) → Untouched l p x w i o P → cells P ≡ 1
  single_cell i o P u = ap cells u.is ∙ untouched_cells (l.place i) u.tree

  -- what comes to stand at reference m
  module _ (m t f b : ℕ) (ks : List ℕ) (room : m < reference_room) (whole : Whole w) (small : t < 65536)
      (framed : f < m) (within : b < m) where
    pub new_stands : (s : ℕ) → s < 65536 → Around p (standing m s t f w) t f b ks
        → Stands l p x (standing m s t f w) m b ks
    new_stands s h a =
        let there = standing_there m s t f w room whole h small (omega arith) in
        record {
          within = within;
          framed = rw there.frame_is framed;
          chain = rw (there.term_is, there.frame_is) a;
        }

    pub new_rests : (P : Process) → label w m ≡ 0 → Around p (standing m resting t f w) t f b ks
        → Untouched l p x w t (around p t) P → Rests l p x (standing m resting t f w) m b ks P
    new_rests P bare a u =
        let there = standing_there m resting t f w room whole (omega arith) small (omega arith) in
        record {
          stands = new_stands resting (omega arith) a;
          rests = there.state_is;
          bare = standing_elsewhere m resting t f w 0 m (omega arith) (λ e h. absurd (omega arith)) ∙ bare;
          untouched_there = rw there.term_is (untouched_told l p x w _ t (around p t) P u);
        }
