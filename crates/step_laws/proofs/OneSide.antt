-- One side's step, and a choice or parallel that stays. The side's step touches neither the split's reference
-- nor the other side, which are held beside it; so behind it the split is entered as before, with the side's
-- new reference and cells. `Closes` is what the words come to before the sequences around the split see its
-- event. Assumes nothing.
use Rattle.std.proofs.Common.{ℕ, suc, ◌+◌, ◌-◌, ◌≤◌, ◌<◌, ◌≡◌, refl, sym, ap, ◌∙◌, true, List, [], arith}
use Rattle.std.proofs.Common.{length}
use Rattle.std.proofs.Math.Option.{Option, some}
use Rattle.terms.specs.Term.{Term}
use Rattle.places.specs.Place.{Place}
use Rattle.rules.specs.declared.Event.{Event}
use Rattle.rules.specs.declared.Event.TheVariants.{Tau as τ, Tick as ✓, Visible as visible}
use Rattle.rules.specs.Process.{Address, Split, Process, cells}
use Rattle.rules.specs.Track.{Entered, Outcome, first_eval, around}
use Rattle.rules.specs.Step.{Stepped}
use Rattle.rules.proofs.Marked.{one, one_same, past, past_most, past_drawn, marked}
use Rattle.rules.proofs.Holding.{held, side_held, holding}
use Rattle.plans.specs.words.Plan.{Layout, kind}
use Rattle.control.specs.words.Words.{node}
use Rattle.control.specs.words.Control.{term, frame, split_kind, Splits}
use Rattle.control.proofs.Framed.{Same, Lasts, Lasting, lasting_then, holds_framed}
use Rattle.control.specs.words.Sums.{capped}
use Rattle.weights.specs.code.Rules.{stays, shown}
use Rattle.sides.specs.code.Sides.{put_side}
use Rattle.sides.specs.code.Sides as Sides
use Rattle.leaves.specs.code.Leaves.{Done, with_words, come, settled, by_event}
use Rattle.step_laws.proofs.TrackLoops.{capped_below}
use Rattle.step_laws.proofs.NodeViews.{put_side_whole, put_side_there, put_side_elsewhere}
use Rattle.step_laws.proofs.NodeViews.{put_side_same, put_side_lasting}
use Rattle.step_laws.proofs.Writing.{Words, followed, Writes, behind}
use Rattle.step_laws.proofs.Going.{at_words, words_of, added, Sound, Goes, Ends}
use Rattle.step_laws.proofs.Parts.{sound_after}
use Rattle.step_laws.proofs.Drawing.{side_entered, past_less}
use Rattle.step_laws.proofs.Opening.{Side, left, right, number, is_side, opposite, pick, frame_in}
use Rattle.step_laws.proofs.Opening.{split_by, Opened, Entry, split_by_held, split_by_cells}
use Rattle.step_laws.proofs.Opening.{opened_held}
use Rattle.step_laws.proofs.Entering.{opposite_other, writes_at, opened_on, enter_to, entering}
use Rattle.step_laws.proofs.Entering.{side_cells}
use Rattle.step_laws.proofs.Starting.{Starts, start_derived, start_fit, start_drawn, start_draws}
use Rattle.step_laws.proofs.Starting.{start_enters}

-- the words once the split has the side's reference and cells
abbrev pub put_to : Side → ℕ → Done → Words
put_to s n d = record {
  tally = d.taken.tally;
  nodes = put_side n (number s) d.taken.reference d.taken.size d.nodes;
  track = d.track;
}

module _ (l : Layout) (p x : List ℕ) (count : ℕ) (ts : List Term) (s : Side) (n b : ℕ) (ks : List ℕ) (v : Place)
    (k : Split) (m o : Option ℕ) (P Q : Process) (c : ℕ) (a : Address) (u : Words) (y : Stepped)
    (d : Done) where
  -- a side's step, that the words go through once the side is entered
  pub record Turns : Type 0 where
    pub starts : Starts l p x count ts s n b ks v k m o P Q c a u y
    pub goes : Goes l p x count (first_eval m (some c) v (at_words n u)).reference
        (frame_in p u.nodes k n) P
        (enter_to p s n (frame_in p u.nodes k n) u) y d

-- what the words come to, as a part's step before the sequences around it see its event
pub record Closes (l : Layout) (p x : List ℕ) (count n b : ℕ) (ks : List ℕ) (R : Process) (u : Words)
    (y : Stepped)
    (code : Done) : Type 0 where
  pub done : Done
  pub ends : Ends l p x count n b (term u.nodes n) (frame u.nodes n) ks R u y done
  pub is : code ≡ settled p done.taken (term u.nodes n) (frame u.nodes n) b done.nodes done.track

-- sequences let a step that does not end be
pub settled_still : (p : List ℕ) (d : Done) (t f b : ℕ) (e : Event) → (e ≡ ✓ → ⊥) → d.taken.event ≡ e
    → d ≡ settled p d.taken t f b d.nodes d.track
unfolding settled by_event
settled_still p d t f b τ n e = rw e
settled_still p d t f b ✓ n e = absurd (n refl)
settled_still p d t f b (visible a) n e = rw e

-- the cells of the other side
pub other_cells : (l : Layout) (p x w : List ℕ) (s : Side) (n b : ℕ) (ks : List ℕ) (v : Place) (k : Split)
    (P Q : Process)
    → Splits l p x w n b ks v k (pick s P Q) (pick s Q P) → node (8 - number s) w n ≡ cells Q
other_cells l p x w left n b ks v k P Q h = h.right_cells
other_cells l p x w right n b ks v k P Q h = h.left_cells

module _ {l : Layout} {p x : List ℕ} {count : ℕ} {ts : List Term} {s : Side} {n b : ℕ} {ks : List ℕ} {v : Place}
    {k : Split} {m o : Option ℕ} {P Q : Process} {c : ℕ} {a : Address} {u : Words} {y : Stepped} {d : Done}
    (h : Turns l p x count ts s n b ks v k m o P Q c a u y d) where
  abbrev i : Entered
  i = first_eval m (some c) v (at_words n u)

  abbrev u' : Words
  u' = enter_to p s n (frame_in p u.nodes k n) u

  abbrev r : Outcome
  r = y.outcome

  abbrev put_there : Words
  put_there = put_to s n d

  -- what the side's step holds anew it draws
  turn_holds : (j : ℕ) → held j r.reference r.process + past j i.fresh
      ≤ held j i.reference P + past j r.fresh
  turn_holds j = holding ts (start_derived h.starts).2 (start_fit h.starts) j

  -- its split and the other side are held beside it
  turn_once : (j : ℕ) → one j n + held j i.reference P + side_held j o Q ≤ past j i.fresh
  unfolding side_held
  turn_once j = rw (start_enters h.starts).fresh_is at ((start_enters h.starts).entry.once j)

  still_drawn : n < i.fresh
  still_drawn = past_drawn n i.fresh (omega (arith, turn_once n, one_same n n refl))

  apart_same : (j : ℕ) → 1 ≤ one j n + side_held j o Q → Same u'.nodes d.nodes j
  apart_same j e =
      let once = turn_once j in
      let below : j < i.fresh = past_drawn j i.fresh (omega arith) in
      h.goes.matches.writes.apart j (rw (start_enters h.starts).fresh_is below)
      (omega (arith, past_most j i.fresh))

  turn_same : Same u'.nodes d.nodes n
  turn_same = apart_same n (omega (arith, one_same n n refl))

  -- what the side's step holds is not the split's
  turn_apart : (j : ℕ) → 1 ≤ held j r.reference r.process → j ≡ n → ⊥
  turn_apart j e q =
      omega (
        arith,
        turn_holds j,
        turn_once j,
        one_same j n q,
        past_most j r.fresh,
        past_most j i.fresh,
        past_less j i.fresh (rw q still_drawn),
      )

  turn_sound : Sound (words_of d)
  turn_sound = sound_after l _ u' (words_of d) (added r) (start_enters h.starts).entry.sound
      h.goes.matches.writes
      (rw h.goes.matches.fresh_is (start_draws h.starts).up)

  -- the split's words, once it has the side's reference and cells
  put_word : (j : ℕ) → j < 8 → (j ≡ 3 + number s → ⊥) → (j ≡ 5 + number s → ⊥)
      → node j put_there.nodes n ≡ node j u'.nodes n
  put_word j e q q' =
      put_side_elsewhere n (number s) _ _ d.nodes (is_side s) j n e (λ _. q) (λ _. q') ∙ turn_same j e

  put_keeps : Lasting d.nodes put_there.nodes
  put_keeps = put_side_lasting n (number s) _ _ d.nodes (is_side s)

  put_beside : (j : ℕ) → (j ≡ n → ⊥) → Same d.nodes put_there.nodes j
  put_beside = put_side_same n (number s) _ _ d.nodes (is_side s)

  put_opened : Opened l p x put_there.nodes s n b ks v k (some r.reference) o r.process Q
  put_opened =
      let side = is_side s in
      let across = is_side (opposite s) in
      let on = start_enters h.starts in
      let done = h.goes.matches in
      let there = put_side_there n (number s) d.taken.reference d.taken.size d.nodes side
      (omega (arith, still_drawn, (start_draws h.starts).more, h.starts.fresh_fits))
      turn_sound.whole_nodes
      (omega (arith, done.reference_is, (start_draws h.starts).stands, h.starts.fresh_fits))
      (omega (arith, h.goes.size_is, h.starts.cells_fit)) in
      opened_on l p x u'.nodes put_there.nodes
      (lasting_then u'.nodes d.nodes put_there.nodes done.writes.lasting put_keeps)
      s n b ks v k (some i.reference) o P Q on.entry.there
      (λ j e. put_word j (omega arith) (λ q. omega arith) (λ q. omega arith))
      (put_word (3 + number (opposite s)) (omega arith) (λ q. opposite_other s (omega arith))
      (λ q. omega arith))
      (put_word (5 + number (opposite s)) (omega arith) (λ q. omega arith)
      (λ q. opposite_other s (omega arith)))
      (λ j e q z. put_beside j (λ w. omega (arith, e, one_same j n w, turn_once j, past_most j i.fresh)) q z
      ∙ apart_same j (omega (arith, e)) q z)
      (some r.reference) r.process (there.1 ∙ h.goes.size_is) (
        there.0 ∙ done.reference_is,
        rw on.frame_is (holds_framed l p x d.nodes put_there.nodes put_keeps
            r.reference _ r.process [] (λ j e. put_beside j (turn_apart j e)) h.goes.holds),
      )

  -- so the split is entered with the side's outcome in place of the side
  pub put_entry : Entry l p x count s n b ks v k (some r.reference) o r.process Q put_there
  unfolding side_held
  put_entry =
      let fresh_is = h.goes.matches.fresh_is in
      record {
        sound = record {
          whole_nodes = put_side_whole n (number s) _ _ d.nodes (is_side s) turn_sound.whole_nodes;
          whole_track = turn_sound.whole_track;
          clean = λ j q e w.
              put_beside j (λ z. omega (arith, z, e, still_drawn, (start_draws h.starts).more, fresh_is)) q w
              ∙ turn_sound.clean j q e w;
          up = turn_sound.up;
        };
        there = put_opened;
        own_fit = (marked ts (start_derived h.starts).2 (start_fit h.starts)).fit;
        other_fit = h.starts.entry.other_fit;
        once = λ j. rw fresh_is (omega (arith, turn_once j, turn_holds j));
      }

  module _ (own : ℕ → ℕ) (is_own : own n ≡ 0 → ⊥)
      (covers : (j : ℕ) → own j ≡ 0 → side_held j m P ≡ 0) where
    pub turn_writes : Writes l own u (words_of d) (followed (entering i) (added r))
    turn_writes = behind l own (λ j. held j i.reference P) u u' (words_of d) (entering i) (added r)
        (λ j e q. omega (
          arith,
          covers j q,
          side_entered m (some c) v (at_words n u) P h.starts.entry.own_fit j,
          past_less j u.tally.fresh e,
          past_most j i.fresh,
        ))
        ((start_enters h.starts).writes own is_own) h.goes.matches.writes

    pub turn_puts : Writes l own u put_there (followed (entering i) (added r))
    turn_puts =
        let side = is_side s in
        let z = d.nodes in
        let e = d.taken.reference in
        let g = d.taken.size in
        writes_at l own u (words_of d) (followed (entering i) (added r)) n put_there.nodes is_own
        (start_drawn h.starts)
        (put_side_lasting n (number s) e g z side)
        (λ j. put_side_elsewhere n (number s) e g z side 0 j (omega arith) (λ _ q. omega arith)
        (λ _ q. omega arith))
        (put_side_same n (number s) e g z side)
        (put_side_whole n (number s) e g z side turn_sound.whole_nodes ∙ sym turn_sound.whole_nodes)
        turn_writes

  -- the split itself, of which its term and frame last
  abbrev pub whole : Process
  whole = split_by s v k m o P Q

  pub was_splits : Splits l p x u.nodes n b ks v k (pick s P Q) (pick s Q P)
  was_splits = h.starts.entry.there.splits

  pub last_term : Lasts u.nodes d.nodes n
  last_term = (turn_writes (λ j. 1) (λ e. omega arith) (λ j e. absurd (omega arith))).lasting n
      was_splits.marked

  put_term : Lasts u.nodes put_there.nodes n
  put_term = (turn_puts (λ j. 1) (λ e. omega arith) (λ j e. absurd (omega arith))).lasting n was_splits.marked

  pub still_kind : kind p (term d.nodes n) ≡ split_kind k
  still_kind = ap (kind p) last_term.term_lasts ∙ was_splits.kind_is

  whole_own : held n n whole ≡ 0 → ⊥
  whole_own e = omega (arith, e, split_by_held s n n v k m o P Q, one_same n n refl)

  whole_covers : (j : ℕ) → held j n whole ≡ 0 → side_held j m P ≡ 0
  whole_covers j e = omega (arith, e, split_by_held s j n v k m o P Q)

  pub whole_writes : Writes l (λ j. held j n whole) u (words_of d) (followed (entering i) (added r))
  whole_writes = turn_writes (λ j. held j n whole) whole_own whole_covers

  pub whole_puts : Writes l (λ j. held j n whole) u put_there (followed (entering i) (added r))
  whole_puts = turn_puts (λ j. held j n whole) whole_own whole_covers

  -- what the split's code comes to, where size is that of the split inside its sequences
  abbrev pub one_code : ℕ → Done
  one_code size =
      Sides.one p n (number s) b size (node (5 + number s) u.nodes n) (node (8 - number s) u.nodes n)
      d.taken
      d.nodes d.track

  -- a split that stays
  abbrev pub stayed : Event → Stepped
  stayed e = record {
    outcome = around i r e (split_by s v k (some r.reference) o r.process Q) n;
    unused = y.unused;
  }

  module _ (size : ℕ) (is_size : size ≡ length ks + suc (cells P + cells Q)) (few : size ≤ 4096) where
    abbrev stayed_done : Event → Done
    stayed_done e = with_words
        (come e n (capped (size - node (5 + number s) u.nodes n + d.taken.size)) d.taken.at
        d.taken.tally)
        put_there.nodes d.track

    stays_ends : (e : Event) → (e ≡ ✓ → ⊥)
        → Ends l p x count n b (term u.nodes n) (frame u.nodes n) ks whole u (stayed e) (stayed_done e)
    unfolding around
    stays_ends e n✓ =
        let entry = put_entry in
        let grown = split_by_cells s v k (some r.reference) o r.process Q tt in
        let was = side_cells l p x u.nodes s n b ks v k P Q was_splits in
        let sum : size - node (5 + number s) u.nodes n + d.taken.size
        ≡ length ks + cells (split_by s v k (some r.reference) o r.process Q) =
        omega (arith, is_size, was, grown, h.goes.size_is) in
        record {
          matches = record {
            writes = whole_puts;
            fresh_is = h.goes.matches.fresh_is;
            event_is = refl;
            reference_is = refl;
            at_is = h.goes.matches.at_is;
          };
          size_is = capped_below _ (omega (arith, was, h.goes.size_is, h.starts.cells_fit, few)) ∙ sum;
          chain = rw (put_term.term_lasts, put_term.frame_lasts) at entry.there.splits.stands.chain;
          goes_on = λ _. opened_held l p x put_there.nodes n b ks v k s (some r.reference) o
              r.process Q tt entry.there;
          at_Ω = λ q. absurd (n✓ q);
          Ω-there = λ q. absurd (n✓ q);
        }

    pub stays_closes : (e : Event) → stays (split_kind k) r.event ≡ true
        → shown (split_kind k) r.event ≡ e → (e ≡ ✓ → ⊥)
        → Closes l p x count n b ks whole u (stayed e) (one_code size)
    unfolding Sides.one
    stays_closes e it_stays it_shows n✓ = record {
      done = stayed_done e;
      ends = stays_ends e n✓;
      is = rw (still_kind, h.goes.matches.event_is, it_stays, it_shows)
          (settled_still p (stayed_done e) _ _ b e n✓ refl);
    }
