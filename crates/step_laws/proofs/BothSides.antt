-- Both sides of a parallel step on one event: the left's step, and the right's from the words that it leaves,
-- in which the right is as it was and the parallel has the left's outcome; then each event node of the left's
-- meets each of the right's, which the track has behind one another. Assumes nothing.
use Rattle.std.proofs.Common.{ℕ, zero, suc, ◌+◌, ◌*◌, ◌-◌, ◌≤◌, ◌≡◌, refl, sym, ap, subst, ◌∙◌, List, [], ◌∷◌}
use Rattle.std.proofs.Common.{◌++◌, append_assoc, arith, length, length-append}
use Rattle.std.proofs.Math.Option.{Option, some}
use Rattle.terms.specs.Term.{Term}
use Rattle.places.specs.Place.{Place}
use Rattle.rules.specs.declared.Event.TheVariants.{Visible as visible}
use Rattle.rules.specs.Process.{Address, together, Process, split, cells}
use Rattle.rules.specs.Track.{Pair, At, Entered, Outcome, first_eval, beside, meet, jointly}
use Rattle.rules.specs.Step.{Stepped}
use Rattle.rules.proofs.Marked.{one_same}
use Rattle.rules.proofs.Holding.{held, split_held}
use Rattle.plans.specs.words.Plan.{Layout}
use Rattle.control.specs.words.Words.{node, event_node}
use Rattle.control.specs.words.Control.{term, frame}
use Rattle.control.specs.words.Sums.{capped}
use Rattle.drawing.specs.code.Drawing.{Kept, met_all}
use Rattle.control.specs.words.Views.{arcs_of, meetings_of, event_nodes}
use Rattle.leaves.specs.code.Leaves.{Done, with_words, come}
use Rattle.sides.specs.code.Sides.{both}
use Rattle.step_laws.proofs.TrackLaws.{meeting}
use Rattle.step_laws.proofs.TrackLoops.{capped_below, Told, told_whole, told_keeps_nodes}
use Rattle.step_laws.proofs.TrackLoops.{told_keeps_arcs, told_length, meetings_due, met_all_told}
use Rattle.step_laws.proofs.Writing.{Words, Added, followed, Writes, behind}
use Rattle.step_laws.proofs.Going.{at_words, added, Fits, Ends}
use Rattle.step_laws.proofs.Drawing.{below_more}
use Rattle.step_laws.proofs.Opening.{left, right, Entry, entry_turned, opened_held, split_by_cells}
use Rattle.step_laws.proofs.Entering.{entering}
use Rattle.step_laws.proofs.Starting.{start_draws}
use Rattle.step_laws.proofs.OneSide.{Closes, settled_still, put_to, Turns, put_entry, turn_puts}
use Rattle.step_laws.proofs.OneSide.{was_splits, whole_puts}

-- event nodes that are two lists in a row are the one and then the other
event_nodes_parts : (g : List ℕ) (i c e : ℕ) (xs ys : List ℕ) → length xs ≡ c → event_nodes g i (c + e)
    ≡ xs ++ ys
    → (event_nodes g i c ≡ xs) × (event_nodes g (i + c) e ≡ ys)
unfolding event_nodes
event_nodes_parts g i zero e [] ys h q =
    let at_start : i + 0 ≡ i = omega arith in
    let none_before : 0 + e ≡ e = omega arith in
    (refl, rw at_start (rw none_before at q))
event_nodes_parts g i zero e (x ∷ xs) ys h q = absurd (omega arith)
event_nodes_parts g i (suc c) e [] ys h q = absurd (omega arith)
event_nodes_parts g i (suc c) e (x ∷ xs) ys h q =
    let next : suc c + e ≡ suc (c + e) = omega arith in
    let further : i + suc c ≡ suc i + c = omega arith in
    let both_lists : event_node i g ∷ event_nodes g (suc i) (c + e) ≡ x ∷ (xs ++ ys) = rw next at q in
    let here : event_node i g ≡ x = cc in
    let behind_it : event_nodes g (suc i) (c + e) ≡ xs ++ ys = cc in
    let (before, after) = event_nodes_parts g (suc i) c e xs ys (omega arith) behind_it in
    (rw (here, before), rw further after)

-- meetings behind what a part writes
meetings_behind : (l : Layout) (own : ℕ → ℕ) (u v : Words) (a : Added) (m : Kept) (ps : List Pair)
    → v.tally.arcs ≤ 8192
    → Writes l own u v a → Told meeting v.tally v.track m ps
    → Writes l own u (record { tally = m.tally; nodes = v.nodes; track = m.track })
    (record { labels = a.labels; arcs = a.arcs; meetings = a.meetings ++ ps; met = a.met })
meetings_behind l own u v a m ps room w t = record {
  more = rw t.tally w.more;
  nodes_counted = rw t.tally w.nodes_counted;
  arcs_counted = rw t.tally w.arcs_counted;
  meetings_counted = rw t.tally (omega (arith, w.meetings_counted, length-append a.meetings ps));
  met_counted = rw t.tally w.met_counted;
  labels_are = w.labels_are;
  lasting = w.lasting;
  apart = w.apart;
  later = λ j h. w.later j (rw t.tally at h);
  arcs_are = rw t.tally (told_keeps_arcs t v.tally.arcs room ∙ w.arcs_are);
  meetings_are =
      told_whole t ∙ ap (λ ms. ms ++ ps) w.meetings_are
      ∙ append_assoc (meetings_of u.track u.tally.meetings) a.meetings ps;
  met_are = λ i c e. told_keeps_nodes t i (c + length a.met) ∙ w.met_are i c e;
  long_nodes = w.long_nodes;
  long_track = told_length t ∙ w.long_track;
}

module _ {l : Layout} {p x : List ℕ} {count : ℕ} {ts : List Term} {n b : ℕ} {ks : List ℕ} {v : Place} {f : ℕ}
    {m o : Option ℕ} {P Q : Process} {c : ℕ} {a : Address} {u : Words} {y : Stepped} {d : Done}
    (h : Turns l p x count ts left n b ks v (together f) m o P Q c a u y d) where
  -- the words that the left's step leaves, and where the parallel stands then
  abbrev pub between : Words
  between = put_to left n d

  pub right_entry : Entry l p x count right n b ks v (together f) o (some y.outcome.reference) Q
      y.outcome.process between
  right_entry = entry_turned l p x count n b ks v (together f) between left (some y.outcome.reference) o
      y.outcome.process Q
      (put_entry h)

  pub right_stands : at_words n between ≡ beside (at_words n u) (first_eval m (some c) v (at_words n u))
      y.outcome
  right_stands =
      let i = first_eval m (some c) v (at_words n u) in
      rw (
        h.goes.matches.fresh_is,
        (whole_puts h).arcs_are,
        ← append_assoc (arcs_of u.track u.tally.arcs) i.arcs y.outcome.arcs,
      )

  -- the right's step
  module _ {z : Stepped} {g : Done}
      (k : Turns l p x count ts right n b ks v (together f) o (some y.outcome.reference) Q
      y.outcome.process (first_eval m (some c) v (at_words n u)).reference y.unused between z g) where
    abbrev i : Entered
    i = first_eval m (some c) v (at_words n u)

    abbrev j : Entered
    j = first_eval o (some i.reference) v (at_words n between)

    abbrev lout : Outcome
    lout = y.outcome

    abbrev rout : Outcome
    rout = z.outcome

    abbrev behind_both : Words
    behind_both = put_to right n g

    joint_writes : Writes l (λ q. held q n (split v (together f) m o P Q)) u behind_both
        (followed (followed (entering i) (added lout)) (followed (entering j) (added rout)))
    joint_writes = behind l (λ q. held q n (split v (together f) m o P Q))
        (λ q. held q n (split v (together f) m o P Q))
        u between behind_both (followed (entering i) (added lout)) (followed (entering j) (added rout))
        (λ q e w. w)
        (whole_puts h)
        (turn_puts k (λ q. held q n (split v (together f) m o P Q))
        (λ e. omega (arith, e, split_held n n v (together f) m o P Q, one_same n n refl))
        (λ q e. omega (arith, e, split_held q n v (together f) m o P Q)))

    -- the event nodes of both stand behind one another
    abbrev met_here : List ℕ
    met_here = event_nodes g.track u.tally.met (length lout.met)

    abbrev met_there : List ℕ
    met_there = event_nodes g.track d.taken.tally.met (length rout.met)

    left_counted : d.taken.tally.met ≡ u.tally.met + length lout.met
    left_counted = (whole_puts h).met_counted

    right_counted : g.taken.tally.met ≡ d.taken.tally.met + length rout.met
    right_counted = (whole_puts k).met_counted

    both_met : (met_here ≡ lout.met) × (met_there ≡ rout.met)
    unfolding event_nodes
    both_met =
        let at_start : u.tally.met + 0 ≡ u.tally.met = omega arith in
        let none_before : 0 + length lout.met ≡ length lout.met = omega arith in
        let first : event_nodes d.track u.tally.met (length lout.met) ≡ lout.met =
        rw none_before at ((whole_puts h).met_are u.tally.met 0 at_start) in
        let then = (whole_puts k).met_are u.tally.met (length lout.met) (sym left_counted) in
        let (here, there) = event_nodes_parts g.track u.tally.met (length lout.met)
        (length rout.met)
        lout.met rout.met refl (then ∙ ap (λ w. w ++ rout.met) first) in
        (here, rw left_counted there)

    -- the meetings, of which there is room for as many as there are
    abbrev met_words : Kept
    met_words = met_all u.tally.met (d.taken.tally.met - u.tally.met) d.taken.tally.met
        (g.taken.tally.met - d.taken.tally.met) g.taken.tally g.track

    joint_met : g.taken.tally.meetings + length (meet lout.met rout.met) ≤ 4096
        → Told meeting g.taken.tally g.track met_words (meet lout.met rout.met)
    joint_met room =
        let here : d.taken.tally.met - u.tally.met ≡ length lout.met = omega (arith, left_counted) in
        let there : g.taken.tally.met - d.taken.tally.met ≡ length rout.met =
        omega (arith, right_counted) in
        let many : length (meet lout.met rout.met) ≡ length lout.met * length rout.met =
        rw (both_met.0, both_met.1) at (meetings_due g.track u.tally.met (length lout.met)
        d.taken.tally.met (length rout.met)) in
        rw (here, there)
        (rw (both_met.0, both_met.1) at (met_all_told (length lout.met) u.tally.met
        d.taken.tally.met (length rout.met)
        g.taken.tally g.track (put_entry k).sound.whole_track (omega (arith, room, many))
        (rw both_met.0 (below_more lout.fresh 65536 lout.met (omega (arith, h.starts.fresh_fits))
        (start_draws h.starts).below))
        (rw both_met.1 (below_more rout.fresh 65536 rout.met (omega (arith, k.starts.fresh_fits))
        (start_draws k.starts).below))))

    -- what the rules make of both, where the parallel stands at w as the right is entered
    abbrev pub joint : At → ℕ → Stepped
    joint w e = record {
      outcome = jointly i lout (first_eval o (some i.reference) v w) rout e
          (split v (together f) (some lout.reference) (some rout.reference) lout.process
          rout.process) n;
      unused = z.unused;
    }

    module _ (e : ℕ) (left_shows : lout.event ≡ visible e) (size : ℕ)
        (is_size : size ≡ length ks + suc (cells P + cells Q)) (few : size ≤ 4096) where
      abbrev joint_size : ℕ
      joint_size = capped
          (capped (size - node 6 u.nodes n - node 7 u.nodes n + d.taken.size) + g.taken.size)

      abbrev joint_done : Done
      joint_done = with_words (come (visible e) n joint_size g.taken.at met_words.tally)
          behind_both.nodes
          met_words.track

      joint_told : Fits u (joint (at_words n between) e).outcome
          → Told meeting g.taken.tally g.track met_words (meet lout.met rout.met)
      unfolding jointly
      joint_told fits = joint_met (omega (
        arith,
        fits.meetings_fit,
        joint_writes.meetings_counted,
        length-append (lout.meetings ++ rout.meetings) (meet lout.met rout.met),
      ))

      joint_ends : Fits u (joint (at_words n between) e).outcome
          → Ends l p x count n b (term u.nodes n) (frame u.nodes n) ks (split v (together f) m o P Q) u
          (joint (at_words n between) e) joint_done
      unfolding jointly
      joint_ends fits =
          let was = was_splits h in
          let lasts = joint_writes.lasting n was.marked in
          let entry = put_entry k in
          let grown = split_by_cells left v (together f) (some lout.reference) (some rout.reference)
          lout.process
          rout.process tt in
          let inner : capped (size - node 6 u.nodes n - node 7 u.nodes n + d.taken.size)
          ≡ length ks + suc (cells lout.process) =
          capped_below _ (omega
          (arith, is_size, few, was.left_cells, was.right_cells, h.goes.size_is, h.starts.cells_fit))
          ∙ omega (arith, is_size, was.left_cells, was.right_cells, h.goes.size_is) in
          record {
            matches = record {
              writes = meetings_behind l _ u behind_both _ met_words (meet lout.met rout.met)
                  (omega (arith, fits.arcs_fit, joint_writes.arcs_counted)) joint_writes (joint_told fits);
              fresh_is = rw (joint_told fits).tally k.goes.matches.fresh_is;
              event_is = refl;
              reference_is = refl;
              at_is = k.goes.matches.at_is;
            };
            size_is =
                rw inner (capped_below _
                (omega (arith, is_size, few, h.starts.cells_fit, k.goes.size_is, k.starts.cells_fit))
                ∙ omega (arith, grown, k.goes.size_is));
            chain = rw (lasts.term_lasts, lasts.frame_lasts) at entry.there.splits.stands.chain;
            goes_on = λ _. opened_held l p x behind_both.nodes n b ks v (together f) right
                (some rout.reference)
                (some lout.reference) rout.process lout.process tt entry.there;
            at_Ω = λ q. let c : ◌≡◌ {A = ℕ} 0 1 = cc in absurd (omega arith);
            Ω-there = λ q. let c : ◌≡◌ {A = ℕ} 0 1 = cc in absurd (omega arith);
          }

      abbrev both_code : Done
      both_code =
          both n size (node 6 u.nodes n) (node 7 u.nodes n) u.tally.met d.taken g.taken
          g.nodes g.track

      joint_closes : Fits u (joint (at_words n between) e).outcome
          → Closes l p x count n b ks (split v (together f) m o P Q) u (joint (at_words n between) e) both_code
      unfolding both
      joint_closes fits = record {
        done = joint_done;
        ends = joint_ends fits;
        is = rw (h.goes.matches.event_is, left_shows)
            (settled_still p joint_done _ _ b (visible e) (λ q. let c : ◌≡◌ {A = ℕ} 0 1 = cc in omega arith)
            refl);
      }

      pub both_goes : Fits u (joint (beside (at_words n u) i lout) e).outcome
          → Closes l p x count n b ks (split v (together f) m o P Q) u
          (joint (beside (at_words n u) i lout) e) both_code
      both_goes = subst
          (λ w. Fits u (joint w e).outcome
          → Closes l p x count n b ks (split v (together f) m o P Q) u (joint w e) both_code)
          right_stands joint_closes
