-- Two ended sides end their parallel: each parent of either side's Ω gets an arc to a fresh reference, where
-- Ω stands then in their place, inside the parallel's own sequences, which see the ✓. Sides that have ended
-- have stepped, since no term is Ω. Assumes nothing.
use Rattle.std.proofs.Common.{ℕ, suc, ◌+◌, ◌-◌, ◌≤◌, ◌<◌, ◌≡◌, refl, sym, ap, subst, ◌∙◌, List, [], ◌∷◌}
use Rattle.std.proofs.Common.{append-nil, arith, add-zero, length}
use Rattle.std.proofs.Math.Option.{Option, none, some}
use Rattle.places.specs.Place.{Place}
use Rattle.rules.specs.Process.{Address, together, split, Ω, cells}
use Rattle.rules.specs.Track.{Pair, parents, ended, lookup}
use Rattle.rules.specs.Step.{Stepped}
use Rattle.rules.proofs.Climbing.{Up}
use Rattle.rules.proofs.Holding.{held}
use Rattle.plans.specs.words.Plan.{Layout}
use Rattle.control.specs.words.Words.{node}
use Rattle.control.specs.words.Control.{term, frame, at_end}
use Rattle.control.proofs.Framed.{around_lasting}
use Rattle.rules.specs.declared.Event.TheVariants.{Tick}
use Rattle.control.specs.words.Sums.{capped}
use Rattle.drawing.specs.code.Drawing.{Kept, joined, drawn, standing}
use Rattle.control.specs.words.Views.{arcs_of}
use Rattle.leaves.specs.code.Leaves.{Done, with_words, come, end}
use Rattle.step_laws.proofs.TrackLaws.{arc}
use Rattle.step_laws.proofs.TrackLoops.{capped_below, Told, told_count, told_whole, told_keeps_nodes}
use Rattle.step_laws.proofs.TrackLoops.{told_keeps_meetings, told_length, Each, joined_told}
use Rattle.step_laws.proofs.NodeViews.{standing_whole, standing_there, standing_elsewhere}
use Rattle.step_laws.proofs.NodeViews.{standing_same, standing_lasting, marked_same}
use Rattle.step_laws.proofs.Writing.{Words, Writes, first_none}
use Rattle.step_laws.proofs.Going.{at_words, added, Fits, Ends}
use Rattle.step_laws.proofs.Parts.{untouched_formed}
use Rattle.step_laws.proofs.Opening.{left, SideHeld, Entry, entry_drawn}
use Rattle.step_laws.proofs.OneSide.{Closes}

-- a side that has ended has stepped
ended_begun : (l : Layout) (p x w : List ℕ) (m : Option ℕ) (i t f : ℕ) → SideHeld l p x w m i t f Ω → m ≡ some i
ended_begun l p x w none i t f h = absurd (untouched_formed l p x w t 0 Ω h.1)
ended_begun l p x w (some m) i t f h = ap some (sym h.0)

-- arcs that climb come from references that are drawn
up_from : (f : ℕ) (g : List Pair) → f ≤ 65536 → Up f g → Each (λ (a : Pair). a.from < 65536) g
up_from f [] h u = tt
up_from f (a ∷ g) h u = (omega (arith, h, u.0, u.1), up_from f g h u.2)

module _ {l : Layout} {p x : List ℕ} {count : ℕ} {n b : ℕ} {ks : List ℕ} {v : Place} {f : ℕ} {m o : Option ℕ}
    {u : Words}
    (h : Entry l p x count left n b ks v (together f) m o Ω Ω u) (fits : Fits u (ended m o (at_words n u)))
  where
    abbrev w : List ℕ
    w = u.nodes

    abbrev t : ℕ
    t = u.tally.fresh

    abbrev arcs_here : List Pair
    arcs_here = arcs_of u.track u.tally.arcs

    -- the arcs that are due, as the words add them
    abbrev due : List Pair
    due = parents m o t arcs_here

    abbrev joined_words : Kept
    joined_words = joined (node 4 w n) (node 5 w n) t 0 u.tally.arcs u.tally u.track

    end_told : Told arc u.tally u.track joined_words due
    unfolding ended
    end_told =
        let first = ended_begun l p x w m _ _ _ h.there.own in
        let second = ended_begun l p x w o _ _ _ h.there.other in
        let due_is : parents (some (node 4 w n)) (some (node 5 w n)) t arcs_here ≡ due = rw (first, second) in
        subst (Told arc u.tally u.track joined_words) due_is
        (joined_told (node 4 w n) (node 5 w n) t (omega (arith, fits.fresh_fits)) u.tally u.track
        h.sound.whole_track
        (rw due_is fits.arcs_fit) (up_from t arcs_here (omega (arith, fits.fresh_fits)) h.sound.up))

    abbrev end_nodes : List ℕ
    end_nodes = standing t at_end 0 0 w

    abbrev end_words : Words
    end_words = record { tally = drawn joined_words.tally; nodes = end_nodes; track = joined_words.track }

    end_fresh : end_words.tally.fresh ≡ suc t
    unfolding drawn ended
    end_fresh =
        let next : t + 1 ≡ suc t = omega arith in
        rw end_told.tally (capped_below (t + 1) (omega (arith, fits.fresh_fits)) ∙ next)

    end_bare : (j : ℕ) → node 0 end_nodes j ≡ node 0 w j
    end_bare j = standing_elsewhere t at_end 0 0 w 0 j (omega arith) (λ e q. absurd (omega arith))

    end_writes : (own : ℕ → ℕ) → Writes l own u end_words (added (ended m o (at_words n u)))
    unfolding ended drawn lookup
    end_writes own = record {
      more = omega (arith, end_fresh);
      nodes_counted = rw end_told.tally (omega arith);
      arcs_counted = told_count end_told;
      meetings_counted = rw end_told.tally (omega arith);
      met_counted = rw end_told.tally (omega arith);
      labels_are = λ j. marked_same l w end_nodes j (end_bare j) ∙ sym (first_none _);
      lasting = standing_lasting t at_end 0 0 w (h.sound.clean t 0 (omega arith) (omega arith));
      apart = λ j e q. standing_same t at_end 0 0 w j (λ z. omega arith);
      later = λ j e. standing_same t at_end 0 0 w j (λ z. omega (arith, e, z, end_fresh));
      arcs_are = told_whole end_told;
      meetings_are = rw end_told.tally (told_keeps_meetings end_told u.tally.meetings
          ∙ sym (append-nil _));
      met_are = λ i c e. told_keeps_nodes end_told i (c + 0) ∙ rw (add-zero, append-nil);
      long_nodes = standing_whole t at_end 0 0 w h.sound.whole_nodes ∙ sym h.sound.whole_nodes;
      long_track = told_length end_told;
    }

    module _ (at_digit size : ℕ) (a : Address) (is_at : capped (at_digit + 1) ≡ count - length a)
        (is_size : size ≡ length ks + suc (cells Ω + cells Ω)) where
      abbrev ended_here : Stepped
      ended_here = record { outcome = ended m o (at_words n u); unused = a }

      abbrev end_done : Done
      end_done = with_words (come Tick t (size - 2) (capped (at_digit + 1)) (drawn joined_words.tally))
          end_nodes
          joined_words.track

      end_drawn : n < t
      end_drawn = entry_drawn l p x count n b ks v (together f) u left m o Ω Ω h

      end_ends : Ends l p x count n b (term w n) (frame w n) ks (split v (together f) m o Ω Ω) u ended_here
          end_done
      unfolding ended cells
      end_ends =
          let was = h.there.splits in
          let writes = end_writes (λ j. held j n (split v (together f) m o Ω Ω)) in
          record {
            matches = record {
              writes = writes;
              fresh_is = end_fresh;
              event_is = refl;
              reference_is = refl;
              at_is = is_at;
            };
            size_is = omega arith;
            chain = around_lasting p w end_nodes writes.lasting _ _ b ks was.stands.chain;
            goes_on = λ n✓. absurd (n✓ refl);
            at_Ω = λ _. refl;
            Ω-there = λ _. (
              (standing_there t at_end 0 0 w (omega (arith, fits.fresh_fits)) h.sound.whole_nodes
                  (omega arith)
                  (omega arith) (omega arith)).state_is,
              end_bare t ∙ h.sound.clean t 0 (omega arith) (omega arith),
              omega (arith, was.stands.within, end_drawn),
              omega arith,
              omega arith,
            );
          }

      pub end_goes : Closes l p x count n b ks (split v (together f) m o Ω Ω) u ended_here
          (end p n b at_digit size u.tally w u.track)
      unfolding end
      end_goes =
          let beside = standing_same t at_end 0 0 w n (λ e. omega (arith, e, end_drawn)) in
          record {
            done = end_done;
            ends = end_ends;
            is = rw (beside 2 (omega arith), beside 3 (omega arith));
          }
