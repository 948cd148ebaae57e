-- The room that a joint step of a parallel leaves for the steps of its sides: the right draws behind the
-- left, and what either adds is part of what both add. And what the code makes of the right, from the words
-- that the left leaves. Assumes nothing.
use Rattle.std.proofs.Common.{ℕ, ◌≤◌, ◌≡◌, sym, subst, List, ◌++◌, arith, length-append}
use Rattle.std.proofs.Math.Option.{Option, some}
use Rattle.terms.specs.Term.{Term}
use Rattle.places.specs.Place.{Place}
use Rattle.rules.specs.Process.{Address, together, Process, split, cells}
use Rattle.rules.specs.Track.{At, Entered, first_eval, inside, around, beside, meet, jointly}
use Rattle.rules.specs.Step.{Stepped, step}
use Rattle.rules.proofs.Climbing.{Up, up_more, up_append}
use Rattle.rules.proofs.Derived.{step_derived}
use Rattle.rules.proofs.Marked.{side_fit}
use Rattle.plans.specs.words.Plan.{Layout, second}
use Rattle.control.specs.words.Control.{term}
use Rattle.control.proofs.Framed.{Lasts}
use Rattle.leaves.specs.code.Leaves.{Done}
use Rattle.stepping.specs.code.Take.{across}
use Rattle.drawing.specs.declared.Tally.{Tally}
use Rattle.step_laws.proofs.Writing.{Words}
use Rattle.step_laws.proofs.Going.{at_words, Fits}
use Rattle.step_laws.proofs.Drawing.{draws, side_once, side_fresh, side_up, past_more}
use Rattle.step_laws.proofs.Opening.{left, right, frame_in, Entry, entry_drawn}
use Rattle.step_laws.proofs.Entering.{enter_to}
use Rattle.step_laws.proofs.Starting.{entry_up, entry_draws, Starts, starts_by, in_side_is}
use Rattle.step_laws.proofs.OneSide.{Turns, was_splits, whole_puts}
use Rattle.step_laws.proofs.BothSides.{between, right_entry, right_stands}

-- the room that a joint step leaves for its parts
module _ (l : Layout) (p x : List ℕ) (count : ℕ) (ts : List Term) (n b : ℕ) (ks : List ℕ) (v : Place) (f : ℕ)
    (m o : Option ℕ) (P Q : Process) (c : ℕ) (a : Address) (u : Words) (y z : Stepped)
    (h : Entry l p x count left n b ks v (together f) m o P Q u)
    (left_step : step ts P (inside (first_eval m (some c) v (at_words n u)) (at_words n u)) a ≡ some y) where
  abbrev i : Entered
  i = first_eval m (some c) v (at_words n u)

  abbrev there : At
  there = beside (at_words n u) i y.outcome

  abbrev j : Entered
  j = first_eval o (some i.reference) v there

  left_more : u.tally.fresh ≤ y.outcome.fresh
  left_more =
      let on : i.fresh ≤ y.outcome.fresh = (entry_draws h c ts a y left_step).more in
      omega (arith, on, side_fresh m (some c) v (at_words n u) P)

  -- the right draws behind the left
  pub right_more : step ts Q (inside j there) y.unused ≡ some z → y.outcome.fresh ≤ z.outcome.fresh
  right_more right_step =
      let drawn = entry_drawn l p x count n b ks v (together f) u left m o P Q h in
      let on : i.fresh ≤ y.outcome.fresh = (entry_draws h c ts a y left_step).more in
      let up : Up y.outcome.fresh there.arcs =
      up_append y.outcome.fresh ((at_words n u).arcs ++ i.arcs) y.outcome.arcs
      (up_more i.fresh y.outcome.fresh ((at_words n u).arcs ++ i.arcs) on (entry_up h c))
      (entry_draws h c ts a y left_step).up in
      let further : y.outcome.fresh ≤ j.fresh = side_fresh o (some i.reference) v there Q in
      let right : j.fresh ≤ z.outcome.fresh =
      (draws ts (step_derived ts Q (inside j there) y.unused z right_step).2 (side_fit o Q h.other_fit)
      (side_once o (some i.reference) v there Q h.other_fit
      (λ q. omega (arith, h.once q, past_more q u.tally.fresh y.outcome.fresh left_more)))
      (up_append j.fresh there.arcs j.arcs
      (up_more y.outcome.fresh j.fresh there.arcs further up)
      (side_up o (some i.reference) v there Q (omega (arith, drawn, left_more))))).more in
      omega arith

  abbrev joint_process : Process
  joint_process = split v (together f) (some y.outcome.reference) (some z.outcome.reference)
      y.outcome.process
      z.outcome.process

  module _ (right_step : step ts Q (inside j there) y.unused ≡ some z) (e : ℕ)
      (fits : Fits u (jointly i y.outcome j z.outcome e joint_process n)) where
    pub left_room : Fits u (around i y.outcome y.outcome.event y.outcome.process
        y.outcome.reference)
    unfolding around jointly cells
    left_room = record {
      fresh_fits = omega (arith, right_more right_step, fits.fresh_fits);
      nodes_fit = omega (
        arith,
        fits.nodes_fit,
        length-append (i.labels ++ y.outcome.labels)
            (j.labels ++ z.outcome.labels),
      );
      arcs_fit = omega (
        arith,
        fits.arcs_fit,
        length-append (i.arcs ++ y.outcome.arcs)
            (j.arcs ++ z.outcome.arcs),
      );
      meetings_fit = omega (
        arith,
        fits.meetings_fit,
        length-append (y.outcome.meetings ++ z.outcome.meetings) (meet y.outcome.met z.outcome.met),
        length-append y.outcome.meetings z.outcome.meetings,
      );
      met_fit = omega (arith, fits.met_fit, length-append y.outcome.met z.outcome.met);
      cells_fit = omega (arith, fits.cells_fit);
    }

    -- the right's room behind the left's step
    module _ (d : Done) (k : Turns l p x count ts left n b ks v (together f) m o P Q c a u y d) where
      right_room : Fits (between k)
          (around j z.outcome z.outcome.event z.outcome.process z.outcome.reference)
      unfolding around jointly cells
      right_room =
          let done = whole_puts k in
          record {
            fresh_fits = fits.fresh_fits;
            nodes_fit = omega (
              arith,
              fits.nodes_fit,
              done.nodes_counted,
              length-append (i.labels ++ y.outcome.labels) (j.labels ++ z.outcome.labels),
            );
            arcs_fit = omega (
              arith,
              fits.arcs_fit,
              done.arcs_counted,
              length-append (i.arcs ++ y.outcome.arcs) (j.arcs ++ z.outcome.arcs),
            );
            meetings_fit = omega (
              arith,
              fits.meetings_fit,
              done.meetings_counted,
              length-append (y.outcome.meetings ++ z.outcome.meetings)
                  (meet y.outcome.met z.outcome.met),
              length-append y.outcome.meetings z.outcome.meetings,
            );
            met_fit = omega (
              arith,
              fits.met_fit,
              done.met_counted,
              length-append y.outcome.met
                  z.outcome.met,
            );
            cells_fit = omega (arith, fits.cells_fit);
          }

      pub right_fits : Fits (between k) (around (first_eval o (some i.reference) v (at_words n (between k)))
          z.outcome z.outcome.event z.outcome.process z.outcome.reference)
      right_fits = subst (λ w. Fits (between k) (around (first_eval o (some i.reference) v w) z.outcome
          z.outcome.event z.outcome.process z.outcome.reference)) (sym (right_stands k)) right_room

      pub right_starts : Starts l p x count ts right n b ks v (together f) o (some y.outcome.reference) Q
          y.outcome.process i.reference y.unused (between k) z
      right_starts =
          let is_step = subst (λ w. step ts Q (inside (first_eval o (some i.reference) v w) w) y.unused
          ≡ some z)
          (sym (right_stands k)) right_step in
          starts_by l p x count ts right n b ks v (together f) o (some y.outcome.reference) Q
          y.outcome.process i.reference y.unused (between k) z (right_entry k) is_step
          z.outcome.event
          z.outcome.process z.outcome.reference (omega arith) right_fits

-- what the code makes of the right
module _ {l : Layout} {p x : List ℕ} {count : ℕ} {ts : List Term} {n b : ℕ} {ks : List ℕ} {v : Place} {f : ℕ}
    {m o : Option ℕ} {P Q : Process} {c : ℕ} {a : Address} {u : Words} {y : Stepped} {d : Done}
    (h : Turns l p x count ts left n b ks v (together f) m o P Q c a u y d) {z : Stepped}
    (k : Starts l p x count ts right n b ks v (together f) o (some y.outcome.reference) Q
    y.outcome.process
    (first_eval m (some c) v (at_words n u)).reference y.unused (between h) z) where
  between_lasts : Lasts u.nodes (between h).nodes n
  between_lasts = (whole_puts h).lasting n (was_splits h).marked

  abbrev entered_right : Words
  entered_right = enter_to p right n (frame_in p (between h).nodes (together f) n) (between h)

  pub across_is : (ds : List ℕ) (go : ℕ → ℕ → ℕ → ℕ → Tally → List ℕ → List ℕ → Done) (size : ℕ)
      → across p count ds go n (second p (term u.nodes n)) (frame_in p u.nodes (together f) n) size d
      ≡ go (first_eval o (some (first_eval m (some c) v (at_words n u)).reference) v
      (at_words n (between h))).reference
      (frame_in p (between h).nodes (together f) n) d.taken.at size entered_right.tally
      entered_right.nodes
      entered_right.track
  unfolding across
  across_is ds go size =
      rw (← between_lasts.term_lasts, ← between_lasts.frame_lasts) (in_side_is k ds go d.taken.at size)
