-- The start's call, as the words perform it: reference 0 is labelled with the left-hand side of definition 00 and gets an
-- arc to reference 1, where the root of definition 00 rests. Assumes nothing.
use Rattle.std.proofs.Common.{ℕ, ◌≡◌, refl, sym, ap, subst, ◌∙◌, Bool, true, false, List, [], arith, eqb, eqb-true}
use Rattle.std.proofs.Math.Option.{Option, none, some, none-ne-some}
use Rattle.std.proofs.Math.ListN.{get_elem?}
use Rattle.lines.specs.Line.{choose}
use Rattle.terms.specs.Term.{Term}
use Rattle.places.specs.Place.{Place, left_path}
use Rattle.rules.specs.declared.Event.TheVariants.{Tau as τ}
use Rattle.rules.specs.Process.{Address, main, untouched, right_side, rhs}
use Rattle.rules.specs.Track as Track
use Rattle.rules.specs.Step.{Stepped}
use Rattle.rules.specs.Run.{start, stands}
use Rattle.rules.proofs.Marked.{one_same}
use Rattle.rules.proofs.Holding.{held}
use Rattle.marks.specs.words.Mark.{start_mark}
use Rattle.marks.proofs.Laws.{low_read}
use Rattle.plans.specs.words.Plan.{Layout}
use Rattle.control.specs.words.Control.{label, state, resting, Untouched}
use Rattle.control.specs.words.Control as Control
use Rattle.control.proofs.Capped.{capped_small}
use Rattle.weighing.proofs.Told.{From, from_at}
use Rattle.drawing.specs.code.Drawing.{one_node, one_arc, drawn, labelled, standing}
use Rattle.control.specs.words.Views.{literal_place, place_told, marked}
use Rattle.leaves.specs.code.Leaves.{called, on}
use Rattle.step_laws.proofs.NodeViews.{standing_elsewhere, labelled_whole, labelled_elsewhere}
use Rattle.step_laws.proofs.Writing.{Writes}
use Rattle.step_laws.proofs.Going.{Goes}
use Rattle.step_laws.proofs.Sideless.{Sideless, labelled_sideless, standing_sideless}
use Rattle.step_laws.proofs.Parts.{on_to, one_on, Clean, on_writes, untouched_around, rests_holds, new_rests}
use Rattle.counting.specs.code.Counting.{tally_of}
use Rattle.weighing.proofs.TermTold.{rhs_cells}
use Rattle.runs.specs.words.Held.{Table, Holds}
use Rattle.runs.proofs.Weights.{}
use Rattle.runs.proofs.Keeping.{run_words}
use Rattle.rules.specs.Track.{lookup}

-- the left-hand side of definition 00
abbrev left_side : Place
left_side = record { definition = 0; path = left_path }

-- what is labelled with nothing has no label
unlabelled : (l : Layout) (w : List ℕ) (j : ℕ) → marked l w j ≡ none → label w j ≡ 0
unfolding marked
unlabelled l w j e = go (eqb (label w j) 0) refl e
  where
    go : (b : Bool) → eqb (label w j) 0 ≡ b → choose b none (some (place_told l (label w j))) ≡ none → label w j ≡ 0
    go true q e = eqb-true (label w j) 0 q
    go false q e = absurd (none-ne-some _ (sym e))

-- the root of definition 00
root_untouched : (l : Layout) (p x w : List ℕ) (ts : List Term) → Table l p x ts → Untouched l p x w 0 0 (rhs ts 0)
unfolding right_side
root_untouched l p x w ts table = go (get_elem? ts 0) refl
  where
    go : (o : Option Term) → get_elem? ts 0 ≡ o → Untouched l p x w 0 0 (right_side 0 o)
    go none e = absurd (table.some_first e)
    go (some t) e =
        let h = table.held 0 t e in
        let first = table.first in
        record {
          tree = t;
          is = ap (λ v. untouched v t) (sym h.0 ∙ ap l.place first);
          planned = rw first at h.1;
        }

module _ (l : Layout) (p x : List ℕ) (ts : List Term) (count : ℕ) (ds w g c : List ℕ) (table : Table l p x ts)
    (holds : Holds l p x ts w g c start) where
  -- what the call comes to
  abbrev pub call_of : Address → Stepped
  call_of a = record { outcome = Track.labelled τ (rhs ts 0) left_side (stands start); unused = a }

  start_clean : Clean (run_words w g c)
  unfolding tally_of
  start_clean = record {
    whole_nodes = holds.whole.whole_nodes;
    whole_track = holds.whole.whole_track;
    clean = holds.whole.clean;
  }

  call_writes : Writes l (λ j. held j 0 main) (run_words w g c) (on_to 0 1 resting 0 0 (run_words w g c))
      (one_on 0 left_side 1)
  unfolding tally_of held literal_place lookup
  call_writes =
      let t = holds.tells in
      let own : ℕ → ℕ = λ j. held j 0 main in
      subst (λ m. Writes l own (run_words w g c) (on_to 0 1 resting 0 0 (run_words w g c)) (one_on 0 left_side m))
      t.fresh_is
      (on_writes l own (run_words w g c) start_clean 0 1 left_side (omega (arith, t.fresh_is)) (omega (arith, t.fresh_is))
      (unlabelled l w 0 (t.labels_told 0)) (omega arith) (λ e. omega arith)
      (ap (literal_place l) (low_read start_mark (omega arith))) (omega (arith, t.nodes_are))
      (omega (arith, t.arcs_are)) (λ j h e q. omega (arith, e, one_same j 0 q)) resting 0 0)

  -- reference 0 rests still
  pub start_rests : state (called (tally_of c) w g).nodes 0 ≡ resting
  unfolding called tally_of
  start_rests =
      let drawn_first = holds.tells.fresh_is in
      standing_elsewhere _ resting 0 0 (labelled 0 1 w) 1 0 (omega arith)
      (λ e _ _. omega (arith, e, drawn_first))
      ∙ labelled_elsewhere 0 1 w 1 0 (omega arith) (λ _ e. omega arith)
      ∙ holds.whole.first_rests

  -- and no reference without a label has sides
  pub start_sideless : Sideless (called (tally_of c) w g).nodes
  unfolding called
  start_sideless =
      standing_sideless _ resting 0 0 (labelled 0 1 w)
      (labelled_sideless 0 1 w (omega arith) (λ e. omega arith)
      (record { whole = holds.whole.whole_nodes; none_there = holds.whole.sideless }))

  root_holds : Control.HoldsControl l p x (standing 1 resting 0 0 (labelled 0 1 w)) 1 0 (rhs ts 0) []
  root_holds =
      let u = root_untouched l p x (labelled 0 1 w) ts table in
      let bare = untouched_around l p x (labelled 0 1 w) 0 0 (rhs ts 0) u in
      let clean = holds.whole.clean 1 0 (omega (arith, holds.tells.fresh_is)) (omega arith) in
      rests_holds l p x _ 1 0 [] (rhs ts 0)
      (new_rests l p x (labelled 0 1 w) 1 0 0 0 [] (omega arith) (labelled_whole 0 1 w holds.whole.whole_nodes)
      (omega arith) (omega arith) (omega arith) (rhs ts 0)
      (labelled_elsewhere 0 1 w 0 1 (omega arith) (λ e _. omega arith) ∙ clean) (bare, refl) (rw bare u))

  pub call_goes : (a : Address) → From ds count 0 a
      → Goes l p x count 0 0 main (run_words w g c) (call_of a) (called (tally_of c) w g)
  unfolding called on one_node one_arc drawn tally_of Track.labelled
  call_goes a from =
      let t = holds.tells in
      record {
        matches = record {
          writes = call_writes;
          fresh_is = rw t.fresh_is (capped_small 2 (omega arith));
          event_is = refl;
          reference_is = t.fresh_is;
          at_is = sym (from_at ds count 0 a from);
        };
        size_is = sym (rhs_cells 0 (get_elem? ts 0));
        holds = rw t.fresh_is root_holds;
      }
