-- A run that has just been started holds the start: every word is 0, so that nothing is labelled and nothing is drawn but
-- reference 0. Assumes nothing.
use Rattle.std.proofs.Common.{ℕ, ◌+◌, ◌*◌, ◌≡◌, refl, Bool, true, false, List, arith, get_or, replicate, ltb}
use Rattle.std.proofs.Common.{ltb-true, ltb-false}
use Rattle.std.proofs.lemmas.List.{length-replicate, get_or-replicate}
use Rattle.std.proofs.Math.ListN.{get_or-eq_default}
use Rattle.lines.specs.Line.{choose}
use Rattle.terms.specs.Term.{Term}
use Rattle.rules.specs.Process.{cells}
use Rattle.rules.specs.Run.{start, begun}
use Rattle.plans.specs.words.Plan.{Layout}
use Rattle.control.specs.words.Words.{reference_room, node, track_words}
use Rattle.offers.specs.words.Told.{starts}
use Rattle.control.specs.words.Views.{pairs}
use Rattle.step_laws.proofs.NodeViews.{marked_none}
use Rattle.runs.specs.code.Doors.{fresh_nodes, fresh_track, fresh_counters}
use Rattle.runs.specs.words.Held.{Tells, Whole, Holds}
use Rattle.rules.specs.Track.{lookup}

-- words that are all 0
abbrev zeros : ℕ → List ℕ
zeros n = replicate n 0

zero_word : (n i : ℕ) → get_or (zeros n) i 0 ≡ 0
zero_word n i = go (ltb i n) refl
  where
    go : (b : Bool) → ltb i n ≡ b → get_or (zeros n) i 0 ≡ 0
    go true e = get_or-replicate n i 0 0 (ltb-true i n e)
    go false e =
        get_or-eq_default (zeros n) 0 (omega (arith, length-replicate {A = ℕ} n 0, ltb-false i n e))

zero_node : (n i j : ℕ) → node i (zeros n) j ≡ 0
unfolding node
zero_node n i j = go (ltb j reference_room)
  where
    go : (b : Bool) → choose b (get_or (zeros n) (8 * j + i) 0) 0 ≡ 0
    go true = zero_word n (8 * j + i)
    go false = refl

module _ (l : Layout) (p x : List ℕ) where
  start_told : Tells l p x fresh_nodes fresh_track fresh_counters start
  unfolding cells pairs lookup
  start_told = record {
    controls = starts refl refl;
    begins = λ e. refl;
    reference_is = refl;
    fresh_is = refl;
    cells_are = refl;
    nodes_are = refl;
    arcs_are = refl;
    meetings_are = refl;
    labels_told = λ j. marked_none l fresh_nodes j (zero_node 65544 0 j);
    arcs_told = refl;
    meetings_told = refl;
  }

  start_whole : Whole fresh_nodes fresh_track fresh_counters
  start_whole = record {
    whole_nodes = length-replicate {A = ℕ} 65544 0;
    whole_track = length-replicate {A = ℕ} track_words 0;
    clean = λ j i h k. zero_node 65544 i j;
    first_rests = zero_node 65544 1 0;
    sideless = λ j h. (zero_node 65544 4 j, zero_node 65544 5 j);
  }

  pub start_holds : (ts : List Term) → Holds l p x ts fresh_nodes fresh_track fresh_counters start
  start_holds ts = record { reached = begun; tells = start_told; whole = start_whole }
