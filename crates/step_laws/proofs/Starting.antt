-- A side's step before the words go through it: what the rules say of it, and words in which the side is
-- entered and ready, with the room that the split's outcome leaves. And what the code reads on its way there:
-- a side's term, the frame of the sides and the side's reference. Assumes nothing.
use Rattle.std.proofs.Common.{ℕ, suc, ◌+◌, ◌≤◌, ◌<◌, ◌≡◌, ◌∙◌, List, [], ◌++◌, arith, length, length-append}
use Rattle.std.proofs.Math.Option.{Option, some}
use Rattle.terms.specs.Term.{Term}
use Rattle.places.specs.Place.{Place}
use Rattle.rules.specs.declared.Event.{Event}
use Rattle.rules.specs.Process.{Address, Split, choice, together, Process, cells}
use Rattle.rules.specs.Track.{Entered, Outcome, first_eval, around}
use Rattle.rules.specs.Track as Track
use Rattle.rules.specs.Tracking.{Tracks}
use Rattle.rules.specs.Step.{Stepped, step}
use Rattle.rules.proofs.Climbing.{Up, up_more, up_append}
use Rattle.rules.proofs.Derived.{step_derived}
use Rattle.rules.proofs.Marked.{Fit, side_fit}
use Rattle.plans.specs.words.Plan.{Layout, kind}
use Rattle.control.specs.words.Words.{reference_room}
use Rattle.control.specs.words.Control.{term, inside, split_kind}
use Rattle.control.specs.words.Sums.{capped}
use Rattle.looking.specs.code.Looking as Looking
use Rattle.leaves.specs.code.Leaves.{Done}
use Rattle.stepping.specs.code.Take.{in_side}
use Rattle.drawing.specs.declared.Tally.{Tally}
use Rattle.step_laws.proofs.TrackLoops.{capped_below}
use Rattle.step_laws.proofs.Writing.{Words}
use Rattle.step_laws.proofs.Going.{at_words, Fits, Ready}
use Rattle.step_laws.proofs.Drawing.{Draws, draws, side_once, side_fresh, side_up}
use Rattle.step_laws.proofs.Opening.{Side, number, side_term, frame_in, Entry, entry_drawn}
use Rattle.step_laws.proofs.Opening.{split_below}
use Rattle.step_laws.proofs.Entering.{enter_to, Enters, side_enters, enters_ready, enters_stands}

-- the left side's term, and the frame of the sides, as the code has them
pub next_term : (p : List ℕ) (t : ℕ) (k : Split) → kind p t ≡ split_kind k → capped (t + 1) ≡ suc t
next_term p t k h =
    let next : t + 1 ≡ suc t = omega arith in
    capped_below (t + 1) (omega (arith, split_below p t k h)) ∙ next

pub inside_told : (p : List ℕ) (k : Split) (t n f : ℕ) → kind p t ≡ split_kind k
    → Looking.inside p (kind p t) t n f ≡ inside p k t n f
unfolding Looking.inside inside split_kind
inside_told p choice t n f h = rw h
inside_told p (together x) t n f h = rw h

-- what the rules draw by a side's step
module _ {l : Layout} {p x : List ℕ} {count : ℕ} {s : Side} {n b : ℕ} {ks : List ℕ} {v : Place} {k : Split}
    {m o : Option ℕ} {P Q : Process} {u : Words} (h : Entry l p x count s n b ks v k m o P Q u) (c : ℕ) where
  pub entry_up : Up (first_eval m (some c) v (at_words n u)).fresh
      ((at_words n u).arcs ++ (first_eval m (some c) v (at_words n u)).arcs)
  entry_up =
      let i = first_eval m (some c) v (at_words n u) in
      up_append i.fresh (at_words n u).arcs i.arcs
      (up_more u.tally.fresh i.fresh (at_words n u).arcs (side_fresh m (some c) v (at_words n u) P)
      h.sound.up)
      (side_up m (some c) v (at_words n u) P (entry_drawn l p x count n b ks v k u s m o P Q h))

  pub entry_draws : (ts : List Term) (a : Address) (y : Stepped)
      → step ts P (Track.inside (first_eval m (some c) v (at_words n u)) (at_words n u)) a ≡ some y
      → Draws (Track.inside (first_eval m (some c) v (at_words n u)) (at_words n u)) y.outcome
  entry_draws ts a y is =
      draws ts (step_derived ts P (Track.inside (first_eval m (some c) v (at_words n u)) (at_words n u)) a y
      is).2
      (side_fit m P h.own_fit)
      (side_once m (some c) v (at_words n u) P h.own_fit (λ j. omega (arith, h.once j))) entry_up

module _ (l : Layout) (p x : List ℕ) (count : ℕ) (ts : List Term) (s : Side) (n b : ℕ) (ks : List ℕ) (v : Place)
    (k : Split) (m o : Option ℕ) (P Q : Process) (c : ℕ) (a : Address) (u : Words) (y : Stepped) where
  -- a side's step, from words that hold the entered split
  pub record Starts : Type 0 where
    pub entry : Entry l p x count s n b ks v k m o P Q u
    pub is_step : step ts P (Track.inside (first_eval m (some c) v (at_words n u)) (at_words n u)) a ≡ some y
    pub fresh_fits : y.outcome.fresh ≤ reference_room
    pub arcs_fit : u.tally.arcs + length (first_eval m (some c) v (at_words n u)).arcs ≤ 8192
    pub cells_fit : cells y.outcome.process ≤ 1024

  -- where the split's outcome fits
  pub starts_by : Entry l p x count s n b ks v k m o P Q u
      → step ts P (Track.inside (first_eval m (some c) v (at_words n u)) (at_words n u)) a ≡ some y
      → (e : Event) (R : Process) (q : ℕ) → cells y.outcome.process ≤ cells R
      → Fits u (around (first_eval m (some c) v (at_words n u)) y.outcome e R q) → Starts
  unfolding around
  starts_by entry is e R q less fits =
      let i = first_eval m (some c) v (at_words n u) in
      let arcs : u.tally.arcs + length (i.arcs ++ y.outcome.arcs) ≤ 8192 = fits.arcs_fit in
      record {
        entry = entry;
        is_step = is;
        fresh_fits = fits.fresh_fits;
        arcs_fit = omega (arith, arcs, length-append i.arcs y.outcome.arcs);
        cells_fit = let most : cells R ≤ 1024 = fits.cells_fit in omega (arith, less, most);
      }

module _ {l : Layout} {p x : List ℕ} {count : ℕ} {ts : List Term} {s : Side} {n b : ℕ} {ks : List ℕ} {v : Place}
    {k : Split} {m o : Option ℕ} {P Q : Process} {c : ℕ} {a : Address} {u : Words} {y : Stepped}
    (h : Starts l p x count ts s n b ks v k m o P Q c a u y) where
  abbrev i : Entered
  i = first_eval m (some c) v (at_words n u)

  abbrev u' : Words
  u' = enter_to p s n (frame_in p u.nodes k n) u

  abbrev r : Outcome
  r = y.outcome

  pub start_derived : (c : Address) × (a ≡ c ++ y.unused) × Tracks ts c P (Track.inside i (at_words n u)) r
  start_derived = step_derived ts P (Track.inside i (at_words n u)) a y h.is_step

  pub start_fit : Fit P
  start_fit = side_fit m P h.entry.own_fit

  pub start_drawn : n < u.tally.fresh
  start_drawn = entry_drawn l p x count n b ks v k u s m o P Q h.entry

  pub start_draws : Draws (Track.inside i (at_words n u)) r
  start_draws = entry_draws h.entry c ts a y h.is_step

  -- the side is entered, and ready for its step from where the rules have it stand
  pub start_enters : Enters l p x count s n b ks v k o P Q c u m u'
  start_enters = side_enters l p x count s n b ks v k o P Q c u m h.entry
      (let on : i.fresh ≤ r.fresh = start_draws.more in omega (arith, h.fresh_fits)) h.arcs_fit

  pub start_ready : Ready l p x count i.reference (frame_in p u.nodes k n) P [] u'
  start_ready = enters_ready l p x count s n b ks v k o P Q c u m u' start_enters

  pub start_stands : at_words i.reference u' ≡ Track.inside i (at_words n u)
  start_stands = enters_stands l p x count s n b ks v k o P Q c u m u' start_enters

  pub start_is_step : step ts P (at_words i.reference u') a ≡ some y
  start_is_step = rw start_stands h.is_step

  -- with the room that is left
  pub start_fits : (e : Event) (R : Process) (q : ℕ) → Fits u (around i r e R q) → Fits u' r
  unfolding around
  start_fits e R q fits =
      let on = start_enters.writes (λ j. 1) (λ z. omega arith) in
      let nodes : u.tally.nodes + length (i.labels ++ r.labels) ≤ 4096 = fits.nodes_fit in
      let arcs : u.tally.arcs + length (i.arcs ++ r.arcs) ≤ 8192 = fits.arcs_fit in
      record {
        fresh_fits = h.fresh_fits;
        nodes_fit = omega (arith, nodes, length-append i.labels r.labels, on.nodes_counted);
        arcs_fit = omega (arith, arcs, length-append i.arcs r.arcs, on.arcs_counted);
        meetings_fit = omega (arith, fits.meetings_fit, on.meetings_counted);
        met_fit = omega (arith, fits.met_fit, on.met_counted);
        cells_fit = h.cells_fit;
      }

  -- what the code makes of the side
  pub in_side_is : (ds : List ℕ) (go : ℕ → ℕ → ℕ → ℕ → Tally → List ℕ → List ℕ → Done) (at_digit size : ℕ)
      → in_side p count ds go n (number s) (side_term p s (term u.nodes n))
      (frame_in p u.nodes k n) at_digit size
      u.tally u.nodes u.track
      ≡ go i.reference (frame_in p u.nodes k n) at_digit size u'.tally u'.nodes u'.track
  unfolding in_side
  in_side_is ds go at_digit size = rw start_enters.word
