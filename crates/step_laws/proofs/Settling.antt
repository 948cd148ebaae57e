-- A step inside sequences: one that does not end goes on inside all of them, and nothing more is written; a ✓
-- starts the right of the innermost, at a fresh reference, inside the others; where none is around it stays ✓.
-- The innermost and the frame behind it are told by the chain around the term that the step came from. Assumes
-- nothing.
use Rattle.std.proofs.Common.{ℕ, suc, ◌+◌, ◌-◌, ◌≤◌, ◌<◌, ◌≡◌, refl, sym, ap, subst, ◌∙◌, Bool, true, false}
use Rattle.std.proofs.Common.{List, [], ◌∷◌, append-nil, arith, length, length-append, eqb, eqb-true, eq-eqb}
use Rattle.std.proofs.Common.{ne_eqb}
use Rattle.std.proofs.Math.Option.{some}
use Rattle.lines.specs.Line.{choose}
use Rattle.frames.specs.TableFrame.{term_room}
use Rattle.places.specs.Place.{Place}
use Rattle.rules.specs.declared.Event.TheVariants.{Tau as τ, Tick as ✓, Visible as visible}
use Rattle.rules.specs.Process.{Address, Process, Ω, cells}
use Rattle.rules.specs.Process as Live
use Rattle.rules.specs.Track.{pair, Outcome, carried, started}
use Rattle.rules.specs.Step.{Stepped, stepped, in_sequence, by_left}
use Rattle.rules.proofs.Marked.{one, one_same}
use Rattle.rules.proofs.Holding.{held}
use Rattle.plans.specs.words.Plan.{Layout, second, around}
use Rattle.control.specs.words.Control.{term, resting, innermost, behind, Around, HoldsControl}
use Rattle.control.proofs.Framed.{untouched_told, follows_told, around_lasting}
use Rattle.control.proofs.Chains.{Awaiting, TellsBehind, wrapped_cells, wrapped_holds, around_started}
use Rattle.control.proofs.Chains as Chains
use Rattle.weighing.proofs.Told.{wrapped}
use Rattle.drawing.specs.code.Drawing.{one_node, one_arc, drawn, labelled}
use Rattle.marks.specs.words.Mark.{own_mark}
use Rattle.marks.proofs.Laws.{own_small, own_some}
use Rattle.leaves.specs.code.Leaves.{Done, ends, by_event, settled}
use Rattle.leaves.specs.code.Leaves as Leaves
use Rattle.step_laws.proofs.TrackLoops.{capped_below}
use Rattle.step_laws.proofs.NodeViews.{labelled_whole, labelled_elsewhere}
use Rattle.step_laws.proofs.NodeViews.{own_told}
use Rattle.step_laws.proofs.Writing.{Words, Writes, followed, behind as behind-part}
use Rattle.step_laws.proofs.Going.{words_of, added, Sound, Fits, Matches, Goes, Ends}
use Rattle.step_laws.proofs.Parts.{one_on, Clean, sound_clean, marked_drawn, clean_after, on_writes}
use Rattle.step_laws.proofs.Parts.{untouched_below, untouched_around, rests_holds, single_cell}
use Rattle.step_laws.proofs.Parts.{new_rests}
use Rattle.rules.specs.declared.Event.{Event}

-- the frame of a chain is drawn
pub around_drawn : (p : List ℕ) (u : Words) → Clean u → (t f b : ℕ) (ks : List ℕ) → b < u.tally.fresh
    → Around p u.nodes t f b ks → f < u.tally.fresh
unfolding behind
around_drawn p u c t f b [] h a = omega (arith, h, a.1)
around_drawn p u c t f b (k ∷ ks) h a = go (eqb (around p t) 0) refl (around_drawn p u c k _ b ks h a.2)
  where
    go : (e : Bool) → eqb (around p t) 0 ≡ e → behind p u.nodes t f < u.tally.fresh → f < u.tally.fresh
    go true e i = marked_drawn u c f (a.0 (eqb-true (around p t) 0 e)).1
    go false e i = simp e at i

-- sequences of numbers ks, one for one
pub tells_length : (l : Layout) (p x w : List ℕ) (ks : List ℕ) (qs : List Awaiting) → TellsBehind l p x w ks qs
    → length ks ≡ length qs
tells_length l p x w [] [] t = refl
tells_length l p x w [] (q ∷ qs) t = absurd t
tells_length l p x w (k ∷ ks) [] t = absurd t
tells_length l p x w (k ∷ ks) (q ∷ qs) t = ap suc (tells_length l p x w ks qs t.1)

-- a step that does not end goes on inside, and one that ends starts the innermost right
abbrev pub inside_as : Outcome → List Awaiting → Outcome
inside_as r qs = carried r (Chains.wrapped r.process qs)

abbrev pub right_as : Outcome → Awaiting → List Awaiting → Outcome
right_as r q qs = carried (started r q.right q.place) (Chains.wrapped q.right qs)

abbrev pub come_as : Outcome → Address → Stepped
come_as r a = record { outcome = r; unused = a }

stays_inside : (v : Place) (Q : Process) (r : Outcome) (a : Address) (e : Event) → (e ≡ ✓ → ⊥)
    → in_sequence e v Q r a ≡ stepped (carried r (Live.sequence v true r.process Q)) a
unfolding in_sequence
stays_inside v Q r a τ h = refl
stays_inside v Q r a ✓ h = absurd (h refl)
stays_inside v Q r a (visible e) h = refl

pub wrapped_on : (qs : List Awaiting) (r : Outcome) (a : Address) → (r.event ≡ ✓ → ⊥)
    → wrapped qs (stepped r a) ≡ stepped (inside_as r qs) a
unfolding wrapped Chains.wrapped carried by_left
wrapped_on [] r a h = refl
wrapped_on (q ∷ qs) r a h =
    ap (wrapped qs) (stays_inside q.place q.right r a r.event h)
    ∙ wrapped_on qs (carried r (Live.sequence q.place true r.process q.right)) a h

pub wrapped_over : (q : Awaiting) (qs : List Awaiting) (r : Outcome) (a : Address) → r.event ≡ ✓
    → wrapped (q ∷ qs) (stepped r a) ≡ stepped (right_as r q qs) a
unfolding wrapped by_left in_sequence started
wrapped_over q qs r a e =
    let on = started r q.right q.place in
    let starts : in_sequence r.event q.place q.right r a ≡ stepped on a = rw e in
    ap (wrapped qs) starts ∙ wrapped_on qs on a (λ h. let z : ◌≡◌ {A = ℕ} 0 1 = cc in omega arith)

-- what a plan tells does not go by the words
pub tells_told : (l : Layout) (p x w w' : List ℕ) (ks : List ℕ) (qs : List Awaiting) → TellsBehind l p x w ks qs
    → TellsBehind l p x w' ks qs
tells_told l p x w w' [] [] t = t
tells_told l p x w w' [] (q ∷ qs) t = absurd t
tells_told l p x w w' (k ∷ ks) [] t = absurd t
tells_told l p x w w' (k ∷ ks) (q ∷ qs) t =
    (follows_told l p x w w' k q.place q.right t.0, tells_told l p x w w' ks qs t.1)

-- an event that ends, or one that does not
pub data Ending (e : Event) : Type 0 where
  over : e ≡ ✓ → Ending e
  on : (e ≡ ✓ → ⊥) → Ending e

pub ending : (e : Event) → Ending e
ending τ = on (λ h. let z : ◌≡◌ {A = ℕ} 0 1 = cc in omega arith)
ending ✓ = over refl
ending (visible n) = on (λ h. let z : ◌≡◌ {A = ℕ} 0 1 = cc in omega arith)

-- what has room inside sequences has room before they see it
module _ (u : Words) (y y' : Stepped) where
  fits_on : (qs : List Awaiting) → wrapped qs (some y) ≡ some y' → (y.outcome.event ≡ ✓ → ⊥)
      → Fits u y'.outcome → Fits u y.outcome
  unfolding carried
  fits_on qs e h f =
      let r = y.outcome in
      let a = y.unused in
      let is : y' ≡ come_as (inside_as r qs) a = cc (wrapped_on qs r a h) in
      let g : Fits u (inside_as r qs) = subst (λ z. Fits u z.outcome) is f in
      record {
        fresh_fits = g.fresh_fits;
        nodes_fit = g.nodes_fit;
        arcs_fit = g.arcs_fit;
        meetings_fit = g.meetings_fit;
        met_fit = g.met_fit;
        cells_fit = omega (arith, g.cells_fit, wrapped_cells r.process qs);
      }

  fits_over : (qs : List Awaiting) → wrapped qs (some y) ≡ some y' → y.outcome.event ≡ ✓
      → y.outcome.process ≡ Ω → y.outcome.met ≡ [] → Fits u y'.outcome → Fits u y.outcome
  unfolding wrapped carried started cells
  fits_over [] e h last none_met f = let is : y' ≡ y = cc in subst (λ z. Fits u z.outcome) is f
  fits_over (q ∷ qs) e h last none_met f =
      let r = y.outcome in
      let a = y.unused in
      let is : y' ≡ come_as (right_as r q qs) a = cc (wrapped_over q qs r a h) in
      let g : Fits u (right_as r q qs) = subst (λ z. Fits u z.outcome) is f in
      let labels = length-append r.labels (record { reference = r.reference; place = q.place } ∷ []) in
      let arcs = length-append r.arcs (pair r.reference r.fresh ∷ []) in
      record {
        fresh_fits = omega (arith, g.fresh_fits);
        nodes_fit = omega (arith, g.nodes_fit, labels);
        arcs_fit = omega (arith, g.arcs_fit, arcs);
        meetings_fit = g.meetings_fit;
        met_fit = rw none_met g.met_fit;
        cells_fit = rw last (omega arith);
      }

  -- what has room inside sequences has room before they see it
  pub fits_part : (qs : List Awaiting) → wrapped qs (some y) ≡ some y'
      → (y.outcome.event ≡ ✓ → (y.outcome.process ≡ Ω) × (y.outcome.met ≡ []))
      → Fits u y'.outcome → Fits u y.outcome
  fits_part qs e last f = go (ending y.outcome.event)
    where
      go : Ending y.outcome.event → Fits u y.outcome
      go (on h) = fits_on qs e h f
      go (over h) = fits_over qs e h (last h).0 (last h).1 f

-- the sequences that a plan tells of are terms
abbrev pub Numbered : List ℕ → Type 0
Numbered p = (t : ℕ) → around p t ≤ term_room

innermost_numbered : (p w : List ℕ) → Numbered p → (t f k : ℕ) → innermost p w t f ≡ suc k → k < term_room
unfolding innermost
innermost_numbered p w h t f k e = go (eqb (around p t) 0) e
  where
    go : (c : Bool) → choose c (around p (term w f)) (around p t) ≡ suc k → k < term_room
    go true i = omega (arith, h (term w f), i)
    go false i = omega (arith, h t, i)

pub one_other : (j i : ℕ) → (j ≡ i → ⊥) → one j i ≡ 0
unfolding one
one_other j i h = simp (ne_eqb j i h)

-- what the code makes of an event: of one that does not end nothing, and a ✓ starts the innermost right
module _ (p : List ℕ) (d : Done) (t f b : ℕ) where
  settled_on : (e : Event) → (e ≡ ✓ → ⊥) → d.taken.event ≡ e
      → settled p d.taken t f b d.nodes d.track ≡ d
  unfolding settled by_event
  settled_on τ h e = rw e
  settled_on ✓ h e = absurd (h refl)
  settled_on (visible n) h e = rw e

  settled_over : (e : Event) → e ≡ ✓ → d.taken.event ≡ e
      → settled p d.taken t f b d.nodes d.track ≡ ends p d.taken t f b d.nodes d.track
  unfolding settled by_event
  settled_over e h i = rw (i, h)

  ends_last : Around p d.nodes t f b [] → ends p d.taken t f b d.nodes d.track ≡ d
  unfolding ends
  ends_last a = simp (eq-eqb (around p t) 0 a.0, eq-eqb f b a.1)

  ends_starts : (k : ℕ) (ks : List ℕ) → Around p d.nodes t f b (k ∷ ks)
      → ends p d.taken t f b d.nodes d.track
      ≡ Leaves.started p d.taken k (behind p d.nodes t f) d.nodes d.track
  unfolding ends behind innermost
  ends_starts k ks a = go (eqb (around p t) 0) refl
    where
      less : suc k - 1 ≡ k
      less = omega arith

      go : (c : Bool) → eqb (around p t) 0 ≡ c
          → ends p d.taken t f b d.nodes d.track
          ≡ Leaves.started p d.taken k (behind p d.nodes t f) d.nodes d.track
      go true e =
          let h = (a.0 (eqb-true (around p t) 0 e)).0 in
          let is : around p (term d.nodes f) ≡ suc k = simp e at a.1 in
          simp (e, ne_eqb f b (λ q. omega arith), is, less)
      go false e =
          let is : around p t ≡ suc k = simp e at a.1 in
          simp e (rw (is, less))

module _ (l : Layout) (p x : List ℕ) (count n b t f : ℕ) (P : Process) (u : Words) (y : Stepped)
    (d : Done) where
  abbrev GoesAs : Outcome → Done → Type 0
  GoesAs r e = Goes l p x count n b P u (come_as r y.unused) e

  on_goes : (ks : List ℕ) (qs : List Awaiting) → Ends l p x count n b t f ks P u y d
      → TellsBehind l p x d.nodes ks qs → (y.outcome.event ≡ ✓ → ⊥) → GoesAs (inside_as y.outcome qs) d
  unfolding carried
  on_goes ks qs e tells h =
      let r = y.outcome in
      record {
        matches = record {
          writes = e.matches.writes;
          fresh_is = e.matches.fresh_is;
          event_is = e.matches.event_is;
          reference_is = e.matches.reference_is;
          at_is = e.matches.at_is;
        };
        size_is =
            omega (arith, e.size_is, wrapped_cells r.process qs, tells_length l p x d.nodes ks qs tells);
        holds =
            wrapped_holds l p x d.nodes r.reference b r.process ks qs [] tells
            (rw append-nil (e.goes_on h));
      }

  last_goes : Ends l p x count n b t f [] P u y d → y.outcome.event ≡ ✓ → GoesAs y.outcome d
  last_goes e h =
      let there = e.Ω-there h in
      record {
        matches = e.matches;
        size_is = omega (arith, e.size_is);
        holds = rw (e.at_Ω h) (there.2, there.0, refl);
      }

  module _ (k : ℕ) (ks : List ℕ) (q : Awaiting) (qs : List Awaiting)
      (e : Ends l p x count n b t f (k ∷ ks) P u y d) (tells : TellsBehind l p x d.nodes (k ∷ ks) (q ∷ qs))
      (h : y.outcome.event ≡ ✓) (none_met : y.outcome.met ≡ []) (fits : Fits u (right_as y.outcome q qs))
      (sound : Sound u) (numbered : Numbered p) where
    abbrev next : Done
    next = Leaves.started p d.taken k (behind p d.nodes t f) d.nodes d.track

    clean_there : Clean (words_of d)
    clean_there = clean_after l _ u (words_of d) _ (sound_clean u sound) e.matches.writes

    start_writes : Writes l (λ j. one j d.taken.reference) (words_of d) (words_of next)
        (one_on d.taken.reference q.place d.taken.tally.fresh)
    unfolding Leaves.started Leaves.on one_node carried started
    start_writes =
        let r = y.outcome in
        let i = d.taken.reference in
        let m = e.matches in
        let there = e.Ω-there h in
        let small = innermost_numbered p d.nodes numbered t f k e.chain.1 in
        let labels = length-append r.labels (record { reference = r.reference; place = q.place } ∷ []) in
        let arcs = length-append r.arcs (pair r.reference r.fresh ∷ []) in
        on_writes l (λ j. one j i) (words_of d) clean_there i (own_mark k) q.place
        (omega (arith, m.fresh_is, m.reference_is, there.4))
        (omega (arith, m.fresh_is, fits.fresh_fits))
        (rw m.reference_is there.1)
        (own_small k) (own_some k) (own_told k small l ∙ tells.0.place_is)
        (omega (arith, m.writes.nodes_counted, fits.nodes_fit, labels))
        (omega (arith, m.writes.arcs_counted, fits.arcs_fit, arcs))
        (λ j g z same. omega (arith, z, one_same j i same))
        resting (second p k) (behind p d.nodes t f)

    added_is : followed (added y.outcome) (one_on d.taken.reference q.place d.taken.tally.fresh)
        ≡ added (right_as y.outcome q qs)
    unfolding carried started
    added_is = rw (e.matches.reference_is, e.matches.fresh_is, none_met, append-nil y.outcome.meetings)

    start_matches : Matches l p x count (λ j. held j n P) u (come_as (right_as y.outcome q qs) y.unused)
        next
    unfolding Leaves.started Leaves.on one_node one_arc drawn carried started
    start_matches =
        let m = e.matches in
        let there = e.Ω-there h in
        let i = d.taken.reference in
        let fresh_is = m.fresh_is in
        let up = capped_below (d.taken.tally.fresh + 1) (omega (arith, fresh_is, fits.fresh_fits)) in
        record {
          writes =
              subst (Writes l (λ j. held j n P) u (words_of next)) added_is
              (behind-part l (λ j. held j n P) (λ j. one j i) u (words_of d) (words_of next) _ _
              (λ j g z. one_other j i (λ same. omega (arith, g, same, m.reference_is, there.3)))
              m.writes start_writes);
          fresh_is = omega (arith, up, fresh_is);
          event_is = refl;
          reference_is = m.fresh_is;
          at_is = m.at_is;
        }

    start_holds : HoldsControl l p x next.nodes d.taken.tally.fresh b (Chains.wrapped q.right qs) []
    unfolding Leaves.started one_node carried started
    start_holds =
        let w = d.nodes in
        let m = d.taken.tally.fresh in
        let i = d.taken.reference in
        let w₁ = labelled i (own_mark k) w in
        let w₂ = next.nodes in
        let s = second p k in
        let g = behind p w t f in
        let there = e.Ω-there h in
        let fresh_is = e.matches.fresh_is in
        let reference_is = e.matches.reference_is in
        let right = tells.0.right in
        let same_around = untouched_around l p x w s (around p k) q.right right in
        let chain = around_started p w t f b k s ks same_around e.chain in
        let within : b < m = omega (arith, fresh_is, there.2, there.4) in
        let below = untouched_below l p x w s (around p k) q.right right in
        let whole = labelled_whole i (own_mark k) w clean_there.whole_nodes in
        let bare =
        labelled_elsewhere i (own_mark k) w 0 m (omega arith)
        (λ e _. omega (arith, e, reference_is, fresh_is, there.4))
        ∙ clean_there.clean m 0 (omega arith) (omega arith) in
        wrapped_holds l p x w₂ m b q.right ks qs [] (tells_told l p x w w₂ ks qs tells.1)
        (rw append-nil (rests_holds l p x w₂ m b ks q.right
        (new_rests l p x w₁ m s g b ks (omega (arith, fresh_is, fits.fresh_fits)) whole (omega (arith, below))
        (around_drawn p (words_of d) clean_there s g b ks within chain) within q.right bare
        (around_lasting p w w₂ start_writes.lasting s g b ks chain)
        (rw same_around (untouched_told l p x w w₁ s (around p k) q.right right)))))

    over_goes : GoesAs (right_as y.outcome q qs) next
    unfolding Leaves.started carried started cells
    over_goes =
        let last : cells y.outcome.process ≡ 1 = ap cells (e.at_Ω h) in
        let right = single_cell l p x d.nodes _ _ q.right tells.0.right in
        let long = tells_length l p x d.nodes ks qs tells.1 in
        record {
          matches = start_matches;
          size_is = omega (arith, e.size_is, last, right, wrapped_cells q.right qs, long);
          holds =
              subst (λ m. HoldsControl l p x next.nodes m b (Chains.wrapped q.right qs) [])
              e.matches.fresh_is start_holds;
        }

  -- a step inside the sequences around the term that it came from
  module _ (y' : Stepped) (none_met : y.outcome.event ≡ ✓ → y.outcome.met ≡ [])
      (fits : Fits u y'.outcome) (sound : Sound u) (numbered : Numbered p) where
    settled_at : (ks : List ℕ) (qs : List Awaiting) → Ending y.outcome.event
        → Ends l p x count n b t f ks P u y d → TellsBehind l p x d.nodes ks qs → wrapped qs (some y) ≡ some y'
        → Goes l p x count n b P u y' (settled p d.taken t f b d.nodes d.track)
    unfolding wrapped
    settled_at ks qs (on h) e tells w =
        let r = y.outcome in
        let is : come_as (inside_as r qs) y.unused ≡ y' = cc (wrapped_on qs r y.unused h) in
        rw (settled_on p d t f b r.event h e.matches.event_is, ← is) (on_goes ks qs e tells h)
    settled_at [] [] (over h) e tells w =
        let is : y ≡ y' = cc in
        let tick = settled_over p d t f b y.outcome.event h e.matches.event_is in
        rw (tick, ends_last p d t f b e.chain, ← is) (last_goes e h)
    settled_at [] (q ∷ qs) (over h) e tells w = absurd tells
    settled_at (k ∷ ks) [] (over h) e tells w = absurd tells
    settled_at (k ∷ ks) (q ∷ qs) (over h) e tells w =
        let r = y.outcome in
        let is : come_as (right_as r q qs) y.unused ≡ y' = cc (wrapped_over q qs r y.unused h) in
        let tick = settled_over p d t f b r.event h e.matches.event_is in
        let room : Fits u (right_as r q qs) = subst (λ z. Fits u z.outcome) (sym is) fits in
        rw (tick, ends_starts p d t f b k ks e.chain, ← is)
        (over_goes k ks q qs e tells h (none_met h) room sound numbered)

    pub settled_goes : (ks : List ℕ) (qs : List Awaiting) → Ends l p x count n b t f ks P u y d
        → TellsBehind l p x d.nodes ks qs → wrapped qs (some y) ≡ some y'
        → Goes l p x count n b P u y' (settled p d.taken t f b d.nodes d.track)
    settled_goes ks qs e tells w = settled_at ks qs (ending y.outcome.event) e tells w
