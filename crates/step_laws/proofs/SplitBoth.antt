-- The joint step of an entered parallel, through the words: the left's step, the right's from the words that
-- it leaves, and their meetings, from what both come to one level deeper. And the end of a parallel whose
-- sides have ended. Assumes nothing.
use Rattle.std.proofs.Common.{ℕ, ◌+◌, ◌-◌, ◌≡◌, refl, Bool, true, false, ◌&&◌, List, arith, length, eqb}
use Rattle.std.proofs.Math.Option.{Option, none, some, none-ne-some}
use Rattle.lines.specs.Line.{choose}
use Rattle.sets.specs.EventSet.{member}
use Rattle.terms.specs.Term.{Term}
use Rattle.places.specs.Place.{Place}
use Rattle.rules.specs.declared.Event.{Event}
use Rattle.rules.specs.declared.Event.TheVariants.{Tau as τ, Tick as ✓, Visible as visible}
use Rattle.rules.specs.Process.{Address, together, Process, leaf, prefix, internal, split, sequence, Ω, ⊥'}
use Rattle.rules.specs.Track.{Entered, first_eval, inside, beside, jointly, ended}
use Rattle.rules.specs.Step.{Stepped, stepped, step, same, then, at_Ω}
use Rattle.plans.specs.words.Plan.{Layout, second}
use Rattle.control.specs.words.Words.{node}
use Rattle.control.specs.words.Control.{term}
use Rattle.control.proofs.Chains.{Awaiting}
use Rattle.control.specs.words.Sums.{capped}
use Rattle.weighing.proofs.Told.{From, wrapped, from_left}
use Rattle.leaves.specs.code.Leaves.{Done, end}
use Rattle.stepping.specs.code.Take.{take, across, close_both}
use Rattle.step_laws.proofs.Writing.{Words}
use Rattle.step_laws.proofs.Going.{at_words, Fits}
use Rattle.step_laws.proofs.Settling.{Numbered, fits_part}
use Rattle.step_laws.proofs.Opening.{left, right, frame_in}
use Rattle.step_laws.proofs.Starting.{starts_by, start_fits, in_side_is}
use Rattle.step_laws.proofs.OneSide.{Turns}
use Rattle.step_laws.proofs.BothSides.{between, both_goes}
use Rattle.step_laws.proofs.Joining.{left_room, right_fits, right_starts, across_is}
use Rattle.step_laws.proofs.Ending.{end_goes}
use Rattle.step_laws.proofs.Sideless.{put_side_sideless, both_sideless, end_sideless}
use Rattle.step_laws.proofs.SplitStep.{joint_both, joint_right, right_at}
use Rattle.step_laws.proofs.Nesting.{none_wrapped, Found, absent, present, found, Went, Takes}
use Rattle.step_laws.proofs.Splitting.{closed_goes, Splitting, side_done, side_code, side_goes}
use Rattle.step_laws.proofs.Splitting.{side_marked}

-- sides that do the same do a visible event
same_shows : (x : ℕ) (a b : Event) (e : ℕ) → same x a b ≡ some e → a ≡ visible e
unfolding same
same_shows x τ b e h = absurd (none-ne-some e h)
same_shows x ✓ b e h = absurd (none-ne-some e h)
same_shows x (visible i) τ e h = absurd (none-ne-some e h)
same_shows x (visible i) ✓ e h = absurd (none-ne-some e h)
same_shows x (visible i) (visible j) e h = go (eqb i j && member i x) h
  where
    go : (t : Bool) → choose t (some i) none ≡ some e → visible i ≡ visible e
    go true q = cc
    go false q = absurd (none-ne-some e q)

-- an event is there, or not
data Shown (r : Option ℕ) : Type 0 where
  nowhere : r ≡ none → Shown r
  there_is : (e : ℕ) → r ≡ some e → Shown r

shown : (r : Option ℕ) → Shown r
shown none = nowhere refl
shown (some e) = there_is e refl

module _ (l : Layout) (p x : List ℕ) (ts : List Term) (count : ℕ) (ds : List ℕ) (numbered : Numbered p)
    (deep : ℕ)
    (takes : Takes l p x ts count ds deep) (n b : ℕ) (ks : List ℕ) (qs : List Awaiting) (v : Place) (f : ℕ)
    (m o : Option ℕ) (P Q : Process) (c : ℕ) (a : Address) (at size : ℕ) (u : Words) (r : Stepped)
    (h : Splitting l p x ts count ds numbered deep takes left n b ks qs v (together f) m o P Q size u)
    (from : From ds count at a) (fits : Fits u r.outcome) where
  abbrev i : Entered
  i = first_eval m (some c) v (at_words n u)

  abbrev own : ℕ
  own = node 6 u.nodes n

  abbrev other : ℕ
  other = node 7 u.nodes n

  abbrev left_done : Done
  left_done =
      side_done l p x ts count ds numbered deep takes left n b ks v (together f) m o P Q c a at own u r

  abbrev left_code : Done
  left_code =
      side_code l p x ts count ds numbered deep takes left n b ks v (together f) m o P Q c a at own u r

  abbrev joint_code : Done
  joint_code = close_both p count ds n size own other u.tally.met left_code
      (across p count ds (take p count ds deep) n (second p (term u.nodes n))
      (frame_in p u.nodes (together f) n) other
      left_code)

  -- both sides step
  module _ (y z : Stepped) (e : ℕ) (left_step : step ts P (inside i (at_words n u)) a ≡ some y)
      (right_step : step ts Q (right_at v o i (at_words n u) y) y.unused ≡ some z)
      (shows : y.outcome.event ≡ visible e) where
    abbrev both_made : Stepped
    both_made = record {
      outcome =
          jointly i y.outcome (first_eval o (some i.reference) v (beside (at_words n u) i y.outcome))
          z.outcome e
          (split v (together f) (some y.outcome.reference) (some z.outcome.reference)
          y.outcome.process
          z.outcome.process)
          n;
      unused = z.unused;
    }

    joint_loud : both_made.outcome.event ≡ ✓ → ⊥
    unfolding jointly
    joint_loud q = let z : ◌≡◌ {A = ℕ} 0 1 = cc in omega arith

    both_went : wrapped qs (some both_made) ≡ some r
        → Went l p x ts count ds n b (split v (together f) m o P Q) u r joint_code
    unfolding close_both
    both_went steps =
        let k = together f in
        let s = at_words n u in
        let entry = h.entry in
        let splits = entry.there.splits in
        let room = fits_part u both_made r qs steps (λ q. absurd (joint_loud q)) fits in
        let less = left_room l p x count ts n b ks v f m o P Q c a u y z entry left_step right_step e room in
        let start = starts_by l p x count ts left n b ks v k m o P Q c a u y entry left_step
        y.outcome.event
        y.outcome.process y.outcome.reference (omega arith) less in
        let went = side_goes l p x ts count ds numbered deep takes left n b ks v k m o P Q c a at own u y
        start h.sideless
        h.calls from splits.left_cells h.enough h.small
        (start_fits start y.outcome.event y.outcome.process y.outcome.reference less) in
        let turn : Turns l p x count ts left n b ks v k m o P Q c a u y left_done =
        record { starts = start; goes = went.goes } in
        let marked = side_marked l p x ts count ds numbered deep takes left n b ks v k m o P Q c a at own u y
        turn in
        let next = right_starts l p x count ts n b ks v f m o P Q c a u y z entry left_step right_step e room
        left_done turn in
        let over = right_fits l p x count ts n b ks v f m o P Q c a u y z entry left_step right_step e room
        left_done turn in
        let behind_left = from_left ds count ts at P (inside i s) a y left_step from in
        let at' = left_done.taken.at in
        let went_right = side_goes l p x ts count ds numbered deep takes right n b ks v k o
        (some y.outcome.reference) Q
        y.outcome.process i.reference y.unused at' other (between turn) z next
        (put_side_sideless n 1 left_done.nodes (omega arith, omega arith) marked went.keeps.after
        left_done.taken.reference left_done.taken.size)
        h.other_calls (rw turn.goes.matches.at_is behind_left) splits.right_cells h.other_enough
        h.other_small (start_fits next z.outcome.event z.outcome.process z.outcome.reference
        over) in
        let right_done = side_done l p x ts count ds numbered deep takes right n b ks v k o
        (some y.outcome.reference) Q
        y.outcome.process i.reference y.unused at' other (between turn) z in
        let next_turn : Turns l p x count ts right n b ks v k o (some y.outcome.reference) Q
        y.outcome.process
        i.reference y.unused (between turn) z right_done =
        record { starts = next; goes = went_right.goes } in
        let still = side_marked l p x ts count ds numbered deep takes right n b ks v k o
        (some y.outcome.reference) Q
        y.outcome.process i.reference y.unused at' other (between turn) z next_turn in
        rw (
          in_side_is start ds (take p count ds deep) at own,
          across_is turn next ds (take p count ds deep) other,
        )
        (record {
          goes = closed_goes l p x ts count ds numbered n b ks qs (split v k m o P Q) u both_made r
              _ entry.sound h.tells
              (λ q. absurd (joint_loud q)) (both_goes turn next_turn e shows size h.sized h.few room)
              steps fits;
          keeps = both_sideless n right_done.nodes right_done.track still went_right.keeps.after
              size own other
              u.tally.met left_done.taken right_done.taken;
        })

  joint_shown : (y z : Stepped) → step ts P (inside i (at_words n u)) a ≡ some y
      → step ts Q (right_at v o i (at_words n u) y) y.unused ≡ some z
      → Shown (same f y.outcome.event z.outcome.event)
      → wrapped qs (joint_both f v o i (at_words n u) y z (same f y.outcome.event z.outcome.event))
      ≡ some r
      → Went l p x ts count ds n b (split v (together f) m o P Q) u r joint_code
  unfolding joint_both
  joint_shown y z left_step right_step (nowhere q) steps = absurd (none_wrapped qs r (rw q at steps))
  joint_shown y z left_step right_step (there_is e q) steps =
      both_went y z e left_step right_step (same_shows f y.outcome.event z.outcome.event e q)
      (rw q at steps)

  joint_found : (y : Stepped) → step ts P (inside i (at_words n u)) a ≡ some y
      → Found (step ts Q (right_at v o i (at_words n u) y) y.unused)
      → wrapped qs (joint_right f v o i (at_words n u) y
      (step ts Q (right_at v o i (at_words n u) y) y.unused)) ≡ some r
      → Went l p x ts count ds n b (split v (together f) m o P Q) u r joint_code
  unfolding joint_right
  joint_found y left_step (absent q) steps = absurd (none_wrapped qs r (rw q at steps))
  joint_found y left_step (present z q) steps = joint_shown y z left_step q (shown _) (rw q at steps)

  joint_by : Found (step ts P (inside i (at_words n u)) a)
      → wrapped qs (then (step ts P (inside i (at_words n u)) a)
      (λ y. joint_right f v o i (at_words n u) y (step ts Q (right_at v o i (at_words n u) y) y.unused)))
      ≡ some r
      → Went l p x ts count ds n b (split v (together f) m o P Q) u r joint_code
  unfolding then
  joint_by (absent e) steps = absurd (none_wrapped qs r (rw e at steps))
  joint_by (present y e) steps = joint_found y e (found _) (rw e at steps)

  pub joint_opened : wrapped qs (then (step ts P (inside i (at_words n u)) a)
      (λ y. joint_right f v o i (at_words n u) y (step ts Q (right_at v o i (at_words n u) y) y.unused)))
      ≡ some r
      → Went l p x ts count ds n b (split v (together f) m o P Q) u r joint_code
  joint_opened = joint_by (found (step ts P (inside i (at_words n u)) a))

-- a process that has ended is Ω
ended_Ω : (P : Process) → at_Ω P ≡ true → P ≡ Ω
unfolding at_Ω
ended_Ω (leaf v f) h = let z : ◌≡◌ {A = ℕ} 0 1 = cc in absurd (omega arith)
ended_Ω (prefix v e P) h = let z : ◌≡◌ {A = ℕ} 0 1 = cc in absurd (omega arith)
ended_Ω (internal v P Q) h = let z : ◌≡◌ {A = ℕ} 0 1 = cc in absurd (omega arith)
ended_Ω (split v k m n P Q) h = let z : ◌≡◌ {A = ℕ} 0 1 = cc in absurd (omega arith)
ended_Ω (sequence v b P Q) h = let z : ◌≡◌ {A = ℕ} 0 1 = cc in absurd (omega arith)
ended_Ω Ω h = refl
ended_Ω ⊥' h = let z : ◌≡◌ {A = ℕ} 0 1 = cc in absurd (omega arith)

module _ (l : Layout) (p x : List ℕ) (ts : List Term) (count : ℕ) (ds : List ℕ) (numbered : Numbered p)
    (deep : ℕ)
    (takes : Takes l p x ts count ds deep) (n b : ℕ) (ks : List ℕ) (qs : List Awaiting) (v : Place) (f : ℕ)
    (m o : Option ℕ) (a : Address) (at size : ℕ) (u : Words) (r : Stepped) (fits : Fits u r.outcome)
    (is_at : capped (at + 1) ≡ count - length a) where
  abbrev Ended : Process → Process → Type 0
  Ended P Q =
      Splitting l p x ts count ds numbered deep takes left n b ks qs v (together f) m o P Q size u
      → Went l p x ts count ds n b (split v (together f) m o P Q) u r
      (end p n b at size u.tally u.nodes u.track)

  end_went : wrapped qs (stepped (ended m o (at_words n u)) a) ≡ some r → Ended Ω Ω
  unfolding ended
  end_went steps h =
      let made : Stepped = record { outcome = ended m o (at_words n u); unused = a } in
      let room = fits_part u made r qs steps (λ q. (refl, refl)) fits in
      record {
        goes = closed_goes l p x ts count ds numbered n b ks qs (split v (together f) m o Ω Ω) u made r _
            h.entry.sound
            h.tells (λ q. refl) (end_goes h.entry room at size a is_at h.sized) steps fits;
        keeps = end_sideless p n b at size 0 u.tally u.nodes u.track h.sideless;
      }

  end_both : (P Q : Process) (c d : Bool) → at_Ω P ≡ c → at_Ω Q ≡ d
      → wrapped qs (choose (c && d) (stepped (ended m o (at_words n u)) a) none) ≡ some r → Ended P Q
  end_both P Q true true e g steps = rw (ended_Ω P e, ended_Ω Q g) (end_went steps)
  end_both P Q true false e g steps = absurd (none_wrapped qs r steps)
  end_both P Q false d e g steps = absurd (none_wrapped qs r steps)

  pub end_opened : (P Q : Process)
      → wrapped qs (choose (at_Ω P && at_Ω Q) (stepped (ended m o (at_words n u)) a) none) ≡ some r
      → Ended P Q
  end_opened P Q steps = end_both P Q (at_Ω P) (at_Ω Q) refl refl steps
