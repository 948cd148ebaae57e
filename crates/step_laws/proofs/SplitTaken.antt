-- The step that the words take at an entered choice or parallel, by the digit that it reads: 1 or 2 for a
-- side, 3 for both, 4 for the end of both. Assumes nothing.
use Rattle.std.proofs.Common.{ℕ, suc, ◌+◌, ◌-◌, ◌≡◌, sym, ◌∙◌, List, [], ◌∷◌}
use Rattle.std.proofs.Math.Option.{Option, some}
use Rattle.terms.specs.Term.{Term}
use Rattle.places.specs.Place.{Place}
use Rattle.rules.specs.Process.{one, two, three, four, Address, Split, choice, together, Process, split}
use Rattle.rules.specs.Track.{first_eval}
use Rattle.rules.specs.Step.{Stepped}
use Rattle.plans.specs.words.Plan.{Layout, second}
use Rattle.control.specs.words.Words.{node}
use Rattle.control.specs.words.Control.{term, frame}
use Rattle.control.proofs.Chains.{Awaiting}
use Rattle.looking.specs.code.Looking.{digit_at, taken}
use Rattle.weighing.proofs.Told.{From, wrapped, from_at, next_at}
use Rattle.weighing.proofs.Told as Told
use Rattle.leaves.specs.code.Leaves.{Done, end}
use Rattle.stepping.specs.code.Take.{take, in_side, close, across, close_both}
use Rattle.drawing.specs.declared.Tally.{Tally}
use Rattle.step_laws.proofs.Writing.{Words}
use Rattle.step_laws.proofs.Going.{at_words, Fits}
use Rattle.step_laws.proofs.Settling.{Numbered}
use Rattle.step_laws.proofs.Opening.{Side, left, right, number, side_term, frame_in}
use Rattle.step_laws.proofs.Starting.{next_term, inside_told}
use Rattle.step_laws.proofs.SplitStep.{split_step}
use Rattle.step_laws.proofs.Nesting.{none_wrapped, Went, Takes}
use Rattle.step_laws.proofs.Splitting.{Splitting, splitting_turned, one_opened}
use Rattle.step_laws.proofs.SplitBoth.{joint_opened, end_opened}

module _ (l : Layout) (p x : List ℕ) (ts : List Term) (count : ℕ) (ds : List ℕ) (numbered : Numbered p)
    (deep : ℕ)
    (takes : Takes l p x ts count ds deep) (n b : ℕ) (ks : List ℕ) (qs : List Awaiting) (v : Place)
    (m o : Option ℕ)
    (P Q : Process) (c at size : ℕ) (u : Words) (r : Stepped) (fits : Fits u r.outcome) where
  abbrev w : List ℕ
  w = u.nodes

  abbrev go : ℕ → ℕ → ℕ → ℕ → Tally → List ℕ → List ℕ → Done
  go = take p count ds deep

  abbrev code : Done
  code = take p count ds (suc deep) n b at size u.tally w u.track

  abbrev SplitsSo : Split → Type 0
  SplitsSo k = Splitting l p x ts count ds numbered deep takes left n b ks qs v k m o P Q size u

  -- the side that the digit names
  abbrev by_one : Split → Side → Done
  by_one k s = in_side p count ds go n (number s) (side_term p s (term w n)) (frame_in p w k n) (suc at)
      (node (5 + number s) w n) u.tally w u.track

  side_taken : (k : Split) → SplitsSo k → (s : Side) → digit_at ds count at ≡ number s
      → code ≡ close p count ds n (number s) b size (node (5 + number s) w n) (node (8 - number s) w n)
      (by_one k s)
  unfolding take taken Told.number
  side_taken k h left e =
      let splits = h.entry.there.splits in
      rw (
        splits.enters,
        e,
        next_term p (term w n) k splits.kind_is,
        inside_told p k (term w n) n (frame w n) splits.kind_is,
        next_at ds count at one e,
      )
  side_taken k h right e =
      let splits = h.entry.there.splits in
      rw (
        splits.enters,
        e,
        inside_told p k (term w n) n (frame w n) splits.kind_is,
        next_at ds count at two e,
      )

  both_taken : (f : ℕ) → SplitsSo (together f) → digit_at ds count at ≡ 3
      → code ≡ close_both p count ds n size (node 6 w n) (node 7 w n) u.tally.met
      (by_one (together f) left)
      (across p count ds go n (second p (term w n)) (frame_in p w (together f) n) (node 7 w n)
      (by_one (together f) left))
  unfolding take Told.number
  both_taken f h e =
      let splits = h.entry.there.splits in
      rw (
        splits.enters,
        e,
        next_term p (term w n) (together f) splits.kind_is,
        inside_told p (together f) (term w n) n (frame w n) splits.kind_is,
        next_at ds count at three e,
      )

  end_taken : (k : Split) → SplitsSo k → digit_at ds count at ≡ 4 → code
      ≡ end p n b at size u.tally w u.track
  unfolding take
  end_taken k h e = rw (h.entry.there.splits.enters, e)

  pub opened_goes : (k : Split) (a : Address) → SplitsSo k → From ds count at a
      → wrapped qs (split_step ts v k m o P Q (first_eval m (some c) v (at_words n u))
      (first_eval o (some c) v (at_words n u))
      (at_words n u) a) ≡ some r
      → Went l p x ts count ds n b (split v k m o P Q) u r code
  unfolding split_step Told.number
  opened_goes k [] h from steps = absurd (none_wrapped qs r steps)
  opened_goes k (one ∷ a) h from steps =
      rw (side_taken k h left from.0)
      (one_opened l p x ts count ds numbered deep takes left n b ks qs v k m o P Q c a (suc at) size u r h
      from.1 fits steps)
  opened_goes k (two ∷ a) h from steps =
      rw (side_taken k h right from.0)
      (one_opened l p x ts count ds numbered deep takes right n b ks qs v k o m Q P c a (suc at) size u r
      (splitting_turned l p x ts count ds numbered deep takes left n b ks qs v k m o P Q size u h) from.1
      fits steps)
  opened_goes choice (three ∷ a) h from steps = absurd (none_wrapped qs r steps)
  opened_goes (together f) (three ∷ a) h from steps =
      rw (both_taken f h from.0)
      (joint_opened l p x ts count ds numbered deep takes n b ks qs v f m o P Q c a (suc at) size u r h
      from.1 fits steps)
  opened_goes choice (four ∷ a) h from steps = absurd (none_wrapped qs r steps)
  opened_goes (together f) (four ∷ a) h from steps =
      rw (end_taken (together f) h from.0)
      (end_opened l p x ts count ds numbered deep takes n b ks qs v f m o a at size u r fits
      (next_at ds count at four from.0 ∙ sym (from_at ds count (suc at) a from.1)) P Q steps h)
