-- What the doors promise of a run, from what they promise of the words: `start_holds`, `step_answered` and `step_holds`.
-- Assumes nothing.
use Rattle.std.proofs.Common.{ℕ, ◌≡◌, ap, ◌∙◌, List}
use Rattle.runs.specs.code.Doors.{fresh_nodes, fresh_track, fresh_counters, Stepped, stepped}
use Rattle.runs.specs.words.Held.{lent, Keeps, Begins}
use Rattle.runs.specs.Answer.{Answer}
use Rattle.runs.proofs.Laws.{Steps}
use Rattle.runs.proofs.Starting.{start_holds}
use Rattle.runs.proofs.Answering.{step_answered, step_holds}

pub begins : (w g c : List ℕ) → w ≡ fresh_nodes → g ≡ fresh_track → c ≡ fresh_counters → Begins (lent w g c)
begins w g c e f h l p x ts = rw (e, f, h) (start_holds l p x ts)

module _ (p x : List ℕ) (count : ℕ) (ds w g c : List ℕ) (r : Answer) (w' g' c' : List ℕ) where
  -- what `step` promises
  abbrev pub Promised : Type 0
  Promised = Steps r w' g' c' (stepped p x count ds w g c) × Keeps p x count ds (lent w g c) r (lent w' g' c')

  keeps : Steps r w' g' c' (stepped p x count ds w g c) → Keeps p x count ds (lent w g c) r (lent w' g' c')
  keeps e l ts s table held = (
    ap (λ (q : Stepped). q.answer) e ∙ step_answered l p x ts count ds table w g c s held,
    rw (← e) at (step_holds l p x ts count ds table w g c s held),
  )

  pub promised : Steps r w' g' c' (stepped p x count ds w g c) → Promised
  promised e = (e, keeps e)
