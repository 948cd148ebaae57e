-- What a script's line comes to, with the words after it, by what its tests found: each law takes what the calls on
-- the way promise. What that says of a run is `plays`. Assumes nothing.
use Rattle.std.proofs.Common.{ℕ, ◌≡◌, refl, sym, ap, List, Option, Some, None, Result, Ok, Err}
use Rattle.std.proofs.lemmas.List.Edits.{sets}
use Rattle.lines.specs.Line.{Raw}
use Rattle.lines.specs.declared.Refusal.{Refusal}
use Rattle.lines.proofs.Refusals.{number_once}
use Rattle.scripts.specs.Script as Script
use Rattle.scripts.specs.ScriptStep.{ScriptStep}
use Rattle.scripts.specs.ScriptStep as Lines
use Rattle.runs.specs.code.Doors.{stepped}
use Rattle.runs.specs.words.Held.{lent}
use Rattle.playing.specs.words.Account.{Plays}
use Rattle.playing.specs.code.Playing.{LinePlayed, with_played, of_answer, step_played}
use Rattle.playing.specs.code.Playing.{by_line, played}
use Rattle.runs.specs.Answer.{Answer, Accepted, Refused}
use Rattle.runs.specs.declared.Shown.{Shown}
use Rattle.playing.specs.declared.PlayedStep.{PlayedStep}
use Rattle.playing.specs.Played.{Played, played_told}
use Rattle.playing.specs.Played as Comes
use Rattle.runs.proofs.Laws.{Steps}
use Rattle.playing.proofs.Account.{plays}

-- what a line comes to, where it is no refusal
told_back : Played → Result (Option PlayedStep) Refusal
told_back (Comes.Stepped e next) = Ok (Some (record { event = e; next = next }))
told_back (Comes.Refused n) = Ok None
told_back Comes.End = Ok None

pub played_told_once : (x y : Result (Option PlayedStep) Refusal) → played_told x ≡ played_told y → x ≡ y
unfolding played_told told_back
played_told_once (Ok (Some a)) (Ok (Some b)) same = ap told_back same
played_told_once (Ok (Some a)) (Ok None) same = cc
played_told_once (Ok (Some a)) (Err s) same = cc
played_told_once (Ok None) (Ok (Some b)) same = cc
played_told_once (Ok None) (Ok None) same = refl
played_told_once (Ok None) (Err s) same = cc
played_told_once (Err r) (Ok (Some b)) same = cc
played_told_once (Err r) (Ok None) same = cc
played_told_once (Err r) (Err s) same = ap Err (number_once r s cc)

-- the line of a script that stands from `at` on, with digits es in the lent array then
module _ (p x w g c : List ℕ) (at : ℕ) (ls : List Raw) (ds es : List ℕ) (line : ScriptStep)
    (reads : (line ≡ Script.answer at ls) × (es ≡ sets ds 0 (Script.left ls))) where
  abbrev Whole : LinePlayed
  Whole = played p x w g c at ls ds

  -- what `play` promises: the line comes to r, with words v, h and k after it
  abbrev pub Told : Played → List ℕ → List ℕ → List ℕ → Type 0
  Told r v h k =
      (with_played r v h k ≡ Whole)
      × ((es ≡ sets ds 0 (Script.left ls)) × Plays p x ds at ls (lent w g c) r (lent v h k))

  tells : (r : Played) (v h k : List ℕ) → with_played r v h k ≡ Whole → Told r v h k
  tells r v h k e = (e, (reads.1, plays p x w g c at ds ls r v h k e))

  line_by : (s : ScriptStep) → line ≡ s → Whole ≡ by_line p x w g c s es
  unfolding played
  line_by s h = rw (← h, reads.0, reads.1)

  -- a line that asks for no step
  pub line_refused : (m : ℕ) → line ≡ Lines.Refused m → Told (Comes.Refused m) w g c
  unfolding by_line
  line_refused m is = tells (Comes.Refused m) w g c (sym (line_by (Lines.Refused m) is))

  pub script_ends : line ≡ Lines.End → Told Comes.End w g c
  unfolding by_line
  script_ends is = tells Comes.End w g c (sym (line_by Lines.End is))

  module _ (n next : ℕ) (asks : line ≡ Lines.Address n next) (a : Answer) (v h k : List ℕ)
      (so : Steps a v h k (stepped p x n es w g c)) where
    answered : with_played (of_answer next a) v h k ≡ Whole
    unfolding by_line step_played
    answered = rw (line_by _ asks, ← so)

    pub step_refused : (m : ℕ) → a ≡ Refused m → Told (Comes.Refused m) v h k
    unfolding of_answer
    step_refused m is = tells (Comes.Refused m) v h k (rw is at answered)

    pub shown_played : (s : Shown) → a ≡ Accepted s → Told (Comes.Stepped s.event next) v h k
    unfolding of_answer
    shown_played s is = tells (Comes.Stepped s.event next) v h k (rw is at answered)
