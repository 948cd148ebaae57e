-- What the functions over a run's block come to, whatever is lent: where the blocks are filled, what the door below comes to,
-- told as a number, with what was lent after it; else the number of the block that is not, with everything as it was.
use Rattle.std.specs.Prelude.{ℕ, Bool, List, length, leb}
use Rattle.std.proofs.lemmas.List.Edits.{sets}
use Rattle.lines.specs.Line.{Raw, choose}
use Rattle.sets.specs.EventSet.{member}
use Rattle.scripts.specs.Script as Script
use Rattle.offering.specs.code.Offering.{Offer}
use Rattle.offers.specs.code.Following.{offered}
use Rattle.status.specs.code.Status as at_reference
use Rattle.counting.specs.code.Counting.{reference}
use Rattle.runs.specs.code.Doors as Run
use Rattle.playing.specs.code.Playing as Line
use Rattle.answers.specs.Numbers as told
use Rattle.answers.specs.words.Blocks.{run_stamp, head_word, unready, unless}

-- a run's block that was started
pub record StartTold : Type 0 where
  pub stamp : ℕ
  pub nodes : List ℕ
  pub track : List ℕ
  pub counters : List ℕ

abbrev pub with_start : ℕ → List ℕ → List ℕ → List ℕ → StartTold
with_start s w g c = record { stamp = s; nodes = w; track = g; counters = c }

abbrev pub started : StartTold
started = with_start run_stamp Run.fresh_nodes Run.fresh_track Run.fresh_counters

-- a number, with a run's block
pub record RunTold : Type 0 where
  pub number : ℕ
  pub digits : List ℕ
  pub nodes : List ℕ
  pub track : List ℕ
  pub counters : List ℕ

abbrev pub with_run : ℕ → List ℕ → List ℕ → List ℕ → List ℕ → RunTold
with_run n ds w g c = record { number = n; digits = ds; nodes = w; track = g; counters = c }

-- a number and a cursor, with a run's block
pub record LineTold : Type 0 where
  pub number : ℕ
  pub at : ℕ
  pub digits : List ℕ
  pub nodes : List ℕ
  pub track : List ℕ
  pub counters : List ℕ

abbrev pub with_line : ℕ → ℕ → List ℕ → List ℕ → List ℕ → List ℕ → LineTold
with_line n at ds w g c = record { number = n; at = at; digits = ds; nodes = w; track = g; counters = c }

-- a number, with the events that are offered
pub record EventsTold : Type 0 where
  pub number : ℕ
  pub event : ℕ → Bool

abbrev pub with_events : ℕ → ℕ → EventsTold
with_events n events = record { number = n; event = λ k. member k events }

-- what the doors below come to, told
abbrev pub step_told : List ℕ → Run.Stepped → RunTold
step_told ds s = with_run (told.of_step s.answer) ds s.nodes s.track s.counters

abbrev pub line_told : ℕ → List ℕ → Line.LinePlayed → LineTold
line_told at ds s =
    with_line (told.of_played s.played) (told.cursor_behind at s.played) ds s.nodes s.track s.counters

abbrev pub offers_told : Offer → EventsTold
offers_told o = record { number = told.of_offers o.tau o.tick; event = o.event }

-- a step by an address; more digits than one may have name no step
abbrev pub step_by : List ℕ → List ℕ → List ℕ → List ℕ → List ℕ → List ℕ → List ℕ → RunTold
step_by p x ds w g c address =
    choose (leb (length address) Script.most)
    (step_told (sets ds 0 address) (Run.stepped p x (length address) (sets ds 0 address) w g c))
    (with_run (told.of_refusal 7) ds w g c)

module _ (head : List ℕ) (stamp : ℕ) (p x ds w g c : List ℕ) where
  unfoldable pub stepped : List ℕ → RunTold
  stepped address =
      unless (unready (head_word head 0) stamp) (λ n. with_run n ds w g c) (step_by p x ds w g c address)

  -- the first of a script's lines, where they stand from `at` on
  unfoldable pub played : ℕ → List Raw → LineTold
  played at ls =
      unless (unready (head_word head 0) stamp) (λ n. with_line n at ds w g c)
      (line_told at (sets ds 0 (Script.left ls)) (Line.played p x w g c at ls ds))

module _ (head : List ℕ) (stamp : ℕ) (p x w c : List ℕ) where
  unfoldable pub offers : ℕ → EventsTold
  offers events =
      unless (unready (head_word head 0) stamp) (λ n. with_events n events) (offers_told (offered p x w (reference c)))

  unfoldable pub status : ℕ
  status =
      unless (unready (head_word head 0) stamp) (λ n. n) (told.of_status (at_reference.status p x w (reference c)))
