-- A script's line over the words of a run comes to what document 01 says of it, from the state that the words hold. A line
-- that asks for a step has no more digits than there is room for; so the digits in the lent array are its address, its
-- answer is document 01's by the step's, and the words behind it hold the state behind it. Assumes nothing.
use Rattle.std.proofs.Common.{ℕ, ◌+◌, ◌≤◌, ◌≡◌, refl, ap, ◌∙◌, Bool, true, false, List, [], ◌∷◌, arith, length, leb}
use Rattle.std.proofs.Common.{leb-true}
use Rattle.std.proofs.Math.Option.{Option, none, some}
use Rattle.std.proofs.lemmas.List.Edits.{sets}
use Rattle.lines.specs.Line.{choose, Raw, characters}
use Rattle.lines.proofs.Digits.{both}
use Rattle.desk_lines.specs.DeskLine.{desk_frame}
use Rattle.scripts.specs.Script.{most, digits, well_formed, all_digits, in_range, Asked, address, asked}
use Rattle.scripts.specs.Script.{digits_of}
use Rattle.scripts.specs.Script as Script
use Rattle.terms.specs.Term.{Term}
use Rattle.rules.specs.Run.{State, Answer, accepted, refused}
use Rattle.plans.specs.words.Plan.{Layout}
use Rattle.runs.specs.words.Held.{Table, Holds, told, behind, lent}
use Rattle.runs.proofs.Answering.{step_answered, step_holds}
use Rattle.runs.proofs.Spelled.{digits_addressed}
use Rattle.playing.specs.LineAnswer.{line_answer}
use Rattle.playing.specs.words.Account.{line_told, first_told, first_behind, Plays}
use Rattle.playing.specs.code.Playing.{LinePlayed, with_played, of_answer, step_played, by_line, played}
use Rattle.playing.specs.Played.{Played}

-- what a line may ask for: no more digits than there is room for, or a refusal with a number
abbrev pub Sound : Asked → Type 0
Sound (address ds) = length ds ≤ most
Sound (Script.refused r) = r ≡ 0 → ⊥

-- every line asks for one of these
pub asked_sound : (f : Option (List ℕ)) → Sound (asked f)
unfolding asked in_range
asked_sound none = λ z. omega arith
asked_sound (some bs) = go (well_formed bs) (in_range (digits bs)) refl
  where
    go : (w r : Bool) → in_range (digits bs) ≡ r
        → Sound (choose w (choose r (address (digits bs)) (Script.refused 3)) (Script.refused 2))
    go true true e =
        leb-true (length (digits bs)) most (both (leb (length (digits bs)) most) (all_digits (digits bs)) e).0
    go true false e = λ z. omega arith
    go false r e = λ z. omega arith

-- the step's answer, told as the line's
answer_told : (next : ℕ) (o : Answer) → of_answer next (told o) ≡ line_told next o
unfolding of_answer told line_told
answer_told next (accepted e t) = refl
answer_told next (refused n) = refl

module _ (l : Layout) (p x : List ℕ) (ts : List Term) where
  -- a line whose answer is document 01's, with words that hold the state behind it
  pub record Answers (s : State) (next : ℕ) (z : LinePlayed) (o : Answer) : Type 0 where
    pub played_is : z.played ≡ line_told next o
    pub holds : Holds l p x ts z.nodes z.track z.counters (behind s o)

  module _ (table : Table l p x ts) (w g c : List ℕ) (s : State) (held : Holds l p x ts w g c s) (ds : List ℕ)
      (long : length ds ≡ most) where
    -- its own refusal, or its address's answer
    asked_answers : (next : ℕ) (a : Asked) → Sound a
        → Answers s next (by_line p x w g c (Script.told next a) (sets ds 0 (digits_of a))) (line_answer ts s a)
    unfolding by_line step_played Script.told digits_of line_answer line_told behind
    asked_answers next (address vs) few =
        rw (← digits_addressed ds vs (omega arith) few)
        (record {
          played_is =
              ap (of_answer next) (step_answered l p x ts (length vs) (sets ds 0 vs) table w g c s held)
              ∙ answer_told next _;
          holds = step_holds l p x ts (length vs) (sets ds 0 vs) table w g c s held;
        })
    asked_answers next (Script.refused r) numbered = record { played_is = refl; holds = held }

    -- the first of a script's lines, wherever it stands
    pub line_answers : (at : ℕ) (k : Raw) (ls : List Raw)
        → Answers s (at + length (characters k) + 1) (played p x w g c at (k ∷ ls) ds) (line_answer ts s (asked (desk_frame k)))
    unfolding played Script.answer Script.left
    line_answers at k ls = asked_answers _ (asked (desk_frame k)) (asked_sound (desk_frame k))

-- what a line comes to, whatever the words hold, is what it owes a run
module _ (p x w g c : List ℕ) (at : ℕ) (ds : List ℕ) where
  line_plays : (ls : List Raw) (z : LinePlayed) → z ≡ played p x w g c at ls ds
      → Plays p x ds at ls (lent w g c) z.played (lent z.nodes z.track z.counters)
  unfolding played by_line Script.answer first_told first_behind
  line_plays [] z e long l ts s table held = rw e (refl, held)
  line_plays (k ∷ ls) z e long l ts s table held =
      let answers = line_answers l p x ts table w g c s held ds long at k ls in
      rw e (answers.played_is, answers.holds)

  pub plays : (ls : List Raw) (r : Played) (v h k : List ℕ) → with_played r v h k ≡ played p x w g c at ls ds
      → Plays p x ds at ls (lent w g c) r (lent v h k)
  plays ls r v h k e = line_plays ls (with_played r v h k) e
