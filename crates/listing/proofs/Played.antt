-- The lines of a script over the words of a run come to what document 01 says of them, from the state that the words
-- hold. Each line's answer is document 01's, and the words behind it hold the state behind it (`line_answers`); so the
-- events, the refusal and the words go on together, line by line. Assumes nothing.
use Rattle.std.proofs.Common.{ℕ, zero, suc, ◌+◌, ◌≡◌, refl, ap, ◌∙◌, List, [], ◌∷◌, arith, length}
use Rattle.std.proofs.Math.Option.{Option, none, some}
use Rattle.std.proofs.Math.Seq.{length-sets}
use Rattle.lines.specs.Line.{Raw, text}
use Rattle.desk_lines.specs.DeskLine.{desk_frame}
use Rattle.scripts.specs.Script.{most, Asked, address, asked}
use Rattle.scripts.specs.Script as Script
use Rattle.terms.specs.Term.{Term}
use Rattle.rules.specs.declared.Event.{Event}
use Rattle.rules.specs.Process.{Address}
use Rattle.rules.specs.Step.{Stepped, step}
use Rattle.rules.specs.Run.{State, stands, over_room, Answer, accepted, refused}
use Rattle.rules.specs.Run as Run
use Rattle.plans.specs.words.Plan.{Layout}
use Rattle.runs.specs.words.Held.{Table, Holds, behind}
use Rattle.rules.specs.Addressed.{answered}
use Rattle.playing.specs.LineAnswer.{line_answer}
use Rattle.playing.specs.words.Account.{line_told}
use Rattle.playing.specs.code.Playing as plays
use Rattle.playing.proofs.Account.{Sound, asked_sound, Answers, line_answers}
use Rattle.listing.specs.Listing.{Played, end_frames, goes_on, played}
use Rattle.listing.specs.code.Told.{Stopped, stops, in_front, by_played, stepped, stop_text}
use Rattle.listing.proofs.Lines.{stop_told}

-- an answer that has a number where it is a refusal
abbrev Numbered : Answer → Type 0
Numbered (accepted e s) = Unit {0}
Numbered (refused r) = r ≡ 0 → ⊥

-- every answer has: by the rooms, by the digits left over, by the derivation and by the address
room_numbered : (n : ℕ) (e : Event) (s : State) → Numbered (Run.within_room n e s)
unfolding Run.within_room
room_numbered zero e s = tt
room_numbered (suc n) e s = λ z. omega arith

whole_numbered : (a : Address) (e : Event) (s : State) → Numbered (Run.whole a e s)
unfolding Run.whole
whole_numbered [] e s = room_numbered (over_room s) e s
whole_numbered (d ∷ a) e s = λ z. omega arith

step_numbered : (s : State) (o : Option Stepped) → Numbered (Run.answered s o)
unfolding Run.answered
step_numbered s none = λ z. omega arith
step_numbered s (some y) = whole_numbered y.unused _ _

address_numbered : (ts : List Term) (s : State) (o : Option Address) → Numbered (answered ts s o)
unfolding answered Run.answer
address_numbered ts s none = λ z. omega arith
address_numbered ts s (some a) = step_numbered s (step ts s.process (stands s) a)

-- by what the line asks for
asked_numbered : (ts : List Term) (s : State) (a : Asked) → Sound a → Numbered (line_answer ts s a)
unfolding line_answer
asked_numbered ts s (address ds) few = address_numbered ts s _
asked_numbered ts s (Script.refused r) numbered = numbered

module _ (l : Layout) (p x : List ℕ) (ts : List Term) where
  -- what the words' lines come to is what the lines do: the same events and refusal, and words that hold the state
  pub record Agrees (z : Stopped) (r : Played) : Type 0 where
    pub events_are : z.events ≡ r.events
    pub stop_is : stop_text z.number z.line ≡ text (end_frames r.end)
    pub holds : Holds l p x ts z.nodes z.track z.counters r.state

  -- by a line's answer: a step goes on, and a refusal stops
  line_agrees : (s : State) (next n : ℕ) (z : plays.LinePlayed) (o : Answer) → Answers l p x ts s next z o
      → Numbered o
      → (rest : Stopped) (then : State → Played) → Agrees rest (then (behind s o))
      → Agrees (by_played n z rest z.played) (goes_on s n then o)
  unfolding goes_on by_played in_front stops behind line_told end_frames
  line_agrees s next n z (accepted e t) answers numbered rest then agrees =
      rw answers.played_is
      (record {
        events_are = ap (λ es. e ∷ es) agrees.events_are;
        stop_is = agrees.stop_is;
        holds = agrees.holds;
      })
  line_agrees s next n z (refused r) answers numbered rest then agrees =
      rw answers.played_is
      (record { events_are = refl; stop_is = stop_told r n numbered; holds = answers.holds })

  module _ (table : Table l p x ts) where
    -- the lines of a script, from any state
    pub stepped_agrees : (ls : List Raw) (n : ℕ) (ds : List ℕ) → length ds ≡ most → (w g c : List ℕ) (s : State)
        → Holds l p x ts w g c s → Agrees (stepped p x n ls ds w g c) (played ts s n ls)
    unfolding text stepped played stops stop_text end_frames plays.played plays.by_line Script.answer
    stepped_agrees [] n ds long w g c s held = record { events_are = refl; stop_is = refl; holds = held }
    stepped_agrees (k ∷ ls) n ds long w g c s held =
        let answers = line_answers l p x ts table w g c s held ds long 0 k ls in
        let numbered = asked_numbered ts s (asked (desk_frame k)) (asked_sound (desk_frame k)) in
        line_agrees s _ n _ _ answers numbered _ _
        (stepped_agrees ls (n + 1) _ (length-sets ds 0 (Script.left (k ∷ ls)) ∙ long) _ _ _ _ answers.holds)
