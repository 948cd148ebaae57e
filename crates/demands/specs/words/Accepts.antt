-- A step, and a script's line, through its door that document 01 accepts, with an outcome that the door's promise allows.
use Rattle.std.specs.Prelude.{ℕ, ◌≡◌, List, ◌∷◌, length, drop}
use Rattle.std.proofs.Math.Option.{some}
use Rattle.lines.specs.Line.{Raw, lines}
use Rattle.desk_lines.specs.DeskLine.{desk_frame}
use Rattle.scripts.specs.Script.{most, asked}
use Rattle.tables.specs.Table.{Sofar}
use Rattle.terms.specs.Term.{definitions_of}
use Rattle.rules.specs.declared.Event.{Event}
use Rattle.rules.specs.Process.{Address}
use Rattle.rules.specs.Run.{State, answer}
use Rattle.rules.specs.Run as Run
use Rattle.runs.specs.words.Held.{addressed, Words}
use Rattle.runs.specs.Answer.{Answer}
use Rattle.playing.specs.LineAnswer.{line_answer}
use Rattle.playing.specs.words.Account.{Plays}
use Rattle.playing.specs.Played.{Played}
use Rattle.demands.specs.words.Words.{HoldsRun, Steps}

-- a step by an address that document 01 accepts, from words that hold a run, with an outcome that the step's promise allows
pub record Accepts (p x : List ℕ) (t : Sofar) (v : Words) (r : Answer) (v' : Words) (s : State) (e : Event) (s' : State)
    : Type 0 where
  pub digits : List ℕ
  pub count : ℕ
  pub address : Address
  pub held : HoldsRun p x t v s
  pub promised : Steps p x digits count v r v'
  pub named : addressed digits count ≡ some address
  pub accepts : answer (definitions_of t) s address ≡ Run.accepted e s'

-- a script's line that document 01 accepts, from words that hold a run, with an outcome that the promise of playing allows
pub record AcceptsLine (p x : List ℕ) (t : Sofar) (v : Words) (r : Played) (v' : Words) (s : State) (e : Event) (s' : State)
    : Type 0 where
  pub text : List ℕ
  pub at : ℕ
  pub digits : List ℕ
  pub line : Raw
  pub more : List Raw
  pub held : HoldsRun p x t v s
  pub promised : Plays p x digits at (lines (drop at text)) v r v'
  pub whole : length digits ≡ most
  pub stands : lines (drop at text) ≡ line ∷ more
  pub accepts : line_answer (definitions_of t) s (asked (desk_frame line)) ≡ Run.accepted e s'
