-- Document 01, 'The program's listing': what the tracking program prints for an input, from bytes to bytes.
use Rattle.std.specs.Prelude.{ℕ, ◌+◌, List, [], ◌∷◌, ◌++◌, map, length, leb}
use Rattle.lines.specs.Line.{choose, Raw, lines, text}
use Rattle.lines.specs.Judging.{Judged, accepted, refused}
use Rattle.desk_lines.specs.DeskLine.{desk_frame}
use Rattle.scripts.specs.Script.{asked}
use Rattle.tables.specs.Table.{Sofar, judged}
use Rattle.terms.specs.Term.{Term, definitions_of}
use Rattle.rules.specs.declared.Event.{Event}
use Rattle.rules.specs.Run.{State, start, Answer}
use Rattle.rules.specs.Run as Run
use Rattle.rules.specs.Offers.{status}
use Rattle.playing.specs.LineAnswer.{line_answer}
use Rattle.graphs.specs.Graph.{graph_of}
use Rattle.graphs.specs.Saved.{saved}
use Rattle.inputs.specs.Cut.{table_text, script_text}
use Rattle.telling.specs.ListingFrame.{step_frame, status_frame, refusal_frame, alone}

-- how a script ends: behind its last line, or at the first that is refused, by its number
pub data End : Type 0 where
  played_out : End
  refused_at : ℕ → ℕ → End

-- what a script comes to: the events of its accepted steps, how it ends, and the state that the accepted steps reach
pub record Played : Type 0 where
  pub events : List Event
  pub end : End
  pub state : State

-- at line n: an accepted step goes on from the state behind it, and a refusal ends the work
unfoldable pub goes_on : State → ℕ → (State → Played) → Answer → Played
goes_on s n rest (Run.accepted e t) =
    record { events = e ∷ (rest t).events; end = (rest t).end; state = (rest t).state }
goes_on s n rest (Run.refused r) = record { events = []; end = refused_at r n; state = s }

-- the lines of a script from line n on
unfoldable pub played : List Term → State → ℕ → List Raw → Played
played ts s n [] = record { events = []; end = played_out; state = s }
played ts s n (l ∷ ls) =
    goes_on s n (λ t. played ts t (n + 1) ls) (line_answer ts s (asked (desk_frame l)))

-- the room of a script's text, and of the slice that the track is saved through
abbrev pub script_room : ℕ
script_room = 65536

abbrev pub save_room : ℕ
save_room = 65536

-- the refusal of a script's line
unfoldable pub end_frames : End → List (List ℕ)
end_frames played_out = []
end_frames (refused_at r n) = refusal_frame r n ∷ []

-- a saved track; 12 is told instead where it passes its room
unfoldable pub within_room : List ℕ → List ℕ
within_room t = choose (leb (length t) save_room) t (alone 12 0)

-- under a table of so many events: each accepted step, the status, the refusal of a script's line, and the track
unfoldable pub run_listing : ℕ → Played → List ℕ
run_listing events r =
    text (map step_frame r.events ++ status_frame (status events r.state.process) ∷ end_frames r.end)
    ++ within_room (saved (graph_of r.state))

-- a refused table, or 6, is told alone
unfoldable pub table_listing : Judged Sofar → List ℕ → List ℕ
table_listing (refused r n) script = alone r n
table_listing (accepted t) script =
    choose (leb (length script) script_room)
    (run_listing t.events (played (definitions_of t) start 1 (lines script)))
    (alone 6 0)

-- the table is judged whole before the script
unfoldable pub listing : List ℕ → List ℕ
listing input = table_listing (judged (table_text input)) (script_text input)
