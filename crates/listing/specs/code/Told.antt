-- What the functions below the door come to, whatever the words and columns hold; `proofs/Told.antt` shows what it is
-- for those of a checked table.
use Rattle.std.specs.Prelude.{ℕ, zero, suc, ◌+◌, ◌*◌, ◌≤◌, ◌≡◌, List, [], ◌∷◌, ◌++◌, map, length, replicate, leb}
use Rattle.std.proofs.lemmas.List.Edits.{sets}
use Rattle.lines.specs.Line.{choose, Raw, lines, text}
use Rattle.scripts.specs.Script as Script
use Rattle.plans.specs.code.Laid.{laid_out}
use Rattle.rules.specs.declared.Event.{Event}
use Rattle.status.specs.code.Status.{status}
use Rattle.runs.specs.code.Doors as run
use Rattle.playing.specs.code.Playing as plays
use Rattle.counting.specs.code.Counting.{reference}
use Rattle.playing.specs.Played.{Played, Stepped, Refused, End}
use Rattle.saving.specs.code.Saving.{text_of}
use Rattle.spelling.specs.words.Puts.{Puts}
use Rattle.telling.specs.ListingFrame.{alone, step_frame, status_frame}
use Rattle.listing.specs.Listing.{within_room, script_room}

-- what lines of a script come to: the events of the accepted steps, the number of the refusal that ended them, 0 where
-- there was none, at which line, and the words afterwards
pub record Stopped : Type 0 where
  pub events : List Event
  pub number : ℕ
  pub line : ℕ
  pub nodes : List ℕ
  pub track : List ℕ
  pub counters : List ℕ

-- the number of the refusal that a line is, 0 where it is none
unfoldable pub number_of : Played → ℕ
number_of (Stepped e next) = 0
number_of (Refused r) = r
number_of End = 0

-- stopped at line n with the words of a line
unfoldable pub stops : ℕ → ℕ → plays.LinePlayed → Stopped
stops r n z =
    record { events = []; number = r; line = n; nodes = z.nodes; track = z.track; counters = z.counters }

-- an event in front of what follows
unfoldable pub in_front : Event → Stopped → Stopped
in_front e r = record {
  events = e ∷ r.events;
  number = r.number;
  line = r.line;
  nodes = r.nodes;
  track = r.track;
  counters = r.counters;
}

-- by what line n was: a step goes on, and anything else stops
unfoldable pub by_played : ℕ → plays.LinePlayed → Stopped → Played → Stopped
by_played n z rest (Stepped e next) = in_front e rest
by_played n z rest (Refused r) = stops r n z
by_played n z rest End = stops 0 n z

module _ (p x : List ℕ) where
  -- the first of some lines, whatever stands before them
  abbrev pub first_played : List Raw → List ℕ → List ℕ → List ℕ → List ℕ → plays.LinePlayed
  first_played ls ds w g c = plays.played p x w g c 0 ls ds

  -- the lines of a script from line n on, with the digits in the lent array
  unfoldable pub stepped : ℕ → List Raw → List ℕ → List ℕ → List ℕ → List ℕ → Stopped
  stepped n [] ds w g c = stops 0 n (first_played [] ds w g c)
  stepped n (l ∷ ls) ds w g c =
      by_played n (first_played (l ∷ ls) ds w g c)
      (stepped (n + 1) ls (sets ds 0 (Script.left (l ∷ ls))) (first_played (l ∷ ls) ds w g c).nodes
      (first_played (l ∷ ls) ds w g c).track
      (first_played (l ∷ ls) ds w g c).counters)
      (first_played (l ∷ ls) ds w g c).played

  -- a script from its first line on, with clean digits
  abbrev pub from_words : List ℕ → List ℕ → List ℕ → List ℕ → Stopped
  from_words script w g c = stepped 1 (lines script) (replicate 1024 0) w g c

  -- from the start
  unfoldable pub from_start : List ℕ → Stopped
  from_start script = from_words script run.fresh_nodes run.fresh_track run.fresh_counters

-- all lines have come to so much: the refusal, the words, the steps' lines in the slice and where they end
abbrev pub StepsPut : Stopped → List ℕ → List ℕ → List ℕ → List ℕ → List ℕ → ℕ → ℕ → ℕ → Type 0
StepsPut z w g c out₀ out number line end =
    (number ≡ z.number) × ((line ≡ z.line) × ((w ≡ z.nodes) × ((g ≡ z.track) × ((c ≡ z.counters)
    × (Puts 0 (text (map step_frame z.events)) out₀ out end × (end ≤ 7 * script_room))))))

-- the refusal of a script's line, where there was one
unfoldable pub stop_text : ℕ → ℕ → List ℕ
stop_text zero n = []
stop_text (suc r) n = alone (suc r) n

module _ (p x ks os xs rs : List ℕ) where
  -- what is told of a script that has stopped
  unfoldable pub stopped_text : Stopped → List ℕ
  stopped_text z =
      text (map step_frame z.events)
      ++ text (status_frame (status p x z.nodes (reference z.counters)) ∷ [])
      ++ stop_text z.number z.line
      ++ within_room (text_of ks os xs rs z.nodes z.track z.counters)

  -- what is told of a script
  unfoldable pub run_text : List ℕ → List ℕ
  run_text script = stopped_text (from_start p x script)

-- what is told of a script over a table's columns, by its room
unfoldable pub script_text : ℕ → List ℕ → List ℕ → List ℕ → List ℕ → List ℕ → List ℕ → List ℕ
script_text n ks x os xs rs script =
    choose (leb (length script) script_room) (run_text (laid_out n ks x xs rs) x ks os xs rs script) (alone 6 0)
