-- The words of a run: eight for each reference, and those of a track; 0 out of range, where nothing is put.
use Rattle.std.specs.Prelude.{ℕ, ◌+◌, ◌*◌, ◌%◌, List, get_or, set, ltb, replicate}
use Rattle.lines.specs.Line.{choose}
use Rattle.control.specs.declared.Run.{Run}

-- references of a run: one more than its arcs
abbrev pub reference_room : ℕ
reference_room = 8193

-- word k of reference n
unfoldable pub node : ℕ → List ℕ → ℕ → ℕ
node k w n = choose (ltb n reference_room) (get_or w (8 * n + k) 0) 0

unfoldable pub put : ℕ → List ℕ → ℕ → ℕ → List ℕ
put k w n v = choose (ltb n reference_room) (set w (8 * n + k) (v % 65536)) w

-- arcs, then meetings, then the event nodes of a step
abbrev pub track_words : ℕ
track_words = 28672

abbrev pub meetings_from : ℕ
meetings_from = 16384

abbrev pub event_nodes_from : ℕ
event_nodes_from = 24576

unfoldable pub track_word : List ℕ → ℕ → ℕ
track_word w i = choose (ltb i track_words) (get_or w i 0) 0

unfoldable pub put_track : List ℕ → ℕ → ℕ → List ℕ
put_track w i v = choose (ltb i track_words) (set w i (v % 65536)) w

-- event node number i of a step
unfoldable pub event_node : ℕ → List ℕ → ℕ
event_node i g = choose (ltb i 4096) (track_word g (event_nodes_from + i)) 0

-- words of no run
abbrev pub no_run : Run
no_run = record {
  counters = replicate 8 0;
  words = record { nodes = replicate 65544 0; track = replicate track_words 0 };
}
