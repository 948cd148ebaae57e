-- What a step writes, whatever the words hold: labels, arcs, what stands at a reference, event nodes and meetings.
use Rattle.std.specs.Prelude.{ℕ, zero, suc, ◌+◌, ◌*◌, List, ltb}
use Rattle.lines.specs.Line.{choose}
use Rattle.control.specs.words.Words.{put, track_word, put_track, event_node, event_nodes_from, meetings_from}
use Rattle.control.specs.words.Sums.{capped}
use Rattle.looking.specs.code.Looking.{leads}
use Rattle.drawing.specs.declared.Tally.{Tally}

-- a tally with one more of something
unfoldable pub one_node : Tally → Tally
one_node k = record {
  fresh = k.fresh;
  nodes = capped (k.nodes + 1);
  arcs = k.arcs;
  meetings = k.meetings;
  met = k.met;
}

unfoldable pub one_arc : Tally → Tally
one_arc k = record {
  fresh = k.fresh;
  nodes = k.nodes;
  arcs = capped (k.arcs + 1);
  meetings = k.meetings;
  met = k.met;
}

unfoldable pub one_meeting : Tally → Tally
one_meeting k = record {
  fresh = k.fresh;
  nodes = k.nodes;
  arcs = k.arcs;
  meetings = capped (k.meetings + 1);
  met = k.met;
}

unfoldable pub one_met : Tally → Tally
one_met k = record {
  fresh = k.fresh;
  nodes = k.nodes;
  arcs = k.arcs;
  meetings = k.meetings;
  met = capped (k.met + 1);
}

unfoldable pub drawn : Tally → Tally
drawn k = record {
  fresh = capped (k.fresh + 1);
  nodes = k.nodes;
  arcs = k.arcs;
  meetings = k.meetings;
  met = k.met;
}

-- a label
unfoldable pub labelled : ℕ → ℕ → List ℕ → List ℕ
labelled n mark w = put 0 w n mark

-- what stands at a reference
unfoldable pub standing : ℕ → ℕ → ℕ → ℕ → List ℕ → List ℕ
standing n s t f w = put 3 (put 2 (put 1 w n s) n t) n f

-- arc number i, of those that there is room for
unfoldable pub with_arc : ℕ → ℕ → ℕ → List ℕ → List ℕ
with_arc from to i g = choose (ltb i 8192) (put_track (put_track g (2 * i) from) (2 * i + 1) to) g

-- meeting number i, behind the arcs
unfoldable pub with_meeting : ℕ → ℕ → ℕ → List ℕ → List ℕ
with_meeting m n i g =
    choose (ltb i 4096) (put_track (put_track g (meetings_from + 2 * i) m) (meetings_from + 2 * i + 1) n) g

-- event node number i of the step, behind the meetings
unfoldable pub with_met : ℕ → ℕ → List ℕ → List ℕ
with_met n i g = choose (ltb i 4096) (put_track g (event_nodes_from + i) n) g

-- a tally with the words of its track
pub record Kept : Type 0 where
  pub tally : Tally
  pub track : List ℕ

abbrev pub kept : Tally → List ℕ → Kept
kept k g = record { tally = k; track = g }

-- a node meets c event nodes from number i on
unfoldable pub met_each : ℕ → ℕ → ℕ → Tally → List ℕ → Kept
met_each n i zero k g = kept k g
met_each n i (suc c) k g =
    met_each n (suc i) c (one_meeting k) (with_meeting n (event_node i g) k.meetings g)

-- each of a event nodes from number i on meets each of b from number j on
unfoldable pub met_all : ℕ → ℕ → ℕ → ℕ → Tally → List ℕ → Kept
met_all i zero j b k g = kept k g
met_all i (suc a) j b k g =
    met_all (suc i) a j b (met_each (event_node i g) j b k g).tally (met_each (event_node i g) j b k g).track

-- each parent of references m and n, by c arcs from number i on, gets an arc to reference t
unfoldable pub joined : ℕ → ℕ → ℕ → ℕ → ℕ → Tally → List ℕ → Kept
joined m n t i zero k g = kept k g
joined m n t i (suc c) k g =
    choose (ltb i 8192)
    (choose (leads (track_word g (2 * i + 1)) m n)
    (joined m n t (suc i) c (one_arc k) (with_arc (track_word g (2 * i)) t k.arcs g))
    (joined m n t (suc i) c k g))
    (kept k g)
