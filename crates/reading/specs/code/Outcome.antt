-- What reading comes to, whatever the columns hold: a graph with the shape of a saved track, or a refusal.
use Rattle.std.specs.Prelude.{ℕ, ◌≤◌, ◌≡◌, List, length, replicate}
use Rattle.std.proofs.lemmas.List.Edits.{sets}
use Rattle.lines.specs.Line.{choose}
use Rattle.lines.specs.Judging.{Judged, accepted, refused}
use Rattle.rules.specs.Run.{node_room, arc_room, meeting_room}
use Rattle.control.specs.words.Words.{track_words, meetings_from}
use Rattle.graphs.specs.Graph.{Graph}
use Rattle.graphs.specs.Parsed.{parsed}
use Rattle.links.specs.words.Columns.{flat, counts_of}
use Rattle.walks.specs.code.Walked.{laid}
use Rattle.finding.specs.code.Found.{marks_of}
use Rattle.shapes.specs.code.Rules.{shaped}
use Rattle.reading.specs.Answers.{Read, Accepted, Refused}

-- the words of a graph's arcs and meetings
abbrev pub track_of : Graph → List ℕ
track_of g = sets (sets (replicate track_words 0) 0 (flat g.arcs)) meetings_from (flat g.meetings)

module _ (ks ps xs rs : List ℕ) where
  unfoldable pub judged : Judged Graph → Judged Graph
  judged (accepted g) = choose (shaped ks ps xs (marks_of ks xs rs 0 g.labels) g) (accepted g) (refused 13 0)
  judged (refused n k) = refused n k

  -- what a saved text is, for a table of d definitions
  abbrev pub outcome : ℕ → List ℕ → Judged Graph
  outcome d text = judged (parsed d text)

-- an answer, with the marks by number and the words of arcs and meetings after it
pub record TrackRead : Type 0 where
  pub answer : Read
  pub labels : List ℕ
  pub graph : List ℕ

abbrev pub with_graph : Read → List ℕ → List ℕ → TrackRead
with_graph r labels graph = record { answer = r; labels = labels; graph = graph }

module _ (ks xs rs : List ℕ) where
  -- an accepted graph: how many nodes, arcs and meetings, its marks by number, and its arcs and meetings
  abbrev pub graph_read : Graph → TrackRead
  graph_read g = with_graph (Accepted (counts_of g)) (laid (marks_of ks xs rs 0 g.labels)) (track_of g)

  -- what a text comes to: its graph; or the paper's number of the refusal and its line, with the columns as they were
  unfoldable pub by_outcome : Judged Graph → List ℕ → List ℕ → TrackRead
  by_outcome (accepted g) labels graph = graph_read g
  by_outcome (refused n k) labels graph = with_graph (Refused n k) labels graph

  -- an answer, with columns that hold the graph that is said, which keeps to the rooms
  unfoldable pub Held : Judged Graph → Read → List ℕ → List ℕ → Type 0
  Held (accepted g) r labels graph =
      (with_graph r labels graph ≡ graph_read g)
      × ((length g.labels ≤ node_room) × (length g.arcs ≤ arc_room) × (length g.meetings ≤ meeting_room))
  Held (refused n k) r labels graph = r ≡ Refused n k

-- what reading a text comes to, for a table of d definitions
abbrev pub track_read : List ℕ → List ℕ → List ℕ → List ℕ → ℕ → List ℕ → List ℕ → List ℕ → TrackRead
track_read ks ps xs rs d text labels graph = by_outcome ks xs rs (outcome ks ps xs rs d text) labels graph

-- a column that is handed over where a text is accepted
unfoldable pub handed : Read → List ℕ → List ℕ → List ℕ
handed (Accepted c) new old = new
handed (Refused n k) new old = old
