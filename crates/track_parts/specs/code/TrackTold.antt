-- What saving, reading and writing tracks comes to, whatever is lent: where the blocks are filled, what the door below comes
-- to, told as a number, with what was lent after it; else the number of the block that is not, with everything as it was.
use Rattle.std.specs.Prelude.{ℕ, List, [], ◌∷◌, replicate, eqb}
use Rattle.lines.specs.Line.{choose}
use Rattle.columns.specs.words.Columns.{columns}
use Rattle.control.specs.words.Words.{track_words}
use Rattle.links.specs.words.Cleared.{cleared}
use Rattle.links.specs.declared.GraphCounts.{GraphCounts}
use Rattle.links.specs.declared.Work.{Work}
use Rattle.writing.specs.words.Slice.{Put, written}
use Rattle.saving.specs.code.Saving.{text_of}
use Rattle.graphs.specs.Saved.{graph_text}
use Rattle.framing.specs.words.Told.{graph_told}
use Rattle.reading.specs.code.Outcome as Reading
use Rattle.reading.specs.Answers.{Read}
use Rattle.reading.specs.Answers as Track
use Rattle.answers.specs.Numbers as told
use Rattle.answers.specs.words.Blocks.{table_stamp, track_stamp, no_table, no_track, head_word, unready, unless}

-- a number and a length, with a slice
pub record TextTold : Type 0 where
  pub number : ℕ
  pub length : ℕ
  pub slice : List ℕ

abbrev pub with_text : ℕ → ℕ → List ℕ → TextTold
with_text n l slice = record { number = n; length = l; slice = slice }

abbrev pub text_told : Put → TextTold
text_told put = with_text (told.of_saved put.answer) (told.length_of put.answer) put.slice

-- a number and a line, with a track's block
pub record TrackTold : Type 0 where
  pub number : ℕ
  pub line : ℕ
  pub found : List ℕ
  pub labels : List ℕ
  pub graph : List ℕ

abbrev pub with_track : ℕ → ℕ → List ℕ → List ℕ → List ℕ → TrackTold
with_track n line found labels graph =
    record { number = n; line = line; found = found; labels = labels; graph = graph }

-- the head of a track that was read
unfoldable pub found_after : Read → List ℕ → List ℕ
found_after (Track.Accepted counts) found = track_stamp ∷ counts.nodes ∷ counts.arcs ∷ counts.meetings ∷ []
found_after (Track.Refused n line) found = found

-- the counts that a track's head has
abbrev pub counts_in : List ℕ → GraphCounts
counts_in found = record { nodes = head_word found 1; arcs = head_word found 2; meetings = head_word found 3 }

module _ (head : List ℕ) (stamp : ℕ) (ks os xs rs w g c : List ℕ) where
  unfoldable pub saved : ℕ → List ℕ → TextTold
  saved l slice =
      unless (unready (head_word head 0) stamp) (λ n. with_text n l slice)
      (text_told (written (text_of ks os xs rs w g c) slice))

abbrev pub track_told : List ℕ → Reading.TrackRead → TrackTold
track_told found t =
    with_track (told.of_read t.answer) (told.line_of_read t.answer) (found_after t.answer found)
    t.labels t.graph

module _ (head ks ps xs rs text : List ℕ) (line : ℕ) (found labels graph : List ℕ) where
  unfoldable pub read : TrackTold
  read =
      choose (eqb (head_word head 0) table_stamp)
      (track_told found (Reading.track_read ks ps xs rs (head_word head 1) text labels graph))
      (with_track no_table line found labels graph)

module _ (head ks os xs rs found labels graph : List ℕ) where
  unfoldable pub written_again : ℕ → List ℕ → TextTold
  written_again l slice =
      choose (eqb (head_word head 0) table_stamp)
      (choose (eqb (head_word found 0) track_stamp)
      (text_told (written (graph_text (graph_told (columns ks os xs rs) labels graph (counts_in found))) slice))
      (with_text no_track l slice))
      (with_text no_table l slice)

-- ---- room to work in, which a save or a read leaves all 0, a read but for the graph's track

unfoldable pub work_after_saving : List ℕ → ℕ → Work → Work
work_after_saving head stamp work =
    unless (unready (head_word head 0) stamp) (λ n. work) (cleared (replicate track_words 0))

unfoldable pub work_after_reading : List ℕ → Work → Work
work_after_reading head work =
    choose (eqb (head_word head 0) table_stamp) (cleared work.graph.track) work
