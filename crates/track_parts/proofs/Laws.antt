-- What saving, reading and writing tracks tells, by what their tests found and the calls on the way promise. Assumes nothing.
use Rattle.std.proofs.Common.{ℕ, ◌≡◌, ◌∙◌, List, [], ◌∷◌, replicate, eq-eqb, ne_eqb}
use Rattle.columns.specs.words.Columns.{columns}
use Rattle.writing.specs.words.Slice.{with_slice, written}
use Rattle.writing.specs.Answers.{Saved}
use Rattle.links.specs.declared.GraphCounts.{GraphCounts}
use Rattle.links.specs.declared.Work.{Work}
use Rattle.links.specs.words.Cleared.{cleared}
use Rattle.control.specs.words.Words.{track_words}
use Rattle.reading.specs.code.Outcome.{track_read, with_graph}
use Rattle.reading.specs.Answers.{Read}
use Rattle.reading.specs.Answers as Track
use Rattle.saving.specs.code.Saving.{text_of}
use Rattle.graphs.specs.Saved.{graph_text}
use Rattle.framing.specs.words.Told.{graph_told}
use Rattle.answers.specs.Numbers as told
use Rattle.answers.specs.words.Blocks.{table_stamp, track_stamp, no_table, no_track, head_word, unready}
use Rattle.answers.proofs.Blocks.{untouched, filled}
use Rattle.track_parts.specs.code.TrackTold as host

module _ (head : List ℕ) (stamp k : ℕ) (k_is : k ≡ unready (head_word head 0) stamp) where
  module _ (ks os xs rs w g c : List ℕ) (l : ℕ) (text : List ℕ) where
    pub save_untouched : (k ≡ 0 → ⊥) → host.with_text k l text ≡ host.saved head stamp ks os xs rs w g c l text
    unfolding host.saved
    save_untouched h = untouched _ _ k _ k_is h

    pub save_written : k ≡ 0 → (a : Saved) (slice : List ℕ)
        → with_slice a slice ≡ written (text_of ks os xs rs w g c) text
        → (r m : ℕ) → r ≡ told.of_saved a → m ≡ told.length_of a
        → host.with_text r m slice ≡ host.saved head stamp ks os xs rs w g c l text
    unfolding host.saved
    save_written z a slice so r m r_is m_is = rw (r_is, m_is, ← filled _ _ k _ k_is z, ← so)

  module _ (work : Work) where
    pub work_untouched : (k ≡ 0 → ⊥) → work ≡ host.work_after_saving head stamp work
    unfolding host.work_after_saving
    work_untouched h = untouched (λ n. work) _ k _ k_is h

    pub work_cleared : k ≡ 0 → (b : Work) → b ≡ cleared (replicate track_words 0) → b ≡ host.work_after_saving head stamp work
    unfolding host.work_after_saving
    work_cleared z b b_is = b_is ∙ filled _ _ k _ k_is z

module _ (head ks ps xs rs text : List ℕ) (line : ℕ) (found labels graph : List ℕ) where
  pub read_untouched : (head_word head 0 ≡ table_stamp → ⊥)
      → host.with_track no_table line found labels graph ≡ host.read head ks ps xs rs text line found labels graph
  unfolding host.read
  read_untouched h = rw (ne_eqb _ _ h)

  module _ (stamped : head_word head 0 ≡ table_stamp) (labels' graph' : List ℕ) (a : Read)
      (so : with_graph a labels' graph' ≡ track_read ks ps xs rs (head_word head 1) text labels graph) (line' : ℕ)
      (line_is : line' ≡ told.line_of_read a) where
    pub read_refused : (r : ℕ) → r ≡ told.of_read a → (n l : ℕ) → a ≡ Track.Refused n l
        → host.with_track r line' found labels' graph' ≡ host.read head ks ps xs rs text line found labels graph
    unfolding host.read host.found_after
    read_refused r r_is n l is = rw (r_is, line_is, eq-eqb _ _ stamped, ← so, is)

    pub read_accepted : (counts : GraphCounts) → a ≡ Track.Accepted counts
        → host.with_track 0 line' (track_stamp ∷ counts.nodes ∷ counts.arcs ∷ counts.meetings ∷ []) labels' graph'
        ≡ host.read head ks ps xs rs text line found labels graph
    unfolding host.read host.found_after told.of_read
    read_accepted counts is = rw (line_is, eq-eqb _ _ stamped, ← so, is)

module _ (head : List ℕ) (work : Work) where
  pub reading_untouched : (head_word head 0 ≡ table_stamp → ⊥) → work ≡ host.work_after_reading head work
  unfolding host.work_after_reading
  reading_untouched h = rw (ne_eqb _ _ h)

  pub reading_cleared : head_word head 0 ≡ table_stamp → (b : Work) → b ≡ cleared work.graph.track
      → b ≡ host.work_after_reading head work
  unfolding host.work_after_reading
  reading_cleared h b b_is = rw (b_is, eq-eqb _ _ h)

module _ (head ks os xs rs found labels graph : List ℕ) (l : ℕ) (text : List ℕ) where
  pub write_no_table : (head_word head 0 ≡ table_stamp → ⊥)
      → host.with_text no_table l text ≡ host.written_again head ks os xs rs found labels graph l text
  unfolding host.written_again
  write_no_table h = rw (ne_eqb _ _ h)

  module _ (stamped : head_word head 0 ≡ table_stamp) where
    pub write_no_track : (head_word found 0 ≡ track_stamp → ⊥)
        → host.with_text no_track l text ≡ host.written_again head ks os xs rs found labels graph l text
    unfolding host.written_again
    write_no_track h = rw (eq-eqb _ _ stamped, ne_eqb _ _ h)

    pub write_written : head_word found 0 ≡ track_stamp → (a : Saved) (slice : List ℕ)
        → with_slice a slice
        ≡ written (graph_text (graph_told (columns ks os xs rs) labels graph (host.counts_in found))) text
        → (r m : ℕ) → r ≡ told.of_saved a → m ≡ told.length_of a
        → host.with_text r m slice ≡ host.written_again head ks os xs rs found labels graph l text
    unfolding host.written_again
    write_written h a slice so r m r_is m_is = rw (r_is, m_is, eq-eqb _ _ stamped, eq-eqb _ _ h, ← so)
