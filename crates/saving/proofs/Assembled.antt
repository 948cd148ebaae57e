-- Saving put together: the marks that are taken are those of the references drawn, so what the numbering gives
-- is the numbered graph, and what is written is its text. Assumes nothing.
use Rattle.std.specs.Prelude.{ℕ, min, List, ◌≡◌}
use Rattle.std.proofs.Common.{ap, ◌∙◌}
use Rattle.columns.specs.words.Columns.{columns}
use Rattle.control.specs.words.Words.{reference_room}
use Rattle.counting.specs.code.Counting.{fresh, arcs, meetings}
use Rattle.graphs.specs.Saved.{graph_text}
use Rattle.walks.specs.code.Walked.{laid}
use Rattle.links.specs.declared.GraphCounts.{GraphCounts}
use Rattle.numbering.specs.code.Numbered.{GraphNumbered, with_counts, graph_numbered}
use Rattle.framing.specs.words.Told.{graph_told}
use Rattle.writing.specs.words.Slice.{with_slice, written}
use Rattle.writing.specs.Answers.{Saved}
use Rattle.saving.specs.code.Saving.{marks_from, marks, graph_saved, numbered_told, text_of}
use Rattle.saving.specs.words.Kept.{Saves}
use Rattle.saving.proofs.Promises.{saves}
use Rattle.runs.specs.words.Held.{lent}

module _ (ks os xs rs w g c : List ℕ) (drawn count a m : ℕ) (ms ls to : List ℕ) (n : GraphCounts)
    (drawn_is : drawn ≡ fresh c) (count_is : count ≡ min drawn reference_room)
    (taken : ms ≡ laid (marks_from w 0 count)) (a_is : a ≡ arcs c) (m_is : m ≡ meetings c)
    (numbers : with_counts n ls to ≡ graph_numbered ms ks xs g a m) where
  -- the numbering is that of the run's marks, arcs and meetings
  numbered : with_counts n ls to ≡ graph_saved ks xs w g c
  unfolding marks
  numbered = rw (taken, count_is, drawn_is, a_is, m_is) at numbers

  -- so the text is that of the words
  text_told : graph_text (graph_told (columns ks os xs rs) ls to n) ≡ text_of ks os xs rs w g c
  unfolding text_of
  text_told = ap (λ (n : GraphNumbered). graph_text (numbered_told (columns ks os xs rs) n)) numbered

  -- and with it all that saving owes
  pub assembled : (r : Saved) (slice slice' : List ℕ)
      → with_slice r slice' ≡ written (graph_text (graph_told (columns ks os xs rs) ls to n)) slice
      → (with_slice r slice' ≡ written (text_of ks os xs rs w g c) slice)
      × Saves (columns ks os xs rs) (lent w g c) slice r slice'
  assembled r slice slice' e =
      let f = e ∙ ap (λ t. written t slice) text_told in
      (f, saves ks os xs rs w g c r slice slice' f)
