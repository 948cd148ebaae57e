-- What saving owes a run, from what it comes to whatever the words hold: where they hold a run, the text is
-- that of its track. Assumes nothing.
use Rattle.std.specs.Prelude.{ℕ, List, ◌≡◌}
use Rattle.std.proofs.Common.{ap, ◌∙◌}
use Rattle.columns.specs.words.Columns.{columns}
use Rattle.runs.specs.words.Held.{lent}
use Rattle.writing.specs.words.Slice.{with_slice, written}
use Rattle.writing.specs.Answers.{Saved}
use Rattle.saving.specs.code.Saving.{text_of}
use Rattle.saving.specs.words.Kept.{Saves}
use Rattle.saving.proofs.SavedTold.{saves_told}

-- an answer and a slice that are those of the words' text
pub saves : (ks os xs rs w g c : List ℕ) (r : Saved) (slice slice' : List ℕ)
    → with_slice r slice' ≡ written (text_of ks os xs rs w g c) slice
    → Saves (columns ks os xs rs) (lent w g c) slice r slice'
saves ks os xs rs w g c r slice slice' e text ps p x t s table h =
    e ∙ ap (λ l. written l slice) (saves_told text ks ps os xs rs t table p x w g c s h)
