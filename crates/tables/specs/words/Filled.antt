-- What taking a frame in does to what the loop keeps. The path lengths of the terms due are `depth`, of the
-- next, and behind it the others in the array `waiting`, the last of them first. `proofs/Kept.antt` shows
-- that it is what `taken` says.
use Rattle.std.specs.Prelude.{ℕ, ◌≤◌, ◌≡◌, List, [], map, length}
use Rattle.std.proofs.lemmas.List.Edits.{sets}
use Rattle.frames.specs.TableFrame.{term_room, definition_room}
use Rattle.lines.specs.Judging.{Judged, accepted}
use Rattle.tables.specs.Table.{Item, Sofar}
use Rattle.tables.specs.words.Columns.{answer}
use Rattle.tables.specs.Checked.{Checked}

-- what is said once line 1 has opened a table
abbrev pub begins : ℕ → ℕ → Sofar
begins d e = record { definitions = d; events = e; roots = []; terms = []; due = [] }

-- columns that hold a table's terms in front of what they held
pub record Filled (s : Sofar) (k p o r k₀ p₀ o₀ r₀ : List ℕ) : Type 0 where
  pub kinds_are : k ≡ sets k₀ 0 (map (λ (i : Item). i.kind) s.terms)
  pub payloads_are : p ≡ sets p₀ 0 (map (λ (i : Item). i.payload) s.terms)
  pub owners_are : o ≡ sets o₀ 0 (map (λ (i : Item). i.definition) s.terms)
  pub roots_are : r ≡ sets r₀ 0 s.roots
  pub terms_fit : length s.terms ≤ term_room
  pub roots_fit : length s.roots ≤ definition_room

-- an answer that is what was judged, and columns that hold the table where one was accepted
abbrev pub Fills : Judged Sofar → Checked → List ℕ → List ℕ → List ℕ → List ℕ → List ℕ → List ℕ → List ℕ → List ℕ
    → Type 0
Fills j x k p o r k₀ p₀ o₀ r₀ =
    (x ≡ answer j) × ((s : Sofar) → j ≡ accepted s → Filled s k p o r k₀ p₀ o₀ r₀)
