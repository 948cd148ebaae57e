-- The listing as a whole: a run's parts are put behind one another, a script goes by its room, and an input by
-- what its table is judged. One law for each way out of the code. Assumes nothing.
use Rattle.std.proofs.Common.{ℕ, zero, suc, ◌+◌, ◌-◌, ◌≤◌, ◌<◌, ◌≡◌, sym, ap, ap₂, ◌∙◌, List, [], ◌∷◌, map}
use Rattle.std.proofs.Common.{arith, length, get_or, take, drop, length-drop, take_all, le-leb}
use Rattle.std.proofs.lemmas.Bool.{lt-leb}
use Rattle.std.proofs.lemmas.List.Edits.{sets}
use Rattle.lines.specs.Line.{lines, text, hex, two}
use Rattle.lines.specs.Judging.{Judged, accepted, refused}
use Rattle.tables.specs.Table.{Sofar, judged}
use Rattle.columns.specs.words.Columns.{Columns, all_columns}
use Rattle.tables.specs.words.Columns.{columns_of, table_counts, Outcome, with_columns, outcome}
use Rattle.tables.specs.declared.TableCounts.{TableCounts}
use Rattle.tables.specs.Checked.{Checked, Accepted, Refused}
use Rattle.tables.proofs.Whole.{outcome_refuses, outcome_accepts}
use Rattle.plans.specs.code.Laid.{laid_out}
use Rattle.status.specs.code.Status.{status}
use Rattle.rules.specs.declared.Status.{Status}
use Rattle.rules.specs.declared.Status.TheVariants.{Live, Ended, Stuck}
use Rattle.runs.specs.code.Doors.{fresh_nodes, fresh_track, fresh_counters}
use Rattle.runs.specs.words.Held.{lent as lent-words, Begins}
use Rattle.saving.specs.code.Saving.{text_of}
use Rattle.inputs.specs.Cut.{table_length, table_text}
use Rattle.inputs.specs.Cut as Cut
use Rattle.spelling.specs.words.Puts.{Puts}
use Rattle.spelling.proofs.Putting.{puts_then}
use Rattle.telling.specs.ListingFrame.{refusal_frame, alone, step_frame, status_frame}
use Rattle.listing.specs.Listing.{script_room, within_room, table_listing, listing}
use Rattle.listing.specs.code.Told.{Stopped, from_words, from_start, stop_text, stopped_text, run_text}
use Rattle.listing.specs.code.Told.{script_text}
use Rattle.listing.specs.code.Told.{StepsPut}
use Rattle.listing.proofs.Told.{script_listed}

-- a status's line has five characters, and a refusal's nine, where there is one
pub status_ends : {a b : ℕ} {s t : List ℕ} (r : Status) → Puts a (text (status_frame r ∷ [])) s t b → b ≡ a + 5
unfolding text hex status_frame
status_ends Live q = q.ends
status_ends Ended q = q.ends
status_ends Stuck q = q.ends

pub stop_ends : {a b : ℕ} {s t : List ℕ} (r n : ℕ) → Puts a (stop_text r n) s t b → b ≤ a + 9
unfolding stop_text text hex refusal_frame two
stop_ends zero n q = omega (arith, q.ends)
stop_ends (suc r) n q = omega (arith, q.ends)

module _ (p x ks os xs rs script : List ℕ) where
  -- what is told of a script that has stopped, put behind one another
  stopped_put : (z : Stopped) {out₀ out₁ out₂ out₃ out₄ : List ℕ} {a b d e : ℕ}
      → Puts 0 (text (map step_frame z.events)) out₀ out₁ a
      → Puts a (text (status_frame (status p x z.nodes (get_or z.counters 0 0)) ∷ [])) out₁ out₂ b
      → Puts b (stop_text z.number z.line) out₂ out₃ d
      → Puts d (within_room (text_of ks os xs rs z.nodes z.track z.counters)) out₃ out₄ e
      → Puts 0 (stopped_text p x ks os xs rs z) out₀ out₄ e
  unfolding stopped_text
  stopped_put z p₁ p₂ p₃ p₄ = puts_then (puts_then (puts_then p₁ p₂) p₃) p₄

  -- what the start leaves, and what the steps come to
  module _ {w₀ g₀ c₀ w g c out₀ out₁ : List ℕ} {number line a : ℕ}
      (starts : (w₀ ≡ fresh_nodes) × ((g₀ ≡ fresh_track) × ((c₀ ≡ fresh_counters) × Begins (lent-words w₀ g₀ c₀))))
      (steps : StepsPut (from_words p x script w₀ g₀ c₀) w g c out₀ out₁ number line a)
    where
      start_is : from_words p x script w₀ g₀ c₀ ≡ from_start p x script
      unfolding from_start
      start_is = rw (starts.0, starts.1.0, starts.1.1.0)

      -- then the run's listing is put
      pub run_put : {out₂ out₃ out₄ : List ℕ} {b d e n : ℕ} {r : Status} → n ≡ get_or c 0 0 → r ≡ status p x w n
          → Puts a (text (status_frame r ∷ [])) out₁ out₂ b → Puts b (stop_text number line) out₂ out₃ d
          → Puts d (within_room (text_of ks os xs rs w g c)) out₃ out₄ e
          → Puts 0 (run_text p x ks os xs rs script) out₀ out₄ e
      unfolding run_text
      run_put n_is r_is p₂ p₃ p₄ =
          let words = steps.1.1 in
          rw (← start_is)
          (stopped_put (from_words p x script w₀ g₀ c₀) words.1.1.1.0
          (rw (r_is, n_is, words.0, words.1.1.0) at p₂)
          (rw (steps.0, steps.1.0) at p₃)
          (rw (words.0, words.1.0, words.1.1.0) at p₄))

-- over a table's columns: a script over its room, and one within it
module _ (n : ℕ) (ks x os xs rs script : List ℕ) {s t : List ℕ} {e : ℕ} where
  pub script_over : script_room < length script → Puts 0 (alone 6 0) s t e
      → Puts 0 (script_text n ks x os xs rs script) s t e
  unfolding script_text
  script_over h q = simp (lt-leb (length script) script_room h) q

  pub script_within : {p : List ℕ} → length script ≤ script_room → p ≡ laid_out n ks x xs rs
      → Puts 0 (run_text p x ks os xs rs script) s t e → Puts 0 (script_text n ks x os xs rs script) s t e
  unfolding script_text
  script_within h p_is q = simp (le-leb (length script) script_room h) (rw p_is at q)

-- the door's promise of its answer and its slice
abbrev Listed : List ℕ → List ℕ → List ℕ → ℕ → Type 0
Listed input s t r = (r ≡ length (listing input)) × (t ≡ sets s 0 (listing input))

listed : {s t : List ℕ} {r : ℕ} (input l : List ℕ) → listing input ≡ l → Puts 0 l s t r → Listed input s t r
listed input l e q = rw e (omega (arith, q.ends), q.stands)

-- an input whose table's text ends at a place
module _ (input : List ℕ) (end : ℕ) (ends : end ≡ table_length (lines input)) where
  -- what stands behind that, as it is lent
  abbrev lent : List ℕ
  lent = take (length input - end) (drop end input)

  lent_is : lent ≡ drop end input
  lent_is = take_all (length input - end) (drop end input) (omega (arith, length-drop end input))

  -- its listing, by what the table is judged
  by_judged : (j : Judged Sofar) → judged (take end input) ≡ j → listing input ≡ table_listing j (drop end input)
  unfolding listing table_text Cut.script_text
  by_judged j e = rw (← e, ends)

  -- where its check has come to an outcome
  module _ (old : Columns) {c : Checked} {ks ps os xs rs : List ℕ}
      (checks : with_columns c (all_columns ks ps os xs rs) ≡ outcome old (judged (take end input))) where
    -- its answer
    told : c ≡ (outcome old (judged (take end input))).answer
    told = ap (λ (q : Outcome). q.answer) checks

    -- the table is refused
    pub refused_listed : {s t : List ℕ} {r : ℕ} (number line : ℕ) → c ≡ Refused number line
        → Puts 0 (alone number line) s t r → Listed input s t r
    unfolding table_listing
    refused_listed number line is q =
        let over = outcome_refuses old (judged (take end input)) number line (sym told ∙ is) in
        listed input (alone number line) (by_judged (refused number line) over) q

    -- the table is accepted, and the columns hold it
    pub accepted_listed : {s t : List ℕ} {r : ℕ} (n : TableCounts) → c ≡ Accepted n
        → Puts 0 (script_text n.terms ks ps os xs rs lent) s t r → Listed input s t r
    accepted_listed n is q =
        let (table, judged-so, counts, columns_are) = outcome_accepts old (judged (take end input)) n (sym told ∙ is) in
        let script : TableCounts → Columns → List ℕ =
        λ m d. script_text m.terms d.kinds d.payloads d.owners d.after d.roots (drop end input) in
        let same : script n (all_columns ks ps os xs rs) ≡ script (table_counts table) (columns_of table) =
        ap₂ script counts (ap (λ (q : Outcome). q.columns) checks ∙ columns_are) in
        listed input _
        (by_judged (accepted table) judged-so
        ∙ sym (script_listed (take end input) table judged-so (drop end input)) ∙ sym same)
        (rw lent_is at q)
