-- What a save leaves in a slice, by its promise alone. Words that hold a run of a checked table are saved as its
-- track's text, which stands in front of a slice that is long enough; so equal bytes are equal texts, and these there
-- are exactly for runs that a renumbering carries onto each other. Assumes nothing.
use Rattle.std.specs.Prelude.{ℕ, ◌≤◌, ◌<◌, ◌≡◌, List, ◌↔◌, length}
use Rattle.std.proofs.Common.{sym, ap, ◌∙◌, arith}
use Rattle.std.proofs.lemmas.List.Edits.{sets-eq}
use Rattle.std.proofs.Math.Option.{some}
use Rattle.std.proofs.Math.ListN.{get_elem?}
use Rattle.std.proofs.Math.Seq.{take-append_seam}
use Rattle.lines.specs.Judging.{accepted}
use Rattle.tables.specs.Table.{Sofar, judged}
use Rattle.terms.specs.Term.{Term, definitions_of, Shallow}
use Rattle.terms.proofs.Trees.{each_at, checked_trees}
use Rattle.rules.specs.Run.{State}
use Rattle.graphs.specs.Graph.{graph_of}
use Rattle.graphs.specs.Saved.{saved}
use Rattle.graphs.specs.Renumbering.{Renumbering}
use Rattle.graphs.proofs.Exactly.{saved_equal_exactly}
use Rattle.writing.specs.words.Slice.{Put, with_slice, written}
use Rattle.writing.specs.Answers.{Saved, Short}
use Rattle.writing.proofs.Whole.{written_whole, written_short}
use Rattle.columns.specs.words.Columns.{all_columns}
use Rattle.tables.specs.words.Columns.{TableOf}
use Rattle.runs.specs.words.Held.{Words}
use Rattle.demands.specs.words.Words.{HoldsRun, SavesWords}
use Rattle.demands.specs.words.Bytes.{bytes_of}

-- a text that is written into a slice long enough stands in front of it
pub written_bytes : (t slice : List ℕ) → length t ≤ length slice
    → {r : Saved} {after : List ℕ} → with_slice r after ≡ written t slice → bytes_of r after ≡ t
unfolding bytes_of
written_bytes t slice fits e =
    ap (λ (q : Put). bytes_of q.answer q.slice) (e ∙ written_whole t slice fits)
    ∙ rw (sets-eq t slice 0 (omega arith)) (take-append_seam t _)

-- the definitions of a checked table: every literal's path has room
pub checked_shallow : (text : List ℕ) (t : Sofar) → judged text ≡ accepted t
    → (k : ℕ) (u : Term) → get_elem? (definitions_of t) k ≡ some u → Shallow 0 u
checked_shallow text t q k u e =
    (each_at t.definitions t.events (definitions_of t) (checked_trees text t q).each k u e).0

-- there is one, and there are no more than a byte tells apart
pub checked_count : (text : List ℕ) (t : Sofar) → judged text ≡ accepted t
    → (0 < length (definitions_of t)) × (length (definitions_of t) ≤ 256)
checked_count text t q =
    let table = checked_trees text t q in (
      omega (arith, table.many, table.some_definitions),
      omega (arith, table.many, table.few_definitions),
    )

-- runs of one table, in the columns that its check left
module _ {text ks ps os xs rs : List ℕ} {t : Sofar} (table : TableOf text (all_columns ks ps os xs rs) t) where
  -- an outcome of a save of words that hold a run
  module _ {p x : List ℕ} (v : Words) (s : State) (held : HoldsRun p x t v s) (slice slice' : List ℕ) (r : Saved)
      (save : SavesWords ks os xs rs v slice r slice') where
    -- into a slice long enough, it leaves the track's saved text
    pub save_leaves : length (saved (graph_of s)) ≤ length slice → bytes_of r slice' ≡ saved (graph_of s)
    save_leaves fits = written_bytes (saved (graph_of s)) slice fits (save text ps p x t s table held)

    -- "A refused table, save or read writes nothing": into a shorter one it writes nothing, and tells the length
    pub short_save : length slice < length (saved (graph_of s))
        → (r ≡ Short (length (saved (graph_of s)))) × (slice' ≡ slice)
    short_save short =
        let told = save text ps p x t s table held ∙ written_short (saved (graph_of s)) slice short in
        (ap (λ (q : Put). q.answer) told, ap (λ (q : Put). q.slice) told)

  -- "Two runs of one table save equal bytes exactly when a renumbering that fixes the start node carries the saved
  -- nodes, places, arcs and meetings of one onto the other"
  pub equal_bytes_exactly : {p x p' x' : List ℕ} (v v' : Words) (s s' : State) → HoldsRun p x t v s
      → HoldsRun p' x' t v' s'
      → (slice after slice' after' : List ℕ) (r r' : Saved)
      → SavesWords ks os xs rs v slice r after → SavesWords ks os xs rs v' slice' r' after'
      → length (saved (graph_of s)) ≤ length slice → length (saved (graph_of s')) ≤ length slice'
      → (bytes_of r after ≡ bytes_of r' after') ↔ Renumbering (graph_of s) (graph_of s')
  equal_bytes_exactly v v' s s' held held' slice after slice' after' r r' save save' fits fits' =
      let one = save_leaves v s held slice after r save fits in
      let other = save_leaves v' s' held' slice' after' r' save' fits' in
      let (some_Is_first, few) = checked_count text t table.checked in
      let exactly = saved_equal_exactly (definitions_of t) held.reached held'.reached
      (checked_shallow text t table.checked) some_Is_first few in
      (λ e. exactly.0 (sym one ∙ e ∙ other), λ n. one ∙ exactly.1 n ∙ sym other)
