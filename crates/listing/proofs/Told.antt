-- What is told of a script over the columns of a checked table is its listing. The words' lines come to what the lines
-- do, so the events are those of the steps, the status is the control's, and the text that is saved is the track's;
-- frame by frame they are told alike. Assumes nothing.
use Rattle.std.proofs.Common.{ℕ, ◌≡◌, refl, sym, ap, ◌∙◌, List, [], ◌∷◌, ◌++◌, map, append_assoc, length}
use Rattle.std.proofs.Common.{replicate, leb}
use Rattle.std.proofs.lemmas.List.{length-replicate}
use Rattle.lines.specs.Line.{choose, lines, text}
use Rattle.lines.specs.Judging.{accepted}
use Rattle.scripts.specs.Script.{most}
use Rattle.tables.specs.Table.{Sofar, judged}
use Rattle.tables.specs.words.Columns.{kinds, payloads, owners, afters, roots}
use Rattle.terms.specs.Term.{Term, definitions_of}
use Rattle.rules.specs.Run.{State, start}
use Rattle.rules.specs.Offers as Report
use Rattle.plans.specs.code.Laid.{laid_out}
use Rattle.plans.specs.words.Layout.{layout}
use Rattle.plans.proofs.LaidRooms.{layout_low}
use Rattle.status.specs.code.Status.{status}
use Rattle.status.proofs.Runs.{run_covers, run_status}
use Rattle.counting.specs.code.Counting.{reference}
use Rattle.runs.specs.words.Held.{Holds}
use Rattle.runs.proofs.Starting.{start_holds}
use Rattle.runs.proofs.Tabled.{checked_table}
use Rattle.graphs.specs.Graph.{graph_of}
use Rattle.graphs.specs.Saved.{saved}
use Rattle.saving.specs.code.Saving.{text_of}
use Rattle.saving.proofs.SavedTold.{saves_told}
use Rattle.spelling.proofs.Spelt.{text_append}
use Rattle.telling.specs.ListingFrame.{step_frame, status_frame, alone}
use Rattle.listing.specs.Listing.{end_frames, Played, played, script_room, within_room, run_listing}
use Rattle.listing.specs.Listing.{table_listing}
use Rattle.listing.specs.code.Told.{Stopped, from_start, stopped_text, run_text, script_text}
use Rattle.listing.proofs.Played.{Agrees, stepped_agrees}

-- frames, another and more behind them, in parts
text_parts : (fs : List (List ℕ)) (f : List ℕ) (hs : List (List ℕ))
    → text fs ++ text (f ∷ []) ++ text hs ≡ text (fs ++ f ∷ hs)
text_parts fs f hs =
    append_assoc (text fs) (text (f ∷ [])) (text hs)
    ∙ sym (text_append fs (f ∷ hs) ∙ ap (λ (b : List ℕ). text fs ++ b) (text_append (f ∷ []) hs))

-- a checked table
module _ (table : List ℕ) (t : Sofar) (q : judged table ≡ accepted t) where
  abbrev ts : List Term
  ts = definitions_of t

  module _ {p x w g c : List ℕ} {s : State} (held : Holds (layout t) p x ts w g c s) where
    -- the status of a run's words is its control's
    status_told : status_frame (status p x w (reference c)) ≡ status_frame (Report.status t.events s.process)
    status_told =
        rw held.tells.reference_is
        (ap status_frame (run_status p x w (layout t) (layout_low t) s.reference t.events s.process
        held.tells.controls (run_covers table t q held.reached)))

    -- and their text is its track's
    track_told : text_of (kinds t) (owners t) (afters t) (roots t) w g c ≡ saved (graph_of s)
    track_told =
        saves_told table (kinds t) (payloads t) (owners t) (afters t) (roots t) t
        (record { checked = q; columns_are = refl }) p x w g c s held

  -- what is told of lines that have stopped is their listing
  stopped_told : (p x : List ℕ) (z : Stopped) (r : Played) → Agrees (layout t) p x ts z r
      → stopped_text p x (kinds t) (owners t) (afters t) (roots t) z ≡ run_listing t.events r
  unfolding stopped_text run_listing
  stopped_told p x z r agrees =
      let held = agrees.holds in
      rw (agrees.events_are, agrees.stop_is, status_told held, track_told held)
      (ap (λ told. told ++ within_room (saved (graph_of r.state)))
      (text_parts (map step_frame r.events) _ (end_frames r.end)))

-- a script over the columns of a checked table, from the start: what is told is its listing
pub run_listed : (table : List ℕ) (t : Sofar) → judged table ≡ accepted t → (script : List ℕ)
    → run_text (laid_out (length t.terms) (kinds t) (payloads t) (afters t) (roots t)) (payloads t) (kinds t)
    (owners t) (afters t) (roots t) script
    ≡ run_listing t.events (played (definitions_of t) start 1 (lines script))
unfolding run_text from_start
run_listed table t q script =
    let plan = laid_out (length t.terms) (kinds t) (payloads t) (afters t) (roots t) in
    stopped_told table t q plan (payloads t) _ _
    (stepped_agrees (layout t) plan (payloads t) (definitions_of t) (checked_table table t q) (lines script) 1
    (replicate most 0) (length-replicate {A = ℕ} most 0) _ _ _ start
    (start_holds (layout t) plan (payloads t) (definitions_of t)))

-- and by the room of its text, it is the listing behind an accepted table
pub script_listed : (table : List ℕ) (t : Sofar) → judged table ≡ accepted t → (script : List ℕ)
    → script_text (length t.terms) (kinds t) (payloads t) (owners t) (afters t) (roots t) script
    ≡ table_listing (accepted t) script
unfolding script_text table_listing
script_listed table t q script =
    ap (λ (told : List ℕ). choose (leb (length script) script_room) told (alone 6 0)) (run_listed table t q script)
