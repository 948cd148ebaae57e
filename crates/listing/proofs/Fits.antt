-- A listing is at most 131,086 bytes. A step's line has at most 7 characters, its LF with it, and the
-- shortest line that asks for a step, `20 llll` and LF, has 7: so the steps' lines are no longer than the
-- script. The status is 5 more, a refusal 9, and the track is within its room. Assumes nothing.
use Rattle.std.proofs.Common.{ℕ, ◌+◌, ◌≤◌, ◌≡◌, refl, sym, ap, Bool, true, false, List, [], ◌∷◌, ◌++◌, map}
use Rattle.std.proofs.Common.{arith, length, drop, replicate, length-append, leb, le-leb, leb-true}
use Rattle.std.proofs.lemmas.List.{length-replicate}
use Rattle.std.proofs.lemmas.List.Edits.{sets, sets-eq}
use Rattle.std.proofs.Math.Option.{Option, none, some}
use Rattle.std.proofs.Math.Nat.{sub-zero}
use Rattle.std.proofs.Math.Seq.{length-sets, take-append_seam}
use Rattle.lines.specs.Line.{choose, LF, Raw, full, lines, text, two}
use Rattle.lines.specs.Judging.{Judged}
use Rattle.lines.specs.Judging as Judging
use Rattle.lines.specs.code.Characters.{part}
use Rattle.lines.proofs.Laws.{lines_first}
use Rattle.desk_lines.specs.DeskLine.{desk_frame}
use Rattle.desk_lines.proofs.Laws.{frame_counts}
use Rattle.scripts.specs.Script.{Asked, address, refused, asked}
use Rattle.scripts.specs.code.Answers.{refusal}
use Rattle.scripts.proofs.Steps.{is_step}
use Rattle.tables.specs.Table.{Sofar, judged}
use Rattle.terms.specs.Term.{Term, definitions_of}
use Rattle.rules.specs.declared.Event.{Event}
use Rattle.rules.specs.declared.Event.TheVariants.{Tau as τ, Tick as ✓, Visible as visible}
use Rattle.rules.specs.Run.{State, start, Answer, accepted}
use Rattle.rules.specs.Run as Run
use Rattle.rules.specs.declared.Status.{Status}
use Rattle.rules.specs.declared.Status.TheVariants.{Live as live, Ended as ended, Stuck as stuck}
use Rattle.rules.specs.Offers.{status}
use Rattle.graphs.specs.Graph.{graph_of}
use Rattle.graphs.specs.Saved.{saved}
use Rattle.graphs.proofs.Spelled.{line_length}
use Rattle.spelling.proofs.Spelt.{text_append}
use Rattle.inputs.specs.Cut.{table_text, script_text}
use Rattle.telling.specs.ListingFrame.{step_frame, status_frame, refusal_frame, alone}
use Rattle.playing.specs.LineAnswer.{line_answer}
use Rattle.listing.specs.Listing.{goes_on, played, Played, End, played_out, refused_at}
use Rattle.listing.specs.Listing.{script_room, save_room, end_frames, within_room, run_listing}
use Rattle.listing.specs.Listing.{table_listing, listing}

-- the frames of a step, a status and a refusal
step_long : (e : Event) → length (step_frame e) ≤ 3
unfolding step_frame
step_long τ = omega arith
step_long ✓ = omega arith
step_long (visible e) = omega arith

status_long : (s : Status) → length (status_frame s) ≡ 2
unfolding status_frame
status_long live = refl
status_long ended = refl
status_long stuck = refl

refusal_long : (r n : ℕ) → length (refusal_frame r n) ≡ 4
unfolding refusal_frame two
refusal_long r n = refl

-- a refusal told alone is 9 bytes
alone_long : (r n : ℕ) → length (alone r n) ≡ 9
unfolding text
alone_long r n = omega (arith, line_length (refusal_frame r n) [], refusal_long r n)

-- a line that asks for a step is 6 characters or more, and its LF
line_asks : (l : Raw) (ds : List ℕ) → asked (desk_frame l) ≡ address ds
    → (cs : List ℕ) × (l ≡ full cs) × (6 ≤ length cs)
unfolding asked refusal
line_asks l ds e = go (desk_frame l) refl e
  where
    go : (o : Option (List ℕ)) → desk_frame l ≡ o → asked o ≡ address ds
        → (cs : List ℕ) × (l ≡ full cs) × (6 ≤ length cs)
    go none q e = let z : ◌≡◌ {A = ℕ} 0 1 = cc in absurd (omega arith)
    go (some bs) q e =
        let counts = frame_counts l bs q in
        (counts.0, counts.1, omega (arith, counts.2, (is_step bs (sym (ap refusal e))).headed))

-- the lines of a script's accepted steps
abbrev steps : Played → List ℕ
steps r = text (map step_frame r.events)

-- a step's line, in front of others, is no longer than the line that asks for it, in front of other lines
step_within : (e : Event) (fs : List (List ℕ)) (cs t : List ℕ) → 6 ≤ length cs → length (text fs) ≤ length t
    → length (text (step_frame e ∷ fs)) ≤ length (cs ++ LF ∷ t)
step_within e fs cs t h within =
    omega (arith, step_long e, line_length (step_frame e) fs, length-append cs (LF ∷ t))

-- the steps' lines are no longer than the script
steps_within : (ts : List Term) (s : State) (n : ℕ) (ls : List Raw) (t : List ℕ) → lines t ≡ ls
    → length (steps (played ts s n ls)) ≤ length t
unfolding played goes_on line_answer text
steps_within ts s n [] t e = omega arith
steps_within ts s n (l ∷ ls) t e =
    asking (asked (desk_frame l)) refl (λ s' t' e'. steps_within ts s' (n + 1) ls t' e')
  where
    further : State → Played
    further s' = played ts s' (n + 1) ls

    Within : Type 0
    Within = (s' : State) (t' : List ℕ) → lines t' ≡ ls → length (steps (further s')) ≤ length t'

    answering : (cs : List ℕ) → l ≡ full cs → 6 ≤ length cs → Within
        → (a : Answer) → length (steps (goes_on s n further a)) ≤ length t
    answering cs f h within (Run.refused r) = omega arith
    answering cs f h within (accepted v s') =
        let first = lines_first t cs ls (rw f at e) in
        let shorter = within s' first.0 (sym first.2) in
        rw first.1 (step_within v (map step_frame (further s').events) cs first.0 h shorter)

    asking : (a : Asked) → asked (desk_frame l) ≡ a → Within
        → length (steps (goes_on s n further (line_answer ts s a))) ≤ length t
    asking (refused r) q within = omega arith
    asking (address ds) q within =
        let asks = line_asks l ds q in
        answering asks.0 asks.1 asks.2 within (line_answer ts s (address ds))

-- the status, and the refusal where there is one, are 14 bytes at most
end_long : (s : Status) (e : End) → length (text (status_frame s ∷ end_frames e)) ≤ 14
unfolding end_frames text
end_long s played_out = omega (arith, line_length (status_frame s) [], status_long s)
end_long s (refused_at r n) =
    omega (arith, line_length (status_frame s) (refusal_frame r n ∷ []), status_long s, alone_long r n)

-- a track is told within its room
track_long : (t : List ℕ) → length (within_room t) ≤ save_room
unfolding within_room
track_long t = go (leb (length t) save_room) refl
  where
    go : (b : Bool) → leb (length t) save_room ≡ b → length (choose b t (alone 12 0)) ≤ save_room
    go true e = leb-true (length t) save_room e
    go false e = omega (arith, alone_long 12 0)

-- a script's listing is its steps, those, and the track
run_long : (n : ℕ) (r : Played) → length (run_listing n r) ≤ length (steps r) + 14 + save_room
unfolding run_listing
run_long n r =
    let s = status n r.state.process in
    let told = text (status_frame s ∷ end_frames r.end) in
    let track = saved (graph_of r.state) in
    let whole = length-append (steps r ++ told) (within_room track) in
    let front = length-append (steps r) told in
    rw (text_append (map step_frame r.events) (status_frame s ∷ end_frames r.end))
    (omega (arith, whole, front, end_long s r.end, track_long track))

-- a listing, by how the table is judged
table_long : (j : Judged Sofar) (script : List ℕ) → length (table_listing j script) ≤ 131086
unfolding table_listing
table_long (Judging.refused r n) script = omega (arith, alone_long r n)
table_long (Judging.accepted t) script = go (leb (length script) script_room) refl
  where
    r : Played
    r = played (definitions_of t) start 1 (lines script)

    go : (b : Bool) → leb (length script) script_room ≡ b
        → length (choose b (run_listing t.events r) (alone 6 0)) ≤ 131086
    go true e =
        let within = steps_within (definitions_of t) start 1 (lines script) script refl in
        omega (arith, run_long t.events r, within, leb-true (length script) script_room e)
    go false e = omega (arith, alone_long 6 0)

-- 131,086 bytes are enough for any listing
pub listing_fits : (input : List ℕ) → length (listing input) ≤ 131086
unfolding listing
listing_fits input = table_long (judged (table_text input)) (script_text input)

-- a text put in front of so many zeros that it fits is what stands there
put_in_front : (n : ℕ) (t : List ℕ) → length t ≤ n → part (sets (replicate n 0) 0 t) 0 (length t) ≡ t
unfolding part
put_in_front n t h =
    let zeros : List ℕ = replicate n 0 in
    let fits : 0 + length t ≤ length zeros = omega (arith, length-replicate {A = ℕ} n 0) in
    let long = length-sets zeros 0 t in
    let ends = le-leb (length t) (length (sets zeros 0 t)) (omega arith) in
    simp (le-leb 0 (length t) (omega arith), ends, sub-zero)
    (rw (sets-eq t zeros 0 fits) (take-append_seam t (drop (0 + length t) zeros)))

-- what the program hands to the output is the listing
pub printed : (input : List ℕ)
    → part (sets (replicate 131086 0) 0 (listing input)) 0 (length (listing input)) ≡ listing input
printed input = put_in_front 131086 (listing input) (listing_fits input)
