-- The parts of the line reading are document 01's. A line that is due leads both readers on in the same way, or stops both. So
-- line 1 leads to what its counts make due; lines of one kind that are due are read a line at a time, each taken into the graph,
-- and what is due behind them from where they end; and the last line leads to what the graph says. Assumes nothing.
use Rattle.std.specs.Prelude.{ℕ, zero, suc, ◌+◌, ◌≤◌, Bool, true, false, ◌&&◌, List, [], ◌∷◌, ◌++◌, length, drop, replicate, leb, eqb, ◌≡◌, refl}
use Rattle.std.proofs.Common.{ap, ◌∙◌, arith, append_assoc, append-nil, add-zero, eqb-true, leb-true}
use Rattle.std.proofs.Math.Option.{Option, none, some}
use Rattle.lines.specs.Line.{choose, Raw, lines, frame, characters, seen, answer_of, answer}
use Rattle.lines.specs.Judging.{Judged, accepted, refused, at_end, at_line, judged_from}
use Rattle.lines.specs.declared.Line.TheVariants.{Found}
use Rattle.lines.proofs.Digits.{both}
use Rattle.lines.proofs.Laws.{is_line}
use Rattle.rules.specs.Run.{node_room, arc_room, meeting_room}
use Rattle.graphs.specs.Graph.{Graph}
use Rattle.graphs.specs.Parsed.{Frame, opening, node, arc, meeting, last, wrong, frame_of, Due, the_last, dues}
use Rattle.graphs.specs.Parsed.{unless, refusal, first_refusal, taken, nothing, at_start, whole_at, behind_first}
use Rattle.graphs.specs.Parsed.{stage_behind, due, number_met, track_lines, parsed}
use Rattle.graphs.proofs.DueLines.{rest}
use Rattle.opening.specs.code.Phases.{by_frame, line_read, Told, told_stop, told_after, lines_read}
use Rattle.opening.specs.code.Ends.{counts, opened, none_read, last_read}
use Rattle.opening.specs.Answers.{TrackOpened, Track, Fails, Lines, Goes, Stops}
use Rattle.opening.proofs.Dues.{last_due}

-- the work behind a part: on from where the next line begins, or refused
unfoldable pub onward : (ℕ → Judged Graph) → Lines → Judged Graph
onward on (Goes next) = on next
onward on (Stops r k) = refused r k

pub goes_on : {p : Judged Graph} (on : ℕ → Judged Graph) {t : Lines} {next : ℕ} → p ≡ onward on t → t ≡ Goes next
    → p ≡ on next
unfolding onward
goes_on on w e = w ∙ ap (onward on) e

pub stops_there : {p : Judged Graph} (on : ℕ → Judged Graph) {t : Lines} {r k : ℕ} → p ≡ onward on t → t ≡ Stops r k
    → p ≡ refused r k
unfolding onward
stops_there on w e = w ∙ ap (onward on) e

-- the lines behind a line are those from where the next line begins
next_lines : (text : List ℕ) (at : ℕ) (l : Raw) (ls : List Raw) → lines (drop at text) ≡ l ∷ ls → (bs : List ℕ)
    → frame l ≡ some bs → ls ≡ lines (drop (at + length (characters l) + 1) text)
unfolding answer_of seen
next_lines text at l ls q bs f =
    let end = at + length (characters l) in
    let found : answer at (lines (drop at text)) ≡ Found end (end + 1) = rw (q, f) in
    let i = is_line text at end (end + 1) found in
    cc (i.first, q)

-- a line that is due comes to what holds both where it stops and where it leads on
module _ {A : Type 0} (stops : ℕ → A) (meets : List ℕ → ℕ) (leads : List ℕ → ℕ → List Raw → A) (P : A → Type 0)
    (stopped : (r : ℕ) → P (stops r))
    (led : (bs : List ℕ) (next : ℕ) (ls : List Raw) → meets bs ≡ 0 → P (leads bs next ls)) where
  both_tests : (bs : List ℕ) (next : ℕ) (ls : List Raw) (b : Bool) → eqb (meets bs) 0 ≡ b
      → P (choose b (leads bs next ls) (stops (meets bs)))
  both_tests bs next ls true z = led bs next ls (eqb-true (meets bs) 0 z)
  both_tests bs next ls false z = stopped (meets bs)

  both_frames : (next : ℕ) (ls : List Raw) (o : Option (List ℕ)) → P (by_frame stops meets leads next ls o)
  unfolding by_frame
  both_frames next ls none = stopped 1
  both_frames next ls (some bs) = both_tests bs next ls (eqb (meets bs) 0) refl

  both_ways : (at : ℕ) (ls : List Raw) → P (line_read stops meets leads at ls)
  unfolding line_read
  both_ways at [] = stopped 2
  both_ways at (l ∷ ls) = both_frames (at + length (characters l) + 1) ls (frame l)

-- and to the same, read two ways that agree where it stops and where it leads on
module _ (text : List ℕ) (meets : List ℕ → ℕ) {A B : Type 0} (of : A → B) (stops : ℕ → A)
    (leads : List ℕ → ℕ → List Raw → A) (stops' : ℕ → B) (leads' : List ℕ → ℕ → List Raw → B)
    (same_stop : (r : ℕ) → stops' r ≡ of (stops r))
    (same_lead : (bs : List ℕ) (next : ℕ) → meets bs ≡ 0
    → leads' bs next (lines (drop next text)) ≡ of (leads bs next (lines (drop next text)))) where
  same_tests : (bs : List ℕ) (next : ℕ) (ls : List Raw) → ls ≡ lines (drop next text)
      → (b : Bool) → eqb (meets bs) 0 ≡ b
      → choose b (leads' bs next ls) (stops' (meets bs)) ≡ of (choose b (leads bs next ls) (stops (meets bs)))
  same_tests bs next ls e true z = rw e (same_lead bs next (eqb-true (meets bs) 0 z))
  same_tests bs next ls e false z = same_stop (meets bs)

  same_frames : (next : ℕ) (ls : List Raw) (o : Option (List ℕ))
      → ((bs : List ℕ) → o ≡ some bs → ls ≡ lines (drop next text))
      → by_frame stops' meets leads' next ls o ≡ of (by_frame stops meets leads next ls o)
  unfolding by_frame
  same_frames next ls none e = same_stop 1
  same_frames next ls (some bs) e = same_tests bs next ls (e bs refl) (eqb (meets bs) 0) refl

  same_lines : (at : ℕ) (ls : List Raw) → lines (drop at text) ≡ ls
      → line_read stops' meets leads' at ls ≡ of (line_read stops meets leads at ls)
  unfolding line_read
  same_lines at [] e = same_stop 2
  same_lines at (l ∷ ls) e =
      same_frames (at + length (characters l) + 1) ls (frame l) (next_lines text at l ls e)

  same_read : (at : ℕ) → line_read stops' meets leads' at (lines (drop at text))
      ≡ of (line_read stops meets leads at (lines (drop at text)))
  same_read at = same_lines at (lines (drop at text)) refl

-- the document's reader at line 1, and at a line that is due
module _ (d : ℕ) where
  abbrev first_leads_on : List ℕ → ℕ → List Raw → Judged Graph
  first_leads_on bs next ls = judged_from (track_lines d) (behind_first (frame_of bs)) 2 ls

  first_frames : (next : ℕ) (ls : List Raw) (o : Option (List ℕ))
      → at_line 1 (λ bs. first_refusal (frame_of bs)) (λ bs. first_leads_on bs next ls) o
      ≡ by_frame (λ r. refused r 1) (λ bs. first_refusal (frame_of bs)) first_leads_on next ls o
  unfolding by_frame at_line
  first_frames next ls none = refl
  first_frames next ls (some bs) = refl

  first_read : (at : ℕ) (ls : List Raw) → judged_from (track_lines d) at_start 1 ls
      ≡ line_read (λ r. refused r 1) (λ bs. first_refusal (frame_of bs)) first_leads_on at ls
  unfolding line_read judged_from at_end whole_at number_met stage_behind
  first_read at [] = refl
  first_read at (l ∷ ls) = first_frames (at + length (characters l) + 1) ls (frame l)

  module _ (n : ℕ) (x : Due) (meets : List ℕ → ℕ) (same : (bs : List ℕ) → refusal d n x (frame_of bs) ≡ meets bs)
      (ds : List Due) (g : Graph) (k : ℕ) where
    abbrev due_leads : List ℕ → ℕ → List Raw → Judged Graph
    due_leads bs next ls = rest d n ds (taken g (frame_of bs)) (k + 1) ls

    due_frames : (next : ℕ) (ls : List Raw) (o : Option (List ℕ))
        → at_line k (λ bs. refusal d n x (frame_of bs)) (λ bs. due_leads bs next ls) o
        ≡ by_frame (λ r. refused r k) meets due_leads next ls o
    unfolding by_frame at_line
    due_frames next ls none = refl
    due_frames next ls (some bs) = rw (same bs)

    due_read : (at : ℕ) (ls : List Raw)
        → rest d n (x ∷ ds) g k ls ≡ line_read (λ r. refused r k) meets due_leads at ls
    unfolding line_read judged_from at_end whole_at number_met stage_behind
    due_read at [] = refl
    due_read at (l ∷ ls) = due_frames (at + length (characters l) + 1) ls (frame l)

-- line 1: the work goes on by its counts
module _ (text : List ℕ) (d : ℕ) where
  unfoldable pub begun : TrackOpened → Judged Graph
  begun (Track n a s next) = rest d n (dues n a s) nothing 2 (lines (drop next text))
  begun (Fails r) = refused r 1

  counts_lead : (next : ℕ) (f : Frame) → first_refusal f ≡ 0
      → judged_from (track_lines d) (behind_first f) 2 (lines (drop next text)) ≡ begun (counts next f)
  unfolding begun counts behind_first first_refusal
  counts_lead next (opening e n a s) z = refl
  counts_lead next (node i w) z = absurd (omega (arith, z))
  counts_lead next (arc a) z = absurd (omega (arith, z))
  counts_lead next (meeting a) z = absurd (omega (arith, z))
  counts_lead next last z = absurd (omega (arith, z))
  counts_lead next wrong z = absurd (omega (arith, z))

  pub first_leads : parsed d text ≡ begun (opened (lines text))
  unfolding begun opened
  first_leads =
      first_read d 0 (lines text)
      ∙ same_read text (λ bs. first_refusal (frame_of bs)) begun Fails (λ bs next ls. counts next (frame_of bs))
      (λ r. refused r 1) (first_leads_on d) (λ r. refl) (λ bs next z. counts_lead next (frame_of bs) z) 0

-- and they keep to the rooms of a run
unfoldable pub Fits : TrackOpened → Type 0
Fits (Track n a s next) = (n ≤ node_room) × (a ≤ arc_room) × (s ≤ meeting_room)
Fits (Fails r) = Unit {0}

in_ranges : (b : Bool) → unless b ≡ 0 → b ≡ true
in_ranges true z = refl
in_ranges false z = absurd (omega arith)

counts_fit : (next : ℕ) (f : Frame) → first_refusal f ≡ 0 → Fits (counts next f)
unfolding Fits counts first_refusal
counts_fit next (opening e n a s) z =
    let fits = in_ranges (eqb e 1 && (leb n node_room && (leb a arc_room && leb s meeting_room))) z in
    let p = both (eqb e 1) (leb n node_room && (leb a arc_room && leb s meeting_room)) fits in
    let q = both (leb n node_room) (leb a arc_room && leb s meeting_room) p.1 in
    let r = both (leb a arc_room) (leb s meeting_room) q.1 in
    (leb-true n node_room q.0, leb-true a arc_room r.0, leb-true s meeting_room r.1)
counts_fit next (node i w) z = tt
counts_fit next (arc a) z = tt
counts_fit next (meeting a) z = tt
counts_fit next last z = tt
counts_fit next wrong z = tt

pub opened_fits : (ls : List Raw) → Fits (opened ls)
unfolding Fits opened
opened_fits ls =
    both_ways Fails (λ bs. first_refusal (frame_of bs)) (λ bs next ls. counts next (frame_of bs)) Fits (λ r. tt)
    (λ bs next ls z. counts_fit next (frame_of bs) z) 0 ls

-- lines of one kind that are due, where each that meets no refusal is taken into the graph
module _ (text : List ℕ) (d n : ℕ) (x : Due) (ds : List Due) {A : Type 0} (meets : List ℕ → ℕ) (told : List ℕ → A)
    (with_all : List A → Graph) (same : (bs : List ℕ) → refusal d n x (frame_of bs) ≡ meets bs)
    (takes : (bs : List ℕ) → meets bs ≡ 0 → (ys : List A)
    → taken (with_all ys) (frame_of bs) ≡ with_all (ys ++ (told bs ∷ []))) where
  -- the work behind them, on line k, with what was said before them
  abbrev led : List A → ℕ → Told A → Judged Graph
  led ys k t = onward (λ next. rest d n ds (with_all (ys ++ t.said)) k (lines (drop next text))) t.answer

  -- so many of them, from any line and cursor on
  abbrev Leads : ℕ → Type 0
  Leads m = (k at : ℕ) (ys : List A) → rest d n (replicate m x ++ ds) (with_all ys) k (lines (drop at text))
      ≡ led ys (k + m) (lines_read meets told m k at (lines (drop at text)))

  one_leads : (m : ℕ) → Leads m → (k : ℕ) (ys : List A) (bs : List ℕ) (next : ℕ) → meets bs ≡ 0
      → rest d n (replicate m x ++ ds) (taken (with_all ys) (frame_of bs)) (k + 1) (lines (drop next text))
      ≡ led ys (k + suc m)
      (told_after (told bs ∷ []) (lines_read meets told m (k + 1) next (lines (drop next text))))
  one_leads m less k ys bs next z =
      let one = told bs ∷ [] in
      let t = lines_read meets told m (k + 1) next (lines (drop next text)) in
      let l : k + 1 + m ≡ k + suc m = omega arith in
      ap (λ (g : Graph). rest d n (replicate m x ++ ds) g (k + 1) (lines (drop next text))) (takes bs z ys)
      ∙ less (k + 1) next (ys ++ one)
      ∙ ap (λ (zs : List A). onward (λ next. rest d n ds (with_all zs) (k + 1 + m) (lines (drop next text)))
      t.answer) (append_assoc ys one t.said)
      ∙ ap (λ (j : ℕ). led ys j (told_after one t)) l

  pub lines_lead : (m : ℕ) → Leads m
  unfolding onward lines_read
  lines_lead zero k at ys = rw (append-nil ys, add-zero k)
  lines_lead (suc m) k at ys =
      due_read d n x meets same (replicate m x ++ ds) (with_all ys) k at (lines (drop at text))
      ∙ same_read text meets (led ys (k + suc m)) (told_stop k) _ (λ r. refused r k) _ (λ r. refl)
      (one_leads m (lines_lead m) k ys) at

-- lines of one kind that are all read have said as many
module _ {A : Type 0} (meets : List ℕ → ℕ) (told : List ℕ → A) where
  abbrev Full : ℕ → Told A → Type 0
  Full m t = (next : ℕ) → t.answer ≡ Goes next → length t.said ≡ m

  stop_full : (m k r : ℕ) → Full m (told_stop k r)
  stop_full m k r next e = let z : ◌≡◌ {A = ℕ} 0 1 = cc in absurd (omega arith)

  pub all_said : (m k at : ℕ) (ls : List Raw) → Full m (lines_read meets told m k at ls)
  unfolding lines_read
  all_said zero k at ls = λ next e. refl
  all_said (suc m) k at ls =
      both_ways (told_stop k) meets _ (Full (suc m)) (stop_full (suc m) k)
      (λ bs next ls z to e. ap suc (all_said m (k + 1) next ls to e)) at ls

-- the last line, where no range bears on what it meets, and what stands behind it
last_met : (d n : ℕ) (f : Frame) → refusal d n the_last f ≡ refusal 0 0 the_last f
unfolding refusal
last_met d n (opening e k a s) = refl
last_met d n (node i w) = refl
last_met d n (arc a) = refl
last_met d n (meeting a) = refl
last_met d n last = refl
last_met d n wrong = refl

module _ (text : List ℕ) (d n : ℕ) (g : Graph) (k : ℕ) where
  abbrev ended : Lines → Judged Graph
  ended = onward (λ next. accepted g)

  none_leads : (h : Graph) → h ≡ g → (j next : ℕ) (ls : List Raw) → rest d n [] h j ls ≡ ended (none_read j next ls)
  unfolding onward none_read by_frame judged_from at_end at_line whole_at number_met
  none_leads h e j next [] = ap accepted e
  none_leads h e j next (l ∷ ls) = late (frame l)
    where
      late : (o : Option (List ℕ))
          → at_line j (λ bs. 2) (λ bs. judged_from (track_lines d) (stage_behind (due n [] h) bs) (j + 1) ls) o
          ≡ ended (by_frame (λ r. Stops r j) (λ bs. 2) (λ bs at ls. Goes at) next ls o)
      late none = refl
      late (some bs) = refl

  pub last_leads : (at : ℕ) → rest d n (the_last ∷ []) g k (lines (drop at text))
      ≡ onward (λ next. accepted g) (last_read k at (lines (drop at text)))
  unfolding onward last_read taken
  last_leads at =
      let met : List ℕ → ℕ = λ bs. refusal 0 0 the_last (frame_of bs) in
      due_read d n the_last met (λ bs. last_met d n (frame_of bs)) [] g k at (lines (drop at text))
      ∙ same_read text met ended (λ r. Stops r k) (λ bs next ls. none_read (k + 1) next ls) (λ r. refused r k) _
      (λ r. refl)
      (λ bs next z. none_leads (taken g (frame_of bs)) (rw (last_due bs 0 0 z)) (k + 1) next (lines (drop next text)))
      at
