-- Lines and the frames that are due. A frame of its width meets no refusal where it is due exactly when it is
-- that kind of frame and within its range; so lines that are read are the bytes of such frames one by one,
-- what is read is what these frames say, and lines of such frames are read. Frames that are due as one kind
-- are a list of that kind's. Assumes nothing.
use Rattle.std.proofs.Common.{ℕ, zero, suc, ◌+◌, ◌≤◌, ◌<◌, ◌≡◌, refl, ap, ◌∙◌, Bool, true, false, List, []}
use Rattle.std.proofs.Common.{◌∷◌, ◌++◌, map, arith, length, replicate, leb, ltb, ltb-true, leb-true}
use mathlib.Core.List.{foldl}
use Rattle.std.proofs.Math.Option.{none, some}
use Rattle.lines.specs.Line.{Raw, frame, Bytes, byte_first, Frames, no_frames, frame_first}
use Rattle.lines.specs.Judging.{Judged, accepted, judged_from}
use Rattle.lines.proofs.Digits.{both}
use Rattle.lines.proofs.Judging.{ends_whole, line_taken, accepted_whole, accepted_line}
use Rattle.lines.proofs.Written.{read_frames}
use Rattle.frames.specs.TableFrame.{path_room}
use Rattle.places.specs.Place.{Place}
use Rattle.rules.specs.Track.{Label, Pair}
use Rattle.graphs.specs.Graph.{Graph}
use Rattle.graphs.specs.Parsed.{Frame, node, arc, meeting, last, wrong, ends_below, in_range, unless}
use Rattle.graphs.specs.Parsed.{Due, a_node, an_arc, a_meeting, the_last, refusal, taken, frame_of}
use Rattle.graphs.specs.Parsed.{due, whole_at, number_met, stage_behind, track_lines}
use Rattle.graphs.proofs.FrameBytes.{spelt, spelt_first, spelt_frame, frame_spelt, Short, Sized}
use Rattle.graphs.proofs.FrameBytes.{sized_opening, sized_node, sized_arc, sized_meeting, sized_last}

-- each of some
pub data Each {A : Type 0} (P : A → Type 0) : List A → Type 0 where
  each_none : Each P []
  each_first : {x : A} {xs : List A} → P x → Each P xs → Each P (x ∷ xs)

-- a label's numbers are of their width, and its place is in range for a table of d definitions
pub record LabelFits (d : ℕ) (l : Label) : Type 0 where
  pub reference_fits : l.reference < 65536
  pub place_fits : in_range d l.place ≡ true
  pub path_fits : Bytes l.place.path

-- the ends of an arc or a meeting are below the node count
abbrev pub PairFits : ℕ → Pair → Type 0
PairFits n a = ends_below n a ≡ true

-- a frame is the one that is due, and within its range
pub data Fitting (d n : ℕ) : Due → Frame → Type 0 where
  node_fits : {i : ℕ} {w : Place} → LabelFits d (record { reference = i; place = w })
      → Fitting d n a_node (node i w)
  arc_fits : {a : Pair} → PairFits n a → Fitting d n an_arc (arc a)
  meeting_fits : {a : Pair} → PairFits n a → Fitting d n a_meeting (meeting a)
  last_fits : Fitting d n the_last last

-- a test that met no refusal held
pub unless_none : (b : Bool) → unless b ≡ 0 → b ≡ true
unless_none true e = refl
unless_none false e = absurd (omega arith)

module _ (d n : ℕ) where
  -- it meets no refusal
  fitting_passes : {x : Due} {f : Frame} → Fitting d n x f → refusal d n x f ≡ 0
  unfolding refusal
  fitting_passes (node_fits h) = rw h.place_fits
  fitting_passes (arc_fits h) = rw h
  fitting_passes (meeting_fits h) = rw h
  fitting_passes last_fits = refl

  -- a frame of its width that meets none is due and within its range
  passes_fitting : (x : Due) {f : Frame} → Sized f → refusal d n x f ≡ 0 → Fitting d n x f
  unfolding refusal
  passes_fitting a_node (sized_node {w = w} h (byte_first i (byte_first j t))) e =
      node_fits (record { reference_fits = h; place_fits = unless_none (in_range d w) e; path_fits = t })
  passes_fitting a_node (sized_opening h i j k) e = absurd (omega arith)
  passes_fitting a_node (sized_arc h) e = absurd (omega arith)
  passes_fitting a_node (sized_meeting h) e = absurd (omega arith)
  passes_fitting a_node sized_last e = absurd (omega arith)
  passes_fitting an_arc (sized_arc {a = a} h) e = arc_fits (unless_none (ends_below n a) e)
  passes_fitting an_arc (sized_opening h i j k) e = absurd (omega arith)
  passes_fitting an_arc (sized_node h t) e = absurd (omega arith)
  passes_fitting an_arc (sized_meeting h) e = absurd (omega arith)
  passes_fitting an_arc sized_last e = absurd (omega arith)
  passes_fitting a_meeting (sized_meeting {a = a} h) e = meeting_fits (unless_none (ends_below n a) e)
  passes_fitting a_meeting (sized_opening h i j k) e = absurd (omega arith)
  passes_fitting a_meeting (sized_node h t) e = absurd (omega arith)
  passes_fitting a_meeting (sized_arc h) e = absurd (omega arith)
  passes_fitting a_meeting sized_last e = absurd (omega arith)
  passes_fitting the_last sized_last e = last_fits
  passes_fitting the_last (sized_opening h i j k) e = absurd (omega arith)
  passes_fitting the_last (sized_node h t) e = absurd (omega arith)
  passes_fitting the_last (sized_arc h) e = absurd (omega arith)
  passes_fitting the_last (sized_meeting h) e = absurd (omega arith)

-- ends below a count of two bytes are of two bytes
ends_short : (n : ℕ) → n ≤ 65536 → {a : Pair} → PairFits n a → Short a
unfolding ends_below
ends_short n h {a} e =
    let i = both (ltb a.from n) (ltb a.to n) e in
    let p = ltb-true a.from n i.0 in
    let q = ltb-true a.to n i.1 in
    record { from_short = omega arith; to_short = omega arith }

-- what is within its range is of its width
fitting_sized : (d n : ℕ) → d ≤ 256 → n ≤ 65536 → {x : Due} {f : Frame} → Fitting d n x f → Sized f
unfolding in_range
fitting_sized d n l m (node_fits {w = w} h) =
    let i = both (leb (length w.path) path_room) (ltb w.definition d) h.place_fits in
    let p = leb-true (length w.path) path_room i.0 in
    let q = ltb-true w.definition d i.1 in
    let sizes = byte_first {b = length w.path} (omega arith) h.path_fits in
    sized_node {w = w} h.reference_fits (byte_first {b = w.definition} (omega arith) sizes)
fitting_sized d n l m (arc_fits h) = sized_arc (ends_short n m h)
fitting_sized d n l m (meeting_fits h) = sized_meeting (ends_short n m h)
fitting_sized d n l m last_fits = sized_last

-- a line that meets no refusal is a frame of its width, written
pub record Heard (l : Raw) (f : Frame) : Type 0 where
  pub sized : Sized f
  pub written : frame l ≡ some (spelt f)

pub line_heard : (l : Raw) {bs : List ℕ} → frame l ≡ some bs → (r : Frame → ℕ) → r wrong ≡ 2
    → r (frame_of bs) ≡ 0 → Heard l (frame_of bs)
line_heard l {bs} i r wrong-met none_met =
    let h = bytes_of bs (read_frames (bs ∷ []) (l ∷ []) (rw i)) in
    let s = frame_spelt h (λ w. let z : ◌≡◌ {A = ℕ} 0 2 = cc in omega arith) in
    record { sized = s.sized; written = i ∙ ap some s.same }
  where
    bytes_of : (bs : List ℕ) → Frames (bs ∷ []) → Bytes bs
    bytes_of (b ∷ bs) (frame_first h t) = h
    bytes_of [] x' = elim x' [ ]

-- frames are those that are due, one by one
pub data Fitted (d n : ℕ) : List Due → List Frame → Type 0 where
  fitted_none : Fitted d n [] []
  fitted_first : {x : Due} {f : Frame} {xs : List Due} {fs : List Frame} → Fitting d n x f → Fitted d n xs fs
      → Fitted d n (x ∷ xs) (f ∷ fs)

-- lines are frames, written
abbrev pub Lines : List Raw → List Frame → Type 0
Lines ls fs = map frame ls ≡ map some (map spelt fs)

-- lines that are read are fitted frames, and what is read is what they say
pub record Told (d n : ℕ) (xs : List Due) (g : Graph) (ls : List Raw) (h : Graph) : Type 0 where
  pub told : List Frame
  pub written : Lines ls told
  pub fitted : Fitted d n xs told
  pub graph : h ≡ foldl taken g told

-- a wrong frame is never due
refusal_wrong : (d n : ℕ) (x : Due) → refusal d n x wrong ≡ 2
unfolding refusal
refusal_wrong d n a_node = refl
refusal_wrong d n an_arc = refl
refusal_wrong d n a_meeting = refl
refusal_wrong d n the_last = refl

module _ (d n : ℕ) where
  -- what is judged of the lines from line k on, by what is due and the graph so far
  abbrev pub rest : List Due → Graph → ℕ → List Raw → Judged Graph
  rest xs g k ls = judged_from (track_lines d) (due n xs g) k ls

  -- lines that are read are frames that are due
  pub rest_told : (xs : List Due) (g h : Graph) (k : ℕ) (ls : List Raw) → rest xs g k ls ≡ accepted h
      → Told d n xs g ls h
  unfolding whole_at number_met stage_behind
  rest_told [] g h k [] e =
      let says = accepted_whole (track_lines d) (due n [] g) k e in
      record { told = []; written = refl; fitted = fitted_none; graph = cc }
  rest_told [] g h k (l ∷ ls) e =
      let late = (accepted_line (track_lines d) (due n [] g) k l ls e).none_met in
      absurd (omega (arith, late))
  rest_told (x ∷ xs) g h k [] e =
      let early : none ≡ some h = accepted_whole (track_lines d) (due n (x ∷ xs) g) k e in
      let z : ◌≡◌ {A = ℕ} 0 1 = cc in absurd (omega arith)
  rest_told (x ∷ xs) g h k (l ∷ ls) e =
      let t = accepted_line (track_lines d) (due n (x ∷ xs) g) k l ls e in
      let f = frame_of t.bytes in
      let o = line_heard l t.framed (refusal d n x) (refusal_wrong d n x) t.none_met in
      let r = rest_told xs (taken g f) h (k + 1) ls t.then in
      record {
        told = f ∷ r.told;
        written = cc (o.written, r.written);
        fitted = fitted_first (passes_fitting d n x o.sized t.none_met) r.fitted;
        graph = r.graph;
      }

  -- a written frame that is due is taken
  rest_first : {x : Due} {f : Frame} → Fitting d n x f → Sized f → (xs : List Due) (g : Graph) (k : ℕ) (l : Raw)
      (ls : List Raw) → frame l ≡ some (spelt f)
      → rest (x ∷ xs) g k (l ∷ ls) ≡ rest xs (taken g f) (k + 1) ls
  unfolding number_met stage_behind
  rest_first {x} {f} fit s xs g k l ls e =
      line_taken (track_lines d) (due n (x ∷ xs) g) k l ls e (rw (spelt_frame s) (fitting_passes d n fit))
      ∙ ap (λ (h : Frame). rest xs (taken g h) (k + 1) ls) (spelt_frame s)

  -- and lines of frames that are due are read as what they say
  pub told_rest : d ≤ 256 → n ≤ 65536 → {xs : List Due} {fs : List Frame} → Fitted d n xs fs
      → (g : Graph) (k : ℕ) (ls : List Raw) → Lines ls fs → rest xs g k ls ≡ accepted (foldl taken g fs)
  unfolding whole_at
  told_rest i j fitted_none g k [] e = ends_whole (track_lines d) (due n [] g) k refl
  told_rest i j fitted_none g k (l ∷ ls) e = let z : ◌≡◌ {A = ℕ} 0 1 = cc in absurd (omega arith)
  told_rest i j (fitted_first fit t) g k [] e = let z : ◌≡◌ {A = ℕ} 0 1 = cc in absurd (omega arith)
  told_rest i j (fitted_first {f = f} {xs = xs} fit t) g k (l ∷ ls) e =
      rest_first fit (fitting_sized d n i j fit) xs g k l ls (cc) ∙ told_rest i j t (taken g f) (k + 1) ls (cc)

  -- they are frames of a text
  pub fitted_frames : d ≤ 256 → n ≤ 65536 → {xs : List Due} {fs : List Frame} → Fitted d n xs fs
      → Frames (map spelt fs)
  fitted_frames i j fitted_none = no_frames
  fitted_frames i j (fitted_first fit t) = spelt_first (fitting_sized d n i j fit) (fitted_frames i j t)

  -- what is due in two parts is fitted in two parts
  pub fitted_append : {xs ys : List Due} {fs hs : List Frame} → Fitted d n xs fs → Fitted d n ys hs
      → Fitted d n (xs ++ ys) (fs ++ hs)
  fitted_append fitted_none u = u
  fitted_append (fitted_first fit t) u = fitted_first fit (fitted_append t u)

-- fitted frames in two parts
pub record Parts (d n : ℕ) (xs ys : List Due) (fs : List Frame) : Type 0 where
  pub front : List Frame
  pub back : List Frame
  pub parts : fs ≡ front ++ back
  pub front_fitted : Fitted d n xs front
  pub back_fitted : Fitted d n ys back

pub fitted_split : (d n : ℕ) (xs ys : List Due) (fs : List Frame) → Fitted d n (xs ++ ys) fs
    → Parts d n xs ys fs
fitted_split d n [] ys fs t =
    record { front = []; back = fs; parts = refl; front_fitted = fitted_none; back_fitted = t }
fitted_split d n (x ∷ xs) ys (f ∷ fs) (fitted_first fit t) =
    let p = fitted_split d n xs ys fs t in
    record {
      front = f ∷ p.front;
      back = p.back;
      parts = cc;
      front_fitted = fitted_first fit p.front_fitted;
      back_fitted = p.back_fitted;
    }
fitted_split d n (x ∷ xs) ys [] t = elim t [ ]

-- what frames that are all due as one kind are made of
pub record Run {A : Type 0} (made : A → Frame) (P : A → Type 0) (k : ℕ) (fs : List Frame) : Type 0 where
  pub things : List A
  pub frames_made : fs ≡ map made things
  pub count : length things ≡ k
  pub each : Each P things

-- a kind's things are fitted where it is due, once each, and frames that are fitted there are of its things
module _ (d n : ℕ) {A : Type 0} (x : Due) (made : A → Frame) (P : A → Type 0) where
  pub run_fits : ((a : A) → P a → Fitting d n x (made a)) → {as' : List A} → Each P as'
      → Fitted d n (replicate (length as') x) (map made as')
  run_fits one each_none = fitted_none
  run_fits one (each_first {x = a} h t) = fitted_first (one a h) (run_fits one t)

  pub run_of : ((f : Frame) → Fitting d n x f → (a : A) × (f ≡ made a) × P a) → (k : ℕ) (fs : List Frame)
      → Fitted d n (replicate k x) fs → Run made P k fs
  run_of one zero [] fitted_none = record { things = []; frames_made = refl; count = refl; each = each_none }
  run_of one (suc k) (f ∷ fs) (fitted_first fit t) =
      let a = one f fit in
      let r = run_of one k fs t in
      record {
        things = a.0 ∷ r.things;
        frames_made = cc;
        count = ap suc r.count;
        each = each_first a.2 r.each;
      }
  run_of one zero (f ∷ fs) x3 = elim x3 [ ]
  run_of one (suc k) [] x4 = elim x4 [ ]
