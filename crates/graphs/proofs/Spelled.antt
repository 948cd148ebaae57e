-- The text of a graph and the graph that a text says determine each other. The lines behind line 1 are the
-- frames that its counts make due, and frames so due are those of one graph, whose counts those are; line 1
-- is the graph's by them. So a graph within the rooms is read back from its text, and a text that is read is
-- its graph's. Assumes nothing.
use Rattle.std.proofs.Common.{ℕ, ◌+◌, ◌*◌, ◌≤◌, ◌≡◌, refl, ap, ◌∙◌, ◌&&◌, List, [], ◌∷◌, ◌++◌, map}
use Rattle.std.proofs.Common.{append-nil, arith, length, take, replicate, length-append, leb, eqb, eqb-true}
use Rattle.std.proofs.Common.{eq-eqb, leb-true, le-leb}
use Rattle.std.proofs.lemmas.List.{map-append, length-map}
use Rattle.std.proofs.lemmas.Simd.{map-map}
use mathlib.Core.List.{foldl, foldl-append}
use Rattle.std.proofs.Math.Option.{none, some}
use Rattle.std.proofs.Math.Seq.{append_snoc}
use Rattle.lines.specs.Line.{Raw, frame, lines, two, hex, text, LF}
use Rattle.lines.specs.Judging.{accepted, judged_from}
use Rattle.lines.proofs.Digits.{both}
use Rattle.lines.proofs.Judging.{line_taken, accepted_whole, accepted_line}
use Rattle.lines.proofs.Written.{frames_back, text_back}
use Rattle.rules.specs.Track.{Label, Pair}
use Rattle.rules.specs.Run.{node_room, arc_room, meeting_room}
use Rattle.graphs.specs.Graph.{Graph}
use Rattle.graphs.specs.Saved.{opening_frame, node_frame, pair_frame, arc_code, meeting_code}
use Rattle.graphs.specs.Saved.{last_frame, frames, graph_text}
use Rattle.graphs.specs.Parsed.{Frame, opening, node, arc, meeting, last, wrong, dues, first_refusal}
use Rattle.graphs.specs.Parsed.{a_node, an_arc, a_meeting, the_last, taken, nothing, at_start}
use Rattle.graphs.specs.Parsed.{whole_at, behind_first, stage_behind, number_met, track_lines, parsed}
use Rattle.graphs.proofs.FrameBytes.{spelt, spelt_first, spelt_frame, Sized, sized_opening, sized_node}
use Rattle.graphs.proofs.FrameBytes.{sized_arc, sized_meeting, sized_last}
use Rattle.graphs.proofs.DueLines.{Fitting, node_fits, arc_fits, meeting_fits, last_fits, Fitted}
use Rattle.graphs.proofs.DueLines.{fitted_none, fitted_first, fitted_append, fitted_split}
use Rattle.graphs.proofs.DueLines.{fitted_frames, run_fits, run_of, Lines, line_heard, rest_told}
use Rattle.graphs.proofs.DueLines.{told_rest, unless_none}
pub use Rattle.graphs.proofs.DueLines.{Each, each_none, each_first, LabelFits, PairFits}

-- what a saved graph's numbers are within
pub record Fits (d : ℕ) (g : Graph) : Type 0 where
  pub definitions_fit : d ≤ 256
  pub labels_room : length g.labels ≤ node_room
  pub arcs_room : length g.arcs ≤ arc_room
  pub meetings_room : length g.meetings ≤ meeting_room
  pub labels_fit : Each (LabelFits d) g.labels
  pub arcs_fit : Each (PairFits (length g.labels)) g.arcs
  pub meetings_fit : Each (PairFits (length g.labels)) g.meetings

-- a label's frame
abbrev node_of : Label → Frame
node_of l = node l.reference l.place

-- line 1 of a graph's text, and the lines behind it
abbrev opening_of : Graph → Frame
opening_of g = opening 1 (length g.labels) (length g.arcs) (length g.meetings)

abbrev body : Graph → List Frame
body g = map node_of g.labels ++ map arc g.arcs ++ map meeting g.meetings ++ (last ∷ [])

-- are its frames
frames_spelt : (g : Graph) → map spelt (opening_of g ∷ body g) ≡ frames g
unfolding frames spelt opening_frame
frames_spelt g = simp (map-append, map-map)

-- what is said of one kind comes behind what was said of it
said_behind : {A : Type 0} (made : A → Frame) (put : List A → Graph)
    → ((ys : List A) (y : A) → taken (put ys) (made y) ≡ put (ys ++ (y ∷ []))) → (done ys : List A)
    → foldl taken (put done) (map made ys) ≡ put (done ++ ys)
said_behind made put one done [] = rw append-nil
said_behind made put one done (y ∷ ys) =
    ap (λ (g : Graph). foldl taken g (map made ys)) (one done y)
    ∙ said_behind made put one (done ++ (y ∷ [])) ys
    ∙ rw append_snoc

-- a graph by its lists
abbrev drawn : List Label → List Pair → List Pair → Graph
drawn ls as' ms = record { labels = ls; arcs = as'; meetings = ms }

-- a graph's frames say the graph
body_says : (g : Graph) → foldl taken nothing (body g) ≡ g
unfolding taken
body_says g =
    let a = said_behind node_of (λ ls. drawn ls [] []) (λ ls l. refl) [] g.labels in
    let b = said_behind arc (λ as'. drawn g.labels as' []) (λ as' x. refl) [] g.arcs in
    let c = said_behind meeting (drawn g.labels g.arcs) (λ ms m. refl) [] g.meetings in
    simp (foldl-append, a, b, c)

-- and are due by its counts
body_fitted : {d : ℕ} {g : Graph} → Fits d g
    → Fitted d (length g.labels) (dues (length g.labels) (length g.arcs) (length g.meetings))
    (body g)
unfolding dues
body_fitted {d} {g} h =
    let n = length g.labels in
    let nodes = run_fits d n a_node node_of (LabelFits d) (λ l. node_fits) h.labels_fit in
    let arcs = run_fits d n an_arc arc (PairFits n) (λ a. arc_fits) h.arcs_fit in
    let meetings = run_fits d n a_meeting meeting (PairFits n) (λ a. meeting_fits) h.meetings_fit in
    fitted_append d n (fitted_append d n (fitted_append d n nodes arcs) meetings)
    (fitted_first last_fits fitted_none)

-- the graph of frames that are due by its counts
record Body (d n a s : ℕ) (fs : List Frame) : Type 0 where
  graph : Graph
  follows : fs ≡ body graph
  counted : opening_of graph ≡ opening 1 n a s
  fits : Fits d graph

module _ (d n : ℕ) where
  -- what a frame that is due as each kind is made of
  node_made : (f : Frame) → Fitting d n a_node f → (l : Label) × (f ≡ node_of l) × LabelFits d l
  node_made f (node_fits {i = i} {w = w} h) = (record { reference = i; place = w }, refl, h)

  arc_made : (f : Frame) → Fitting d n an_arc f → (a : Pair) × (f ≡ arc a) × PairFits n a
  arc_made f (arc_fits {a = a} h) = (a, refl, h)

  meeting_made : (f : Frame) → Fitting d n a_meeting f → (a : Pair) × (f ≡ meeting a) × PairFits n a
  meeting_made f (meeting_fits {a = a} h) = (a, refl, h)

  last_made : {fs : List Frame} → Fitted d n (the_last ∷ []) fs → fs ≡ last ∷ []
  last_made (fitted_first last_fits fitted_none) = refl

  -- frames that are due by counts within the rooms are a graph's, which has these counts
  body_of : (a s : ℕ) → d ≤ 256 → n ≤ node_room → a ≤ arc_room → s ≤ meeting_room → (fs : List Frame)
      → Fitted d n (dues n a s) fs → Body d n a s fs
  unfolding dues
  body_of a s few i j k fs t =
      let xs = replicate n a_node in
      let ys = replicate a an_arc in
      let zs = replicate s a_meeting in
      let p = fitted_split d n (xs ++ ys ++ zs) (the_last ∷ []) fs t in
      let q = fitted_split d n (xs ++ ys) zs p.front p.front_fitted in
      let r = fitted_split d n xs ys q.front q.front_fitted in
      let nodes = run_of d n a_node node_of (LabelFits d) node_made n r.front r.front_fitted in
      let arcs = run_of d n an_arc arc (PairFits n) arc_made a r.back r.back_fitted in
      let meetings = run_of d n a_meeting meeting (PairFits n) meeting_made s q.back q.back_fitted in
      record {
        graph = drawn nodes.things arcs.things meetings.things;
        follows = cc (last_made p.back_fitted);
        counted = cc;
        fits = record {
          definitions_fit = few;
          labels_room = omega arith;
          arcs_room = omega arith;
          meetings_room = omega arith;
          labels_fit = nodes.each;
          arcs_fit = rw nodes.count arcs.each;
          meetings_fit = rw nodes.count meetings.each;
        };
      }

-- line 1 of edition 01, its counts within the rooms: such a frame, and of its width no other, meets no refusal
data Opens : Frame → Type 0 where
  opens : {e n a s : ℕ} → e ≡ 1 → n ≤ node_room → a ≤ arc_room → s ≤ meeting_room → Opens (opening e n a s)

opens_passes : {f : Frame} → Opens f → first_refusal f ≡ 0
unfolding first_refusal
opens_passes (opens {e = e} {n = n} {a = a} {s = s} h i j k) =
    rw (eq-eqb e 1 h, le-leb n node_room i, le-leb a arc_room j, le-leb s meeting_room k)

passes_opens : {f : Frame} → Sized f → first_refusal f ≡ 0 → Opens f
unfolding first_refusal
passes_opens (sized_opening {e = e} {n = n} {a = a} {s = s} h i j k) r =
    let p = both (eqb e 1) (leb n node_room && (leb a arc_room && leb s meeting_room)) (unless_none _ r) in
    let q = both (leb n node_room) (leb a arc_room && leb s meeting_room) p.1 in
    let t = both (leb a arc_room) (leb s meeting_room) q.1 in
    opens (eqb-true e 1 p.0) (leb-true n node_room q.0) (leb-true a arc_room t.0)
    (leb-true s meeting_room t.1)
passes_opens (sized_node h t) r = absurd (omega arith)
passes_opens (sized_arc h) r = absurd (omega arith)
passes_opens (sized_meeting h) r = absurd (omega arith)
passes_opens sized_last r = absurd (omega arith)

-- a wrong frame meets 2
first_wrong : first_refusal wrong ≡ 2
unfolding first_refusal
first_wrong = refl

-- line 1's numbers are of their width
opens_sized : {f : Frame} → Opens f → Sized f
opens_sized (opens {e = e} {n = n} {a = a} {s = s} h i j k) =
    sized_opening {e = e} {n = n} {a = a} {s = s} (omega arith) (omega arith) (omega arith) (omega arith)

-- lines are those of a graph, whose numbers are within what a saved graph's are
record Read (d : ℕ) (ls : List Raw) (g : Graph) : Type 0 where
  written : Lines ls (opening_of g ∷ body g)
  fits : Fits d g

-- a graph's own line 1 is such
graph_opens : {d : ℕ} {g : Graph} → Fits d g → Opens (opening_of g)
graph_opens h = opens refl h.labels_room h.arcs_room h.meetings_room

-- the lines of a graph's frames are read as the graph
first_says : {d : ℕ} {g : Graph} → Fits d g → (ls : List Raw) → Lines ls (opening_of g ∷ body g)
    → judged_from (track_lines d) at_start 1 ls ≡ accepted g
unfolding behind_first stage_behind number_met
first_says h [] e = let z : ◌≡◌ {A = ℕ} 0 1 = cc in absurd (omega arith)
first_says {d} {g} h (l ∷ ls) e =
    let n = length g.labels in
    let room : n ≤ 65536 = omega (arith, h.labels_room) in
    let written : frame l ≡ some (spelt (opening_of g)) = cc in
    let is = spelt_frame (opens_sized (graph_opens h)) in
    line_taken (track_lines d) at_start 1 l ls written (rw is (opens_passes (graph_opens h)))
    ∙ ap (λ (f : Frame). judged_from (track_lines d) (behind_first f) 2 ls) is
    ∙ told_rest d n h.definitions_fit room (body_fitted h) nothing 2 ls (cc)
    ∙ ap accepted (body_says g)

-- a graph's text is read as the graph
pub text_says : {d : ℕ} {g : Graph} → Fits d g → parsed d (graph_text g) ≡ accepted g
text_says {d} {g} h =
    let n = length g.labels in
    let room : n ≤ 65536 = omega (arith, h.labels_room) in
    let others = fitted_frames d n h.definitions_fit room (body_fitted h) in
    let all = spelt_first (opens_sized (graph_opens h)) others in
    rw (← (frames_spelt g)) (first_says h _ (frames_back (map spelt (opening_of g ∷ body g)) all))

-- one graph for one text
pub text_one : {d : ℕ} {g h : Graph} → Fits d g → Fits d h → graph_text g ≡ graph_text h → g ≡ h
text_one {d} p q e = let r = text_says p in let s = text_says q in cc (ap (parsed d) e)

module _ (d : ℕ) (few : d ≤ 256) where
  -- lines that are read, line 1 within its rooms, are those of the graph that is read
  behind_read : {f : Frame} → Opens f → (l : Raw) → frame l ≡ some (spelt f) → (ls : List Raw) (g : Graph)
      → judged_from (track_lines d) (behind_first f) 2 ls ≡ accepted g → Read d (l ∷ ls) g
  unfolding behind_first
  behind_read (opens {n = n} {a = a} {s = s} h i j k) l w ls g e =
      let r = rest_told d n (dues n a s) nothing g 2 ls e in
      let b = body_of d n a s few i j k r.told r.fitted in
      let same : g ≡ b.graph = r.graph ∙ ap (foldl taken nothing) b.follows ∙ body_says b.graph in
      rw same (record { written = cc r.written; fits = b.fits })

  first_read : (ls : List Raw) (g : Graph) → judged_from (track_lines d) at_start 1 ls ≡ accepted g → Read d ls g
  unfolding whole_at stage_behind number_met
  first_read [] g e =
      let early : none ≡ some g = accepted_whole (track_lines d) at_start 1 e in
      let z : ◌≡◌ {A = ℕ} 0 1 = cc in absurd (omega arith)
  first_read (l ∷ ls) g e =
      let t = accepted_line (track_lines d) at_start 1 l ls e in
      let o = line_heard l t.framed first_refusal first_wrong t.none_met in
      behind_read (passes_opens o.sized t.none_met) l o.written ls g t.then

  module _ (t : List ℕ) {g : Graph} (e : parsed d t ≡ accepted g) where
    -- the lines of a text that is read are the frames of the graph that it says
    pub says_lines : map frame (lines t) ≡ map some (frames g)
    says_lines = (first_read (lines t) g e).written ∙ ap (map some) (frames_spelt g)

    -- and the text is that graph's, whose numbers are within what a saved graph's are
    pub says_text : (t ≡ graph_text g) × Fits d g
    says_text = (text_back (frames g) t says_lines, (first_read (lines t) g e).fits)

-- a frame's first byte
abbrev pub Begins : ℕ → List ℕ → Type 0
Begins b bs = take 1 bs ≡ b ∷ []

-- the counts in frame 30 are the lines that follow
pub record Counted (g : Graph) : Type 0 where
  pub nodes : List (List ℕ)
  pub arcs : List (List ℕ)
  pub meetings : List (List ℕ)
  pub follow : frames g ≡ opening_frame g ∷ nodes ++ arcs ++ meetings ++ (last_frame ∷ [])
  pub counts : opening_frame g ≡ 0x30 ∷ 1 ∷ two (length nodes) ++ two (length arcs) ++ two (length meetings)
  pub nodes_begin : Each (Begins 0x31) nodes
  pub arcs_begin : Each (Begins arc_code) arcs
  pub meetings_begin : Each (Begins meeting_code) meetings
  pub node_count : length nodes ≡ length g.labels
  pub arc_count : length arcs ≡ length g.arcs
  pub meeting_count : length meetings ≡ length g.meetings

-- a kind's frames begin alike
each_mapped : {A : Type 0} (f : A → List ℕ) (b : ℕ) → ((x : A) → Begins b (f x)) → (xs : List A)
    → Each (Begins b) (map f xs)
each_mapped f b h [] = each_none
each_mapped f b h (x ∷ xs) = each_first (h x) (each_mapped f b h xs)

-- behind frame 30 stand as many frames of each kind as it counts, and the last
pub counts_follow : (g : Graph) → Counted g
unfolding frames opening_frame node_frame pair_frame
counts_follow g =
    let n = length-map g.labels node_frame in
    let a = length-map g.arcs (pair_frame arc_code) in
    let m = length-map g.meetings (pair_frame meeting_code) in
    record {
      nodes = map node_frame g.labels;
      arcs = map (pair_frame arc_code) g.arcs;
      meetings = map (pair_frame meeting_code) g.meetings;
      follow = refl;
      counts = rw (n, a, m);
      nodes_begin = each_mapped node_frame 0x31 (λ l. refl) g.labels;
      arcs_begin = each_mapped (pair_frame arc_code) arc_code (λ x. refl) g.arcs;
      meetings_begin = each_mapped (pair_frame meeting_code) meeting_code (λ x. refl) g.meetings;
      node_count = n;
      arc_count = a;
      meeting_count = m;
    }

-- the characters of node lines
unfoldable pub node_lengths : List Label → ℕ
node_lengths [] = 0
node_lengths (l ∷ ls) = (11 + 2 * length l.place.path) + node_lengths ls

-- a byte is two characters
pub hex_length : (bs : List ℕ) → length (hex bs) ≡ 2 * length bs
unfolding hex
hex_length [] = refl
hex_length (b ∷ bs) = omega (arith, hex_length bs)

-- a line is its bytes' characters and LF
pub line_length : (bs : List ℕ) (fs : List (List ℕ))
    → length (text (bs ∷ fs)) ≡ 2 * length bs + 1 + length (text fs)
unfolding text
line_length bs fs = omega (arith, length-append (hex bs) (LF ∷ text fs), hex_length bs)

-- lines in two parts, the node lines, and the lines of arcs or meetings
lines_length : (fs hs : List (List ℕ)) → length (text (fs ++ hs)) ≡ length (text fs) + length (text hs)
unfolding text
lines_length [] hs = omega arith
lines_length (bs ∷ fs) hs = omega (arith, line_length bs (fs ++ hs), line_length bs fs, lines_length fs hs)

pub nodes_length : (ls : List Label) → length (text (map node_frame ls)) ≡ node_lengths ls
unfolding text node_frame two node_lengths
nodes_length [] = refl
nodes_length (l ∷ ls) = omega (arith, line_length (node_frame l) (map node_frame ls), nodes_length ls)

pub pairs_length : (k : ℕ) (as' : List Pair) → length (text (map (pair_frame k) as')) ≡ 11 * length as'
unfolding text pair_frame two
pairs_length k [] = refl
pairs_length k (a ∷ as') =
    omega (arith, line_length (pair_frame k a) (map (pair_frame k) as'), pairs_length k as')

-- how long a graph's text is
pub text_length : (g : Graph)
    → length (graph_text g) ≡ 20 + node_lengths g.labels + 11 * length g.arcs + 11 * length g.meetings
unfolding frames opening_frame text two
text_length g =
    let nodes = map node_frame g.labels in
    let arcs = map (pair_frame arc_code) g.arcs in
    let meetings = map (pair_frame meeting_code) g.meetings in
    let body_length = lines_length (nodes ++ arcs ++ meetings) (last_frame ∷ []) in
    let pair_lengths = lines_length (nodes ++ arcs) meetings in
    omega (
      arith,
      line_length (opening_frame g) (nodes ++ arcs ++ meetings ++ (last_frame ∷ [])),
      line_length last_frame [],
      lines_length nodes arcs,
      nodes_length g.labels,
      pairs_length arc_code g.arcs,
      pairs_length meeting_code g.meetings,
    )
