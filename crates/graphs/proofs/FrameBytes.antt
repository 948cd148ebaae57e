-- A frame of a saved track and its bytes determine each other. Where a frame's numbers are of their width its
-- bytes are read as that frame; and bytes that are not wrong are those of the frame that is read from them,
-- since they are cut into its numbers from the first byte to the last. Assumes nothing.
use Rattle.std.proofs.Common.{ℕ, zero, suc, ◌+◌, ◌*◌, ◌/◌, ◌%◌, ◌≤◌, ◌<◌, ◌≡◌, refl, ap, Bool, true, false}
use Rattle.std.proofs.Common.{List, [], ◌∷◌, ◌++◌, arith, length, get_or, drop, length-drop}
use Rattle.std.proofs.Common.{drop_of_length-le, drop-cons, eqb, eqb-true, eq-eqb}
use Rattle.lines.specs.Line.{choose, number, number_from, two, Bytes, no_bytes, byte_first, Frames}
use Rattle.lines.specs.Line.{frame_first, number_at}
use Rattle.lines.proofs.Digits.{both}
use Rattle.places.specs.Place.{Place}
use Rattle.rules.specs.Track.{Pair}
use Rattle.graphs.specs.Saved.{node_frame, pair_frame, arc_code, meeting_code, last_frame}
use Rattle.graphs.specs.Parsed.{Frame, opening, node, arc, meeting, last, wrong, pair_at, place_at}
use Rattle.graphs.specs.Parsed.{formed, frame_of}

-- a number below 65536 comes back from its two bytes
number_two : (n : ℕ) → n < 65536 → number (two n) ≡ n
unfolding two number_from
number_two n h = omega arith

-- each byte
byte_at : (k : ℕ) {bs : List ℕ} → Bytes bs → get_or bs k 0 < 256
byte_at k no_bytes = omega arith
byte_at zero (byte_first h t) = h
byte_at (suc k) (byte_first h t) = byte_at k t

-- what stands behind some bytes
bytes_drop : (k : ℕ) {bs : List ℕ} → Bytes bs → Bytes (drop k bs)
bytes_drop zero h = h
bytes_drop (suc k) no_bytes = no_bytes
bytes_drop (suc k) (byte_first h t) = bytes_drop k t

-- the number of two bytes is below 65536
number_below : (k : ℕ) {bs : List ℕ} → Bytes bs → number_at k bs < 65536
unfolding number_from
number_below k h = omega (arith, byte_at k h, byte_at (k + 1) h)

-- and they are its two bytes
two_at : (k : ℕ) {bs : List ℕ} → Bytes bs → k + 2 ≤ length bs
    → drop k bs ≡ two (number_at k bs) ++ drop (k + 2) bs
unfolding two number_from
two_at k {bs} h l =
    let b = get_or bs k 0 in
    let c = get_or bs (k + 1) 0 in
    let n : k + 1 ≡ suc k = omega arith in
    let m : k + 2 ≡ suc (suc k) = omega arith in
    let x = drop-cons bs k 0 (omega arith) in
    let y = drop-cons bs (suc k) 0 (omega arith) in
    let u : ((0 * 256 + b) * 256 + c) / 256 % 256 ≡ b = omega (arith, byte_at k h, byte_at (k + 1) h) in
    let v : ((0 * 256 + b) * 256 + c) % 256 ≡ c = omega (arith, byte_at (k + 1) h) in
    rw (u, v, m, n, x, y)

-- a number's two bytes are bytes
two_bytes : (n : ℕ) {bs : List ℕ} → Bytes bs → Bytes (two n ++ bs)
unfolding two
two_bytes n t = byte_first {b = n / 256 % 256} (omega arith) (byte_first {b = n % 256} (omega arith) t)

-- a frame's bytes
unfoldable pub spelt : Frame → List ℕ
spelt (opening e n a s) = 0x30 ∷ e ∷ two n ++ two a ++ two s
spelt (node i w) = node_frame (record { reference = i; place = w })
spelt (arc a) = pair_frame arc_code a
spelt (meeting a) = pair_frame meeting_code a
spelt last = last_frame
spelt wrong = []

-- both ends are of two bytes
pub record Short (a : Pair) : Type 0 where
  pub from_short : a.from < 65536
  pub to_short : a.to < 65536

-- a frame's numbers are of their width
pub data Sized : Frame → Type 0 where
  sized_opening : {e n a s : ℕ} → e < 256 → n < 65536 → a < 65536 → s < 65536 → Sized (opening e n a s)
  sized_node : {i : ℕ} {w : Place} → i < 65536 → Bytes (w.definition ∷ length w.path ∷ w.path)
      → Sized (node i w)
  sized_arc : {a : Pair} → Short a → Sized (arc a)
  sized_meeting : {a : Pair} → Short a → Sized (meeting a)
  sized_last : Sized last

-- the bytes of a frame are bytes, at least one
pair_bytes : (k : ℕ) → k < 256 → (a : Pair) → Bytes (pair_frame k a)
unfolding pair_frame two
pair_bytes k h a = byte_first h (two_bytes a.from (two_bytes a.to no_bytes))

pub spelt_first : {f : Frame} → Sized f → {fs : List (List ℕ)} → Frames fs → Frames (spelt f ∷ fs)
unfolding spelt node_frame pair_frame two
spelt_first (sized_opening {n = n} {a = a} {s = s} h i j k) =
    frame_first (byte_first {b = 0x30} (omega arith)
    (byte_first h (two_bytes n (two_bytes a (two_bytes s no_bytes)))))
spelt_first (sized_node {i = i} h t) = frame_first (byte_first {b = 0x31} (omega arith) (two_bytes i t))
spelt_first (sized_arc {a = a} h) = frame_first (pair_bytes arc_code (omega arith) a)
spelt_first (sized_meeting {a = a} h) = frame_first (pair_bytes meeting_code (omega arith) a)
spelt_first sized_last = frame_first (byte_first {b = 0x3f} (omega arith) no_bytes)

-- and are read as the frame
pair_back : (k : ℕ) {a : Pair} → Short a → pair_at (pair_frame k a) ≡ a
unfolding pair_frame two number_from
pair_back k {a} h = rw (number_two a.from h.from_short, number_two a.to h.to_short)

pub spelt_frame : {f : Frame} → Sized f → frame_of (spelt f) ≡ f
unfolding frame_of spelt node_frame pair_frame two number_from
spelt_frame (sized_opening {n = n} {a = a} {s = s} h i j k) =
    cc (number_two n i, number_two a j, number_two s k)
spelt_frame (sized_node {i = i} {w = w} h t) =
    let size = eq-eqb (length (spelt (node i w))) (5 + length w.path) (omega arith) in
    rw size (cc (number_two i h))
spelt_frame (sized_arc h) = ap arc (pair_back arc_code h)
spelt_frame (sized_meeting h) = ap meeting (pair_back meeting_code h)
spelt_frame sized_last = refl

-- bytes are exactly a frame's
pub record Exact (bs : List ℕ) (f : Frame) : Type 0 where
  pub sized : Sized f
  pub same : bs ≡ spelt f

-- or the frame is wrong; one test of `frame_of` settles it or leaves it to the next
abbrev Settled : List ℕ → Frame → Type 0
Settled bs f = (f ≡ wrong → ⊥) → Exact bs f

settled_by : {bs : List ℕ} {f g : Frame} (t : Bool) → (t ≡ true → Exact bs f) → Settled bs g
    → Settled bs (choose t f g)
settled_by true h k w = h refl
settled_by false h k w = k w

-- what `formed` tests
pub formed_parts : (b n : ℕ) (bs : List ℕ) → formed b n bs ≡ true → (get_or bs 0 0 ≡ b) × (length bs ≡ n)
formed_parts b n bs e =
    let i = both (eqb (get_or bs 0 0) b) (eqb (length bs) n) e in
    (eqb-true (get_or bs 0 0) b i.0, eqb-true (length bs) n i.1)

-- bytes of each form, cut into their numbers
pair_spelt : (c : ℕ) {bs : List ℕ} → Bytes bs → formed c 5 bs ≡ true → bs ≡ pair_frame c (pair_at bs)
unfolding pair_frame two
pair_spelt c {bs} h e =
    let i = formed_parts c 5 bs e in
    let x = drop-cons bs 0 0 (omega arith) in
    let y = two_at 1 h (omega arith) in
    let z = two_at 3 h (omega arith) in
    let none_left = drop_of_length-le bs {i = 5} (omega arith) in
    cc

pair_short : {bs : List ℕ} → Bytes bs → Short (pair_at bs)
pair_short h = record { from_short = number_below 1 h; to_short = number_below 3 h }

module _ {bs : List ℕ} (h : Bytes bs) where
  node_exact : formed 0x31 (5 + get_or bs 4 0) bs ≡ true → Exact bs (node (number_at 1 bs) (place_at bs))
  unfolding spelt node_frame two
  node_exact e =
      let i = formed_parts 0x31 (5 + get_or bs 4 0) bs e in
      let path_size : length (drop 5 bs) ≡ get_or bs 4 0 = rw length-drop (omega arith) in
      let x = drop-cons bs 0 0 (omega arith) in
      let y = two_at 1 h (omega arith) in
      let z = drop-cons bs 3 0 (omega arith) in
      let l = drop-cons bs 4 0 (omega arith) in
      record {
        sized = sized_node {w = place_at bs} (number_below 1 h)
            (rw path_size (rw (z, l) at (bytes_drop 3 h)));
        same = cc;
      }

  opening_exact : formed 0x30 8 bs ≡ true
      → Exact bs (opening (get_or bs 1 0) (number_at 2 bs) (number_at 4 bs) (number_at 6 bs))
  unfolding spelt two
  opening_exact e =
      let i = formed_parts 0x30 8 bs e in
      let x = drop-cons bs 0 0 (omega arith) in
      let y = drop-cons bs 1 0 (omega arith) in
      let n = two_at 2 h (omega arith) in
      let a = two_at 4 h (omega arith) in
      let s = two_at 6 h (omega arith) in
      let none_left = drop_of_length-le bs {i = 8} (omega arith) in
      record {
        sized = sized_opening (byte_at 1 h) (number_below 2 h) (number_below 4 h)
            (number_below 6 h);
        same = cc;
      }

  last_exact : formed 0x3f 1 bs ≡ true → Exact bs last
  unfolding spelt
  last_exact e =
      let i = formed_parts 0x3f 1 bs e in
      let x = drop-cons bs 0 0 (omega arith) in
      let none_left = drop_of_length-le bs {i = 1} (omega arith) in
      record { sized = sized_last; same = cc }

  arc_exact : formed arc_code 5 bs ≡ true → Exact bs (arc (pair_at bs))
  unfolding spelt
  arc_exact e = record { sized = sized_arc (pair_short h); same = pair_spelt arc_code h e }

  meeting_exact : formed meeting_code 5 bs ≡ true → Exact bs (meeting (pair_at bs))
  unfolding spelt
  meeting_exact e = record { sized = sized_meeting (pair_short h); same = pair_spelt meeting_code h e }

  -- any bytes but wrong ones are those of the frame that is read from them
  pub frame_spelt : (frame_of bs ≡ wrong → ⊥) → Exact bs (frame_of bs)
  unfolding frame_of
  frame_spelt =
      settled_by (formed 0x31 (5 + get_or bs 4 0) bs) node_exact
      (settled_by (formed arc_code 5 bs) arc_exact
      (settled_by (formed meeting_code 5 bs) meeting_exact
      (settled_by (formed 0x3f 1 bs) last_exact
      (settled_by (formed 0x30 8 bs) opening_exact (λ w. absurd (w refl))))))
