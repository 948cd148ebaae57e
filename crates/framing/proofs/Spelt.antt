-- The lines that are put, frame by frame: what a frame is made of, put one behind another, is its line. The place
-- that a mark tells is what `places::place` answered with what it left in front of the lent path, so a node's line
-- is its frame's. A cursor goes as far as the lines in front of it are long. Assumes nothing.
use Rattle.std.proofs.Common.{◌≡◌, ℕ, zero, suc, ◌+◌, ◌-◌, ◌*◌, ◌<◌, ◌≤◌, List, [], ◌∷◌, ◌++◌, map, length}
use Rattle.std.proofs.Common.{get_or, take, drop, refl, ap, ◌∙◌, add-one, arith, drop_of_length-le}
use Rattle.std.proofs.Common.{length-take, drop-cons, take_at}
use Rattle.std.proofs.Math.Option.{Option, none, some}
use Rattle.std.proofs.Math.Seq.{length-sets}
use Rattle.std.proofs.lemmas.List.Edits.{sets, sets-eq}
use Rattle.std.specs.Prelude as std
use Rattle.lines.specs.Line.{two, hex, text, LF}
use Rattle.spelling.specs.words.Puts.{Puts}
use Rattle.spelling.proofs.Putting.{puts_then, Owed, owed_all, owed_less, owed_none}
use Rattle.spelling.proofs.Spelt.{owed_line}
use Rattle.rules.specs.Track.{Label, pair}
use Rattle.columns.specs.words.Columns.{Columns}
use Rattle.places.specs.code.Descent.{digits, told, answer, literal_path, literal_definition}
use Rattle.places.specs.declared.Literal.{Literal}
use Rattle.places.specs.declared.Placed.{Placed}
use Rattle.plans.specs.words.Layout.{found, place_of}
use Rattle.plans.proofs.LaidRooms.{place_short}
use Rattle.control.specs.words.Words.{track_word}
use Rattle.control.specs.words.Views.{pairs}
use Rattle.graphs.specs.Saved.{node_frame, pair_frame}
use Rattle.graphs.proofs.Spelled.{hex_length, line_length, pairs_length}
use Rattle.links.specs.words.Columns.{at}
use Rattle.marks.specs.words.Mark.{literal}
use Rattle.framing.specs.words.Told.{labels_told}
use Rattle.framing.specs.code.Placed.{told_length, told_definition}

-- a line of a pair
pub pair_spelt : {a b c d e : ℕ} {s t u v w : List ℕ} (x m n : ℕ) → Puts a (hex (x ∷ [])) s t b
    → Puts b (hex (two m)) t u c
    → Puts c (hex (two n)) u v d
    → Puts d (LF ∷ []) v w e
    → Puts a (text (pair_frame x (pair m n) ∷ [])) s w e
unfolding hex text two pair_frame
pair_spelt x m n p q r z = puts_then (puts_then (puts_then p q) r) z

-- the first line
pub opening_spelt : {a b c d e f g : ℕ} {s t u v w x y : List ℕ} (i j k m n : ℕ) → Puts a (hex (i ∷ [])) s t b
    → Puts b (hex (j ∷ [])) t u c
    → Puts c (hex (two k)) u v d
    → Puts d (hex (two m)) v w e
    → Puts e (hex (two n)) w x f
    → Puts f (LF ∷ []) x y g
    → Puts a (text ((i ∷ j ∷ two k ++ two m ++ two n) ∷ [])) s y g
unfolding hex text two
opening_spelt i j k m n p q r p' q' z =
    puts_then (puts_then (puts_then (puts_then (puts_then p q) r) p') q') z

-- the first line is 17 characters
pub opening_long : (n a m : ℕ) → length (text ((0x30 ∷ 1 ∷ two n ++ two a ++ two m) ∷ [])) ≡ 17
unfolding two text
opening_long n a m = omega (arith, line_length (0x30 ∷ 1 ∷ two n ++ two a ++ two m) [])

-- a node's line
pub node_spelt : {a b c d e f g : ℕ} {s t u v w x y : List ℕ} (i k m n : ℕ) (ps : List ℕ)
    → Puts a (hex (i ∷ [])) s t b
    → Puts b (hex (two k)) t u c
    → Puts c (hex (m ∷ [])) u v d
    → Puts d (hex (n ∷ [])) v w e
    → Puts e (hex ps) w x f
    → Puts f (LF ∷ []) x y g
    → Puts a (text ((i ∷ two k ++ (m ∷ n ∷ ps)) ∷ [])) s y g
unfolding hex text two
node_spelt i k m n ps p q r p' q' z =
    puts_then (puts_then (puts_then (puts_then (puts_then p q) r) p') q') z

-- a path of n digits is at most 2 n characters
pub digits_short : (n : ℕ) (ps : List ℕ) → length (hex (take n ps)) ≤ 2 * n
digits_short n ps = omega (arith, hex_length (take n ps), length-take n ps)

-- before the first of n pairs all are owed
pub pairs_owed : {s : List ℕ} {a : ℕ} (k base : ℕ) (g : List ℕ) (n : ℕ)
    → Owed (text (map (pair_frame k) (pairs base g 0 n))) a s (text (map (pair_frame k) (pairs base g 0 (n - 0)))) a s
pairs_owed k base g n = let z : n - 0 ≡ n = omega arith in rw z owed_all

module _ {xs s t : List ℕ} {a b : ℕ} where
  -- behind the last digit, or the last of n pairs, all is put
  pub digits_put : (ds : List ℕ) (i : ℕ) → length ds ≤ i → Owed xs a s (hex (drop i ds)) b t → Puts a xs s t b
  unfolding hex
  digits_put ds i h o = owed_none (rw (drop_of_length-le ds {i = i} h) at o)

  pub pairs_put : (k base : ℕ) (g : List ℕ) (i n : ℕ) → n ≤ i
      → Owed xs a s (text (map (pair_frame k) (pairs base g i (n - i)))) b t
      → Puts a xs s t b
  unfolding pairs text
  pairs_put k base g i n h o = let z : n - i ≡ 0 = omega arith in owed_none (rw z at o)

module _ {xs s t u : List ℕ} {a b e : ℕ} where
  -- a digit of a path less is owed
  pub digit_less : (ds : List ℕ) (i : ℕ) → i < length ds → Owed xs a s (hex (drop i ds)) b t
      → Puts b (hex (get_or ds i 0 ∷ [])) t u e
      → Owed xs a s (hex (drop (i + 1) ds)) e u
  unfolding hex
  digit_less ds i h o p = rw add-one (owed_less (rw (drop-cons ds i 0 h) at o) p)

  -- a pair less of n
  pub pair_less : (k base : ℕ) (g : List ℕ) (i n x y : ℕ) → i < n → x ≡ track_word g (base + 2 * i)
      → y ≡ track_word g (base + 2 * i + 1)
      → Owed xs a s (text (map (pair_frame k) (pairs base g i (n - i)))) b t
      → Puts b (text (pair_frame k (pair x y) ∷ [])) t u e
      → Owed xs a s (text (map (pair_frame k) (pairs base g (i + 1) (n - (i + 1))))) e u
  unfolding pairs
  pair_less k base g i n x y h p q o r =
      let m : n - i ≡ suc (n - suc i) = omega arith in
      rw add-one (owed_line _ _ (rw m at o) (rw (p, q) at r))

-- there are as many pairs as are told, and their lines are 11 characters each
pub pairs_count : (base : ℕ) (g : List ℕ) (i n : ℕ) → length (pairs base g i n) ≡ n
unfolding pairs
pairs_count base g i zero = refl
pairs_count base g i (suc n) = ap suc (pairs_count base g (suc i) n)

pub pairs_long : (k base : ℕ) (g : List ℕ) (i n : ℕ)
    → length (text (map (pair_frame k) (pairs base g i n))) ≡ 11 * n
pairs_long k base g i n = pairs_length k (pairs base g i n) ∙ ap (λ (m : ℕ). 11 * m) (pairs_count base g i n)

-- what is told of a place is what was answered
told_found : (d : ℕ) (o : Option (List ℕ))
    → (told_length (told d o) ≡ length (found d o).path) × (told_definition (told d o) ≡ (found d o).definition)
    × (digits o ≡ (found d o).path)
unfolding told found digits
told_found d none = (refl, refl, refl)
told_found d (some w) = (refl, refl, refl)

-- a path in front of the lent array is its first digits
path_in_front : (ps ws : List ℕ) → length ps ≡ 64 → length ws ≤ 64 → take (length ws) (sets ps 0 ws) ≡ ws
path_in_front ps ws e h = rw (sets-eq ws ps 0 (omega arith)) (take_at ws _ (length ws) refl)

module _ (c : Columns) where
  -- an answer's path has at most 64 digits
  pub answer_short : (a : Literal) (r : std.Option Placed) → r ≡ answer c a → told_length r ≤ 64
  unfolding answer place_of
  answer_short a r e =
      rw (e, (told_found (literal_definition c a) (literal_path c a)).0) (place_short c a)

  -- the lent array keeps its length
  pub path_kept : (a : Literal) (ps qs : List ℕ) → length ps ≡ 64 → qs ≡ sets ps 0 (digits (literal_path c a))
      → length qs ≡ 64
  path_kept a ps qs e q = ap length q ∙ length-sets ps 0 (digits (literal_path c a)) ∙ e

  -- an answer with the path in front tells the frame of the place
  node_told : (k : ℕ) (a : Literal) (r : std.Option Placed) (ps qs : List ℕ) → length ps ≡ 64 → r ≡ answer c a
      → qs ≡ sets ps 0 (digits (literal_path c a))
      → 0x31 ∷ two k ++ (told_definition r ∷ told_length r ∷ take (told_length r) qs)
      ≡ node_frame (record { reference = k; place = place_of c a })
  unfolding answer place_of node_frame
  node_told k a r ps qs e p q =
      let is = told_found (literal_definition c a) (literal_path c a) in
      rw (p, q, is.0, is.1, is.2, path_in_front ps _ e (place_short c a))

  module _ (ms : List ℕ) where
    -- before the first of n nodes all are owed, and behind the last all is put
    pub nodes_owed : {s : List ℕ} {a : ℕ} (n : ℕ)
        → Owed (text (map node_frame (labels_told c ms 0 n))) a s (text (map node_frame (labels_told c ms 0 (n - 0)))) a s
    nodes_owed n = let z : n - 0 ≡ n = omega arith in rw z owed_all

    pub nodes_put : {xs s t : List ℕ} {a b : ℕ} (k n : ℕ) → n ≤ k
        → Owed xs a s (text (map node_frame (labels_told c ms k (n - k)))) b t
        → Puts a xs s t b
    unfolding labels_told text
    nodes_put k n h o = let z : n - k ≡ 0 = omega arith in owed_none (rw z at o)

    -- a node less of n
    pub node_less : {xs s t u : List ℕ} {a b e : ℕ} (k n : ℕ) (l : Literal) (r : std.Option Placed) (ps qs : List ℕ) → k < n
        → l ≡ literal (at ms k)
        → length ps ≡ 64
        → r ≡ answer c l
        → qs ≡ sets ps 0 (digits (literal_path c l))
        → Owed xs a s (text (map node_frame (labels_told c ms k (n - k)))) b t
        → Puts b (text ((0x31 ∷ two k ++ (told_definition r ∷ told_length r ∷ take (told_length r) qs)) ∷ [])) t u e
        → Owed xs a s (text (map node_frame (labels_told c ms (k + 1) (n - (k + 1))))) e u
    unfolding labels_told
    node_less k n l r ps qs h i w p q o z =
        let m : n - k ≡ suc (n - suc k) = omega arith in
        rw add-one (owed_line _ _ (rw m at o) (rw (← i, ← node_told k l r ps qs w p q) z))

    -- a node's line is 11 characters and its path's
    node_long : (k n : ℕ)
        → length (text (map node_frame (labels_told c ms k (suc n))))
        ≡ 11 + 2 * length (place_of c (literal (at ms k))).path
        + length (text (map node_frame (labels_told c ms (suc k) n)))
    unfolding labels_told node_frame two
    node_long k n =
        let l : Label = record { reference = k; place = place_of c (literal (at ms k)) } in
        omega (arith, line_length (node_frame l) (map node_frame (labels_told c ms (suc k) n)))

    -- so lines of nodes are at most 139 characters each
    pub nodes_short : (k n : ℕ) → length (text (map node_frame (labels_told c ms k n))) ≤ 139 * n
    unfolding labels_told text
    nodes_short k zero = omega arith
    nodes_short k (suc n) =
        omega (arith, node_long k n, place_short c (literal (at ms k)), nodes_short (suc k) n)

    -- the length of the lines from node k on is that of its line and of those behind it
    pub node_longer : (k n : ℕ) (l : Literal) (r : std.Option Placed) → k < n → l ≡ literal (at ms k) → r ≡ answer c l
        → length (text (map node_frame (labels_told c ms k (n - k))))
        ≡ 11 + 2 * told_length r + length (text (map node_frame (labels_told c ms (k + 1) (n - (k + 1)))))
    unfolding answer place_of
    node_longer k n l r h i p =
        let m : n - k ≡ suc (n - suc k) = omega arith in
        rw (add-one, m, p, (told_found (literal_definition c l) (literal_path c l)).0, i) (node_long k (n - suc k))

    -- before the first node that is the length of all lines, and behind the last none is left
    pub nodes_long_all : (n : ℕ)
        → length (text (map node_frame (labels_told c ms 0 (n - 0))))
        ≡ length (text (map node_frame (labels_told c ms 0 n)))
    nodes_long_all n = let z : n - 0 ≡ n = omega arith in rw z

    pub nodes_long_none : (k n : ℕ) → n ≤ k → length (text (map node_frame (labels_told c ms k (n - k)))) ≡ 0
    unfolding labels_told text
    nodes_long_none k n h = let z : n - k ≡ 0 = omega arith in rw z

    -- there are as many nodes as are told
    pub nodes_count : (k n : ℕ) → length (labels_told c ms k n) ≡ n
    unfolding labels_told
    nodes_count k zero = refl
    nodes_count k (suc n) = ap suc (nodes_count (suc k) n)
