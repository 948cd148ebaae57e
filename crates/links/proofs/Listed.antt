-- Pairs as a track's words list them. A list of pairs is cut where its numbers are, and the words of pairs
-- that are put are read back. Assumes nothing.
use Rattle.std.proofs.Common.{ℕ, zero, suc, ◌+◌, ◌*◌, ◌-◌, ◌≤◌, ◌<◌, ◌≡◌, refl, ap, ◌∙◌, List, [], ◌∷◌, ◌++◌, append_assoc}
use Rattle.std.proofs.Common.{arith, add-zero, zero-add, length, get_or, set, take, drop, length-take-le, get_or-append-add}
use Rattle.std.proofs.Common.{get_or-set_other, lt-ltb}
use Rattle.std.proofs.lemmas.List.Edits.{sets, sets-eq}
use Rattle.std.proofs.Math.ListN.{get_or-append}
use Rattle.std.proofs.Math.Seq.{length-sets}
use Rattle.rules.specs.Track.{Pair, pair}
use Rattle.rules.specs.Run.{arc_room, meeting_room}
use Rattle.control.specs.words.Words.{track_words, track_word, meetings_from}
use Rattle.control.specs.words.Views.{pairs}
use Rattle.links.specs.words.Columns.{flat}

-- pair i of those that stand from a word on
abbrev pub pair_at : ℕ → List ℕ → ℕ → Pair
pair_at base g i = pair (track_word g (base + 2 * i)) (track_word g (base + 2 * i + 1))

module _ (base : ℕ) (g : List ℕ) where
  pub pairs_length : (i c : ℕ) → length (pairs base g i c) ≡ c
  unfolding pairs
  pairs_length i zero = refl
  pairs_length i (suc c) = ap suc (pairs_length (suc i) c)

  -- some pairs and those behind them
  pairs_parts : (i c d : ℕ) → pairs base g i (c + d) ≡ pairs base g i c ++ pairs base g (i + c) d
  unfolding pairs
  pairs_parts i zero d = rw (zero-add d, add-zero i)
  pairs_parts i (suc c) d =
      let one : suc c + d ≡ suc (c + d) = omega arith in
      let two : suc i + c ≡ i + suc c = omega arith in
      rw (one, pairs_parts (suc i) c d, two)

  -- the pairs around pair i
  pub pairs_around : (i c : ℕ) → i < c
      → pairs base g 0 c ≡ pairs base g 0 i ++ (pair_at base g i ∷ pairs base g (suc i) (c - suc i))
  unfolding pairs
  pairs_around i c h =
      let one : c ≡ i + suc (c - suc i) = omega arith in
      ap (pairs base g 0) one ∙ pairs_parts 0 i (suc (c - suc i)) ∙ rw (zero-add i)

  -- and with it those in front
  pub pairs_more : (i : ℕ) → pairs base g 0 (i + 1) ≡ pairs base g 0 i ++ (pair_at base g i ∷ [])
  unfolding pairs
  pairs_more i = pairs_parts 0 i 1 ∙ rw (zero-add i)

-- the words of pairs, one behind the other
pub flat_append : (as' bs : List Pair) → flat (as' ++ bs) ≡ flat as' ++ flat bs
unfolding flat
flat_append [] bs = refl
flat_append (a ∷ as') bs = rw (flat_append as' bs)

pub flat_length : (as' : List Pair) → length (flat as') ≡ 2 * length as'
unfolding flat
flat_length [] = refl
flat_length (a ∷ as') = rw (flat_length as') (omega arith)

-- pairs that are put leave a track as long as it was
pub put_long : (base : ℕ) (w w' : List ℕ) (ps : List Pair) → length w ≡ track_words → w' ≡ sets w base (flat ps)
    → length w' ≡ track_words
put_long base w w' ps long put = rw (put, length-sets w base (flat ps)) long

-- a word that is put is read back
put_back : (w : List ℕ) (b : ℕ) (vs : List ℕ) (j : ℕ) → b + length vs ≤ length w → j < length vs
    → get_or (sets w b vs) (b + j) 0 ≡ get_or vs j 0
put_back w b vs j fits h =
    let front = length-take-le b w (omega arith) in
    let at : b + j ≡ length (take b w) + j = rw front in
    let joined = sets-eq vs w b fits ∙ append_assoc (take b w) vs _ in
    rw (joined, at, get_or-append-add (take b w) (vs ++ drop (b + length vs) w) j 0)
    (get_or-append vs (drop (b + length vs) w) 0 j h)

-- pairs by the words that they are read from
pairs_told : (base : ℕ) (g : List ℕ) (i : ℕ) (ps : List Pair) → base + 2 * (i + length ps) ≤ track_words
    → ((j : ℕ) → j < 2 * length ps → get_or g (base + 2 * i + j) 0 ≡ get_or (flat ps) j 0)
    → pairs base g i (length ps) ≡ ps
unfolding pairs flat track_word
pairs_told base g i [] fits h = refl
pairs_told base g i (a ∷ ps) fits h =
    let one = rw add-zero at (h 0 (omega arith)) in
    let two = h 1 (omega arith) in
    let rest = pairs_told base g (suc i) ps (omega arith) (λ j l.
    let same : base + 2 * suc i + j ≡ base + 2 * i + suc (suc j) = omega arith in
    ap (λ (n : ℕ). get_or g n 0) same ∙ h (suc (suc j)) (omega arith)) in
    rw (rest, lt-ltb (base + 2 * i) track_words (omega arith), lt-ltb (base + 2 * i + 1) track_words (omega arith), one, two)

-- pairs that are put are read back
pub pairs_back : (base : ℕ) (w : List ℕ) (ps : List Pair) → length w ≡ track_words
    → base + 2 * length ps ≤ track_words → pairs base (sets w base (flat ps)) 0 (length ps) ≡ ps
pairs_back base w ps long fits =
    pairs_told base _ 0 ps (omega arith) (λ j h.
    let same : base + 2 * 0 + j ≡ base + j = omega arith in
    ap (λ (n : ℕ). get_or (sets w base (flat ps)) n 0) same
    ∙ put_back w base (flat ps) j (omega (arith, flat_length ps)) (omega (arith, flat_length ps)))

-- words that are put behind others leave these
front_stays : (w : List ℕ) (b : ℕ) (vs : List ℕ) (i : ℕ) → i < b → get_or (sets w b vs) i 0 ≡ get_or w i 0
front_stays w b [] i h = refl
front_stays w b (v ∷ vs) i h =
    front_stays (set w b v) (suc b) vs i (omega arith) ∙ get_or-set_other w b i v 0 (λ e. omega arith)

-- and the pairs that are read from them
pairs_stay : (base : ℕ) (w : List ℕ) (b : ℕ) (vs : List ℕ) (i c : ℕ) → base + 2 * (i + c) ≤ b
    → pairs base (sets w b vs) i c ≡ pairs base w i c
unfolding pairs track_word
pairs_stay base w b vs i zero h = refl
pairs_stay base w b vs i (suc c) h =
    rw (
      front_stays w b vs (base + 2 * i) (omega arith),
      front_stays w b vs (base + 2 * i + 1) (omega arith),
      pairs_stay base w b vs (suc i) c (omega arith),
    )

-- the arcs and the meetings of a track are read back from its words, where they have room
module _ (w : List ℕ) (long : length w ≡ track_words) (as' ms : List Pair) (few : length as' ≤ arc_room)
    (few_met : length ms ≤ meeting_room) (n : ℕ) where
  abbrev both_put : List ℕ
  both_put = sets (sets w 0 (flat as')) meetings_from (flat ms)

  pub arcs_back : n ≡ length as' → pairs 0 both_put 0 n ≡ as'
  arcs_back all =
      ap (pairs 0 both_put 0) all
      ∙ pairs_stay 0 (sets w 0 (flat as')) meetings_from (flat ms) 0 (length as') (omega arith)
      ∙ pairs_back 0 w as' long (omega arith)

  pub meetings_back : n ≡ length ms → pairs meetings_from both_put 0 n ≡ ms
  meetings_back all =
      ap (pairs meetings_from both_put 0) all
      ∙ pairs_back meetings_from (sets w 0 (flat as')) ms (length-sets w 0 (flat as') ∙ long) (omega arith)
