-- What a write to a track leaves alone and what it adds. A write is told by the words that it stays within:
-- lists of pairs and of event nodes that are read from other words stay the same, and what is written behind
-- the last of a list is one more at its end. Assumes nothing.
use Rattle.std.proofs.Common.{ℕ, zero, suc, ◌+◌, ◌*◌, ◌%◌, ◌≤◌, ◌<◌, ◌≡◌, refl, ◌∙◌, Bool, true, false, List}
use Rattle.std.proofs.Common.{[], ◌∷◌, ◌++◌, append-nil, append_assoc, arith, zero-add, add-zero, add_assoc}
use Rattle.std.proofs.Common.{add-one, length, get_or, set, length-set, length-append, get_or-set_same}
use Rattle.std.proofs.Common.{get_or-set_other, ltb, lt-ltb, le-ltb, ltb-true, ltb-false}
use Rattle.lines.specs.Line.{choose}
use Rattle.rules.specs.Track.{Pair, pair}
use Rattle.control.specs.words.Words.{track_words, track_word, put_track, event_node, event_nodes_from, meetings_from}
use Rattle.drawing.specs.code.Drawing.{with_arc, with_meeting, with_met}
use Rattle.control.specs.words.Views.{pairs, arcs_of, meetings_of, event_nodes}

-- one word put
module _ (g : List ℕ) (j v : ℕ) where
  pub track_put_same : length g ≡ track_words → j < track_words → v < 65536
      → track_word (put_track g j v) j ≡ v
  unfolding track_word put_track
  track_put_same l h s =
      let small : v % 65536 ≡ v = omega arith in
      simp (lt-ltb j track_words h, small) (get_or-set_same g j v 0 (omega arith))

  pub track_put_other : (i : ℕ) → (i ≡ j → ⊥) → track_word (put_track g j v) i ≡ track_word g i
  unfolding track_word put_track
  track_put_other i ne = go (ltb j track_words)
    where
      go : (b : Bool) → choose (ltb i track_words) (get_or (choose b (set g j (v % 65536)) g) i 0) 0
          ≡ choose (ltb i track_words) (get_or g i 0) 0
      go true = rw (get_or-set_other g j i (v % 65536) 0 ne)
      go false = refl

  pub track_put_length : length (put_track g j v) ≡ length g
  unfolding put_track
  track_put_length = go (ltb j track_words)
    where
      go : (b : Bool) → length (choose b (set g j (v % 65536)) g) ≡ length g
      go true = length-set g j (v % 65536)
      go false = refl

-- of the words of g, only some of those from number lo on and below number hi are others in h
pub record Within (lo hi : ℕ) (g h : List ℕ) : Type 0 where
  pub below : (i : ℕ) → i < lo → track_word h i ≡ track_word g i
  pub above : (i : ℕ) → hi ≤ i → track_word h i ≡ track_word g i
  pub long : length h ≡ length g

pub within_none : (lo hi : ℕ) (g : List ℕ) → Within lo hi g g
within_none lo hi g = record { below = λ i l. refl; above = λ i l. refl; long = refl }

pub within_both : {lo hi at to : ℕ} {g h l : List ℕ} → lo ≤ at → to ≤ hi → Within lo hi g h → Within at to h l
    → Within lo hi g l
within_both {hi = hi} {at = at} p q v w = record {
  below = λ i u. w.below i (omega arith) ∙ v.below i u;
  above = λ i u. w.above i (omega arith) ∙ v.above i u;
  long = w.long ∙ v.long;
}

pub within_put : (lo hi : ℕ) (g : List ℕ) (j v : ℕ) → lo ≤ j → j < hi → Within lo hi g (put_track g j v)
within_put lo hi g j v p q = record {
  below = λ i u. track_put_other g j v i (λ e. omega arith);
  above = λ i u. track_put_other g j v i (λ e. omega arith);
  long = track_put_length g j v;
}

-- lists read from words that are the same
module _ (g h : List ℕ) where
  pub pairs_same : (base i c : ℕ)
      → ((j : ℕ) → base + 2 * i ≤ j → j < base + 2 * (i + c) → track_word h j ≡ track_word g j)
      → pairs base h i c ≡ pairs base g i c
  unfolding pairs
  pairs_same base i zero s = refl
  pairs_same base i (suc c) s =
      let one = s (base + 2 * i) (omega arith) (omega arith) in
      let two = s (base + 2 * i + 1) (omega arith) (omega arith) in
      rw (one, two, pairs_same base (suc i) c (λ j p q. s j (omega arith) (omega arith)))

  pub nodes_same : (i c : ℕ)
      → ((j : ℕ) → event_nodes_from + i ≤ j → j < event_nodes_from + (i + c) → track_word h j ≡ track_word g j)
      → event_nodes h i c ≡ event_nodes g i c
  unfolding event_nodes event_node
  nodes_same i zero s = refl
  nodes_same i (suc c) s =
      let one = s (event_nodes_from + i) (omega arith) (omega arith) in
      rw (one, nodes_same (suc i) c (λ j p q. s j (omega arith) (omega arith)))

-- which lists a write leaves alone, by the words that it stays within
module _ {lo hi : ℕ} {g h : List ℕ} (w : Within lo hi g h) where
  pub arcs_kept : (c : ℕ) → 2 * c ≤ lo → arcs_of h c ≡ arcs_of g c
  arcs_kept c l = pairs_same g h 0 0 c (λ j p q. w.below j (omega arith))

  pub meetings_kept : (c : ℕ) → hi ≤ meetings_from → meetings_of h c ≡ meetings_of g c
  meetings_kept c l = pairs_same g h meetings_from 0 c (λ j p q. w.above j (omega arith))

  pub meetings_kept_below : (c : ℕ) → meetings_from + 2 * c ≤ lo → meetings_of h c ≡ meetings_of g c
  meetings_kept_below c l = pairs_same g h meetings_from 0 c (λ j p q. w.below j (omega arith))

  pub nodes_kept : (j c : ℕ) → hi ≤ event_nodes_from → event_nodes h j c ≡ event_nodes g j c
  nodes_kept j c l = nodes_same g h j c (λ i p q. w.above i (omega arith))

  pub nodes_kept_below : (j c : ℕ) → event_nodes_from + (j + c) ≤ lo → event_nodes h j c ≡ event_nodes g j c
  nodes_kept_below j c l = nodes_same g h j c (λ i p q. w.below i (omega arith))

-- one pair more, and one event node more
pairs_more : (base : ℕ) (g : List ℕ) (i c : ℕ) → pairs base g i (suc c)
    ≡ pairs base g i c
    ++ (pair (track_word g (base + 2 * (i + c))) (track_word g (base + 2 * (i + c) + 1)) ∷ [])
unfolding pairs
pairs_more base g i zero = rw add-zero
pairs_more base g i (suc c) =
    let same : suc i + c ≡ i + suc c = omega arith in
    rw (pairs_more base g (suc i) c, same)

nodes_more : (g : List ℕ) (i c : ℕ)
    → event_nodes g i (suc c) ≡ event_nodes g i c ++ (event_node (i + c) g ∷ [])
unfolding event_nodes
nodes_more g i zero = rw add-zero
nodes_more g i (suc c) =
    let same : suc i + c ≡ i + suc c = omega arith in
    rw (nodes_more g (suc i) c, same)

-- the two kinds of pairs that a track lists: where the first stands, how many there is room for, and how one
-- is written
pub data Pairing : Type 0 where
  arc : Pairing
  meeting : Pairing

abbrev pub first_word : Pairing → ℕ
first_word arc = 0
first_word meeting = meetings_from

abbrev pub pair_room : Pairing → ℕ
pair_room arc = 8192
pair_room meeting = 4096

abbrev pub with_pair : Pairing → ℕ → ℕ → ℕ → List ℕ → List ℕ
with_pair arc = with_arc
with_pair meeting = with_meeting

-- the word where pair number i begins
abbrev pub pair_word : Pairing → ℕ → ℕ
pair_word s i = first_word s + 2 * i

-- the event nodes stand behind both
pub last_pair : (s : Pairing) → pair_word s (pair_room s) ≤ event_nodes_from
last_pair arc = omega arith
last_pair meeting = omega arith

-- pairs are added behind the first n of their kind, and no words change but those behind the n
pub record Grown (s : Pairing) (n : ℕ) (g h : List ℕ) (ps : List Pair) : Type 0 where
  pub whole : pairs (first_word s) h 0 (n + length ps) ≡ pairs (first_word s) g 0 n ++ ps
  pub within : Within (pair_word s n) (pair_word s (pair_room s)) g h

pub grown_none : (s : Pairing) (n : ℕ) (g : List ℕ) → Grown s n g g []
grown_none s n g = record {
  whole = rw (add-zero, append-nil);
  within = within_none (pair_word s n) (pair_word s (pair_room s)) g;
}

pub grown_both : {s : Pairing} {n : ℕ} {g h l : List ℕ} {ps qs : List Pair} → Grown s n g h ps
    → Grown s (n + length ps) h l qs → Grown s n g l (ps ++ qs)
grown_both {n = n} {ps = ps} {qs = qs} v w = record {
  whole = rw (length-append ps qs, ← add_assoc, w.whole, v.whole, append_assoc);
  within = within_both (omega arith) (omega arith) v.within w.within;
}

-- one pair, where there is room for it and where there is not
pair_in : (s : Pairing) (a b i : ℕ) (g : List ℕ) → i < pair_room s
    → put_track (put_track g (pair_word s i) a) (pair_word s i + 1) b ≡ with_pair s a b i g
unfolding with_arc with_meeting
pair_in arc a b i g r = rw zero-add (simp (lt-ltb i 8192 r))
pair_in meeting a b i g r = simp (lt-ltb i 4096 r)

pair_out : (s : Pairing) (a b i : ℕ) (g : List ℕ) → pair_room s ≤ i → g ≡ with_pair s a b i g
unfolding with_arc with_meeting
pair_out arc a b i g r = simp (le-ltb i 8192 r)
pair_out meeting a b i g r = simp (le-ltb i 4096 r)

module _ (s : Pairing) (a b i : ℕ) (g : List ℕ) where
  abbrev here : ℕ
  here = pair_word s i

  abbrev past : ℕ
  past = pair_word s (pair_room s)

  abbrev half : List ℕ
  half = put_track g here a

  pub pair_within : Within (pair_word s i) (pair_word s (pair_room s)) g (with_pair s a b i g)
  pair_within = go (ltb i (pair_room s)) refl
    where
      go : (t : Bool) → ltb i (pair_room s) ≡ t → Within here past g (with_pair s a b i g)
      go true e =
          let r : i < pair_room s = ltb-true i (pair_room s) e in
          rw (← pair_in s a b i g r) (within_both (omega arith) (omega arith)
          (within_put here past g here a (omega arith) (omega arith))
          (within_put here past half (here + 1) b (omega arith) (omega arith)))
      go false e = rw (← pair_out s a b i g (ltb-false i (pair_room s) e)) (within_none here past g)

  module _ (l : length g ≡ track_words) (r : i < pair_room s) (p : a < 65536) (q : b < 65536) where
    from_there : track_word (with_pair s a b i g) here ≡ a
    from_there = rw (← pair_in s a b i g r) (track_put_other half (here + 1) b here (λ e. omega arith)
        ∙ track_put_same g here a l (omega (arith, last_pair s)) p)

    to_there : track_word (with_pair s a b i g) (here + 1) ≡ b
    to_there = rw (← pair_in s a b i g r)
        (track_put_same half (here + 1) b (track_put_length g here a ∙ l) (omega (arith, last_pair s)) q)

    before : pairs (first_word s) (with_pair s a b i g) 0 i ≡ pairs (first_word s) g 0 i
    before =
        pairs_same g (with_pair s a b i g) (first_word s) 0 i (λ j u v. pair_within.below j (omega arith))

    pub pair_grown : Grown s i g (with_pair s a b i g) (pair a b ∷ [])
    pair_grown = record {
      whole =
          rw (add-one i, pairs_more (first_word s) (with_pair s a b i g) 0 i, zero-add i)
          (rw (before, from_there, to_there));
      within = pair_within;
    }

-- an arc
module _ (a b i : ℕ) (g : List ℕ) where
  pub arc_added : length g ≡ track_words → i < 8192 → a < 65536 → b < 65536
      → arcs_of (with_arc a b i g) (i + 1) ≡ arcs_of g i ++ (pair a b ∷ [])
  arc_added l r p q = (pair_grown arc a b i g l r p q).whole

  pub arc_keeps_meetings : (c : ℕ) → meetings_of (with_arc a b i g) c ≡ meetings_of g c
  arc_keeps_meetings c = meetings_kept (pair_within arc a b i g) c (omega arith)

  pub arc_keeps_nodes : (j c : ℕ) → event_nodes (with_arc a b i g) j c ≡ event_nodes g j c
  arc_keeps_nodes j c = nodes_kept (pair_within arc a b i g) j c (omega arith)

  pub arc_length : length (with_arc a b i g) ≡ length g
  arc_length = (pair_within arc a b i g).long

-- a meeting
module _ (m n i : ℕ) (g : List ℕ) where
  pub meeting_keeps_nodes : (j c : ℕ) → event_nodes (with_meeting m n i g) j c ≡ event_nodes g j c
  meeting_keeps_nodes j c = nodes_kept (pair_within meeting m n i g) j c (omega arith)

  pub meeting_length : length (with_meeting m n i g) ≡ length g
  meeting_length = (pair_within meeting m n i g).long

-- an event node of a step, of those that there is room for
module _ (n i : ℕ) (g : List ℕ) where
  pub met_within : Within (event_nodes_from + i) track_words g (with_met n i g)
  unfolding with_met
  met_within = go (ltb i 4096) refl
    where
      go : (t : Bool) → ltb i 4096 ≡ t → Within (event_nodes_from + i) track_words g (choose t (put_track g (event_nodes_from + i) n) g)
      go true e =
          within_put (event_nodes_from + i) track_words g (event_nodes_from + i) n (omega arith) (omega (arith, ltb-true i 4096 e))
      go false e = within_none (event_nodes_from + i) track_words g

  pub met_there : length g ≡ track_words → i < 4096 → n < 65536 → event_node i (with_met n i g) ≡ n
  unfolding with_met event_node
  met_there l r p = simp (lt-ltb i 4096 r) (track_put_same g (event_nodes_from + i) n l (omega arith) p)

  pub met_keeps_arcs : (c : ℕ) → c ≤ 8192 → arcs_of (with_met n i g) c ≡ arcs_of g c
  met_keeps_arcs c h = arcs_kept met_within c (omega arith)

  pub met_keeps_meetings : (c : ℕ) → c ≤ 4096 → meetings_of (with_met n i g) c ≡ meetings_of g c
  met_keeps_meetings c h = meetings_kept_below met_within c (omega arith)

  pub met_keeps_nodes : (j c : ℕ) → j + c ≤ i → event_nodes (with_met n i g) j c ≡ event_nodes g j c
  met_keeps_nodes j c h = nodes_kept_below met_within j c (omega arith)

  pub met_length : length (with_met n i g) ≡ length g
  met_length = met_within.long

  pub met_added : length g ≡ track_words → i < 4096 → n < 65536 → (j c : ℕ) → j + c ≡ i
      → event_nodes (with_met n i g) j (c + 1) ≡ event_nodes g j c ++ (n ∷ [])
  met_added l r p j c e =
      rw (add-one c, nodes_more (with_met n i g) j c, e, met_there l r p, met_keeps_nodes j c (omega arith))
