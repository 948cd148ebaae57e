-- What the loops over a track add to it: `joined` the arcs of the report's `parents`, `met_all` the meetings
-- of its `meet`. Each turn writes behind all that the loop has yet to read, so the rest of the loop reads
-- what stood there at its start, and what it adds is appended. Assumes nothing.
use Rattle.std.proofs.Common.{ℕ, zero, suc, ◌+◌, ◌*◌, ◌≤◌, ◌<◌, ◌≡◌, refl, sym, ap, ◌∙◌, Bool, true, false}
use Rattle.std.proofs.Common.{◌||◌, List, [], ◌∷◌, ◌++◌, arith, zero-add, add-zero, add_assoc, suc-mul}
use Rattle.std.proofs.Common.{length, length-append, eqb, lt-ltb, le-ltb, eqb-true, eq-eqb, ne_eqb}
use Rattle.std.proofs.lemmas.Bool.{eqb-false}
use Rattle.std.proofs.Math.Option.{some}
use Rattle.lines.specs.Line.{choose}
use Rattle.rules.specs.Track.{Pair, pair, parents, each_with, meet}
use Rattle.rules.specs.Track as Track
use Rattle.control.specs.words.Words.{track_words, track_word, event_node}
use Rattle.control.specs.words.Sums.{capped}
use Rattle.looking.specs.code.Looking.{leads}
use Rattle.weighing.proofs.SideTold.{each_length, meet_length}
use Rattle.drawing.specs.declared.Tally.{Tally}
use Rattle.drawing.specs.code.Drawing.{one_arc, one_meeting, with_arc, with_meeting, Kept, kept, met_each}
use Rattle.drawing.specs.code.Drawing.{met_all, joined}
use Rattle.control.specs.words.Views.{pairs, arcs_of, meetings_of, event_nodes}
use Rattle.step_laws.proofs.TrackLaws.{Pairing, arc, meeting, first_word, pair_room, with_pair}
use Rattle.step_laws.proofs.TrackLaws.{last_pair, Grown, grown_none, grown_both, pair_grown}
use Rattle.step_laws.proofs.TrackLaws.{pair_within, pairs_same, arcs_kept, meetings_kept, nodes_kept}
use Rattle.step_laws.proofs.TrackLaws.{arc_length, meeting_length, meeting_keeps_nodes}

-- a count that is not past the last is what it is
pub capped_below : (n : ℕ) → n ≤ 65535 → capped n ≡ n
unfolding capped
capped_below n h = simp (le-ltb 65535 n h)

-- how many pairs of a kind a tally has, and a tally with one more and with n more
abbrev pub count : Pairing → Tally → ℕ
count arc k = k.arcs
count meeting k = k.meetings

abbrev pub one_pair : Pairing → Tally → Tally
one_pair arc = one_arc
one_pair meeting = one_meeting

abbrev pub more : Pairing → ℕ → Tally → Tally
more arc n k = record {
  fresh = k.fresh;
  nodes = k.nodes;
  arcs = k.arcs + n;
  meetings = k.meetings;
  met = k.met;
}
more meeting n k = record {
  fresh = k.fresh;
  nodes = k.nodes;
  arcs = k.arcs;
  meetings = k.meetings + n;
  met = k.met;
}

count_more : (s : Pairing) (n : ℕ) (k : Tally) → count s (more s n k) ≡ count s k + n
count_more arc n k = refl
count_more meeting n k = refl

more_none : (s : Pairing) (k : Tally) → k ≡ more s 0 k
more_none arc k = rw add-zero
more_none meeting k = rw add-zero

more_both : (s : Pairing) (m n : ℕ) (k : Tally) → more s n (more s m k) ≡ more s (m + n) k
more_both arc m n k = rw add_assoc
more_both meeting m n k = rw add_assoc

pub one_more : (s : Pairing) (k : Tally) → count s k < pair_room s → one_pair s k ≡ more s 1 k
unfolding one_arc one_meeting
one_more arc k h = rw (capped_below (k.arcs + 1) (omega arith))
one_more meeting k h = rw (capped_below (k.meetings + 1) (omega arith))

one_count : (s : Pairing) (k : Tally) → count s k < pair_room s → count s (one_pair s k) ≡ count s k + 1
one_count s k h = ap (count s) (one_more s k h) ∙ count_more s 1 k

-- pairs of a kind are added to a track and counted in its tally, and nothing else changes
pub record Told (s : Pairing) (k : Tally) (g : List ℕ) (d : Kept) (ps : List Pair) : Type 0 where
  pub tally : d.tally ≡ more s (length ps) k
  pub grown : Grown s (count s k) g d.track ps

-- so the lists of the kind are appended, and the others stay
module _ {s : Pairing} {k : Tally} {g : List ℕ} {d : Kept} {ps : List Pair} (w : Told s k g d ps) where
  pub told_count : count s d.tally ≡ count s k + length ps
  told_count = ap (count s) w.tally ∙ count_more s (length ps) k

  pub told_whole : pairs (first_word s) d.track 0 (count s d.tally)
      ≡ pairs (first_word s) g 0 (count s k) ++ ps
  told_whole = rw told_count w.grown.whole

  pub told_keeps_nodes : (j c : ℕ) → event_nodes d.track j c ≡ event_nodes g j c
  told_keeps_nodes j c = nodes_kept w.grown.within j c (last_pair s)

  pub told_length : length d.track ≡ length g
  told_length = w.grown.within.long

module _ {k : Tally} {g : List ℕ} {d : Kept} {ps : List Pair} where
  pub told_keeps_meetings : Told arc k g d ps → (c : ℕ) → meetings_of d.track c ≡ meetings_of g c
  told_keeps_meetings w c = meetings_kept w.grown.within c (omega arith)

  pub told_keeps_arcs : Told meeting k g d ps → (c : ℕ) → c ≤ 8192 → arcs_of d.track c ≡ arcs_of g c
  told_keeps_arcs w c h = arcs_kept w.grown.within c (omega arith)

-- none are added, or one, or some and then others
pub told_none : (s : Pairing) (k : Tally) (g : List ℕ) → Told s k g (kept k g) []
told_none s k g = record { tally = more_none s k; grown = grown_none s (count s k) g }

pub told_one : (s : Pairing) (a b : ℕ) (k : Tally) (g : List ℕ) → length g ≡ track_words
    → count s k < pair_room s → a < 65536 → b < 65536
    → Told s k g (kept (one_pair s k) (with_pair s a b (count s k) g)) (pair a b ∷ [])
told_one s a b k g l r p q = record { tally = one_more s k r; grown = pair_grown s a b (count s k) g l r p q }

pub told_both : {s : Pairing} {k : Tally} {g : List ℕ} {d e : Kept} {ps qs : List Pair} → Told s k g d ps
    → Told s d.tally d.track e qs → Told s k g e (ps ++ qs)
told_both {s = s} {k = k} {ps = ps} {qs = qs} v w = record {
  tally = rw (w.tally, v.tally, more_both s (length ps) (length qs) k, length-append ps qs);
  grown = grown_both v.grown (rw (told_count v) at w.grown);
}

-- each of a list is so
abbrev pub Each : {A : Type 0} → (A → Type 0) → List A → Type 0
Each P [] = Unit {0}
Each P (x ∷ xs) = P x × Each P xs

eqb_turned : (a b : ℕ) → eqb a b ≡ eqb b a
eqb_turned a b = go (eqb a b) refl
  where
    go : (t : Bool) → eqb a b ≡ t → t ≡ eqb b a
    go true e = sym (eq-eqb b a (sym (eqb-true a b e)))
    go false e = sym (ne_eqb b a (λ q. eqb-false a b e (sym q)))

either : (b c : Bool) (xs ys : List Pair) → choose b xs (choose c xs ys) ≡ choose (b || c) xs ys
either true c xs ys = refl
either false c xs ys = refl

-- what a turn writes is not what the rest of the loop reads
read_on : (a b i c n : ℕ) (g : List ℕ) → i + c ≤ n → pairs 0 (with_arc a b n g) i c ≡ pairs 0 g i c
read_on a b i c n g h =
    pairs_same g (with_arc a b n g) 0 i c (λ j p q. (pair_within arc a b n g).below j (omega arith))

-- a turn of the loop: one arc is added, or none
joined_turn : (b : Bool) (k : Tally) (g : List ℕ) (f t : ℕ) (d e : Kept) (ps : List Pair)
    → length g ≡ track_words → f < 65536 → t < 65536 → k.arcs + length (choose b (pair f t ∷ ps) ps) ≤ 8192
    → (k.arcs + suc (length ps) ≤ 8192 → Told arc (one_arc k) (with_arc f t k.arcs g) d ps)
    → (k.arcs + length ps ≤ 8192 → Told arc k g e ps)
    → Told arc k g (choose b d e) (choose b (pair f t ∷ ps) ps)
joined_turn true k g f t d e ps l p q r v w = told_both (told_one arc f t k g l (omega arith) p q) (v r)
joined_turn false k g f t d e ps l p q r v w = w r

module _ (m n t : ℕ) where
  -- the arcs that are due by some
  abbrev due : List Pair → List Pair
  due = parents (some m) (some n) t

  due_next : (f j : ℕ) (ps : List Pair)
      → due (pair f j ∷ ps) ≡ choose (leads j m n) (pair f t ∷ due ps) (due ps)
  unfolding parents leads Track.leads
  due_next f j ps =
      rw (eqb_turned m j, eqb_turned n j) (either (eqb j m) (eqb j n) (pair f t ∷ due ps) (due ps))

  joined_from : t < 65536 → (c i : ℕ) (k : Tally) (g : List ℕ) → length g ≡ track_words → i + c ≤ k.arcs
      → k.arcs + length (due (pairs 0 g i c)) ≤ 8192 → Each (λ (a : Pair). a.from < 65536) (pairs 0 g i c)
      → Told arc k g (joined m n t i c k g) (due (pairs 0 g i c))
  unfolding joined pairs parents
  joined_from p zero i k g l h r s = told_none arc k g
  joined_from p (suc c) i k g l h r s =
      let f : ℕ = track_word g (2 * i) in
      let j : ℕ = track_word g (2 * i + 1) in
      let g' : List ℕ = with_arc f t k.arcs g in
      let next = due_next f j (pairs 0 g (suc i) c) in
      let on = read_on f t (suc i) c k.arcs g (omega arith) in
      rw (zero-add, next) (simp (lt-ltb i 8192 (omega arith)) (joined_turn (leads j m n) k g f t
      (joined m n t (suc i) c (one_arc k) g') (joined m n t (suc i) c k g) (due (pairs 0 g (suc i) c)) l
      (rw zero-add at s.0) p (rw (zero-add, next) at r)
      (λ b.
      let up : count arc (one_arc k) ≡ k.arcs + 1 = one_count arc k (omega arith) in
      rw on at (joined_from p c (suc i) (one_arc k) g' (arc_length f t k.arcs g ∙ l) (omega arith)
      (rw on (omega arith)) (rw on s.1)))
      (λ b. joined_from p c (suc i) k g l (omega arith) b s.1)))

  -- each parent of either reference gets an arc to a third
  pub joined_told : t < 65536 → (k : Tally) (g : List ℕ) → length g ≡ track_words
      → k.arcs + length (parents (some m) (some n) t (arcs_of g k.arcs)) ≤ 8192
      → Each (λ (a : Pair). a.from < 65536) (arcs_of g k.arcs)
      → Told arc k g (joined m n t 0 k.arcs k g) (parents (some m) (some n) t (arcs_of g k.arcs))
  joined_told p k g l r s = joined_from p k.arcs 0 k g l (omega arith) r s

-- a node meets each of some event nodes
met_each_told : (n : ℕ) → n < 65536 → (c i : ℕ) (k : Tally) (g : List ℕ) → length g ≡ track_words
    → k.meetings + c ≤ 4096 → Each (λ (m : ℕ). m < 65536) (event_nodes g i c)
    → Told meeting k g (met_each n i c k g) (each_with n (event_nodes g i c))
unfolding met_each event_nodes each_with
met_each_told n p zero i k g l r s = told_none meeting k g
met_each_told n p (suc c) i k g l r s =
    let m : ℕ = event_node i g in
    let g' : List ℕ = with_meeting n m k.meetings g in
    let on = meeting_keeps_nodes n m k.meetings g (suc i) c in
    let up : count meeting (one_meeting k) ≡ k.meetings + 1 = one_count meeting k (omega arith) in
    told_both (told_one meeting n m k g l (omega arith) p s.0)
    (rw on at (met_each_told n p c (suc i) (one_meeting k) g' (meeting_length n m k.meetings g ∙ l)
    (omega arith) (rw on s.1)))

-- how many event nodes and meetings these are
pub nodes_length : (g : List ℕ) (i c : ℕ) → length (event_nodes g i c) ≡ c
unfolding event_nodes
nodes_length g i zero = refl
nodes_length g i (suc c) = ap suc (nodes_length g (suc i) c)

pub meetings_due : (g : List ℕ) (i a j b : ℕ) → length (meet (event_nodes g i a) (event_nodes g j b)) ≡ a * b
meetings_due g i a j b =
    meet_length (event_nodes g i a) (event_nodes g j b) ∙ rw (nodes_length g i a, nodes_length g j b)

-- each of some event nodes meets each of some others
pub met_all_told : (a i j b : ℕ) (k : Tally) (g : List ℕ) → length g ≡ track_words
    → k.meetings + a * b ≤ 4096 → Each (λ (m : ℕ). m < 65536) (event_nodes g i a)
    → Each (λ (m : ℕ). m < 65536) (event_nodes g j b)
    → Told meeting k g (met_all i a j b k g) (meet (event_nodes g i a) (event_nodes g j b))
unfolding met_all event_nodes meet
met_all_told zero i j b k g l r s t = told_none meeting k g
met_all_told (suc a) i j b k g l r s t =
    let n : ℕ = event_node i g in
    let ys : List ℕ = event_nodes g j b in
    let d : Kept = met_each n j b k g in
    let many : length (each_with n ys) ≡ b = each_length n ys ∙ nodes_length g j b in
    let room : k.meetings + (b + a * b) ≤ 4096 = omega (arith, suc-mul a b) in
    let v : Told meeting k g d (each_with n ys) = met_each_told n s.0 b j k g l (omega arith) t in
    let up : d.tally.meetings ≡ k.meetings + length (each_with n ys) = told_count v in
    let on = told_keeps_nodes v (suc i) a in
    let again = told_keeps_nodes v j b in
    told_both v (rw (on, again) at (met_all_told a (suc i) j b d.tally d.track (told_length v ∙ l)
    (omega arith) (rw on s.1) (rw again t)))
