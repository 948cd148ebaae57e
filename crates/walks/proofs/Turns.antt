-- The walk with its pending references in a column, the last first. A turn takes one off: one that has a number is
-- passed, and another gets the next number, and where it leads is put on top. What is numbered, with the walk of
-- what is pending, is the whole walk; each number that is given leaves room for two more to be pending. Assumes
-- nothing.
use Rattle.std.proofs.Common.{ℕ, zero, suc, ◌+◌, ◌*◌, ◌-◌, ◌≤◌, ◌<◌, ◌≡◌, refl, sym, subst, ◌∙◌, Bool, true}
use Rattle.std.proofs.Common.{false, not, List, [], ◌∷◌, ◌++◌, append_assoc, length, get_or, set, replicate}
use Rattle.std.proofs.Common.{length-append, get_or-set_same, get_or-set_other, arith, add-zero, add-one, ltb}
use Rattle.std.proofs.Common.{eqb, ltb-true, lt-ltb, le-ltb}
use Rattle.std.proofs.lemmas.List.{length-replicate, get_or-replicate}
use Rattle.std.proofs.lemmas.List.Edits.{sets}
use Rattle.std.proofs.Math.Seq.{length-sets}
use mir.Val.{bool_byte}
use Rattle.lines.specs.Line.{choose}
use Rattle.columns.specs.words.Columns.{look}
use Rattle.columns.proofs.Laws.{look_in}
use Rattle.control.specs.words.Words.{reference_room}
use Rattle.graphs.specs.Walk.{among, walk}
use Rattle.graphs.proofs.Walking.{Distinct, Within, among_first, distinct_more, distinct_below, within_append}
use Rattle.graphs.proofs.Walking.{within_rest, within_none, within_one, walk_over}
use Rattle.links.specs.words.Columns.{at}
use Rattle.links.specs.code.Linked.{side_words, target, on}
use Rattle.walks.specs.code.Walked.{first, walked, numbers_from, numbers, laid, marks_by, with_numbers}
use Rattle.walks.specs.code.Walked.{nodes_numbered}
use Rattle.walks.proofs.Numbering.{unnumbered, has_number, next_number, next_label}

-- a reference of a graph, and several
abbrev Reference : ℕ → Type 0
Reference n = n < reference_room

abbrev Below : List ℕ → Type 0
Below = Within Reference

-- the first k words of a column, the last first
pub stacked : List ℕ → ℕ → List ℕ
stacked ps zero = []
stacked ps (suc k) = get_or ps k 0 ∷ stacked ps k

stacked_top : (ps : List ℕ) (k : ℕ) → 0 < k → stacked ps k ≡ get_or ps (k - 1) 0 ∷ stacked ps (k - 1)
unfolding stacked
stacked_top ps k h =
    let more : k ≡ suc (k - 1) = omega arith in
    subst (λ j. stacked ps j ≡ get_or ps (k - 1) 0 ∷ stacked ps (k - 1)) (sym more) refl

-- words behind them change nothing
stacked_set : (ps : List ℕ) (i v k : ℕ) → k ≤ i → stacked (set ps i v) k ≡ stacked ps k
unfolding stacked
stacked_set ps i v zero h = refl
stacked_set ps i v (suc k) h =
    rw (get_or-set_other ps i k v 0 (λ e. omega arith), stacked_set ps i v k (omega arith))

-- where a word of sides leads is put on top of them
put_on_top : (ps : List ℕ) (k v : ℕ) → k < length ps
    → stacked (sets ps k (target v)) (k + length (target v)) ≡ target v ++ stacked ps k
unfolding target stacked
put_on_top ps k zero h = rw (add-zero k)
put_on_top ps k (suc n) h = go (ltb n reference_room)
  where
    go : (b : Bool) → stacked (sets ps k (choose b (n ∷ []) [])) (k + length (choose b (n ∷ []) []))
        ≡ choose b (n ∷ []) [] ++ stacked ps k
    go true = rw (add-one k, get_or-set_same ps k n 0 h, stacked_set ps k n k (omega arith))
    go false = rw (add-zero k)

-- a word leads to the reference that it is one more than
target_one : (v : ℕ) → 1 ≤ v → v ≤ reference_room → target v ≡ (v - 1) ∷ []
unfolding target
target_one v h l =
    let more : v ≡ suc (v - 1) = omega arith in
    subst (λ u. target u ≡ (v - 1) ∷ []) (sym more) (rw (lt-ltb (v - 1) reference_room (omega arith)))

-- a word leads to one reference at most
target_below : (v : ℕ) → Below (target v) × (length (target v) ≤ 1)
unfolding target
target_below zero = (within_none Reference, omega arith)
target_below (suc n) = go (ltb n reference_room) refl
  where
    go : (b : Bool) → ltb n reference_room ≡ b
        → Below (choose b (n ∷ []) []) × (length (choose b (n ∷ []) []) ≤ 1)
    go true e = (within_one Reference n (ltb-true n reference_room e), omega arith)
    go false e = (within_none Reference, omega arith)

-- the pending references, with where a word of sides leads on top
abbrev pub Pushed : List ℕ → List ℕ → ℕ → ℕ → ℕ → List ℕ → Type 0
Pushed w ps t word t' ps' =
    (t' ≡ t + length (target (look side_words w word))) × (ps' ≡ sets ps t (target (look side_words w word)))

-- a word leads nowhere, or to the reference that it is one more than
module _ (w ps : List ℕ) (t word v : ℕ) (word_is : v ≡ look side_words w word) where
  pub push_none : (1 ≤ v → reference_room < v) → Pushed w ps t word t ps
  unfolding target
  push_none h = rw (← word_is) (go v h)
    where
      go : (u : ℕ) → (1 ≤ u → reference_room < u) → (t ≡ t + length (target u)) × (ps ≡ sets ps t (target u))
      go zero k = (sym (add-zero t), refl)
      go (suc u) k = let l = k (omega arith) in rw (le-ltb u reference_room (omega arith)) (sym (add-zero t), refl)

  pub push_one : 1 ≤ v → v ≤ reference_room → Pushed w ps t word (t + 1) (set ps t (v - 1))
  unfolding target
  push_one h l =
      let one : target v ≡ (v - 1) ∷ [] = target_one v h l in
      rw (← word_is, one) (refl, refl)

module _ (w ps : List ℕ) (t word t' : ℕ) (ps' : List ℕ) (pushed : Pushed w ps t word t' ps') where
  pub pushed_most : t' ≤ t + 1
  pushed_most = omega (arith, (target_below (look side_words w word)).1, pushed.0)

  pushed_room : length ps ≡ side_words → length ps' ≡ side_words
  pushed_room h = rw (pushed.1, length-sets ps t (target (look side_words w word))) h

  pushed_stack : t < length ps → stacked ps' t' ≡ target (look side_words w word) ++ stacked ps t
  pushed_stack h = rw (pushed.1, pushed.0) (put_on_top ps t (look side_words w word) h)

-- a reference gets the next number, and its mark the next place
abbrev pub Given : List ℕ → List ℕ → List ℕ → ℕ → ℕ → ℕ → List ℕ → List ℕ → Type 0
Given ms ns ls n count count' ns' ls' =
    (count' ≡ count + 1) × ((ns' ≡ set ns n (count + 1)) × (ls' ≡ set ls count (get_or ms n 0)))

-- a turn of the walk
walk_turn : (f : ℕ) (ways : ℕ → List ℕ) (n : ℕ) (p s : List ℕ) (b : Bool) → among n s ≡ b
    → walk (suc f) ways (n ∷ p) s ≡ walk f ways (choose b p (ways n ++ p)) (choose b s (s ++ (n ∷ [])))
unfolding walk
walk_turn f ways n p s b e = rw e

-- the walk, so far: what is numbered, and the turns that are left
pub record Underway (ms w ns ls ps : List ℕ) (top count : ℕ) : Type 0 where
  pub seen : List ℕ
  pub turns : ℕ
  pub whole : walk turns (on w) (stacked ps top) seen ≡ walked ms w
  pub enough : top + 2 * reference_room ≤ turns + 2 * count
  pub most : turns ≤ side_words
  pub counted : length seen ≡ count
  pub distinct : Distinct seen
  pub seen_below : Below seen
  pub pending_below : Below (stacked ps top)
  pub pending_room : length ps ≡ side_words
  pub numbers_are : ns ≡ numbers seen
  pub labels_are : ls ≡ laid (marks_by ms seen)

module _ (ms w ns ls ps : List ℕ) (top count : ℕ) (u : Underway ms w ns ls ps top count) where
  -- no more are numbered, and no more pending, than there is room for
  counted_most : count ≤ reference_room
  counted_most = omega (arith, distinct_below reference_room u.seen u.distinct u.seen_below, u.counted)

  pub pending_most : top ≤ side_words
  pending_most = omega (arith, u.enough, u.most, counted_most)

  -- with nothing pending, what is numbered is the walk
  pub walk_done : top ≤ 0 → with_numbers count ns ls ≡ nodes_numbered ms w
  unfolding stacked
  walk_done h =
      let none : top ≡ 0 = omega arith in
      let done : u.seen ≡ walked ms w = sym (walk_over (on w) u.turns u.seen).0 ∙ (rw none at u.whole) in
      rw (← done, ← u.counted, u.numbers_are, u.labels_are)

  module _ (n : ℕ) (pending : 0 < top) (next : n ≡ get_or ps (top - 1) 0) where
    -- the next one is a reference
    next_first : stacked ps top ≡ n ∷ stacked ps (top - 1)
    next_first = rw next (stacked_top ps top pending)

    both_below : Below (n ∷ stacked ps (top - 1))
    both_below = subst Below next_first u.pending_below

    pub next_below : n < reference_room
    next_below = both_below n (among_first n (stacked ps (top - 1)))

    -- the turn that takes it off
    turn : (b : Bool) → among n u.seen ≡ b
        → walk (u.turns - 1) (on w) (choose b (stacked ps (top - 1)) (on w n ++ stacked ps (top - 1)))
        (choose b u.seen (u.seen ++ (n ∷ []))) ≡ walked ms w
    turn b e =
        let more : u.turns ≡ suc (u.turns - 1) = omega (arith, u.enough, counted_most) in
        sym (walk_turn (u.turns - 1) (on w) n (stacked ps (top - 1)) u.seen b e)
        ∙ (rw (next_first, more) at u.whole)

    -- one that has a number is passed
    pub turn_passes : (get_or ns n 0 ≡ 0 → ⊥) → Underway ms w ns ls ps (top - 1) count
    turn_passes h = record {
      seen = u.seen;
      turns = u.turns - 1;
      whole = turn true (has_number u.seen n next_below (λ z. h (rw u.numbers_are z)));
      enough = omega (arith, u.enough, counted_most);
      most = omega (arith, u.most);
      counted = u.counted;
      distinct = u.distinct;
      seen_below = u.seen_below;
      pending_below = within_rest Reference n (stacked ps (top - 1)) both_below;
      pending_room = u.pending_room;
      numbers_are = u.numbers_are;
      labels_are = u.labels_are;
    }

    module _ (bare : get_or ns n 0 ≡ 0) where
      -- one that has none is not numbered, so there are fewer numbers than references
      unseen : among n u.seen ≡ false
      unseen = unnumbered u.seen n next_below (rw u.numbers_are at bare)

      distinct_then : Distinct (u.seen ++ (n ∷ []))
      distinct_then = distinct_more n u.seen unseen u.distinct

      below_then : Below (u.seen ++ (n ∷ []))
      below_then =
          within_append Reference u.seen (n ∷ []) u.seen_below (within_one Reference n next_below)

      count_below : count < reference_room
      count_below =
          omega (
            arith,
            distinct_below reference_room (u.seen ++ (n ∷ [])) distinct_then below_then,
            length-append u.seen (n ∷ []),
            u.counted,
          )

      pending_fits : top + 1 < side_words
      pending_fits = omega (arith, u.enough, u.most, count_below)

      -- so it has its word in each column, and there is room for where it leads
      pub turn_fits : (n < reference_room) × (count < reference_room) × (top + 1 < side_words)
      turn_fits = (next_below, count_below, pending_fits)

      -- another gets the next number, and where it leads is pending
      pub turn_numbers : (count' t t' : ℕ) (ns' ls' ps' ps'' : List ℕ) → Given ms ns ls n count count' ns' ls'
          → Pushed w ps (top - 1) (2 * n + 2) t ps' → Pushed w ps' t (2 * n + 1) t' ps''
          → Underway ms w ns' ls' ps'' t' count'
      unfolding on
      turn_numbers count' t t' ns' ls' ps' ps'' g p q =
          let t_most = pushed_most w ps (top - 1) (2 * n + 2) t ps' p in
          let room = pushed_room w ps (top - 1) (2 * n + 2) t ps' p u.pending_room in
          let t'-most = pushed_most w ps' t (2 * n + 1) t' ps'' q in
          let second = pushed_stack w ps (top - 1) (2 * n + 2) t ps' p
          (omega (arith, u.pending_room, pending_fits)) in
          let both = pushed_stack w ps' t (2 * n + 1) t' ps'' q (omega (arith, room, t_most, pending_fits)) in
          let stack : stacked ps'' t' ≡ on w n ++ stacked ps (top - 1) = both ∙ rw (second, ← append_assoc) in
          record {
            seen = u.seen ++ (n ∷ []);
            turns = u.turns - 1;
            whole = rw stack (turn false unseen);
            enough = omega (arith, u.enough, t_most, t'-most, counted_most, pending, g.0);
            most = omega (arith, u.most);
            counted = omega (arith, length-append u.seen (n ∷ []), u.counted, g.0);
            distinct = distinct_then;
            seen_below = below_then;
            pending_below = rw stack
                (within_append Reference (on w n) (stacked ps (top - 1))
                (within_append Reference (target (look side_words w (2 * n + 1)))
                (target (look side_words w (2 * n + 2))) (target_below (look side_words w (2 * n + 1))).0
                (target_below (look side_words w (2 * n + 2))).0)
                (within_rest Reference n (stacked ps (top - 1)) both_below));
            pending_room = pushed_room w ps' t (2 * n + 1) t' ps'' q room;
            numbers_are = rw (g.1.0, u.numbers_are) (next_number u.seen n count u.counted);
            labels_are = rw (g.1.1, u.labels_are, look_in reference_room ms n next_below)
                (next_label ms u.seen n count u.counted);
          }

-- at first reference 0 is pending, where it has a mark
pub first_many : (ms : List ℕ) (m : ℕ) → m ≡ at ms 0 → bool_byte (not (eqb m 0)) ≡ length (first ms)
unfolding first
first_many ms m mark = rw (← mark) (go (eqb m 0))
  where
    go : (b : Bool) → bool_byte (not b) ≡ length {A = ℕ} (choose b [] (0 ∷ []))
    go true = refl
    go false = refl

first_stack : (ms ps : List ℕ) → get_or ps 0 0 ≡ 0
    → (stacked ps (length (first ms)) ≡ first ms) × (length (first ms) ≤ 1) × Below (first ms)
unfolding first stacked
first_stack ms ps h = go (eqb (at ms 0) 0)
  where
    go : (b : Bool) → (stacked ps (length {A = ℕ} (choose b [] (0 ∷ []))) ≡ choose b [] (0 ∷ []))
        × (length {A = ℕ} (choose b [] (0 ∷ [])) ≤ 1) × Below (choose b [] (0 ∷ []))
    go true = (refl, omega arith, within_none Reference)
    go false = (rw h, omega arith, within_one Reference 0 (omega arith))

-- the walk begins with nothing numbered
pub walk_begins : (ms w : List ℕ) (top : ℕ) → top ≡ length (first ms)
    → Underway ms w (replicate reference_room 0) (replicate reference_room 0) (replicate side_words 0) top 0
unfolding walked numbers_from
walk_begins ms w top e =
    let blank = get_or-replicate {A = ℕ} side_words 0 0 0 (omega arith) in
    let (stack, few, below) = first_stack ms (replicate side_words 0) blank in
    rw e (record {
      seen = [];
      turns = side_words;
      whole = rw stack;
      enough = omega (arith, few);
      most = omega arith;
      counted = refl;
      distinct = tt;
      seen_below = within_none Reference;
      pending_below = rw stack below;
      pending_room = length-replicate {A = ℕ} side_words 0;
      numbers_are = refl;
      labels_are = refl;
    })
