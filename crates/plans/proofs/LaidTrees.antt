-- The turns of trees. Those of a tree put only words of the tree's own numbers, and not the word `around` of
-- its root, which the turn of the term above has put before. So a word stays once it is put, and by induction
-- over a tree's terms the words are those that a plan of the tree wants. Assumes nothing.
use Rattle.std.proofs.Common.{ℕ, zero, suc, ◌+◌, ◌*◌, ◌%◌, ◌≤◌, ◌<◌, ◌≡◌, refl, sym, ap, ◌∙◌, List, [], ◌∷◌}
use Rattle.std.proofs.Common.{◌++◌, arith, add-one, get_or}
use Rattle.std.proofs.Math.Option.{some}
use Rattle.std.proofs.Math.ListN.{get_elem?}
use Rattle.frames.specs.TableFrame.{term_room, definition_room, event_room}
use Rattle.kinds.specs.Kind as Kind
use Rattle.kinds.specs.Kind.{subterms}
use Rattle.terms.specs.Term.{Leaf, call, SKIP, STOP, leaf_kind, leaf_payload, Operator, internal, external}
use Rattle.terms.specs.Term.{sequence, parallel, operator_kind, Term, leaf, prefix, binary, size, starts}
use Rattle.terms.specs.Term.{Within}
use Rattle.terms.specs.words.Held.{HoldsTerm}
use Rattle.terms.proofs.Trees.{leaf_subterms, prefix_subterms, operator_subterms}
use Rattle.terms.proofs.Held.{size_some, holds_behind, Forest}
use Rattle.columns.specs.words.Columns.{look}
use Rattle.columns.proofs.Laws.{look_in}
use Rattle.places.proofs.Sides.{only, first, second}
use Rattle.plans.specs.words.Plan.{word, Layout, first_around, second_around, Leads, Planned}
use Rattle.plans.specs.code.Laid.{operand_of, second_of, through, inward, turns}
use Rattle.plans.proofs.Laws.{word_in}
use Rattle.plans.proofs.Laid.{operand_prefix, operand_call, second_two, second_none}
use Rattle.plans.proofs.LaidTurn.{at, laid_keeps, laid_kind, laid_operand, laid_second, first_told}
use Rattle.plans.proofs.LaidTurn.{second_told, turns_length}
use Rattle.plans.proofs.LaidPlaces.{Sited, sited_side, sited_below, Evented, evented_root}
use Rattle.plans.proofs.LaidPlaces.{evented_side}

-- word number p of a plan is none of those that the turns of n terms, from term i on, put
data Apart (i n p : ℕ) : Type 0 where
  before : p < 4 * i → Apart i n p
  itself : p ≡ 4 * i + 3 → Apart i n p
  behind : 4 * (i + n) ≤ p → Apart i n p

module _ (i n p : ℕ) where
  apart_own : (x : ℕ) → 0 < n → x < 3 → Apart i n p → p ≡ 4 * i + x → ⊥
  apart_own x any low (before h) e = omega arith
  apart_own x any low (itself h) e = omega arith
  apart_own x any low (behind h) e = omega arith

  apart_inside : (j : ℕ) → i < j → j < i + n → Apart i n p → p ≡ 4 * j + 3 → ⊥
  apart_inside j above inside (before h) e = omega arith
  apart_inside j above inside (itself h) e = omega arith
  apart_inside j above inside (behind h) e = omega arith

  apart_inward : (j m : ℕ) → i < j → j + m ≤ i + n → Apart i n p → Apart j m p
  apart_inward j m above inside (before h) = before (omega arith)
  apart_inward j m above inside (itself h) = before (omega arith)
  apart_inward j m above inside (behind h) = behind (omega arith)

-- what a subterm is told is what is around it
inward_around : (p : Operator) (i o : ℕ) → inward (operator_kind p) i o ≡ first_around p i o
unfolding inward through operator_kind first_around
inward_around internal i o = refl
inward_around external i o = refl
inward_around sequence i o = refl
inward_around (parallel x) i o = refl

through_around : (p : Operator) (o : ℕ) → through (operator_kind p) o ≡ second_around p o
unfolding through operator_kind second_around
through_around internal o = refl
through_around external o = refl
through_around sequence o = refl
through_around (parallel x) o = refl

prefix_inward : (i o : ℕ) → inward Kind.prefix i o ≡ o
unfolding inward through
prefix_inward i o = refl

module _ (ks ps xs rs : List ℕ) where
  -- the plan after n turns
  abbrev pub after : ℕ → List ℕ
  after n = turns n ks ps xs rs

  -- the columns hold a tree from number i on
  abbrev pub Tree : ℕ → Term → Type 0
  Tree i t = HoldsTerm ks ps xs i t × (i + size t ≤ term_room)

  -- the second subterm's number
  second_at : (i : ℕ) (o : Operator) (t u : Term) → Tree i (binary o t u)
      → (second_of (get_or ks i 0) i xs ≡ suc i + size t) × (get_or xs (suc i) 0 ≡ suc i + size t)
  unfolding size
  second_at i o t u h =
      let behind : get_or xs (suc i) 0 ≡ suc i + size t = holds_behind ks ps xs (suc i) t h.0.3 in
      let two : subterms (get_or ks i 0) ≡ 2 = ap subterms h.0.0 ∙ operator_subterms o in
      let more = size_some t in (
        sym (second_two (get_or ks i 0) i xs _ refl two) ∙ rw (add-one i)
            (sym (look_in term_room xs (suc i) (omega arith)) ∙ behind),
        behind,
      )

  -- a turn keeps what is apart from its tree
  turn_keeps : (t : Term) (i p : ℕ) → Tree i t → Apart i (size t) p → at (after (suc i)) p ≡ at (after i) p
  unfolding turns size
  turn_keeps (leaf l) i p h a =
      let none : subterms (get_or ks i 0) ≡ 0 = ap subterms h.0.0 ∙ leaf_subterms l in
      laid_keeps _ _ _ i (after i) p (λ x low. apart_own i 1 p x (omega arith) low a)
      (λ n e. omega arith) (λ n e. omega arith)
  turn_keeps (prefix e t) i p h a =
      let one : subterms (get_or ks i 0) ≡ 1 = ap subterms h.0.0 ∙ prefix_subterms in
      let more = size_some t in
      laid_keeps _ _ _ i (after i) p (λ x low. apart_own i _ p x (omega arith) low a)
      (λ n. apart_inside i _ p (suc i) (omega arith) (omega arith) a) (λ n e. omega arith)
  turn_keeps (binary o t u) i p h a =
      let next = (second_at i o t u h).0 in
      let more = size_some t in
      let most = size_some u in
      laid_keeps _ _ _ i (after i) p (λ x low. apart_own i _ p x (omega arith) low a)
      (λ n. apart_inside i _ p (suc i) (omega arith) (omega arith) a)
      (λ n. apart_inside i _ p _ (omega arith) (omega arith) a)

  -- the columns hold the subterms too
  tree_only : (i e : ℕ) (t : Term) → Tree i (prefix e t) → Tree (suc i) t
  unfolding size
  tree_only i e t h = (h.0.3, omega arith)

  module _ (i : ℕ) (o : Operator) (t u : Term) (h : Tree i (binary o t u)) where
    tree_first : Tree (suc i) t
    unfolding size
    tree_first = (h.0.3, omega arith)

    tree_second : Tree (suc i + size t) u
    unfolding size
    tree_second = (rw (second_at i o t u h).1 at h.0.4, omega arith)

  -- so do all turns of a tree
  tree_keeps : (t : Term) (i p : ℕ) → Tree i t → Apart i (size t) p
      → at (after (i + size t)) p ≡ at (after i) p
  unfolding size
  tree_keeps (leaf l) i p h a = rw (add-one i) (turn_keeps (leaf l) i p h a)
  tree_keeps (prefix e t) i p h a =
      let next : i + suc (size t) ≡ suc i + size t = omega arith in
      let a' = apart_inward i _ p (suc i) (size t) (omega arith) (omega arith) a in
      rw next (tree_keeps t (suc i) p (tree_only i e t h) a'
      ∙ turn_keeps (prefix e t) i p h a)
  tree_keeps (binary o t u) i p h a =
      let next : i + suc (size t + size u) ≡ suc i + size t + size u = omega arith in
      let a₁ = apart_inward i _ p (suc i) (size t) (omega arith) (omega arith) a in
      let a₂ = apart_inward i _ p (suc i + size t) (size u) (omega arith) (omega arith) a in
      rw next (tree_keeps u (suc i + size t) p (tree_second i o t u h) a₂
      ∙ tree_keeps t (suc i) p (tree_first i o t u h) a₁
      ∙ turn_keeps (binary o t u) i p h a)

  -- and those after its first turn what is in front of the second number
  rest_keeps : (t : Term) (i p : ℕ) → Tree i t → p < 4 * suc i
      → at (after (i + size t)) p ≡ at (after (suc i)) p
  unfolding size
  rest_keeps (leaf l) i p h a = rw (add-one i)
  rest_keeps (prefix e t) i p h a =
      let next : i + suc (size t) ≡ suc i + size t = omega arith in
      rw next (tree_keeps t (suc i) p (tree_only i e t h) (before a))
  rest_keeps (binary o t u) i p h a =
      let next : i + suc (size t + size u) ≡ suc i + size t + size u = omega arith in
      rw next (tree_keeps u (suc i + size t) p (tree_second i o t u h) (before (omega arith))
      ∙ tree_keeps t (suc i) p (tree_first i o t u h) (before a))

  -- what a turn tells its subterms, where o tells of its own term
  module _ (i o : ℕ) (around : at (after i) (4 * i + 3) ≡ o) where
    around_is : i < term_room → word 3 (after i) i ≡ o
    around_is room = sym (word_in 3 (after i) i room) ∙ around

    turn_first : 0 < subterms (get_or ks i 0) → (second_of (get_or ks i 0) i xs ≡ suc i → ⊥) → suc i < term_room
        → at (after (suc i)) (4 * suc i + 3) ≡ inward (get_or ks i 0) i o
    unfolding turns
    turn_first any away inside =
        first_told _ _ _ i (after i) (omega arith) (turns_length i ks ps xs rs) any away inside
        ∙ ap (inward (get_or ks i 0) i) (around_is (omega arith))

    turn_second : (m : ℕ) → m ≡ second_of (get_or ks i 0) i xs → 1 < subterms (get_or ks i 0) → i < m
        → m < term_room → at (after (suc i)) (4 * m + 3) ≡ through (get_or ks i 0) o
    unfolding turns
    turn_second m is more above inside =
        rw is (second_told _ _ _ i (after i) (omega arith) (turns_length i ks ps xs rs) more (omega arith)
        ∙ ap (through (get_or ks i 0)) (around_is (omega arith)))

  -- the turns from a tree's last to the n-th keep what the tree's have put
  abbrev pub Settled : ℕ → ℕ → ℕ → Type 0
  Settled n i k = (p : ℕ) → 4 * i ≤ p → p < 4 * (i + k) → at (after n) p ≡ at (after (i + k)) p

  -- the words of a term
  record Words (n i o : ℕ) : Type 0 where
    kind : word 0 (after n) i ≡ get_or ks i 0
    operand : word 1 (after n) i ≡ operand_of (get_or ks i 0) (get_or ps i 0) rs
    second_is : word 2 (after n) i ≡ second_of (get_or ks i 0) i xs
    around : word 3 (after n) i ≡ o

  words : (n o : ℕ) (t : Term) (i : ℕ) → Tree i t → at (after i) (4 * i + 3) ≡ o → Settled n i (size t)
      → Words n i o
  unfolding turns
  words n o t i h around kept =
      let any = size_some t in
      let room : i < 1024 = omega arith in
      let long = turns_length i ks ps xs rs in
      let put : (x : ℕ) → x < 4 → word x (after n) i ≡ at (after (suc i)) (4 * i + x) =
      λ x low. sym (word_in x (after n) i room) ∙ kept (4 * i + x) (omega arith) (omega arith)
      ∙ rest_keeps t i (4 * i + x) h (omega arith) in
      record {
        kind = put 0 (omega arith) ∙ laid_kind _ _ _ i (after i) room long;
        operand = put 1 (omega arith) ∙ laid_operand _ _ _ i (after i) room long;
        second_is = put 2 (omega arith) ∙ laid_second _ _ _ i (after i) room long;
        around = put 3 (omega arith) ∙ turn_keeps t i (4 * i + 3) h (itself refl) ∙ around;
      }

  -- a call's operand is the root that it leads to
  leads : (l : Layout) (w : List ℕ) (i : ℕ) (f : Leaf) → ((n : ℕ) → l.root n ≡ look definition_room rs n)
      → word 1 w i ≡ operand_of (leaf_kind f) (leaf_payload f) rs → Leads l w i f
  unfolding leaf_kind leaf_payload
  leads l w i (call n) led e = e ∙ sym (operand_call Kind.call n rs refl) ∙ sym (led n)
  leads l w i SKIP led e = tt
  leads l w i STOP led e = tt

  -- a tree is planned by the columns that hold it
  module _ (l : Layout) (led : (n : ℕ) → l.root n ≡ look definition_room rs n) (ds es : ℕ)
      (few : es ≤ event_room) (n : ℕ) where
    pub tree_planned : (t : Term) (i o d : ℕ) (w : List ℕ) → Tree i t → Within ds es t → Sited l i d w t
        → Evented l i t → at (after i) (4 * i + 3) ≡ o → Settled n i (size t) → Planned l (after n) ps i o t
    unfolding size
    tree_planned (leaf f) i o d w h within sited evented around kept =
        let own = words n o (leaf f) i h around kept in
        let is : operand_of (get_or ks i 0) (get_or ps i 0) rs ≡ operand_of (leaf_kind f) (leaf_payload f) rs =
        rw (h.0.0, h.0.1) in
        (own.kind ∙ h.0.0, own.around, leads l (after n) i f led (own.operand ∙ is))
    tree_planned (prefix e t) i o d w h within sited evented around kept =
        let own = words n o (prefix e t) i h around kept in
        let inner = tree_only i e t h in
        let any = size_some t in
        let one : subterms (get_or ks i 0) ≡ 1 = ap subterms h.0.0 ∙ prefix_subterms in
        let event : get_or ps i 0 % 65536 ≡ e = rw h.0.1 (omega arith) in
        let lone = second_none (get_or ks i 0) i xs _ refl (λ z. omega arith) in
        let told : at (after (suc i)) (4 * suc i + 3) ≡ o =
        turn_first i o around (omega arith) (λ z. omega arith) (omega arith)
        ∙ ap (λ (k : ℕ). inward k i o) h.0.0 ∙ prefix_inward i o in
        let next : i + suc (size t) ≡ suc i + size t = omega arith in (
          own.kind ∙ h.0.0,
          own.around,
          own.operand ∙ sym (operand_prefix (get_or ks i 0) (get_or ps i 0) rs h.0.0) ∙ event,
          omega arith,
          evented_root l i e t evented,
          rw add-one at (sited_below l i d w (only e t) sited),
          tree_planned t (suc i) o d (w ++ (2 ∷ [])) inner within.1
              (rw add-one at (sited_side l i d w (only e t) sited))
              (rw add-one at (evented_side l i (only e t) evented)) told
              (λ p from to. rw next at (kept p (omega arith) (omega arith))),
        )
    tree_planned (binary q t u) i o d w h within sited evented around kept =
        let own = words n o (binary q t u) i h around kept in
        let any = size_some t in
        let more = size_some u in
        let m : ℕ = suc i + size t in
        let two : subterms (get_or ks i 0) ≡ 2 = ap subterms h.0.0 ∙ operator_subterms q in
        let is_second : second_of (get_or ks i 0) i xs ≡ m = (second_at i q t u h).0 in
        let is : word 2 (after n) i ≡ m = own.second_is ∙ is_second in
        let told : at (after (suc i)) (4 * suc i + 3) ≡ first_around q i o =
        turn_first i o around (omega arith) (λ z. omega arith) (omega arith)
        ∙ ap (λ (k : ℕ). inward k i o) h.0.0 ∙ inward_around q i o in
        let told_second : at (after m) (4 * m + 3) ≡ second_around q o =
        tree_keeps t (suc i) (4 * m + 3) (tree_first i q t u h) (behind (omega arith))
        ∙ turn_second i o around m (sym is_second) (omega arith) (omega arith) (omega arith)
        ∙ ap (λ (k : ℕ). through k o) h.0.0 ∙ through_around q o in
        let next : i + suc (size t + size u) ≡ m + size u = omega arith in
        let there : i + (1 + size t) ≡ m = omega arith in (
          own.kind ∙ h.0.0,
          own.around,
          h.0.1,
          rw add-one at (sited_below l i d w (first q t u) sited),
          rw is (rw there at (sited_below l i d w (second q t u) sited)),
          tree_planned t (suc i) (first_around q i o) d (w ++ (1 ∷ [])) (tree_first i q t u h) within.1.0
              (rw add-one at (sited_side l i d w (first q t u) sited))
              (rw add-one at (evented_side l i (first q t u) evented)) told
              (λ p from to. (rw next at (kept p (omega arith) (omega arith)))
              ∙ tree_keeps u m p (tree_second i q t u h) (before to)),
          rw is (tree_planned u m (second_around q o) d (w ++ (2 ∷ [])) (tree_second i q t u h) within.1.1
              (rw there at (sited_side l i d w (second q t u) sited))
              (rw there at (evented_side l i (second q t u) evented)) told_second
              (λ p from to. rw next at (kept p (omega arith) (omega arith)))),
          is,
        )

  -- definitions one behind the other
  forest_within : (ts : List Term) (i n : ℕ) → Forest ks ps xs i ts n → i ≤ n
  forest_within [] i n h = omega arith
  forest_within (t ∷ ts) i n h = omega (arith, forest_within ts (i + size t) n h.1)

  forest_keeps : (ts : List Term) (i n p : ℕ) → Forest ks ps xs i ts n → n ≤ term_room → p < 4 * i
      → at (after n) p ≡ at (after i) p
  forest_keeps [] i n p h room before_i = rw h
  forest_keeps (t ∷ ts) i n p h room before_i =
      let fits = forest_within ts (i + size t) n h.1 in
      forest_keeps ts (i + size t) n p h.1 room (omega arith)
      ∙ tree_keeps t i p (h.0, omega arith) (before before_i)

  -- when a definition's turns begin nothing is around its root, and when they end its words stay
  pub forest_at : (ts : List Term) (i n k : ℕ) (t : Term) → get_elem? ts k ≡ some t → Forest ks ps xs i ts n
      → n ≤ term_room → ((p : ℕ) → 4 * i ≤ p → p < 4096 → at (after i) p ≡ 0)
      → (at (after (get_or (starts i ts) k 0)) (4 * get_or (starts i ts) k 0 + 3) ≡ 0)
      × Settled n (get_or (starts i ts) k 0) (size t)
  unfolding starts
  forest_at [] i n k t e h room zeros = let z : ◌≡◌ {A = ℕ} 0 1 = cc in absurd (omega arith)
  forest_at (u ∷ ts) i n zero t e h room zeros =
      let fits = forest_within ts (i + size u) n h.1 in
      let any = size_some u in
      let same : u ≡ t = cc in
      let stays : Settled n i (size u) = λ p from to. forest_keeps ts (i + size u) n p h.1 room to in
      (zeros (4 * i + 3) (omega arith) (omega arith), rw same at stays)
  forest_at (u ∷ ts) i n (suc k) t e h room zeros =
      let fits = forest_within ts (i + size u) n h.1 in
      forest_at ts (i + size u) n k t e h.1 room
      (λ p from to. tree_keeps u i p (h.0, omega arith) (behind from) ∙ zeros p (omega arith) to)
