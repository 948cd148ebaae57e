-- A term that no step has touched weighs what the report's step of it is, with the sequences around it. By
-- induction over the term: a sequence goes to its left with one more around it, a split to its sides with none.
-- It has at most as many levels as are gone down to. Assumes nothing.
use Rattle.std.proofs.Common.{ℕ, zero, suc, ◌+◌, ◌*◌, ◌-◌, ◌≤◌, ◌<◌, ◌%◌, max, ◌≡◌, refl, sym, ap, ◌∙◌, Bool, true}
use Rattle.std.proofs.Common.{false, List, [], ◌∷◌, arith, length, length-append, get_or, ltb, ltb-true, lt-ltb}
use Rattle.std.proofs.Common.{ne_eqb}
use Rattle.std.proofs.Math.Option.{Option, none, some}
use Rattle.std.proofs.Math.ListN.{get_elem?}
use Rattle.lines.specs.Line.{choose}
use Rattle.frames.specs.TableFrame.{term_room, path_room}
use Rattle.places.specs.Place.{Place}
use Rattle.terms.specs.Term.{Leaf, call, SKIP, STOP, internal, external, sequence, parallel, Term, leaf}
use Rattle.terms.specs.Term.{prefix, binary, leaf_kind, operator_kind, operator_payload}
use Rattle.rules.specs.declared.Event.{Event}
use Rattle.rules.specs.declared.Event.TheVariants.{Tau as τ, Tick as ✓, Visible as visible}
use Rattle.rules.specs.Process.{one, two, three, four, Address, Split, choice, together, Process, split}
use Rattle.rules.specs.Process.{cells, below, joined, untouched, right_side, rhs, Ω, ⊥'}
use Rattle.rules.specs.Track.{At, Outcome, labelled, prefixed, first_eval, inside, beside}
use Rattle.rules.specs.Step.{stepped, at_Ω, step}
use Rattle.plans.specs.words.Plan.{Layout, word, kind, second, around, first_around, second_around, Planned}
use Rattle.control.specs.words.Control.{split_kind, split_set}
use Rattle.control.specs.words.Sums.{capped}
use Rattle.weights.specs.code.Rules as Rules
use Rattle.weights.specs.code.Rules.{settled, resized, entering, by_leaf}
use Rattle.looking.specs.code.Looking.{digit_at, is_split, is_side, taken, is_within, set_of}
use Rattle.weighing.specs.code.Weigh.{by_digit, of_term}
use Rattle.std.specs.Prelude.{None}
use Rattle.control.proofs.Capped.{capped_small}
use Rattle.weighing.proofs.Told.{number, From, weight, weight_of, wrapped, Single, some_behind}
use Rattle.weighing.proofs.Told.{weight_none, τ-goes-on, visible_goes_on, weight_inside, weight_on}
use Rattle.weighing.proofs.Told.{weight_settled, digit_none, next_at, from_at, from_left}
use Rattle.control.proofs.Chains.{Awaiting as Behind}
use Rattle.weighing.proofs.SideTold.{in_front, entered_now, by_first, by_second, by_both}
use Rattle.columns.specs.words.Columns.{look}

-- the levels of a term: a prefix hides what is below it
unfoldable pub levels : Term → ℕ
levels (leaf f) = 1
levels (prefix e t) = 1
levels (binary o t u) = suc (max (levels t) (levels u))

pub levels_some : (t : Term) → 1 ≤ levels t
unfolding levels
levels_some (leaf f) = omega arith
levels_some (prefix e t) = omega arith
levels_some (binary o t u) = omega arith

-- so has a term of a plan, where no place of the layout has a path of more digits
below_length : (w : Place) (d : ℕ) → length (below w d).path ≡ suc (length w.path)
below_length w d = length-append w.path (d ∷ []) ∙ omega arith

module _ (l : Layout) (p x : List ℕ) (short : (i : ℕ) → length (l.place i).path ≤ path_room) where
  planned_from : (t : Term) (i o : ℕ) → Planned l p x i o t → length (l.place i).path + levels t ≤ 65
  unfolding levels
  planned_from (leaf f) i o pl = omega (arith, short i)
  planned_from (prefix e t) i o pl = omega (arith, short i)
  planned_from (binary b t u) i o pl =
      let first = ap (λ w. length w.path) pl.3 ∙ below_length (l.place i) 1 in
      let other = ap (λ w. length w.path) pl.4 ∙ below_length (l.place i) 2 in
      let h = planned_from t (suc i) (first_around b i o) pl.5 in
      let k = planned_from u (second p i) (second_around b o) pl.6 in
      omega arith

  pub planned_levels : (i o : ℕ) (t : Term) → Planned l p x i o t → levels t ≤ 66
  planned_levels i o t pl = let h = planned_from t i o pl in omega arith

-- a term that no step has touched is one cell
pub untouched_cells : (w : Place) (t : Term) → cells (untouched w t) ≡ 1
unfolding untouched cells joined
untouched_cells w (leaf f) = refl
untouched_cells w (prefix e t) = refl
untouched_cells w (binary internal t u) = refl
untouched_cells w (binary external t u) = refl
untouched_cells w (binary sequence t u) = refl
untouched_cells w (binary (parallel x) t u) = refl

-- and has not ended
pub untouched_on : (v : Place) (t : Term) → at_Ω (untouched v t) ≡ false
unfolding untouched joined at_Ω
untouched_on v (leaf f) = refl
untouched_on v (prefix e t) = refl
untouched_on v (binary internal t u) = refl
untouched_on v (binary external t u) = refl
untouched_on v (binary sequence t u) = refl
untouched_on v (binary (parallel y) t u) = refl

-- a definition's right-hand side is one cell
pub rhs_cells : (n : ℕ) (t : Option Term) → cells (right_side n t) ≡ 1
unfolding right_side cells
rhs_cells n none = refl
rhs_cells n (some t) = untouched_cells (record { definition = n; path = [] }) t

-- a term's number
pub kind_room : (p : List ℕ) (i : ℕ) → 1 ≤ kind p i → i < 1024
unfolding word
kind_room p i h = go (ltb i term_room) refl h
  where
    go : (b : Bool) → ltb i term_room ≡ b → 1 ≤ choose b (get_or p (4 * i + 0) 0) 0 → i < 1024
    go true e k = ltb-true i 1024 e
    go false e k = absurd (omega arith)

pub next_term : (p : List ℕ) (i : ℕ) → 1 ≤ kind p i → capped (i + 1) ≡ suc i
next_term p i h =
    let k = kind_room p i h in
    let e : i + 1 ≡ suc i = omega arith in
    capped_small (i + 1) (omega arith) ∙ e

pub set_in : (p x : List ℕ) (i : ℕ) → 1 ≤ kind p i → set_of x i ≡ get_or x i 0
unfolding look
set_in p x i h = rw (lt-ltb i term_room (kind_room p i h))

-- a split's kind is one
pub split_some : (p : List ℕ) (k : Split) (i : ℕ) → kind p i ≡ split_kind k → 1 ≤ kind p i
unfolding split_kind
split_some p choice i e = omega arith
split_some p (together y) i e = omega arith

-- a sequence is around, where the plan tells of one
within_some : (nested : Bool) (i : ℕ) → is_within nested (suc i) ≡ true
unfolding is_within
within_some true i = refl
within_some false i = rw (ne_eqb (suc i) 0 (λ h. omega arith))

-- a step that labels and draws, with the sequences around it
module _ (ds : List ℕ) (count at size : ℕ) (qs : List Behind) (a : Address) (f : From ds count at a)
    (fits : size ≡ suc (length qs)) (few : size ≤ 65535) where
  step_weight : (e : Event) (r : Outcome) (n m : ℕ) → cells r.process ≡ 1 → length r.labels ≡ n
      → length r.arcs ≡ n → length r.meetings ≡ 0 → length r.met ≡ m → n ≤ 65535 → m ≤ 65535
      → weight_inside count qs e r a ≡ Rules.step e at size n m
  unfolding Rules.step weight resized
  step_weight e r n m c labels arcs meetings met small_n small_m =
      let whole : length qs + 1 ≡ size = omega arith in
      rw (
        c,
        whole,
        from_at ds count at a f,
        labels,
        arcs,
        meetings,
        met,
        capped_small size few,
        capped_small n small_n,
        capped_small m small_m,
        capped_small 0 (omega arith),
      )

  leaf_weight : (v : Event) (P : Process) (w : Place) (s : At) → cells P ≡ 1
      → weight_inside count qs v (labelled v P w s) a ≡ Rules.step v at size 1 0
  unfolding labelled
  leaf_weight v P w s c =
      step_weight v (labelled v P w s) 1 0 c refl refl refl refl (omega arith) (omega arith)

  -- one that ends starts the innermost right
  leaf_settled : Single qs → (v : Event) (P : Process) (w : Place) (s : At) → cells P ≡ 1
      → settled (Rules.step v at size 1 0) (some_behind qs)
      ≡ weight_of count (wrapped qs (stepped (labelled v P w s) a))
  unfolding labelled
  leaf_settled u v P w s c =
      ap (λ z. settled z (some_behind qs)) (sym (leaf_weight v P w s c))
      ∙ sym (weight_settled count qs (labelled v P w s) a (λ h. c) u (omega arith))

  leaf_on : (P : Process) (w : Place) (s : At) → cells P ≡ 1
      → Rules.step τ at size 1 0 ≡ weight_of count (wrapped qs (stepped (labelled τ P w s) a))
  unfolding labelled
  leaf_on P w s c = sym (weight_on count qs (labelled τ P w s) a τ-goes-on ∙ leaf_weight τ P w s c)

  prefix_on : (k : ℕ) (P : Process) (w : Place) (s : At) → cells P ≡ 1
      → Rules.step (visible k) at size 2 1 ≡ weight_of count (wrapped qs (stepped (prefixed k P w s) a))
  unfolding prefixed
  prefix_on k P w s c =
      sym (weight_on count qs (prefixed k P w s) a (visible_goes_on k)
      ∙ step_weight (visible k) (prefixed k P w s) 2 1 c refl refl refl refl (omega arith) (omega arith))

module _ (ts : List Term) (l : Layout) (p x : List ℕ) (count : ℕ) (ds : List ℕ) where
  -- a term's weight is that of its step
  abbrev pub TellsTerm : Term → ℕ → Type 0
  TellsTerm t left =
      (i o : ℕ) (nested : Bool) (at size : ℕ) (qs : List Behind) (a : Address) (s : At)
      → Planned l p x i o t → From ds count at a → levels t ≤ left → Single qs
      → is_within nested o ≡ some_behind qs → size ≡ suc (length qs) → size + 2 * left ≤ 65535
      → of_term p x count ds left i nested at size
      ≡ weight_of count (wrapped qs (step ts (untouched (l.place i) t) s a))

  nothing_left : (t : Term) → TellsTerm t zero
  nothing_left t i o nested at size qs a s pl f lv = absurd (omega (arith, levels_some t))

  leaf_told : (f : Leaf) (left : ℕ) → TellsTerm (leaf f) (suc left)
  unfolding of_term leaf_kind is_split by_leaf untouched step cells
  leaf_told (call n) left i o nested at size qs a s pl f lv u w e few =
      rw pl.0
      (leaf_on ds count at size qs a f e (omega arith) (rhs ts n) (l.place i) s (rhs_cells n (get_elem? ts n)))
  leaf_told SKIP left i o nested at size qs a s pl f lv u w e few =
      rw (pl.0, pl.1, w) (leaf_settled ds count at size qs a f e (omega arith) u ✓ Ω (l.place i) s refl)
  leaf_told STOP left i o nested at size qs a s pl f lv u w e few =
      rw pl.0 (leaf_on ds count at size qs a f e (omega arith) ⊥' (l.place i) s refl)

  prefix_told : (k : ℕ) (t : Term) (left : ℕ) → TellsTerm (prefix k t) (suc left)
  unfolding of_term is_split by_leaf untouched step
  prefix_told k t left i o nested at size qs a s pl f lv u w e few =
      let small : k < 64 = pl.3 in
      let kept : k % 256 ≡ k = omega arith in
      rw (pl.0, pl.2, kept)
      (prefix_on ds count at size qs a f e (omega arith) k _ (l.place i) s
      (untouched_cells (below (l.place i) 2) t))

  -- an internal choice goes to the side that a digit names
  internal_told : (t v : Term) (left : ℕ) → TellsTerm (binary internal t v) (suc left)
  unfolding of_term operator_kind is_split by_leaf untouched joined step number
  internal_told t v left i o nested at size qs [] s pl f lv u w e few =
      rw (pl.0, digit_none ds count at f) (weight_none count qs)
  internal_told t v left i o nested at size qs (one ∷ a) s pl f lv u w e few =
      rw (pl.0, f.0, next_at ds count at one f.0)
      (leaf_on ds count (suc at) size qs a f.1 e (omega arith) _ (l.place i) s
      (untouched_cells (below (l.place i) 1) t))
  internal_told t v left i o nested at size qs (two ∷ a) s pl f lv u w e few =
      rw (pl.0, f.0, next_at ds count at two f.0)
      (leaf_on ds count (suc at) size qs a f.1 e (omega arith) _ (l.place i) s
      (untouched_cells (below (l.place i) 2) v))
  internal_told t v left i o nested at size qs (three ∷ a) s pl f lv u w e few =
      rw (pl.0, f.0) (weight_none count qs)
  internal_told t v left i o nested at size qs (four ∷ a) s pl f lv u w e few =
      rw (pl.0, f.0) (weight_none count qs)

  -- a sequence goes to its left, with itself around it
  sequence_told : (t v : Term) (left : ℕ) → TellsTerm t left → TellsTerm (binary sequence t v) (suc left)
  unfolding of_term operator_kind untouched joined step first_around wrapped levels some_behind
  sequence_told t v left ih i o nested at size qs a s pl f lv u w e few =
      let known : 1 ≤ kind p i = rw pl.0 (omega arith) in
      let deeper : size + 1 ≡ suc size = omega arith in
      let q : Behind = record { place = l.place i; right = untouched (below (l.place i) 2) v } in
      rw (pl.0, next_term p i known, capped_small (size + 1) (omega arith), deeper)
      (rw pl.3 at (ih (suc i) (suc i) nested at (suc size) (q ∷ qs) a s pl.5 f (omega arith)
      (untouched_cells (below (l.place i) 2) v, u) (within_some nested i) (omega arith) (omega arith)))

  -- a side of a split, with no sequence around it
  abbrev pub Alone : ℕ → ℕ → Process → Type 0
  Alone left j P =
      (at : ℕ) (a : Address) (s : At) → From ds count at a
      → of_term p x count ds left j false at 1 ≡ weight_of count (step ts P s a)

  pub alone : (t : Term) (left : ℕ) → TellsTerm t left → (j : ℕ) (v : Place) → l.place j ≡ v → Planned l p x j 0 t
      → levels t ≤ left → 1 + 2 * left ≤ 65535 → Alone left j (untouched v t)
  unfolding wrapped is_within some_behind
  alone t left ih j v e pl lv few at a s f = rw e at (ih j 0 false at 1 [] a s pl f lv tt refl refl few)

  -- the first of two sides that is entered, and the other
  entered_first : (left j : ℕ) (P : Process) → Alone left j P → (v : Place) (at : ℕ) (a : Address) (s : At)
      → From ds count at a
      → entering (of_term p x count ds left j false at 1) 1
      ≡ weight_of count (in_front (first_eval none none v s) (step ts P (inside (first_eval none none v s) s) a))
  unfolding first_eval
  entered_first left j P tells v at a s f =
      ap (λ w. entering w 1) (tells at a (inside (first_eval none none v s) s) f)
      ∙ entered_now count (first_eval none none v s) 1 refl refl _

  pub entered_other : (left j : ℕ) (P : Process) → Alone left j P → (o : ℕ) (v : Place) (at : ℕ) (a : Address)
      (s : At) → From ds count at a
      → entering (of_term p x count ds left j false at 1) 0
      ≡ weight_of count (in_front (first_eval none (some o) v s)
      (step ts P (inside (first_eval none (some o) v s) s) a))
  unfolding first_eval
  entered_other left j P tells o v at a s f =
      ap (λ w. entering w 0) (tells at a (inside (first_eval none (some o) v s) s) f)
      ∙ entered_now count (first_eval none (some o) v s) 0 refl refl _

  -- a split whose left has not ended does not end
  ended_not : (k : Split) (v : Place) (m n : Option ℕ) (P Q : Process) (s : At) (a : Address) → at_Ω P ≡ false
      → step ts (split v k m n P Q) s (four ∷ a) ≡ none
  unfolding step
  ended_not choice v m n P Q s a e = refl
  ended_not (together y) v m n P Q s a e = rw e

  -- what is gone to at a split
  opens : (k : Split) (left i : ℕ) (nested : Bool) (at size : ℕ) → kind p i ≡ split_kind k
      → of_term p x count ds (suc left) i nested at size
      ≡ by_digit p x count ds (digit_at ds count at) i
      (entering (of_term p x count ds left (taken (digit_at ds count at) (capped (i + 1)) (second p i)) false
      (capped (at + 1)) 1) 1)
      (λ from. entering (of_term p x count ds left (second p i) false from 1) 0)
      (capped (size + 2)) 1 1 (is_within nested (around p i))
  unfolding of_term split_kind is_split
  opens choice left i nested at size e = rw e
  opens (together y) left i nested at size e = rw e

  -- a split that no step has touched, where the weights of its sides are those of their steps
  module _ (k : Split) (left i : ℕ) (kind_is : kind p i ≡ split_kind k) (set_is : set_of x i ≡ split_set k)
      (known : 1 ≤ kind p i) (v : Place) (P Q : Process) (here : cells P ≡ 1) (there : cells Q ≡ 1)
      (goes_on : at_Ω P ≡ false) (first : Alone left (suc i) P) (other : Alone left (second p i) Q) where
    whole : (size : ℕ) (qs : List Behind) → size ≡ suc (length qs) → size + 2 ≤ 65535
        → capped (size + 2) ≡ length qs + (1 + (cells P + cells Q))
    whole size qs e few = capped_small (size + 2) few ∙ omega arith

    split_told : (nested : Bool) (at size : ℕ) (qs : List Behind) (a : Address) (s : At) → From ds count at a
        → Single qs → is_within nested (around p i) ≡ some_behind qs → size ≡ suc (length qs) → size + 2 ≤ 65535
        → of_term p x count ds (suc left) i nested at size
        ≡ weight_of count (wrapped qs (step ts (split v k none none P Q) s a))
    unfolding taken number by_digit is_side step
    split_told nested at size qs [] s f u w e few =
        rw (opens k left i nested at size kind_is, digit_none ds count at f) (weight_none count qs)
    split_told nested at size qs (one ∷ a) s f u w e few =
        rw (opens k left i nested at size kind_is, f.0, next_at ds count at one f.0, next_term p i known, w)
        (rw (here, there) at (by_first p x count ds ts i v none none P Q s qs u (omega arith)
        (capped (size + 2)) (whole size qs e few) k kind_is set_is a _ (λ from. None)
        (entered_first left (suc i) P first v (suc at) a s f.1)))
    split_told nested at size qs (two ∷ a) s f u w e few =
        rw (opens k left i nested at size kind_is, f.0, next_at ds count at two f.0, w)
        (rw (here, there) at (by_second p x count ds ts i v none none P Q s qs u (omega arith)
        (capped (size + 2)) (whole size qs e few) k kind_is set_is a _ (λ from. None)
        (entered_first left (second p i) Q other v (suc at) a s f.1)))
    split_told nested at size qs (three ∷ a) s f u w e few =
        rw (opens k left i nested at size kind_is, f.0, next_at ds count at three f.0, next_term p i known)
        (rw (here, there) at (by_both p x count ds ts i v none none P Q s qs u (omega arith)
        (capped (size + 2)) (whole size qs e few) k kind_is set_is a _
        (λ from. entering (of_term p x count ds left (second p i) false from 1) 0)
        (entered_first left (suc i) P first v (suc at) a s f.1)
        (λ r h. entered_other left (second p i) Q other (first_eval none none v s).reference v
        (count - length r.unused) r.unused (beside s (first_eval none none v s) r.outcome)
        (from_left ds count ts (suc at) P _ a r h f.1))))
    split_told nested at size qs (four ∷ a) s f u w e few =
        rw (opens k left i nested at size kind_is, f.0, ended_not k v none none P Q s a goes_on)
        (weight_none count qs)

  -- the terms of a split's sides
  sides_told : (k : Split) (t v : Term) (left : ℕ) → TellsTerm t left → TellsTerm v left
      → (i o : ℕ) (nested : Bool) (at size : ℕ) (qs : List Behind) (a : Address) (s : At)
      → kind p i ≡ split_kind k → around p i ≡ o → get_or x i 0 ≡ split_set k → l.place (suc i) ≡ below (l.place i) 1
      → l.place (second p i) ≡ below (l.place i) 2 → Planned l p x (suc i) 0 t → Planned l p x (second p i) 0 v
      → From ds count at a → levels t ≤ left → levels v ≤ left → Single qs → is_within nested o ≡ some_behind qs
      → size ≡ suc (length qs) → size + 2 * suc left ≤ 65535
      → of_term p x count ds (suc left) i nested at size
      ≡ weight_of count (wrapped qs (step ts
      (split (l.place i) k none none (untouched (below (l.place i) 1) t) (untouched (below (l.place i) 2) v))
      s a))
  sides_told k t v left ht hv i o nested at size qs a s kind_is in_o set_is here there pt pv f lt lv u w e few =
      let known = split_some p k i kind_is in
      split_told k left i kind_is (set_in p x i known ∙ set_is) known (l.place i) _ _
      (untouched_cells (below (l.place i) 1) t) (untouched_cells (below (l.place i) 2) v)
      (untouched_on (below (l.place i) 1) t) (alone t left ht (suc i) _ here pt lt (omega arith))
      (alone v left hv (second p i) _ there pv lv (omega arith)) nested at size qs a s f u (rw in_o w) e
      (omega arith)

  -- a term that no step has touched weighs what its step is
  pub term_told : (t : Term) (left : ℕ) → TellsTerm t left
  unfolding
      untouched joined levels operator_kind operator_payload split_kind split_set first_around second_around
  term_told (leaf f) zero = nothing_left (leaf f)
  term_told (leaf f) (suc left) = leaf_told f left
  term_told (prefix e t) zero = nothing_left (prefix e t)
  term_told (prefix e t) (suc left) = prefix_told e t left
  term_told (binary o t v) zero = nothing_left (binary o t v)
  term_told (binary internal t v) (suc left) = internal_told t v left
  term_told (binary sequence t v) (suc left) = sequence_told t v left (term_told t left)
  term_told (binary external t v) (suc left) = λ i o nested at size qs a s pl f lv u w e few.
      sides_told choice t v left (term_told t left) (term_told v left) i o nested at size qs a s pl.0 pl.1
      pl.2 pl.3 pl.4 pl.5 pl.6 f (omega arith) (omega arith) u w e few
  term_told (binary (parallel y) t v) (suc left) = λ i o nested at size qs a s pl f lv u w e few.
      sides_told (together y) t v left (term_told t left) (term_told v left) i o nested at size qs a s pl.0
      pl.1 pl.2 pl.3 pl.4 pl.5 pl.6 f (omega arith) (omega arith) u w e few
