-- What stands at a reference weighs what the report's step of it is, with the sequences around it. By induction
-- over the process that the words hold there: an untouched term by `term_told`, an entered choice or parallel by
-- its sides. For two ended sides the words tell the run's arcs, and the arcs of the step so far lead elsewhere.
-- Assumes nothing.
use Rattle.std.proofs.Common.{ℕ, zero, suc, ◌+◌, ◌-◌, ◌≤◌, ◌<◌, max, ◌≡◌, refl, sym, ap, subst, ◌∙◌, Bool, true}
use Rattle.std.proofs.Common.{false, ◌&&◌, ◌||◌, not, List, [], ◌∷◌, arith, length, eqb, eq-eqb, ne_eqb, eqb-true}
use Rattle.std.proofs.Math.Option.{Option, none, some}
use Rattle.lines.specs.Line.{choose}
use Rattle.places.specs.Place.{Place}
use Rattle.terms.specs.Term.{Term}
use Rattle.rules.specs.Process.{one, two, three, four, Address, Split, choice, together, Process, leaf}
use Rattle.rules.specs.Process.{prefix, internal, split, sequence, Ω, ⊥', cells}
use Rattle.rules.specs.Track.{Pair, At, first_eval, inside, beside, parents, ended}
use Rattle.rules.specs.Step.{stepped, at_Ω, step}
use Rattle.rules.proofs.Offered.{is_Ω}
use Rattle.plans.specs.words.Plan.{Layout, kind, second, around, Planned}
use Rattle.control.specs.words.Words.{node}
use Rattle.control.specs.words.Control as Control
use Rattle.control.specs.words.Control.{state, term, frame, at_end, Around, split_kind, Untouched, Rests}
use Rattle.control.specs.words.Control.{Splits, HoldsControl}
use Rattle.control.specs.words.Sums.{capped}
use Rattle.weights.specs.code.Rules as Rules
use Rattle.weights.specs.code.Rules.{resized}
use Rattle.looking.specs.code.Looking as Looking
use Rattle.looking.specs.code.Looking.{is_side, taken, is_within}
use Rattle.weighing.specs.code.Ending.{weigh_end}
use Rattle.weighing.specs.code.Weigh.{by_digit, at_reference}
use Rattle.std.specs.Prelude.{None}
use Rattle.control.proofs.Capped.{capped_small}
use Rattle.weighing.proofs.Told.{number, From, weight, weight_of, wrapped, Single, some_behind}
use Rattle.weighing.proofs.Told.{weight_none, weight_settled, digit_none, next_at, from_at, from_left}
use Rattle.control.proofs.Chains.{Awaiting as Behind, TellsBehind as Behinds}
use Rattle.weighing.proofs.SideTold.{in_front, entered_before, by_first, by_second, by_both}
use Rattle.weighing.proofs.TermTold.{levels, untouched_cells, untouched_on, next_term, set_in}
use Rattle.weighing.proofs.TermTold.{split_some, alone, entered_other, term_told}
use Rattle.weighing.proofs.Since.{Below, Since, since_inside, since_beside, since_start, parents_since}
use Rattle.weighing.proofs.Since.{counted_few}

-- how deep a process is gone into: an entered split, and its sides
unfoldable pub deep : Process → ℕ
deep (leaf v f) = 1
deep (prefix v e P) = 1
deep (internal v P Q) = 1
deep (split v k none none P Q) = 1
deep (split v k none (some n) P Q) = suc (max (deep P) (deep Q))
deep (split v k (some m) n P Q) = suc (max (deep P) (deep Q))
deep (sequence v false P Q) = 1
deep (sequence v true P Q) = deep P
deep Ω = 1
deep ⊥' = 1

deep_some : (P : Process) → 1 ≤ deep P
unfolding deep
deep_some (leaf v f) = omega arith
deep_some (prefix v e P) = omega arith
deep_some (internal v P Q) = omega arith
deep_some (split v k none none P Q) = omega arith
deep_some (split v k none (some n) P Q) = omega arith
deep_some (split v k (some m) n P Q) = omega arith
deep_some (sequence v false P Q) = omega arith
deep_some (sequence v true P Q) = deep_some P
deep_some Ω = omega arith
deep_some ⊥' = omega arith

-- no deeper than its cells are many
pub deep_cells : (P : Process) → deep P ≤ cells P
unfolding deep cells
deep_cells (leaf v f) = omega arith
deep_cells (prefix v e P) = omega arith
deep_cells (internal v P Q) = omega arith
deep_cells (split v k none none P Q) = omega arith
deep_cells (split v k none (some n) P Q) = omega (arith, deep_cells P, deep_cells Q)
deep_cells (split v k (some m) n P Q) = omega (arith, deep_cells P, deep_cells Q)
deep_cells (sequence v false P Q) = omega arith
deep_cells (sequence v true P Q) = omega (arith, deep_cells P)
deep_cells Ω = omega arith
deep_cells ⊥' = omega arith

-- the frame that ends the sequences of a split's sides
inside_is : (p : List ℕ) (k : Split) (t n f : ℕ) → kind p t ≡ split_kind k
    → Control.inside p k t n f ≡ Looking.inside p (kind p t) t n f
unfolding Control.inside Looking.inside split_kind
inside_is p choice t n f e = rw e
inside_is p (together y) t n f e = rw e

ended_cells : (P : Process) → at_Ω P ≡ true → cells P ≡ 1
unfolding cells
ended_cells P e = rw (is_Ω P e)

and-false : (z : Bool) → z && false ≡ false
and-false true = refl
and-false false = refl

and-true : (z : Bool) → z && true ≡ z
and-true true = refl
and-true false = refl

-- no sequence is around
is_bare : List ℕ → Bool
is_bare [] = true
is_bare (k ∷ ks) = false

-- a reference that is of is not 0
nonzero : (n b : ℕ) → b < n → eqb n 0 ≡ false
nonzero n b h = ne_eqb n 0 (λ e. omega arith)

module _ (l : Layout) (p x w : List ℕ) where
  behinds_length : (ks : List ℕ) (qs : List Behind) → Behinds l p x w ks qs → length ks ≡ length qs
  behinds_length [] [] h = refl
  behinds_length [] (q ∷ qs) h = absurd h
  behinds_length (k ∷ ks) [] h = absurd h
  behinds_length (k ∷ ks) (q ∷ qs) h = ap suc (behinds_length ks qs h.1)

  behinds_single : (ks : List ℕ) (qs : List Behind) → Behinds l p x w ks qs → Single qs
  behinds_single [] [] h = tt
  behinds_single [] (q ∷ qs) h = absurd h
  behinds_single (k ∷ ks) [] h = absurd h
  behinds_single (k ∷ ks) (q ∷ qs) h =
      let r = h.0.right in
      (rw r.is (untouched_cells (l.place (second p k)) r.tree), behinds_single ks qs h.1)

  -- a sequence is around where the words tell of one
  behinds_within : (ks : List ℕ) (qs : List Behind) (t f b : ℕ) → Behinds l p x w ks qs → Around p w t f b ks
      → is_within (not (eqb f b)) (around p t) ≡ some_behind qs
  unfolding some_behind is_within
  behinds_within [] [] t f b h c = rw (c.0, eq-eqb f b c.1)
  behinds_within [] (q ∷ qs) t f b h c = absurd h
  behinds_within (k ∷ ks) [] t f b h c = absurd h
  behinds_within (k ∷ ks) (q ∷ qs) t f b h c = go (eqb (around p t) 0) refl
    where
      or-true : (z : Bool) → z || true ≡ true
      or-true true = refl
      or-true false = refl

      go : (z : Bool) → eqb (around p t) 0 ≡ z → not (eqb f b) || not z ≡ true
      go true e = let above = (c.0 (eqb-true (around p t) 0 e)).0 in rw (ne_eqb f b (λ z. omega arith))
      go false e = or-true (not (eqb f b))

  -- what has ended stands as ended, with no sequence around it, and nothing else does
  ended_state : (P : Process) (n b : ℕ) (ks : List ℕ) → HoldsControl l p x w n b P ks
      → eqb (state w n) at_end ≡ at_Ω P && is_bare ks
  unfolding at_Ω is_bare
  ended_state (leaf v e) n b ks h = rw h.rests
  ended_state (prefix v e P) n b ks h = rw h.rests
  ended_state (internal v P Q) n b ks h = rw h.rests
  ended_state (split v o none none P Q) n b ks h = rw h.rests
  ended_state (split v o (some i) none P Q) n b ks h = rw h.0.enters
  ended_state (split v o none (some j) P Q) n b ks h = rw h.0.enters
  ended_state (split v o (some i) (some j) P Q) n b ks h = rw h.0.enters
  ended_state (sequence v false P Q) n b ks h = rw h.rests
  ended_state (sequence v true P Q) n b ks h = ended_state P n b (h.0 ∷ ks) h.2 ∙ and-false (at_Ω P)
  ended_state Ω n b ks h = rw (h.1, h.2)
  ended_state ⊥' n b ks h = rw h.1

-- the frame that ends the sequences of a reference's sides
abbrev Bound : List ℕ → List ℕ → ℕ → ℕ
Bound p w n = Looking.inside p (kind p (term w n)) (term w n) n (frame w n)

-- of two sides one has stepped
abbrev Met : Option ℕ → Option ℕ → Type 0
Met none none = ⊥
Met none (some n) = Unit {0}
Met (some m) n = Unit {0}

met_some : (m : Option ℕ) (n : ℕ) → Met m (some n)
met_some none n = tt
met_some (some m) n = tt

module _ (ts : List Term) (l : Layout) (p x : List ℕ) (count : ℕ) (ds : List ℕ) (w g : List ℕ) (arcs : ℕ)
    (base : List Pair) (f : ℕ) where
  -- a process's weight, where the words hold it
  abbrev pub TellsAt : Process → ℕ → Type 0
  TellsAt P left =
      (n t b : ℕ) (ks : List ℕ) (qs : List Behind) (at size : ℕ) (a : Address) (s : At)
      → HoldsControl l p x w n b P ks → Behinds l p x w ks qs → From ds count at a → deep P ≤ left → Below f P
      → Since base f s → size ≡ length ks + cells P → size ≤ 2048
      → at_reference p x count ds w g arcs left n t b at size ≡ weight_of count (wrapped qs (step ts P s a))

  -- a side's weight, with what entering it adds
  abbrev Sides : Option ℕ → Option ℕ → Process → ℕ → ℕ → ℕ → ℕ → Type 0
  Sides own other P left n t b =
      (v : Place) (at : ℕ) (a : Address) (s : At) → From ds count at a → Since base f s
      → at_reference p x count ds w g arcs left n t b at (cells P)
      ≡ weight_of count (in_front (first_eval own other v s) (step ts P (inside (first_eval own other v s) s) a))

  -- a side that is of at a reference, 0 where it has not stepped: whether it has ended, and its weight
  record Side (own : Option ℕ) (P : Process) (left r t b : ℕ) : Type 0 where
    ended_there : eqb (state w r) at_end ≡ at_Ω P
    named : at_Ω P ≡ true → (own ≡ some r) × (r < f)
    tells : (other : Option ℕ) → Met own other → Sides own other P left r t b

  -- terms of few levels, the run's arcs counted, and nothing ended at reference 0
  module _ (low : (i o : ℕ) (t : Term) → Planned l p x i o t → levels t ≤ 66)
      (counted : (m n k : ℕ) → length (parents (some m) (some n) k base) ≡ Looking.parents g m n 0 arcs)
      (bare : state w 0 ≡ at_end → ⊥) where
    some_left : (P : Process) → ((left : ℕ) → TellsAt P (suc left)) → (left : ℕ) → TellsAt P left
    some_left P tells zero = λ n t b ks qs at size a s h c from d. absurd (omega (arith, deep_some P))
    some_left P tells (suc left) = tells left

    -- a term that no step has touched
    rests_told : (P : Process) → ((n b : ℕ) (ks : List ℕ) → HoldsControl l p x w n b P ks → Rests l p x w n b ks P)
        → (left : ℕ) → TellsAt P left
    unfolding at_reference
    rests_told P rests = some_left P λ left n t b ks qs at size a s held c from d below since e few.
        let h = rests n b ks held in
        let u = h.untouched_there in
        let single : cells P ≡ 1 = rw u.is (untouched_cells (l.place (term w n)) u.tree) in
        let many = behinds_length l p x w ks qs c in
        rw (nonzero n b h.stands.within, h.rests, u.is)
        (term_told ts l p x count ds u.tree 66 (term w n) (around p (term w n)) _ at size qs a s u.planned
        from (low _ _ u.tree u.planned) (behinds_single l p x w ks qs c)
        (behinds_within l p x w ks qs (term w n) (frame w n) b c h.stands.chain) (omega arith) (omega arith))

    -- a side that has stepped, and one that has not
    held_side : (k : Split) (n i r : ℕ) (P : Process) (left t : ℕ) → kind p (term w n) ≡ split_kind k → r ≡ i
        → TellsAt P left → HoldsControl l p x w i (Control.inside p k (term w n) n (frame w n)) P [] → deep P ≤ left
        → i < f → Below f P → cells P ≤ 2048 → Side (some i) P left r t (Bound p w n)
    unfolding wrapped is_bare
    held_side k n i r P left t kind_is e ih h d hi below few =
        let there = subst (λ b. HoldsControl l p x w i b P []) (inside_is p k (term w n) n (frame w n) kind_is) h in
        record {
          ended_there = rw e (ended_state l p x w P i (Bound p w n) [] there ∙ and-true (at_Ω P));
          named = λ q. (ap some (sym e), omega (arith, e, hi));
          tells = λ other m v at a s from since.
              rw (e, entered_before i other v s (step ts P (inside (first_eval (some i) other v s) s) a))
              (ih i t (Bound p w n) [] [] at (cells P) a (inside (first_eval (some i) other v s) s) there tt
              from d below (since_inside base f (some i) other v s since) (omega arith) few);
        }

    fresh_told : (o : ℕ) (P : Process) (left t b : ℕ) → Untouched l p x w t 0 P → 1 ≤ left
        → Sides none (some o) P left 0 t b
    unfolding at_reference
    fresh_told o P zero t b u some_left v at a s from since = absurd (omega arith)
    fresh_told o P (suc left) t b u some_left v at a s from since =
        rw u.is
        (entered_other ts l p x count ds 66 t _ (alone ts l p x count ds u.tree 66
        (term_told ts l p x count ds u.tree 66) t (l.place t) refl u.planned
        (low t 0 u.tree u.planned) (omega arith)) o v at a s from)

    fresh_side : (r : ℕ) (P : Process) (left t b : ℕ) → r ≡ 0 → Untouched l p x w t 0 P → 1 ≤ left
        → Side none P left r t b
    fresh_side r P left t b e u some_left =
        let goes_on : at_Ω P ≡ false = rw u.is (untouched_on (l.place t) u.tree) in
        record {
          ended_there = rw (e, goes_on) (ne_eqb (state w 0) at_end bare);
          named = λ q. let z : ◌≡◌ {A = ℕ} 0 1 = cc in absurd (omega arith);
          tells = elim [ none ↦ λ m. absurd m | some o ↦ λ m. rw e (fresh_told o P left t b u some_left) ];
        }

    -- the arcs of two ended sides' parents
    parents_told : (i j : ℕ) (s : At) → i < f → j < f → Since base f s
        → capped (length (parents (some i) (some j) s.fresh s.arcs)) ≡ Looking.parents g i j 0 arcs
    parents_told i j s hi hj since =
        let few = counted_few g i j 0 arcs (omega arith) in
        rw (
          since.is,
          parents_since f i j s.fresh base since.extra hi hj since.outward,
          counted i j s.fresh,
        )
        (capped_small (Looking.parents g i j 0 arcs) (omega arith))

    both_ended : (i j : ℕ) (qs : List Behind) (at size : ℕ) (a : Address) (s : At) → i < f → j < f
        → Since base f s → From ds count (suc at) a → capped (at + 1) ≡ suc at → Single qs
        → size ≡ length qs + 3 → size ≤ 2048
        → Rules.ended at size (Looking.parents g i j 0 arcs) (some_behind qs)
        ≡ weight_of count (wrapped qs (stepped (ended (some i) (some j) s) a))
    unfolding Rules.ended ended weight resized cells
    both_ended i j qs at size a s hi hj since from next u e few =
        let less : size - 2 ≡ length qs + 1 = omega arith in
        sym (weight_settled count qs (ended (some i) (some j) s) a (λ h. refl) u (omega arith)
        ∙ rw (
          parents_told i j s hi hj since,
          from_at ds count (suc at) a from,
          next,
          less,
          capped_small (length qs + 1) (omega arith),
          capped_small 0 (omega arith),
        ))

    -- an entered choice or parallel, by its sides
    module _ (left n b : ℕ) (ks : List ℕ) (qs : List Behind) (v : Place) (k : Split) (m₁ m₂ : Option ℕ)
        (P Q : Process) (h : Splits l p x w n b ks v k P Q) (c : Behinds l p x w ks qs) (met : Met m₁ m₂)
        (met' : Met m₂ m₁)
        (first : Side m₁ P left (node 4 w n) (suc (term w n)) (Bound p w n))
        (other : Side m₂ Q left (node 5 w n) (second p (term w n)) (Bound p w n)) where
      around_it : is_within (not (eqb (frame w n) b)) (around p (term w n)) ≡ some_behind qs
      around_it = behinds_within l p x w ks qs (term w n) (frame w n) b c h.stands.chain

      there : eqb n 0 ≡ false
      there = nonzero n b h.stands.within

      -- the end of a parallel whose sides have ended
      ends_told : (j : Split) → kind p (term w n) ≡ split_kind j → (at size : ℕ) (a : Address) (s : At)
          → From ds count at (four ∷ a) → Since base f s → size ≡ length ks + (1 + (cells P + cells Q))
          → size ≤ 2048
          → weigh_end w g arcs n (kind p (term w n)) at size
          (is_within (not (eqb (frame w n) b)) (around p (term w n)))
          ≡ weight_of count (wrapped qs (step ts (split v j m₁ m₂ P Q) s (four ∷ a)))
      unfolding weigh_end step split_kind
      ends_told choice kind_is at size a s from since e few = rw kind_is (weight_none count qs)
      ends_told (together y) kind_is at size a s from since e few =
          rw (kind_is, first.ended_there, other.ended_there, around_it) (go (at_Ω P) (at_Ω Q) refl refl)
        where
          go : (z z' : Bool) → at_Ω P ≡ z → at_Ω Q ≡ z'
              → choose (z && z')
              (Rules.ended at size (Looking.parents g (node 4 w n) (node 5 w n) 0 arcs) (some_behind qs)) None
              ≡ weight_of count (wrapped qs (choose (z && z') (stepped (ended m₁ m₂ s) a) none))
          go true true q q' =
              let (named-first, below) = first.named q in
              let (named_other, below') = other.named q' in
              let one_Cell = ended_cells P q in
              let other_cell = ended_cells Q q' in
              let many = behinds_length l p x w ks qs c in
              rw (named-first, named_other)
              (both_ended (node 4 w n) (node 5 w n) qs at size a s below below' since from.1
              (next_at ds count at four from.0) (behinds_single l p x w ks qs c) (omega arith) few)
          go true false q q' = weight_none count qs
          go false z' q q' = weight_none count qs

      -- by its first digit
      split_at : (t at size : ℕ) (a : Address) (s : At) → From ds count at a → Since base f s
          → size ≡ length ks + (1 + (cells P + cells Q)) → size ≤ 2048
          → at_reference p x count ds w g arcs (suc left) n t b at size
          ≡ weight_of count (wrapped qs (step ts (split v k m₁ m₂ P Q) s a))
      unfolding at_reference taken number by_digit is_side step
      split_at t at size [] s from since e few =
          rw (there, h.enters, digit_none ds count at from) (weight_none count qs)
      split_at t at size (one ∷ a) s from since e few =
          let known = split_some p k (term w n) h.kind_is in
          let many = behinds_length l p x w ks qs c in
          rw (
            there,
            h.enters,
            from.0,
            next_at ds count at one from.0,
            next_term p (term w n) known,
            h.left_cells,
            h.right_cells,
            around_it,
          )
          (by_first p x count ds ts (term w n) v m₁ m₂ P Q s qs (behinds_single l p x w ks qs c) (omega arith)
          size (omega arith) k h.kind_is (set_in p x (term w n) known ∙ h.set_is) a _ (λ at. None)
          (first.tells m₂ met v (suc at) a s from.1 since))
      split_at t at size (two ∷ a) s from since e few =
          let known = split_some p k (term w n) h.kind_is in
          let many = behinds_length l p x w ks qs c in
          rw (
            there,
            h.enters,
            from.0,
            next_at ds count at two from.0,
            h.left_cells,
            h.right_cells,
            around_it,
          )
          (by_second p x count ds ts (term w n) v m₁ m₂ P Q s qs (behinds_single l p x w ks qs c) (omega arith)
          size (omega arith) k h.kind_is (set_in p x (term w n) known ∙ h.set_is) a _ (λ at. None)
          (other.tells m₁ met' v (suc at) a s from.1 since))
      split_at t at size (three ∷ a) s from since e few =
          let known = split_some p k (term w n) h.kind_is in
          let many = behinds_length l p x w ks qs c in
          rw (
            there,
            h.enters,
            from.0,
            next_at ds count at three from.0,
            next_term p (term w n) known,
            h.left_cells,
            h.right_cells,
          )
          (by_both p x count ds ts (term w n) v m₁ m₂ P Q s qs (behinds_single l p x w ks qs c) (omega arith)
          size (omega arith) k h.kind_is (set_in p x (term w n) known ∙ h.set_is) a _
          (λ at. at_reference p x count ds w g arcs left (node 5 w n) (second p (term w n)) (Bound p w n) at
          (cells Q))
          (first.tells m₂ met v (suc at) a s from.1 since)
          (λ y q. other.tells (some (first_eval m₁ m₂ v s).reference) (met_some m₂ _) v
          (count - length y.unused) y.unused (beside s (first_eval m₁ m₂ v s) y.outcome)
          (from_left ds count ts (suc at) P _ a y q from.1) (since_beside base f ts m₁ m₂ v s P a y q since)))
      split_at t at size (four ∷ a) s from since e few =
          rw (there, h.enters, from.0) (ends_told k h.kind_is at size a s from since e few)

    -- what stands at a reference weighs what its step is
    pub control_told : (P : Process) (left : ℕ) → TellsAt P left
    unfolding cells deep wrapped step at_reference
    control_told (leaf v e) left = rests_told (leaf v e) (λ n b ks h. h) left
    control_told (prefix v e P) left = rests_told (prefix v e P) (λ n b ks h. h) left
    control_told (internal v P Q) left = rests_told (internal v P Q) (λ n b ks h. h) left
    control_told (split v k none none P Q) left = rests_told (split v k none none P Q) (λ n b ks h. h) left
    control_told (split v k (some i) none P Q) left =
        some_left (split v k (some i) none P Q) (λ left n t b ks qs at size a s h c from d below since e few.
        split_at left n b ks qs v k (some i) none P Q h.0 c tt tt
        (held_side k n i (node 4 w n) P left (suc (term w n)) h.0.kind_is h.1 (control_told P left) h.3
        (omega arith) below.0 below.2 (omega arith))
        (fresh_side (node 5 w n) Q left (second p (term w n)) (Bound p w n) h.2 h.4
        (omega (arith, deep_some P))) t at size a s from since e few) left
    control_told (split v k none (some j) P Q) left =
        some_left (split v k none (some j) P Q) (λ left n t b ks qs at size a s h c from d below since e few.
        split_at left n b ks qs v k none (some j) P Q h.0 c tt tt
        (fresh_side (node 4 w n) P left (suc (term w n)) (Bound p w n) h.1 h.3
        (omega (arith, deep_some Q)))
        (held_side k n j (node 5 w n) Q left (second p (term w n)) h.0.kind_is h.2 (control_told Q left)
        h.4 (omega arith) below.1 below.3 (omega arith))
        t at size a s from since e few) left
    control_told (split v k (some i) (some j) P Q) left =
        some_left (split v k (some i) (some j) P Q) (λ left n t b ks qs at size a s h c from d below since e few.
        split_at left n b ks qs v k (some i) (some j) P Q h.0 c tt tt
        (held_side k n i (node 4 w n) P left (suc (term w n)) h.0.kind_is h.1 (control_told P left) h.3
        (omega arith) below.0 below.2 (omega arith))
        (held_side k n j (node 5 w n) Q left (second p (term w n)) h.0.kind_is h.2 (control_told Q left)
        h.4 (omega arith) below.1 below.3 (omega arith))
        t at size a s from since e few) left
    control_told (sequence v false P Q) left = rests_told (sequence v false P Q) (λ n b ks h. h) left
    control_told (sequence v true P Q) left = λ n t b ks qs at size a s h c from d below since e few.
        control_told P left n t b (h.0 ∷ ks) (record { place = v; right = Q } ∷ qs) at size a s h.2 (h.1, c)
        from d below since (omega arith) few
    control_told Ω left = some_left Ω (λ left n t b ks qs at size a s h c from d below since e few.
        rw (nonzero n b h.0, h.1) (weight_none count qs)) left
    control_told ⊥' left = some_left ⊥' (λ left n t b ks qs at size a s h c from d below since e few.
        rw (nonzero n b h.0.within, h.1) (weight_none count qs)) left

-- before a step, of the whole control
pub whole_told : (ts : List Term) (l : Layout) (p x : List ℕ) (count : ℕ) (ds : List ℕ) (w g : List ℕ) (arcs : ℕ)
    (P : Process) (left n t b : ℕ) (a : Address) (s : At)
    → ((i o : ℕ) (t : Term) → Planned l p x i o t → levels t ≤ 66)
    → ((m n k : ℕ) → length (parents (some m) (some n) k s.arcs) ≡ Looking.parents g m n 0 arcs)
    → (state w 0 ≡ at_end → ⊥) → HoldsControl l p x w n b P [] → From ds count 0 a → Below s.fresh P → cells P ≤ left
    → cells P ≤ 2048
    → at_reference p x count ds w g arcs left n t b 0 (cells P) ≡ weight_of count (step ts P s a)
unfolding wrapped
whole_told ts l p x count ds w g arcs P left n t b a s low counted bare h from below enough few =
    control_told ts l p x count ds w g arcs s.arcs s.fresh low counted bare P left n t b [] [] 0 (cells P) a s
    h tt from (omega (arith, deep_cells P)) below (since_start s) (omega arith) few
