-- What a weight tells of a step: its event, where its digits end, the cells behind it and what it adds, each a
-- count that stops at 65,535. The sequences around a part carry its step on, each with a cell of its own, or
-- where it ends the innermost starts its right: that is what `settled` makes of the part's weight. Assumes
-- nothing.
use Rattle.std.proofs.Common.{ℕ, suc, ◌+◌, ◌-◌, ◌≤◌, ◌<◌, ◌≡◌, refl, sym, ap, subst, ◌∙◌, Bool, true, false}
use Rattle.std.proofs.Common.{◌&&◌, List, [], ◌∷◌, ◌++◌, arith, length, length-append, get_or, ltb, ltb-true}
use Rattle.std.proofs.Common.{le-ltb, zero-add}
use Rattle.std.proofs.Math.Option.{Option, none, some}
use Rattle.lines.specs.Line.{choose}
use Rattle.places.specs.Place.{Place}
use Rattle.terms.specs.Term.{Term}
use Rattle.rules.specs.declared.Event.TheVariants.{Tau as τ, Tick as ✓, Visible as visible, Tick}
use Rattle.rules.specs.Process.{Digit, one, two, three, four, Address, Process, sequence, cells}
use Rattle.rules.specs.Track.{pair, At, Outcome, carried, started}
use Rattle.rules.specs.Step.{Stepped, stepped, in_sequence, by_left, step}
use Rattle.rules.proofs.Derived.{step_derived}
use Rattle.rules.proofs.Stripped.{ends_at_Ω}
use Rattle.control.proofs.Chains.{Awaiting as Behind}
use Rattle.rules.specs.declared.Event.{Event}
use Rattle.control.specs.words.Sums.{capped}
use Rattle.looking.specs.code.Looking.{digit_at}
use Rattle.weights.specs.code.Rules as Rules
use Rattle.weights.specs.code.Rules.{settled, resized}
use Rattle.weights.specs.declared.Weight.{Weight}
use Rattle.weights.specs.code.Rules.{Weighed}
use Rattle.std.specs.Prelude.{Some, None}
use Rattle.control.proofs.Capped.{capped_small, capped_left}

unfoldable pub number : Digit → ℕ
number one = 1
number two = 2
number three = 3
number four = 4

-- an address stands among the digits, from a place to their end
abbrev pub From : List ℕ → ℕ → ℕ → Address → Type 0
From ds count at [] = at ≡ count
From ds count at (d ∷ a) = (digit_at ds count at ≡ number d) × From ds count (suc at) a

-- the weight of an outcome, and where its digits end
unfoldable pub weight : ℕ → Outcome → Address → Weight
weight count r a = record {
  event = r.event;
  at = count - length a;
  size = capped (cells r.process);
  nodes = capped (length r.labels);
  arcs = capped (length r.arcs);
  meetings = capped (length r.meetings);
  met = capped (length r.met);
}

unfoldable pub weight_of : ℕ → Option Stepped → Weighed
weight_of count none = None
weight_of count (some x) = Some (weight count x.outcome x.unused)

-- a part's step with the sequences around it, the innermost first
unfoldable pub wrapped : List Behind → Option Stepped → Option Stepped
wrapped [] r = r
wrapped (q ∷ qs) r = wrapped qs (by_left q.place q.right r)

-- each sequence's right is one cell
abbrev pub Single : List Behind → Type 0
Single [] = Unit {0}
Single (q ∷ qs) = (cells q.right ≡ 1) × Single qs

unfoldable pub some_behind : List Behind → Bool
some_behind [] = false
some_behind (q ∷ qs) = true

-- a part inside the sequences around it
unfoldable pub nested : List Behind → Process → Process
nested [] P = P
nested (q ∷ qs) P = nested qs (sequence q.place true P q.right)

nested_cells : (qs : List Behind) (P : Process) → cells (nested qs P) ≡ length qs + cells P
unfolding nested cells
nested_cells [] P = omega arith
nested_cells (q ∷ qs) P =
    let h = nested_cells qs (sequence q.place true P q.right) in omega (arith, h)

pub wrapped_none : (qs : List Behind) → wrapped qs none ≡ none
unfolding wrapped by_left
wrapped_none [] = refl
wrapped_none (q ∷ qs) = wrapped_none qs

-- a sequence around nothing
pub weight_none : (count : ℕ) (qs : List Behind) → None ≡ weight_of count (wrapped qs none)
unfolding weight_of
weight_none count qs = ap (weight_of count) (sym (wrapped_none qs))

-- τ and visible events do not end
pub τ-goes-on : τ ≡ ✓ → ⊥
τ-goes-on h = let z : ◌≡◌ {A = ℕ} 0 1 = cc in omega arith

pub visible_goes_on : (e : ℕ) → visible e ≡ ✓ → ⊥
visible_goes_on e h = let z : ◌≡◌ {A = ℕ} 0 1 = cc in omega arith

-- a step that does not end goes on inside
stays_inside : (w : Place) (Q : Process) (r : Outcome) (a : Address) (v : Event) → (v ≡ ✓ → ⊥)
    → in_sequence v w Q r a ≡ stepped (carried r (sequence w true r.process Q)) a
unfolding in_sequence
stays_inside w Q r a τ h = refl
stays_inside w Q r a ✓ h = absurd (h refl)
stays_inside w Q r a (visible e) h = refl

-- and one that ends starts the right
starts_inside : (w : Place) (Q : Process) (r : Outcome) (a : Address) (v : Event) → v ≡ ✓
    → in_sequence v w Q r a ≡ stepped (started r Q w) a
unfolding in_sequence
starts_inside w Q r a v e = rw e

wrapped_on : (qs : List Behind) (r : Outcome) (a : Address) → (r.event ≡ ✓ → ⊥)
    → wrapped qs (stepped r a) ≡ stepped (carried r (nested qs r.process)) a
unfolding wrapped nested carried by_left
wrapped_on [] r a h = refl
wrapped_on (q ∷ qs) r a h =
    ap (wrapped qs) (stays_inside q.place q.right r a r.event h)
    ∙ wrapped_on qs (carried r (sequence q.place true r.process q.right)) a h

-- a step that does not end stays as it is
quiet : (v : Event) → (v ≡ ✓ → ⊥) → (w : Weight) (b : Bool) → w.event ≡ v
    → settled (Some w) b ≡ Some w
unfolding settled Rules.started
quiet τ h w true e = rw e
quiet τ h w false e = refl
quiet ✓ h w b e = absurd (h refl)
quiet (visible n) h w true e = rw e
quiet (visible n) h w false e = refl

module _ (count : ℕ) where
  -- an outcome's weight, with the cells of the sequences around it, where its event is e
  abbrev pub weight_inside : List Behind → Event → Outcome → Address → Weighed
  weight_inside qs e r a = Some (resized e (capped (length qs + cells r.process)) (weight count r a))

  -- what a step that does not end weighs with the sequences around it
  pub weight_on : (qs : List Behind) (r : Outcome) (a : Address) → (r.event ≡ ✓ → ⊥)
      → weight_of count (wrapped qs (stepped r a))
      ≡ weight_inside qs r.event r a
  unfolding weight_of weight resized carried
  weight_on qs r a h = rw (wrapped_on qs r a h, nested_cells qs r.process)

  weight_still : (qs : List Behind) (r : Outcome) (a : Address) (v : Event) → r.event ≡ v → (v ≡ ✓ → ⊥)
      → weight_of count (wrapped qs (stepped r a))
      ≡ settled (weight_inside qs v r a) (some_behind qs)
  unfolding resized
  weight_still qs r a v e n =
      weight_on qs r a (λ h. n (sym e ∙ h))
      ∙ ap (λ u. weight_inside qs u r a) e
      ∙ sym (quiet v n _ (some_behind qs) refl)

  -- and one that ends
  weight_over : (qs : List Behind) (r : Outcome) (a : Address) → r.event ≡ ✓ → cells r.process ≡ 1
      → Single qs → length qs < 65535
      → weight_of count (wrapped qs (stepped r a))
      ≡ settled (weight_inside qs Tick r a) (some_behind qs)
  unfolding weight_of weight resized settled some_behind wrapped by_left in_sequence started Rules.started
  weight_over [] r a e c u l = rw (e, zero-add (cells r.process))
  weight_over (q ∷ qs) r a e c u l =
      let less : suc (length qs) + 1 - 1 ≡ length qs + 1 = omega arith in
      ap (λ o. weight_of count (wrapped qs o)) (starts_inside q.place q.right r a r.event e)
      ∙ weight_on qs (started r q.right q.place) a τ-goes-on
      ∙ rw (
        u.0,
        c,
        length-append r.labels (record { reference = r.reference; place = q.place } ∷ []),
        length-append r.arcs (pair r.reference r.fresh ∷ []),
        capped_left (length r.labels) 1,
        capped_left (length r.arcs) 1,
        capped_small (length qs + 1) (omega arith),
        capped_small (suc (length qs) + 1) (omega arith),
        capped_small 0 (omega arith),
        less,
      )

  weight_by : (v : Event) (qs : List Behind) (r : Outcome) (a : Address) → r.event ≡ v
      → (v ≡ ✓ → cells r.process ≡ 1) → Single qs → length qs < 65535
      → weight_of count (wrapped qs (stepped r a))
      ≡ settled (weight_inside qs v r a) (some_behind qs)
  unfolding resized
  weight_by τ qs r a e c u l = weight_still qs r a τ e τ-goes-on
  weight_by ✓ qs r a e c u l = weight_over qs r a e (c refl) u l
  weight_by (visible n) qs r a e c u l = weight_still qs r a (visible n) e (visible_goes_on n)

  -- what any step weighs with the sequences around it
  pub weight_settled : (qs : List Behind) (r : Outcome) (a : Address) → (r.event ≡ ✓ → cells r.process ≡ 1)
      → Single qs → length qs < 65535
      → weight_of count (wrapped qs (stepped r a))
      ≡ settled (weight_inside qs r.event r a) (some_behind qs)
  weight_settled qs r a c u l = weight_by r.event qs r a refl c u l

-- a digit is not 0
number_some : (d : Digit) → 1 ≤ number d
unfolding number
number_some one = omega arith
number_some two = omega arith
number_some three = omega arith
number_some four = omega arith

module _ (ds : List ℕ) (count : ℕ) where
  -- behind the last digit is none
  pub digit_none : (at : ℕ) → at ≡ count → digit_at ds count at ≡ 0
  unfolding digit_at
  digit_none at e = rw (le-ltb at count (omega arith))

  -- where there is one, there is room for it
  digit_room : (at : ℕ) → 1 ≤ digit_at ds count at → at < 1024
  unfolding digit_at
  digit_room at h = go (ltb at count) (ltb at 1024) refl h
    where
      go : (b c : Bool) → ltb at 1024 ≡ c → 1 ≤ choose (b && c) (get_or ds at 0) 0 → at < 1024
      go true true e k = ltb-true at 1024 e
      go true false e k = absurd (omega arith)
      go false c e k = absurd (omega arith)

  -- the place behind a digit
  pub next_at : (at : ℕ) (d : Digit) → digit_at ds count at ≡ number d → capped (at + 1) ≡ suc at
  next_at at d e =
      let h = digit_room at (omega (arith, number_some d)) in
      let k : at + 1 ≡ suc at = omega arith in
      capped_small (at + 1) (omega arith) ∙ k

  from_length : (at : ℕ) (a : Address) → From ds count at a → at + length a ≡ count
  from_length at [] f = omega arith
  from_length at (d ∷ a) f = let h = from_length (suc at) a f.1 in omega arith

  -- where its digits start
  pub from_at : (at : ℕ) (a : Address) → From ds count at a → count - length a ≡ at
  from_at at a f = let h = from_length at a f in omega arith

  from_behind : (at : ℕ) (b a : Address) → From ds count at (b ++ a) → From ds count (at + length b) a
  from_behind at [] a f = let e : at + 0 ≡ at = omega arith in rw e f
  from_behind at (d ∷ b) a f =
      let e : at + suc (length b) ≡ suc at + length b = omega arith in
      rw e (from_behind (suc at) b a f.1)

  module _ (ts : List Term) where
    -- the digits that a step leaves
    pub from_left : (at : ℕ) (P : Process) (s : At) (a : Address) (y : Stepped) → step ts P s a ≡ some y
        → From ds count at a → From ds count (count - length y.unused) y.unused
    from_left at P s a y e f =
        let (b, p, d) = step_derived ts P s a y e in
        let g = from_behind at b y.unused (subst (From ds count at) p f) in
        rw (from_at (at + length b) y.unused g) g

-- a step that ends leaves one cell
pub ends_single : (ts : List Term) (P : Process) (s : At) (a : Address) (y : Stepped) → step ts P s a ≡ some y
    → y.outcome.event ≡ ✓ → cells y.outcome.process ≡ 1
unfolding cells
ends_single ts P s a y e h =
    let (b, p, d) = step_derived ts P s a y e in rw (ends_at_Ω d h)
