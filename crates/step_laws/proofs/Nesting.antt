-- What a step that the words take is given, and what it comes to, by how deep it may be gone: `Takes`. A
-- sequence around a part is one more that waits for its event, and an untouched sequence goes on at its left.
-- What a step comes to inside the sequences around it has room before they see it, so the references drawn
-- before it have. Assumes nothing.
use Rattle.std.proofs.Common.{ℕ, suc, ◌+◌, ◌*◌, ◌≤◌, ◌<◌, max, ◌≡◌, refl, sym, subst, ◌∙◌, true, false, List}
use Rattle.std.proofs.Common.{◌∷◌, arith, add-one, length}
use Rattle.std.proofs.Math.Option.{Option, none, some, none-ne-some}
use Rattle.terms.specs.Term.{Term, binary, operator_kind}
use Rattle.terms.specs.Term as Term
use Rattle.rules.specs.Process.{Address, Process, leaf, prefix, internal, split, sequence, Ω, ⊥', cells}
use Rattle.rules.specs.Process.{joined, untouched}
use Rattle.rules.specs.Step.{Stepped, step}
use Rattle.rules.proofs.Derived.{step_derived}
use Rattle.rules.proofs.Stripped.{ends_at_Ω}
use Rattle.rules.proofs.Quiet.{Quiet, quiet_meets_none}
use Rattle.rules.proofs.Ranged.{Calls}
use Rattle.rules.proofs.Marked.{one_same}
use Rattle.rules.proofs.Holding.{held}
use Rattle.plans.specs.words.Plan.{Layout, kind, second, around, Planned}
use Rattle.control.specs.words.Words.{put, reference_room}
use Rattle.control.specs.words.Control.{term, Rests}
use Rattle.control.proofs.Framed.{untouched_held}
use Rattle.control.proofs.Chains.{Awaiting, TellsBehind}
use Rattle.control.specs.words.Sums.{capped}
use Rattle.weighing.proofs.Told.{From, wrapped, wrapped_none}
use Rattle.weighing.proofs.TermTold.{kind_room, untouched_cells}
use Rattle.leaves.specs.code.Leaves.{Done}
use Rattle.stepping.specs.code.Take.{take}
use Rattle.step_laws.proofs.TrackLoops.{capped_below}
use Rattle.step_laws.proofs.Writing.{Words, nothing, behind}
use Rattle.step_laws.proofs.Going.{at_words, Fits, Ready, Goes}
use Rattle.step_laws.proofs.Settling.{fits_part, tells_told}
use Rattle.step_laws.proofs.Drawing.{draws, once_drawn}
use Rattle.step_laws.proofs.Sideless.{Sideless, Keeps, put_sideless}
use Rattle.step_laws.proofs.Sequences.{onward, onward_writes, left_ready, sequence_follows}

-- how many calls a step of a process may nest
unfoldable pub needs : Process → ℕ
needs (leaf v f) = 1
needs (prefix v e P) = 1
needs (internal v P Q) = 1
needs (split v k none none P Q) = suc (suc (max (needs P) (needs Q)))
needs (split v k none (some j) P Q) = suc (max (needs P) (needs Q))
needs (split v k (some i) m P Q) = suc (max (needs P) (needs Q))
needs (sequence v false P Q) = suc (needs P)
needs (sequence v true P Q) = needs P
needs Ω = 1
needs ⊥' = 1

pub needs_some : (P : Process) → 1 ≤ needs P
unfolding needs
needs_some (leaf v f) = omega arith
needs_some (prefix v e P) = omega arith
needs_some (internal v P Q) = omega arith
needs_some (split v k none none P Q) = omega arith
needs_some (split v k none (some j) P Q) = omega arith
needs_some (split v k (some i) m P Q) = omega arith
needs_some (sequence v false P Q) = omega arith
needs_some (sequence v true P Q) = needs_some P
needs_some Ω = omega arith
needs_some ⊥' = omega arith

-- nothing comes of nothing
pub none_wrapped : (qs : List Awaiting) (y : Stepped) → wrapped qs none ≡ some y → ⊥
none_wrapped qs y e = none-ne-some y (sym (wrapped_none qs) ∙ e)

-- a result is there, or not
pub data Found (r : Option Stepped) : Type 0 where
  absent : r ≡ none → Found r
  present : (y : Stepped) → r ≡ some y → Found r

pub found : (r : Option Stepped) → Found r
found none = absent refl
found (some y) = present y refl

module _ (l : Layout) (p x : List ℕ) (ts : List Term) (count : ℕ) (ds : List ℕ) where
  -- a step of P at reference n, by the digits from `at` on
  pub record Given (left n b : ℕ) (P : Process) (ks : List ℕ) (qs : List Awaiting) (at size : ℕ) (a : Address)
      (u : Words) (y : Stepped) : Type 0 where
    pub ready : Ready l p x count n b P ks u
    pub sideless : Sideless u.nodes
    pub tells : TellsBehind l p x u.nodes ks qs
    pub calls : Calls ts P
    pub from : From ds count at a
    pub enough : needs P ≤ left
    pub sized : size ≡ length ks + cells P
    pub small : size + 2 * needs P ≤ 4096
    pub steps : wrapped qs (step ts P (at_words n u) a) ≡ some y
    pub fits : Fits u y.outcome

  -- the words go through the step, and give no side to a reference without a label
  pub record Went (n b : ℕ) (P : Process) (u : Words) (y : Stepped) (d : Done) : Type 0 where
    pub goes : Goes l p x count n b P u y d
    pub keeps : Keeps d

  abbrev pub Takes : ℕ → Type 0
  Takes left =
      (n b : ℕ) (P : Process) (ks : List ℕ) (qs : List Awaiting) (at size : ℕ) (a : Address) (u : Words)
      (y : Stepped) → Given left n b P ks qs at size a u y
      → Went n b P u y (take p count ds left n b at size u.tally u.nodes u.track)

  -- what is drawn before a step has room
  pub given_room : (left n b : ℕ) (P : Process) (ks : List ℕ) (qs : List Awaiting) (at size : ℕ)
      (a : Address) (u : Words)
      (y : Stepped) → Given left n b P ks qs at size a u y → u.tally.fresh ≤ reference_room
  given_room left n b P ks qs at size a u y g = go (found (step ts P (at_words n u) a))
    where
      go : Found (step ts P (at_words n u) a) → u.tally.fresh ≤ reference_room
      go (absent e) = absurd (none_wrapped qs y (rw e at g.steps))
      go (present z e) =
          let (c, _, d) = step_derived ts P (at_words n u) a z e in
          let part = fits_part u z y qs (rw e at g.steps)
          (λ h. (ends_at_Ω d h, quiet_meets_none ts d (subst Quiet (sym h) tt))) g.fits in
          let more : u.tally.fresh ≤ z.outcome.fresh =
          (draws ts d g.ready.fit g.ready.once g.ready.sound.up).more in
          omega (arith, more, part.fresh_fits)

  -- a process that is no entered sequence
  abbrev pub Bare : Process → Type 0
  Bare (leaf v f) = Unit {0}
  Bare (prefix v e P) = Unit {0}
  Bare (internal v P Q) = Unit {0}
  Bare (split v k m₁ m₂ P Q) = Unit {0}
  Bare (sequence v false P Q) = Unit {0}
  Bare (sequence v true P Q) = ⊥
  Bare Ω = Unit {0}
  Bare ⊥' = Unit {0}

  abbrev pub TakesBare : ℕ → Type 0
  TakesBare left =
      (n b : ℕ) (P : Process) (ks : List ℕ) (qs : List Awaiting) (at size : ℕ) (a : Address) (u : Words)
      (y : Stepped) → Bare P → Given left n b P ks qs at size a u y
      → Went n b P u y (take p count ds left n b at size u.tally u.nodes u.track)

  -- entered sequences wait around it
  pub inside_sequences : (left : ℕ) → TakesBare left → (P : Process) (n b : ℕ) (ks : List ℕ)
      (qs : List Awaiting)
      (at size : ℕ) (a : Address) (u : Words) (y : Stepped) → Given left n b P ks qs at size a u y
      → Went n b P u y (take p count ds left n b at size u.tally u.nodes u.track)
  unfolding held wrapped step cells needs
  inside_sequences left h (leaf v f) n b ks qs at size a u y g = h n b (leaf v f) ks qs at size a u y tt g
  inside_sequences left h (prefix v e P) n b ks qs at size a u y g =
      h n b (prefix v e P) ks qs at size a u y tt g
  inside_sequences left h (internal v P Q) n b ks qs at size a u y g =
      h n b (internal v P Q) ks qs at size a u y tt g
  inside_sequences left h (split v k m₁ m₂ P Q) n b ks qs at size a u y g =
      h n b (split v k m₁ m₂ P Q) ks qs at size a u y tt g
  inside_sequences left h (sequence v false P Q) n b ks qs at size a u y g =
      h n b (sequence v false P Q) ks qs at size a u y tt g
  inside_sequences left h (sequence v true P Q) n b ks qs at size a u y g =
      let held_there = g.ready.holds in
      let inner = inside_sequences left h P n b (held_there.0 ∷ ks) (record { place = v; right = Q } ∷ qs)
      at size a u y
      (record {
        ready = record {
          sound = g.ready.sound;
          holds = held_there.2;
          fit = g.ready.fit.0;
          once = g.ready.once;
        };
        sideless = g.sideless;
        tells = (held_there.1, g.tells);
        calls = g.calls.0;
        from = g.from;
        enough = g.enough;
        sized = omega (arith, g.sized);
        small = g.small;
        steps = g.steps;
        fits = g.fits;
      }) in
      record {
        goes = record {
          matches = inner.goes.matches;
          size_is = inner.goes.size_is;
          holds = inner.goes.holds;
        };
        keeps = inner.keeps;
      }
  inside_sequences left h Ω n b ks qs at size a u y g = h n b Ω ks qs at size a u y tt g
  inside_sequences left h ⊥' n b ks qs at size a u y g = h n b ⊥' ks qs at size a u y tt g

  -- a sequence that no step has touched
  module _ (left n b i : ℕ) (ks : List ℕ) (qs : List Awaiting) (at size : ℕ) (a : Address) (u : Words)
      (y : Stepped)
      (t s : Term) (r : Rests l p x u.nodes n b ks (untouched (l.place i) (binary Term.sequence t s)))
      (is : term u.nodes n ≡ i) (planned : Planned l p x i (around p i) (binary Term.sequence t s))
      (g : Given (suc left) n b (untouched (l.place i) (binary Term.sequence t s)) ks qs at size a u y) where
    abbrev here : Process
    here = untouched (l.place i) (binary Term.sequence t s)

    sequence_low : i < 1024
    unfolding operator_kind
    sequence_low = kind_room p i (omega (arith, planned.0))

    sequence_drawn : n < u.tally.fresh
    sequence_drawn = once_drawn n here u.tally.fresh g.ready.once

    sequence_own : held n n here ≡ 0 → ⊥
    sequence_own z =
        omega (arith, z, one_same n n refl, untouched_held l p x u.nodes _ _ here r.untouched_there n n)

    sequence_takes : take p count ds (suc left) n b at size u.tally u.nodes u.track
        ≡ take p count ds left n b at (size + 1) u.tally (put 2 u.nodes n (suc i)) u.track
    unfolding take operator_kind
    sequence_takes =
        let kind_is : kind p i ≡ 5 = planned.0 in
        let next : capped (i + 1) ≡ suc i = capped_below (i + 1) (omega (arith, sequence_low)) ∙ add-one i in
        simp (r.rests, is, kind_is, next, capped_below (size + 1) (omega (arith, g.small)))

    pub at_sequence : Takes left
        → Went n b here u y (take p count ds (suc left) n b at size u.tally u.nodes u.track)
    unfolding held untouched joined needs cells step wrapped
    at_sequence takes =
        let below_is = planned.3 in
        let at_right = planned.4 in
        let room = given_room (suc left) n b here ks qs at size a u y g in
        let v = onward n (suc i) u in
        let inner_process = untouched (l.place (suc i)) t in
        let q : Awaiting = record { place = l.place i; right = untouched (l.place (second p i)) s } in
        let inner : Went n b inner_process v y
        (take p count ds left n b at (size + 1) u.tally (put 2 u.nodes n (suc i)) u.track) =
        takes n b inner_process (i ∷ ks) (q ∷ qs) at (size + 1) a v y
        (record {
          ready = left_ready l p x n b i ks t s u room r is sequence_low sequence_drawn
              g.ready.sound.whole_nodes planned
              count g.ready.sound g.ready.once;
          sideless = put_sideless 2 u.nodes n (suc i) (omega arith) (λ e. omega arith) (λ e. omega arith)
              (λ e. omega arith) g.sideless;
          tells = (
            sequence_follows l p x n b i ks t s u room r is sequence_low sequence_drawn
                g.ready.sound.whole_nodes planned,
            tells_told l p x u.nodes v.nodes ks qs g.tells,
          );
          calls = rw below_is g.calls.0;
          from = g.from;
          enough = rw below_is (omega (arith, g.enough));
          sized = rw (untouched_cells (l.place (suc i)) t) (omega (arith, g.sized));
          small = rw below_is (omega (arith, g.small));
          steps = rw (below_is, at_right) g.steps;
          fits = record {
            fresh_fits = g.fits.fresh_fits;
            nodes_fit = g.fits.nodes_fit;
            arcs_fit = g.fits.arcs_fit;
            meetings_fit = g.fits.meetings_fit;
            met_fit = g.fits.met_fit;
            cells_fit = g.fits.cells_fit;
          };
        }) in
        let own : ℕ → ℕ = λ j. held j n here in
        let there = inner.goes.matches in
        rw sequence_takes
        (record {
          goes = record {
            matches = record {
              writes = behind l own (λ j. held j n inner_process) u v _ nothing _ (λ j d e. rw below_is e)
                  (onward_writes l n (suc i) u r.bare sequence_drawn own sequence_own) there.writes;
              fresh_is = there.fresh_is;
              event_is = there.event_is;
              reference_is = there.reference_is;
              at_is = there.at_is;
            };
            size_is = inner.goes.size_is;
            holds = inner.goes.holds;
          };
          keeps = inner.keeps;
        })
