-- One level of an exchange: two steps of a process, each behind the other, whose outcomes in the two orders
-- differ by one map of references. What stands above a level keeps it: a parallel by 1 or 2 shows the same
-- events and labels its node in the first step alone, and a sequence stays, since no side shows ✓. Assumes
-- nothing.
use Rattle.std.proofs.Common.{ℕ, ◌≤◌, ◌<◌, ◌≡◌, refl, sym, ap₂, subst, ◌∙◌, Bool, true, List, ◌∷◌, ◌++◌, map}
use Rattle.std.proofs.Common.{append-nil, append_assoc, arith}
use Rattle.std.proofs.Math.Option.{Option, none, some}
use Rattle.terms.specs.Term.{Term}
use Rattle.places.specs.Place.{Place}
use Rattle.rules.specs.declared.Event.{Event}
use Rattle.rules.specs.declared.Event.TheVariants.{Tick as ✓}
use Rattle.rules.specs.Process.{Address, together, Process, sequence}
use Rattle.rules.specs.Track.{At, Outcome, first_eval, inside, around, carried}
use Rattle.rules.specs.Tracking.{Shows, passes, hides_τ, hides-✓, Tracks, sequential_composition_1}
use Rattle.rules.proofs.Outward.{entering_draws}
use Rattle.exchange.specs.Renamed.{renamed_side, renamed}
use Rattle.exchange.proofs.References.{Under, side_fixed, renamed_fixed}
use Rattle.exchange.proofs.RenamedSteps.{on_label, on_pair}
use Rattle.exchange.proofs.Swapped.{Swaps, swaps_parts}
use Rattle.exchange.proofs.Hands.{Hand, digit, sided, sided_renamed, by_side, side_tracks, Stands}
use Rattle.exchange.proofs.Hands.{stands_below, stands_under, other_under}

-- where a process stands behind a step
abbrev pub behind : At → Outcome → At
behind s r = record { reference = r.reference; fresh = r.fresh; arcs = s.arcs ++ r.arcs }

-- a and b name the steps r and q of what stands at s, and each goes on behind the other
pub record EitherOrder (ts : List Term) (a b : Address) (s : At) (r q : Outcome) : Type 0 where
  pub φ : ℕ → ℕ
  pub ψ : ℕ → ℕ
  pub then_second : Outcome
  pub then_first : Outcome
  pub fixes : (n : ℕ) → n < s.fresh → φ n ≡ n
  pub back : (n : ℕ) → ψ (φ n) ≡ n
  pub forth : (n : ℕ) → φ (ψ n) ≡ n
  pub second_tracks : Tracks ts b r.process (behind s r) then_second
  pub first_tracks : Tracks ts a q.process (behind s q) then_first
  pub second_event : then_second.event ≡ q.event
  pub first_event : then_first.event ≡ r.event
  pub first_on : r.event ≡ ✓ → ⊥
  pub second_on : q.event ≡ ✓ → ⊥
  pub process : then_first.process ≡ renamed φ then_second.process
  pub reference : then_first.reference ≡ φ then_second.reference
  pub fresh : then_first.fresh ≡ then_second.fresh
  pub labels : Swaps (on_label φ) (r.labels ++ then_second.labels) (q.labels ++ then_first.labels)
  pub arcs : Swaps (on_pair φ) (r.arcs ++ then_second.arcs) (q.arcs ++ then_first.arcs)
  pub meetings : Swaps (on_pair φ) (r.meetings ++ then_second.meetings) (q.meetings ++ then_first.meetings)

-- a parallel shows no ✓ of a side
pub shows_on : {x : ℕ} {v e : Event} → Shows x v e → e ≡ ✓ → ⊥
shows_on (passes h) p = let z : ◌≡◌ {A = ℕ} 0 1 = cc in omega arith
shows_on hides_τ p = let z : ◌≡◌ {A = ℕ} 0 1 = cc in omega arith
shows_on hides-✓ p = let z : ◌≡◌ {A = ℕ} 0 1 = cc in omega arith

-- a map that fixes what is drawn by then fixes what entering a side adds
entry_labels : (φ : ℕ → ℕ) (own other : Option ℕ) (w : Place) (s : At) → φ s.reference ≡ s.reference
    → map (on_label φ) (first_eval own other w s).labels ≡ (first_eval own other w s).labels
unfolding first_eval
entry_labels φ (some n) other w s e = refl
entry_labels φ none (some o) w s e = refl
entry_labels φ none none w s e = rw e

entry_arcs : (φ : ℕ → ℕ) (own other : Option ℕ) (w : Place) (s : At)
    → ((n : ℕ) → n < (first_eval own other w s).fresh → φ n ≡ n) → φ s.reference ≡ s.reference
    → map (on_pair φ) (first_eval own other w s).arcs ≡ (first_eval own other w s).arcs
unfolding first_eval
entry_arcs φ (some n) other w s h e = refl
entry_arcs φ none (some o) w s h e = rw (e, h s.fresh (omega arith))
entry_arcs φ none none w s h e = rw (e, h s.fresh (omega arith))

module _ (ts : List Term) where
  -- behind a side's step the side is entered
  side_behind : (h : Hand) {b : Address} (w : Place) (x : ℕ) (m n : Option ℕ) (Q : Process) (s : At)
      (r o : Outcome)
      (d e : Event) → Tracks ts b r.process (behind (inside (first_eval m n w s) s) r) o
      → Shows x o.event e
      → Tracks ts (digit h ∷ b) (by_side h w x m n Q s r d).process (behind s (by_side h w x m n Q s r d))
      (by_side h w x (some r.reference) n Q (behind s (by_side h w x m n Q s r d)) o e)
  unfolding around first_eval
  side_behind h {b = b} w x m n Q s r o d e t v =
      let i = first_eval m n w s in
      let there = append_assoc s.arcs i.arcs r.arcs ∙ sym
      (append-nil (s.arcs ++ (i.arcs ++ r.arcs))) in
      side_tracks ts h w x (some r.reference) n r.process Q (behind s (by_side h w x m n Q s r d)) o e
      (subst (λ g. Tracks ts b r.process
      (record { reference = r.reference; fresh = r.fresh; arcs = g }) o) there t) v

  -- a parallel above, by the same side twice
  pub exchange_beside : (h : Hand) (a b : Address) (w : Place) (x : ℕ) (m n : Option ℕ) (P Q : Process) (s : At)
      (r q : Outcome) (d e : Event) → Stands (sided h w (together x) m n P Q) s → Shows x r.event d
      → Shows x q.event e → EitherOrder ts a b (inside (first_eval m n w s) s) r q
      → EitherOrder ts (digit h ∷ a) (digit h ∷ b) s (by_side h w x m n Q s r d) (by_side h w x m n Q s q e)
  unfolding around first_eval renamed_side
  exchange_beside h a b w x m n P Q s r q d e z v v' k =
      let i = first_eval m n w s in
      let φ = k.φ in
      let more : s.fresh ≤ i.fresh = (entering_draws m n w s).more in
      let fixes : (j : ℕ) → j < s.fresh → φ j ≡ j = λ j l. k.fixes j (omega (arith, more, l)) in
      let stays = fixes s.reference (stands_below z) in
      let (own, whole) = other_under w (together x) m n P Q s h z in
      let o = k.then_second in
      let o' = k.then_first in
      record {
        φ = φ;
        ψ = k.ψ;
        then_second = by_side h w x (some r.reference) n Q (behind s (by_side h w x m n Q s r d)) o e;
        then_first = by_side h w x (some q.reference) n Q (behind s (by_side h w x m n Q s q e)) o' d;
        fixes = fixes;
        back = k.back;
        forth = k.forth;
        second_tracks = side_behind h w x m n Q s r o d e k.second_tracks
            (subst (λ v. Shows x v e) (sym k.second_event) v');
        first_tracks = side_behind h w x m n Q s q o' e d k.first_tracks
            (subst (λ v. Shows x v d) (sym k.first_event) v);
        second_event = refl;
        first_event = refl;
        first_on = shows_on v;
        second_on = shows_on v';
        process =
            rw (
              sided_renamed φ h w (together x) (some o.reference) n o.process Q,
              k.process,
              k.reference,
              side_fixed φ s.fresh fixes n own,
              renamed_fixed φ s.fresh fixes Q whole,
            );
        reference = sym stays;
        fresh = k.fresh;
        labels = swaps_parts i.labels r.labels o.labels q.labels o'.labels
            (entry_labels φ m n w s stays)
            k.labels;
        arcs = swaps_parts i.arcs r.arcs o.arcs q.arcs o'.arcs
            (entry_arcs φ m n w s k.fixes stays)
            k.arcs;
        meetings = k.meetings;
      }

  -- a sequence above
  pub exchange_onward : (a b : Address) (w : Place) (c : Bool) (P Q : Process) (s : At) (r q : Outcome)
      → Stands (sequence w c P Q) s → EitherOrder ts a b s r q
      → EitherOrder ts a b s (carried r (sequence w true r.process Q))
      (carried q (sequence w true q.process Q))
  unfolding carried renamed
  exchange_onward a b w c P Q s r q z k =
      let o = k.then_second in
      let o' = k.then_first in
      let under : Under s.fresh Q = (stands_under z).1 in
      record {
        φ = k.φ;
        ψ = k.ψ;
        then_second = carried o (sequence w true o.process Q);
        then_first = carried o' (sequence w true o'.process Q);
        fixes = k.fixes;
        back = k.back;
        forth = k.forth;
        second_tracks = sequential_composition_1 k.second_tracks
            (λ p. k.second_on (sym k.second_event ∙ p));
        first_tracks = sequential_composition_1 k.first_tracks (λ p. k.first_on (sym k.first_event ∙ p));
        second_event = k.second_event;
        first_event = k.first_event;
        first_on = k.first_on;
        second_on = k.second_on;
        process = ap₂ (sequence w true) k.process (sym (renamed_fixed k.φ s.fresh k.fixes Q under));
        reference = k.reference;
        fresh = k.fresh;
        labels = k.labels;
        arcs = k.arcs;
        meetings = k.meetings;
      }
