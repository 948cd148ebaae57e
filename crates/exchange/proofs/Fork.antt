-- The fork: two steps in opposite sides of a parallel. Either side steps behind the other as it would have
-- stepped first, with what it draws behind what the other drew; so the two orders draw the same two blocks of
-- references, the one this way round and the other that, and differ by the block swap. Assumes nothing.
use Rattle.std.proofs.Common.{ℕ, ◌+◌, ◌-◌, ◌≤◌, ◌<◌, ◌≡◌, refl, sym, ap, ap₂, subst, ◌∙◌, List, [], ◌∷◌, ◌++◌}
use Rattle.std.proofs.Common.{map, arith}
use Rattle.std.proofs.Math.Option.{Option, none, some}
use Rattle.terms.specs.Term.{Term}
use Rattle.places.specs.Place.{Place}
use Rattle.rules.specs.declared.Event.{Event}
use Rattle.rules.specs.Process.{Address, together, Process}
use Rattle.rules.specs.Track.{Label, Pair, pair, At, Outcome, Entered, first_eval, inside, around}
use Rattle.rules.specs.Tracking.{Shows, Tracks}
use Rattle.rules.proofs.Outward.{draws}
use Rattle.exchange.specs.Renamed.{renamed_side, renamed}
use Rattle.exchange.proofs.References.{renamed_back}
use Rattle.exchange.proofs.Ends.{Before, draws_before}
use Rattle.exchange.proofs.RenamedSteps.{on_label, on_pair, Moves, renamed_outcome}
use Rattle.exchange.proofs.Blocks.{block_swap, swap_below, swap_first, swap_back, swap_apart}
use Rattle.exchange.proofs.Hands.{Hand, left, right, opposite, digit, sided, turned, sided_renamed}
use Rattle.exchange.proofs.Hands.{by_side, side_tracks, side_tracked, Stands, stands_below}
use Rattle.exchange.proofs.Hands.{stands_turned, other_under}
use Rattle.exchange.proofs.Later.{entered_later, again, entering_later, steps_later}
use Rattle.exchange.proofs.Swapped.{crossed, crossed_parts}
use Rattle.exchange.proofs.Levels.{behind, EitherOrder, shows_on}

-- a parallel whose sides have both stepped, in the one order and in the other
crossed_process : (φ ψ : ℕ → ℕ) → ((n : ℕ) → φ (ψ n) ≡ n) → (h : Hand) (w : Place) (a b x : ℕ) (P Q : Process)
    → sided (opposite h) w (together x) (some b) (some (φ a)) Q (renamed φ P)
    ≡ renamed φ (sided h w (together x) (some a) (some (ψ b)) P (renamed ψ Q))
unfolding renamed_side
crossed_process φ ψ forth h w a b x P Q =
    turned h w (together x) (some (φ a)) (some b) (renamed φ P) Q
    ∙ ap₂ (λ c R. sided h w (together x) (some (φ a)) (some c) (renamed φ P) R) (sym (forth b))
    (sym (renamed_back φ ψ forth Q))
    ∙ sym (sided_renamed φ h w (together x) (some a) (some (ψ b)) P (renamed ψ Q))

-- a label with another reference
abbrev relabelled : Label → ℕ → Label
relabelled l n = record { reference = n; place = l.place }

-- either side's entering labels the node, whichever comes first
entries_label : (φ : ℕ → ℕ) (m n : Option ℕ) (w : Place) (s : At) → φ s.reference ≡ s.reference
    → map (on_label φ) (first_eval m n w s).labels ≡ (first_eval n m w s).labels
unfolding first_eval
entries_label φ (some m) (some n) w s e = refl
entries_label φ (some m) none w s e = refl
entries_label φ none (some n) w s e = refl
entries_label φ none none w s e = rw e

-- the other side's other side
twice : (h : Hand) → opposite (opposite h) ≡ h
twice left = refl
twice right = refl

-- the other side's step q, behind a step of the side on hand h
abbrev later : Hand → (ℕ → ℕ) → ℕ → Place → ℕ → Option ℕ → Option ℕ → At → Outcome → Outcome → Event → Outcome
later h φ d w x m n s r q e =
    around (entered_later φ d (first_eval n m w s)) (renamed_outcome φ d q) e
    (sided h w (together x) (some r.reference) (some (φ q.reference)) r.process
    (renamed φ q.process))
    s.reference

module _ (ts : List Term) (w : Place) (x : ℕ) (s : At) where
  -- the derivation of the other side's step, behind a step of the side on hand h
  then_other : (h : Hand) {a b : Address} (m n : Option ℕ) (P Q : Process) (r q : Outcome) (d : Event)
      (e : Event)
      (φ : ℕ → ℕ) (k : ℕ) → Stands (sided h w (together x) m n P Q) s
      → Tracks ts (digit h ∷ a) (sided h w (together x) m n P Q) s (by_side h w x m n Q s r d)
      → Tracks ts b Q (inside (first_eval n m w s) s) q → Shows x q.event e
      → ((i j : ℕ) → φ i ≡ φ j → i ≡ j) → ((i : ℕ) → i < s.fresh → φ i ≡ i) → Moves φ k q.fresh s.fresh
      → r.fresh ≡ k + s.fresh
      → Tracks ts (digit (opposite h) ∷ b) (by_side h w x m n Q s r d).process
      (behind s (by_side h w x m n Q s r d))
      (later h φ k w x m n s r q e)
  unfolding around renamed_outcome
  then_other h {b = b} m n P Q r q d e φ k z t t' v apart fixes moves at =
      let o : Outcome = by_side h w x m n Q s r d in
      let g = o.arcs in
      let below = stands_below z in
      let before : Before (k + s.fresh) g = subst (λ f. Before f g) at (draws_before ts t) in
      let (own, whole) = other_under w (together x) m n P Q s h z in
      let outward = (draws ts t).outward in
      let inner = steps_later φ k s g apart fixes below z.ends outward before ts n m
      r.reference w t' own whole moves in
      let more : (first_eval n m w s).fresh ≤ q.fresh = (draws ts t').more in
      let entry = entering_later φ k s g apart fixes below z.ends outward before n m r.reference w own
      q.fresh moves more in
      let step = side_tracks ts (opposite h) w x n (some r.reference) Q r.process (again k s g)
      (renamed_outcome φ k q) e inner v in
      let standing : ℕ → At = λ f. record { reference = s.reference; fresh = f; arcs = s.arcs ++ g } in
      let result : Entered → Outcome = λ i. around i (renamed_outcome φ k q) e
      (sided (opposite h) w (together x) (some (φ q.reference)) (some r.reference)
      (renamed φ q.process)
      r.process) s.reference in
      let turn = turned h w (together x) (some r.reference) (some (φ q.reference)) r.process
      (renamed φ q.process) in
      subst (λ u. Tracks ts (digit (opposite h) ∷ b) o.process u (later h φ k w x m n s r q e))
      (ap standing (sym at))
      (subst (λ R. Tracks ts (digit (opposite h) ∷ b) R (again k s g) (later h φ k w x m n s r q e))
      (turned h w (together x) (some r.reference) n r.process Q)
      (subst (Tracks ts (digit (opposite h) ∷ b)
      (sided (opposite h) w (together x) n (some r.reference) Q r.process) (again k s g))
      (ap result entry
      ∙ ap (λ R. around (entered_later φ k (first_eval n m w s)) (renamed_outcome φ k q) e R
      s.reference) turn)
      step))

  -- each behind the other
  forked : (h : Hand) {a b : Address} (m n : Option ℕ) (P Q : Process) (r q : Outcome) (d e : Event)
      → Stands (sided h w (together x) m n P Q) s → Tracks ts a P (inside (first_eval m n w s) s) r
      → Shows x r.event d
      → Tracks ts b Q (inside (first_eval n m w s) s) q → Shows x q.event e
      → EitherOrder ts (digit h ∷ a) (digit (opposite h) ∷ b) s (by_side h w x m n Q s r d)
      (by_side (opposite h) w x n m P s q e)
  unfolding around renamed_outcome renamed_side
  forked h {a = a} {b = b} m n P Q r q d e z t v t' v' =
      let f = s.fresh in
      let i = first_eval m n w s in
      let j = first_eval n m w s in
      let drawn : ℕ = r.fresh - f in
      let drawn' : ℕ = q.fresh - f in
      let φ = block_swap f drawn drawn' in
      let ψ = block_swap f drawn' drawn in
      let forth = swap_back f drawn' drawn in
      let z' = stands_turned w (together x) m n P Q s h z in
      let whole = side_tracks ts h w x m n P Q s r d t v in
      let whole' = side_tracks ts (opposite h) w x n m Q P s q e t' v' in
      let more : f ≤ r.fresh = (draws ts whole).more in
      let more' : f ≤ q.fresh = (draws ts whole').more in
      let at : r.fresh ≡ drawn + f = omega (arith, more) in
      let at' : q.fresh ≡ drawn' + f = omega (arith, more') in
      let on_pairs : (c : Pair) → on_pair φ (on_pair ψ c) ≡ c = λ c. ap₂ pair (forth c.from)
      (forth c.to) in
      let stays = swap_below f drawn drawn' s.reference (stands_below z) in
      record {
        φ = φ;
        ψ = ψ;
        then_second = later h ψ drawn w x m n s r q e;
        then_first = later (opposite h) φ drawn' w x n m s q r d;
        fixes = swap_below f drawn drawn';
        back = swap_back f drawn drawn';
        forth = forth;
        second_tracks = then_other h m n P Q r q d e ψ drawn z whole t' v' (swap_apart f drawn' drawn)
            (swap_below f drawn' drawn) (λ k l g. swap_first f drawn' drawn k l (omega (arith, at', g))) at;
        first_tracks = subst (λ o. Tracks ts (digit o ∷ a) (by_side (opposite h) w x n m P s q e).process
            (behind s (by_side (opposite h) w x n m P s q e)) (later (opposite h) φ drawn' w x n m s q r d))
            (twice h)
            (then_other (opposite h) n m Q P q r e d φ drawn' z' whole' t v (swap_apart f drawn drawn')
            (swap_below f drawn drawn') (λ k l g. swap_first f drawn drawn' k l (omega (arith, at, g))) at');
        second_event = refl;
        first_event = refl;
        first_on = shows_on v;
        second_on = shows_on v';
        process = crossed_process φ ψ forth h w r.reference q.reference x r.process q.process;
        reference = sym stays;
        fresh = omega (arith, at, at');
        labels = crossed (on_label φ) (on_label ψ) (λ l. ap (relabelled l) (forth l.reference)) i.labels
            j.labels
            r.labels q.labels (entries_label φ m n w s stays);
        arcs = crossed_parts (on_pair φ) (on_pair ψ) on_pairs i.arcs r.arcs j.arcs q.arcs;
        meetings = crossed (on_pair φ) (on_pair ψ) on_pairs [] [] r.meetings q.meetings refl;
      }

  -- so for any two derivations by opposite digits
  pub exchange_forked : (h : Hand) (a b : Address) (m n : Option ℕ) (P Q : Process) (r q : Outcome)
      → Stands (sided h w (together x) m n P Q) s → Tracks ts (digit h ∷ a) (sided h w (together x) m n P Q) s r
      → Tracks ts (digit (opposite h) ∷ b) (sided h w (together x) m n P Q) s q
      → EitherOrder ts (digit h ∷ a) (digit (opposite h) ∷ b) s r q
  exchange_forked h a b m n P Q r q z t t' =
      let (r₁, d, on, v, is) = side_tracked ts h a w x m n P Q s r t in
      let (q₁, e, on', v', is') = side_tracked ts (opposite h) b w x n m Q P s q
      (subst (λ R. Tracks ts (digit (opposite h) ∷ b) R s q) (sym (turned h w (together x) m n P Q)) t') in
      subst (EitherOrder ts (digit h ∷ a) (digit (opposite h) ∷ b) s r) is'
      (subst (λ o. EitherOrder ts (digit h ∷ a) (digit (opposite h) ∷ b) s o
      (by_side (opposite h) w x n m P s q₁ e)) is
      (forked h m n P Q r₁ q₁ d e z on v on' v'))
