-- A side that steps later: once other references have been drawn, d of them, a side has the derivation that
-- it had, with what it draws d on. Its references are fixed, and the arcs that were made meanwhile lead to
-- what was drawn meanwhile, which the side does not hold. Assumes nothing.
use Rattle.std.proofs.Common.{ℕ, ◌+◌, ◌≤◌, ◌<◌, ◌≡◌, refl, sym, ap₂, subst, Bool, true, false, List, [], ◌∷◌}
use Rattle.std.proofs.Common.{◌++◌, map, append-nil, arith, add-suc, ltb, ltb-true, ltb-false, ne_eqb}
use Rattle.std.proofs.Math.Option.{Option, none, some}
use Rattle.terms.specs.Term.{Term}
use Rattle.places.specs.Place.{Place}
use Rattle.rules.specs.Process.{Address, Process}
use Rattle.rules.specs.Track.{Pair, pair, At, Outcome, Entered, first_eval, inside, leads, parents}
use Rattle.rules.specs.Tracking.{Tracks}
use Rattle.rules.proofs.Outward.{Outward, draws, entering_draws}
use Rattle.exchange.specs.Renamed.{renamed_side}
use Rattle.exchange.proofs.References.{SideUnder, Under, under_more, renamed_fixed}
use Rattle.exchange.proofs.Ends.{Ends, Before}
use Rattle.exchange.proofs.RenamedSteps.{on_pair, Moves, Alike, alike_append, alike_renamed}
use Rattle.exchange.proofs.RenamedSteps.{alike_more, renamed_outcome, tracks_renamed}

-- pairs with both ends below f are fixed by a map that fixes what is below f
pub pairs_fixed : (φ : ℕ → ℕ) (f : ℕ) → ((n : ℕ) → n < f → φ n ≡ n) → (g : List Pair) → Ends f g
    → map (on_pair φ) g ≡ g
pairs_fixed φ f fixes [] u = refl
pairs_fixed φ f fixes (a ∷ g) u =
    ap₂ (λ b h. b ∷ h) (ap₂ pair (fixes a.from u.0) (fixes a.to u.1))
    (pairs_fixed φ f fixes g u.2)

-- where a one-to-one map fixes what is below f, and moves on what is drawn from there
module _ (φ : ℕ → ℕ) (d f : ℕ) (apart : (n m : ℕ) → φ n ≡ φ m → n ≡ m) (fixes : (n : ℕ) → n < f → φ n ≡ n)
    (b : ℕ) (moves : Moves φ d b f) where
  -- nothing that is held is carried to what is drawn meanwhile
  leads_past : (m : Option ℕ) (j : ℕ) → SideUnder b m → f ≤ j → j < d + f → leads (renamed_side φ m) j ≡ false
  unfolding leads renamed_side
  leads_past none j u h l = refl
  leads_past (some n) j u h l = go (ltb n f) refl
    where
      go : (c : Bool) → ltb n f ≡ c → leads (some (φ n)) j ≡ false
      go true e =
          let low = ltb-true n f e in
          ne_eqb (φ n) j (λ p. omega (arith, p, fixes n low, low, h))
      go false e =
          let high = ltb-false n f e in
          ne_eqb (φ n) j (λ p. omega (arith, p, moves n high u, high, l))

  -- so arcs to it make no parents
  past_alike : (h : List Pair) → Outward f h → Before (d + f) h → Alike φ b [] h
  unfolding parents
  past_alike [] o u m n v v' k = refl
  past_alike (a ∷ h) o u m n v v' k =
      rw (leads_past m a.to v o.0 u.0, leads_past n a.to v' o.0 u.0)
      (past_alike h o.1 u.1 m n v v' k)

  -- and leave those that there were
  more_alike : (g h : List Pair) → Ends f g → Outward f h → Before (d + f) h → Alike φ b g (g ++ h)
  more_alike g h v o u =
      subst (λ k. Alike φ b k (g ++ h)) (append-nil g)
      (subst (λ k. Alike φ b (g ++ []) (k ++ h)) (pairs_fixed φ f fixes g v)
      (alike_append φ b g (map (on_pair φ) g) [] h (alike_renamed φ b apart g) (past_alike h o u)))

-- an entering where the operator's node has been labelled
abbrev pub entered_later : (ℕ → ℕ) → ℕ → Entered → Entered
entered_later φ d i =
    record { reference = φ i.reference; fresh = d + i.fresh; labels = []; arcs = map (on_pair φ) i.arcs }

-- where the operator stands again, d references and some arcs later
abbrev pub again : ℕ → At → List Pair → At
again d s h = record { reference = s.reference; fresh = d + s.fresh; arcs = s.arcs ++ h }

-- from where s stands; h are the arcs made meanwhile
module _ (φ : ℕ → ℕ) (d : ℕ) (s : At) (h : List Pair) (apart : (n m : ℕ) → φ n ≡ φ m → n ≡ m)
    (fixes : (n : ℕ) → n < s.fresh → φ n ≡ n) (below : s.reference < s.fresh)
    (ends : Ends s.fresh s.arcs) (outward : Outward s.fresh h) (before : Before (d + s.fresh) h) where
  -- entering the side then
  pub entering_later : (own other : Option ℕ) (o : ℕ) (w : Place) → SideUnder s.fresh own → (b : ℕ)
      → Moves φ d b s.fresh → (first_eval own other w s).fresh ≤ b
      → first_eval own (some o) w (again d s h) ≡ entered_later φ d (first_eval own other w s)
  unfolding first_eval
  entering_later (some n) other o w u b v l = rw (fixes n u)
  entering_later none (some o') o w u b v l =
      rw (v s.fresh (omega arith) (omega (arith, l)), fixes s.reference below, add-suc d s.fresh)
  entering_later none none o w u b v l =
      rw (v s.fresh (omega arith) (omega (arith, l)), fixes s.reference below, add-suc d s.fresh)

  -- the side's derivation
  pub steps_later : (ts : List Term) {a : Address} {Q : Process} {r : Outcome} (own other : Option ℕ) (o : ℕ)
      (w : Place) → Tracks ts a Q (inside (first_eval own other w s) s) r → SideUnder s.fresh own
      → Under s.fresh Q → Moves φ d r.fresh s.fresh
      → Tracks ts a Q (inside (first_eval own (some o) w (again d s h)) (again d s h)) (renamed_outcome φ d r)
  steps_later ts {a = a} {Q = Q} {r = r} own other o w t u v on =
      let i = first_eval own other w s in
      let b = r.fresh in
      let more : i.fresh ≤ b = (draws ts t).more in
      let begun : s.fresh ≤ i.fresh = (entering_draws own other w s).more in
      let alike = alike_more φ b apart s.arcs (s.arcs ++ h) i.arcs
      (more_alike φ d s.fresh apart fixes b on s.arcs h ends outward before) in
      let g = (s.arcs ++ h) ++ map (on_pair φ) i.arcs in
      let under = under_more s.fresh b Q (omega (arith, begun, more)) v in
      let moved_on = tracks_renamed φ d b apart ts t g under
      (λ n l. on n (omega (arith, begun, l))) (omega arith) alike in
      subst (λ i. Tracks ts a Q (inside i (again d s h)) (renamed_outcome φ d r))
      (sym (entering_later own other o w u b on more))
      (subst (λ Q. Tracks ts a Q (inside (entered_later φ d i) (again d s h)) (renamed_outcome φ d r))
      (renamed_fixed φ s.fresh fixes Q v) moved_on)
