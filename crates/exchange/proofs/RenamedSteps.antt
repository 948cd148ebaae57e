-- A derivation with other references. Where a one-to-one map carries the current reference, moves every
-- reference that is drawn on by d, and carries the arcs into what the process holds, the same address names a
-- derivation for the renamed process, and its outcome is the renamed one. By the derivation, rule by rule;
-- only rule 4 reads arcs, and other arcs do not matter to it. Assumes nothing.
use Rattle.std.proofs.Common.{ℕ, suc, ◌+◌, ◌≤◌, ◌<◌, ◌≡◌, refl, sym, ap, subst, ◌∙◌, Bool, true, false, List}
use Rattle.std.proofs.Common.{[], ◌∷◌, ◌++◌, map, arith, add-suc, eqb, eqb-true, eq-eqb, ne_eqb}
use Rattle.std.proofs.lemmas.Bool.{eqb-false}
use Rattle.std.proofs.lemmas.List.{map-append}
use Rattle.std.proofs.Math.Option.{Option, none, some}
use Rattle.std.proofs.Math.ListN.{get_elem?}
use Rattle.lines.specs.Line.{choose}
use Rattle.terms.specs.Term.{Term}
use Rattle.places.specs.Place.{Place}
use Rattle.rules.specs.declared.Event.{Event}
use Rattle.rules.specs.declared.Event.TheVariants.{Tau as τ}
use Rattle.rules.specs.Process.{Address, Process, split, rhs, Ω, ⊥', choice, together}
use Rattle.rules.specs.Track.{Label, Pair, pair, At, Outcome, labelled, prefixed, Entered, first_eval, inside}
use Rattle.rules.specs.Track.{around, beside, right_eval, each_with, meet, jointly, carried, started, leads}
use Rattle.rules.specs.Track.{parents, ended}
use Rattle.rules.specs.Tracking.{Tracks, process_call, prefixing, skip, stop, internal_choice_1}
use Rattle.rules.specs.Tracking.{internal_choice_2, external_choice_1, external_choice_2, external_choice_3}
use Rattle.rules.specs.Tracking.{external_choice_4, sequential_composition_1, sequential_composition_2}
use Rattle.rules.specs.Tracking.{synchronized_parallelism_1, synchronized_parallelism_2}
use Rattle.rules.specs.Tracking.{synchronized_parallelism_3, synchronized_parallelism_4}
use Rattle.rules.proofs.Marked.{rhs_unentered}
use Rattle.rules.proofs.Outward.{draws, entering_draws}
use Rattle.exchange.specs.Renamed.{renamed_side, renamed}
use Rattle.exchange.proofs.References.{SideUnder, Under, unentered_under, renamed_fixed}

-- labels, arcs and meetings with other references
abbrev pub on_label : (ℕ → ℕ) → Label → Label
on_label φ l = record { reference = φ l.reference; place = l.place }

abbrev pub on_pair : (ℕ → ℕ) → Pair → Pair
on_pair φ a = pair (φ a.from) (φ a.to)

-- a one-to-one map keeps apart what is apart
pub eqb_renamed : (φ : ℕ → ℕ) → ((n m : ℕ) → φ n ≡ φ m → n ≡ m) → (n m : ℕ) → eqb (φ n) (φ m) ≡ eqb n m
eqb_renamed φ apart n m = go (eqb n m) refl
  where
    go : (c : Bool) → eqb n m ≡ c → eqb (φ n) (φ m) ≡ c
    go true e = eq-eqb (φ n) (φ m) (ap φ (eqb-true n m e))
    go false e = ne_eqb (φ n) (φ m) (λ p. eqb-false n m e (apart n m p))

-- the pairs of mapped references
each_with_renamed : (φ : ℕ → ℕ) (x : ℕ) (ys : List ℕ) → each_with (φ x) (map φ ys) ≡ map (on_pair φ)
    (each_with x ys)
unfolding each_with
each_with_renamed φ x [] = refl
each_with_renamed φ x (y ∷ ys) = rw (each_with_renamed φ x ys)

meet_renamed : (φ : ℕ → ℕ) (xs ys : List ℕ) → meet (map φ xs) (map φ ys) ≡ map (on_pair φ) (meet xs ys)
unfolding meet
meet_renamed φ [] ys = refl
meet_renamed φ (x ∷ xs) ys =
    rw (each_with_renamed φ x ys, meet_renamed φ xs ys, map-append (on_pair φ) (each_with x ys) (meet xs ys))

-- parents by two lists of arcs
pub parents_append : (m n : Option ℕ) (k : ℕ) (g h : List Pair)
    → parents m n k (g ++ h) ≡ parents m n k g ++ parents m n k h
unfolding parents
parents_append m n k [] h = refl
parents_append m n k (a ∷ g) h = go (leads m a.to) (leads n a.to) (parents_append m n k g h)
  where
    go : (b c : Bool) → parents m n k (g ++ h) ≡ parents m n k g ++ parents m n k h
        → choose b (pair a.from k ∷ parents m n k (g ++ h))
        (choose c (pair a.from k ∷ parents m n k (g ++ h)) (parents m n k (g ++ h)))
        ≡ choose b (pair a.from k ∷ parents m n k g)
        (choose c (pair a.from k ∷ parents m n k g) (parents m n k g)) ++ parents m n k h
    go true c e = ap (λ as'. pair a.from k ∷ as') e
    go false true e = ap (λ as'. pair a.from k ∷ as') e
    go false false e = e

-- what is drawn from f on and is below b goes on by d
abbrev pub Moves : (ℕ → ℕ) → ℕ → ℕ → ℕ → Type 0
Moves φ d b f = (n : ℕ) → f ≤ n → n < b → φ n ≡ d + n

-- two lists of arcs are alike for the parents of references below b
abbrev pub Alike : (ℕ → ℕ) → ℕ → List Pair → List Pair → Type 0
Alike φ b g h = (m n : Option ℕ) → SideUnder b m → SideUnder b n → (k : ℕ)
    → parents (renamed_side φ m) (renamed_side φ n) (φ k) h ≡ map (on_pair φ) (parents m n k g)

module _ (φ : ℕ → ℕ) (b : ℕ) where
  pub alike_append : (g h g' h' : List Pair) → Alike φ b g h → Alike φ b g' h' → Alike φ b (g ++ g') (h ++ h')
  alike_append g h g' h' a a' m n u v k =
      parents_append (renamed_side φ m) (renamed_side φ n) (φ k) h h'
      ∙ rw (a m n u v k, a' m n u v k) (sym (map-append (on_pair φ) (parents m n k g) (parents m n k g')))
      ∙ ap (map (on_pair φ)) (sym (parents_append m n k g g'))

  -- mapped arcs are alike
  module _ (apart : (n m : ℕ) → φ n ≡ φ m → n ≡ m) where
    leads_renamed : (m : Option ℕ) (j : ℕ) → leads (renamed_side φ m) (φ j) ≡ leads m j
    unfolding leads renamed_side
    leads_renamed none j = refl
    leads_renamed (some n) j = eqb_renamed φ apart n j

    parents_renamed : (m n : Option ℕ) (k : ℕ) (g : List Pair)
        → parents (renamed_side φ m) (renamed_side φ n) (φ k) (map (on_pair φ) g) ≡ map (on_pair φ)
        (parents m n k g)
    unfolding parents
    parents_renamed m n k [] = refl
    parents_renamed m n k (a ∷ g) =
        rw (leads_renamed m a.to, leads_renamed n a.to, parents_renamed m n k g)
        (go (leads m a.to) (leads n a.to))
      where
        go : (c e : Bool)
            → choose c (pair (φ a.from) (φ k) ∷ map (on_pair φ) (parents m n k g))
            (choose e (pair (φ a.from) (φ k) ∷ map (on_pair φ) (parents m n k g))
            (map (on_pair φ) (parents m n k g)))
            ≡ map (on_pair φ) (choose c (pair a.from k ∷ parents m n k g)
            (choose e (pair a.from k ∷ parents m n k g) (parents m n k g)))
        go true e = refl
        go false true = refl
        go false false = refl

    -- and so are lists that go on by mapped arcs
    pub alike_renamed : (g : List Pair) → Alike φ b g (map (on_pair φ) g)
    alike_renamed g m n u v k = parents_renamed m n k g

    pub alike_more : (g h g' : List Pair) → Alike φ b g h → Alike φ b (g ++ g') (h ++ map (on_pair φ) g')
    alike_more g h g' a = alike_append g h g' (map (on_pair φ) g') a (alike_renamed g')

-- references go by φ, and the next fresh one on by d
module _ (φ : ℕ → ℕ) (d : ℕ) where
  -- where a process stands, an entering and an outcome, with other references
  abbrev pub moved : List Pair → At → At
  moved g s = record { reference = φ s.reference; fresh = d + s.fresh; arcs = g }

  abbrev pub renamed_entered : Entered → Entered
  renamed_entered i = record {
    reference = φ i.reference;
    fresh = d + i.fresh;
    labels = map (on_label φ) i.labels;
    arcs = map (on_pair φ) i.arcs;
  }

  unfoldable pub renamed_outcome : Outcome → Outcome
  renamed_outcome r = record {
    event = r.event;
    process = renamed φ r.process;
    reference = φ r.reference;
    fresh = d + r.fresh;
    labels = map (on_label φ) r.labels;
    arcs = map (on_pair φ) r.arcs;
    meetings = map (on_pair φ) r.meetings;
    met = map φ r.met;
  }

  -- by rule
  labelled_renamed : (e : Event) (P : Process) (w : Place) (s : At) (g : List Pair)
      → φ s.fresh ≡ d + s.fresh
      → labelled e (renamed φ P) w (moved g s) ≡ renamed_outcome (labelled e P w s)
  unfolding labelled renamed_outcome
  labelled_renamed e P w s g h = rw (h, add-suc d s.fresh)

  prefixed_renamed : (e : ℕ) (P : Process) (w : Place) (s : At) (g : List Pair) → φ s.fresh ≡ d + s.fresh
      → φ (suc s.fresh) ≡ d + suc s.fresh
      → prefixed e (renamed φ P) w (moved g s) ≡ renamed_outcome (prefixed e P w s)
  unfolding prefixed renamed_outcome
  prefixed_renamed e P w s g h k = rw (h, k, add-suc d (suc s.fresh), add-suc d s.fresh)

  around_renamed : (i : Entered) (r : Outcome) (e : Event) (P : Process) (m : ℕ)
      → around (renamed_entered i) (renamed_outcome r) e (renamed φ P) (φ m) ≡ renamed_outcome
      (around i r e P m)
  unfolding around renamed_outcome
  around_renamed i r e P m =
      rw (map-append (on_label φ) i.labels r.labels, map-append (on_pair φ) i.arcs r.arcs)

  jointly_renamed : (i : Entered) (l : Outcome) (j : Entered) (r : Outcome) (e : ℕ) (P : Process) (m : ℕ)
      → jointly (renamed_entered i) (renamed_outcome l) (renamed_entered j) (renamed_outcome r) e
      (renamed φ P) (φ m)
      ≡ renamed_outcome (jointly i l j r e P m)
  unfolding jointly renamed_outcome
  jointly_renamed i l j r e P m =
      rw (
        map-append (on_label φ) (i.labels ++ l.labels) (j.labels ++ r.labels),
        map-append (on_label φ) i.labels l.labels,
        map-append (on_label φ) j.labels r.labels,
        map-append (on_pair φ) (i.arcs ++ l.arcs) (j.arcs ++ r.arcs),
        map-append (on_pair φ) i.arcs l.arcs,
        map-append (on_pair φ) j.arcs r.arcs,
        map-append (on_pair φ) (l.meetings ++ r.meetings) (meet l.met r.met),
        map-append (on_pair φ) l.meetings r.meetings,
        meet_renamed φ l.met r.met,
        map-append φ l.met r.met,
      )

  started_renamed : (r : Outcome) (Q : Process) (w : Place) → φ r.fresh ≡ d + r.fresh
      → started (renamed_outcome r) (renamed φ Q) w ≡ renamed_outcome (started r Q w)
  unfolding started renamed_outcome
  started_renamed r Q w h =
      rw (
        map-append (on_label φ) r.labels (record { reference = r.reference; place = w } ∷ []),
        map-append (on_pair φ) r.arcs (pair r.reference r.fresh ∷ []),
        h,
        add-suc d r.fresh,
      )

  -- of references below b
  module _ (b : ℕ) (apart : (n m : ℕ) → φ n ≡ φ m → n ≡ m) where
    -- entering a side
    entered_renamed : (own other : Option ℕ) (w : Place) (s : At) (g : List Pair) → Moves φ d b s.fresh
        → (first_eval own other w s).fresh ≤ b
        → first_eval (renamed_side φ own) (renamed_side φ other) w (moved g s) ≡ renamed_entered
        (first_eval own other w s)
    unfolding first_eval renamed_side
    entered_renamed (some n) other w s g h l = refl
    entered_renamed none (some o) w s g h l = rw (
      h s.fresh (omega arith) (omega (arith, l)),
      add-suc d
          s.fresh,
    )
    entered_renamed none none w s g h l = rw (
      h s.fresh (omega arith) (omega (arith, l)),
      add-suc d
          s.fresh,
    )

    ended_renamed : (m n : Option ℕ) (s : At) (g : List Pair) → φ s.fresh ≡ d + s.fresh → SideUnder b m
        → SideUnder b n → Alike φ b s.arcs g
        → ended (renamed_side φ m) (renamed_side φ n) (moved g s) ≡ renamed_outcome (ended m n s)
    unfolding ended renamed_outcome renamed
    ended_renamed m n s g h u v a =
        let arcs = ap (λ k. parents (renamed_side φ m) (renamed_side φ n) k g) (sym h) ∙ a m n u v s.fresh in
        rw (arcs, h, add-suc d s.fresh)

    module _ (ts : List Term) where
      -- a side's step: what it comes to, where the side is told of
      into_side : {a : Address} (P : Process) (r : Outcome) (own other : Option ℕ) (w : Place) (s : At)
          (g : List Pair)
          → Moves φ d b s.fresh → (first_eval own other w s).fresh ≤ b
          → Tracks ts a (renamed φ P) (moved (g ++ map (on_pair φ) (first_eval own other w s).arcs)
          (inside (first_eval own other w s) s)) (renamed_outcome r)
          → Tracks ts a (renamed φ P)
          (inside (first_eval (renamed_side φ own) (renamed_side φ other) w (moved g s)) (moved g s))
          (renamed_outcome r)
      into_side {a = a} P r own other w s g h l t =
          subst (λ i. Tracks ts a (renamed φ P) (inside i (moved g s)) (renamed_outcome r))
          (sym (entered_renamed own other w s g h l)) t

      out_of_side : (own other : Option ℕ) (w : Place) (s : At) (g : List Pair) (r : Outcome) (e : Event)
          (P : Process)
          (m : ℕ) → Moves φ d b s.fresh → (first_eval own other w s).fresh ≤ b
          → around (first_eval (renamed_side φ own) (renamed_side φ other) w (moved g s)) (renamed_outcome r) e
          (renamed φ P) (φ m) ≡ renamed_outcome (around (first_eval own other w s) r e P m)
      out_of_side own other w s g r e P m h l =
          ap (λ i. around i (renamed_outcome r) e (renamed φ P) (φ m)) (entered_renamed own other w s g h l)
          ∙ around_renamed (first_eval own other w s) r e P m

      -- the bound holds for the entering, and a side's derivation is told of the renamed side
      side_bound : {a : Address} {P : Process} {r : Outcome} (own other : Option ℕ) (w : Place) (s : At)
          → Tracks ts a P (inside (first_eval own other w s) s) r → r.fresh ≤ b
          → (first_eval own other w s).fresh ≤ b
      side_bound {r = r} own other w s t l =
          let more : (first_eval own other w s).fresh ≤ r.fresh = (draws ts t).more in
          omega (arith, more, l)

      side_renamed : {a : Address} {P : Process} {r : Outcome} (own other : Option ℕ) (w : Place) (s : At)
          (g : List Pair)
          → Moves φ d b s.fresh → r.fresh ≤ b → Alike φ b s.arcs g
          → Tracks ts a P (inside (first_eval own other w s) s) r
          → ((g' : List Pair) → Moves φ d b (first_eval own other w s).fresh
          → Alike φ b (s.arcs ++ (first_eval own other w s).arcs) g'
          → Tracks ts a (renamed φ P) (moved g' (inside (first_eval own other w s) s)) (renamed_outcome r))
          → Tracks ts a (renamed φ P)
          (inside (first_eval (renamed_side φ own) (renamed_side φ other) w (moved g s)) (moved g s))
          (renamed_outcome r)
      side_renamed {P = P} {r = r} own other w s g v l k t inner =
          let i = first_eval own other w s in
          let more : s.fresh ≤ i.fresh = (entering_draws own other w s).more in
          let on : Moves φ d b i.fresh = λ n h. v n (omega (arith, more, h)) in
          into_side P r own other w s g v (side_bound own other w s t l)
          (inner (g ++ map (on_pair φ) i.arcs) on (alike_more φ b apart s.arcs g i.arcs k))

      -- each rule
      pub tracks_renamed : {a : Address} {P : Process} {s : At} {r : Outcome} → Tracks ts a P s r
          → (g : List Pair)
          → Under b P → Moves φ d b s.fresh → r.fresh ≤ b → Alike φ b s.arcs g
          → Tracks ts a (renamed φ P) (moved g s) (renamed_outcome r)
      unfolding labelled prefixed around jointly carried started ended renamed renamed_side renamed_outcome
      tracks_renamed (process_call {n = n} {w = w} {s = s}) g u v l k =
          let same = renamed_fixed φ 0 (λ m h. absurd (omega (arith, h))) (rhs ts n)
          (unentered_under 0 (rhs ts n) (rhs_unentered n (get_elem? ts n))) in
          subst (Tracks ts [] _ (moved g s))
          (ap (λ P. labelled τ P w (moved g s)) (sym same)
          ∙ labelled_renamed _ (rhs ts n) w s g (v s.fresh (omega arith) (omega (arith, l)))) process_call
      tracks_renamed (prefixing {a = e} {w = w} {P = P} {s = s}) g u v l k =
          subst (Tracks ts [] _ (moved g s))
          (prefixed_renamed e P w s g (v s.fresh (omega arith) (omega (arith, l)))
          (v (suc s.fresh) (omega arith) (omega (arith, l)))) prefixing
      tracks_renamed (skip {w = w} {s = s}) g u v l k =
          subst (Tracks ts [] _ (moved g s))
          (labelled_renamed _ Ω w s g (v s.fresh (omega arith) (omega (arith, l)))) skip
      tracks_renamed (stop {w = w} {s = s}) g u v l k =
          subst (Tracks ts [] _ (moved g s))
          (labelled_renamed _ ⊥' w s g (v s.fresh (omega arith) (omega (arith, l)))) stop
      tracks_renamed (internal_choice_1 {w = w} {P = P} {s = s}) g u v l k =
          subst (Tracks ts _ _ (moved g s))
          (labelled_renamed _ P w s g (v s.fresh (omega arith) (omega (arith, l)))) internal_choice_1
      tracks_renamed (internal_choice_2 {w = w} {Q = Q} {s = s}) g u v l k =
          subst (Tracks ts _ _ (moved g s))
          (labelled_renamed _ Q w s g (v s.fresh (omega arith) (omega (arith, l)))) internal_choice_2
      tracks_renamed (external_choice_1 {w = w} {n₁ = m} {n₂ = n} {Q = Q} {s = s} {r = r} t e) g u v l k =
          let R = split w choice (some r.reference) n r.process Q in
          subst (Tracks ts _ _ (moved g s)) (out_of_side m n w s g r _ R _ v (side_bound m n w s t l))
          (external_choice_1
          (side_renamed m n w s g v l k t (λ g' v' k'. tracks_renamed t g' u.2 v' l k')) e)
      tracks_renamed (external_choice_2 {w = w} {n₁ = m} {n₂ = n} {P = P} {s = s} {r = r} t e) g u v l k =
          let R = split w choice m (some r.reference) P r.process in
          subst (Tracks ts _ _ (moved g s)) (out_of_side n m w s g r _ R _ v (side_bound n m w s t l))
          (external_choice_2
          (side_renamed n m w s g v l k t (λ g' v' k'. tracks_renamed t g' u.3 v' l k')) e)
      tracks_renamed (external_choice_3 {w = w} {n₁ = m} {n₂ = n} {s = s} {r = r} t e) g u v l k =
          subst (Tracks ts _ _ (moved g s)) (out_of_side m n w s g r _ r.process _ v
          (side_bound m n w s t l))
          (external_choice_3
          (side_renamed m n w s g v l k t (λ g' v' k'. tracks_renamed t g' u.2 v' l k')) e)
      tracks_renamed (external_choice_4 {w = w} {n₁ = m} {n₂ = n} {s = s} {r = r} t e) g u v l k =
          subst (Tracks ts _ _ (moved g s)) (out_of_side n m w s g r _ r.process _ v
          (side_bound n m w s t l))
          (external_choice_4
          (side_renamed n m w s g v l k t (λ g' v' k'. tracks_renamed t g' u.3 v' l k')) e)
      tracks_renamed (sequential_composition_1 t e) g u v l k =
          sequential_composition_1 (tracks_renamed t g u.0 v l k) e
      tracks_renamed (sequential_composition_2 {w = w} {Q = Q} {s = s} {r = r} t e) g u v l k =
          let more = (draws ts t).more in
          subst (Tracks ts _ _ (moved g s))
          (started_renamed r Q w (v r.fresh more (omega (arith, l))))
          (sequential_composition_2 (tracks_renamed t g u.0 v (omega (arith, l)) k) e)
      tracks_renamed (synchronized_parallelism_1 {w = w} {x = x} {n₁ = m} {n₂ = n} {Q = Q} {s = s} {r = r} t e)
          g u v l k =
          let R = split w (together x) (some r.reference) n r.process Q in
          subst (Tracks ts _ _ (moved g s)) (out_of_side m n w s g r _ R _ v (side_bound m n w s t l))
          (synchronized_parallelism_1
          (side_renamed m n w s g v l k t (λ g' v' k'. tracks_renamed t g' u.2 v' l k')) e)
      tracks_renamed (synchronized_parallelism_2 {w = w} {x = x} {n₁ = m} {n₂ = n} {P = P} {s = s} {r = r} t e)
          g u v l k =
          let R = split w (together x) m (some r.reference) P r.process in
          subst (Tracks ts _ _ (moved g s)) (out_of_side n m w s g r _ R _ v (side_bound n m w s t l))
          (synchronized_parallelism_2
          (side_renamed n m w s g v l k t (λ g' v' k'. tracks_renamed t g' u.3 v' l k')) e)
      tracks_renamed (synchronized_parallelism_3 {b = a'} {w = w} {x = x} {n₁ = m} {n₂ = n} {Q = Q} {s = s}
          {l = o} {r = r} {e = e} t t' f f' c p) g u v l k =
          let i = first_eval m n w s in
          let there : At = beside s i o in
          let here = some i.reference in
          let g' = (g ++ map (on_pair φ) i.arcs) ++ map (on_pair φ) o.arcs in
          let left_first : i.fresh ≤ o.fresh = (draws ts t).more in
          let begun : s.fresh ≤ i.fresh = (entering_draws m n w s).more in
          let right_first : (first_eval n here w there).fresh ≤ r.fresh = (draws ts t').more in
          let begun' : o.fresh ≤ (first_eval n here w there).fresh = (entering_draws n here w there).more in
          let left_under : o.fresh ≤ b = omega (arith, l, right_first, begun') in
          let on : Moves φ d b o.fresh = λ j h. v j (omega (arith, begun, left_first, h)) in
          let on_arcs = alike_more φ b apart (s.arcs ++ i.arcs) (g ++ map (on_pair φ) i.arcs) o.arcs
          (alike_more φ b apart s.arcs g i.arcs k) in
          let same_left = entered_renamed m n w s g v (side_bound m n w s t left_under) in
          let same_right = entered_renamed n here w there g' on (side_bound n here w there t' l) in
          let left = side_renamed m n w s g v left_under k t
          (λ g' v' k'. tracks_renamed t g' u.2 v' left_under k') in
          let right = side_renamed n here w there g' on l on_arcs t'
          (λ g' v' k'. tracks_renamed t' g' u.3 v' l k') in
          let R = split w (together x) (some o.reference) (some r.reference) o.process r.process in
          let right_there : Entered → Entered =
          λ i. first_eval (renamed_side φ n) (some i.reference) w
          (beside (moved g s) i (renamed_outcome o)) in
          subst (Tracks ts _ _ (moved g s))
          (ap (λ i. jointly i (renamed_outcome o) (right_there i) (renamed_outcome r) e (renamed φ R)
          (φ s.reference))
          same_left
          ∙ ap (λ j. jointly (renamed_entered i) (renamed_outcome o) j (renamed_outcome r) e (renamed φ R)
          (φ s.reference)) same_right
          ∙ jointly_renamed i o (right_eval m n w s o) r e R s.reference)
          (synchronized_parallelism_3 left
          (subst (λ i. Tracks ts a' (renamed φ Q) (inside (right_there i)
          (beside (moved g s) i (renamed_outcome o)))
          (renamed_outcome r)) (sym same_left) right) f f' c p)
      tracks_renamed (synchronized_parallelism_4 {w = w} {x = x} {n₁ = m} {n₂ = n} {s = s} p q) g u v l k =
          subst (Tracks ts _ _ (moved g s))
          (ended_renamed m n s g (v s.fresh (omega arith) (omega (arith, l))) u.0 u.1 k)
          (synchronized_parallelism_4 (ap (renamed φ) p) (ap (renamed φ) q))
