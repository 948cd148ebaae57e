-- Parents: in every run an arc starts at a labelled reference, no arc is made twice, Ω has only SKIP nodes for
-- parents, and two ended sides of a parallel have no parent in common. Told by what control weighs, for each
-- reference n: its parts that stand at n, plus the arcs from n to where an Ω stands, are at most 1 where n has
-- been drawn, and 0 where it has not; and those arcs, plus the entered operators that stand at n, are at most
-- the labels of n. Each rule is a chain of few moves, and no move adds more weight than it draws or labels.
-- Assumes nothing.
use Rattle.std.proofs.Common.{ℕ, suc, ◌+◌, ◌≤◌, ◌≡◌, refl, sym, subst, ap, ◌∙◌, Bool, true, List, [], ◌∷◌}
use Rattle.std.proofs.Common.{◌++◌, append_assoc, append-nil, inl, inr, arith}
use Rattle.std.proofs.Math.Option.{Option, none, some}
use Rattle.std.proofs.Math.ListN.{get_elem?}
use Rattle.terms.specs.Term.{SKIP, Term}
use Rattle.terms.specs.Term as Term
use Rattle.places.specs.Place.{Place}
use Rattle.rules.specs.Process.{Address, Split, choice, together, Process, leaf, prefix, split}
use Rattle.rules.specs.Process.{sequence, Ω, below, untouched, main}
use Rattle.rules.specs.Track.{Label, Pair, pair, At, Outcome, labelled, prefixed, first_eval, inside}
use Rattle.rules.specs.Track.{around, right_eval, jointly, carried, started, parents, ended}
use Rattle.rules.specs.Tracking.{Tracks, process_call, prefixing, skip, stop, internal_choice_1}
use Rattle.rules.specs.Tracking.{internal_choice_2, external_choice_1, external_choice_2}
use Rattle.rules.specs.Tracking.{external_choice_3, external_choice_4, sequential_composition_1}
use Rattle.rules.specs.Tracking.{sequential_composition_2, synchronized_parallelism_1}
use Rattle.rules.specs.Tracking.{synchronized_parallelism_2, synchronized_parallelism_3}
use Rattle.rules.specs.Tracking.{synchronized_parallelism_4}
use Rattle.rules.specs.Run.{State, start, stands, after, Reached, begun, goes_on}
use Rattle.rules.proofs.Answered.{accepted_exactly}
use Rattle.rules.proofs.Drawn.{untouched_on}
use Rattle.rules.proofs.Placed.{child, found, found_below, Begun, Placed, Located, placed_located}
use Rattle.rules.proofs.Placed.{side_placed, placed, reached_located}
use Rattle.rules.proofs.Weighed.{drawn, drawn_next, undrawn, drawn_once, sum, sum_append, sum_none}
use Rattle.rules.proofs.Weighed.{arc, between, leaves, out, weight, weight_of, parents_out}
use Rattle.rules.proofs.Weighed.{parents_all, parents_once, Unled, drawn_arc, Scale, parts, marks}
use Rattle.rules.proofs.Weighed.{named, side, total, New, Has, rhs_new, part_new, has_left, has_right}
use Rattle.rules.proofs.Weighed.{has_right_behind, kept_side, Within, within_total, Labelled}
use Rattle.rules.proofs.Weighed.{weight_labelled, some_weight, skip_at, skip_weighed, skip_sure}

-- a move from P, which stands as s says, to Q at m, with the next fresh reference f, labels ls and arcs g added
pub record Moves (ts : List Term) (P : Process) (s : At) (Q : Process) (m f : ℕ) (ls : List Label) (g : List Pair)
    : Type 0 where
  pub once : (i j : ℕ) → between i j g + drawn j s.fresh ≤ drawn j f
  weighs : (x : Scale ts) → total x (s.arcs ++ g) m Q + x.before s.fresh
      ≤ total x s.arcs s.reference P + weight_of x.label ls + x.before f
  from : (n : ℕ)
      → total (named ts n) s.arcs s.reference P + weight_of (named ts n).label ls + out n s.arcs ≡ 0
      → out n g ≡ 0

-- where Q stands behind a move, and where a side that stands at m does
abbrev pub moved : At → ℕ → ℕ → List Pair → At
moved s m f g = record { reference = m; fresh = f; arcs = s.arcs ++ g }

abbrev pub standing : At → ℕ → At
standing s m = record { reference = m; fresh = s.fresh; arcs = s.arcs }

-- where a process can move
pub record Ready (ts : List Term) (P : Process) (s : At) : Type 0 where
  pub located : Located ts P
  pub few : (n : ℕ) → total (parts ts n) s.arcs s.reference P ≤ drawn n s.fresh
  earlier : (i j : ℕ) → between i j s.arcs ≤ drawn j s.fresh

-- the next fresh reference has no arc into it
pub unled : {ts : List Term} {P : Process} (s : At) → Ready ts P s → Unled s.fresh s.arcs
unled s h i = omega (arith, h.earlier i s.fresh, undrawn s.fresh s.fresh (omega arith))

module _ {ts : List Term} where
  -- one move behind the other
  chain : {P Q R : Process} {s : At} {m m' f f' : ℕ} {ls ls' : List Label} {g g' : List Pair}
      → Moves ts P s Q m f ls g → Moves ts Q (moved s m f g) R m' f' ls' g'
      → Moves ts P s R m' f' (ls ++ ls') (g ++ g')
  chain {R = R} {s = s} {m' = m'} {ls = ls} {ls' = ls'} {g = g} {g' = g'} k l = record {
    once = λ i j. omega (arith, k.once i j, l.once i j, sum_append (arc i j) g g');
    weighs = λ x. omega (
      arith,
      k.weighs x,
      l.weighs x,
      ap (λ h. total x h m' R) (append_assoc s.arcs g g'),
      sum_append (weight x.label) ls ls',
    );
    from = λ n z.
        let x = named ts n in
        let labels = sum_append (weight x.label) ls ls' in
        let first : out n g ≡ 0 = k.from n (omega (arith, z, labels)) in
        let second : out n g' ≡ 0 =
        l.from n (omega (arith, z, labels, first, k.weighs x, sum_append (leaves n) s.arcs g)) in
        omega (arith, first, second, sum_append (leaves n) g g');
  }

  pub ready_behind : {P Q : Process} {s : At} {m f : ℕ} {ls : List Label} {g : List Pair} → Ready ts P s
      → Moves ts P s Q m f ls g → Located ts Q → Ready ts Q (moved s m f g)
  ready_behind {s = s} {ls = ls} {g = g} h k l = record {
    located = l;
    few = λ n. omega (arith, h.few n, k.weighs (parts ts n), sum_none ls);
    earlier = λ i j. omega (arith, h.earlier i j, k.once i j, sum_append (arc i j) s.arcs g);
  }

  -- the reference is labelled and gets an arc to a fresh one, where Q stands, which no step may have begun
  labelling : {P Q : Process} (w : Place) (s : At)
      → ((x : Scale ts)
      → total x (s.arcs ++ (pair s.reference s.fresh ∷ [])) s.fresh Q + x.before s.fresh
      ≤ total x s.arcs s.reference P + x.label w s.reference + x.before (suc s.fresh))
      → Moves ts P s Q s.fresh (suc s.fresh) (record { reference = s.reference; place = w } ∷ [])
      (pair s.reference s.fresh ∷ [])
  unfolding sum
  labelling w s h = record {
    once = λ i j. drawn_arc i j s.reference s.fresh;
    weighs = λ x. omega (arith, h x);
    from = λ n z. omega arith;
  }

  pub beginning : {P Q : Process} (w : Place) (s : At) → New ts Q
      → Moves ts P s Q s.fresh (suc s.fresh) (record { reference = s.reference; place = w } ∷ [])
      (pair s.reference s.fresh ∷ [])
  beginning w s u =
      let g = s.arcs ++ (pair s.reference s.fresh ∷ []) in
      labelling w s (λ x. omega (arith, u x g s.fresh, x.draws s.fresh))

  -- two ended sides end their parallel
  merging : {w : Place} {y a b : ℕ} {P Q : Process} {s : At} → P ≡ Ω → Q ≡ Ω
      → Ready ts (split w (together y) (some a) (some b) P Q) s
      → Moves ts (split w (together y) (some a) (some b) P Q) s Ω s.fresh (suc s.fresh) []
      (parents (some a) (some b) s.fresh s.arcs)
  unfolding total sum
  merging {a = a} {b = b} {P = P} {Q = Q} {s = s} p q h =
      let f = s.fresh in
      let left : (x : Scale ts) → total x s.arcs a P ≡ x.over s.arcs a = λ x. rw p in
      let right : (x : Scale ts) → total x s.arcs b Q ≡ x.over s.arcs b = λ x. rw q in
      let few : (i : ℕ) → between i a s.arcs + between i b s.arcs ≤ 1 =
      λ i. omega (arith, h.few i, left (parts ts i), right (parts ts i), drawn_once i f) in
      record {
        once = λ i j. omega (arith, parents_once i j a b f s.arcs (few i), drawn_next j f);
        weighs = λ x. omega (arith, left x, right x, x.merges a b f s.arcs (unled s h) few);
        from = λ n z. omega (arith, z, parents_out n (some a) (some b) f s.arcs);
      }

  -- a sequence goes on in its left
  onward : {w : Place} {b : Bool} {P P' Q : Process} {s : At} {m f : ℕ} {ls : List Label} {g : List Pair}
      → Moves ts P s P' m f ls g → Moves ts (sequence w b P Q) s (sequence w true P' Q) m f ls g
  unfolding total
  onward k = record { once = k.once; weighs = k.weighs; from = k.from }

  pub onward_ready : {w : Place} {b : Bool} {P Q : Process} {s : At} → Ready ts (sequence w b P Q) s → Ready ts P s
  unfolding total
  onward_ready {P = P} h =
      let (t, u, e, p, q) = h.located in
      record { located = placed_located ts P p; few = h.few; earlier = h.earlier }

  -- a side P of R that has been entered moves: R stays as R', or is dropped
  module _ {P P' R : Process} {s : At} {m f : ℕ} {ls : List Label} {g : List Pair} (Q : Process) (w : Place)
      (a : ℕ) (other : Option ℕ) (was : Has ts R s.reference w (some a) other other P Q)
      (k : Moves ts P (standing s a) P' m f ls g) where
    staying : {R' : Process} → Has ts R' s.reference w (some m) other other P' Q → Ready ts R s
        → Moves ts R s R' s.reference f ls g
    staying is h = record {
      once = k.once;
      weighs = λ x. omega (
        arith,
        k.weighs x,
        was x s.arcs,
        is x (s.arcs ++ g),
        kept_side x s.arcs g s.fresh other Q (λ n. omega (arith, h.few n, was (parts ts n) s.arcs))
            (λ i j. omega (arith, k.once i j, drawn_once j f)),
      );
      from = λ n z. k.from n (omega (arith, z, was (named ts n) s.arcs));
    }

    dropping : Moves ts R s P' m f ls g
    dropping = record {
      once = k.once;
      weighs = λ x. omega (arith, k.weighs x, was x s.arcs);
      from = λ n z. k.from n (omega (arith, z, was (named ts n) s.arcs));
    }

  module _ {w : Place} {k : Split} {P Q R : Process} {s : At} {c m f : ℕ} {ls : List Label} {g : List Pair} where
    pub left_stays : {b : Option ℕ} → Ready ts (split w k (some c) b P Q) s → Moves ts P (standing s c) R m f ls g
        → Moves ts (split w k (some c) b P Q) s (split w k (some m) b R Q) s.reference f ls g
    left_stays {b = b} h l =
        staying Q w c b (has_left s.reference w k (some c) b P Q) l
        (has_left s.reference w k (some m) b R Q) h

    left_taken : {b : Option ℕ} → Moves ts P (standing s c) R m f ls g
        → Moves ts (split w k (some c) b P Q) s R m f ls g
    left_taken {b = b} l = dropping Q w c b (has_left s.reference w k (some c) b P Q) l

    right_stays : {a : Option ℕ} → Ready ts (split w k a (some c) P Q) s → Moves ts Q (standing s c) R m f ls g
        → Moves ts (split w k a (some c) P Q) s (split w k a (some m) P R) s.reference f ls g
    right_stays {a = a} h l =
        staying P w c a (has_right s.reference w k a (some c) P Q) l
        (has_right s.reference w k a (some m) P R) h

    right_taken : {a : Option ℕ} → Moves ts Q (standing s c) R m f ls g
        → Moves ts (split w k a (some c) P Q) s R m f ls g
    right_taken {a = a} l = dropping P w c a (has_right s.reference w k a (some c) P Q) l

-- R is entered on the side of P, and is R' then
pub record Entry (ts : List Term) (own met : Option ℕ) (w : Place) (s : At) (P R R' : Process) : Type 0 where
  pub moves : Moves ts R s R' s.reference (first_eval own met w s).fresh (first_eval own met w s).labels
      (first_eval own met w s).arcs
  pub whole : Ready ts R' (moved s s.reference (first_eval own met w s).fresh (first_eval own met w s).arcs)
  pub part : Ready ts P (inside (first_eval own met w s) s)

module _ {ts : List Term} where
  -- the side joins in, at a fresh reference
  joining : (x : Scale ts) (met other : Option ℕ) (w v : Place) (t : Term) (s : At) (P Q R R' : Process)
      → Has ts R s.reference w none met other P Q
      → Has ts R' s.reference w (some s.fresh) met other P Q
      → P ≡ untouched v t → Ready ts R s
      → total x (s.arcs ++ (pair s.reference s.fresh ∷ [])) s.reference R' + x.before s.fresh
      ≤ x.entered w s.reference + side other (λ r. total x s.arcs r Q) + x.before (suc s.fresh)
  joining x met other w v t s P Q R R' was is p h =
      let f = s.fresh in
      let last = pair s.reference f ∷ [] in
      omega (
        arith,
        is x (s.arcs ++ last),
        part_new v t P p x (s.arcs ++ last) f,
        x.draws f,
        kept_side x s.arcs last f other Q (λ n. omega (arith, h.few n, was (parts ts n) s.arcs))
            (λ i j. omega (arith, drawn_arc i j s.reference f, drawn_once j (suc f))),
      )

  entering : (own met other : Option ℕ) (w v : Place) (t : Term) (s : At) (P Q R R' : Process)
      → Has ts R s.reference w own met other P Q
      → Has ts R' s.reference w (some (first_eval own met w s).reference) met other P Q
      → Begun own v t P (Placed ts P) → Ready ts R s
      → Moves ts R s R' s.reference (first_eval own met w s).fresh (first_eval own met w s).labels
      (first_eval own met w s).arcs
  unfolding first_eval sum
  entering (some a) met other w v t s P Q R R' was is p h = record {
    once = λ i j. omega arith;
    weighs = λ x.
        let nothing = ap (λ g. total x g s.reference R) (append-nil s.arcs) in
        omega (arith, nothing, was x (s.arcs ++ []), is x (s.arcs ++ []));
    from = λ n z. refl;
  }
  entering none (some o) other w v t s P Q R R' was is p h = record {
    once = λ i j. drawn_arc i j s.reference s.fresh;
    weighs = λ x. omega (arith, was x s.arcs, joining x (some o) other w v t s P Q R R' was is p h);
    from = λ n z. omega (arith, z, was (named ts n) s.arcs);
  }
  entering none none other w v t s P Q R R' was is p h = record {
    once = λ i j. drawn_arc i j s.reference s.fresh;
    weighs = λ x. omega (
      arith,
      was x s.arcs,
      joining x none other w v t s P Q R R' was is p h,
      x.enters w s.reference,
    );
    from = λ n z. omega arith;
  }

  -- by a side whose place is v and whose term is t
  entry : (own met other : Option ℕ) (w v : Place) (t : Term) (s : At) (P Q R R' : Process)
      → Has ts R s.reference w own met other P Q
      → Has ts R' s.reference w (some (first_eval own met w s).reference) met other P Q
      → found ts v ≡ some t → Begun own v t P (Placed ts P) → Ready ts R s → (Placed ts P → Located ts R')
      → Entry ts own met w s P R R'
  entry own met other w v t s P Q R R' was is e p h l =
      let p' = side_placed ts own v t P e p in
      let moves = entering own met other w v t s P Q R R' was is p h in
      let whole = ready_behind h moves (l p') in
      record {
        moves = moves;
        whole = whole;
        part = record {
          located = placed_located ts P p';
          few = λ n. omega (arith, whole.few n, is (parts ts n) (s.arcs ++ (first_eval own met w s).arcs));
          earlier = whole.earlier;
        };
      }

  pub left_entry : {w : Place} {k : Split} {a b : Option ℕ} {P Q : Process} {s : At}
      → Ready ts (split w k a b P Q) s
      → Entry ts a b w s P (split w k a b P Q) (split w k (some (first_eval a b w s).reference) b P Q)
  unfolding child
  left_entry {w = w} {k = k} {a = a} {b = b} {P = P} {Q = Q} {s = s} h =
      let (t, u, e, p, q) = h.located in
      entry a b b w (below w 1) t s P Q _ _ (has_left s.reference w k a b P Q)
      (has_left s.reference w k _ b P Q) (found_below ts w 1 _ e) p h (λ p'. (t, u, e, p', q))

  -- `met` is what the right finds of the left where it steps
  pub right_entry : (met : Option ℕ) {w : Place} {k : Split} {a b : Option ℕ} {P Q : Process} {s : At}
      → Has ts (split w k a b P Q) s.reference w b met a Q P → Ready ts (split w k a b P Q) s
      → Entry ts b met w s Q (split w k a b P Q) (split w k a (some (first_eval b met w s).reference) P Q)
  unfolding child
  right_entry met {w = w} {k = k} {a = a} {b = b} {P = P} {Q = Q} {s = s} was h =
      let (t, u, e, p, q) = h.located in
      entry b met a w (below w 2) u s Q P _ _ was (has_right s.reference w k a _ P Q)
      (found_below ts w 2 _ e) q h (λ q'. (t, u, e, p, q'))

-- a step as a move
abbrev Leads : List Term → Process → At → Outcome → Type 0
Leads ts P s r = Moves ts P s r.process r.reference r.fresh r.labels r.arcs

-- a SKIP has its place
skip_placed : (ts : List Term) (w : Place) → Located ts (leaf w SKIP) → found ts w ≡ some (Term.leaf SKIP)
skip_placed ts w (inl e) = e
skip_placed ts w (inr e) = let z : ◌≡◌ {A = ℕ} 0 1 = cc in absurd (omega arith)

module _ (ts : List Term) where
  -- each rule is a chain of moves
  pub leading : {a : Address} {P : Process} {s : At} {r : Outcome} → Tracks ts a P s r → Ready ts P s
      → Leads ts P s r
  unfolding total labelled prefixed around jointly carried started ended
  leading (process_call {n = n} {w = w} {s = s}) h = beginning w s (rhs_new n (get_elem? ts n))
  leading (prefixing {a = e} {w = w} {P = P} {s = s}) h =
      let (t, i, p) = h.located in
      let k = beginning {P = prefix w e P} {Q = prefix w e P} (below w 1) s (λ x g m. refl) in
      chain k (beginning w (moved s s.fresh (suc s.fresh) _) (part_new (below w 2) t P p))
  leading (skip {w = w} {s = s}) h =
      let e = skip_placed ts w h.located in
      labelling w s (λ x. x.ends w s.reference s.fresh s.arcs e (unled s h))
  leading (stop {w = w} {s = s}) h = beginning w s (λ x g m. refl)
  leading (internal_choice_1 {w = w} {P = P} {s = s}) h =
      let (t, u, e, p, q) = h.located in
      beginning w s (part_new (below w 1) t P p)
  leading (internal_choice_2 {w = w} {Q = Q} {s = s}) h =
      let (t, u, e, p, q) = h.located in
      beginning w s (part_new (below w 2) u Q q)
  leading (external_choice_1 d e) h =
      let k = left_entry h in
      chain k.moves (left_stays k.whole (leading d k.part))
  leading (external_choice_2 {w = w} {n₁ = m} {n₂ = n} {P = P} {Q = Q} {s = s} d e) h =
      let k = right_entry m (has_right s.reference w choice m n P Q) h in
      chain k.moves (right_stays k.whole (leading d k.part))
  leading (external_choice_3 d v) h =
      let k = left_entry h in
      chain k.moves (left_taken (leading d k.part))
  leading (external_choice_4 {w = w} {n₁ = m} {n₂ = n} {P = P} {Q = Q} {s = s} d v) h =
      let k = right_entry m (has_right s.reference w choice m n P Q) h in
      chain k.moves (right_taken (leading d k.part))
  leading (sequential_composition_1 d n) h = onward (leading d (onward_ready h))
  leading (sequential_composition_2 {w = w} {Q = Q} {s = s} {r = r} d e) h =
      let (t, u, i, p, q) = h.located in
      chain (onward (leading d (onward_ready h)))
      (beginning w (moved s r.reference r.fresh r.arcs) (part_new (below w 2) u Q q))
  leading (synchronized_parallelism_1 d e) h =
      let k = left_entry h in
      chain k.moves (left_stays k.whole (leading d k.part))
  leading (synchronized_parallelism_2 {w = w} {x = y} {n₁ = m} {n₂ = n} {P = P} {Q = Q} {s = s} d e) h =
      let k = right_entry m (has_right s.reference w (together y) m n P Q) h in
      chain k.moves (right_stays k.whole (leading d k.part))
  leading (synchronized_parallelism_3 {w = w} {x = y} {n₁ = m} {n₂ = n} {Q = Q} {s = s} {l = l} {r = r}
      d d' e e' c p) h =
      let (t, u, f, p, q) = h.located in
      let i = first_eval m n w s in
      let j = right_eval m n w s l in
      let left = left_entry h in
      let on_left = left_stays left.whole (leading d left.part) in
      let behind = ready_behind left.whole on_left (t, u, f, placed ts d left.part.located, q) in
      let right = right_entry (some i.reference)
      (has_right_behind s.reference i.reference w (together y) l.reference n l.process Q) behind in
      let on_right = right_stays right.whole (leading d' right.part) in
      rw (
        append_assoc i.labels l.labels (j.labels ++ r.labels),
        append_assoc i.arcs l.arcs (j.arcs ++ r.arcs),
      )
      (chain left.moves (chain on_left (chain right.moves on_right)))
  leading (synchronized_parallelism_4 {w = w} {n₁ = none} p q) h =
      let (t, u, e, i, j) = h.located in
      absurd (untouched_on (below w 1) t (sym i ∙ p))
  leading (synchronized_parallelism_4 {w = w} {n₁ = some a} {n₂ = none} p q) h =
      let (t, u, e, i, j) = h.located in
      absurd (untouched_on (below w 2) u (sym j ∙ q))
  leading (synchronized_parallelism_4 {n₁ = some a} {n₂ = some b} p q) h = merging p q h

  -- control can move where it starts, and every run is a chain of moves
  start_ready : Ready ts main (stands start)
  unfolding total sum
  start_ready = record {
    located = inr refl;
    few = λ n. omega (arith, drawn_next n 0);
    earlier = λ i j. omega arith;
  }

  abbrev Run : State → Type 0
  Run s = Moves ts main (stands start) s.process s.reference s.fresh s.labels s.arcs

  pub runs : {s : State} → Reached ts s → Run s
  unfolding after sum
  runs begun = record { once = λ i j. omega arith; weighs = λ x. omega arith; from = λ n z. refl }
  runs (goes_on {s = s} {t = t} a e p h) =
      let d = (accepted_exactly ts s a e t).0 h in
      let k = runs p in
      subst Run d.3 (chain k (leading d.1 (ready_behind start_ready k (reached_located ts p))))

  pub run_ready : {s : State} → Reached ts s → Ready ts s.process (stands s)
  run_ready p = ready_behind start_ready (runs p) (reached_located ts p)

  -- no arc is made twice
  pub arcs_once : {s : State} → Reached ts s → (i j : ℕ) → between i j s.arcs ≤ 1
  arcs_once {s = s} p i j = omega (arith, (run_ready p).earlier i j, drawn_once j s.fresh)

  -- two ended sides of a parallel have no parent in common
  pub no_common_parent : {s : State} {w : Place} {y a b r : ℕ} → Reached ts s
      → Within (split w (together y) (some a) (some b) Ω Ω) r s.process s.reference
      → (i : ℕ) → between i a s.arcs + between i b s.arcs ≤ 1
  unfolding total
  no_common_parent {s = s} p k i =
      omega (arith, within_total (parts ts i) s.arcs k, (run_ready p).few i, drawn_once i s.fresh)

  -- so 4 makes one further arc for each parent of either side
  pub one_for_each : {s : State} {w : Place} {y a b r : ℕ} → Reached ts s
      → Within (split w (together y) (some a) (some b) Ω Ω) r s.process s.reference → (i k : ℕ)
      → between i k (parents (some a) (some b) k s.arcs) ≡ between i a s.arcs + between i b s.arcs
  one_for_each {s = s} {a = a} {b = b} p h i k = parents_all i a b k s.arcs (no_common_parent p h i)

  -- an arc starts at a labelled reference
  pub arcs_from_labelled : {s : State} → Reached ts s → (n : ℕ) → 1 ≤ out n s.arcs
      → Labelled (λ w. Unit {0}) n s.labels
  unfolding total sum
  arcs_from_labelled {s = s} p n l =
      weight_labelled n (λ w. 1) (λ w. Unit {0}) (λ w k. tt) s.labels
      (some_weight (weight_of (named ts n).label s.labels)
      (λ e. omega (arith, l, (runs p).from n (omega (arith, e)))))

  -- the parents of Ω are SKIP nodes
  pub ends_by_skips : {s : State} {r : ℕ} → Reached ts s → Within Ω r s.process s.reference
      → (i : ℕ) → 1 ≤ between i r s.arcs → Labelled (λ w. found ts w ≡ some (Term.leaf SKIP)) i s.labels
  unfolding total
  ends_by_skips {s = s} {r = r} p k i l =
      let x = marks ts (skip_at ts) (skip_sure ts) i in
      weight_labelled i (skip_at ts) (λ w. found ts w ≡ some (Term.leaf SKIP)) (λ w. skip_weighed (found ts w))
      s.labels (omega (arith, l, within_total x s.arcs k, (runs p).weighs x))
