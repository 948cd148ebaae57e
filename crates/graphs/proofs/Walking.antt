-- The numbering walk over any ways on. A turn passes a reference that has its number, or numbers it and goes
-- on where it leads; what each such turn keeps, the walk keeps. So numbers are given once, to references of
-- any domain that the ways do not leave, a renaming of the domain renames the walk, and a walk that comes to
-- an end has gone wherever it could. It comes to an end where distinct references have few ways on: each turn
-- takes one of them. Assumes nothing.
use Rattle.std.proofs.Common.{ℕ, zero, suc, ◌+◌, ◌*◌, ◌≤◌, ◌<◌, ◌≡◌, refl, sym, ap, subst, ◌∙◌, Bool, true}
use Rattle.std.proofs.Common.{false, ◌||◌, List, [], ◌∷◌, ◌++◌, map, map-id, append_assoc, append-nil, ◌⊎◌}
use Rattle.std.proofs.Common.{inl, inr, ⊎_elim, arith, zero-mul, suc-mul, length, length-append, eqb}
use Rattle.std.proofs.Common.{eqb-true, eq-eqb, ne_eqb, lt-ltb, le-ltb}
use Rattle.std.proofs.lemmas.Bool.{eqb-false}
use Rattle.std.proofs.lemmas.List.{map-append}
use Rattle.std.proofs.Math.Bool.{or_assoc}
use Rattle.lines.specs.Line.{choose}
use Rattle.rules.proofs.Offered.{or_left, or_right, or_either}
use Rattle.rules.proofs.Marked.{one, past, next_past}
use Rattle.rules.proofs.Weighed.{sum, sum_append, sum_none}
use Rattle.graphs.specs.Walk.{among, walk}

-- no reference stands twice
abbrev pub Distinct : List ℕ → Type 0
Distinct [] = Unit {0}
Distinct (n ∷ ns) = (among n ns ≡ false) × Distinct ns

-- each reference is of a domain
abbrev pub Within : (ℕ → Type 0) → List ℕ → Type 0
Within D xs = (n : ℕ) → among n xs ≡ true → D n

-- the ways on do not leave a domain
abbrev pub Closed : (ℕ → Type 0) → (ℕ → List ℕ) → Type 0
Closed D on = (n : ℕ) → D n → Within D (on n)

-- who is among two lists in a row is among the one or the other
pub among_append : (n : ℕ) (xs ys : List ℕ) → among n (xs ++ ys) ≡ (among n xs || among n ys)
unfolding among
among_append n [] ys = refl
among_append n (x ∷ xs) ys =
    ap (λ b. eqb n x || b) (among_append n xs ys) ∙ sym (or_assoc (eqb n x) (among n xs) (among n ys))

pub among_before : (n : ℕ) (xs ys : List ℕ) → among n xs ≡ true → among n (xs ++ ys) ≡ true
among_before n xs ys h = among_append n xs ys ∙ or_left (among n xs) (among n ys) h

pub among_behind : (n : ℕ) (xs ys : List ℕ) → among n ys ≡ true → among n (xs ++ ys) ≡ true
among_behind n xs ys h = among_append n xs ys ∙ or_right (among n xs) (among n ys) h

pub among_either : (n : ℕ) (xs ys : List ℕ) → among n (xs ++ ys) ≡ true
    → (among n xs ≡ true) ⊎ (among n ys ≡ true)
among_either n xs ys h = or_either (among n xs) (among n ys) (sym (among_append n xs ys) ∙ h)

-- the first is among all, and so is who is among the rest
pub among_first : (n : ℕ) (xs : List ℕ) → among n (n ∷ xs) ≡ true
unfolding among
among_first n xs = or_left (eqb n n) (among n xs) (eq-eqb n n refl)

pub among_rest : (n x : ℕ) (xs : List ℕ) → among n xs ≡ true → among n (x ∷ xs) ≡ true
unfolding among
among_rest n x xs h = or_right (eqb n x) (among n xs) h

-- who is among all is the first or among the rest
pub among_cases : (n x : ℕ) (xs : List ℕ) → among n (x ∷ xs) ≡ true → (n ≡ x) ⊎ (among n xs ≡ true)
unfolding among
among_cases n x xs h = ⊎_elim (λ e. inl (eqb-true n x e)) (λ i. inr i) (or_either (eqb n x) (among n xs) h)

-- no one is among none
pub among_none : (n : ℕ) → among n [] ≡ true → ⊥
unfolding among
among_none n h = let z : ◌≡◌ {A = ℕ} 0 1 = cc in omega arith

-- who is the only one
pub among_only : (n x : ℕ) → among n (x ∷ []) ≡ true → n ≡ x
among_only n x h = ⊎_elim (λ e. e) (λ i. absurd (among_none n i)) (among_cases n x [] h)

-- a domain of two lists in a row
pub within_append : (D : ℕ → Type 0) (xs ys : List ℕ) → Within D xs → Within D ys → Within D (xs ++ ys)
within_append D xs ys h k n i = ⊎_elim (h n) (k n) (among_either n xs ys i)

-- of a rest, of none, and of one
pub within_rest : (D : ℕ → Type 0) (x : ℕ) (xs : List ℕ) → Within D (x ∷ xs) → Within D xs
within_rest D x xs h n i = h n (among_rest n x xs i)

pub within_none : (D : ℕ → Type 0) → Within D []
within_none D n i = absurd (among_none n i)

pub within_one : (D : ℕ → Type 0) (x : ℕ) → D x → Within D (x ∷ [])
within_one D x h n i = subst D (sym (among_only n x i)) h

-- who is not among all is not the first, and not among the rest
pub among_neither : (n x : ℕ) (xs : List ℕ) → among n (x ∷ xs) ≡ false
    → (n ≡ x → ⊥) × (among n xs ≡ false)
unfolding among
among_neither n x xs h = go (eqb n x) refl h
  where
    go : (b : Bool) → eqb n x ≡ b → (b || among n xs) ≡ false → (n ≡ x → ⊥) × (among n xs ≡ false)
    go true e k = let z : ◌≡◌ {A = ℕ} 0 1 = cc in absurd (omega arith)
    go false e k = (eqb-false n x e, k)

-- one more, that is not among them, behind distinct ones
pub distinct_more : (n : ℕ) (xs : List ℕ) → among n xs ≡ false → Distinct xs → Distinct (xs ++ (n ∷ []))
unfolding among
distinct_more n [] h d = (refl, tt)
distinct_more n (x ∷ xs) h d =
    let (other, rest) = among_neither n x xs h in (
      rw (among_append x xs (n ∷ []), d.0, ne_eqb x n (λ e. other (sym e))),
      distinct_more n xs rest d.1,
    )

-- what is numbered behind a turn
abbrev pub numbered_then : ℕ → List ℕ → List ℕ
numbered_then n s = choose (among n s) s (s ++ (n ∷ []))

module _ (on : ℕ → List ℕ) where
  -- what is pending behind a turn
  abbrev pub pending_then : ℕ → List ℕ → List ℕ → List ℕ
  pending_then n p s = choose (among n s) p (on n ++ p)

  -- what holds of pending and numbered references is kept by a turn: of one that has its number, or has none
  pub record Turning (I : List ℕ → List ℕ → Type 0) : Type 0 where
    pub passes : (n : ℕ) (p s : List ℕ) → among n s ≡ true → I (n ∷ p) s → I p s
    pub numbers : (n : ℕ) (p s : List ℕ) → among n s ≡ false → I (n ∷ p) s → I (on n ++ p) (s ++ (n ∷ []))

  -- so it is kept by any turn
  turned : (I : List ℕ → List ℕ → Type 0) → Turning I → (n : ℕ) (p s : List ℕ) → I (n ∷ p) s
      → I (pending_then n p s) (numbered_then n s)
  turned I t n p s h = go (among n s) refl
    where
      go : (b : Bool) → among n s ≡ b → I (choose b p (on n ++ p)) (choose b s (s ++ (n ∷ [])))
      go true e = t.passes n p s e h
      go false e = t.numbers n p s e h

  -- what turns keep, the walk keeps of something pending
  pub walk_keeping : (I : List ℕ → List ℕ → Type 0) → Turning I → (f : ℕ) (p s : List ℕ) → I p s
      → (q : List ℕ) × I q (walk f on p s)
  unfolding walk
  walk_keeping I t zero p s h = (p, h)
  walk_keeping I t (suc f) [] s h = ([], h)
  walk_keeping I t (suc f) (n ∷ p) s h =
      walk_keeping I t f (pending_then n p s) (numbered_then n s) (turned I t n p s h)

  -- numbers are given once
  pub walk_distinct : (f : ℕ) (p s : List ℕ) → Distinct s → Distinct (walk f on p s)
  walk_distinct f p s d =
      (walk_keeping (λ p s. Distinct s)
      (record { passes = λ n p s e h. h; numbers = λ n p s e h. distinct_more n s e h }) f p s d).1

  -- what is numbered comes first in the walk's order
  pub walk_extends : (f : ℕ) (p s : List ℕ) → (r : List ℕ) × (walk f on p s ≡ s ++ r)
  walk_extends f p s =
      (walk_keeping (λ q t. (r : List ℕ) × (t ≡ s ++ r))
      (record {
        passes = λ n q t e h. h;
        numbers = λ n q t e h.
            (h.0 ++ (n ∷ []), ap (λ l. l ++ (n ∷ [])) h.1 ∙ append_assoc s h.0 (n ∷ []));
      })
      f p s ([], sym (append-nil s))).1

  -- the walk stays in a domain that the ways on do not leave
  pub walk_within : (D : ℕ → Type 0) → Closed D on → (f : ℕ) (p s : List ℕ) → Within D p → Within D s
      → Within D (walk f on p s)
  walk_within D c f p s h k =
      (walk_keeping (λ p s. Within D p × Within D s)
      (record {
        passes = λ n p s e h. (within_rest D n p h.0, h.1);
        numbers = λ n p s e h.
            let here = h.0 n (among_first n p) in (
              within_append D (on n) p (c n here) (within_rest D n p h.0),
              within_append D s (n ∷ []) h.1 (within_one D n here),
            );
      })
      f p s (h, k)).1.1

-- a renaming that tells the references of a domain apart
abbrev pub OneToOne : (ℕ → Type 0) → (ℕ → ℕ) → Type 0
OneToOne D φ = (n m : ℕ) → D n → D m → φ n ≡ φ m → n ≡ m

-- under it the same are among the same
pub among_renamed : (D : ℕ → Type 0) (φ : ℕ → ℕ) → OneToOne D φ → (n : ℕ) → D n → (xs : List ℕ) → Within D xs
    → among (φ n) (map φ xs) ≡ among n xs
unfolding among
among_renamed D φ apart n here [] h = refl
among_renamed D φ apart n here (x ∷ xs) h =
    rw (among_renamed D φ apart n here xs (within_rest D x xs h)) (ap (λ b. b || among n xs) (go (eqb n x) refl))
  where
    go : (b : Bool) → eqb n x ≡ b → eqb (φ n) (φ x) ≡ eqb n x
    go true e = eq-eqb (φ n) (φ x) (ap φ (eqb-true n x e)) ∙ sym e
    go false e =
        ne_eqb (φ n) (φ x) (λ q. eqb-false n x e (apart n x here (h x (among_first x xs)) q)) ∙ sym e

-- the walk of renamed ways on is the renamed walk
pub walk_renamed : (D : ℕ → Type 0) (φ : ℕ → ℕ) → OneToOne D φ → (on on' : ℕ → List ℕ) → Closed D on
    → ((n : ℕ) → D n → on' (φ n) ≡ map φ (on n)) → (f : ℕ) (p s : List ℕ) → Within D p → Within D s
    → walk f on' (map φ p) (map φ s) ≡ map φ (walk f on p s)
unfolding walk
walk_renamed D φ apart on on' c same zero p s h k = refl
walk_renamed D φ apart on on' c same (suc f) [] s h k = refl
walk_renamed D φ apart on on' c same (suc f) (n ∷ p) s h k =
    let here = h n (among_first n p) in
    rw (among_renamed D φ apart n here s k, same n here)
    (go (among n s) here (within_rest D n p h) (λ q t i j. walk_renamed D φ apart on on' c same f q t i j))
  where
    go : (b : Bool) → D n → Within D p
        → ((q t : List ℕ) → Within D q → Within D t → walk f on' (map φ q) (map φ t) ≡ map φ (walk f on q t))
        → walk f on' (choose b (map φ p) (map φ (on n) ++ map φ p)) (choose b (map φ s) (map φ s ++ (φ n ∷ [])))
        ≡ map φ (walk f on (choose b p (on n ++ p)) (choose b s (s ++ (n ∷ []))))
    go true here rest further = further p s rest k
    go false here rest further =
        rw (← map-append φ (on n) p, ← map-append φ s (n ∷ []))
        (further (on n ++ p) (s ++ (n ∷ [])) (within_append D (on n) p (c n here) rest)
        (within_append D s (n ∷ []) k (within_one D n here)))

-- ways on that are the same in a domain have the same walk there
pub walk_alike : (D : ℕ → Type 0) (on on' : ℕ → List ℕ) → Closed D on → ((n : ℕ) → D n → on n ≡ on' n)
    → (f : ℕ) (p s : List ℕ) → Within D p → Within D s → walk f on' p s ≡ walk f on p s
walk_alike D on on' c same f p s h k =
    let renamed = walk_renamed D (λ n. n) (λ n m i j e. e) on on' c (λ n i. sym (same n i) ∙ sym (map-id (on n)))
    f p s h k in
    simp map-id at renamed

-- nothing is pending within so many turns
unfoldable pub Ends : (ℕ → List ℕ) → ℕ → List ℕ → List ℕ → Type 0
Ends on zero [] s = Unit {0}
Ends on zero (n ∷ p) s = ⊥
Ends on (suc f) [] s = Unit {0}
Ends on (suc f) (n ∷ p) s = Ends on f (pending_then on n p s) (numbered_then n s)

module _ (on : ℕ → List ℕ) where
  -- where nothing is pending the walk is over
  pub walk_over : (f : ℕ) (s : List ℕ) → (walk f on [] s ≡ s) × Ends on f [] s
  unfolding walk Ends
  walk_over zero s = (refl, tt)
  walk_over (suc f) s = (refl, tt)

  -- further turns change nothing
  pub walk_more : (f f' : ℕ) (p s : List ℕ) → Ends on f p s → f ≤ f'
      → (walk f' on p s ≡ walk f on p s) × Ends on f' p s
  unfolding walk Ends
  walk_more zero f' [] s e l = walk_over f' s
  walk_more zero f' (n ∷ p) s e l = absurd e
  walk_more (suc f) zero p s e l = absurd (omega arith)
  walk_more (suc f) (suc f') [] s e l = (refl, tt)
  walk_more (suc f) (suc f') (n ∷ p) s e l =
      walk_more f f' (pending_then on n p s) (numbered_then n s) e (omega arith)

  -- what turns keep, a walk that ends keeps with nothing pending
  pub walk_ended : (I : List ℕ → List ℕ → Type 0) → Turning on I → (f : ℕ) (p s : List ℕ) → Ends on f p s
      → I p s → I [] (walk f on p s)
  unfolding walk Ends
  walk_ended I t zero [] s e h = h
  walk_ended I t zero (n ∷ p) s e h = absurd e
  walk_ended I t (suc f) [] s e h = h
  walk_ended I t (suc f) (n ∷ p) s e h =
      walk_ended I t f (pending_then on n p s) (numbered_then n s) e (turned on I t n p s h)

  -- who is numbered or pending stays so
  due : (m : ℕ) → Turning on (λ p s. among m (s ++ p) ≡ true)
  due m = record {
    passes = λ n p s e h. ⊎_elim (among_before m s p)
        (λ i. ⊎_elim (λ is. among_before m s p (rw is e)) (among_behind m s p) (among_cases m n p i))
        (among_either m s (n ∷ p) h);
    numbers = λ n p s e h. rw (append_assoc s (n ∷ []) (on n ++ p))
        (⊎_elim (among_before m s (n ∷ (on n ++ p)))
        (λ i. among_behind m s (n ∷ (on n ++ p))
        (⊎_elim (λ is. rw is (among_first n (on n ++ p)))
        (λ j. among_rest m n (on n ++ p) (among_behind m (on n) p j)) (among_cases m n p i)))
        (among_either m s (n ∷ p) h));
  }

  -- every way on from a numbered one leads to one that is numbered or pending
  abbrev pub Followed : List ℕ → List ℕ → Type 0
  Followed p s = (n : ℕ) → among n s ≡ true → Within (λ m. among m (s ++ p) ≡ true) (on n)

  followed : Turning on Followed
  followed = record {
    passes = λ n p s e h k i m j. (due m).passes n p s e (h k i m j);
    numbers = λ n p s e h k i m j. ⊎_elim (λ old. (due m).numbers n p s e (h k old m j))
        (λ new. among_behind m (s ++ (n ∷ [])) (on n ++ p)
        (among_before m (on n) p (rw (among_only k n new) at j))) (among_either k s (n ∷ []) i);
  }

  -- a walk that ends has numbered what was pending, and wherever the ways on lead from what it has numbered
  pub walk_closed : (f : ℕ) (p s : List ℕ) → Ends on f p s → Followed p s
      → Within (λ n. among n (walk f on p s) ≡ true) p × Closed (λ n. among n (walk f on p s) ≡ true) on
  walk_closed f p s e h =
      let all = append-nil (walk f on p s) in (
        λ n i. rw all at (walk_ended (λ q t. among n (t ++ q) ≡ true) (due n) f p s e (among_behind n s p i)),
        λ n i m j. rw all at (walk_ended Followed followed f p s e h n i m j),
      )

-- two weights in one
pub sum_both : (v w : ℕ → ℕ) (xs : List ℕ) → sum (λ n. v n + w n) xs ≡ sum v xs + sum w xs
unfolding sum
sum_both v w [] = refl
sum_both v w (x ∷ xs) = omega (arith, sum_both v w xs)

-- less weight each, less together
pub sum_least : (v w : ℕ → ℕ) (xs : List ℕ) → Within (λ n. v n ≤ w n) xs → sum v xs ≤ sum w xs
unfolding sum
sum_least v w [] h = omega arith
sum_least v w (x ∷ xs) h =
    omega (arith, h x (among_first x xs), sum_least v w xs (within_rest (λ n. v n ≤ w n) x xs h))

-- the same weight each
pub sum_each : (k : ℕ) (xs : List ℕ) → sum (λ n. k) xs ≡ length xs * k
unfolding sum
sum_each k [] = sym (zero-mul k)
sum_each k (x ∷ xs) = omega (arith, sum_each k xs, suc-mul (length xs) k)

-- a reference is at most once among distinct ones
at_most_once : (k : ℕ) (xs : List ℕ) → Distinct xs → sum (λ n. one n k) xs ≤ choose (among k xs) 1 0
unfolding sum one among
at_most_once k [] d = omega arith
at_most_once k (x ∷ xs) d = go (eqb x k) (among k xs) refl refl (at_most_once k xs d.1)
  where
    go : (b c : Bool) → eqb x k ≡ b → among k xs ≡ c → sum (λ n. one n k) xs ≤ choose c 1 0
        → choose b 1 0 + sum (λ n. one n k) xs ≤ choose (eqb k x || c) 1 0
    go true true e i h =
        let same : among x xs ≡ true = rw (eqb-true x k e) i in
        let z : ◌≡◌ {A = ℕ} 0 1 = cc d.0 in
        absurd (omega arith)
    go true false e i h = rw (eq-eqb k x (sym (eqb-true x k e))) (omega arith)
    go false c e i h = rw (ne_eqb k x (λ q. eqb-false x k e (sym q))) (omega arith)

pub sum_one : (k : ℕ) (xs : List ℕ) → Distinct xs → sum (λ n. one n k) xs ≤ 1
sum_one k xs d = go (among k xs) (at_most_once k xs d)
  where
    go : (b : Bool) → sum (λ n. one n k) xs ≤ choose b 1 0 → sum (λ n. one n k) xs ≤ 1
    go true h = h
    go false h = omega arith

-- of distinct references no more than b are below b
sum_past : (b : ℕ) (xs : List ℕ) → Distinct xs → sum (λ n. past n b) xs ≤ b
unfolding past
sum_past zero xs d =
    omega (
      arith,
      sum_least (λ n. past n 0) (λ n. 0) xs (λ n i. rw (le-ltb n 0 (omega arith)) (omega arith)),
      sum_none xs,
    )
sum_past (suc b) xs d =
    omega (
      arith,
      sum_least (λ n. past n (suc b)) (λ n. one n b + past n b) xs (λ n i. omega (arith, next_past n b)),
      sum_both (λ n. one n b) (λ n. past n b) xs,
      sum_one b xs d,
      sum_past b xs d,
    )

pub distinct_below : (b : ℕ) (xs : List ℕ) → Distinct xs → Within (λ n. n < b) xs → length xs ≤ b
unfolding past
distinct_below b xs d h =
    omega (
      arith,
      sum_least (λ n. 1) (λ n. past n b) xs (λ n i. rw (lt-ltb n b (h n i)) (omega arith)),
      sum_each 1 xs,
      sum_past b xs d,
    )

-- a walk ends where no distinct references have more than c ways on: the turns that are left, and the ways on
-- from what is numbered, suffice for what is pending and for c more
pub ends_by_load : (on : ℕ → List ℕ) (D : ℕ → Type 0) → Closed D on → (c : ℕ)
    → ((xs : List ℕ) → Distinct xs → Within D xs → sum (λ n. length (on n)) xs ≤ c)
    → (f : ℕ) (p s : List ℕ) → Within D p → Within D s → Distinct s
    → length p + c ≤ f + sum (λ n. length (on n)) s → Ends on f p s
unfolding Ends sum
ends_by_load on D closed c most zero [] s h k d l = tt
ends_by_load on D closed c most zero (n ∷ p) s h k d l = absurd (omega (arith, most s d k))
ends_by_load on D closed c most (suc f) [] s h k d l = tt
ends_by_load on D closed c most (suc f) (n ∷ p) s h k d l =
    go (among n s) refl (λ q t i j u v. ends_by_load on D closed c most f q t i j u v)
  where
    go : (b : Bool) → among n s ≡ b
        → ((q t : List ℕ) → Within D q → Within D t → Distinct t
        → length q + c ≤ f + sum (λ n. length (on n)) t → Ends on f q t)
        → Ends on f (choose b p (on n ++ p)) (choose b s (s ++ (n ∷ [])))
    go true e further = further p s (within_rest D n p h) k d (omega arith)
    go false e further =
        let here = h n (among_first n p) in
        further (on n ++ p) (s ++ (n ∷ [])) (within_append D (on n) p (closed n here) (within_rest D n p h))
        (within_append D s (n ∷ []) k (within_one D n here)) (distinct_more n s e d)
        (omega (arith, length-append (on n) p, sum_append (λ n. length (on n)) s (n ∷ [])))
