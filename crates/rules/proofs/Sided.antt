-- What splits, and where its sides begin. The first label that a term makes, once a step begins it, is at or
-- under the term's place, since only a sequence leaves its first label to its left; so the sides of an external
-- choice or parallel at w begin at or under w.1 and w.2, and nothing is under both. Hence how many arcs a node
-- may have to labels that pass a test: one, or one to each side that begins so. Assumes nothing.
use Rattle.std.proofs.Common.{ℕ, ◌+◌, ◌≤◌, ◌≡◌, refl, sym, subst, ap, ◌∙◌, Bool, true, false, not, ◌&&◌, ◌||◌}
use Rattle.std.proofs.Common.{List, [], ◌∷◌, ◌++◌, append_assoc, append-nil, ◌⊎◌, inl, inr, arith, eqb}
use Rattle.std.proofs.Common.{eqb-true, eq-eqb}
use Rattle.std.proofs.Math.Option.{Option, none, some}
use Rattle.std.proofs.Math.ListN.{get_elem?}
use Rattle.lines.specs.Line.{choose}
use Rattle.terms.specs.Term.{Leaf, external, parallel, Term}
use Rattle.terms.specs.Term as Term
use Rattle.places.specs.Place.{Place, left_path, begins, under}
use Rattle.rules.specs.Process.{Split, choice, together, Process, leaf, prefix, internal, split}
use Rattle.rules.specs.Process.{sequence, Ω, ⊥', below, joined, untouched}
use Rattle.rules.specs.Plain.{operator}
use Rattle.rules.proofs.Placed.{child, followed, found, Located}

-- a term is an external choice or a parallel
abbrev pub Splits : Option Term → Type 0
Splits none = ⊥
Splits (some (Term.leaf l)) = ⊥
Splits (some (Term.prefix e t)) = ⊥
Splits (some (Term.binary Term.internal t u)) = ⊥
Splits (some (Term.binary external t u)) = Unit {0}
Splits (some (Term.binary Term.sequence t u)) = ⊥
Splits (some (Term.binary (parallel x) t u)) = Unit {0}

-- by the split that it is
split_is : (o : Option Term) → Splits o
    → (k : Split) × (t : Term) × (u : Term) × (o ≡ some (Term.binary (operator k) t u))
unfolding operator
split_is none h = absurd h
split_is (some (Term.leaf l)) h = absurd h
split_is (some (Term.prefix e t)) h = absurd h
split_is (some (Term.binary Term.internal t u)) h = absurd h
split_is (some (Term.binary external t u)) h = (choice, t, u, refl)
split_is (some (Term.binary Term.sequence t u)) h = absurd h
split_is (some (Term.binary (parallel x) t u)) h = (together x, t, u, refl)

-- a place whose term is another does not split
pub other_term : {o : Option Term} (ts : List Term) (w : Place) → found ts w ≡ o → (Splits o → ⊥)
    → Splits (found ts w) → ⊥
other_term ts w e h k = h (subst Splits e k)

-- nor does a definition's left-hand side
under_none : (o : Option Term) → child 0 o ≡ none
unfolding child
under_none none = refl
under_none (some (Term.leaf l)) = refl
under_none (some (Term.prefix e t)) = refl
under_none (some (Term.binary o t u)) = refl

pub left_splits_not : (ts : List Term) (n : ℕ)
    → Splits (found ts (record { definition = n; path = left_path })) → ⊥
unfolding followed
left_splits_not ts n = subst Splits (under_none (get_elem? ts n))

-- nor a leaf
pub leaf_splits_not : (ts : List Term) (w : Place) (l : Leaf) → Located ts (leaf w l) → Splits (found ts w) → ⊥
leaf_splits_not ts w l (inl e) = other_term ts w e (λ k. k)
leaf_splits_not ts w l (inr e) =
    let at : w ≡ record { definition = 0; path = left_path } = cc in
    rw at (left_splits_not ts 0)

-- the first label that a process makes, where no step has begun it, passes a test
unfoldable pub opens : (Place → Bool) → Process → Bool
opens v (leaf w l) = v w
opens v (prefix w e P) = v (below w 1)
opens v (internal w P Q) = v w
opens v (split w k a b P Q) = v w
opens v (sequence w b P Q) = opens v P
opens v Ω = true
opens v ⊥' = false

-- the place p below w
abbrev further : Place → List ℕ → Place
further w p = record { definition = w.definition; path = w.path ++ p }

-- a term's first label is at or under its place
opens_here : (v : Place → Bool) (w : Place) → v w ≡ v (further w [])
opens_here v w = ap (λ q. v (record { definition = w.definition; path = q })) (sym (append-nil w.path))

opens_at : (v : Place → Bool) (w : Place) (t : Term)
    → (p : List ℕ) × (opens v (untouched w t) ≡ v (further w p))
unfolding opens untouched joined
opens_at v w (Term.leaf l) = ([], opens_here v w)
opens_at v w (Term.prefix e t) = (1 ∷ [], refl)
opens_at v w (Term.binary Term.internal t u) = ([], opens_here v w)
opens_at v w (Term.binary external t u) = ([], opens_here v w)
opens_at v w (Term.binary Term.sequence t u) =
    let (p, e) = opens_at v (below w 1) t in
    let path = append_assoc w.path (1 ∷ []) p in
    (1 ∷ p, e ∙ ap (λ q. v (record { definition = w.definition; path = q })) path)
opens_at v w (Term.binary (parallel x) t u) = ([], opens_here v w)

-- v is at or under the place x below w: of the same definition, with a path that begins so
abbrev pub Under : Place → ℕ → Place → Type 0
Under w x v = (v.definition ≡ w.definition) × (p : List ℕ) × (v.path ≡ w.path ++ (x ∷ p))

both : (a b : Bool) → (a && b) ≡ true → (a ≡ true) × (b ≡ true)
both true b e = (refl, e)
both false b e = let z : ◌≡◌ {A = ℕ} 0 1 = cc in absurd (omega arith)

begins_on : (q p : List ℕ) → begins q p ≡ true → (r : List ℕ) × (p ≡ q ++ r)
unfolding begins
begins_on [] p e = (p, refl)
begins_on (x ∷ q) [] e = let z : ◌≡◌ {A = ℕ} 0 1 = cc in absurd (omega arith)
begins_on (x ∷ q) (y ∷ p) e =
    let (same, more) = both (eqb x y) (begins q p) e in
    let (r, is) = begins_on q p more in
    let head = eqb-true x y same in
    (r, cc)

-- a path that goes on with y begins with what goes on with x where they are the same
begins_side : (q p : List ℕ) (x y : ℕ) → begins (q ++ (x ∷ [])) ((q ++ (y ∷ [])) ++ p) ≡ eqb x y
unfolding begins
begins_side [] p x y = go (eqb x y)
  where
    go : (b : Bool) → (b && true) ≡ b
    go true = refl
    go false = refl
begins_side (z ∷ q) p x y = rw (eq-eqb z z refl) (begins_side q p x y)

-- what is under y below w is under x below w where they are the same
under_side : (w v : Place) (x y : ℕ) (p : List ℕ) → v.definition ≡ w.definition
    → v.path ≡ (w.path ++ (y ∷ [])) ++ p → under w x v ≡ eqb x y
unfolding under
under_side w v x y p d e = rw (eq-eqb v.definition w.definition d, e) (begins_side w.path p x y)

-- the test says what it tests
pub under_true : (w v : Place) (x : ℕ) → under w x v ≡ true → Under w x v
unfolding under
under_true w v x e =
    let q = w.path ++ (x ∷ []) in
    let (same, more) = both (eqb v.definition w.definition) (begins q v.path) e in
    let (p, is) = begins_on q v.path more in
    (eqb-true v.definition w.definition same, p, is ∙ append_assoc w.path (x ∷ []) p)

pub true_under : (w v : Place) (x : ℕ) → Under w x v → under w x v ≡ true
true_under w v x (d, p, e) =
    under_side w v x x p d (e ∙ sym (append_assoc w.path (x ∷ []) p)) ∙ eq-eqb x x refl

-- the test whether v is at or under neither side of w
unfoldable pub elsewhere : Place → Place → Bool
elsewhere w v = not (under w 1 v || under w 2 v)

pub not_elsewhere : (w v : Place) → (elsewhere w v ≡ true → ⊥) → Under w 1 v ⊎ Under w 2 v
unfolding elsewhere
not_elsewhere w v h = go (under w 1 v) (under w 2 v) refl refl h
  where
    go : (a b : Bool) → under w 1 v ≡ a → under w 2 v ≡ b → (not (a || b) ≡ true → ⊥)
        → Under w 1 v ⊎ Under w 2 v
    go true b e e' h = inl (under_true w v 1 e)
    go false true e e' h = inr (under_true w v 2 e')
    go false false e e' h = absurd (h refl)

-- side y of w begins under x below w where they are the same, and not elsewhere
opens_under : (w : Place) (x y : ℕ) (t : Term) → opens (under w x) (untouched (below w y) t) ≡ eqb x y
opens_under w x y t =
    let (p, e) = opens_at (under w x) (below w y) t in
    e ∙ under_side w _ x y p refl refl

opens_elsewhere : (w : Place) (y : ℕ) (t : Term) → (eqb 1 y || eqb 2 y) ≡ true
    → opens (elsewhere w) (untouched (below w y) t) ≡ false
unfolding elsewhere
opens_elsewhere w y t h =
    let (p, e) = opens_at (elsewhere w) (below w y) t in
    let first : under w 1 _ ≡ eqb 1 y = under_side w _ 1 y p refl refl in
    let second : under w 2 _ ≡ eqb 2 y = under_side w _ 2 y p refl refl in
    e ∙ rw (first, second, h)

-- x where a test holds
unfoldable pub when : Bool → ℕ → ℕ
when b x = choose b x 0

pub when_most : (b : Bool) (x : ℕ) → when b x ≤ x
unfolding when
when_most true x = omega arith
when_most false x = omega arith

pub when_more : (b : Bool) (x y : ℕ) → x ≤ y → when b x ≤ when b y
unfolding when
when_more true x y l = l
when_more false x y l = omega arith

-- how many sides of two begin with a label that passes
abbrev pub sides : (Place → Bool) → Place → Term → Term → ℕ
sides v w t u = when (opens v (untouched (below w 1) t)) 1 + when (opens v (untouched (below w 2) u)) 1

-- how many arcs the label of a term at w allows: one, and of a split one to each side that begins so
unfoldable pub allowance : (Place → Bool) → Place → Option Term → ℕ
allowance v w none = 1
allowance v w (some (Term.leaf l)) = 1
allowance v w (some (Term.prefix e t)) = 1
allowance v w (some (Term.binary Term.internal t u)) = 1
allowance v w (some (Term.binary external t u)) = sides v w t u
allowance v w (some (Term.binary Term.sequence t u)) = 1
allowance v w (some (Term.binary (parallel x) t u)) = sides v w t u

pub allowance_one : (v : Place → Bool) (w : Place) (o : Option Term) → (Splits o → ⊥) → allowance v w o ≡ 1
unfolding allowance
allowance_one v w none h = refl
allowance_one v w (some (Term.leaf l)) h = refl
allowance_one v w (some (Term.prefix e t)) h = refl
allowance_one v w (some (Term.binary Term.internal t u)) h = refl
allowance_one v w (some (Term.binary external t u)) h = absurd (h tt)
allowance_one v w (some (Term.binary Term.sequence t u)) h = refl
allowance_one v w (some (Term.binary (parallel x) t u)) h = absurd (h tt)

pub allowance_sides : (v : Place → Bool) (w : Place) (k : Split) (t u : Term)
    → allowance v w (some (Term.binary (operator k) t u)) ≡ sides v w t u
unfolding allowance operator
allowance_sides v w choice t u = refl
allowance_sides v w (together x) t u = refl

-- a split's allows at most one arc to a side, and none elsewhere
one_side : (x : ℕ) → when (eqb x 1) 1 + when (eqb x 2) 1 ≤ 1
unfolding when
one_side x = go (eqb x 1) (eqb x 2) refl refl
  where
    go : (a b : Bool) → eqb x 1 ≡ a → eqb x 2 ≡ b → choose a 1 0 + choose b 1 0 ≤ 1
    go true true p q = let first = eqb-true x 1 p in let second = eqb-true x 2 q in absurd (omega arith)
    go true false p q = omega arith
    go false true p q = omega arith
    go false false p q = omega arith

pub allowance_under : (w : Place) (x : ℕ) (o : Option Term) → Splits o → allowance (under w x) w o ≤ 1
allowance_under w x o h =
    let (k, t, u, e) = split_is o h in
    rw (e, allowance_sides (under w x) w k t u, opens_under w x 1 t, opens_under w x 2 u) (one_side x)

pub allowance_elsewhere : (w : Place) (o : Option Term) → Splits o → allowance (elsewhere w) w o ≡ 0
unfolding when
allowance_elsewhere w o h =
    let (k, t, u, e) = split_is o h in
    rw (e, allowance_sides (elsewhere w) w k t u, opens_elsewhere w 1 t refl, opens_elsewhere w 2 u refl)
