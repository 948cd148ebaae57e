-- The path of each kind of literal, from where the way to its term ends, and the answer that
-- stands for it. Assumes nothing.
use Rattle.std.proofs.Common.{◌≡◌, ℕ, zero, suc, ◌+◌, ◌≤◌, Bool, true, false, eqb, List, [], ◌∷◌, ◌++◌}
use Rattle.std.proofs.Common.{length, set, Some, None, refl, ap, ◌∙◌, zero-add, arith, length-append, eq-eqb}
use Rattle.std.proofs.Common.{ne_eqb}
use Rattle.std.proofs.Math.Option.{Option, none, some}
use Rattle.std.proofs.lemmas.List.Edits.{sets}
use Rattle.std.specs.Prelude as std
use Rattle.lines.specs.Line.{choose}
use Rattle.kinds.specs.Kind.{subterms, prefix}
use Rattle.tables.proofs.Kept.{sets_snoc}
use Rattle.columns.specs.words.Columns.{Columns, look}
use Rattle.places.specs.code.Descent.{next, digit, below, descended, reached, digits, path_of}
use Rattle.places.specs.code.Descent.{with_event, event_of, literal_path, literal_definition, told}
use Rattle.places.specs.code.Descent.{at, answer}
use Rattle.places.specs.declared.Literal.{Literal}
use Rattle.places.specs.declared.Literal.TheVariants.{Left, Own, Event}
use Rattle.places.specs.declared.Placed.{Placed}
use Rattle.places.proofs.Ways.{Leaves}

-- a way is no longer than it may be
below_short : (x : ℕ) (o : Option (List ℕ)) (w : List ℕ) (f : ℕ) → ((v : List ℕ) → o ≡ some v → length v ≤ f)
    → below x o ≡ some w → length w ≤ suc f
unfolding below
below_short x none w f h e = let z : ◌≡◌ {A = ℕ} 0 1 = cc in absurd (omega arith)
below_short x (some v) w f h e = let same : w ≡ x ∷ v = cc in omega (arith, ap length same, h v refl)

descended_short : (f : ℕ) (ks xs : List ℕ) (i j : ℕ) (w : List ℕ) → descended f ks xs i j ≡ some w
    → length w ≤ f
unfolding descended
descended_short zero ks xs i j w e = go (eqb i j) e
  where
    go : (b : Bool) → choose b (some []) none ≡ some w → length w ≤ 0
    go true e = let same : w ≡ [] = cc in omega (arith, ap length same)
    go false e = let z : ◌≡◌ {A = ℕ} 0 1 = cc in absurd (omega arith)
descended_short (suc f) ks xs i j w e =
    let n = subterms (look 1024 ks i) in
    go (eqb i j) (eqb n 0) (digit n xs i j) (descended f ks xs (next n xs i j) j) e
    (λ v q. descended_short f ks xs (next n xs i j) j v q)
  where
    go : (a b : Bool) (x : ℕ) (o : Option (List ℕ)) → choose a (some []) (choose b none (below x o)) ≡ some w
        → ((v : List ℕ) → o ≡ some v → length v ≤ f) → length w ≤ suc f
    go true b x o e h = let same : w ≡ [] = cc in omega (arith, ap length same)
    go false true x o e h = let z : ◌≡◌ {A = ℕ} 0 1 = cc in absurd (omega arith)
    go false false x o e h = below_short x o w f h e

module _ (c : Columns) (n : ℕ) (p : List ℕ) where
  -- the way from the root of the definition that the term stands in
  pub own_path : (most root : ℕ) (r : std.Option ℕ) (q : List ℕ)
      → root ≡ look 64 c.roots (look 1024 c.owners n)
      → Leaves p (descended most c.kinds c.after root n) r q → Leaves p (path_of most c n) r q
  unfolding path_of
  own_path most root r q e h = rw e at h

  pub event_none : (look 1024 c.kinds n ≡ prefix → ⊥) → Leaves p (event_of c n) None p
  unfolding event_of reached digits
  event_none h = simp (ne_eqb (look 1024 c.kinds n) prefix h) (refl, refl)

  module _ (is : look 1024 c.kinds n ≡ prefix) (r : std.Option ℕ) (q : List ℕ)
      (h : Leaves p (path_of 63 c n) r q) where
    event_is : event_of c n ≡ with_event (path_of 63 c n)
    unfolding event_of
    event_is = simp (eq-eqb (look 1024 c.kinds n) prefix is)

    pub event_astray : r ≡ None → Leaves p (event_of c n) r q
    unfolding reached digits with_event
    event_astray e = rw event_is (go (path_of 63 c n) h)
      where
        go : (o : Option (List ℕ)) → Leaves p o r q → Leaves p (with_event o) r q
        go none h = h
        go (some w) h = let z : ◌≡◌ {A = ℕ} 0 1 = cc in absurd (omega arith)

    ends_at : (e : ℕ) → r ≡ Some e → (w : List ℕ) × (path_of 63 c n ≡ some w) × (e ≡ length w)
    unfolding reached
    ends_at e k = go (path_of 63 c n) refl h.0
      where
        go : (o : Option (List ℕ)) → path_of 63 c n ≡ o → r ≡ reached 0 o
            → (w : List ℕ) × (path_of 63 c n ≡ some w) × (e ≡ length w)
        go none f q = let z : ◌≡◌ {A = ℕ} 0 1 = cc in absurd (omega arith)
        go (some w) f q = let at : 0 + length w ≡ e = cc in (w, f, omega arith)

    pub event_room : (e : ℕ) → r ≡ Some e → e ≤ 63
    unfolding path_of
    event_room e k =
        let w = ends_at e k in
        omega (arith, descended_short 63 _ _ _ n w.0 w.1)

    pub event_ends : (e : ℕ) → r ≡ Some e → Leaves p (event_of c n) (Some (e + 1)) (set q e 1)
    unfolding reached digits with_event
    event_ends e k =
        let w = ends_at e k in
        let l : e + 1 ≡ 0 + length (w.0 ++ (1 ∷ [])) = omega (arith, length-append w.0 (1 ∷ [])) in
        let stored : q ≡ sets p 0 w.0 = rw w.1 at h.1 in
        rw (event_is, w.1)
        (ap Some l, ap (λ (m : List ℕ). set m e 1) stored ∙ sets_snoc p 0 w.0 1 e (omega arith))

-- the answer, by where the path ended
told_none : (d : ℕ) (o : Option (List ℕ)) → None ≡ reached 0 o → None ≡ told d o
unfolding told reached
told_none d none e = refl
told_none d (some w) e = cc

told_some : (d k : ℕ) (o : Option (List ℕ)) → Some k ≡ reached 0 o → at d k ≡ told d o
unfolding told reached
told_some d k none e = cc
told_some d k (some w) e = let same : k ≡ 0 + length w = cc in rw same (rw zero-add)

-- an answer tells one definition
pub at_definition : (d m e n : ℕ) → at d m ≡ at e n → d ≡ e
at_definition d m e n h =
    let same : ◌≡◌ {A = Placed} (record { definition = d; length = m }) (record { definition = e; length = n }) = cc in
    ap (λ (p : Placed). p.definition) same

-- a literal is of term n, and has path o
pub record Has (c : Columns) (l : Literal) (n : ℕ) (o : Option (List ℕ)) : Type 0 where
  pub path : literal_path c l ≡ o
  pub owner : literal_definition c l ≡ look 1024 c.owners n

module _ (c : Columns) (l : Literal) (n : ℕ) where
  pub own_has : l ≡ Own n → Has c l n (path_of 64 c n)
  unfolding literal_path literal_definition
  own_has e = rw e (record { path = refl; owner = refl })

  pub event_has : l ≡ Event n → Has c l n (event_of c n)
  unfolding literal_path literal_definition
  event_has e = rw e (record { path = refl; owner = refl })

-- what the door leaves
abbrev pub Places : Columns → Literal → List ℕ → std.Option Placed → List ℕ → Type 0
Places c l p x q = (x ≡ answer c l) × (q ≡ sets p 0 (digits (literal_path c l)))

module _ (c : Columns) (l : Literal) (p : List ℕ) where
  pub left_placed : (d : ℕ) → l ≡ Left d → Places c l p (at d 1) (set p 0 0)
  unfolding answer told literal_path literal_definition digits
  left_placed d e = rw e (refl, refl)

  module _ (n : ℕ) (o : Option (List ℕ)) (has : Has c l n o) (r : std.Option ℕ) (q : List ℕ)
      (h : Leaves p o r q) where
    pub nowhere_placed : r ≡ None → Places c l p None q
    unfolding answer
    nowhere_placed e = rw has.path (told_none _ o (rw e at h.0), h.1)

    pub somewhere_placed : (d k : ℕ) → d ≡ look 1024 c.owners n → r ≡ Some k → Places c l p (at d k) q
    unfolding answer
    somewhere_placed d k f e = rw (has.path, has.owner, ← f) (told_some d k o (rw e at h.0), h.1)
