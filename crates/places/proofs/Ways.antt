-- Following terms downward, a step at a time: what a column has at a number, which subterm comes next, and
-- what each end of the way says of the path and of the digits written. Assumes nothing.
use Rattle.std.proofs.Common.{◌≡◌, ℕ, zero, suc, ◌+◌, ◌-◌, ◌<◌, ◌≤◌, Bool, true, false, ltb, List, [], ◌∷◌}
use Rattle.std.proofs.Common.{◌++◌, length, set, Some, None, sym, refl, ap, ◌∙◌, append_assoc, append-nil}
use Rattle.std.proofs.Common.{arith, length-append, ltb-true, le-ltb, lt-ltb, eq-eqb, ne_eqb, le-leb}
use Rattle.std.proofs.Math.Nat.{sub-zero}
use Rattle.std.proofs.Math.Option.{Option, none, some}
use Rattle.std.proofs.lemmas.Bool.{lt-leb}
use Rattle.std.proofs.lemmas.List.Edits.{sets}
use Rattle.std.specs.Prelude as std
use Rattle.kinds.specs.Kind.{subterms}
use Rattle.tables.proofs.Kept.{sets_snoc}
use Rattle.columns.specs.words.Columns.{look}
use Rattle.places.specs.code.Descent.{next, digit, below, descended, reached, digits}

-- a term with subterms is one of the column's
pub inside : (ks : List ℕ) (i : ℕ) → (subterms (look 1024 ks i) ≡ 0 → ⊥) → i < 1024
unfolding look subterms
inside ks i h = go (ltb i 1024) refl
  where
    go : (b : Bool) → ltb i 1024 ≡ b → i < 1024
    go true e = ltb-true i 1024 e
    go false e = absurd (h (rw e))

-- a step by the number of subterms and the side that the aim stands on
module _ (n : ℕ) (xs : List ℕ) (i j : ℕ) where
  pub step_only : (n ≡ 2 → ⊥) → (i + 1 ≡ next n xs i j) × (2 ≡ digit n xs i j)
  unfolding next digit
  step_only h = simp (ne_eqb n 2 h) (refl, refl)

  module _ (two : n ≡ 2) (s : ℕ) (is : s ≡ look 1024 xs (i + 1)) where
    pub step_second : s ≤ j → (s ≡ next n xs i j) × (2 ≡ digit n xs i j)
    unfolding next digit
    step_second h = rw (← is) (simp (eq-eqb n 2 two, le-leb s j h, le-ltb j s h) (refl, refl))

    pub step_first : j < s → (i + 1 ≡ next n xs i j) × (1 ≡ digit n xs i j)
    unfolding next digit
    step_first h = rw (← is) (simp (eq-eqb n 2 two, lt-leb s j h, lt-ltb j s h) (refl, refl))

-- the way is at its end, or ends nowhere, or takes one step more
module _ (f : ℕ) (ks xs : List ℕ) (i j : ℕ) where
  pub descended_here : i ≡ j → descended f ks xs i j ≡ some []
  unfolding descended
  descended_here e = go f
    where
      go : (f : ℕ) → descended f ks xs i j ≡ some []
      go zero = simp (eq-eqb i j e)
      go (suc f) = simp (eq-eqb i j e)

  module _ (away : i ≡ j → ⊥) where
    pub descended_short : f ≡ 0 → descended f ks xs i j ≡ none
    unfolding descended
    descended_short e = rw e (simp (ne_eqb i j away))

    pub descended_leaf : subterms (look 1024 ks i) ≡ 0 → descended f ks xs i j ≡ none
    unfolding descended
    descended_leaf e = go f
      where
        go : (f : ℕ) → descended f ks xs i j ≡ none
        go zero = simp (ne_eqb i j away)
        go (suc f) = simp (ne_eqb i j away, eq-eqb (subterms (look 1024 ks i)) 0 e)

    module _ (g n x m : ℕ) (more : f ≡ suc g) (count : n ≡ subterms (look 1024 ks i)) (some_of : n ≡ 0 → ⊥)
        (x_is : x ≡ digit n xs i j) (m_is : m ≡ next n xs i j) where
      pub descended_step : descended f ks xs i j ≡ below x (descended g ks xs m j)
      unfolding descended
      descended_step = rw (more, x_is, m_is, count)
          (simp (ne_eqb i j away, ne_eqb (subterms (look 1024 ks i)) 0 (λ z. some_of (count ∙ z))))

-- where the way ends, and what is written
abbrev pub Leaves : List ℕ → Option (List ℕ) → std.Option ℕ → List ℕ → Type 0
Leaves p o r q = (r ≡ reached 0 o) × (q ≡ sets p 0 (digits o))

-- digits, and the path from there on, where there is one
unfoldable pub onward : List ℕ → Option (List ℕ) → Option (List ℕ)
onward g none = none
onward g (some w) = some (g ++ w)

onward_start : (o : Option (List ℕ)) → onward [] o ≡ o
unfolding onward
onward_start none = refl
onward_start (some w) = refl

onward_step : (g : List ℕ) (x : ℕ) (o : Option (List ℕ)) → onward g (below x o) ≡ onward (g ++ (x ∷ [])) o
unfolding onward below
onward_step g x none = refl
onward_step g x (some w) = ap some (sym (append_assoc g (x ∷ []) w))

-- the way from term i to term j, of at most f digits, which are to stand in front of p
module _ (f : ℕ) (ks xs : List ℕ) (i j : ℕ) (p : List ℕ) where
  -- halfway: nothing has been written yet in q; the digits so far stand in a copy, and the rest of the way is the one
  -- from here on
  pub record Halfway (q way : List ℕ) (here depth : ℕ) : Type 0 where
    pub untouched : q ≡ p
    pub gone : List ℕ
    pub counted : depth ≡ length gone
    pub copied : way ≡ sets p 0 gone
    pub rest : descended f ks xs i j ≡ onward gone (descended (f - depth) ks xs here j)

  pub way_begun : Halfway p p i 0
  way_begun = record {
    untouched = refl;
    gone = [];
    counted = refl;
    copied = refl;
    rest = rw (sub-zero f) (sym (onward_start (descended f ks xs i j)));
  }

  module _ (q way : List ℕ) (here depth : ℕ) (h : Halfway q way here depth) where
    pub way_done : here ≡ j → Leaves p (descended f ks xs i j) (Some depth) way
    unfolding onward reached digits
    way_done e =
        let all : descended f ks xs i j ≡ some h.gone =
        h.rest ∙ rw (descended_here (f - depth) ks xs here j e, append-nil h.gone) in
        rw all (ap Some (omega (arith, h.counted)), h.copied)

    astray : descended (f - depth) ks xs here j ≡ none → Leaves p (descended f ks xs i j) None q
    unfolding onward reached digits
    astray e = rw (h.rest, e) (refl, h.untouched)

    module _ (away : here ≡ j → ⊥) where
      pub way_short : f ≤ depth → Leaves p (descended f ks xs i j) None q
      way_short l = astray (descended_short (f - depth) ks xs here j away (omega arith))

      pub way_leaf : subterms (look 1024 ks here) ≡ 0 → Leaves p (descended f ks xs i j) None q
      way_leaf e = astray (descended_leaf (f - depth) ks xs here j away e)

      pub way_on : (n x m : ℕ) → depth < f → n ≡ subterms (look 1024 ks here) → (n ≡ 0 → ⊥)
          → x ≡ digit n xs here j → m ≡ next n xs here j → Halfway q (set way depth x) m (depth + 1)
      way_on n x m l count some_of x_is m_is =
          let more : f - depth ≡ suc (f - (depth + 1)) = omega arith in
          let step = descended_step (f - depth) ks xs here j away _ n x m more count some_of x_is m_is in
          let end = h.counted in record {
            untouched = h.untouched;
            gone = h.gone ++ (x ∷ []);
            counted = omega (arith, length-append h.gone (x ∷ []));
            copied = ap (λ (l : List ℕ). set l depth x) h.copied ∙ sets_snoc p 0 h.gone x depth (omega arith);
            rest = h.rest ∙ ap (onward h.gone) step ∙ onward_step h.gone x _;
          }
