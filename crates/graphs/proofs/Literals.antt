-- What the table has at a place, told twice: the subterm that a path leads to, as tracking finds it, is the
-- term whose own literal stands there, as the reader finds it; at a prefix's event no subterm stands. So a place
-- splits for the reader exactly where it does for tracking; and a literal's path is of digits 1 and 2, and no
-- longer than its definition's paths are. By induction over paths, and over the sides of terms. Assumes nothing.
use Rattle.std.proofs.Common.{ℕ, zero, suc, ◌+◌, ◌-◌, ◌≤◌, ◌<◌, ◌≡◌, refl, sym, subst, ap, ◌∙◌, Bool, true}
use Rattle.std.proofs.Common.{false, List, [], ◌∷◌, ◌⊎◌, inl, inr, arith, length, eqb, ltb, eqb-true, le-leb}
use Rattle.std.proofs.Common.{lt-ltb}
use Rattle.std.proofs.Math.Option.{Option, none, some, some-injective}
use Rattle.std.proofs.Math.ListN.{get_elem?}
use Rattle.lines.specs.Line.{choose, Bytes, no_bytes, byte_first}
use Rattle.frames.specs.TableFrame.{path_room}
use Rattle.terms.specs.Term.{Term, external, parallel, size, Shallow}
use Rattle.terms.specs.Term as Term
use Rattle.terms.proofs.Trees.{listed_below}
use Rattle.terms.proofs.Held.{size_some}
use Rattle.places.specs.Place.{Place, path_in, term_at, IsPrefix, event_path, Literal, own, event, literal_at}
use Rattle.places.proofs.Sides.{Side, only, first, second, by_number, side_at, side_inside, path_root}
use Rattle.places.proofs.Sides.{term_root, prefix_inside}
use Rattle.places.proofs.Laws.{own_found, event_found, own_only, event_only, path_short, event_short}
use Rattle.rules.specs.Process.{below}
use Rattle.rules.proofs.Placed.{child, followed, found, found_below}
use Rattle.rules.proofs.Meetings.{EventAt, event_literal}
use Rattle.rules.proofs.Sided.{Splits}
use Rattle.graphs.specs.Parsed.{in_range}
use Rattle.graphs.specs.Shape.{in_definition, in_term, root_of, literal_of, there, splits_term}
use Rattle.graphs.specs.Shape.{splits_literal, splits, event_of_term, event_of_literal, event_of}

-- no subterm stands below none
followed_none : (p : List ℕ) → followed none p ≡ none
unfolding followed child
followed_none [] = refl
followed_none (x ∷ p) = followed_none p

-- none is not some
none_some : {A B : Type 0} {a : A} → none ≡ some a → B
none_some e = let z : ◌≡◌ {A = ℕ} 0 1 = cc in absurd (omega arith)

-- a side is the subterm at its digit
side_child : {T t : Term} {x k : ℕ} → Side T x k t → child x (some T) ≡ some t
unfolding child
side_child (only e t) = refl
side_child (first o t u) = refl
side_child (second o t u) = refl

-- a number's path leads to its term
path_leads : (T : Term) (n : ℕ) → n < size T → followed (some T) (path_in T n) ≡ some (term_at T n)
unfolding followed
path_leads =
    by_number (λ T n. followed (some T) (path_in T n) ≡ some (term_at T n))
    (λ T. rw (path_root T, term_root T))
    λ T t x k n s h further.
    rw ((side_at n s h).0, (side_at n s h).1) (ap (λ o. followed o (path_in t n)) (side_child s) ∙ further)

-- a number of a term that a path leads to
abbrev Leads : Term → List ℕ → Term → Type 0
Leads T p t = (n : ℕ) × (n < size T) × (p ≡ path_in T n) × (term_at T n ≡ t)

leads_inward : {T t u : Term} {x k : ℕ} (p : List ℕ) → Side T x k t → Leads t p u → Leads T (x ∷ p) u
leads_inward {x = x} {k = k} p s (n, h, q, e) =
    let at = side_at n s h in
    (k + n, omega (arith, h, side_inside s), ap (λ q. x ∷ q) q ∙ sym at.0, at.1 ∙ e)

-- each path that leads to a term is a number's
leads : (p : List ℕ) (T u : Term) → followed (some T) p ≡ some u → Leads T p u
unfolding followed child
leads [] T u e = (0, size_some T, sym (path_root T), term_root T ∙ some-injective _ _ e)
leads (x ∷ p) (Term.leaf l) u e = none_some (sym (followed_none p) ∙ e)
leads (x ∷ p) (Term.prefix k t) u e = go (eqb x 2) refl e (leads p t u)
  where
    go : (b : Bool) → eqb x 2 ≡ b → followed (choose b (some t) none) p ≡ some u
        → (followed (some t) p ≡ some u → Leads t p u) → Leads (Term.prefix k t) (x ∷ p) u
    go true q e more = rw (eqb-true x 2 q) (leads_inward p (only k t) (more e))
    go false q e more = none_some (sym (followed_none p) ∙ e)
leads (x ∷ p) (Term.binary o t v) u e = go (eqb x 1) (eqb x 2) refl refl e (leads p t u) (leads p v u)
  where
    go : (b c : Bool) → eqb x 1 ≡ b → eqb x 2 ≡ c
        → followed (choose b (some t) (choose c (some v) none)) p ≡ some u
        → (followed (some t) p ≡ some u → Leads t p u) → (followed (some v) p ≡ some u → Leads v p u)
        → Leads (Term.binary o t v) (x ∷ p) u
    go true c q r e left right = rw (eqb-true x 1 q) (leads_inward p (first o t v) (left e))
    go false true q r e left right = rw (eqb-true x 2 r) (leads_inward p (second o t v) (right e))
    go false false q r e left right = none_some (sym (followed_none p) ∙ e)

-- below a prefix's arrow stands its event, and no subterm
event_no_term : (T : Term) → IsPrefix T → child 1 (some T) ≡ none
unfolding child
event_no_term (Term.leaf l) h = absurd h
event_no_term (Term.prefix e t) h = refl
event_no_term (Term.binary o t u) h = absurd h

module _ (ts : List Term) where
  -- a path leads on only from a definition
  term_leads : (w : Place) (t : Term) (o : Option Term) → root_of ts w ≡ o → followed o w.path ≡ some t
      → (T : Term) × (root_of ts w ≡ some T) × Leads T w.path t
  term_leads w t none r e = none_some (sym (followed_none w.path) ∙ e)
  term_leads w t (some T) r e = (T, r, leads w.path T t e)

  -- the reader's literal of a place
  literal_is : (w : Place) (T : Term) (l : Literal) → root_of ts w ≡ some T → literal_at T w.path ≡ some l
      → there ts (literal_of ts w) ≡ true
  unfolding there in_definition
  literal_is w T l r e = rw (r, e)

  -- where the table has a term, its own literal stands
  pub own_there : (w : Place) (t : Term) → found ts w ≡ some t → there ts (literal_of ts w) ≡ true
  own_there w t e =
      let (T, r, (n, h, p, is)) = term_leads w t _ refl e in
      literal_is w T (own n) r (ap (literal_at T) p ∙ own_found T n h)

  -- and where it has a prefix, the event stands one below
  pub event_there : (w : Place) (e : ℕ) (t : Term) → found ts w ≡ some (Term.prefix e t)
      → there ts (literal_of ts (below w 1)) ≡ true
  event_there w e t h =
      let (T, r, (n, i, p, is)) = term_leads w (Term.prefix e t) _ refl h in
      let path = ap (λ q. literal_at T (event_path q)) p in
      literal_is (below w 1) T (event n) r (path ∙ event_found T n (subst IsPrefix (sym is) tt))

  -- what tracking finds where the reader finds a term's own literal, an event, or none
  found_own : (w : Place) (T : Term) (n : ℕ) → root_of ts w ≡ some T → literal_at T w.path ≡ some (own n)
      → found ts w ≡ some (term_at T n)
  found_own w T n r e =
      let (h, p) = own_only T w.path n e in
      rw (r, p) (path_leads T n h)

  found_event : (w : Place) (T : Term) (n : ℕ) → root_of ts w ≡ some T → literal_at T w.path ≡ some (event n)
      → found ts w ≡ none
  found_event w T n r e =
      let (h, p) = event_only T w.path n e in
      let v : Place = record { definition = w.definition; path = path_in T n } in
      let above : found ts v ≡ some (term_at T n) = rw r (path_leads T n (prefix_inside T n h)) in
      ap (followed (root_of ts w)) p ∙ found_below ts v 1 _ above ∙ event_no_term (term_at T n) h

  found_nothing : (w : Place) → literal_of ts w ≡ none → (o : Option Term) → found ts w ≡ o → o ≡ none
  unfolding there
  found_nothing w e none f = refl
  found_nothing w e (some t) f =
      let both = sym (own_there w t f) ∙ ap (there ts) e in
      let z : ◌≡◌ {A = ℕ} 0 1 = cc in absurd (omega arith)

  -- a place splits for the reader where it does for tracking
  splits_found : (w : Place) → splits ts w ≡ splits_term ts (found ts w)
  unfolding splits_literal splits_term in_term in_definition
  splits_found w = go (root_of ts w) refl
    where
      by_literal : (T : Term) → root_of ts w ≡ some T → (o : Option Literal) → literal_at T w.path ≡ o
          → splits_literal ts (some T) o ≡ splits_term ts (found ts w)
      by_literal T r none e = ap (splits_term ts) (sym (found_nothing w (rw r e) _ refl))
      by_literal T r (some (own n)) e = ap (splits_term ts) (sym (found_own w T n r e))
      by_literal T r (some (event n)) e = ap (splits_term ts) (sym (found_event w T n r e))

      go : (o : Option Term) → root_of ts w ≡ o
          → splits_literal ts o (in_definition o w.path) ≡ splits_term ts (found ts w)
      go none r = rw (r, followed_none w.path)
      go (some T) r = by_literal T r _ refl

  -- by the term that it is
  by_term : (o : Option Term)
      → ((splits_term ts o ≡ true) × Splits o) ⊎ ((splits_term ts o ≡ false) × (Splits o → ⊥))
  unfolding splits_term
  by_term none = inr (refl, λ h. h)
  by_term (some (Term.leaf l)) = inr (refl, λ h. h)
  by_term (some (Term.prefix e t)) = inr (refl, λ h. h)
  by_term (some (Term.binary Term.internal t u)) = inr (refl, λ h. h)
  by_term (some (Term.binary external t u)) = inl (refl, tt)
  by_term (some (Term.binary Term.sequence t u)) = inr (refl, λ h. h)
  by_term (some (Term.binary (parallel x) t u)) = inl (refl, tt)

  -- so it splits for both, or for neither
  pub splits_or_not : (w : Place)
      → ((splits ts w ≡ true) × Splits (found ts w)) ⊎ ((splits ts w ≡ false) × (Splits (found ts w) → ⊥))
  splits_or_not w = rw (splits_found w) (by_term (found ts w))

  -- the event of a place that has a prefix's event
  pub event_at : (w : Place) (e : ℕ) → EventAt ts e w → event_of ts (some w) ≡ some e
  unfolding event_of event_of_literal event_of_term in_term in_definition
  event_at w e h =
      let (T, n, t, r, l, is) = event_literal ts e w h in
      rw (r, l, is)

-- a path's digits are 1 and 2
path_bytes : (T : Term) (n : ℕ) → Bytes (path_in T n)
unfolding path_in
path_bytes (Term.leaf l) n = no_bytes
path_bytes (Term.prefix e t) zero = no_bytes
path_bytes (Term.prefix e t) (suc n) = byte_first {b = 2} (omega arith) (path_bytes t n)
path_bytes (Term.binary o t u) zero = no_bytes
path_bytes (Term.binary o t u) (suc n) = go (ltb n (size t)) (path_bytes t n) (path_bytes u (n - size t))
  where
    go : (b : Bool) → Bytes (path_in t n) → Bytes (path_in u (n - size t))
        → Bytes (choose b (1 ∷ path_in t n) (2 ∷ path_in u (n - size t)))
    go true left right = byte_first {b = 1} (omega arith) left
    go false left right = byte_first {b = 2} (omega arith) right

event_bytes : {p : List ℕ} → Bytes p → Bytes (event_path p)
event_bytes no_bytes = byte_first {b = 1} (omega arith) no_bytes
event_bytes (byte_first l bs) = byte_first l (event_bytes bs)

-- a place in range of a table of d definitions, and its path's digits bytes
abbrev pub Ranged : ℕ → Place → Type 0
Ranged d w = (in_range d w ≡ true) × Bytes w.path

pub ranged : (d : ℕ) (w : Place) → length w.path ≤ path_room → w.definition < d → Bytes w.path
    → Ranged d w
unfolding in_range
ranged d w p l bs = (rw (le-leb _ _ p, lt-ltb _ _ l), bs)

-- so is every literal's, where no definition has a path of more than 64 digits
pub literal_ranged : (ts : List Term) → ((k : ℕ) (t : Term) → get_elem? ts k ≡ some t → Shallow 0 t)
    → (w : Place) → there ts (literal_of ts w) ≡ true → Ranged (length ts) w
unfolding there in_definition
literal_ranged ts shallow w h = go (root_of ts w) refl h
  where
    by_literal : (T : Term) → root_of ts w ≡ some T → (o : Option Literal) → literal_at T w.path ≡ o
        → there ts o ≡ true → Ranged (length ts) w
    by_literal T r none e h = let z : ◌≡◌ {A = ℕ} 0 1 = cc in absurd (omega arith)
    by_literal T r (some (own n)) e h =
        let (i, p) = own_only T w.path n e in
        let short = path_short T 0 n (shallow _ T r) i in
        ranged (length ts) w (omega (arith, short, ap length p)) (listed_below ts _ T r) (rw p (path_bytes T n))
    by_literal T r (some (event n)) e h =
        let (i, p) = event_only T w.path n e in
        let short = event_short T 0 n (shallow _ T r) i in
        let bytes = event_bytes (path_bytes T n) in
        ranged (length ts) w (omega (arith, short, ap length p)) (listed_below ts _ T r) (rw p bytes)

    go : (o : Option Term) → root_of ts w ≡ o → there ts (in_definition o w.path) ≡ true
        → Ranged (length ts) w
    go none r h = let z : ◌≡◌ {A = ℕ} 0 1 = cc in absurd (omega arith)
    go (some T) r h = by_literal T r _ refl h
