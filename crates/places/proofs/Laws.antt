-- What a caller may rely on. By induction over the sides of terms each literal of a term has exactly one
-- place, of at most 64 digits, and following columns which hold a term gives its paths; so the door `place`
-- answers with the places of a table's literals. Assumes nothing.
use Rattle.std.proofs.Common.{◌≡◌, ℕ, zero, suc, ◌+◌, ◌<◌, ◌≤◌, Bool, true, false, eqb, ◌↔◌, List, [], ◌∷◌}
use Rattle.std.proofs.Common.{◌++◌, length, get_or, None, sym, refl, ap, ◌∙◌, append-nil, add-zero, add_assoc}
use Rattle.std.proofs.Common.{add-one, arith, length-append, eq-eqb, ne_eqb, eqb-true}
use Rattle.std.proofs.Math.ListN.{get_elem?}
use Rattle.std.proofs.Math.Option.{Option, none, some}
use Rattle.lines.specs.Line.{choose}
use Rattle.lines.specs.Judging.{accepted}
use Rattle.kinds.specs.Kind as Kind
use Rattle.kinds.specs.Kind.{subterms}
use Rattle.tables.specs.Table.{Sofar, judged}
use Rattle.tables.specs.words.Columns.{kinds, payloads, owners, afters, roots}
use Rattle.terms.specs.Term.{Term, leaf, prefix, binary, size, Shallow, definitions_of}
use Rattle.terms.specs.words.Held.{HoldsTerm}
use Rattle.terms.proofs.Trees.{leaf_subterms, prefix_subterms, operator_subterms, each_at, listed_below, checked_trees}
use Rattle.terms.proofs.Held.{size_some, holds_behind, checked_holds}
use Rattle.places.specs.Place.{path_in, term_at, IsPrefix, PrefixAt, event_path, left_path, Literal}
use Rattle.places.specs.Place.{own, event, shifted, event_end, literal_at}
use Rattle.columns.specs.words.Columns.{Columns, look, columns}
use Rattle.places.specs.code.Descent.{next, digit, below, descended, path_of, with_event, event_of}
use Rattle.places.specs.code.Descent.{literal_path, literal_definition, at, told, answer}
use Rattle.places.specs.declared.Literal.{Literal as Asked}
use Rattle.places.specs.declared.Literal.TheVariants.{Left, Own, Event}
use Rattle.places.proofs.Sides.{Side, only, first, second, by_number, path_root, term_root}
use Rattle.places.proofs.Sides.{literal_root, side_first, side_inside, side_at, side_literal}
use Rattle.places.proofs.Sides.{side_shallow, prefix_inside}
use Rattle.columns.proofs.Laws.{look_in}
use Rattle.places.proofs.Ways.{step_only, step_first, step_second, descended_here, descended_short}
use Rattle.places.proofs.Ways.{descended_leaf, descended_step}

-- literals numbered from another start
shifted_zero : (o : Option Literal) → shifted 0 o ≡ o
unfolding shifted
shifted_zero none = refl
shifted_zero (some (own n)) = ap (λ (m : ℕ). some (own m)) (omega arith)
shifted_zero (some (event n)) = ap (λ (m : ℕ). some (event m)) (omega arith)

shifted_again : (k n : ℕ) (o : Option Literal) → shifted k (shifted n o) ≡ shifted (k + n) o
unfolding shifted
shifted_again k n none = refl
shifted_again k n (some (own m)) = ap (λ (j : ℕ). some (own j)) (omega arith)
shifted_again k n (some (event m)) = ap (λ (j : ℕ). some (event j)) (omega arith)

-- below number n's path stand number n's literals
below_path : (t : Term) (n : ℕ) → n < size t
    → (v : List ℕ) → literal_at t (path_in t n ++ v) ≡ shifted n (literal_at (term_at t n) v)
below_path =
    by_number (λ t n. (v : List ℕ) → literal_at t (path_in t n ++ v) ≡ shifted n (literal_at (term_at t n) v))
    (λ t v. rw (path_root t, term_root t) (sym (shifted_zero (literal_at t v))))
    λ T t x k n s h further v.
    rw ((side_at n s h).0, (side_at n s h).1)
    (side_literal (path_in t n ++ v) s ∙ ap (shifted k) (further v) ∙ shifted_again k n _)

event_below : (t : Term) → IsPrefix t → literal_at t (1 ∷ []) ≡ some (event 0)
unfolding literal_at event_end
event_below (leaf l) p = absurd p
event_below (prefix e t) p = refl
event_below (binary o t u) p = absurd p

-- a term's own literal and a prefix's event stand at their paths
pub own_found : (t : Term) (n : ℕ) → n < size t → literal_at t (path_in t n) ≡ some (own n)
unfolding shifted
own_found t n h =
    ap (literal_at t) (sym (append-nil (path_in t n))) ∙ below_path t n h []
    ∙ rw literal_root (ap (λ (m : ℕ). some (own m)) (add-zero n))

pub event_found : (t : Term) (n : ℕ) → PrefixAt t n → literal_at t (event_path (path_in t n)) ≡ some (event n)
unfolding shifted
event_found t n p =
    below_path t n (prefix_inside t n p) (1 ∷ [])
    ∙ rw (event_below (term_at t n) p) (ap (λ (m : ℕ). some (event m)) (add-zero n))

-- what a path says of the literal that stands there
abbrev Tells : Term → List ℕ → Option Literal → Type 0
Tells t w none = Unit {0}
Tells t w (some (own n)) = (n < size t) × (w ≡ path_in t n)
Tells t w (some (event n)) = PrefixAt t n × (w ≡ event_path (path_in t n))

tells_inward : {T t : Term} {x k : ℕ} (w : List ℕ) (o : Option Literal) → Side T x k t
    → Tells t w o → Tells T (x ∷ w) (shifted k o)
unfolding shifted
tells_inward w none s r = tt
tells_inward {x} w (some (own n)) s r =
    (omega (arith, side_inside s), ap (λ (v : List ℕ). x ∷ v) r.1 ∙ sym (side_at n s r.0).0)
tells_inward {t} {x} w (some (event n)) s r =
    let at = side_at n s (prefix_inside t n r.0) in
    (rw at.1 r.0, ap (λ (v : List ℕ). x ∷ v) r.1 ∙ ap event_path (sym at.0))

-- by a path's first digit
tells_if : (T : Term) (x : ℕ) (w : List ℕ) (d : ℕ) (o p : Option Literal)
    → Tells T (d ∷ w) o → Tells T (x ∷ w) p → Tells T (x ∷ w) (choose (eqb x d) o p)
tells_if T x w d o p is others = go (eqb x d) refl
  where
    go : (b : Bool) → eqb x d ≡ b → Tells T (x ∷ w) (choose b o p)
    go true e = rw (eqb-true x d e) is
    go false e = others

tells_event : (e : ℕ) (t : Term) (w : List ℕ) → Tells (prefix e t) (1 ∷ w) (event_end w)
unfolding event_end path_in term_at
tells_event e t [] = (tt, refl)
tells_event e t (x ∷ w) = tt

tells : (t : Term) (w : List ℕ) → Tells t w (literal_at t w)
unfolding literal_at size path_in
tells (leaf l) [] = (omega arith, refl)
tells (leaf l) (x ∷ w) = tt
tells (prefix e t) [] = (omega arith, refl)
tells (prefix e t) (x ∷ w) =
    tells_if (prefix e t) x w 1 _ _ (tells_event e t w)
    (tells_if (prefix e t) x w 2 _ none (tells_inward w _ (only e t) (tells t w)) tt)
tells (binary o t u) [] = (omega arith, refl)
tells (binary o t u) (x ∷ w) =
    tells_if (binary o t u) x w 1 _ _ (tells_inward w _ (first o t u) (tells t w))
    (tells_if (binary o t u) x w 2 _ none (tells_inward w _ (second o t u) (tells u w)) tt)

-- and nowhere else; no literal of a right-hand side stands at the left-hand side's path
pub own_only : (t : Term) (w : List ℕ) (n : ℕ) → literal_at t w ≡ some (own n)
    → (n < size t) × (w ≡ path_in t n)
own_only t w n e = rw e at (tells t w)

pub event_only : (t : Term) (w : List ℕ) (n : ℕ) → literal_at t w ≡ some (event n)
    → PrefixAt t n × (w ≡ event_path (path_in t n))
event_only t w n e = rw e at (tells t w)

pub left_apart : (t : Term) → literal_at t left_path ≡ none
unfolding literal_at
left_apart (leaf l) = refl
left_apart (prefix e t) = refl
left_apart (binary o t u) = refl

-- literals are equal exactly where their paths are
one_path : (t : Term) (v w : List ℕ) (l : Literal) → literal_at t v ≡ some l → literal_at t w ≡ some l → v ≡ w
one_path t v w (own n) p q = (own_only t v n p).1 ∙ sym (own_only t w n q).1
one_path t v w (event n) p q = (event_only t v n p).1 ∙ sym (event_only t w n q).1

pub one_place : (t : Term) (v w : List ℕ) (l m : Literal) → literal_at t v ≡ some l → literal_at t w ≡ some m
    → (l ≡ m) ↔ (v ≡ w)
one_place t v w l m p q = (λ e. one_path t v w m (p ∙ ap some e) q, λ e. cc (ap (literal_at t) e))

-- what is left of the 64 digits at number n
shallow_at : (t : Term) (n : ℕ) → n < size t
    → (d : ℕ) → Shallow d t → Shallow (d + length (path_in t n)) (term_at t n)
shallow_at =
    by_number (λ t n. (d : ℕ) → Shallow d t → Shallow (d + length (path_in t n)) (term_at t n))
    (λ t d h. rw (path_root t, term_root t, add-zero d) h)
    λ T t x k n s h further d r.
    let m : d + suc (length (path_in t n)) ≡ d + 1 + length (path_in t n) = omega arith in
    rw ((side_at n s h).0, (side_at n s h).1, m) (further (d + 1) (side_shallow d s r))

own_room : (d : ℕ) (t : Term) → Shallow d t → d ≤ 64
own_room d (leaf l) h = h
own_room d (prefix e t) h = omega arith
own_room d (binary o t u) h = h.0

event_room : (d : ℕ) (t : Term) → IsPrefix t → Shallow d t → d + 1 ≤ 64
event_room d (leaf l) p h = absurd p
event_room d (prefix e t) p h = h.0
event_room d (binary o t u) p h = absurd p

-- paths are at most 64 digits
pub path_short : (t : Term) (d n : ℕ) → Shallow d t → n < size t → d + length (path_in t n) ≤ 64
path_short t d n s h = own_room _ (term_at t n) (shallow_at t n h d s)

pub event_short : (t : Term) (d n : ℕ) → Shallow d t → PrefixAt t n → d + length (event_path (path_in t n)) ≤ 64
event_short t d n s p =
    let r = event_room _ (term_at t n) p (shallow_at t n (prefix_inside t n p) d s) in
    omega (arith, length-append (path_in t n) (1 ∷ []))

-- columns that hold a term
module _ (ks ps xs : List ℕ) where
  -- hold its sides
  side_held : {T t : Term} {x k : ℕ} (i : ℕ) → Side T x k t → HoldsTerm ks ps xs i T → HoldsTerm ks ps xs (i + k) t
  side_held i (only e t) h = rw add-one h.3
  side_held i (first o t u) h = rw add-one h.3
  side_held i (second o t u) h =
      let m : get_or xs (suc i) 0 ≡ i + (1 + size t) = omega (arith, holds_behind ks ps xs (suc i) t h.3) in
      rw m at h.4

  -- and its number n from there on
  pub holds_at : (t : Term) (n : ℕ) → n < size t
      → (i : ℕ) → HoldsTerm ks ps xs i t → HoldsTerm ks ps xs (i + n) (term_at t n)
  holds_at =
      by_number (λ t n. (i : ℕ) → HoldsTerm ks ps xs i t → HoldsTerm ks ps xs (i + n) (term_at t n))
      (λ t i h. rw (term_root t, add-zero i) h)
      λ T t x k n s h further i r.
      rw ((side_at n s h).1, ← add_assoc i k n) (further (i + k) (side_held i s r))

  -- the kind is a prefix's exactly where the term is one
  kind_is : (t : Term) (i : ℕ) → HoldsTerm ks ps xs i t → (get_or ks i 0 ≡ Kind.prefix) ↔ IsPrefix t
  kind_is (leaf l) i h =
      (λ e. omega (arith, leaf_subterms l, prefix_subterms, ap subterms (sym h.0 ∙ e)), λ p. absurd p)
  kind_is (prefix e t) i h = (λ q. tt, λ p. h.0)
  kind_is (binary o t u) i h =
      (λ e. omega (arith, operator_subterms o, prefix_subterms, ap subterms (sym h.0 ∙ e)), λ p. absurd p)

  pub kind_at : (i : ℕ) (t : Term) (n : ℕ) → HoldsTerm ks ps xs i t → n < size t
      → (get_or ks (i + n) 0 ≡ Kind.prefix) ↔ PrefixAt t n
  kind_at i t n h b = kind_is (term_at t n) (i + n) (holds_at t n b i h)

  -- the step from a term to the side that number n stands in
  second_at : (i : ℕ) (t : Term) → HoldsTerm ks ps xs (suc i) t → i + 1 < 1024
      → i + (1 + size t) ≡ look 1024 xs (i + 1)
  second_at i t h b =
      let m : i + (1 + size t) ≡ get_or xs (suc i) 0 = omega (arith, holds_behind ks ps xs (suc i) t h) in
      m ∙ rw (← add-one i) (look_in 1024 xs (i + 1) b)

  side_step : {T t : Term} {x k : ℕ} (i j n : ℕ) → Side T x k t → HoldsTerm ks ps xs i T → i + size T ≤ 1024
      → n < size t → j ≡ i + (k + n) → (c : ℕ) → c ≡ subterms (get_or ks i 0)
      → (c ≡ 0 → ⊥) × ((i + k ≡ next c xs i j) × (x ≡ digit c xs i j))
  unfolding size
  side_step i j n (only e t) h b m q c z =
      let one : c ≡ 1 = z ∙ ap subterms h.0 ∙ prefix_subterms in
      (λ o. omega arith, step_only c xs i j (λ o. omega arith))
  side_step i j n (first o t u) h b m q c z =
      let two : c ≡ 2 = z ∙ ap subterms h.0 ∙ operator_subterms o in
      (λ o. omega arith, step_first c xs i j two _ (second_at i t h.3 (omega arith)) (omega arith))
  side_step i j n (second o t u) h b m q c z =
      let two : c ≡ 2 = z ∙ ap subterms h.0 ∙ operator_subterms o in
      (λ o. omega arith, step_second c xs i j two _ (second_at i t h.3 (omega arith)) (omega arith))

  -- following the columns gives number n's path
  abbrev Leads : Term → ℕ → Type 0
  Leads t n = (i f : ℕ) → HoldsTerm ks ps xs i t → i + size t ≤ 1024 → length (path_in t n) ≤ f
      → descended f ks xs i (i + n) ≡ some (path_in t n)

  leads_inward : (T t : Term) (x k n : ℕ) → Side T x k t → n < size t → Leads t n → Leads T (k + n)
  unfolding below
  leads_inward T t x k n s h further i zero r b l = absurd (omega (arith, ap length (side_at n s h).0))
  leads_inward T t x k n s h further i (suc f) r b l =
      let at = (side_at n s h).0 in
      let j : i + (k + n) ≡ i + k + n = omega arith in
      let m = side_inside s in
      let z = side_first s in
      let kind : get_or ks i 0 ≡ look 1024 ks i = look_in 1024 ks i (omega arith) in
      let step = side_step i (i + (k + n)) n s r b h refl _ (ap subterms (sym kind)) in
      descended_step _ ks xs i _ (λ e. omega arith) f _ x (i + k) refl refl step.0 step.1.1 step.1.0
      ∙ rw (at, j, further (i + k) f (side_held i s r) (omega arith) (omega (arith, ap length at)))

  pub descended_path : (i : ℕ) (t : Term) (n f : ℕ) → HoldsTerm ks ps xs i t → i + size t ≤ 1024 → n < size t
      → length (path_in t n) ≤ f → descended f ks xs i (i + n) ≡ some (path_in t n)
  descended_path i t n f r b h l =
      by_number Leads (λ t i f r b l. rw (path_root t) (descended_here f ks xs i (i + 0) (omega arith)))
      leads_inward t n h i f r b l

  -- and no path leads to a number behind the term
  pub descended_past : (t : Term) (i j f : ℕ) → HoldsTerm ks ps xs i t → i + size t ≤ 1024 → i + size t ≤ j
      → descended f ks xs i j ≡ none
  unfolding size below
  descended_past (leaf l) i j f h b past =
      let kind = look_in 1024 ks i (omega arith) in
      descended_leaf f ks xs i j (λ e. omega arith) (ap subterms (sym kind ∙ h.0) ∙ leaf_subterms l)
  descended_past (prefix e t) i j zero h b past = descended_short 0 ks xs i j (λ q. omega arith) refl
  descended_past (prefix e t) i j (suc f) h b past =
      let kind = look_in 1024 ks i (omega arith) in
      let one : subterms (look 1024 ks i) ≡ 1 = ap subterms (sym kind ∙ h.0) ∙ prefix_subterms in
      let step = step_only (subterms (look 1024 ks i)) xs i j (λ z. omega arith) in
      descended_step _ ks xs i j (λ q. omega arith) f _ 2 _ refl refl (λ z. omega arith) step.1 step.0
      ∙ rw (descended_past t (i + 1) j f (side_held i (only e t) h) (omega arith) (omega arith))
  descended_past (binary o t u) i j zero h b past = descended_short 0 ks xs i j (λ q. omega arith) refl
  descended_past (binary o t u) i j (suc f) h b past =
      let kind = look_in 1024 ks i (omega arith) in
      let two : subterms (look 1024 ks i) ≡ 2 = ap subterms (sym kind ∙ h.0) ∙ operator_subterms o in
      let next_is = second_at i t h.3 (omega (arith, size_some u)) in
      let step = step_second _ xs i j two _ next_is (omega arith) in
      descended_step _ ks xs i j (λ q. omega arith) f _ 2 _ refl refl (λ z. omega arith) step.1 step.0
      ∙ rw (descended_past u (i + (1 + size t)) j f (side_held i (second o t u) h) (omega arith) (omega arith))

-- the number of a definition's root
abbrev pub root : Columns → ℕ → ℕ
root c k = look 64 c.roots k

-- columns that hold definition k, a term: with some column of payloads they hold the term at its root
pub record Defined (c : Columns) (k : ℕ) (t : Term) : Type 0 where
  pub payloads : List ℕ
  pub held : HoldsTerm c.kinds payloads c.after (root c k) t
  pub fits : root c k + size t ≤ 1024
  pub owned : (j : ℕ) → root c k ≤ j → j < root c k + size t → look 1024 c.owners j ≡ k
  pub shallow : Shallow 0 t

-- columns that hold a list of definitions
abbrev pub Roots : Columns → List Term → Type 0
Roots c ts = (k : ℕ) (t : Term) → get_elem? ts k ≡ some t → Defined c k t

-- those of a checked table do
pub checked_roots : (text : List ℕ) (s : Sofar) → judged text ≡ accepted s
    → Roots (columns (kinds s) (owners s) (afters s) (roots s)) (definitions_of s)
checked_roots text s q k t e =
    let table = checked_trees text s q in
    let stands = checked_holds text s q k t e in
    let few : k < 64 = omega (arith, listed_below (definitions_of s) k t e) in
    let r : get_or (roots s) k 0 ≡ look 64 (roots s) k = look_in 64 (roots s) k few in
    let fits : look 64 (roots s) k + size t ≤ 1024 = omega arith in
    record {
      payloads = payloads s;
      held = rw r at stands.holds;
      fits = fits;
      owned = λ j from to.
          sym (look_in 1024 (owners s) j (omega arith)) ∙ stands.owned j (omega arith) (omega arith);
      shallow = (each_at s.definitions s.events (definitions_of s) table.each k t e).0;
    }

-- a literal's answer is definition k and its path w
abbrev pub Answers : Columns → Asked → ℕ → List ℕ → Type 0
Answers c l k w = (answer c l ≡ at k (length w)) × (literal_path c l ≡ some w)

answered : (c : Columns) (l : Asked) (k : ℕ) (w : List ℕ) → literal_definition c l ≡ k
    → literal_path c l ≡ some w → Answers c l k w
unfolding answer told
answered c l k w d e = (rw (d, e), e)

pub left_answered : (c : Columns) (k : ℕ) → Answers c (Left k) k left_path
unfolding literal_definition literal_path
left_answered c k = answered c (Left k) k left_path refl refl

-- what the columns of a table answer for number n of definition k
module _ (c : Columns) (ts : List Term) (all : Roots c ts) (k : ℕ) (t : Term) (is : get_elem? ts k ≡ some t)
    (n : ℕ) where
  there : Defined c k t
  there = all k t is

  owner_is : n < size t → look 1024 c.owners (root c k + n) ≡ k
  owner_is h = there.owned (root c k + n) (omega arith) (omega arith)

  path_is : (most : ℕ) → n < size t → length (path_in t n) ≤ most
      → path_of most c (root c k + n) ≡ some (path_in t n)
  unfolding path_of
  path_is most h l =
      rw (owner_is h) (descended_path _ there.payloads _ _ t n most there.held there.fits h l)

  prefix_there : n < size t → (look 1024 c.kinds (root c k + n) ≡ Kind.prefix) ↔ PrefixAt t n
  prefix_there h =
      let fits = there.fits in
      rw (← look_in 1024 c.kinds (root c k + n) (omega arith))
      (kind_at _ there.payloads _ (root c k) t n there.held h)

  pub own_answered : n < size t → Answers c (Own (root c k + n)) k (path_in t n)
  unfolding literal_definition literal_path
  own_answered h =
      let short = path_short t 0 n there.shallow h in
      answered c (Own (root c k + n)) k _ (owner_is h) (path_is 64 h (omega arith))

  pub event_answered : PrefixAt t n → Answers c (Event (root c k + n)) k (event_path (path_in t n))
  unfolding literal_definition literal_path event_of with_event
  event_answered p =
      let h = prefix_inside t n p in
      let short = event_short t 0 n there.shallow p in
      let path = path_is 63 h (omega (arith, length-append (path_in t n) (1 ∷ []))) in
      answered c (Event (root c k + n)) k _ (owner_is h)
      (simp (eq-eqb _ Kind.prefix ((prefix_there h).1 p), path))

  pub event_nowhere : n < size t → (PrefixAt t n → ⊥) → answer c (Event (root c k + n)) ≡ None
  unfolding answer told literal_path event_of
  event_nowhere h none_there = simp (ne_eqb _ Kind.prefix (λ e. none_there ((prefix_there h).0 e)))

-- a number behind definition k that the columns say is of k is found nowhere
module _ (c : Columns) (k : ℕ) (t : Term) (there : Defined c k t) (j : ℕ)
    (owner : look 1024 c.owners j ≡ k) (past : root c k + size t ≤ j) where
  path_past : (most : ℕ) → path_of most c j ≡ none
  unfolding path_of
  path_past most =
      rw owner (descended_past _ there.payloads _ t _ j most there.held there.fits past)

  pub own_past : answer c (Own j) ≡ None
  unfolding answer told literal_path
  own_past = rw (path_past 64)

  pub event_past : answer c (Event j) ≡ None
  unfolding answer told literal_path event_of with_event
  event_past = rw (path_past 63) (go (eqb (look 1024 c.kinds j) Kind.prefix))
    where
      go : (b : Bool) → told (literal_definition c (Event j)) (choose b none none) ≡ None
      go true = refl
      go false = refl
