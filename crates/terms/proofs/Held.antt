-- What the columns of a checked table hold. The walk goes over a tree by its subterms, the last first, and
-- stores in front of all that it has stored, so what it has shown stays so: at each term stands the number of
-- the term behind its tree, and each definition's tree is held from its root on. Assumes nothing.
use Rattle.std.proofs.Common.{ℕ, zero, suc, ◌+◌, ◌-◌, ◌≤◌, ◌<◌, ◌≡◌, refl, sym, ap, ◌∙◌, List, [], ◌∷◌, ◌++◌}
use Rattle.std.proofs.Common.{map, arith, add-zero, zero-add, length, get_or, set, replicate, length-set}
use Rattle.std.proofs.Common.{get_or-set_same, get_or-set_other}
use Rattle.std.proofs.lemmas.List.{length-replicate}
use Rattle.std.proofs.Math.Option.{some}
use Rattle.std.proofs.Math.ListN.{get_elem?}
use Rattle.lines.specs.Judging.{accepted}
use Rattle.kinds.specs.Kind as Kind
use Rattle.kinds.specs.Kind.{subterms}
use Rattle.terms.specs.Term.{Leaf, leaf_kind, leaf_payload, Operator, operator_kind, operator_payload}
use Rattle.terms.specs.Term.{Term, leaf, prefix, binary, size, preorder, flat, starts, definitions_of}
use Rattle.terms.specs.words.Held.{HoldsTerm}
use Rattle.frames.specs.TableFrame.{term_room}
use Rattle.tables.specs.Table.{Item, Sofar, judged}
use Rattle.tables.specs.words.Columns.{column, kinds, payloads, owners, roots, afters}
use Rattle.filling.specs.words.Preorder.{past, walked}
use Rattle.filling.proofs.Walked.{past_none, past_one, past_two}
use Rattle.terms.proofs.Trees.{leaf_subterms, operator_subterms, preorder_length, flat_length, IsTable}
use Rattle.terms.proofs.Trees.{checked_trees}

pub size_some : (t : Term) → 0 < size t
unfolding size
size_some (leaf l) = omega arith
size_some (prefix e t) = omega arith
size_some (binary o t u) = omega arith

-- two columns with the same numbers from number i on
abbrev Same : ℕ → List ℕ → List ℕ → Type 0
Same i ys xs = (j : ℕ) → i ≤ j → get_or ys j 0 ≡ get_or xs j 0

module _ (ks ps : List ℕ) where
  -- what stands at a term is the number of the term behind its tree
  pub holds_behind : (xs : List ℕ) (i : ℕ) (t : Term) → HoldsTerm ks ps xs i t → get_or xs i 0 ≡ i + size t
  unfolding size
  holds_behind xs i (leaf l) h = omega (arith, h.2)
  holds_behind xs i (prefix e t) h = omega (arith, h.2, holds_behind xs (suc i) t h.3)
  holds_behind xs i (binary o t u) h =
      omega (arith, h.2, holds_behind xs (suc i) t h.3, holds_behind xs (get_or xs (suc i) 0) u h.4)

  pub holds_above : (xs : List ℕ) (i : ℕ) (t : Term) → HoldsTerm ks ps xs i t → i < get_or xs i 0
  holds_above xs i t h = omega (arith, holds_behind xs i t h, size_some t)

  -- a tree is held by what stands from its own number on
  holds_kept : (xs ys : List ℕ) (i : ℕ) (t : Term) → HoldsTerm ks ps xs i t → Same i ys xs → HoldsTerm ks ps ys i t
  holds_kept xs ys i (leaf l) h same = (h.0, h.1, same i (omega arith) ∙ h.2)
  holds_kept xs ys i (prefix e t) h same = (
    h.0,
    h.1,
    same i (omega arith) ∙ h.2 ∙ sym (same (suc i) (omega arith)),
    holds_kept xs ys (suc i) t h.3 (λ j le. same j (omega arith)),
  )
  holds_kept xs ys i (binary o t u) h same =
      let m : ℕ = get_or xs (suc i) 0 in
      let above : suc i < m = holds_above xs (suc i) t h.3 in
      let next : get_or ys (suc i) 0 ≡ m = same (suc i) (omega arith) in (
        h.0,
        h.1,
        rw next (same i (omega arith) ∙ h.2 ∙ sym (same m (omega arith))),
        holds_kept xs ys (suc i) t h.3 (λ j le. same j (omega arith)),
        rw next (holds_kept xs ys m u h.4 (λ j le. same j (omega arith))),
      )

  -- definitions held one behind the other, from number i to number n
  abbrev pub Forest : List ℕ → ℕ → List Term → ℕ → Type 0
  Forest xs i [] n = i ≡ n
  Forest xs i (t ∷ ts) n = HoldsTerm ks ps xs i t × Forest xs (i + size t) ts n

  forest_kept : (xs ys : List ℕ) (i : ℕ) (ts : List Term) (n : ℕ) → Forest xs i ts n → Same i ys xs
      → Forest ys i ts n
  forest_kept xs ys i [] n h same = h
  forest_kept xs ys i (t ∷ ts) n h same = (
    holds_kept xs ys i t h.0 same,
    forest_kept xs ys (i + size t) ts n h.1 (λ j le. same j (omega arith)),
  )

-- terms in three columns, from number i on
abbrev Laid : List ℕ → List ℕ → List ℕ → ℕ → List Item → Type 0
Laid ks ps os i [] = Unit {0}
Laid ks ps os i (x ∷ xs) =
    ((get_or ks i 0 ≡ x.kind) × (get_or ps i 0 ≡ x.payload) × (get_or os i 0 ≡ x.definition))
    × Laid ks ps os (suc i) xs

laid_shift : (k p o : ℕ) (ks ps os : List ℕ) (i : ℕ) (xs : List Item) → Laid ks ps os i xs
    → Laid (k ∷ ks) (p ∷ ps) (o ∷ os) (suc i) xs
laid_shift k p o ks ps os i [] h = tt
laid_shift k p o ks ps os i (x ∷ xs) h = (h.0, laid_shift k p o ks ps os (suc i) xs h.1)

laid_front : (ks ps os : List ℕ) (xs : List Item)
    → Laid (map (λ (x : Item). x.kind) xs ++ ks) (map (λ (x : Item). x.payload) xs ++ ps)
    (map (λ (x : Item). x.definition) xs ++ os) 0 xs
laid_front ks ps os [] = tt
laid_front ks ps os (x ∷ xs) = ((refl, refl, refl), laid_shift _ _ _ _ _ _ 0 xs (laid_front ks ps os xs))

-- the walk from number n down to number i, and what holds of what it has stored
record Walks (ks xs : List ℕ) (n i : ℕ) (P : List ℕ → Type 0) : Type 0 where
  after : List ℕ
  on : walked n ks xs ≡ walked i ks after
  long : length after ≡ length xs
  same : Same n after xs
  holds : P after

module _ (ks xs : List ℕ) (n i : ℕ) where
  stays : (P : List ℕ → Type 0) → n ≡ i → P xs → Walks ks xs n i P
  stays P e h =
      record { after = xs; on = ap (λ (j : ℕ). walked j ks xs) e; long = refl; same = λ j le. refl; holds = h }

  -- one walk, then another
  goes_on : (m : ℕ) (P Q : List ℕ → Type 0) → m ≤ n → (b : Walks ks xs n m P) (a : Walks ks b.after m i Q)
      → P a.after → Walks ks xs n i (λ ys. Q ys × P ys)
  goes_on m P Q le b a kept = record {
    after = a.after;
    on = b.on ∙ a.on;
    long = a.long ∙ b.long;
    same = λ j n≤j. a.same j (omega arith) ∙ b.same j n≤j;
    holds = (a.holds, kept);
  }

-- one step more: a term behind whose number its subterms are held
module _ (ks xs : List ℕ) (n i : ℕ) (lt : i < n) (fits : n ≤ length xs) where
  stores : (v : ℕ) (P Q : List ℕ → Type 0) → (w : Walks ks xs n (suc i) P)
      → v ≡ past (subterms (get_or ks i 0)) (suc i) w.after
      → ((ys : List ℕ) → get_or ys i 0 ≡ v → Same (suc i) ys w.after → Q ys) → Walks ks xs n i Q
  unfolding walked
  stores v P Q w e shows =
      let ys : List ℕ = set w.after i v in
      let other : Same (suc i) ys w.after = λ j le. get_or-set_other w.after i j v 0 (λ q. omega arith) in
      record {
        after = ys;
        on = w.on ∙ ap (λ (u : ℕ). walked i ks (set w.after i u)) (sym e);
        long = length-set w.after i v ∙ w.long;
        same = λ j le. other j (omega arith) ∙ w.same j le;
        holds = shows ys (get_or-set_same w.after i v 0 (omega (arith, w.long))) other;
      }

  module _ (ps : List ℕ) where
    walk_leaf : (l : Leaf) → get_or ks i 0 ≡ leaf_kind l → get_or ps i 0 ≡ leaf_payload l
        → Walks ks xs n (suc i) (λ ys. Unit {0}) → Walks ks xs n i (λ ys. HoldsTerm ks ps ys i (leaf l))
    walk_leaf l k p w =
        let none : subterms (get_or ks i 0) ≡ 0 = rw k (leaf_subterms l) in
        stores (suc i) _ _ w (past_none (suc i) w.after _ none) (λ ys stands same. (k, p, stands))

    walk_prefix : (e : ℕ) (t : Term) → get_or ks i 0 ≡ Kind.prefix → get_or ps i 0 ≡ e
        → Walks ks xs n (suc i) (λ ys. HoldsTerm ks ps ys (suc i) t)
        → Walks ks xs n i (λ ys. HoldsTerm ks ps ys i (prefix e t))
    unfolding subterms
    walk_prefix e t k p w =
        let one : subterms (get_or ks i 0) ≡ 1 = rw k in
        stores _ _ _ w (past_one (suc i) w.after _ one)
        (λ ys stands same. (
          k,
          p,
          stands ∙ sym (same (suc i) (omega arith)),
          holds_kept ks ps w.after ys (suc i) t w.holds same,
        ))

    walk_binary : (o : Operator) (t u : Term) → get_or ks i 0 ≡ operator_kind o → get_or ps i 0 ≡ operator_payload o
        → Walks ks xs n (suc i) (λ ys. HoldsTerm ks ps ys (suc i) t × HoldsTerm ks ps ys (suc i + size t) u)
        → Walks ks xs n i (λ ys. HoldsTerm ks ps ys i (binary o t u))
    walk_binary o t u k p w =
        let two : subterms (get_or ks i 0) ≡ 2 = rw k (operator_subterms o) in
        let m : ℕ = suc i + size t in
        let behind : get_or w.after (suc i) 0 ≡ m = holds_behind ks ps w.after (suc i) t w.holds.0 in
        stores _ _ _ w (past_two (suc i) w.after _ two)
        (λ ys stands same.
        let next : get_or ys (suc i) 0 ≡ m = same (suc i) (omega arith) ∙ behind in (
          k,
          p,
          rw next ((rw behind at stands) ∙ sym (same m (omega arith))),
          holds_kept ks ps w.after ys (suc i) t w.holds.0 same,
          rw next (holds_kept ks ps w.after ys m u w.holds.1 (λ j le. same j (omega arith))),
        ))

module _ (ks ps os : List ℕ) where
  laid_split : (i d : ℕ) (t : Term) (xs : List Item) → Laid ks ps os i (preorder d t ++ xs)
      → Laid ks ps os i (preorder d t) × Laid ks ps os (i + size t) xs
  laid_split i d t xs h = rw (preorder_length d t) at (go i (preorder d t) h)
    where
      go : (i : ℕ) (ys : List Item) → Laid ks ps os i (ys ++ xs)
          → Laid ks ps os i ys × Laid ks ps os (i + length ys) xs
      go i [] h = (tt, rw (add-zero i) h)
      go i (y ∷ ys) h =
          let r = go (suc i) ys h.1 in
          let n : i + suc (length ys) ≡ suc i + length ys = omega arith in
          ((h.0, r.0), rw n r.1)

  -- the walk over a tree holds it
  walk_tree : (d : ℕ) (t : Term) (xs : List ℕ) (i n : ℕ) → n ≡ i + size t → n ≤ length xs
      → Laid ks ps os i (preorder d t) → Walks ks xs n i (λ ys. HoldsTerm ks ps ys i t)
  unfolding preorder size
  walk_tree d (leaf l) xs i n e fits h =
      walk_leaf ks xs n i (omega arith) fits ps l h.0.0 h.0.1
      (stays ks xs n (suc i) _ (omega arith) tt)
  walk_tree d (prefix x t) xs i n e fits h =
      let w = walk_tree d t xs (suc i) n (omega arith) fits h.1 in
      walk_prefix ks xs n i (omega arith) fits ps x t h.0.0 h.0.1 w
  walk_tree d (binary o t u) xs i n e fits h =
      let m : ℕ = suc i + size t in
      let r = laid_split (suc i) d t (preorder d u) h.1 in
      let b = walk_tree d u xs m n (omega arith) fits r.1 in
      let a = walk_tree d t b.after (suc i) m refl (omega (arith, b.long)) r.0 in
      let kept : HoldsTerm ks ps a.after m u = holds_kept ks ps b.after a.after m u b.holds a.same in
      let w = goes_on ks xs n (suc i) m _ _ (omega arith) b a kept in
      walk_binary ks xs n i (omega arith) fits ps o t u h.0.0 h.0.1 w

  walk_forest : (d : ℕ) (ts : List Term) (xs : List ℕ) (i n : ℕ) → n ≡ i + length (flat d ts) → n ≤ length xs
      → Laid ks ps os i (flat d ts) → Walks ks xs n i (λ ys. Forest ks ps ys i ts n)
  unfolding flat
  walk_forest d [] xs i n e fits h = stays ks xs n i _ (omega arith) (omega arith)
  walk_forest d (t ∷ ts) xs i n e fits h =
      let m : ℕ = i + size t in
      let r = laid_split i d t (flat (suc d) ts) h in
      let b = walk_forest (suc d) ts xs m n (omega (arith, flat_length d t ts)) fits r.1 in
      let below : m ≤ n = omega (arith, flat_length d t ts) in
      let a = walk_tree d t b.after i m refl (omega (arith, b.long)) r.0 in
      goes_on ks xs n i m _ _ below b a (forest_kept ks ps b.after a.after m ts n b.holds a.same)

  -- the walk over all terms holds every definition
  pub walked_holds : (ts : List Term) (xs : List ℕ) (n : ℕ) → n ≡ length (flat 0 ts) → n ≤ length xs
      → Laid ks ps os 0 (flat 0 ts) → Forest ks ps (walked n ks xs) 0 ts n
  unfolding walked
  walked_holds ts xs n e fits h =
      let w = walk_forest 0 ts xs 0 n (omega arith) fits h in
      rw w.on w.holds

-- terms of definition d
abbrev AllOf : ℕ → List Item → Type 0
AllOf d [] = Unit {0}
AllOf d (x ∷ xs) = (x.definition ≡ d) × AllOf d xs

all_both : (d : ℕ) (xs ys : List Item) → AllOf d xs → AllOf d ys → AllOf d (xs ++ ys)
all_both d [] ys h k = k
all_both d (x ∷ xs) ys h k = (h.0, all_both d xs ys h.1 k)

all_preorder : (d : ℕ) (t : Term) → AllOf d (preorder d t)
unfolding preorder
all_preorder d (leaf l) = (refl, tt)
all_preorder d (prefix e t) = (refl, all_preorder d t)
all_preorder d (binary o t u) =
    (refl, all_both d (preorder d t) (preorder d u) (all_preorder d t) (all_preorder d u))

-- a tree in the columns: held from number i on, its terms in definition k, all in front of number n
pub record Stands (ks ps os xs : List ℕ) (i k n : ℕ) (t : Term) : Type 0 where
  pub holds : HoldsTerm ks ps xs i t
  pub owned : (j : ℕ) → i ≤ j → j < i + size t → get_or os j 0 ≡ k
  pub inside : i + size t ≤ n

module _ (ks ps os xs : List ℕ) (n : ℕ) where
  owned_from : (d i : ℕ) (ys : List Item) → AllOf d ys → Laid ks ps os i ys
      → (m : ℕ) → m < length ys → get_or os (i + m) 0 ≡ d
  owned_from d i [] a h m lt = absurd (omega arith)
  owned_from d i (y ∷ ys) a h zero lt = rw (add-zero i) (h.0.2 ∙ a.0)
  owned_from d i (y ∷ ys) a h (suc m) lt =
      let next : i + suc m ≡ suc i + m = omega arith in
      rw next (owned_from d (suc i) ys a.1 h.1 m (omega arith))

  forest_below : (i : ℕ) (ts : List Term) → Forest ks ps xs i ts n → i ≤ n
  forest_below i [] h = omega arith
  forest_below i (t ∷ ts) h = omega (arith, forest_below (i + size t) ts h.1)

  stands_at : (ts : List Term) (d i k : ℕ) (t : Term) → get_elem? ts k ≡ some t → Forest ks ps xs i ts n
      → Laid ks ps os i (flat d ts) → Stands ks ps os xs (get_or (starts i ts) k 0) (d + k) n t
  unfolding flat starts
  stands_at [] d i k t e f h = let z : ◌≡◌ {A = ℕ} 0 1 = cc in absurd (omega arith)
  stands_at (u ∷ ts) d i zero t e f h =
      let same : u ≡ t = cc in
      let own = (laid_split ks ps os i d u (flat (suc d) ts) h).0 in
      rw (add-zero d, ← same) (record {
        holds = f.0;
        owned = λ j le lt.
            let at_j : i + (j - i) ≡ j = omega arith in
            let short : j - i < length (preorder d u) = omega (arith, preorder_length d u) in
            rw at_j at (owned_from d i (preorder d u) (all_preorder d u) own (j - i) short);
        inside = forest_below (i + size u) ts f.1;
      })
  stands_at (u ∷ ts) d i (suc k) t e f h =
      let next : d + suc k ≡ suc d + k = omega arith in
      let others = (laid_split ks ps os i d u (flat (suc d) ts) h).1 in
      rw next (stands_at ts (suc d) (i + size u) k t e f.1 others)

-- a column has zeros where it has no number
zeros_at : (n k : ℕ) → get_or {A = ℕ} (replicate n 0) k 0 ≡ 0
zeros_at zero k = refl
zeros_at (suc n) zero = refl
zeros_at (suc n) (suc k) = zeros_at n k

pub column_at : (n : ℕ) (xs : List ℕ) (k : ℕ) → get_or (column n xs) k 0 ≡ get_or xs k 0
unfolding column
column_at n xs k = go xs k
  where
    go : (ys : List ℕ) (k : ℕ) → get_or (ys ++ replicate (n - length xs) 0) k 0 ≡ get_or ys k 0
    go [] k = zeros_at (n - length xs) k
    go (y ∷ ys) zero = refl
    go (y ∷ ys) (suc k) = go ys k

-- the columns of a checked table hold its definitions
pub checked_holds : (text : List ℕ) (s : Sofar) → judged text ≡ accepted s
    → (k : ℕ) (t : Term) → get_elem? (definitions_of s) k ≡ some t
    → Stands (kinds s) (payloads s) (owners s) (afters s) (get_or (roots s) k 0) k (length s.terms) t
unfolding kinds payloads owners roots afters column
checked_holds text s q k t e =
    let c : IsTable s = checked_trees text s q in
    let ts : List Term = definitions_of s in
    let front = laid_front _ _ _ s.terms in
    let laid : Laid (kinds s) (payloads s) (owners s) 0 (flat 0 ts) = rw c.all front in
    let many : length s.terms ≡ length (flat 0 ts) = ap length (sym c.all) in
    let room : length s.terms ≤ length {A = ℕ} (replicate term_room 0) =
    rw (length-replicate {A = ℕ} term_room 0) c.few_terms in
    let forest = walked_holds (kinds s) (payloads s) (owners s) ts (replicate term_room 0) _ many room laid in
    let root : get_or (starts 0 ts) k 0 ≡ get_or (roots s) k 0 =
    rw c.roots_are (sym (column_at 64 s.roots k)) in
    rw (zero-add, root) at (stands_at _ _ _ _ _ ts 0 0 k t e forest laid)
