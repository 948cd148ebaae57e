-- What a place of a layout tells. Each of a checked table's numbers belongs to one definition's tree and stands
-- at its own path there. A number behind the last has owner 0, and no path leads out of definition 00: it stands
-- nowhere, as does the event of what is no prefix. Assumes nothing.
use Rattle.std.proofs.Common.{ℕ, suc, ◌+◌, ◌-◌, ◌≤◌, ◌<◌, ◌≡◌, refl, sym, ap, ◌∙◌, Bool, true, false, List}
use Rattle.std.proofs.Common.{[], ◌∷◌, map, arith, length, get_or, ltb, ltb-true, ltb-false}
use Rattle.std.proofs.lemmas.List.{length-map}
use Rattle.std.proofs.Math.Option.{Option, none, some}
use Rattle.std.proofs.Math.ListN.{get_elem?, get_or-eq_default}
use Rattle.lines.specs.Judging.{accepted}
use Rattle.frames.specs.TableFrame.{term_room, definition_room}
use Rattle.tables.specs.Table.{Item, Sofar, judged}
use Rattle.tables.specs.words.Columns.{column, kinds, owners, afters, roots}
use Rattle.terms.specs.Term.{Term, leaf, prefix, binary, size, flat, starts, definitions_of}
use Rattle.terms.proofs.Trees.{flat_length, checked_trees}
use Rattle.terms.proofs.Held.{column_at, checked_holds}
use Rattle.places.specs.Place.{path_in, term_at, IsPrefix, PrefixAt, event_path}
use Rattle.columns.specs.words.Columns.{Columns, look, columns}
use Rattle.places.specs.code.Descent.{literal_definition, literal_path, told, answer}
use Rattle.places.specs.declared.Literal.{Literal}
use Rattle.places.specs.declared.Literal.TheVariants.{Own, Event}
use Rattle.std.specs.Prelude.{None}
use Rattle.columns.proofs.Laws.{look_in, look_out}
use Rattle.places.proofs.Laws.{checked_roots, event_nowhere, own_past, event_past}
use Rattle.plans.specs.words.Layout.{found, place_of, layout}
use Rattle.plans.proofs.LaidPlaces.{definition_sited, event_of_definition}
use Rattle.plans.proofs.LaidTable.{root_is}

-- number t of definitions with these roots: which of them it belongs to, and which of its tree's numbers it is
pub record Belongs (ts : List Term) (root : ℕ → ℕ) (t : ℕ) : Type 0 where
  pub definition : ℕ
  pub tree : Term
  pub number : ℕ
  pub is : get_elem? ts definition ≡ some tree
  pub inside : number < size tree
  pub sum : t ≡ root definition + number

-- a number of a table's definitions
abbrev pub InTable : Sofar → ℕ → Type 0
InTable s t = Belongs (definitions_of s) (look definition_room (roots s)) t

-- definitions one behind the other, from number i on
listed : (ts : List Term) (root : ℕ → ℕ) (d i t : ℕ)
    → ((k : ℕ) (u : Term) → get_elem? ts k ≡ some u → root k ≡ get_or (starts i ts) k 0)
    → i ≤ t → t < i + length (flat d ts) → Belongs ts root t
unfolding flat starts
listed [] root d i t begins from to = absurd (omega arith)
listed (u ∷ ts) root d i t begins from to =
    go (ltb t (i + size u)) refl
    (λ past. listed ts (λ k. root (suc k)) (suc d) (i + size u) t (λ k v e. begins (suc k) v e) past
    (omega (arith, flat_length d u ts)))
  where
    go : (b : Bool) → ltb t (i + size u) ≡ b → (i + size u ≤ t → Belongs ts (λ k. root (suc k)) t)
        → Belongs (u ∷ ts) root t
    go true e later = record {
      definition = 0;
      tree = u;
      number = t - i;
      is = refl;
      inside = omega (arith, ltb-true t (i + size u) e);
      sum = omega (arith, begins 0 u refl);
    }
    go false e later =
        let r = later (ltb-false t (i + size u) e) in
        record {
          definition = suc r.definition;
          tree = r.tree;
          number = r.number;
          is = r.is;
          inside = r.inside;
          sum = r.sum;
        }

-- what is answered nowhere stands in no definition
nowhere_found : (c : Columns) (a : Literal) → answer c a ≡ None → (place_of c a).definition ≡ definition_room
unfolding answer told place_of found
nowhere_found c a e = go (literal_path c a) e
  where
    go : (o : Option (List ℕ)) → told (literal_definition c a) o ≡ None
        → (found (literal_definition c a) o).definition ≡ definition_room
    go none e = refl
    go (some w) e = let z : ◌≡◌ {A = ℕ} 0 1 = cc in absurd (omega arith)

-- what is not no prefix is one
prefix_is : (t : Term) → ((IsPrefix t → ⊥) → ⊥) → IsPrefix t
prefix_is (leaf l) h = h (λ p. p)
prefix_is (prefix e t) h = tt
prefix_is (binary o t u) h = h (λ p. p)

-- behind the terms of a table stands owner 0
owner_past : (s : Sofar) (t : ℕ) → length s.terms ≤ t → look term_room (owners s) t ≡ 0
unfolding owners
owner_past s t past = go (ltb t term_room) refl
  where
    ds : List ℕ
    ds = map (λ (i : Item). i.definition) s.terms

    go : (b : Bool) → ltb t term_room ≡ b → look term_room (column term_room ds) t ≡ 0
    go true e =
        sym (look_in term_room _ t (ltb-true t term_room e)) ∙ column_at term_room ds t
        ∙ get_or-eq_default ds 0 (omega (arith, length-map s.terms (λ (i : Item). i.definition)))
    go false e = sym (look_out term_room _ t (ltb-false t term_room e))

-- a checked table
module _ (text : List ℕ) (s : Sofar) (q : judged text ≡ accepted s) (t : ℕ) where
  abbrev c : Columns
  c = columns (kinds s) (owners s) (afters s) (roots s)

  belongs : t < length s.terms → InTable s t
  belongs inside =
      listed (definitions_of s) _ 0 0 t (root_is text s q) (omega arith)
      (omega (arith, ap length (checked_trees text s q).all))

  -- a literal of a number behind the terms is answered nowhere
  past_nowhere : length s.terms ≤ t → (answer c (Own t) ≡ None) × (answer c (Event t) ≡ None)
  past_nowhere past = go (definitions_of s) refl
    where
      go : (ts : List Term) → definitions_of s ≡ ts
          → (answer c (Own t) ≡ None) × (answer c (Event t) ≡ None)
      go [] e =
          let table = checked_trees text s q in
          absurd (omega (arith, ap length e, table.many, table.some_definitions))
      go (u ∷ ts) e =
          let first : get_elem? (definitions_of s) 0 ≡ some u = rw e in
          let there = checked_roots text s q 0 u first in
          let owner = owner_past s t past in
          let behind = (checked_holds text s q 0 u first).inside in
          let root = look_in definition_room (roots s) 0 (omega arith) in
          (own_past c 0 u there t owner (omega arith), event_past c 0 u there t owner (omega arith))

  -- a number one of whose literals is answered is one of the table's
  belongs_by : (a : Literal) → (length s.terms ≤ t → answer c a ≡ None)
      → ((place_of c a).definition ≡ definition_room → ⊥) → InTable s t
  belongs_by a past away = go (ltb t (length s.terms)) refl
    where
      go : (b : Bool) → ltb t (length s.terms) ≡ b → InTable s t
      go true e = belongs (ltb-true t (length s.terms) e)
      go false e = absurd (away (nowhere_found c a (past (ltb-false t (length s.terms) e))))

  -- what stands in a definition is a term of its tree
  pub own_sited : (((layout s).place t).definition ≡ definition_room → ⊥)
      → (b : InTable s t)
      × ((layout s).place t ≡ record { definition = b.definition; path = path_in b.tree b.number })
  unfolding layout
  own_sited away =
      let b = belongs_by (Own t) (λ past. (past_nowhere past).0) away in
      (b, ap (layout s).place b.sum ∙ definition_sited text s q _ b.tree b.is b.number b.inside)

  -- or the event of a prefix of its tree
  pub event_sited : (((layout s).event t).definition ≡ definition_room → ⊥)
      → (b : InTable s t) × PrefixAt b.tree b.number
      × ((layout s).event t
      ≡ record { definition = b.definition; path = event_path (path_in b.tree b.number) })
  unfolding layout
  event_sited away =
      let b = belongs_by (Event t) (λ past. (past_nowhere past).1) away in
      let p : PrefixAt b.tree b.number = prefix_is (term_at b.tree b.number)
      (λ none_there. away (nowhere_found c (Event t)
      (rw b.sum (event_nowhere c (definitions_of s) (checked_roots text s q) b.definition b.tree b.is
      b.number b.inside none_there)))) in
      (b, p, ap (layout s).event b.sum ∙ event_of_definition text s q _ b.tree b.is b.number p)
