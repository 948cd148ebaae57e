-- The plan that is laid out from a checked table's columns holds the table's definitions. The columns hold
-- them one behind the other, so the turns of all terms plan each of them, at the places that its paths tell.
-- Assumes nothing.
use Rattle.std.proofs.Common.{ℕ, zero, suc, ◌+◌, ◌<◌, ◌≡◌, refl, sym, ap, ◌∙◌, List, [], ◌∷◌, arith, length}
use Rattle.std.proofs.Common.{get_or}
use Rattle.std.proofs.lemmas.List.{get_or-replicate}
use Rattle.std.proofs.Math.Option.{some}
use Rattle.std.proofs.Math.ListN.{get_elem?, get_or-append}
use Rattle.lines.specs.Judging.{accepted}
use Rattle.frames.specs.TableFrame.{definition_room}
use Rattle.tables.specs.Table.{Sofar, judged}
use Rattle.tables.specs.words.Columns.{column, kinds, payloads, afters, roots}
use Rattle.terms.specs.Term.{Term, size, flat, starts, definitions_of}
use Rattle.terms.specs.words.Held.{HoldsTerm}
use Rattle.terms.proofs.Trees.{flat_length, each_at, checked_trees}
use Rattle.terms.proofs.Held.{Forest, checked_holds}
use Rattle.columns.specs.words.Columns.{look}
use Rattle.columns.proofs.Laws.{look_in}
use Rattle.plans.specs.words.Plan.{Planned}
use Rattle.plans.specs.words.Plan as Plan
use Rattle.plans.specs.code.Laid.{turns, laid_out}
use Rattle.plans.specs.words.Layout.{layout}
use Rattle.plans.proofs.Laid.{turns_all}
use Rattle.plans.proofs.LaidPlaces.{sited_root, definition_sited, definition_evented}
use Rattle.plans.proofs.LaidTrees.{tree_planned, forest_at}

-- a definition of the list has a root
listed : (ts : List Term) (i k : ℕ) (t : Term) → get_elem? ts k ≡ some t
    → (k < length ts) × (k < length (starts i ts))
unfolding starts
listed [] i k t e = let z : ◌≡◌ {A = ℕ} 0 1 = cc in absurd (omega arith)
listed (u ∷ ts) i zero t e = (omega arith, omega arith)
listed (u ∷ ts) i (suc k) t e = let r = listed ts (i + size u) k t e in (omega arith, omega arith)

-- definitions that are held each from its root on are held one behind the other
forest_of : (ks ps xs : List ℕ) (ts : List Term) (d i n : ℕ) → n ≡ i + length (flat d ts)
    → ((k : ℕ) (t : Term) → get_elem? ts k ≡ some t → HoldsTerm ks ps xs (get_or (starts i ts) k 0) t)
    → Forest ks ps xs i ts n
unfolding flat starts
forest_of ks ps xs [] d i n e held = omega arith
forest_of ks ps xs (t ∷ ts) d i n e held =
    let fits : n ≡ i + size t + length (flat (suc d) ts) = omega (arith, flat_length d t ts) in
    (held 0 t refl, forest_of ks ps xs ts (suc d) (i + size t) n fits (λ k u q. held (suc k) u q))

-- a checked table
module _ (text : List ℕ) (s : Sofar) (q : judged text ≡ accepted s) where
  -- the number of a definition's root, in front of the roots' column
  root_in : (k : ℕ) (t : Term) → get_elem? (definitions_of s) k ≡ some t
      → get_or (roots s) k 0 ≡ get_or (starts 0 (definitions_of s)) k 0
  unfolding roots column
  root_in k t e =
      let table = checked_trees text s q in
      rw table.roots_are (get_or-append s.roots _ 0 k
      (omega (arith, ap length table.roots_are, (listed (definitions_of s) 0 k t e).1)))

  pub root_is : (k : ℕ) (t : Term) → get_elem? (definitions_of s) k ≡ some t
      → look definition_room (roots s) k ≡ get_or (starts 0 (definitions_of s)) k 0
  root_is k t e =
      let table = checked_trees text s q in
      sym (look_in definition_room (roots s) k (omega (arith, (listed (definitions_of s) 0 k t e).0)))
      ∙ root_in k t e

  columns_forest : Forest (kinds s) (payloads s) (afters s) 0 (definitions_of s) (length s.terms)
  columns_forest =
      let many : length s.terms ≡ 0 + length (flat 0 (definitions_of s)) =
      omega (arith, ap length (checked_trees text s q).all) in
      forest_of (kinds s) (payloads s) (afters s) (definitions_of s) 0 0 _ many
      (λ k t e. rw (root_in k t e) at (checked_holds text s q k t e).holds)

  definition_planned : (k : ℕ) (t : Term) → get_elem? (definitions_of s) k ≡ some t
      → Planned (layout s) (turns (length s.terms) (kinds s) (payloads s) (afters s) (roots s))
      (payloads s) (look definition_room (roots s) k) 0 t
  unfolding layout turns
  definition_planned k t e =
      let table = checked_trees text s q in
      let stands = checked_holds text s q k t e in
      let r : ℕ = look definition_room (roots s) k in
      let same : get_or (roots s) k 0 ≡ r = root_in k t e ∙ sym (root_is k t e) in
      let turned = forest_at (kinds s) (payloads s) (afters s) (roots s) (definitions_of s) 0 _ k t e
      columns_forest table.few_terms (λ p from to. get_or-replicate {A = ℕ} 4096 p 0 0 to) in
      let begun = rw (← root_is k t e) at turned in
      let within = (each_at s.definitions s.events (definitions_of s) table.each k t e).1 in
      tree_planned (kinds s) (payloads s) (afters s) (roots s) (layout s) (λ n. refl) s.definitions
      s.events table.few_events (length s.terms) t r 0 k [] (rw same at stands.holds, omega arith)
      within (definition_sited text s q k t e) (definition_evented text s q k t e) begun.0 begun.1

-- the plan that is laid out from a checked table's columns holds its definitions, at the places that
-- `places::place` tells
pub checked_planned : (text : List ℕ) (s : Sofar) → judged text ≡ accepted s
    → Plan.HoldsTable (layout s)
    (laid_out (length s.terms) (kinds s) (payloads s) (afters s) (roots s)) (payloads s) (definitions_of s)
unfolding layout
checked_planned text s q k t e =
    let few = (checked_trees text s q).few_terms in
    let all = turns_all (kinds s) (payloads s) (afters s) (roots s) (length s.terms)
    (length s.terms) (omega arith) in (
      sited_root (layout s) _ k [] t (definition_sited text s q k t e),
      rw (← all) (definition_planned text s q k t e),
    )
