-- What the loop keeps is what the lines so far have said, and taking a frame in keeps that so: the path
-- lengths due stand in `depth` and `waiting`, each below as many as its own length, and each column has the
-- terms' numbers in front. Assumes nothing.
use Rattle.std.proofs.Common.{ℕ, zero, suc, ◌+◌, ◌-◌, ◌≤◌, ◌<◌, ◌≡◌, refl, sym, ap, ap₂, ◌∙◌, Bool, true}
use Rattle.std.proofs.Common.{false, List, [], ◌∷◌, ◌++◌, map, arith, add-zero, zero-add, length, get_or, set}
use Rattle.std.proofs.Common.{drop, replicate, length-append, length-set, length-drop, get_or-set_same}
use Rattle.std.proofs.Common.{get_or-set_other, eqb, ne_eqb}
use Rattle.std.proofs.lemmas.List.{length-replicate, length-map}
use Rattle.std.proofs.lemmas.List.Edits.{sets}
use Rattle.lines.specs.Line.{choose}
use Rattle.kinds.specs.Kind.{subterms}
use Rattle.frames.specs.TableFrame.{refusal, closes}
use Rattle.tables.specs.Table.{Item, Sofar, next_due, seen, taken}
use Rattle.filling.specs.code.Taking.{Ready, topmost, moved, owed, pushed, started, seen_then, waiting_then}
use Rattle.filling.specs.code.Taking.{roots_then, column_then}
use Rattle.frames.specs.declared.Frame.{Frame}
use Rattle.frames.specs.declared.Frame.TheVariants.{Opening, Definition, Term, Closing, Wrong}
use Rattle.frames.specs.declared.Seen.{Seen}
use Rattle.kinds.proofs.KindLaws.{subterms_most}
use Rattle.refusals.proofs.Fine.{FineTerm, fine_term, depth_fits, fine_definition}

-- one number more at the end of a run of stores
pub sets_snoc : (l : List ℕ) (i : ℕ) (vs : List ℕ) (v n : ℕ) → n ≡ i + length vs
    → set (sets l i vs) n v ≡ sets l i (vs ++ (v ∷ []))
sets_snoc l i [] v n e = ap (λ (m : ℕ). set l m v) (e ∙ add-zero i)
sets_snoc l i (x ∷ vs) v n e = sets_snoc (set l i x) (suc i) vs v n (omega arith)

pub map_snoc : (f : Item → ℕ) (xs : List Item) (x : Item) → map f (xs ++ (x ∷ [])) ≡ map f xs ++ (f x ∷ [])
map_snoc f [] x = refl
map_snoc f (y ∷ xs) x = ap (λ (l : List ℕ). f y ∷ l) (map_snoc f xs x)

-- the others that are due stand in `waiting`, each at the number of those behind it
abbrev pub Stacked : List ℕ → List ℕ → Type 0
Stacked w [] = Unit {0}
Stacked w (d ∷ ds) = (get_or w (length ds) 0 ≡ d) × Stacked w ds

stacked_set : (w ds : List ℕ) (m v : ℕ) → length ds ≤ m → Stacked w ds → Stacked (set w m v) ds
stacked_set w [] m v h t = tt
stacked_set w (d ∷ ds) m v h t =
    (get_or-set_other w m (length ds) v 0 (λ e. omega arith) ∙ t.0, stacked_set w ds m v (omega arith) t.1)

topmost_stacked : (w ds : List ℕ) → Stacked w ds → topmost (length ds) w ≡ next_due ds
unfolding topmost next_due
topmost_stacked w [] t = refl
topmost_stacked w (d ∷ ds) t =
    let n : suc (length ds) - 1 ≡ length ds = omega arith in
    simp (ne_eqb (suc (length ds)) 0 (λ z. omega arith), n) t.0

-- each path length due is at least the number of those behind it
abbrev pub Steep : List ℕ → Type 0
Steep [] = Unit {0}
Steep (d ∷ ds) = (length ds ≤ d) × Steep ds

steep_owed : (n d : ℕ) (ds : List ℕ) → n ≤ 2 → length ds ≤ d → Steep ds → Steep (replicate n (d + 1) ++ ds)
steep_owed zero d ds h k t = t
steep_owed (suc zero) d ds h k t = (omega arith, t)
steep_owed (suc (suc zero)) d ds h k t = (omega arith, (omega arith, t))
steep_owed (suc (suc (suc n))) d ds h k t = absurd (omega arith)

stacked_owed : (n d : ℕ) (w ds : List ℕ) → n ≤ 2 → length ds < length w → Stacked w ds
    → Stacked (choose (eqb n 2) (set w (length ds) (d + 1)) w) (drop 1 (replicate n (d + 1) ++ ds))
stacked_owed zero d w [] h k t = tt
stacked_owed zero d w (x ∷ ds) h k t = t.1
stacked_owed (suc zero) d w ds h k t = t
stacked_owed (suc (suc zero)) d w ds h k t =
    (get_or-set_same w (length ds) (d + 1) 0 k, stacked_set w ds (length ds) (d + 1) (omega arith) t)
stacked_owed (suc (suc (suc n))) d w ds h k t = absurd (omega arith)

next_owed : (n d : ℕ) (ds : List ℕ)
    → choose (eqb n 0) (next_due ds) (d + 1) ≡ next_due (replicate n (d + 1) ++ ds)
unfolding next_due
next_owed zero d ds = refl
next_owed (suc n) d ds = simp (ne_eqb (suc n) 0 (λ z. omega arith))

-- what the loop keeps, beside the columns as they were where it began
pub record Keeps (S : Sofar) (s : Seen) (w k p o r k₀ p₀ o₀ r₀ : List ℕ) : Type 0 where
  pub sees : s ≡ seen S
  pub stacked : Stacked w (drop 1 S.due)
  pub long : length w ≡ 65
  pub steep : Steep S.due
  pub kinds_are : k ≡ sets k₀ 0 (map (λ (i : Item). i.kind) S.terms)
  pub payloads_are : p ≡ sets p₀ 0 (map (λ (i : Item). i.payload) S.terms)
  pub owners_are : o ≡ sets o₀ 0 (map (λ (i : Item). i.definition) S.terms)
  pub roots_are : r ≡ sets r₀ 0 S.roots
  pub definitions_fit : S.definitions ≤ 64
  pub begun_fit : length S.roots ≤ S.definitions
  pub terms_fit : length S.terms ≤ 1024

module _ (S : Sofar) (s : Seen) (w k p o r k₀ p₀ o₀ r₀ : List ℕ) (keeps : Keeps S s w k p o r k₀ p₀ o₀ r₀) where
  steep_first : (ds : List ℕ) → Steep ds → length ds ≤ next_due ds + 1
  unfolding next_due
  steep_first [] t = omega arith
  steep_first (d ∷ ds) t = omega (arith, t.0)

  -- what a frame that meets no refusal finds
  pub ready : (f : Frame) → refusal f s ≡ 0 → Ready f s
  unfolding seen
  ready f e = record {
    fine = e;
    definitions_fit = rw keeps.sees keeps.definitions_fit;
    begun_fit = rw keeps.sees keeps.begun_fit;
    terms_fit = rw keeps.sees keeps.terms_fit;
    due_fit = rw keeps.sees (steep_first S.due keeps.steep);
  }

  -- the numbers of the terms, with one more
  column_more : (of : Item → ℕ) (xs xs₀ : List ℕ) (x : Item) (v : ℕ) → v ≡ of x
      → xs ≡ sets xs₀ 0 (map of S.terms)
      → set xs s.terms v ≡ sets xs₀ 0 (map of (S.terms ++ (x ∷ [])))
  unfolding seen
  column_more of xs xs₀ x v e q =
      let vs = map of S.terms in
      let count = ap (λ (t : Seen). t.terms) keeps.sees in
      let n : s.terms ≡ 0 + length vs = count ∙ sym (zero-add (length vs) ∙ length-map S.terms of) in
      ap₂ (λ (l : List ℕ) (u : ℕ). set l s.terms u) q e ∙ sets_snoc xs₀ 0 vs (of x) s.terms n
      ∙ ap (sets xs₀ 0) (sym (map_snoc of S.terms x))

  length_snoc : {A : Type 0} (xs : List A) (x : A) → length xs + 1 ≡ length (xs ++ (x ∷ []))
  length_snoc xs x = sym (length-append xs (x ∷ []))

  due_after : (n d : ℕ) (ds : List ℕ) → length ds - 1 + n ≡ length (replicate n d ++ drop 1 ds)
  due_after n d ds =
      omega (arith, length-append (replicate n d) (drop 1 ds), length-replicate n d, length-drop 1 ds)

  tail_short : (ds : List ℕ) → Steep ds → 0 < length ds → length (drop 1 ds) ≤ next_due ds
  unfolding next_due
  tail_short [] t h = absurd (omega arith)
  tail_short (d ∷ ds) t h = t.0

  steep_tail : (ds : List ℕ) → Steep ds → Steep (drop 1 ds)
  steep_tail [] t = tt
  steep_tail (d ∷ ds) t = t.1

  -- the others due
  abbrev others : List ℕ
  others = drop 1 S.due

  -- the state and the others due, once a term is taken in
  sees_term : (kk pp : ℕ) → owed kk s w ≡ seen (taken S (Term kk pp))
  unfolding taken seen owed
  sees_term kk pp =
      let n : ℕ = subterms kk in
      let d : ℕ = next_due S.due in
      let T = taken S (Term kk pp) in
      let more : length S.terms + 1 ≡ length T.terms = length_snoc S.terms _ in
      let due : length S.due - 1 + n ≡ length T.due = due_after n (d + 1) S.due in
      let stack = topmost_stacked w others keeps.stacked in
      let top : topmost (length S.due - 1) w ≡ next_due others = rw (← length-drop 1 S.due) stack in
      let next : choose (eqb n 0) (topmost (length S.due - 1) w) (d + 1) ≡ next_due T.due =
      rw top (next_owed n d others) in
      ap (λ (t : Seen). owed kk t w) keeps.sees ∙ (λ i. moved (seen S) (more i) (due i) (next i))

  pushed_is : (kk : ℕ)
      → pushed kk s w ≡ choose (eqb (subterms kk) 2) (set w (length others) (next_due S.due + 1)) w
  unfolding seen pushed
  pushed_is kk =
      ap (λ (t : Seen). pushed kk t w) keeps.sees
      ∙ ap (λ (m : ℕ). choose (eqb (subterms kk) 2) (set w m (next_due S.due + 1)) w)
      (sym (length-drop 1 S.due))

  long_choose : (b : Bool) (m v : ℕ) → length (choose b (set w m v) w) ≡ 65
  long_choose true m v = length-set w m v ∙ keeps.long
  long_choose false m v = keeps.long

  pub keeps_term : (kk pp : ℕ) → refusal (Term kk pp) s ≡ 0
      → Keeps (taken S (Term kk pp)) (owed kk s w) (pushed kk s w) (set k s.terms kk) (set p s.terms pp)
      (set o s.terms (s.begun - 1)) r k₀ p₀ o₀ r₀
  unfolding taken seen
  keeps_term kk pp e =
      let f : FineTerm kk pp s = fine_term s kk pp e in
      let n : ℕ = subterms kk in
      let d : ℕ = next_due S.due in
      let wanted : 0 < length S.due = rw keeps.sees at f.wanted in
      let deep : d ≤ 64 = rw keeps.sees at (depth_fits s kk pp f) in
      let room : length S.terms < 1024 = rw keeps.sees at f.room in
      let few : length others ≤ d = tail_short S.due keeps.steep wanted in
      let fit : length others < length w = omega (arith, keeps.long) in
      let owner : s.begun - 1 ≡ length S.roots - 1 = ap (λ (t : Seen). t.begun - 1) keeps.sees in
      let item : Item = record { definition = length S.roots - 1; kind = kk; payload = pp } in
      record {
        sees = sees_term kk pp;
        stacked = rw (pushed_is kk) (stacked_owed n d w others (subterms_most kk) fit keeps.stacked);
        long = rw (pushed_is kk) (long_choose (eqb n 2) (length others) (d + 1));
        steep = steep_owed n d others (subterms_most kk) few (steep_tail S.due keeps.steep);
        kinds_are = column_more (λ (i : Item). i.kind) k k₀ _ kk refl keeps.kinds_are;
        payloads_are = column_more (λ (i : Item). i.payload) p p₀ _ pp refl keeps.payloads_are;
        owners_are = column_more (λ (i : Item). i.definition) o o₀ _ (s.begun - 1) owner keeps.owners_are;
        roots_are = keeps.roots_are;
        definitions_fit = keeps.definitions_fit;
        begun_fit = keeps.begun_fit;
        terms_fit = omega (arith, length_snoc S.terms item);
      }

  -- and once a definition is
  sees_definition : (n : ℕ) → started s ≡ seen (taken S (Definition n))
  unfolding taken seen started next_due
  sees_definition n =
      let more : length S.roots + 1 ≡ length (taken S (Definition n)).roots = length_snoc S.roots _ in
      ap started keeps.sees ∙ (λ i. record {
        definitions = S.definitions;
        events = S.events;
        begun = more i;
        terms = length S.terms;
        due = 1;
        depth = 0;
      })

  pub keeps_definition : (n : ℕ) → refusal (Definition n) s ≡ 0
      → Keeps (taken S (Definition n)) (started s) w k p o (set r s.begun s.terms) k₀ p₀ o₀ r₀
  unfolding taken seen
  keeps_definition n e =
      let f = fine_definition s n e in
      let at : s.begun ≡ length S.roots = ap (λ (t : Seen). t.begun) keeps.sees in
      let terms : s.terms ≡ length S.terms = ap (λ (t : Seen). t.terms) keeps.sees in
      let all : s.definitions ≡ S.definitions = ap (λ (t : Seen). t.definitions) keeps.sees in
      record {
        sees = sees_definition n;
        stacked = tt;
        long = keeps.long;
        steep = (omega arith, tt);
        kinds_are = keeps.kinds_are;
        payloads_are = keeps.payloads_are;
        owners_are = keeps.owners_are;
        roots_are = ap₂ (λ (l : List ℕ) (u : ℕ). set l s.begun u) keeps.roots_are terms
            ∙ sets_snoc r₀ 0 S.roots (length S.terms) s.begun (omega arith);
        definitions_fit = keeps.definitions_fit;
        begun_fit = omega (arith, length_snoc S.roots (length S.terms), f.0, f.1);
        terms_fit = keeps.terms_fit;
      }

  -- a frame that meets no refusal and is not the last keeps it so
  pub keeps_on : (f : Frame) → refusal f s ≡ 0 → closes f ≡ false
      → Keeps (taken S f) (seen_then f s w) (waiting_then f s w) (column_then (λ kk pp. kk) f s k)
      (column_then (λ kk pp. pp) f s p) (column_then (λ kk pp. s.begun - 1) f s o) (roots_then f s r)
      k₀ p₀ o₀ r₀
  unfolding refusal closes seen_then waiting_then column_then roots_then
  keeps_on Wrong e h = let z : ◌≡◌ {A = ℕ} 2 0 = e in absurd (omega arith)
  keeps_on (Opening ed dd ee) e h = let z : ◌≡◌ {A = ℕ} 2 0 = e in absurd (omega arith)
  keeps_on (Definition n) e h = keeps_definition n e
  keeps_on (Term kk pp) e h = keeps_term kk pp e
  keeps_on (Closing t) e h = let z : ◌≡◌ {A = ℕ} 0 1 = cc in absurd (omega arith)
