-- The whole of a table's text: what line 1 opens, what is judged of all lines, and what the columns then
-- hold. Assumes nothing.
use Rattle.std.proofs.Common.{ℕ, zero, suc, ◌+◌, ◌-◌, ◌≤◌, ◌<◌, ◌≡◌, refl, ap, ap₂, ◌∙◌, Bool, true}
use Rattle.std.proofs.Common.{false, ◌&&◌, List, [], ◌∷◌, ◌++◌, map, arith, zero-add, length, drop}
use Rattle.std.proofs.Common.{replicate, leb, eqb, le-leb, leb-true}
use Rattle.std.proofs.Math.Option.{Option, none, some}
use Rattle.std.proofs.lemmas.List.{length-replicate, length-map}
use Rattle.std.proofs.lemmas.List.Edits.{sets, sets-eq}
use Rattle.std.proofs.lemmas.Bool.{lt-leb}
use Rattle.lines.specs.Line.{choose, Raw, lines, characters}
use Rattle.lines.specs.Judging.{Judged, accepted, refused, judged_from}
use Rattle.lines.proofs.Judging.{ends_early, no_line_fails, line_fails, line_taken}
use Rattle.desk_lines.specs.DeskLine.{desk_frame}
use Rattle.frames.specs.TableFrame.{frame_of, first_refusal}
use Rattle.tables.specs.Table.{Item, Sofar, taken, unopened, at_start, within, whole_at, number_met}
use Rattle.tables.specs.Table.{stage_behind, table_lines, judged, text_room}
use Rattle.columns.specs.words.Columns.{Columns, all_columns}
use Rattle.columns.specs.words.Held.{no_terms}
use Rattle.tables.specs.words.Columns.{column, kinds, payloads, owners, roots, afters, columns_of, table_counts}
use Rattle.tables.specs.words.Columns.{answer, with_columns, outcome}
use Rattle.filling.specs.words.Preorder.{walked}
use Rattle.refusals.specs.code.Said.{Table, Fails, opens, opened_by, opened}
use Rattle.tables.specs.words.Filled.{begins, Filled}
use Rattle.frames.specs.declared.Frame.{Frame}
use Rattle.frames.specs.declared.Frame.TheVariants.{Opening, Definition, Term, Closing, Wrong}
use Rattle.tables.specs.declared.TableCounts.{TableCounts}
use Rattle.tables.specs.Checked.{Checked, Accepted, Refused}
use Rattle.tables.proofs.Judged.{onward}

-- what line 1's frame opens
abbrev Opens : Frame → ℕ → ℕ → Type 0
Opens g d e = (first_refusal g ≡ 0) × (taken unopened g ≡ begins d e) × (d ≤ 64)

opens_table : (g : Frame) (next d e n : ℕ) → opens next g ≡ Table d e n → Opens g d e × (next ≡ n)
unfolding opens first_refusal taken
opens_table Wrong next d e n q = let z : ◌≡◌ {A = ℕ} 0 1 = cc in absurd (omega arith)
opens_table (Definition k) next d e n q = let z : ◌≡◌ {A = ℕ} 0 1 = cc in absurd (omega arith)
opens_table (Term k p) next d e n q = let z : ◌≡◌ {A = ℕ} 0 1 = cc in absurd (omega arith)
opens_table (Closing t) next d e n q = let z : ◌≡◌ {A = ℕ} 0 1 = cc in absurd (omega arith)
opens_table (Opening ed dd ee) next d e n q = go (eqb ed 1) (leb 1 dd) (leb dd 64) (leb ee 64) refl q
  where
    out : {A : Type 0} → Fails 3 ≡ Table d e n → A
    out q = let z : ◌≡◌ {A = ℕ} 0 1 = cc in absurd (omega arith)

    go : (w x y z : Bool) → leb dd 64 ≡ y
        → choose (eqb (choose (w && (x && (y && z))) 0 3) 0) (Table dd ee next) (Fails 3) ≡ Table d e n
        → ((◌≡◌ {A = ℕ} (choose (w && (x && (y && z))) 0 3) 0) × (begins dd ee ≡ begins d e) × (d ≤ 64))
        × (next ≡ n)
    go true true true true f q =
        let a : dd ≡ d = cc in
        let b : ee ≡ e = cc in
        ((refl, ap₂ begins a b, rw a at (leb-true dd 64 f)), cc)
    go true true true false f q = out q
    go true true false z f q = out q
    go true false y z f q = out q
    go false x y z f q = out q

-- the number that line 1's frame meets is the one told
opens_fails : (g : Frame) (next k : ℕ) → opens next g ≡ Fails k
    → (first_refusal g ≡ k) × (eqb k 0 ≡ false)
unfolding opens first_refusal
opens_fails Wrong next k q = let two : 2 ≡ k = cc in (two, rw (← two))
opens_fails (Definition n) next k q = let two : 2 ≡ k = cc in (two, rw (← two))
opens_fails (Term t p) next k q = let two : 2 ≡ k = cc in (two, rw (← two))
opens_fails (Closing t) next k q = let two : 2 ≡ k = cc in (two, rw (← two))
opens_fails (Opening ed dd ee) next k q = go (eqb ed 1 && (leb 1 dd && (leb dd 64 && leb ee 64))) q
  where
    go : (b : Bool) → choose (eqb (choose b 0 3) 0) (Table dd ee next) (Fails 3) ≡ Fails k
        → (choose b 0 3 ≡ k) × (eqb k 0 ≡ false)
    go true q = let z : ◌≡◌ {A = ℕ} 0 1 = cc in absurd (omega arith)
    go false q = let three : 3 ≡ k = cc in (three, rw (← three))

-- what is judged of all lines, and of those behind line 1
abbrev from_first : List Raw → Judged Sofar
from_first ls = judged_from table_lines at_start 1 ls

abbrev behind_first : ℕ → ℕ → List Raw → Judged Sofar
behind_first d e ls = judged_from table_lines (within (begins d e)) 2 ls

first_opens : (l : Raw) (ls : List Raw) (bs : List ℕ) (d e : ℕ) → desk_frame l ≡ some bs → Opens (frame_of bs) d e
    → from_first (l ∷ ls) ≡ behind_first d e ls
unfolding number_met stage_behind
first_opens l ls bs d e f o = line_taken table_lines at_start 1 l ls f o.0 ∙ rw o.1

pub table_opens : (t : List ℕ) (d e n : ℕ) → opened (lines t) ≡ Table d e n
    → (from_first (lines t) ≡ behind_first d e (lines (drop n t))) × (d ≤ 64)
unfolding opened opened_by
table_opens t d e n q = go (lines t) refl q
  where
    by_frame : (l : Raw) (ls : List Raw) (o : Option (List ℕ)) → lines t ≡ l ∷ ls → desk_frame l ≡ o
        → opened_by (length (characters l) + 1) o ≡ Table d e n
        → (from_first (l ∷ ls) ≡ behind_first d e (lines (drop n t))) × (d ≤ 64)
    by_frame l ls none w f q = let z : ◌≡◌ {A = ℕ} 0 1 = cc in absurd (omega arith)
    by_frame l ls (some bs) w f q =
        let r = opens_table (frame_of bs) (length (characters l) + 1) d e n q in
        let o = onward t 0 l ls bs w f in
        let m : 0 + length (characters l) + 1 ≡ n = omega (arith, r.1) in
        let on = o.behind_it ∙ ap (λ (j : ℕ). lines (drop j t)) m in
        (first_opens l ls bs d e f r.0 ∙ ap (behind_first d e) on, r.0.2)

    go : (ls : List Raw) → lines t ≡ ls → opened ls ≡ Table d e n
        → (from_first ls ≡ behind_first d e (lines (drop n t))) × (d ≤ 64)
    go [] w q = let z : ◌≡◌ {A = ℕ} 0 1 = cc in absurd (omega arith)
    go (l ∷ ls) w q = by_frame l ls (desk_frame l) w refl q

pub table_fails : (ls : List Raw) (k : ℕ) → opened ls ≡ Fails k → from_first ls ≡ refused k 1
unfolding opened opened_by whole_at number_met
table_fails [] k q = let two : 2 ≡ k = cc in rw (← two) (ends_early table_lines at_start 1 refl)
table_fails (l ∷ ls) k q = by_frame (desk_frame l) refl q
  where
    by_frame : (o : Option (List ℕ)) → desk_frame l ≡ o → opened_by (length (characters l) + 1) o ≡ Fails k
        → from_first (l ∷ ls) ≡ refused k 1
    by_frame none f q = let one : 1 ≡ k = cc in rw (← one) (no_line_fails table_lines at_start 1 l ls f)
    by_frame (some bs) f q =
        let r = opens_fails (frame_of bs) (length (characters l) + 1) k q in
        line_fails table_lines at_start 1 l ls f r.0 r.1

-- the room of the text
pub judged_within : (t : List ℕ) → length t ≤ text_room → judged t ≡ from_first (lines t)
unfolding judged
judged_within t h = simp (le-leb (length t) text_room h)

pub judged_over : (t : List ℕ) → text_room < length t → judged t ≡ refused 6 0
unfolding judged
judged_over t h = simp (lt-leb (length t) text_room h)

-- what the answer says of what was judged
pub answer_refuses : (j : Judged Sofar) (n l : ℕ) → answer j ≡ Refused n l → j ≡ refused n l
unfolding answer
answer_refuses (accepted s) n l e = let z : ◌≡◌ {A = ℕ} 0 1 = cc in absurd (omega arith)
answer_refuses (refused m k) n l e = let a : m ≡ n = cc in let b : k ≡ l = cc in ap₂ refused a b

pub answer_accepts : (j : Judged Sofar) (c : TableCounts) → answer j ≡ Accepted c
    → (s : Sofar) × (j ≡ accepted s) × (c.terms ≡ length s.terms)
unfolding answer
answer_accepts (accepted s) c e =
    let is : c ≡ table_counts s = cc in
    (s, refl, ap (λ (x : TableCounts). x.terms) is)
answer_accepts (refused m k) c e = let z : ◌≡◌ {A = ℕ} 0 1 = cc in absurd (omega arith)

-- what an outcome says of it
pub outcome_refuses : (c : Columns) (j : Judged Sofar) (n l : ℕ) → (outcome c j).answer ≡ Refused n l → j ≡ refused n l
unfolding outcome
outcome_refuses c (accepted s) n l e = answer_refuses (accepted s) n l e
outcome_refuses c (refused m k) n l e = answer_refuses (refused m k) n l e

pub outcome_accepts : (c : Columns) (j : Judged Sofar) (n : TableCounts) → (outcome c j).answer ≡ Accepted n
    → (s : Sofar) × (j ≡ accepted s) × (n ≡ table_counts s) × ((outcome c j).columns ≡ columns_of s)
unfolding answer outcome
outcome_accepts c (accepted s) n e = (s, refl, cc, refl)
outcome_accepts c (refused m k) n e = let z : ◌≡◌ {A = ℕ} 0 1 = cc in absurd (omega arith)

-- a refusal leaves the columns as they were
pub refuses : (t : List ℕ) (x : Checked) (n l : ℕ) (c : Columns) → x ≡ Refused n l → judged t ≡ refused n l
    → with_columns x c ≡ outcome c (judged t)
unfolding answer outcome
refuses t x n l c told e = rw (told, e)

-- zeros with some numbers stored in front are those numbers' column
drop_zeros : (k n : ℕ) → drop {A = ℕ} k (replicate n 0) ≡ replicate (n - k) 0
drop_zeros zero n =
    let m : n ≡ n - 0 = omega arith in
    ap (λ (m : ℕ). replicate {A = ℕ} m 0) m
drop_zeros (suc k) zero =
    let m : 0 ≡ 0 - suc k = omega arith in
    ap (λ (m : ℕ). replicate {A = ℕ} m 0) m
drop_zeros (suc k) (suc n) =
    let m : n - k ≡ suc n - suc k = omega arith in
    drop_zeros k n ∙ ap (λ (m : ℕ). replicate {A = ℕ} m 0) m

pub zeros_column : (n : ℕ) (vs : List ℕ) → length vs ≤ n → sets (replicate n 0) 0 vs ≡ column n vs
unfolding column
zeros_column n vs h =
    sets-eq vs (replicate n 0) 0 (omega (arith, length-replicate {A = ℕ} n 0))
    ∙ ap (λ (l : List ℕ). vs ++ l)
    (ap (λ (m : ℕ). drop m (replicate n 0)) (zero-add (length vs)) ∙ drop_zeros (length vs) n)

-- an accepted table fills columns of no term
pub accepts : (t : List ℕ) (s : Sofar) (x : Checked) (k p o a r : List ℕ) (z c : Columns) → z ≡ no_terms
    → judged t ≡ accepted s → x ≡ answer (judged t)
    → Filled s k p o r z.kinds z.payloads z.owners z.roots → (n : ℕ)
    → n ≡ length s.terms → (b : List ℕ) → b ≡ z.after → a ≡ walked n k b
    → with_columns x (all_columns k p o a r) ≡ outcome c (judged t)
unfolding outcome kinds payloads owners afters roots
accepts t s x k p o a r z c blank e q filled m terms b kept w =
    let f : Filled s k p o r (replicate 1024 0) (replicate 1024 0) (replicate 1024 0) (replicate 64 0) =
    rw blank at filled in
    let zeros : b ≡ replicate 1024 0 = kept ∙ ap (λ (x : Columns). x.after) blank in
    let n : (of : Item → ℕ) → length (map of s.terms) ≤ 1024 =
    λ of. rw (length-map s.terms of) f.terms_fit in
    let ks : k ≡ kinds s = f.kinds_are ∙ zeros_column 1024 _ (n (λ (i : Item). i.kind)) in
    let ps : p ≡ payloads s = f.payloads_are ∙ zeros_column 1024 _ (n (λ (i : Item). i.payload)) in
    let os : o ≡ owners s = f.owners_are ∙ zeros_column 1024 _ (n (λ (i : Item). i.definition)) in
    let fs : a ≡ afters s = w ∙ ap (walked m k) zeros ∙ ap₂ (λ (j : ℕ) (l : List ℕ). walked j l (replicate 1024 0)) terms ks in
    let rs : r ≡ roots s = f.roots_are ∙ zeros_column 64 _ f.roots_fit in
    rw (q, e, ks, ps, os, fs, rs)
