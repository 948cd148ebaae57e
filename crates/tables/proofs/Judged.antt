-- The judging of a table's lines a line at a time, by what is said of the line at the cursor. Assumes nothing.
use Rattle.std.proofs.Common.{ℕ, ◌+◌, ◌≤◌, ◌<◌, ◌≡◌, refl, sym, ap, ◌∙◌, Bool, true, false, List, [], ◌∷◌}
use Rattle.std.proofs.Common.{arith, length, drop, eqb, eqb-true}
use Rattle.std.proofs.Math.Option.{Option, none, some}
use Rattle.lines.specs.Line.{choose, Raw, lines, characters, answer_of, seen as seen-line}
use Rattle.lines.specs.Judging.{Judged, refused, judged_from}
use Rattle.lines.specs.declared.Line.TheVariants.{Found}
use Rattle.desk_lines.specs.DeskLine.{strict, desk_frame, desk_answer}
use Rattle.desk_lines.proofs.Laws.{DeskLine, desk_line}
use Rattle.lines.proofs.Judging.{ends_early, no_line_fails, line_fails, line_taken}
use Rattle.frames.specs.TableFrame.{frame_of, refusal, closes}
use Rattle.tables.specs.Table.{Sofar, seen, taken, within, closed, whole_at, number_met, stage_behind}
use Rattle.tables.specs.Table.{table_lines}
use Rattle.refusals.specs.code.Said.{Said, Goes, Stops, heard, said}
use Rattle.frames.specs.declared.Frame.{Frame}

-- a line that is one: where the next begins, and the lines from there on
pub record Onward (t : List ℕ) (at next : ℕ) (ls : List Raw) : Type 0 where
  pub on : at < next
  pub within : next ≤ length t
  pub behind_it : ls ≡ lines (drop next t)

pub onward : (t : List ℕ) (at : ℕ) (l : Raw) (ls : List Raw) (bs : List ℕ) → lines (drop at t) ≡ l ∷ ls
    → desk_frame l ≡ some bs → Onward t at (at + length (characters l) + 1) ls
unfolding answer_of seen-line
onward t at l ls bs q e =
    let end = at + length (characters (strict l)) in
    let next = at + length (characters l) + 1 in
    let found : desk_answer at (lines (drop at t)) ≡ Found end next = rw (q, e) in
    let i : DeskLine t at end next = desk_line t at end next found in
    let f = i.first in
    record { on = omega arith; within = i.within; behind_it = cc }

-- a line heard: by whether its frame meets a refusal
heard_goes : (r : Frame → ℕ) (n : ℕ) (o : Option (List ℕ)) (f : Frame) (next : ℕ) → heard r n o ≡ Goes f next
    → (bs : List ℕ) × (o ≡ some bs) × (f ≡ frame_of bs) × (r f ≡ 0) × (n ≡ next)
unfolding heard
heard_goes r n none f next e = let z : ◌≡◌ {A = ℕ} 0 1 = cc in absurd (omega arith)
heard_goes r n (some bs) f next e = go (eqb (r (frame_of bs)) 0) refl e
  where
    go : (b : Bool) → eqb (r (frame_of bs)) 0 ≡ b
        → choose b (Goes (frame_of bs) n) (Stops (r (frame_of bs))) ≡ Goes f next
        → (cs : List ℕ) × (some bs ≡ some cs) × (f ≡ frame_of cs) × (r f ≡ 0) × (n ≡ next)
    go true q e =
        let same : f ≡ frame_of bs = cc in
        (bs, refl, same, ap r same ∙ eqb-true (r (frame_of bs)) 0 q, cc)
    go false q e = let z : ◌≡◌ {A = ℕ} 0 1 = cc in absurd (omega arith)

-- and by the number that it stops with
heard_stops : (r : Frame → ℕ) (n : ℕ) (bs : List ℕ) (k : ℕ) → heard r n (some bs) ≡ Stops k
    → (r (frame_of bs) ≡ k) × (eqb k 0 ≡ false)
unfolding heard
heard_stops r n bs k e = go (eqb (r (frame_of bs)) 0) refl e
  where
    go : (b : Bool) → eqb (r (frame_of bs)) 0 ≡ b
        → choose b (Goes (frame_of bs) n) (Stops (r (frame_of bs))) ≡ Stops k
        → (r (frame_of bs) ≡ k) × (eqb k 0 ≡ false)
    go true q e = let z : ◌≡◌ {A = ℕ} 0 1 = cc in absurd (omega arith)
    go false q e = let same : r (frame_of bs) ≡ k = cc in (same, sym (ap (λ (m : ℕ). eqb m 0) same) ∙ q)

module _ (S : Sofar) (t : List ℕ) (at n : ℕ) where
  -- what the first of some lines says
  abbrev pub told : List Raw → Said
  told ls = said (λ (f : Frame). refusal f (seen S)) at ls

  -- what is judged of some lines, within the table
  abbrev pub rest : List Raw → Judged Sofar
  rest ls = judged_from table_lines (within S) n ls

  -- a line that meets a refusal ends the work
  pub rest_stops : (k : ℕ) → told (lines (drop at t)) ≡ Stops k → rest (lines (drop at t)) ≡ refused k n
  unfolding said heard whole_at number_met
  rest_stops k e = go (lines (drop at t)) e
    where
      by_frame : (l : Raw) (ls : List Raw) (o : Option (List ℕ)) → desk_frame l ≡ o
          → heard (λ (f : Frame). refusal f (seen S)) (at + length (characters l) + 1) o ≡ Stops k
          → rest (l ∷ ls) ≡ refused k n
      by_frame l ls none f e = let one : 1 ≡ k = cc in rw (← one) (no_line_fails table_lines (within S) n l ls f)
      by_frame l ls (some bs) f e =
          let h = heard_stops (λ (f : Frame). refusal f (seen S)) _ bs k e in
          line_fails table_lines (within S) n l ls f h.0 h.1

      go : (ls : List Raw) → told ls ≡ Stops k → rest ls ≡ refused k n
      go [] e = let two : 2 ≡ k = cc in rw (← two) (ends_early table_lines (within S) n refl)
      go (l ∷ ls) e = by_frame l ls (desk_frame l) refl e

  -- what is judged behind a line that meets none: it is the last, or is taken in
  abbrev pub further : Frame → List Raw → Judged Sofar
  further f ls = judged_from table_lines (choose (closes f) (closed S) (within (taken S f))) (n + 1) ls

  one_more : (l : Raw) (ls : List Raw) (bs : List ℕ) → desk_frame l ≡ some bs → refusal (frame_of bs) (seen S) ≡ 0
      → rest (l ∷ ls) ≡ further (frame_of bs) ls
  unfolding number_met stage_behind
  one_more l ls bs e z = line_taken table_lines (within S) n l ls e z

  pub record Went (f : Frame) (next : ℕ) : Type 0 where
    pub fine : refusal f (seen S) ≡ 0
    pub on : at < next
    pub within : next ≤ length t
    pub then : rest (lines (drop at t)) ≡ further f (lines (drop next t))

  pub rest_goes : (f : Frame) (next : ℕ) → told (lines (drop at t)) ≡ Goes f next → Went f next
  unfolding said
  rest_goes f next e = go (lines (drop at t)) refl e
    where
      go : (ls : List Raw) → lines (drop at t) ≡ ls → told ls ≡ Goes f next → Went f next
      go [] q e = let z : ◌≡◌ {A = ℕ} 0 1 = cc in absurd (omega arith)
      go (l ∷ ls) q e =
          let h = heard_goes (λ (g : Frame). refusal g (seen S)) _ (desk_frame l) f next e in
          let o : Onward t at next ls = rw h.4 at (onward t at l ls h.0 q h.1) in
          let z : refusal (frame_of h.0) (seen S) ≡ 0 = rw h.2 at h.3 in
          let turn = one_more l ls h.0 h.1 z in
          record { fine = h.3; on = o.on; within = o.within; then = rw (q, h.2, ← o.behind_it) turn }
