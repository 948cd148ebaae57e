-- The loop over a table's lines: what is judged of the whole is what is judged of the lines from the cursor on,
-- by what the loop keeps. One law for the start, one for each way out and one for a turn. Assumes nothing.
use Rattle.std.proofs.Common.{ℕ, ◌+◌, ◌-◌, ◌≤◌, ◌<◌, ◌≡◌, refl, sym, ap, ◌∙◌, subst, true, false, List, []}
use Rattle.std.proofs.Common.{◌∷◌, arith, length, drop, replicate}
use Rattle.std.proofs.lemmas.List.{length-replicate}
use Rattle.lines.specs.Line.{Raw, lines}
use Rattle.lines.specs.Judging.{Judged, accepted, refused, judged_from}
use Rattle.lines.specs.declared.Line.TheVariants.{Found, NoLine, End}
use Rattle.lines.proofs.Judging.{ends_whole, no_line_fails, line_fails, accepted_whole, accepted_line}
use Rattle.lines.proofs.Laws.{not_a_line, none_left}
use Rattle.desk_lines.specs.DeskLine.{desk_form, desk_answer}
use Rattle.desk_lines.proofs.Laws.{desk_line}
use Rattle.frames.specs.TableFrame.{refusal, closes}
use Rattle.tables.specs.Table.{Sofar, next_due, seen, taken, within, closed, whole_at, number_met}
use Rattle.tables.specs.Table.{table_lines}
use Rattle.tables.specs.words.Columns.{answer}
use Rattle.refusals.specs.code.Said.{Said, Goes, Stops, said}
use Rattle.filling.specs.code.Taking.{Ready, seen_then, waiting_then, roots_then, column_then}
use Rattle.tables.specs.words.Filled.{begins, Filled, Fills}
use Rattle.frames.specs.declared.Frame.{Frame}
use Rattle.frames.specs.declared.Seen.{Seen}
use Rattle.tables.specs.declared.TableCounts.{TableCounts}
use Rattle.tables.specs.Checked.{Checked, Accepted, Refused}
use Rattle.tables.proofs.Kept.{Keeps, ready, keeps_on}
use Rattle.tables.proofs.Judged.{rest_stops, Went, rest_goes}

-- behind the last line: by what stands at the cursor
abbrev behind : Sofar → ℕ → List Raw → Judged Sofar
behind s n ls = judged_from table_lines (closed s) n ls

module _ (S : Sofar) (t : List ℕ) (at n : ℕ) where
  pub behind_end : desk_answer at (lines (drop at t)) ≡ End → accepted S ≡ behind S n (lines (drop at t))
  unfolding whole_at
  behind_end e = rw (none_left desk_form t at e) (sym (ends_whole table_lines (closed S) n refl))

  pub behind_no_line : desk_answer at (lines (drop at t)) ≡ NoLine
      → refused 1 n ≡ behind S n (lines (drop at t))
  behind_no_line e =
      let b = not_a_line desk_form t at e in
      rw b.first (sym (no_line_fails table_lines (closed S) n _ _ b.broken))

  pub behind_line : (e m : ℕ) → desk_answer at (lines (drop at t)) ≡ Found e m
      → refused 2 n ≡ behind S n (lines (drop at t))
  unfolding number_met
  behind_line e m h =
      let b = desk_line t at e m h in
      rw b.first (sym (line_fails table_lines (closed S) n _ _ b.framed refl refl))

-- the answer for a table that is accepted
abbrev counts : Seen → TableCounts
counts s = record { definitions = s.definitions; events = s.events; terms = s.terms }

pub answer_accepted : (t : Sofar) (s : Seen) → s ≡ seen t → Accepted (counts s) ≡ answer (accepted t)
unfolding answer seen
answer_accepted t s e = ap (λ (u : Seen). Accepted (counts u)) e

-- what is accepted behind the last line is what was said before it
pub behind_accepts : (S T : Sofar) (n : ℕ) (ls : List Raw) → behind S n ls ≡ accepted T → S ≡ T
unfolding whole_at number_met
behind_accepts S T n [] e = let same = accepted_whole table_lines (closed S) n e in cc
behind_accepts S T n (l ∷ ls) e =
    let late = (accepted_line table_lines (closed S) n l ls e).none_met in
    absurd (omega (arith, late))

-- what is judged of all lines behind line 1
abbrev whole : List ℕ → ℕ → ℕ → ℕ → Judged Sofar
whole text from d ev = judged_from table_lines (within (begins d ev)) 2 (lines (drop from text))

-- what the loop begins with
abbrev start : ℕ → ℕ → Seen
start d ev = record { definitions = d; events = ev; begun = 0; terms = 0; due = 0; depth = 0 }

module _ (text : List ℕ) (from d ev : ℕ) (k₀ p₀ o₀ r₀ : List ℕ) where
  -- what holds at each turn
  pub record Going (k p o r w : List ℕ) (s : Seen) (at line : ℕ) : Type 0 where
    pub sofar : Sofar
    pub keeps : Keeps sofar s w k p o r k₀ p₀ o₀ r₀
    pub work : whole text from d ev ≡ judged_from table_lines (within sofar) line (lines (drop at text))
    pub counted : line ≤ at + 2

  pub going_starts : d ≤ 64 → Going k₀ p₀ o₀ r₀ (replicate 65 0) (start d ev) from 2
  unfolding seen next_due
  going_starts h = record {
    sofar = begins d ev;
    keeps = record {
      sees = refl;
      stacked = tt;
      long = length-replicate {A = ℕ} 65 0;
      steep = tt;
      kinds_are = refl;
      payloads_are = refl;
      owners_are = refl;
      roots_are = refl;
      definitions_fit = h;
      begun_fit = omega arith;
      terms_fit = omega arith;
    };
    work = refl;
    counted = omega arith;
  }

module _ {text : List ℕ} {from d ev : ℕ} {k₀ p₀ o₀ r₀ k p o r w : List ℕ} {s : Seen} {at line : ℕ}
    (g : Going text from d ev k₀ p₀ o₀ r₀ k p o r w s at line) where
  -- what the line at the cursor says
  abbrev told : Seen → Said
  told u = said (λ (f : Frame). refusal f u) at (lines (drop at text))

  by_sofar : (x : Said) → x ≡ told s → told (seen g.sofar) ≡ x
  by_sofar x e = sym (rw g.keeps.sees at e)

  -- the answer is the whole's, and the columns are filled where that is accepted
  abbrev Done : Checked → Type 0
  Done x = Fills (whole text from d ev) x k p o r k₀ p₀ o₀ r₀

  pub going_stops : (n : ℕ) → Stops n ≡ told s → Done (Refused n line)
  unfolding answer
  going_stops n e =
      let stops = rest_stops g.sofar text at line n (by_sofar (Stops n) e) in
      let over : whole text from d ev ≡ refused n line = g.work ∙ stops in
      (rw over, λ t q. let z : ◌≡◌ {A = ℕ} 0 1 = cc in absurd (omega arith))

  module _ {f : Frame} {next : ℕ} (e : Goes f next ≡ told s) where
    went : Went g.sofar text at line f next
    went = rest_goes g.sofar text at line f next (by_sofar (Goes f next) e)

    pub going_on : (at < next) × (next ≤ length text)
    going_on = (went.on, went.within)

    fine : refusal f s ≡ 0
    fine = rw g.keeps.sees went.fine

    pub going_ready : Ready f s
    going_ready = ready g.sofar s w k p o r k₀ p₀ o₀ r₀ g.keeps f fine

    pub going_closes : closes f ≡ true → (x : Checked)
        → ((t : Sofar) → s ≡ seen t → x ≡ answer (behind t (line + 1) (lines (drop next text))))
        → Done x
    going_closes c x h =
        let S = g.sofar in
        let ls = lines (drop next text) in
        let over : whole text from d ev ≡ behind S (line + 1) ls = g.work ∙ (rw c at went.then) in (
          h S g.keeps.sees ∙ ap answer (sym over),
          λ t q.
              let same : S ≡ t = behind_accepts S t (line + 1) ls (sym over ∙ q) in
              let K = g.keeps in
              subst (λ (u : Sofar). Filled u k p o r k₀ p₀ o₀ r₀) same (record {
                kinds_are = K.kinds_are;
                payloads_are = K.payloads_are;
                owners_are = K.owners_are;
                roots_are = K.roots_are;
                terms_fit = K.terms_fit;
                roots_fit = omega (arith, K.begun_fit, K.definitions_fit);
              }),
        )

    going_again : closes f ≡ false
        → Going text from d ev k₀ p₀ o₀ r₀ (column_then (λ kk pp. kk) f s k) (column_then (λ kk pp. pp) f s p)
        (column_then (λ kk pp. s.begun - 1) f s o) (roots_then f s r) (waiting_then f s w) (seen_then f s w)
        next (line + 1)
    going_again c = record {
      sofar = taken g.sofar f;
      keeps = keeps_on g.sofar s w k p o r k₀ p₀ o₀ r₀ g.keeps f fine c;
      work = g.work ∙ (rw c at went.then);
      counted = omega (arith, g.counted, went.on);
    }

    pub going_turn : closes f ≡ false → (k' p' o' r' w' : List ℕ) (s' : Seen)
        → s' ≡ seen_then f s w → w' ≡ waiting_then f s w
        → k' ≡ column_then (λ kk pp. kk) f s k → p' ≡ column_then (λ kk pp. pp) f s p
        → o' ≡ column_then (λ kk pp. s.begun - 1) f s o → r' ≡ roots_then f s r
        → Going text from d ev k₀ p₀ o₀ r₀ k' p' o' r' w' s' next (line + 1)
    going_turn c k' p' o' r' w' s' e₁ e₂ e₃ e₄ e₅ e₆ = rw (e₁, e₂, e₃, e₄, e₅, e₆) (going_again c)
