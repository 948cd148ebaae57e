-- What an answer tells where it is one of a line, or a refusal at a line; and an answer of the check tells one outcome. Assumes
-- nothing.
use Rattle.std.proofs.Common.{ℕ, ◌≡◌, sym, ap, ◌∙◌, Result, Ok, Err}
use Rattle.std.proofs.Common.{arith}
use Rattle.lines.specs.Refusal.{number}
use Rattle.lines.specs.declared.Refusal.{Refusal}
use Rattle.lines.specs.declared.RefusedAt.{RefusedAt}
use Rattle.lines.proofs.Refusals.{number_once}
use Rattle.refusals.specs.declared.FrameLine.{FrameLine}
use Rattle.refusals.specs.declared.TableOpening.{TableOpening}
use Rattle.refusals.specs.code.Said.{Said, Goes, TableOpened, Table, first_told, line_told}
use Rattle.tables.specs.declared.TableCounts.{TableCounts}
use Rattle.tables.specs.Checked.{Refused, checked_told}

-- what line 1 opens, and what a line goes on with
pub table_told : {x : Result TableOpening Refusal} {o : TableOpening} → x ≡ Ok o → {t : TableOpened} → first_told x ≡ t
    → t ≡ Table o.definitions o.events o.next
unfolding first_told
table_told is told = sym told ∙ ap first_told is

pub goes_told : {x : Result FrameLine Refusal} {l : FrameLine} → x ≡ Ok l → {t : Said} → line_told x ≡ t
    → Goes l.frame l.next ≡ t
unfolding line_told
goes_told is told = sym (ap line_told is) ∙ told

-- a refusal at a line tells its number and the line
pub refused_told : (e : RefusedAt) {r : Refusal} {k : ℕ} → (e.refusal ≡ r) × (e.line ≡ k)
    → checked_told (Err e) ≡ Refused (number r) k
unfolding checked_told
refused_told e is = rw (is.0, is.1)

pub checked_told_once : (x y : Result TableCounts RefusedAt) → checked_told x ≡ checked_told y → x ≡ y
unfolding checked_told
checked_told_once (Ok m) (Ok n) same = let counts : m ≡ n = cc in ap (λ q. Ok q) counts
checked_told_once (Ok m) (Err e) same = let z : ◌≡◌ {A = ℕ} 0 1 = cc in absurd (omega arith)
checked_told_once (Err e) (Ok m) same = let z : ◌≡◌ {A = ℕ} 0 1 = cc in absurd (omega arith)
checked_told_once (Err d) (Err e) same =
    let numbers : number d.refusal ≡ number e.refusal = cc in
    let refusals = number_once d.refusal e.refusal numbers in
    let lines : d.line ≡ e.line = cc in
    let at : d ≡ e = rw (refusals, lines) in
    ap (λ q. Err q) at
