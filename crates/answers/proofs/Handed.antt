-- A door's answer that is handed on with its refusal's number tells what it told. By cases. Assumes nothing.
use Rattle.std.proofs.Common.{ℕ, ◌≡◌, Option, Some, None, Result, Ok, Err, IsErrAnd, MatchResult, ap}
use Rattle.lines.specs.Refusal.{number}
use Rattle.lines.specs.declared.Refusal.{Refusal}
use Rattle.lines.specs.declared.RefusedAt.{RefusedAt}
use Rattle.links.specs.declared.GraphCounts.{GraphCounts}
use Rattle.tables.specs.declared.TableCounts.{TableCounts}
use Rattle.tables.specs.Checked.{checked_told}
use Rattle.runs.specs.declared.Shown.{Shown}
use Rattle.runs.specs.Answer.{answer_told}
use Rattle.playing.specs.declared.PlayedStep.{PlayedStep}
use Rattle.playing.specs.Played.{played_told}
use Rattle.reading.specs.Answers.{read_told}
use Rattle.answers.specs.declared.NumberAt.{NumberAt}
use Rattle.answers.specs.Numbered.{numbered, answer_numbered, played_numbered, checked_numbered, read_numbered}

-- y is x with f of its refusal
abbrev pub HandedBy : {A E D : Type 0} → (E → D) → Result A E → Result A D → Type 0
HandedBy f x y = MatchResult x (λ a. y ≡ Ok a) (λ e. IsErrAnd y (λ d. d ≡ f e))

-- and so it is nothing else
with_refusal : {A E D : Type 0} → (E → D) → Result A E → Result A D
with_refusal f (Ok a) = Ok a
with_refusal f (Err e) = Err (f e)

handed : {A E D : Type 0} (f : E → D) (x : Result A E) (y : Result A D) → HandedBy f x y → y ≡ with_refusal f x
unfolding with_refusal
handed f (Ok a) y h = h
handed f (Err e) (Ok a) h = absurd h
handed f (Err e) (Err d) h = ap Err h

pub step_handed : (x : Result Shown Refusal) (y : Result Shown ℕ) → HandedBy number x y → answer_numbered y ≡ answer_told x
unfolding with_refusal answer_numbered answer_told
step_handed (Ok s) y h = ap answer_numbered (handed number (Ok s) y h)
step_handed (Err r) y h = ap answer_numbered (handed number (Err r) y h)

pub line_handed : (x : Result (Option PlayedStep) Refusal) (y : Result (Option PlayedStep) ℕ) → HandedBy number x y
    → played_numbered y ≡ played_told x
unfolding with_refusal played_numbered played_told
line_handed (Ok (Some s)) y h = ap played_numbered (handed number (Ok (Some s)) y h)
line_handed (Ok None) y h = ap played_numbered (handed number (Ok None) y h)
line_handed (Err r) y h = ap played_numbered (handed number (Err r) y h)

pub table_handed : (x : Result TableCounts RefusedAt) (y : Result TableCounts NumberAt) → HandedBy numbered x y
    → checked_numbered y ≡ checked_told x
unfolding with_refusal checked_numbered checked_told
table_handed (Ok n) y h = ap checked_numbered (handed numbered (Ok n) y h)
table_handed (Err r) y h = ap checked_numbered (handed numbered (Err r) y h)

pub track_handed : (x : Result GraphCounts RefusedAt) (y : Result GraphCounts NumberAt) → HandedBy numbered x y
    → read_numbered y ≡ read_told x
unfolding with_refusal read_numbered read_told
track_handed (Ok n) y h = ap read_numbered (handed numbered (Ok n) y h)
track_handed (Err r) y h = ap read_numbered (handed numbered (Err r) y h)
