-- An answer tells one outcome: what it tells by document 01's numbers is told by no other answer. Assumes nothing.
use Rattle.std.proofs.Common.{ℕ, ◌≡◌, ap, Result, Ok, Err, arith}
use Rattle.lines.specs.Refusal.{number}
use Rattle.lines.specs.declared.Refusal.{Refusal}
use Rattle.lines.proofs.Refusals.{number_once}
use Rattle.refusals.specs.declared.FrameLine.{FrameLine}
use Rattle.refusals.specs.declared.TableOpening.{TableOpening}
use Rattle.refusals.specs.code.Said.{line_told, first_told}

pub first_told_once : (x y : Result TableOpening Refusal) → first_told x ≡ first_told y → x ≡ y
unfolding first_told
first_told_once (Ok o) (Ok p) same =
    let definitions : o.definitions ≡ p.definitions = cc in
    let events : o.events ≡ p.events = cc in
    let next : o.next ≡ p.next = cc in
    let opening : o ≡ p = rw (definitions, events, next) in
    ap (λ q. Ok q) opening
first_told_once (Ok o) (Err r) same = let z : ◌≡◌ {A = ℕ} 0 1 = cc in absurd (omega arith)
first_told_once (Err r) (Ok o) same = let z : ◌≡◌ {A = ℕ} 0 1 = cc in absurd (omega arith)
first_told_once (Err r) (Err s) same =
    let numbers : number r ≡ number s = cc in
    ap (λ q. Err q) (number_once r s numbers)

pub line_told_once : (x y : Result FrameLine Refusal) → line_told x ≡ line_told y → x ≡ y
unfolding line_told
line_told_once (Ok l) (Ok m) same =
    let frame : l.frame ≡ m.frame = cc in
    let next : l.next ≡ m.next = cc in
    let line : l ≡ m = rw (frame, next) in
    ap (λ q. Ok q) line
line_told_once (Ok l) (Err r) same = let z : ◌≡◌ {A = ℕ} 0 1 = cc in absurd (omega arith)
line_told_once (Err r) (Ok l) same = let z : ◌≡◌ {A = ℕ} 0 1 = cc in absurd (omega arith)
line_told_once (Err r) (Err s) same =
    let numbers : number r ≡ number s = cc in
    ap (λ q. Err q) (number_once r s numbers)
