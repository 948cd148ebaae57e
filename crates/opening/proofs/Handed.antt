-- What a `?` hands on: a refusal, told at a line. And an answer of code tells one outcome. Assumes nothing.
use Rattle.std.specs.Prelude.{ℕ, ◌≡◌, Result, Ok, Err, IsErrAnd, MatchResult}
use Rattle.std.proofs.Common.{sym, ap, arith}
use Rattle.lines.specs.Refusal.{number, told}
use Rattle.lines.specs.declared.Refusal.{Refusal}
use Rattle.lines.specs.declared.RefusedAt.{RefusedAt}
use Rattle.lines.proofs.Refusals.{number_once, refused_once}
use Rattle.opening.specs.declared.TrackOpening.{TrackOpening}
use Rattle.opening.specs.Answers.{Stops, opened_told, lines_told}

-- a result whose refusal is told at line k: what it was, by what is told
module _ {A : Type 0} (x : Result A Refusal) where
  pub refused_at : (e : RefusedAt) (k : ℕ)
      → MatchResult x (λ a. ◌≡◌ {A = Result A RefusedAt} (Err e) (Ok a)) (λ r. (e.refusal ≡ r) × (e.line ≡ k))
      → (x ≡ Err e.refusal) × (e.line ≡ k)
  refused_at e k h = go x h
    where
      go : (y : Result A Refusal)
          → MatchResult y (λ a. ◌≡◌ {A = Result A RefusedAt} (Err e) (Ok a)) (λ r. (e.refusal ≡ r) × (e.line ≡ k))
          → (y ≡ Err e.refusal) × (e.line ≡ k)
      go (Ok a) q = let z : ◌≡◌ {A = ℕ} 0 1 = cc in absurd (omega arith)
      go (Err r) q = (ap (λ s. Err s) (sym q.0), q.1)

  pub accepted_at : (a : A) → MatchResult x (λ b. ◌≡◌ {A = Result A RefusedAt} (Ok a) (Ok b)) (λ r. ⊥) → x ≡ Ok a
  accepted_at a h = go x h
    where
      go : (y : Result A Refusal) → MatchResult y (λ b. ◌≡◌ {A = Result A RefusedAt} (Ok a) (Ok b)) (λ r. ⊥)
          → y ≡ Ok a
      go (Ok b) q = let same : b ≡ a = cc in ap (λ c. Ok c) same
      go (Err r) q = absurd q

-- what a test comes to is what its number says
pub refused_met : {A : Type 0} {x : Result A Refusal} {r : Refusal} → x ≡ Err r → told x ≡ number r
unfolding told
refused_met e = rw e

pub accepted_met : {A : Type 0} {x : Result A Refusal} {a : A} → x ≡ Ok a → told x ≡ 0
unfolding told
accepted_met e = rw e

-- what is handed on tells the refusal
pub stops_told : (r : Result ℕ RefusedAt) (e : RefusedAt) → IsErrAnd r (λ x. x ≡ e) → {k : ℕ} → e.line ≡ k
    → lines_told r ≡ Stops (number e.refusal) k
unfolding lines_told
stops_told (Ok next) e h l = absurd h
stops_told (Err x) e h l = rw (h, l)

-- an answer of line 1 tells one outcome
pub opened_told_once : (x y : Result TrackOpening Refusal) → opened_told x ≡ opened_told y → x ≡ y
unfolding opened_told
opened_told_once (Ok o) (Ok p) same =
    let nodes : o.nodes ≡ p.nodes = cc in
    let arcs : o.arcs ≡ p.arcs = cc in
    let meetings : o.meetings ≡ p.meetings = cc in
    let next : o.next ≡ p.next = cc in
    let opening : o ≡ p = rw (nodes, arcs, meetings, next) in
    ap (λ q. Ok q) opening
opened_told_once (Ok o) (Err r) same = let z : ◌≡◌ {A = ℕ} 0 1 = cc in absurd (omega arith)
opened_told_once (Err r) (Ok o) same = let z : ◌≡◌ {A = ℕ} 0 1 = cc in absurd (omega arith)
opened_told_once (Err r) (Err s) same =
    let numbers : number r ≡ number s = cc in ap (λ q. Err q) (number_once r s numbers)

-- and so does an answer of later lines
pub lines_told_once : (x y : Result ℕ RefusedAt) → lines_told x ≡ lines_told y → x ≡ y
unfolding lines_told
lines_told_once (Ok m) (Ok n) same = let next : m ≡ n = cc in ap (λ q. Ok q) next
lines_told_once (Ok m) (Err e) same = let z : ◌≡◌ {A = ℕ} 0 1 = cc in absurd (omega arith)
lines_told_once (Err e) (Ok m) same = let z : ◌≡◌ {A = ℕ} 0 1 = cc in absurd (omega arith)
lines_told_once (Err e) (Err f) same =
    let numbers : number e.refusal ≡ number f.refusal = cc in
    let line : e.line ≡ f.line = cc in
    ap (λ q. Err q) (refused_once e f numbers line)
