-- Laws of judging lines: what the first of some lines comes to, by its bytes and the number that they meet; and back,
-- what holds of it where the lines are accepted, and with which numbers and lines they are refused; and lines that are read
-- alike are judged alike. Assumes nothing.
use Rattle.std.proofs.Common.{ℕ, ◌+◌, ◌≤◌, ◌≡◌, refl, ap, Bool, true, false, List, [], ◌∷◌, map, arith, eqb}
use Rattle.std.proofs.Common.{eqb-true}
use Rattle.std.proofs.lemmas.Bool.{eqb-false}
use Rattle.std.proofs.Math.Option.{Option, none, some}
use Rattle.lines.specs.Line.{choose, Raw}
use Rattle.lines.specs.Judging.{Judged, accepted, refused, Judging, at_end, at_line, judged_from}

module _ {S A : Type 0} (j : Judging S A) (s : S) (k : ℕ) where
  -- no line left: the text ends early, or says what it says
  pub ends_early : j.whole s ≡ none → judged_from j s k [] ≡ refused 2 k
  unfolding judged_from at_end
  ends_early e = rw e

  pub ends_whole : {a : A} → j.whole s ≡ some a → judged_from j s k [] ≡ accepted a
  unfolding judged_from at_end
  ends_whole e = rw e

  module _ (l : Raw) (ls : List Raw) where
    -- what is no line fails
    pub no_line_fails : j.reads l ≡ none → judged_from j s k (l ∷ ls) ≡ refused 1 k
    unfolding judged_from at_line
    no_line_fails e = rw e

    -- a line that meets a number fails
    pub line_fails : {bs : List ℕ} → j.reads l ≡ some bs → {n : ℕ} → j.number s bs ≡ n → eqb n 0 ≡ false
        → judged_from j s k (l ∷ ls) ≡ refused n k
    unfolding judged_from at_line
    line_fails e m z = rw (e, m, z)

    -- one that meets none is taken in
    pub line_taken : {bs : List ℕ} → j.reads l ≡ some bs → j.number s bs ≡ 0
        → judged_from j s k (l ∷ ls) ≡ judged_from j (j.behind s bs) (k + 1) ls
    unfolding judged_from at_line
    line_taken e z = rw (e, z)

  -- where lines are accepted none is left and the text is whole, or the first is taken in
  pub accepted_whole : {a : A} → judged_from j s k [] ≡ accepted a → j.whole s ≡ some a
  unfolding judged_from at_end
  accepted_whole {a} e = go (j.whole s) e
    where
      go : (w : Option A) → at_end k w ≡ accepted a → w ≡ some a
      go none e = let z : ◌≡◌ {A = ℕ} 0 1 = cc in absurd (omega arith)
      go (some b) e = cc

  abbrev on : List Raw → List ℕ → Judged A
  on ls bs = judged_from j (j.behind s bs) (k + 1) ls

  pub record TakenIn (l : Raw) (ls : List Raw) (a : A) : Type 0 where
    pub bytes : List ℕ
    pub framed : j.reads l ≡ some bytes
    pub none_met : j.number s bytes ≡ 0
    pub then : on ls bytes ≡ accepted a

  pub accepted_line : (l : Raw) (ls : List Raw) {a : A} → judged_from j s k (l ∷ ls) ≡ accepted a → TakenIn l ls a
  unfolding judged_from at_line
  accepted_line l ls {a} e = by_frame (j.reads l) refl e
    where
      by_test : (bs : List ℕ) → j.reads l ≡ some bs → (b : Bool) → eqb (j.number s bs) 0 ≡ b
          → choose b (on ls bs) (refused (j.number s bs) k) ≡ accepted a → TakenIn l ls a
      by_test bs f true z e = record { bytes = bs; framed = f; none_met = eqb-true (j.number s bs) 0 z; then = e }
      by_test bs f false z e = let z : ◌≡◌ {A = ℕ} 0 1 = cc in absurd (omega arith)

      by_frame : (o : Option (List ℕ)) → j.reads l ≡ o → at_line k (j.number s) (on ls) o ≡ accepted a
          → TakenIn l ls a
      by_frame none f e = let z : ◌≡◌ {A = ℕ} 0 1 = cc in absurd (omega arith)
      by_frame (some bs) f e = by_test bs f (eqb (j.number s bs) 0) refl e

-- lines that are read alike are judged alike
read_alike : {A : Type 0} (k : ℕ) (number : List ℕ → ℕ) (f g : List ℕ → Judged A) → ((bs : List ℕ) → f bs ≡ g bs)
    → (o : Option (List ℕ)) → at_line k number f o ≡ at_line k number g o
unfolding at_line
read_alike k number f g same none = refl
read_alike {A} k number f g same (some bs) =
    ap (λ (r : Judged A). choose (eqb (number bs) 0) r (refused (number bs) k)) (same bs)

pub judged_alike : {S A : Type 0} (j : Judging S A) (ls ms : List Raw) → map j.reads ls ≡ map j.reads ms
    → (s : S) (k : ℕ) → judged_from j s k ls ≡ judged_from j s k ms
unfolding judged_from
judged_alike j [] [] e s k = refl
judged_alike j [] (m ∷ ms) e s k = let z : ◌≡◌ {A = ℕ} 0 1 = cc in absurd (omega arith)
judged_alike j (l ∷ ls) [] e s k = let z : ◌≡◌ {A = ℕ} 0 1 = cc in absurd (omega arith)
judged_alike j (l ∷ ls) (m ∷ ms) e s k =
    let first : j.reads l ≡ j.reads m = cc in
    let rest : map j.reads ls ≡ map j.reads ms = cc in
    rw first
    (read_alike k (j.number s) _ _ (λ bs. judged_alike j ls ms rest (j.behind s bs) (k + 1)) (j.reads m))

-- lines are refused with a number that a line meets, 1 or 2 among them, and a line from the first of them on
module _ {S A : Type 0} (j : Judging S A) (most : ℕ) (two : 2 ≤ most)
    (few : (s : S) (bs : List ℕ) → j.number s bs ≤ most) (n k : ℕ) where
  abbrev OfLine : ℕ → Type 0
  OfLine i = (1 ≤ n) × (n ≤ most) × (i ≤ k)

  refused_at : (v i : ℕ) → 1 ≤ v → v ≤ most → ◌≡◌ {A = Judged A} (refused v i) (refused n k) → OfLine i
  refused_at v i l m e =
      let is : v ≡ n = cc in
      let at : i ≡ k = cc in
      (omega arith, omega arith, omega arith)

  ended_at : (i : ℕ) (w : Option A) → at_end i w ≡ refused n k → OfLine i
  unfolding at_end
  ended_at i none e = refused_at 2 i (omega arith) two e
  ended_at i (some a) e = let z : ◌≡◌ {A = ℕ} 0 1 = cc in absurd (omega arith)

  tested_at : (i v : ℕ) → v ≤ most → (r : Judged A) → (r ≡ refused n k → OfLine (i + 1)) → (b : Bool) → eqb v 0 ≡ b
      → choose b r (refused v i) ≡ refused n k → OfLine i
  tested_at i v m r on true z e = let o = on e in (omega arith, omega arith, omega arith)
  tested_at i v m r on false z e = let other = eqb-false v 0 z in refused_at v i (omega arith) m e

  line_at : (i : ℕ) (s : S) (behind : List ℕ → Judged A)
      → ((bs : List ℕ) → behind bs ≡ refused n k → OfLine (i + 1)) → (o : Option (List ℕ))
      → at_line i (j.number s) behind o ≡ refused n k → OfLine i
  unfolding at_line
  line_at i s behind on none e = refused_at 1 i (omega arith) (omega arith) e
  line_at i s behind on (some bs) e =
      tested_at i (j.number s bs) (few s bs) (behind bs) (on bs) (eqb (j.number s bs) 0) refl e

  pub refused_line : (s : S) (i : ℕ) (ls : List Raw) → judged_from j s i ls ≡ refused n k → OfLine i
  unfolding judged_from
  refused_line s i [] e = ended_at i (j.whole s) e
  refused_line s i (l ∷ ls) e = line_at i s _ (λ bs. refused_line (j.behind s bs) (i + 1) ls) (j.reads l) e
