-- What is known of a frame that meets no refusal: each of the tests in front of 0 failed. Assumes nothing.
use Rattle.std.proofs.Common.{ℕ, suc, ◌+◌, ◌≤◌, ◌<◌, ◌≡◌, refl, Bool, true, false, ◌||◌, arith, eqb}
use Rattle.std.proofs.Common.{leb-false, ltb-false, eqb-true}
use Rattle.std.proofs.lemmas.Bool.{eqb-false, not-false}
use Rattle.lines.specs.Line.{choose}
use Rattle.kinds.specs.Kind.{prefix}
use Rattle.frames.specs.TableFrame.{limit, longest, refusal}
use Rattle.frames.specs.declared.Frame.TheVariants.{Definition, Term, Closing}
use Rattle.frames.specs.declared.Seen.{Seen}

-- a test whose number was not given failed, and the tests behind it decide
passed : (b : Bool) (n r : ℕ) → choose b (suc n) r ≡ 0 → (b ≡ false) × (r ≡ 0)
passed true n r e = absurd (omega arith)
passed false n r e = (refl, e)

neither : (a b : Bool) → (a || b) ≡ false → (a ≡ false) × (b ≡ false)
neither true true e = let z : ◌≡◌ {A = ℕ} 0 1 = cc in absurd (omega arith)
neither true false e = let z : ◌≡◌ {A = ℕ} 0 1 = cc in absurd (omega arith)
neither false b e = (refl, e)

positive : (n : ℕ) → (n ≡ 0 → ⊥) → 0 < n
positive n h = omega arith

pub record FineTerm (k p : ℕ) (s : Seen) : Type 0 where
  pub begun : 0 < s.begun
  pub in_range : p < limit s k
  pub wanted : 0 < s.due
  pub room : s.terms < 1024
  pub short : longest s k ≤ 64

longest_above : (s : Seen) (k : ℕ) → s.depth ≤ longest s k
unfolding longest
longest_above s k = go (eqb k prefix)
  where
    go : (b : Bool) → s.depth ≤ choose b (s.depth + 1) s.depth
    go true = omega arith
    go false = omega arith

module _ (s : Seen) where
  pub fine_term : (k p : ℕ) → refusal (Term k p) s ≡ 0 → FineTerm k p s
  unfolding refusal
  fine_term k p e =
      let a = passed _ 1 _ e in
      let b = passed _ 2 _ a.1 in
      let c = passed _ 3 _ b.1 in
      let d = passed _ 4 _ c.1 in
      let f = neither _ _ d.0 in
      record {
        begun = positive _ (eqb-false _ 0 a.0);
        in_range = leb-false _ _ b.0;
        wanted = positive _ (eqb-false _ 0 c.0);
        room = leb-false _ _ f.0;
        short = ltb-false _ _ f.1;
      }

  pub depth_fits : (k p : ℕ) → FineTerm k p s → s.depth ≤ 64
  depth_fits k p f = omega (arith, longest_above s k, f.short)

  pub fine_definition : (n : ℕ) → refusal (Definition n) s ≡ 0
      → (n ≡ s.begun) × (n < s.definitions) × (s.due ≡ 0)
  unfolding refusal
  fine_definition n e =
      let a = passed _ 2 _ e in
      let b = passed _ 3 _ a.1 in
      let f = neither _ _ a.0 in
      (eqb-true _ _ (not-false _ f.0), leb-false _ _ f.1, eqb-true _ _ (not-false _ b.0))

  pub fine_closing : (t : ℕ) → refusal (Closing t) s ≡ 0
      → (t ≡ s.terms) × (s.due ≡ 0) × (s.definitions ≤ s.begun)
  unfolding refusal
  fine_closing t e =
      let a = passed _ 2 _ e in
      let b = passed _ 3 _ a.1 in
      let f = neither _ _ b.0 in
      (eqb-true _ _ (not-false _ a.0), eqb-true _ _ (not-false _ f.0), ltb-false _ _ f.1)
