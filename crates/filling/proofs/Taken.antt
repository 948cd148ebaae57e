-- Taking a frame in: what `owe` leaves, by how many subterms the kind has. Assumes nothing.
use Rattle.std.proofs.Common.{ℕ, ◌+◌, ◌-◌, ◌≡◌, sym, ap₂, ◌∙◌, List, arith, get_or, set, eq-eqb, ne_eqb}
use Rattle.kinds.specs.Kind.{subterms}
use Rattle.filling.specs.code.Taking.{topmost, moved, owed, pushed}
use Rattle.frames.specs.declared.Seen.{Seen}

-- no others wait, or the last of them is next
pub topmost_none : (n : ℕ) (w : List ℕ) → n ≡ 0 → 0 ≡ topmost n w
unfolding topmost
topmost_none n w h = simp (eq-eqb n 0 h)

pub topmost_last : (n : ℕ) (w : List ℕ) → (n ≡ 0 → ⊥) → get_or w (n - 1) 0 ≡ topmost n w
unfolding topmost
topmost_last n w h = simp (ne_eqb n 0 h)

module _ (k : ℕ) (s : Seen) (w : List ℕ) where
  -- a term without subterms leaves the others due
  pub owed_leaf : subterms k ≡ 0 → (p : ℕ) → p ≡ topmost (s.due - 1) w
      → moved s (s.terms + 1) (s.due - 1) p ≡ owed k s w
  unfolding owed
  owed_leaf e p q = ap₂ (moved s (s.terms + 1)) (rw e (omega arith)) (simp (eq-eqb (subterms k) 0 e) q)

  pub pushed_not : (subterms k ≡ 2 → ⊥) → w ≡ pushed k s w
  unfolding pushed
  pushed_not h = simp (ne_eqb (subterms k) 2 h)

  -- a term with subterms makes them due at one digit more
  pub owed_more : (n : ℕ) → subterms k ≡ n → (n ≡ 0 → ⊥)
      → moved s (s.terms + 1) (s.due - 1 + n) (s.depth + 1) ≡ owed k s w
  unfolding owed
  owed_more n e h = ap₂ (moved s (s.terms + 1)) (rw e) (simp (ne_eqb (subterms k) 0 (λ z. h (sym e ∙ z))))

  pub pushed_two : subterms k ≡ 2 → set w (s.due - 1) (s.depth + 1) ≡ pushed k s w
  unfolding pushed
  pushed_two e = simp (eq-eqb (subterms k) 2 e)
