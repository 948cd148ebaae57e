-- What is told of blocks, by their stamps: the number of the one that is not filled, with all as it was, or what was asked for.
-- Assumes nothing.
use Rattle.std.proofs.Common.{ℕ, zero, suc, ◌≡◌, refl, sym, ◌∙◌, ap, eq-eqb, ne_eqb}
use Rattle.answers.specs.words.Blocks.{unready, unless, table_stamp, run_stamp, no_table, no_run}

pub no_table_told : (table run : ℕ) → (table ≡ table_stamp → ⊥) → no_table ≡ unready table run
unfolding unready
no_table_told table run h = rw (ne_eqb table table_stamp h)

pub no_run_told : (table run : ℕ) → table ≡ table_stamp → (run ≡ run_stamp → ⊥) → no_run ≡ unready table run
unfolding unready
no_run_told table run t h = rw (eq-eqb table table_stamp t, ne_eqb run run_stamp h)

pub filled_told : (table run : ℕ) → table ≡ table_stamp → run ≡ run_stamp → 0 ≡ unready table run
unfolding unready
filled_told table run t r = rw (eq-eqb table table_stamp t, eq-eqb run run_stamp r)

-- what is told by the number of the block that is not filled, or by 0
module _ {A : Type 0} (f : ℕ → A) (x : A) where
  by_number : (k : ℕ) → (k ≡ 0 → ⊥) → f k ≡ unless k f x
  unfolding unless
  by_number zero h = absurd (h refl)
  by_number (suc k) h = refl

  pub untouched : (k n : ℕ) → k ≡ n → (k ≡ 0 → ⊥) → f k ≡ unless n f x
  untouched k n e h = by_number k h ∙ ap (λ m. unless m f x) e

  pub filled : (k n : ℕ) → k ≡ n → k ≡ 0 → x ≡ unless n f x
  unfolding unless
  filled k n e h = ap (λ m. unless m f x) (sym h ∙ e)
