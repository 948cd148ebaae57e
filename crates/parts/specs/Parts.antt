-- The standing parts of a control. Document 01, 'Steps and addresses': a step inside a sequence is one of its left, so
-- what stands in a control is what stands inside the sequences around it.
use Rattle.std.specs.Prelude.{ℕ, Bool, true, false}
use Rattle.std.proofs.Math.Option.{Option, none, some}
use Rattle.rules.specs.Process.{Process, leaf, prefix, internal, split, sequence, Ω, ⊥'}

-- what stands in a control: of a sequence, entered or not, what stands in its left
unfoldable pub standing : Process → Process
standing (leaf v l) = leaf v l
standing (prefix v e P) = prefix v e P
standing (internal v P Q) = internal v P Q
standing (split v k m n P Q) = split v k m n P Q
standing (sequence v b P Q) = standing P
standing Ω = Ω
standing ⊥' = ⊥'

-- a step has entered a choice or parallel: one of its sides has a reference
unfoldable pub entered : Option ℕ → Option ℕ → Bool
entered none none = false
entered none (some n) = true
entered (some m) n = true
