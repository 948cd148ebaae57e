-- `frames::closes` meets its contract: the pattern takes the last line's frame, and every other frame has another tag. Assumes
-- nothing.
use Rattle.std.proofs.Common.{ℕ, ◌≡◌, false, refl, sym, ap}
use Rattle.frames.specs.TableFrame.{closes}
use Rattle.frames.specs.declared.Frame.{Frame}
use Rattle.frames.specs.declared.Frame.TheVariants.{Opening, Definition, Term, Closing, Wrong}
use Rattle.frames.proofs.closes.Goals as goal

not_last : (f : Frame) → ((t : ℕ) → f ≡ Closing t → ⊥) → false ≡ closes f
unfolding closes
not_last Wrong h = refl
not_last (Opening ed dd ee) h = refl
not_last (Definition n) h = refl
not_last (Term k p) h = refl
not_last (Closing t) h = absurd (h t refl)

pub returns-in-Closing : goal.returns-in-Closing
unfolding closes
returns-in-Closing c = sym (ap closes c.in-Closing.is)

pub returns-in_default : goal.returns-in_default
returns-in_default c = not_last _ c.in_default.not-Closing
