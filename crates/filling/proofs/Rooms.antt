-- What is within its room where a frame that meets no refusal is taken in. Assumes nothing.
use Rattle.std.proofs.Common.{ℕ, ◌+◌, ◌≤◌, ◌<◌, ◌≡◌, sym, ap, ◌∙◌, arith}
use Rattle.frames.specs.TableFrame.{refusal}
use Rattle.frames.specs.declared.Frame.{Frame}
use Rattle.frames.specs.declared.Frame.TheVariants.{Definition, Term}
use Rattle.frames.specs.declared.Seen.{Seen}
use Rattle.refusals.proofs.Fine.{FineTerm, fine_term, depth_fits, fine_definition}
use Rattle.filling.specs.code.Taking.{Ready}

pub record TermRoom (s : Seen) : Type 0 where
  pub begun : 0 < s.begun
  pub begun_fits : s.begun ≤ 64
  pub terms_fit : s.terms < 1024
  pub wanted : 0 < s.due
  pub depth_fits : s.depth ≤ 64
  pub due_fits : s.due ≤ s.depth + 1

module _ (f : Frame) (s : Seen) (r : Ready f s) where
  pub term_room_is : (k p : ℕ) → f ≡ Term k p → TermRoom s
  term_room_is k p e =
      let t : FineTerm k p s = fine_term s k p (ap (λ (g : Frame). refusal g s) (sym e) ∙ r.fine) in
      record {
        begun = t.begun;
        begun_fits = omega (arith, r.definitions_fit, r.begun_fit);
        terms_fit = t.room;
        wanted = t.wanted;
        depth_fits = depth_fits s k p t;
        due_fits = r.due_fit;
      }

  pub definition_room_is : (n : ℕ) → f ≡ Definition n → s.begun < 64
  definition_room_is n e =
      let d = fine_definition s n (ap (λ (g : Frame). refusal g s) (sym e) ∙ r.fine) in
      omega (arith, r.definitions_fit, d.0, d.1)
