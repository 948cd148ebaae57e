-- What a term's word is where there is such a term and where there is none. Assumes nothing.
use Rattle.std.proofs.Common.{ℕ, ◌+◌, ◌*◌, ◌≤◌, ◌<◌, ◌≡◌, List, get_or, lt-ltb, le-ltb}
use Rattle.frames.specs.TableFrame.{term_room}
use Rattle.plans.specs.words.Plan.{word}

module _ (k : ℕ) (w : List ℕ) (t : ℕ) where
  pub word_in : t < term_room → get_or w (4 * t + k) 0 ≡ word k w t
  unfolding word
  word_in h = simp (lt-ltb t term_room h)

  pub word_out : term_room ≤ t → 0 ≡ word k w t
  unfolding word
  word_out h = simp (le-ltb t term_room h)
