-- What a term's turn leaves in a plan. Of the words that it puts three are the term's own and the others
-- fourth words, of its subterms: so each is what was put there, and every other word stays. Assumes nothing.
use Rattle.std.proofs.Common.{ℕ, zero, suc, ◌+◌, ◌*◌, ◌<◌, ◌≡◌, refl, sym, ap, ◌∙◌, Bool, true, false, List}
use Rattle.std.proofs.Common.{arith, length, get_or, set, length-set, get_or-set_same, get_or-set_other, ltb}
use Rattle.std.proofs.lemmas.List.{length-replicate}
use Rattle.lines.specs.Line.{choose}
use Rattle.frames.specs.TableFrame.{term_room}
use Rattle.kinds.specs.Kind.{subterms}
use Rattle.plans.specs.words.Plan.{around}
use Rattle.plans.specs.code.Laid.{put, own_words, through, inward, told, laid, turns}
use Rattle.plans.proofs.Laid.{put_in}

-- a plan's word number p
abbrev pub at : List ℕ → ℕ → ℕ
at w p = get_or w p 0

-- a word put
module _ (k t v : ℕ) (w : List ℕ) where
  put_length : length (put k t v w) ≡ length w
  unfolding put
  put_length = go (ltb t term_room)
    where
      go : (b : Bool) → length (choose b (set w (4 * t + k) v) w) ≡ length w
      go true = length-set w (4 * t + k) v
      go false = refl

  put_same : t < term_room → 4 * t + k < length w → at (put k t v w) (4 * t + k) ≡ v
  put_same room long =
      ap (λ (l : List ℕ). at l (4 * t + k)) (sym (put_in k t v w room)) ∙ get_or-set_same w (4 * t + k) v 0 long

  pub put_other : (p : ℕ) → (p ≡ 4 * t + k → ⊥) → at (put k t v w) p ≡ at w p
  unfolding put
  put_other p away = go (ltb t term_room)
    where
      go : (b : Bool) → at (choose b (set w (4 * t + k) v) w) p ≡ at w p
      go true = get_or-set_other w (4 * t + k) p v 0 away
      go false = refl

-- what the subterms are told
module _ (j a s b : ℕ) (w : List ℕ) where
  told_length : (n : ℕ) → length (told n j a s b w) ≡ length w
  unfolding told
  told_length zero = refl
  told_length (suc zero) = put_length 3 j a w
  told_length (suc (suc n)) = put_length 3 s b (put 3 j a w) ∙ put_length 3 j a w

  told_keeps : (n p : ℕ) → (0 < n → p ≡ 4 * j + 3 → ⊥) → (1 < n → p ≡ 4 * s + 3 → ⊥)
      → at (told n j a s b w) p ≡ at w p
  unfolding told
  told_keeps zero p first second = refl
  told_keeps (suc zero) p first second = put_other 3 j a w p (first (omega arith))
  told_keeps (suc (suc n)) p first second =
      put_other 3 s b (put 3 j a w) p (second (omega arith)) ∙ put_other 3 j a w p (first (omega arith))

  told_first : (n : ℕ) → 0 < n → (s ≡ j → ⊥) → j < term_room → length w ≡ 4096
      → at (told n j a s b w) (4 * j + 3) ≡ a
  unfolding told
  told_first zero some away room long = absurd (omega arith)
  told_first (suc zero) some away room long = put_same 3 j a w room (omega arith)
  told_first (suc (suc n)) some away room long =
      put_other 3 s b (put 3 j a w) (4 * j + 3) (λ e. away (omega arith))
      ∙ put_same 3 j a w room (omega arith)

  told_second : (n : ℕ) → 1 < n → s < term_room → length w ≡ 4096 → at (told n j a s b w) (4 * s + 3) ≡ b
  unfolding told
  told_second zero more room long = absurd (omega arith)
  told_second (suc zero) more room long = absurd (omega arith)
  told_second (suc (suc n)) more room long =
      put_same 3 s b (put 3 j a w) room (omega (arith, put_length 3 j a w))

-- a term's turn
module _ (k v s i : ℕ) (w : List ℕ) where
  own_length : length (own_words k v s i w) ≡ length w
  unfolding own_words
  own_length = put_length 2 i s _ ∙ put_length 1 i v _ ∙ put_length 0 i k w

  laid_length : length (laid k v s i w) ≡ length w
  unfolding laid
  laid_length = told_length (suc i) _ s _ _ (subterms k) ∙ own_length

  pub laid_keeps : (p : ℕ) → ((x : ℕ) → x < 3 → p ≡ 4 * i + x → ⊥)
      → (0 < subterms k → p ≡ 4 * suc i + 3 → ⊥) → (1 < subterms k → p ≡ 4 * s + 3 → ⊥)
      → at (laid k v s i w) p ≡ at w p
  unfolding laid own_words
  laid_keeps p away first second =
      told_keeps (suc i) _ s _ _ (subterms k) p first second
      ∙ put_other 2 i s _ p (away 2 (omega arith)) ∙ put_other 1 i v _ p (away 1 (omega arith))
      ∙ put_other 0 i k w p (away 0 (omega arith))

  module _ (room : i < term_room) (long : length w ≡ 4096) where
    -- the term's own three words
    untold : (x : ℕ) → x < 3 → at (laid k v s i w) (4 * i + x) ≡ at (own_words k v s i w) (4 * i + x)
    unfolding laid
    untold x low = told_keeps (suc i) _ s _ _ (subterms k) _ (λ n e. omega arith) (λ n e. omega arith)

    pub laid_kind : at (laid k v s i w) (4 * i + 0) ≡ k
    unfolding own_words
    laid_kind =
        untold 0 (omega arith) ∙ put_other 2 i s _ _ (λ e. omega arith)
        ∙ put_other 1 i v _ _ (λ e. omega arith) ∙ put_same 0 i k w room (omega arith)

    pub laid_operand : at (laid k v s i w) (4 * i + 1) ≡ v
    unfolding own_words
    laid_operand =
        untold 1 (omega arith) ∙ put_other 2 i s _ _ (λ e. omega arith)
        ∙ put_same 1 i v _ room (omega (arith, put_length 0 i k w))

    pub laid_second : at (laid k v s i w) (4 * i + 2) ≡ s
    unfolding own_words
    laid_second =
        untold 2 (omega arith)
        ∙ put_same 2 i s _ room (omega (arith, put_length 0 i k w, put_length 1 i v (put 0 i k w)))

    -- what its subterms are told
    pub first_told : 0 < subterms k → (s ≡ suc i → ⊥) → suc i < term_room
        → at (laid k v s i w) (4 * suc i + 3) ≡ inward k i (around w i)
    unfolding laid
    first_told any away inside = told_first (suc i) _ s _ _ (subterms k) any away inside (own_length ∙ long)

    pub second_told : 1 < subterms k → s < term_room
        → at (laid k v s i w) (4 * s + 3) ≡ through k (around w i)
    unfolding laid
    second_told more inside = told_second (suc i) _ s _ _ (subterms k) more inside (own_length ∙ long)

pub turns_length : (n : ℕ) (ks ps xs rs : List ℕ) → length (turns n ks ps xs rs) ≡ 4096
unfolding turns
turns_length zero ks ps xs rs = length-replicate {A = ℕ} 4096 0
turns_length (suc i) ks ps xs rs = laid_length _ _ _ i _ ∙ turns_length i ks ps xs rs
