-- What a line's bytes meet where the last line or line 1 is due: 2 where they do not form the frame that is due, and then what
-- their numbers meet. So bytes that meet no refusal are the frame that is due. Assumes nothing.
use Rattle.std.specs.Prelude.{ℕ, ◌+◌, Bool, true, false, List, get_or, ◌≡◌, refl}
use Rattle.std.proofs.Common.{arith}
use Rattle.lines.specs.Line.{choose, number_at}
use Rattle.graphs.specs.Saved.{arc_code, meeting_code}
use Rattle.graphs.specs.Parsed.{Frame, opening, node, arc, meeting, last, wrong, pair_at, place_at, formed}
use Rattle.graphs.specs.Parsed.{frame_of, the_last, refusal, first_refusal}
use Rattle.graphs.proofs.FrameBytes.{formed_parts}

-- one of two frames: what both meet, where the test lets them
by_test : (r : Frame → ℕ) (k : ℕ) (b : Bool) {f g : Frame} → (b ≡ true → r f ≡ k) → r g ≡ k
    → r (choose b f g) ≡ k
by_test r k true p q = p refl
by_test r k false p q = q

-- a test that does not hold
pub fails : {A : Type 0} {b : Bool} → b ≡ false → b ≡ true → A
fails e q = let z : ◌≡◌ {A = ℕ} 0 1 = cc in absurd (omega arith)

-- a line's bytes
module _ (bs : List ℕ) where
  -- the frame that is formed as the one that is due
  pub last_is : formed 0x3f 1 bs ≡ true → frame_of bs ≡ last
  unfolding frame_of
  last_is e = let p = formed_parts 0x3f 1 bs e in rw (p.0, p.1)

  pub opening_is : formed 0x30 8 bs ≡ true
      → frame_of bs ≡ opening (get_or bs 1 0) (number_at 2 bs) (number_at 4 bs) (number_at 6 bs)
  unfolding frame_of
  opening_is e = let p = formed_parts 0x30 8 bs e in rw (p.0, p.1)

  -- a frame meets what each kind that it can be meets
  pub meets : (r : Frame → ℕ) (k : ℕ)
      → (formed 0x31 (5 + get_or bs 4 0) bs ≡ true → r (node (number_at 1 bs) (place_at bs)) ≡ k)
      → (formed arc_code 5 bs ≡ true → r (arc (pair_at bs)) ≡ k)
      → (formed meeting_code 5 bs ≡ true → r (meeting (pair_at bs)) ≡ k)
      → (formed 0x3f 1 bs ≡ true → r last ≡ k)
      → (formed 0x30 8 bs ≡ true
      → r (opening (get_or bs 1 0) (number_at 2 bs) (number_at 4 bs) (number_at 6 bs)) ≡ k)
      → r wrong ≡ k → r (frame_of bs) ≡ k
  unfolding frame_of
  meets r k p q s t u w =
      by_test r k (formed 0x31 (5 + get_or bs 4 0) bs) p
      (by_test r k (formed arc_code 5 bs) q
      (by_test r k (formed meeting_code 5 bs) s
      (by_test r k (formed 0x3f 1 bs) t (by_test r k (formed 0x30 8 bs) u w))))

  -- and 2 where it is not the one that is due
  module _ (d n : ℕ) where
    pub no_last : formed 0x3f 1 bs ≡ false → refusal d n the_last (frame_of bs) ≡ 2
    unfolding refusal
    no_last e = meets (refusal d n the_last) 2 (λ q. refl) (λ q. refl) (λ q. refl) (fails e) (λ q. refl) refl

    -- what meets no refusal is the last line
    pub last_due : refusal d n the_last (frame_of bs) ≡ 0 → frame_of bs ≡ last
    last_due z = go (formed 0x3f 1 bs) refl
      where
        go : (b : Bool) → formed 0x3f 1 bs ≡ b → frame_of bs ≡ last
        go true e = last_is e
        go false e = absurd (omega (arith, no_last e, z))

  pub no_opening : formed 0x30 8 bs ≡ false → first_refusal (frame_of bs) ≡ 2
  unfolding first_refusal
  no_opening e = meets first_refusal 2 (λ q. refl) (λ q. refl) (λ q. refl) (λ q. refl) (fails e) refl
