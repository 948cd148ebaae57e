-- Where an arc leads, one law for each way that the code tells it, and the linking of the arcs from some number
-- on: a turn links one of them, and what is done, with the rest of the arcs, is the whole answer. Assumes
-- nothing.
use Rattle.std.proofs.Common.{ℕ, zero, suc, ◌+◌, ◌*◌, ◌-◌, ◌≤◌, ◌<◌, ◌≡◌, refl, sym, ◌∙◌, Bool, true, false}
use Rattle.std.proofs.Common.{◌&&◌, ◌||◌, List, ◌∷◌, Some, None, leb, ltb, eqb, arith, zero-add, add-one}
use Rattle.std.proofs.Common.{eq-eqb, ne_eqb, lt-ltb, le-ltb, le-leb}
use Rattle.std.proofs.lemmas.Bool.{lt-leb}
use Rattle.std.proofs.Math.Bool.{and-true, or-true, and_assoc}
use Rattle.std.proofs.Math.Nat.{sub-zero}
use Rattle.lines.specs.Line.{choose}
use Rattle.lines.proofs.Choosing.{choose_most}
use Rattle.frames.specs.TableFrame.{term_room}
use Rattle.columns.specs.words.Columns.{look}
use Rattle.marks.specs.words.Mark.{term_of}
use Rattle.control.specs.words.Words.{track_word}
use Rattle.rules.specs.Track.{Pair, pair}
use Rattle.control.specs.words.Views.{pairs}
use Rattle.links.specs.words.Columns.{put, at}
use Rattle.links.specs.code.Linked.{side_words, splits, side_of, slot, told, bare, free, with_arc}
use Rattle.links.specs.code.Linked.{linked, all_fit}

-- the side that a term stands in
module _ (xs : List ℕ) (t u : ℕ) where
  pub side_none : u ≤ t → 0 ≡ side_of xs t u
  unfolding side_of
  side_none h = simp (le-leb u t h)

  pub side_first : t < u → (a : ℕ) → a ≡ look term_room xs (t + 1) → u < a → 1 ≡ side_of xs t u
  unfolding side_of
  side_first h a e l = rw (← e) (simp (lt-leb u t h, lt-ltb u a l))

  pub side_behind : t < u → (a b : ℕ) → a ≡ look term_room xs (t + 1) → a ≤ u → b ≡ look term_room xs t
      → choose (ltb u b) 2 0 ≡ side_of xs t u
  unfolding side_of
  side_behind h a b e l f = rw (← e, ← f) (simp (lt-leb u t h, le-ltb u a l))

-- the side that an arc leads to
module _ (ks xs : List ℕ) (m n : ℕ) (b : Bool) (told_is : b ≡ splits ks m) where
  pub slot_whole : b ≡ false → 2 ≡ slot ks xs m n
  unfolding slot
  slot_whole h = rw (← told_is) (simp h)

  pub slot_low : b ≡ true → n < 2 → 0 ≡ slot ks xs m n
  unfolding slot
  slot_low h l = rw (← told_is) (simp (h, lt-ltb n 2 l))

  pub slot_side : b ≡ true → 2 ≤ n → (t u : ℕ) → t ≡ term_of m → u ≡ term_of n → side_of xs t u ≡ slot ks xs m n
  unfolding slot
  slot_side h l t u e f = rw (← told_is, e, f) (simp (h, le-ltb n 2 l))

-- a side that is told, or is not
pub side_told : (s x : ℕ) → told s ≡ Some x → (s ≡ x) × (s ≡ 0 → ⊥)
side_told zero x e = absurd (cc)
side_told (suc s) x e = (cc, λ z. cc)

pub none_told : (s : ℕ) → told s ≡ None → s ≡ 0
none_told zero e = refl
none_told (suc s) e = absurd (cc)

-- there are two sides
pub slot_most : (ks xs : List ℕ) (m n s : ℕ) → s ≡ slot ks xs m n → s ≤ 2
unfolding slot side_of
slot_most ks xs m n s e =
    rw e
    (choose_most 2 (splits ks m) _ _
    (choose_most 2 (ltb n 2) _ _ (omega arith)
    (choose_most 2 (leb (term_of n) (term_of m)) _ _ (omega arith)
    (choose_most 2 (ltb (term_of n) (look term_room xs (term_of m + 1))) _ _ (omega arith)
    (choose_most 2 (ltb (term_of n) (look term_room xs (term_of m))) _ _ (omega arith) (omega arith)))))
    (omega arith))

-- what linking an arc tells and leaves
abbrev pub Arc : List ℕ → List ℕ → List ℕ → List ℕ → Pair → Bool → List ℕ → Type 0
Arc ms ks xs w a r w' = (r ≡ (bare ms ks xs a || free ms ks xs w a)) × (w' ≡ with_arc ms ks xs w a)

module _ (ms ks xs w : List ℕ) (f t m n : ℕ) (from_is : m ≡ at ms f) (to_is : n ≡ at ms t) where
  -- by whether an end has no mark, and whether the side is free
  settled : (b d : Bool) → bare ms ks xs (pair f t) ≡ b → free ms ks xs w (pair f t) ≡ d
      → Arc ms ks xs w (pair f t) (b || d)
      (choose b w (choose d (put side_words w (2 * f + slot ks xs (at ms f) (at ms t)) (suc t)) w))
  unfolding with_arc
  settled b d e k = (rw (e, k), rw (e, k))

  pub bare_from : m ≡ 0 → Arc ms ks xs w (pair f t) true w
  unfolding bare
  bare_from h = settled true _ (rw (← from_is) (simp (eq-eqb m 0 h))) refl

  pub bare_to : n ≡ 0 → Arc ms ks xs w (pair f t) true w
  unfolding bare
  bare_to h = settled true _ (rw (← to_is) (simp (eq-eqb n 0 h, or-true))) refl

  module _ (from_marked : m ≡ 0 → ⊥) (to_marked : n ≡ 0 → ⊥) (s : ℕ) (side_is : s ≡ slot ks xs m n) where
    between_marks : (d : Bool) → free ms ks xs w (pair f t) ≡ d
        → Arc ms ks xs w (pair f t) d (choose d (put side_words w (2 * f + s) (t + 1)) w)
    unfolding bare
    between_marks d k =
        rw (side_is, from_is, to_is, add-one)
        (settled false d (rw (← from_is, ← to_is) (simp (ne_eqb m 0 from_marked, ne_eqb n 0 to_marked))) k)

    pub no_side : s ≡ 0 → Arc ms ks xs w (pair f t) false w
    unfolding free
    no_side h = between_marks false (rw (← from_is, ← to_is, ← side_is) (simp (eq-eqb s 0 h)))

    module _ (some_side : s ≡ 0 → ⊥) (x : ℕ) (word_is : x ≡ look side_words w (2 * f + s)) where
      free_is : free ms ks xs w (pair f t) ≡ eqb x 0
      unfolding free
      free_is = rw (← from_is, ← to_is, ← side_is, ← word_is) (simp (ne_eqb s 0 some_side))

      pub side_taken : (x ≡ 0 → ⊥) → Arc ms ks xs w (pair f t) false w
      side_taken h = between_marks false (free_is ∙ ne_eqb x 0 h)

      pub side_free : x ≡ 0 → (w' : List ℕ) → w' ≡ put side_words w (2 * f + s) (t + 1)
          → Arc ms ks xs w (pair f t) true w'
      side_free h w' e = rw e (between_marks true (free_is ∙ eq-eqb x 0 h))

-- the next of the arcs
arcs_next : (g : List ℕ) (i c : ℕ) → i < c
    → pairs 0 g i (c - i)
    ≡ pair (track_word g (2 * i)) (track_word g (2 * i + 1)) ∷ pairs 0 g (suc i) (c - suc i)
unfolding pairs
arcs_next g i c h =
    let more : c - i ≡ suc (c - suc i) = omega arith in
    rw (more, zero-add)

-- the arcs from number i on, over what is linked
module _ (ms ks xs g : List ℕ) (c : ℕ) where
  abbrev pub fit_from : List ℕ → ℕ → Bool
  fit_from w i = all_fit ms ks xs w (pairs 0 g i (c - i))

  abbrev pub linked_from : List ℕ → ℕ → List ℕ
  linked_from w i = linked ms ks xs w (pairs 0 g i (c - i))

  module _ (w w' : List ℕ) (i f t : ℕ) (r : Bool) (h : i < c) (f_is : f ≡ track_word g (2 * i))
      (t_is : t ≡ track_word g (2 * i + 1)) (one : Arc ms ks xs w (pair f t) r w') where
    pub linked_turn : linked_from w i ≡ linked_from w' (i + 1)
    unfolding linked
    linked_turn = rw (one.1, f_is, t_is, add-one i, arcs_next g i c h)

    pub fit_turn : (fits : Bool) → (fits && fit_from w i) ≡ ((fits && r) && fit_from w' (i + 1))
    unfolding all_fit
    fit_turn fits =
        rw (and_assoc fits r, arcs_next g i c h, ← f_is, ← t_is, ← one.0, ← one.1, add-one)

  -- with none left, what is linked is the whole answer
  pub linking_over : (k : ℕ) → c ≡ k → (w₀ w : List ℕ) (i : ℕ) (fits : Bool) → c ≤ i
      → fit_from w₀ 0 ≡ (fits && fit_from w i) → linked_from w₀ 0 ≡ linked_from w i
      → (fits ≡ all_fit ms ks xs w₀ (pairs 0 g 0 k)) × (w ≡ linked ms ks xs w₀ (pairs 0 g 0 k))
  unfolding pairs linked all_fit
  linking_over k e w₀ w i fits h all_fit_is linked_is =
      let none_left : c - i ≡ 0 = omega arith in (
        rw (← e) (sym (and-true fits) ∙ sym (rw (none_left, sub-zero c) at all_fit_is)),
        rw (← e) (sym (rw (none_left, sub-zero c) at linked_is)),
      )
