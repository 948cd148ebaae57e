-- Where an input's table ends: within the input, and for the first n bytes of it at the same place or at n.
-- Lines are counted byte by byte: a byte that is no LF makes the first line one longer, an LF ends a line, and
-- the text's first two bytes tell whether the first line starts `1f` or `1F`. Assumes nothing.
use Rattle.std.proofs.Common.{◌≡◌, refl, sym, ap, ◌∙◌, cond, not, Some, None, ℕ, zero, suc, ◌+◌, ◌-◌, ◌≤◌}
use Rattle.std.proofs.Common.{◌<◌, min, Bool, true, false, ◌||◌, List, [], ◌∷◌, arith, length, take, drop}
use Rattle.std.proofs.Common.{get_or, length-drop, drop_of_length-le, eqb, ltb, take_all, drop-drop}
use Rattle.std.proofs.Common.{drop-cons, eqb-true, ltb-true, ltb-false}
use Rattle.std.specs.List.{position, position_or_len}
use Rattle.std.proofs.Math.Seq.{take-nil, take-length}
use Rattle.lines.specs.Line.{choose, LF, Raw, full, open_ended, before, lines, characters}
use Rattle.inputs.specs.Cut.{one, f, capital_f, starts_1f, extent, table_length}
use Rattle.inputs.specs.code.Lengths.{line_length}

-- the characters of the first of some lines
first : List Raw → List ℕ
first [] = []
first (l ∷ ls) = characters l

first_before : (c : ℕ) (ls : List Raw) → first (before c ls) ≡ c ∷ first ls
unfolding first before characters
first_before c [] = refl
first_before c (full cs ∷ ls) = refl
first_before c (open_ended cs ∷ ls) = refl

-- whether the first line starts `1f` is told by the text's first two bytes
starts_first : (t : List ℕ) → starts_1f (first (lines t)) ≡ starts_1f t
unfolding first lines before characters starts_1f
starts_first [] = refl
starts_first (c ∷ []) = go (eqb c LF) refl
  where
    go : (b : Bool) → eqb c LF ≡ b → starts_1f (first (lines (c ∷ []))) ≡ false
    go true e = simp e
    go false e = simp e
starts_first (c ∷ d ∷ t) = go (eqb c LF) (eqb d LF) refl refl
  where
    neither : (b : Bool) → false ≡ choose b false false
    neither true = refl
    neither false = refl

    go : (p q : Bool) → eqb c LF ≡ p → eqb d LF ≡ q
        → starts_1f (first (lines (c ∷ d ∷ t))) ≡ choose (eqb c one) (eqb d f || eqb d capital_f) false
    go true q e₁ e₂ = simp e₁ (rw (eqb-true c LF e₁))
    go false true e₁ e₂ = simp (e₁, e₂) (rw (eqb-true d LF e₂) (neither (eqb c one)))
    go false false e₁ e₂ = simp (e₁, e₂, first_before)

-- how many bytes some lines are: the first alone, or also those behind it, through the first that starts `1f`
through : Bool → List Raw → ℕ
through alone [] = 0
through alone (l ∷ ls) = choose alone (extent l) (extent l + table_length ls)

-- the table's text ends with the first line exactly where the text starts `1f`
table_through : (t : List ℕ) → table_length (lines t) ≡ through (starts_1f t) (lines t)
unfolding first through table_length
table_through t = go (lines t) ∙ ap (λ (b : Bool). through b (lines t)) (starts_first t)
  where
    go : (ls : List Raw) → table_length ls ≡ through (starts_1f (first ls)) ls
    go [] = refl
    go (l ∷ ls) = refl

-- a byte in front makes the first line one longer
through_before : (b : Bool) (c : ℕ) (ls : List Raw) → through b (before c ls) ≡ suc (through b ls)
unfolding through before extent table_length
through_before true c [] = refl
through_before true c (full cs ∷ ls) = omega arith
through_before true c (open_ended cs ∷ ls) = refl
through_before false c [] = refl
through_before false c (full cs ∷ ls) = omega arith
through_before false c (open_ended cs ∷ ls) = omega arith

-- what `line_length` counts is the first line, and the lines behind it are those of what is left
abbrev Counted : List ℕ → Type 0
Counted t =
    (b : Bool)
    → through b (lines t) ≡ line_length t + choose b 0 (table_length (lines (drop (line_length t) t)))

line_counted : (t : List ℕ) → Counted t
unfolding through lines extent line_length table_length
line_counted [] true = refl
line_counted [] false = refl
line_counted (c ∷ t) b = go (eqb c LF) refl (line_counted t) b
  where
    go : (p : Bool) → eqb c LF ≡ p → Counted t → Counted (c ∷ t)
    go true e further true = simp e
    go true e further false = simp e
    go false e further b = simp (e, through_before) (omega (arith, further b))

-- where the first two bytes are cut, their line is cut too, whatever it starts with
starts_cut : (n : ℕ) (t : List ℕ)
    → min n (through (starts_1f (take n t)) (lines t)) ≡ min n (through (starts_1f t) (lines t))
unfolding starts_1f line_length
starts_cut zero t = omega arith
starts_cut (suc n) [] = refl
starts_cut (suc n) (c ∷ []) = rw (take-nil {A = ℕ} n)
starts_cut (suc zero) (c ∷ d ∷ t) =
    let counted = line_counted (c ∷ d ∷ t) in
    omega (arith, counted false, counted (starts_1f (c ∷ d ∷ t)))
starts_cut (suc (suc n)) (c ∷ d ∷ t) = refl

-- the first n bytes of a text keep of its lines what is in front of n
abbrev Kept : ℕ → List ℕ → Type 0
Kept n t = (b : Bool) → through b (lines (take n t)) ≡ min n (through b (lines t))

-- and then of its table
table_kept : (n : ℕ) (t : List ℕ) → Kept n t
    → table_length (lines (take n t)) ≡ min n (table_length (lines t))
table_kept n t kept =
    let cut = kept (starts_1f (take n t)) ∙ starts_cut n t in
    table_through (take n t) ∙ cut ∙ ap (min n) (sym (table_through t))

lines_kept : (n : ℕ) (t : List ℕ) → Kept n t
unfolding through lines extent
lines_kept zero t b = omega arith
lines_kept (suc n) [] b = omega arith
lines_kept (suc n) (c ∷ t) b = go (eqb c LF) refl (lines_kept n t) b
  where
    go : (p : Bool) → eqb c LF ≡ p → Kept n t → Kept (suc n) (c ∷ t)
    go true e kept true = simp e (omega arith)
    go true e kept false = simp e (omega (arith, table_kept n t kept))
    go false e kept b = simp (e, through_before) (omega (arith, kept b))

-- the first n bytes of an input cut its table where the whole input does, or at n
pub cut_front : (n : ℕ) (t : List ℕ) → table_length (lines (take n t)) ≡ min n (table_length (lines t))
cut_front n t = table_kept n t (lines_kept n t)

-- lines are no more bytes than their text
through_within : (b : Bool) (t : List ℕ) → through b (lines t) ≤ length t
through_within b t =
    let whole : through b (lines t) ≡ min (length t) (through b (lines t)) =
    rw (take-length t) at (lines_kept (length t) t b) in
    omega arith

-- the table's text is within the input
pub table_within : (t : List ℕ) → table_length (lines t) ≤ length t
table_within t = rw (table_through t) (through_within (starts_1f t) t)

-- the rest of a text from a place on, as a loop lends it
module _ (t : List ℕ) (at : ℕ) where
  abbrev rest : List ℕ
  rest = take (length t - at) (drop at t)

  rest_is : rest ≡ drop at t
  rest_is = take_all (length t - at) (drop at t) (omega (arith, length-drop at t))

  -- its first line is not empty, and ends within the text
  pub next_within : at < length t → (0 < line_length rest) × (at + line_length rest ≤ length t)
  unfolding line_length
  next_within h =
      let within = through_within true (drop at t) in
      let left = length-drop at t in
      rw rest_is
      (rw (drop-cons t at 0 h) (omega arith), omega (arith, line_counted (drop at t) true))

  -- its table ends with its first line where that starts `1f`
  pub table_here : starts_1f rest ≡ true → at + table_length (lines (drop at t)) ≡ at + line_length rest
  table_here e =
      let starts : starts_1f (drop at t) ≡ true = rw rest_is at e in
      rw (rest_is, table_through (drop at t), starts) (omega (arith, line_counted (drop at t) true))

  -- and else where the table behind that line does
  pub table_behind : starts_1f rest ≡ false → at + table_length (lines (drop at t))
      ≡ at + line_length rest + table_length (lines (drop (at + line_length rest) t))
  table_behind e =
      let starts : starts_1f (drop at t) ≡ false = rw rest_is at e in
      rw (rest_is, ← drop-drop (line_length (drop at t)) at t, table_through (drop at t), starts)
      (omega (arith, line_counted (drop at t) false))

  -- at the end of the text there is none
  pub table_over : length t ≤ at → table_length (lines (drop at t)) ≡ 0
  unfolding lines table_length
  table_over h = rw (drop_of_length-le t h)

-- a text's first line ends with its first LF, or with the text
abbrev is_feed : ℕ → Bool
is_feed c = eqb c LF

line_to_feed : (t : List ℕ) → position_or_len is_feed t < length t → position_or_len is_feed t + 1 ≡ line_length t
unfolding line_length
line_to_feed [] h = absurd (omega arith)
line_to_feed (c ∷ t) h = go (eqb c LF) (line_to_feed t) h
  where
    go : (b : Bool) → (position_or_len is_feed t < length t → position_or_len is_feed t + 1 ≡ line_length t)
        → cond (not b) (1 + position_or_len is_feed t) 0 < length (c ∷ t)
        → cond (not b) (1 + position_or_len is_feed t) 0 + 1 ≡ suc (choose b 0 (line_length t))
    go true further h = refl
    go false further h = omega (arith, further)

line_to_end : (t : List ℕ) → length t ≤ position_or_len is_feed t → length t ≡ line_length t
unfolding line_length
line_to_end [] h = refl
line_to_end (c ∷ t) h = go (eqb c LF) (line_to_end t) h
  where
    go : (b : Bool) → (length t ≤ position_or_len is_feed t → length t ≡ line_length t)
        → length (c ∷ t) ≤ cond (not b) (1 + position_or_len is_feed t) 0 → length (c ∷ t) ≡ suc (choose b 0 (line_length t))
    go true further h = absurd (omega arith)
    go false further h = omega (arith, further)

module _ (t : List ℕ) where
  pub line_found : (k : ℕ) → Some k ≡ position is_feed t → k + 1 ≡ line_length t
  line_found k e = go (ltb (position_or_len is_feed t) (length t)) refl e
    where
      go : (b : Bool) → ltb (position_or_len is_feed t) (length t) ≡ b → Some k ≡ cond b (Some (position_or_len is_feed t)) None
          → k + 1 ≡ line_length t
      go true q e = let n : k ≡ position_or_len is_feed t = cc in rw n (line_to_feed t (ltb-true _ (length t) q))
      go false q e = cc

  pub line_unended : None ≡ position is_feed t → length t ≡ line_length t
  line_unended e = go (ltb (position_or_len is_feed t) (length t)) refl e
    where
      go : (b : Bool) → ltb (position_or_len is_feed t) (length t) ≡ b → None ≡ cond b (Some (position_or_len is_feed t)) None
          → length t ≡ line_length t
      go true q e = cc
      go false q e = line_to_end t (ltb-false _ (length t) q)

-- a text of less than two bytes does not start `1f`; of any other its first two bytes tell
pub starts_short : (t : List ℕ) → length t < 2 → false ≡ starts_1f t
unfolding starts_1f
starts_short [] h = refl
starts_short (c ∷ []) h = refl
starts_short (c ∷ d ∷ t) h = absurd (omega arith)

pub starts_told : (t : List ℕ) → 2 ≤ length t → choose (eqb (get_or t 0 0) one) (eqb (get_or t 1 0) f || eqb (get_or t 1 0) capital_f) false ≡ starts_1f t
unfolding starts_1f
starts_told [] h = absurd (omega arith)
starts_told (c ∷ []) h = absurd (omega arith)
starts_told (c ∷ d ∷ t) h = refl
