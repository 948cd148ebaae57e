-- A line of a script by its characters: what each test of the code says of what their bytes ask. Each test is one of
-- `well_formed` or `in_range`. Assumes nothing.
use Rattle.std.proofs.Common.{ℕ, suc, ◌≤◌, ◌<◌, ◌-◌, ◌+◌, ◌/◌, ◌≡◌, sym, ap, ◌∙◌, Bool, true, false, List}
use Rattle.std.proofs.Common.{◌∷◌, arith, add-one, length, take, drop, get_or, set, length-take, length-drop}
use Rattle.std.proofs.Common.{drop_of_length-le, eqb, drop-cons, get_or-drop, le-leb, eq-eqb, ne_eqb}
use Rattle.std.proofs.lemmas.Bool.{lt-leb}
use Rattle.std.proofs.Math.Bool.{and-false}
use Rattle.std.proofs.Math.Option.{some}
use Rattle.std.proofs.lemmas.List.Edits.{sets}
use Rattle.lines.specs.Line.{number}
use Rattle.numbers.specs.code.Numbers.{read_bytes, byte_at, number_of}
use Rattle.numbers.proofs.Laws.{read_length, read_take, read_drop, number_read}
use Rattle.scripts.specs.Script.{most, digits, well_formed, all_digits, in_range, asked}
use Rattle.scripts.specs.code.Answers.{refusal}

module _ (cs : List ℕ) where
  abbrev bs : List ℕ
  bs = read_bytes cs

  -- byte number k is a digit or none, and the rest follows
  module _ (k : ℕ) where
    pub digits_end : length cs / 2 ≤ k → all_digits (drop k bs) ≡ true
    unfolding all_digits
    digits_end h =
        let e : length bs ≤ k = omega (arith, read_length cs) in
        rw (drop_of_length-le bs e)

    module _ (more : k < length cs / 2) where
      next : drop k bs ≡ byte_at cs k ∷ drop (suc k) bs
      next = drop-cons bs k 0 (omega (arith, read_length cs))

      pub digit_low : byte_at cs k < 1 → all_digits (drop k bs) ≡ false
      unfolding all_digits
      digit_low h = rw next (simp (lt-leb 1 (byte_at cs k) h))

      pub digit_high : 1 ≤ byte_at cs k → 4 < byte_at cs k → all_digits (drop k bs) ≡ false
      unfolding all_digits
      digit_high l h = rw next (simp (le-leb 1 (byte_at cs k) l, lt-leb (byte_at cs k) 4 h))

      pub digit_more : 1 ≤ byte_at cs k → byte_at cs k ≤ 4
          → all_digits (drop k bs) ≡ all_digits (drop (k + 1) bs)
      unfolding all_digits
      digit_more l h = rw (add-one, next) (simp (le-leb 1 (byte_at cs k) l, le-leb (byte_at cs k) 4 h))

  -- one digit more is stored, and in the end all are
  pub digit_stored : (l : List ℕ) (i b : ℕ) → b ≡ byte_at cs (i + 3) → i < length (digits bs)
      → sets (set l i b) (i + 1) (drop (i + 1) (digits bs)) ≡ sets l i (drop i (digits bs))
  digit_stored l i b e h =
      let n : 3 + i ≡ i + 3 = omega arith in
      let d = get_or-drop 3 bs i 0 ∙ ap (byte_at cs) n ∙ sym e in
      rw (add-one, drop-cons (digits bs) i 0 h, d)

  pub digits_stored : (l : List ℕ) (i : ℕ) → length (digits bs) ≤ i → sets l i (drop i (digits bs)) ≡ l
  digits_stored l i h = rw (drop_of_length-le (digits bs) h)

  -- llll, as it is read from its four characters
  stated : number_of 0 (take 4 (drop 2 cs)) ≡ number (take 2 (drop 1 bs))
  stated =
      let few : length (take 4 (drop 2 cs)) / 2 ≤ 8 = omega (arith, length-take 4 (drop 2 cs)) in
      number_read (take 4 (drop 2 cs)) few
      ∙ ap number (read_take (drop 2 cs) 2 ∙ ap (take 2) (read_drop cs 1))

  counted : length cs / 2 - 3 ≡ length (digits bs)
  counted = omega (arith, read_length cs, length-drop 3 bs)

  -- refusal 2
  not_formed : well_formed bs ≡ false → 2 ≡ refusal (asked (some bs))
  unfolding refusal asked
  not_formed e = simp e

  pub too_short : length cs / 2 < 3 → 2 ≡ refusal (asked (some bs))
  unfolding well_formed
  too_short h =
      let short = lt-leb 3 (length bs) (omega (arith, read_length cs)) in
      not_formed (simp (short, and-false (eqb (get_or bs 0 0) 0x20)))

  pub other_tag : (byte_at cs 0 ≡ 0x20 → ⊥) → 2 ≡ refusal (asked (some bs))
  unfolding well_formed
  other_tag h = not_formed (simp (ne_eqb (byte_at cs 0) 0x20 h))

  module _ (long : 3 ≤ length cs / 2) (tagged : byte_at cs 0 ≡ 0x20) where
    formed : (b : Bool) → eqb (number (take 2 (drop 1 bs))) (length (digits bs)) ≡ b → well_formed bs ≡ b
    unfolding well_formed
    formed b e =
        let tag = eq-eqb (byte_at cs 0) 0x20 tagged in
        let headed = le-leb 3 (length bs) (omega (arith, read_length cs)) in
        simp (tag, headed, e)

    pub other_count : (number_of 0 (take 4 (drop 2 cs)) ≡ length cs / 2 - 3 → ⊥) → 2 ≡ refusal (asked (some bs))
    other_count h = not_formed (formed false (ne_eqb _ _ (λ e. h (stated ∙ e ∙ sym counted))))

    module _ (told : number_of 0 (take 4 (drop 2 cs)) ≡ length cs / 2 - 3) where
      well : well_formed bs ≡ true
      well = formed true (eq-eqb _ _ (sym stated ∙ told ∙ counted))

      -- refusal 3
      out_of_range : in_range (digits bs) ≡ false → 3 ≡ refusal (asked (some bs))
      unfolding refusal asked
      out_of_range e = simp (well, e)

      pub too_many : most < length cs / 2 - 3 → 3 ≡ refusal (asked (some bs))
      unfolding in_range
      too_many h = out_of_range (simp (lt-leb (length (digits bs)) most (omega (arith, counted))))

      module _ (few : length cs / 2 - 3 ≤ most) where
        range_is : in_range (digits bs) ≡ all_digits (digits bs)
        unfolding in_range
        range_is = simp (le-leb (length (digits bs)) most (omega (arith, counted)))

        pub other_digit : all_digits (digits bs) ≡ false → 3 ≡ refusal (asked (some bs))
        other_digit e = out_of_range (range_is ∙ e)

        pub step_asked : all_digits (digits bs) ≡ true → 0 ≡ refusal (asked (some bs))
        unfolding refusal asked
        step_asked e = simp (well, range_is ∙ e)
