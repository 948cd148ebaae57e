-- The answer for a desk's line, by its run of digits and what stands behind that: no line's end, or one, and then the count of
-- the digits decides. Assumes nothing.
use Rattle.std.proofs.Common.{◌≡◌, refl, sym, ap, ap₂, ◌∙◌, Some, None, ℕ, ◌≤◌, ◌<◌, ◌-◌, ◌+◌, ◌%◌, Bool}
use Rattle.std.proofs.Common.{true, false, List, [], ◌∷◌, ◌++◌, map, append-nil, append_assoc, arith, length}
use Rattle.std.proofs.Common.{drop, length-append, length-drop, drop_of_length-le, eqb, drop-drop, eqb-true}
use Rattle.std.proofs.lemmas.Bool.{eqb-false}
use Rattle.std.proofs.lemmas.List.{length-map}
use Rattle.std.proofs.Math.Seq.{drop-append_seam}
use Rattle.lines.specs.Line.{choose, digit, full, lines, frame, characters, LF, seen, answer_of}
use Rattle.lines.specs.code.Characters.{run}
use Rattle.lines.specs.declared.Line.TheVariants.{Found, NoLine, End}
use Rattle.lines.proofs.Digits.{Digits, Inline, split, lines_full, lines_open, lines_start, bytes_even, bytes_odd}
use Rattle.lines.proofs.Laws.{frame_empty, frame_none, frame_some}
use Rattle.desk_lines.specs.DeskLine.{CR, small, strict, desk_frame, desk_answer}
use Rattle.desk_lines.specs.code.Ends.{behind_feed, behind}
use Rattle.desk_lines.proofs.Capitals.{digit_CR, digits_inline}
use Rattle.desk_lines.proofs.Ends.{Return, no_return, one_return, digits_strict, ended_inline, desk_broken}

-- ---- by what a text is

-- at its end no line is left
pub desk_end : (s : List ℕ) (at : ℕ) → length s ≤ at → desk_answer at (lines (drop at s)) ≡ End
unfolding answer_of lines
desk_end s at h = rw (drop_of_length-le s h)

-- some characters with no LF behind them are no line
open_answer : (at : ℕ) (cs : List ℕ) → Inline cs → 0 < length cs → desk_answer at (lines cs) ≡ NoLine
unfolding answer_of desk_frame seen strict frame
open_answer at [] t h = absurd (omega arith)
open_answer at (c ∷ cs) t h = rw (lines_open c cs t)

-- nor are digits with another character behind them
other_answer : (at : ℕ) (ds : List ℕ) (x : ℕ) (more : List ℕ) → Inline ds → eqb x LF ≡ false → 16 ≤ digit (small x)
    → eqb x CR ≡ false → desk_answer at (lines (ds ++ x ∷ more)) ≡ NoLine
unfolding answer_of seen
other_answer at ds x more t e h k =
    let r = lines_start ds x more t e in
    rw (r.1.2, desk_broken r.1.0 ds x r.0 r.1.3 h (λ q _. eqb-false x CR k q))

-- or with a CR behind them that no LF follows
return_answer : (at : ℕ) (ds : List ℕ) (y : ℕ) (more : List ℕ) → Digits (map small ds) → eqb y LF ≡ false
    → desk_answer at (lines (ds ++ CR ∷ y ∷ more)) ≡ NoLine
unfolding answer_of seen
return_answer at ds y more t e =
    let r = lines_start (ds ++ CR ∷ []) y more (ended_inline ds (CR ∷ []) t one_return) e in
    let on : (zs : List ℕ) → (ds ++ CR ∷ []) ++ zs ≡ ds ++ CR ∷ zs = λ zs. append_assoc ds (CR ∷ []) zs in
    let stands : characters r.1.0 ≡ ds ++ CR ∷ y ∷ r.0 = r.1.3 ∙ on (y ∷ r.0) in
    let no_end : CR ≡ CR → y ∷ r.0 ≡ [] → ⊥ = λ _ q. let z : ◌≡◌ {A = ℕ} 0 1 = cc in omega arith in
    let first = rw (on (y ∷ more)) at r.1.2 in
    rw (first, desk_broken r.1.0 ds CR (y ∷ r.0) stands (omega (arith, digit_CR)) no_end)

-- digits and an end are a line by their bytes
line_answer : (at : ℕ) (ds rs more : List ℕ) → Digits (map small ds) → Return rs
    → desk_answer at (lines ((ds ++ rs) ++ LF ∷ more))
    ≡ seen (at + length ds) (at + length (ds ++ rs) + 1) (frame (full (map small ds)))
unfolding answer_of desk_frame characters
line_answer at ds rs more t r =
    rw (lines_full (ds ++ rs) more (ended_inline ds rs t r), digits_strict ds rs t r, length-map ds small)

-- ---- a run of digits at a cursor

-- a text in two, by its characters in small letters
record Parted (t xs ys : List ℕ) : Type 0 where
  front : List ℕ
  back : List ℕ
  whole : t ≡ front ++ back
  front_is : map small front ≡ xs
  back_is : map small back ≡ ys

parted : (t xs ys : List ℕ) → map small t ≡ xs ++ ys → Parted t xs ys
parted t [] ys e = record { front = []; back = t; whole = refl; front_is = refl; back_is = e }
parted [] (x ∷ xs) ys e = let z : ◌≡◌ {A = ℕ} 0 1 = cc in absurd (omega arith)
parted (c ∷ t) (x ∷ xs) ys e =
    let first : small c ≡ x = cc in
    let p = parted t xs ys cc in
    record {
      front = c ∷ p.front;
      back = p.back;
      whole = ap (λ (l : List ℕ). c ∷ l) p.whole;
      front_is = rw (first, p.front_is);
      back_is = p.back_is;
    }

-- the text from `at` on, whose run of digits ends at e
module _ (s : List ℕ) (at e : ℕ) (inside : at < length s) (end : e ≡ at + run (map small (drop at s))) where
  abbrev text : List ℕ
  text = drop at s

  cut : Parted text (split (map small text)).digits (split (map small text)).rest
  cut = parted text _ _ (split (map small text)).whole

  -- its digits as they stand, and as many as there are
  ds : List ℕ
  ds = cut.front

  are_digits : Digits (map small ds)
  unfolding ds
  are_digits = rw cut.front_is (split (map small text)).are_digits

  counted : at + length ds ≡ e
  unfolding ds
  counted =
      let n = ap length cut.front_is in
      omega (arith, length-map cut.front small, (split (map small text)).counted)

  rest_is : cut.back ≡ drop e s
  unfolding ds
  rest_is =
      let q : drop (length ds) text ≡ cut.back = rw cut.whole (drop-append_seam ds cut.back) in
      sym q ∙ drop-drop (length ds) at s ∙ ap (λ (k : ℕ). drop k s) counted

  whole_is : (rest : List ℕ) → drop e s ≡ rest → text ≡ ds ++ rest
  unfolding ds
  whole_is rest q = cut.whole ∙ ap (λ (l : List ℕ). ds ++ l) (rest_is ∙ q)

  -- what stands first behind them is no digit
  no_digit : (c : ℕ) (cs : List ℕ) → drop e s ≡ c ∷ cs → 16 ≤ digit (small c)
  no_digit c cs q =
      let stands : (split (map small text)).rest ≡ small c ∷ map small cs =
      sym cut.back_is ∙ ap (map small) (rest_is ∙ q) in
      (split (map small text)).ends (small c) (map small cs) stands

  -- no end stands there
  pub desk_unended : None ≡ behind e (drop e s) → desk_answer at (lines text) ≡ NoLine
  unfolding behind behind_feed
  desk_unended place = go (drop e s) refl (sym place)
    where
      unended : (cs : List ℕ) → text ≡ cs → Inline cs → desk_answer at (lines text) ≡ NoLine
      unended cs w t = open_answer at text (rw w t) (omega (arith, length-drop at s))

      by_feed : (d : ℕ) (cs : List ℕ) → text ≡ ds ++ CR ∷ d ∷ cs → (b : Bool) → eqb d LF ≡ b
          → choose b (Some (e + 1 + 1)) None ≡ None → desk_answer at (lines text) ≡ NoLine
      by_feed d cs w true b stands = cc
      by_feed d cs w false b stands = rw w (return_answer at ds d cs are_digits b)

      by_return : (cs : List ℕ) → text ≡ ds ++ CR ∷ cs → behind_feed (e + 1) cs ≡ None
          → desk_answer at (lines text) ≡ NoLine
      by_return [] w stands = unended (ds ++ CR ∷ []) w (ended_inline ds (CR ∷ []) are_digits one_return)
      by_return (d ∷ cs) w stands = by_feed d cs w (eqb d LF) refl stands

      by_first : (c : ℕ) (cs : List ℕ) → drop e s ≡ c ∷ cs → (p q : Bool) → eqb c LF ≡ p → eqb c CR ≡ q
          → choose p (Some (e + 1)) (choose q (behind_feed (e + 1) cs) None) ≡ None → desk_answer at (lines text) ≡ NoLine
      by_first c cs w true q f r stands = cc
      by_first c cs w false true f r stands =
          by_return cs (whole_is (c ∷ cs) w ∙ ap (λ (x : ℕ). ds ++ x ∷ cs) (eqb-true c CR r)) stands
      by_first c cs w false false f r stands =
          rw (whole_is (c ∷ cs) w) (other_answer at ds c cs (digits_inline ds are_digits) f (no_digit c cs w) r)

      go : (rest : List ℕ) → drop e s ≡ rest → behind e rest ≡ None → desk_answer at (lines text) ≡ NoLine
      go [] w stands = unended ds (whole_is [] w ∙ append-nil ds) (digits_inline ds are_digits)
      go (c ∷ cs) w stands = by_first c cs w (eqb c LF) (eqb c CR) refl refl stands

  -- where the next line begins
  module _ (next : ℕ) (place : Some next ≡ behind e (drop e s)) where
    -- the digits and what ends them
    record Ended : Type 0 where
      rs : List ℕ
      more : List ℕ
      return : Return rs
      line_is : text ≡ (ds ++ rs) ++ LF ∷ more
      ends : at + length (ds ++ rs) + 1 ≡ next

    ended : Ended
    unfolding behind behind_feed
    ended = go (drop e s) refl place
      where
        by_feed : (d : ℕ) (cs : List ℕ) → text ≡ ds ++ CR ∷ d ∷ cs → (b : Bool) → eqb d LF ≡ b
            → Some next ≡ choose b (Some (e + 1 + 1)) None → Ended
        by_feed d cs w true b is =
            let n : next ≡ e + 1 + 1 = cc in
            record {
              rs = CR ∷ [];
              more = cs;
              return = one_return;
              line_is =
                  w ∙ ap (λ (x : ℕ). ds ++ CR ∷ x ∷ cs) (eqb-true d LF b) ∙ sym (append_assoc ds (CR ∷ []) (LF ∷ cs));
              ends = omega (arith, length-append ds (CR ∷ []), counted);
            }
        by_feed d cs w false b is = absurd cc

        by_return : (cs : List ℕ) → text ≡ ds ++ CR ∷ cs → Some next ≡ behind_feed (e + 1) cs → Ended
        by_return [] w is = absurd cc
        by_return (d ∷ cs) w is = by_feed d cs w (eqb d LF) refl is

        by_first : (c : ℕ) (cs : List ℕ) → text ≡ ds ++ c ∷ cs → (p q : Bool) → eqb c LF ≡ p → eqb c CR ≡ q
            → Some next ≡ choose p (Some (e + 1)) (choose q (behind_feed (e + 1) cs) None) → Ended
        by_first c cs w true q f r is =
            let n : next ≡ e + 1 = cc in
            record {
              rs = [];
              more = cs;
              return = no_return;
              line_is = w ∙ ap₂ (λ (l : List ℕ) (x : ℕ). l ++ x ∷ cs) (sym (append-nil ds)) (eqb-true c LF f);
              ends = rw (append-nil ds) (omega (arith, counted));
            }
        by_first c cs w false true f r is =
            by_return cs (w ∙ ap (λ (x : ℕ). ds ++ x ∷ cs) (eqb-true c CR r)) is
        by_first c cs w false false f r is = absurd cc

        go : (rest : List ℕ) → drop e s ≡ rest → Some next ≡ behind e rest → Ended
        go [] w is = absurd cc
        go (c ∷ cs) w is = by_first c cs (whole_is (c ∷ cs) w) (eqb c LF) (eqb c CR) refl refl is

    -- the answer goes by the bytes of the digits
    by_bytes : desk_answer at (lines text) ≡ seen e next (frame (full (map small ds)))
    by_bytes =
        let w = ended in
        ap (λ (t : List ℕ). desk_answer at (lines t)) w.line_is
        ∙ line_answer at ds w.rs w.more are_digits w.return
        ∙ ap₂ (λ (i j : ℕ). seen i j (frame (full (map small ds)))) counted w.ends

    many : length (map small ds) ≡ e - at
    many = omega (arith, length-map ds small, counted)

    pub desk_empty : e - at ≡ 0 → desk_answer at (lines text) ≡ NoLine
    unfolding seen
    desk_empty h = by_bytes ∙ rw (frame_empty (map small ds) (many ∙ h))

    pub desk_odd : ((e - at) % 2 ≡ 0 → ⊥) → desk_answer at (lines text) ≡ NoLine
    unfolding seen
    desk_odd h =
        let odd = bytes_odd (map small ds) (λ q. h (ap (λ (n : ℕ). n % 2) (sym many) ∙ q)) in
        by_bytes ∙ rw (frame_none (map small ds) odd)

    pub desk_found : (e - at ≡ 0 → ⊥) → (e - at) % 2 ≡ 0 → desk_answer at (lines text) ≡ Found e next
    unfolding seen
    desk_found z h =
        let b = bytes_even (map small ds) are_digits (ap (λ (n : ℕ). n % 2) many ∙ h) in
        by_bytes ∙ rw (frame_some (map small ds) b.0 (omega (arith, many)) b.1)
