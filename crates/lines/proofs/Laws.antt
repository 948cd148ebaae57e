-- What a caller may rely on: what `answer` is at each place where the scan of a run of digits can
-- stop, what a found line says of the text, and that bytes and numbers are read as `bytes` and
-- `number` have them. Assumes nothing.
use Rattle.std.proofs.Common.{ℕ, suc, ◌≤◌, ◌<◌, ◌-◌, ◌+◌, ◌*◌, ◌%◌, ◌≡◌, refl, sym, ap, ◌∙◌, Bool, true}
use Rattle.std.proofs.Common.{false, List, [], ◌∷◌, ◌++◌, append-nil, arith, length, take, drop, get_or}
use Rattle.std.proofs.Common.{length-append, length-take, length-drop, drop_of_length-le, eqb, ltb, drop-cons}
use Rattle.std.proofs.Common.{drop-drop, le-leb, eqb-true, ne_eqb, ltb-true, ltb-false}
use Rattle.std.proofs.lemmas.Bool.{lt-leb}
use Rattle.std.proofs.Math.Option.{Option, none, some}
use Rattle.std.proofs.Math.Seq.{drop-append_seam, drop-append-add, take-append_seam, drop-length, take-nil}
use Rattle.lines.specs.Line.{choose, digit, Raw, full, open_ended, before, lines, bytes, frame}
use Rattle.lines.specs.Line.{characters, LF, seen, Form, strict_form, answer_of, answer}
use Rattle.lines.specs.code.Characters.{run, part}
use Rattle.lines.specs.declared.Line.TheVariants.{Found, NoLine, End}
use Rattle.lines.proofs.Digits.{Digits, digits_inline, Split, split, lines_full, lines_open, lines_start}
use Rattle.lines.proofs.Digits.{frame_broken, bytes_even, bytes_odd, pair_some}

-- at the end of the text there is no line left
pub answer_end : (s : List ℕ) (at : ℕ) → length s ≤ at → answer at (lines (drop at s)) ≡ End
unfolding answer_of lines
answer_end s at h = rw (drop_of_length-le s h)

-- by what the run of digits is and what stands behind it
answer_full : (at : ℕ) (ds rest : List ℕ) (bs : List ℕ) → Digits ds → 0 < length ds → bytes ds ≡ some bs
    → answer at (lines (ds ++ LF ∷ rest)) ≡ Found (at + length ds) (at + length ds + 1)
unfolding answer_of seen characters frame
answer_full at [] rest bs t h e = absurd (omega arith)
answer_full at (c ∷ cs) rest bs t h e = rw (lines_full (c ∷ cs) rest (digits_inline t), e)

answer_bad : (at : ℕ) (ds rest : List ℕ) → Digits ds → frame (full ds) ≡ none
    → answer at (lines (ds ++ LF ∷ rest)) ≡ NoLine
unfolding answer_of seen characters
answer_bad at ds rest t e = rw (lines_full ds rest (digits_inline t), e)

answer_open : (at : ℕ) (ds : List ℕ) → Digits ds → 0 < length ds → answer at (lines ds) ≡ NoLine
unfolding answer_of seen characters frame
answer_open at [] t h = absurd (omega arith)
answer_open at (c ∷ cs) t h = rw (lines_open c cs (digits_inline t))

answer_other : (at : ℕ) (ds : List ℕ) (x : ℕ) (rest : List ℕ) → Digits ds → eqb x LF ≡ false → 16 ≤ digit x
    → answer at (lines (ds ++ x ∷ rest)) ≡ NoLine
unfolding answer_of seen
answer_other at ds x rest t e h =
    let r = lines_start ds x rest (digits_inline t) e in
    rw (r.1.2, frame_broken r.1.0 ds x r.0 r.1.3 h)

pub frame_empty : (cs : List ℕ) → length cs ≡ 0 → frame (full cs) ≡ none
unfolding frame
frame_empty [] h = refl
frame_empty (c ∷ cs) h = absurd (omega arith)

pub frame_none : (cs : List ℕ) → bytes cs ≡ none → frame (full cs) ≡ none
unfolding frame
frame_none [] h = refl
frame_none (c ∷ cs) h = h

pub frame_some : (cs bs : List ℕ) → 0 < length cs → bytes cs ≡ some bs → frame (full cs) ≡ some bs
unfolding frame
frame_some [] bs h e = absurd (omega arith)
frame_some (c ∷ cs) bs h e = e

-- the text from `at` on: its run of digits, and what stands at the run's end
module _ (s : List ℕ) (at e : ℕ) (inside : at < length s) (end : e ≡ at + run (drop at s)) where
  cut : Split (drop at s)
  cut = split (drop at s)

  -- what is left behind the run
  rest_is : cut.rest ≡ drop e s
  rest_is =
      let q : drop (length cut.digits) (drop at s) ≡ cut.rest =
      rw cut.whole (drop-append_seam cut.digits cut.rest) in
      let n : at + length cut.digits ≡ e = omega (arith, cut.counted) in
      sym q ∙ drop-drop (length cut.digits) at s ∙ ap (λ (k : ℕ). drop k s) n

  answer_unended : length s ≤ e → answer at (lines (drop at s)) ≡ NoLine
  answer_unended h =
      let none_left : cut.rest ≡ [] = rest_is ∙ drop_of_length-le s h in
      let whole : drop at s ≡ cut.digits = cut.whole ∙ rw none_left (append-nil cut.digits) in
      let some_digits : 0 < length cut.digits = omega (arith, length-drop at s, ap length whole) in
      rw whole (answer_open at cut.digits cut.are_digits some_digits)

  module _ (more : e < length s) where
    next_is : cut.rest ≡ get_or s e 0 ∷ drop (suc e) s
    next_is = rest_is ∙ drop-cons s e 0 more

    whole_is : drop at s ≡ cut.digits ++ get_or s e 0 ∷ drop (suc e) s
    whole_is = cut.whole ∙ ap (λ (l : List ℕ). cut.digits ++ l) next_is

    answer_no_digit : (get_or s e 0 ≡ LF → ⊥) → answer at (lines (drop at s)) ≡ NoLine
    answer_no_digit h =
        rw whole_is
        (answer_other at cut.digits _ _ cut.are_digits (ne_eqb _ LF h) (cut.ends _ _ next_is))

    module _ (feed : get_or s e 0 ≡ LF) where
      line_is : drop at s ≡ cut.digits ++ LF ∷ drop (suc e) s
      line_is = whole_is ∙ ap (λ (c : ℕ). cut.digits ++ c ∷ drop (suc e) s) feed

      count : length cut.digits ≡ e - at
      count = omega (arith, cut.counted)

      pub answer_empty : e - at ≡ 0 → answer at (lines (drop at s)) ≡ NoLine
      answer_empty h =
          rw line_is (answer_bad at cut.digits _ cut.are_digits (frame_empty cut.digits (count ∙ h)))

      pub answer_odd : ((e - at) % 2 ≡ 0 → ⊥) → answer at (lines (drop at s)) ≡ NoLine
      answer_odd h =
          let no_bytes = bytes_odd cut.digits (λ q. h (ap (λ (n : ℕ). n % 2) (sym count) ∙ q)) in
          rw line_is (answer_bad at cut.digits _ cut.are_digits (frame_none cut.digits no_bytes))

      pub answer_found : (e - at ≡ 0 → ⊥) → (e - at) % 2 ≡ 0 → answer at (lines (drop at s)) ≡ Found e (e + 1)
      answer_found z h =
          let b = bytes_even cut.digits cut.are_digits (ap (λ (n : ℕ). n % 2) count ∙ h) in
          let n : at + length cut.digits ≡ e = omega (arith, cut.counted) in
          let p : 0 < length cut.digits = omega (arith, count) in
          rw (line_is, answer_full at cut.digits _ b.0 cut.are_digits p b.1, n)

  -- where no LF stands at the run's end there is no line
  pub answer_no_feed : (e < length s → get_or s e 0 ≡ LF → ⊥) → answer at (lines (drop at s)) ≡ NoLine
  answer_no_feed h = go (ltb e (length s)) refl
    where
      go : (b : Bool) → ltb e (length s) ≡ b → answer at (lines (drop at s)) ≡ NoLine
      go true q = let more = ltb-true e (length s) q in answer_no_digit more (h more)
      go false q = answer_unended (ltb-false e (length s) q)

-- the first line of a text, taken off it
abbrev pub First : List ℕ → List ℕ → List Raw → Type 0
First t cs ls = (rest : List ℕ) × (t ≡ cs ++ LF ∷ rest) × (ls ≡ lines rest)

before_full : (c : ℕ) (l : List Raw) (cs : List ℕ) (ls : List Raw) → before c l ≡ full cs ∷ ls
    → (ds : List ℕ) × (cs ≡ c ∷ ds) × (l ≡ full ds ∷ ls)
unfolding before
before_full c [] cs ls e = let z : ◌≡◌ {A = ℕ} 0 1 = cc in absurd (omega arith)
before_full c (full ds ∷ l) cs ls e = (ds, cc, cc)
before_full c (open_ended ds ∷ l) cs ls e = let z : ◌≡◌ {A = ℕ} 0 1 = cc in absurd (omega arith)

pub lines_first : (t cs : List ℕ) (ls : List Raw) → lines t ≡ full cs ∷ ls → First t cs ls
unfolding lines
lines_first [] cs ls e = let z : ◌≡◌ {A = ℕ} 0 1 = cc in absurd (omega arith)
lines_first (c ∷ t) cs ls e = go (eqb c LF) refl e (λ ds q. lines_first t ds ls q)
  where
    go : (b : Bool) → eqb c LF ≡ b → choose b (full [] ∷ lines t) (before c (lines t)) ≡ full cs ∷ ls
        → ((ds : List ℕ) → lines t ≡ full ds ∷ ls → First t ds ls) → First (c ∷ t) cs ls
    go true q e further =
        let f : c ≡ LF = eqb-true c LF q in
        let n : cs ≡ [] = cc in
        (t, rw (n, f), cc)
    go false q e further =
        let b = before_full c (lines t) cs ls e in
        let r = further b.0 b.2 in
        (r.0, ap (λ (l : List ℕ). c ∷ l) r.1 ∙ ap (λ (l : List ℕ). l ++ LF ∷ r.0) (sym b.1), r.2)

-- what a found line says of its text: its characters are the part from `at` to e, they stand for bytes, and
-- the lines behind it are those of the text from n on
pub record IsLine (s : List ℕ) (at e n : ℕ) : Type 0 where
  pub held : List ℕ
  pub first : lines (drop at s) ≡ full (part s at e) ∷ lines (drop n s)
  pub framed : frame (full (part s at e)) ≡ some held
  pub stands : bytes (part s at e) ≡ some held
  pub some_bytes : at < e
  pub behind : n ≡ e + 1
  pub within : n ≤ length s

-- characters in a text from `at` on, with another behind them: they are its part, and what is left stands behind that one
module _ (s cs rest : List ℕ) (x at : ℕ) (e : drop at s ≡ cs ++ x ∷ rest) where
  pub long : length s - at ≡ length cs + suc (length rest)
  long = sym (length-drop at s) ∙ ap length e ∙ length-append cs (x ∷ rest)

  pub part_is : part s at (at + length cs) ≡ cs
  unfolding part
  part_is =
      let n : length s - at ≡ length cs + suc (length rest) = long in
      let m : at + length cs - at ≡ length cs = omega arith in
      let from = le-leb at (at + length cs) (omega arith) in
      let to = le-leb (at + length cs) (length s) (omega arith) in
      simp (from, to, m, e) (take-append_seam cs (x ∷ rest))

  pub rest_behind : drop (at + length cs + 1) s ≡ rest
  rest_behind =
      let m : at + length cs + 1 ≡ at + (length cs + 1) = omega arith in
      rw (m, ← drop-drop (length cs + 1) at s, e) (drop-append-add cs (x ∷ rest) 1)

found_line : (s : List ℕ) (at e n : ℕ) (l : Raw) (ls : List Raw) → lines (drop at s) ≡ l ∷ ls
    → answer at (l ∷ ls) ≡ Found e n → IsLine s at e n
unfolding answer_of seen characters frame
found_line s at e n (open_ended cs) ls q h = let z : ◌≡◌ {A = ℕ} 0 1 = cc in absurd (omega arith)
found_line s at e n (full []) ls q h = let z : ◌≡◌ {A = ℕ} 0 1 = cc in absurd (omega arith)
found_line s at e n (full (c ∷ cs)) ls q h = go (bytes (c ∷ cs)) refl h
  where
    go : (o : Option (List ℕ)) → bytes (c ∷ cs) ≡ o
        → seen (at + length (c ∷ cs)) (at + length (c ∷ cs) + 1) o ≡ Found e n → IsLine s at e n
    go none b h = let z : ◌≡◌ {A = ℕ} 0 1 = cc in absurd (omega arith)
    go (some bs) b h =
        let f = lines_first (drop at s) (c ∷ cs) ls q in
        let es : at + length (c ∷ cs) ≡ e = cc in
        let ns : at + length (c ∷ cs) + 1 ≡ n = cc in
        let k : length s - at ≡ length (c ∷ cs) + suc (length f.0) = long s (c ∷ cs) f.0 LF at f.1 in
        let p : part s at e ≡ c ∷ cs = ap (part s at) (sym es) ∙ part_is s (c ∷ cs) f.0 LF at f.1 in
        let r : drop n s ≡ f.0 = ap (λ (m : ℕ). drop m s) (sym ns) ∙ rest_behind s (c ∷ cs) f.0 LF at f.1 in
        record {
          held = bs;
          first = rw (p, r) (q ∙ ap (λ (t : List Raw). full (c ∷ cs) ∷ t) f.2);
          framed = rw p b;
          stands = rw p b;
          some_bytes = omega arith;
          behind = omega arith;
          within = omega arith;
        }

-- what an answer says of the first of a text's lines, whatever their form: that it is found, that it is no line, or that none is left
pub record NotALine (f : Form) (s : List ℕ) (at : ℕ) : Type 0 where
  pub line : Raw
  pub others : List Raw
  pub first : lines (drop at s) ≡ line ∷ others
  pub broken : f.reads line ≡ none

module _ (f : Form) (s : List ℕ) (at : ℕ) where
  pub found_first : (e n : ℕ) → answer_of f at (lines (drop at s)) ≡ Found e n
      → (l : Raw) × (ls : List Raw) × (lines (drop at s) ≡ l ∷ ls) × (answer_of f at (l ∷ ls) ≡ Found e n)
  unfolding answer_of
  found_first e n h = go (lines (drop at s)) refl h
    where
      go : (ls : List Raw) → lines (drop at s) ≡ ls → answer_of f at ls ≡ Found e n
          → (l : Raw) × (more : List Raw) × (lines (drop at s) ≡ l ∷ more) × (answer_of f at (l ∷ more) ≡ Found e n)
      go [] q h = let z : ◌≡◌ {A = ℕ} 0 1 = cc in absurd (omega arith)
      go (l ∷ ls) q h = (l, ls, q, h)

  pub not_a_line : answer_of f at (lines (drop at s)) ≡ NoLine → NotALine f s at
  unfolding answer_of seen
  not_a_line h = go (lines (drop at s)) refl h
    where
      none_of : (l : Raw) (ls : List Raw) (i j : ℕ) (o : Option (List ℕ)) → lines (drop at s) ≡ l ∷ ls
          → f.reads l ≡ o
          → seen i j o ≡ NoLine → NotALine f s at
      none_of l ls i j none q b h = record { line = l; others = ls; first = q; broken = b }
      none_of l ls i j (some bs) q b h = let z : ◌≡◌ {A = ℕ} 0 1 = cc in absurd (omega arith)

      go : (ls : List Raw) → lines (drop at s) ≡ ls → answer_of f at ls ≡ NoLine → NotALine f s at
      go [] q h = let z : ◌≡◌ {A = ℕ} 0 1 = cc in absurd (omega arith)
      go (l ∷ ls) q h = none_of l ls _ _ (f.reads l) q refl h

  pub none_left : answer_of f at (lines (drop at s)) ≡ End → lines (drop at s) ≡ []
  unfolding answer_of seen
  none_left h = go (lines (drop at s)) refl h
    where
      not_end : (i j : ℕ) (o : Option (List ℕ)) → seen i j o ≡ End → ⊥
      not_end i j none h = let z : ◌≡◌ {A = ℕ} 0 1 = cc in omega arith
      not_end i j (some bs) h = let z : ◌≡◌ {A = ℕ} 0 1 = cc in omega arith

      go : (ls : List Raw) → lines (drop at s) ≡ ls → answer_of f at ls ≡ End → ls ≡ []
      go [] q h = refl
      go (l ∷ ls) q h = absurd (not_end _ _ (f.reads l) h)

pub is_line : (s : List ℕ) (at e n : ℕ) → answer at (lines (drop at s)) ≡ Found e n → IsLine s at e n
is_line s at e n h =
    let r = found_first strict_form s at e n h in
    found_line s at e n r.0 r.1 r.2 r.3

-- the part of a text, where there is one and where there is none
module _ (s : List ℕ) (a e : ℕ) where
  pub part_some : a ≤ e → e ≤ length s → take (e - a) (drop a s) ≡ part s a e
  unfolding part
  part_some h k = simp (le-leb a e h, le-leb e (length s) k)

  pub part_backward : e < a → take (length s - length s) (drop (length s) s) ≡ part s a e
  unfolding part
  part_backward h = rw (drop-length s, take-nil {A = ℕ} (length s - length s)) (simp (lt-leb a e h))

  pub part_past : a ≤ e → length s < e → take (length s - length s) (drop (length s) s) ≡ part s a e
  unfolding part
  part_past h k =
      rw (drop-length s, take-nil {A = ℕ} (length s - length s))
      (simp (le-leb a e h, lt-leb e (length s) k))

-- where the line behind a found line begins
pub past : (s : List ℕ) (at e n : ℕ) → IsLine s at e n → at + length (part s at e) + 1 ≡ n
past s at e n i =
    let c = ap length (part_some s at e (omega arith) (omega arith)) in
    omega (arith, length-take (e - at) (drop at s), length-drop at s)

-- a line's characters are two for each byte
pub bytes_length : (cs bs : List ℕ) → bytes cs ≡ some bs → length cs ≡ 2 * length bs
unfolding bytes
bytes_length [] bs e = let n : bs ≡ [] = cc in rw n
bytes_length (h ∷ []) bs e = let z : ◌≡◌ {A = ℕ} 0 1 = cc in absurd (omega arith)
bytes_length (h ∷ l ∷ cs) bs e =
    let r = pair_some (digit h) (digit l) (bytes cs) bs e in
    let n = bytes_length cs r.2.0 r.2.1 in
    rw r.2.2 (omega arith)
