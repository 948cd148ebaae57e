-- What a caller of the desks' line finder may rely on: what a found line says of the text. What it means that none is found is told
-- with the laws of `lines`. Assumes nothing.
use Rattle.std.proofs.Common.{ℕ, suc, ◌≤◌, ◌<◌, ◌-◌, ◌+◌, ◌*◌, ◌≡◌, refl, sym, ap, ◌∙◌, Bool, true, false}
use Rattle.std.proofs.Common.{List, [], ◌∷◌, ◌++◌, map, append-nil, append_assoc, arith, length, drop}
use Rattle.std.proofs.Common.{length-append, eqb, eqb-true}
use Rattle.std.proofs.lemmas.List.{length-map}
use Rattle.std.proofs.Math.Option.{Option, none, some}
use Rattle.lines.specs.Line.{Raw, full, open_ended, lines, bytes, frame, characters, LF, seen, answer_of}
use Rattle.lines.specs.code.Characters.{part}
use Rattle.lines.specs.declared.Line.TheVariants.{Found}
use Rattle.lines.proofs.Laws.{lines_first, long, part_is, rest_behind, found_first, bytes_length}
use Rattle.desk_lines.specs.DeskLine.{CR, small, without_CR, strict, desk_frame, desk_form, desk_answer}
use Rattle.desk_lines.proofs.Ends.{Return, no_return, one_return}

-- a line's characters are those without its CR, and what is left of them
record Ending (cs : List ℕ) : Type 0 where
  rs : List ℕ
  return : Return rs
  whole : cs ≡ without_CR cs ++ rs

ending : (cs : List ℕ) → Ending cs
unfolding without_CR
ending [] = record { rs = []; return = no_return; whole = refl }
ending (c ∷ []) = go (eqb c CR) refl
  where
    go : (b : Bool) → eqb c CR ≡ b → Ending (c ∷ [])
    go true e = record { rs = CR ∷ []; return = one_return; whole = simp e (rw (eqb-true c CR e)) }
    go false e = record { rs = []; return = no_return; whole = simp e }
ending (c ∷ d ∷ cs) =
    let r = ending (d ∷ cs) in
    record { rs = r.rs; return = r.return; whole = ap (λ (l : List ℕ). c ∷ l) r.whole }

-- so those are no more
pub own_short : (cs : List ℕ) → length (without_CR cs) ≤ length cs
own_short cs = let r = ending cs in omega (arith, ap length r.whole, length-append (without_CR cs) r.rs)

-- a line with bytes has some characters
frame_some_characters : (cs bs : List ℕ) → frame (full cs) ≡ some bs → (0 < length cs) × (bytes cs ≡ some bs)
unfolding frame
frame_some_characters [] bs e = let z : ◌≡◌ {A = ℕ} 0 1 = cc in absurd (omega arith)
frame_some_characters (c ∷ cs) bs e = (omega arith, e)

-- what a found line says of its text: the part from `at` to e in small letters stands for its bytes, and the lines behind it are
-- those of the text from n on
pub record DeskLine (s : List ℕ) (at e n : ℕ) : Type 0 where
  pub line : Raw
  pub held : List ℕ
  pub first : lines (drop at s) ≡ line ∷ lines (drop n s)
  pub framed : desk_frame line ≡ some held
  pub stands : bytes (map small (part s at e)) ≡ some held
  pub past : at + length (characters line) + 1 ≡ n
  pub some_bytes : at < e
  pub behind : e < n
  pub within : n ≤ length s

-- the part of a text in front of a line's end is what the line has without its CR
module _ (s : List ℕ) (at : ℕ) (cs rest : List ℕ) (t : drop at s ≡ cs ++ LF ∷ rest) where
  abbrev own : List ℕ
  own = without_CR cs

  own_part : part s at (at + length own) ≡ own
  own_part = go (ending cs)
    where
      by_return : (rs : List ℕ) → Return rs → cs ≡ own ++ rs → part s at (at + length own) ≡ own
      by_return [] no_return w =
          part_is s own rest LF at (t ∙ ap (λ (l : List ℕ). l ++ LF ∷ rest) (w ∙ append-nil own))
      by_return (x ∷ xs) one_return w =
          let end = append_assoc own (CR ∷ []) (LF ∷ rest) in
          part_is s own (LF ∷ rest) CR at (t ∙ ap (λ (l : List ℕ). l ++ LF ∷ rest) w ∙ end)

      go : Ending cs → part s at (at + length own) ≡ own
      go r = by_return r.rs r.return r.whole

-- a line with bytes: its characters in front of its end, two for each byte, and what ends it in front of the LF
pub record Spelled (cs bs : List ℕ) : Type 0 where
  pub own : List ℕ
  pub rs : List ℕ
  pub whole : cs ≡ own ++ rs
  pub return : Return rs
  pub spelling : strict (full cs) ≡ full (map small own)
  pub stands : bytes (map small own) ≡ some bs
  pub some_bytes : 0 < length bs
  pub counted : length own ≡ 2 * length bs

pub spelled : (cs bs : List ℕ) → desk_frame (full cs) ≡ some bs → Spelled cs bs
unfolding desk_frame strict
spelled cs bs e =
    let own = without_CR cs in
    let has = frame_some_characters (map small own) bs e in
    let counts = bytes_length (map small own) bs has.1 in
    let r = ending cs in
    record {
      own = own;
      rs = r.rs;
      whole = r.whole;
      return = r.return;
      spelling = refl;
      stands = has.1;
      some_bytes = omega (arith, has.0);
      counted = omega (arith, length-map own small);
    }

-- such a line has an LF, and two characters or more for each byte
pub frame_counts : (l : Raw) (bs : List ℕ) → desk_frame l ≡ some bs
    → (cs : List ℕ) × (l ≡ full cs) × (2 * length bs ≤ length cs)
unfolding desk_frame strict frame
frame_counts (open_ended cs) bs e = let z : ◌≡◌ {A = ℕ} 0 1 = cc in absurd (omega arith)
frame_counts (full cs) bs e =
    let s = spelled cs bs e in
    (cs, refl, omega (arith, s.counted, ap length s.whole, length-append s.own s.rs))

found_line : (s : List ℕ) (at e n : ℕ) (l : Raw) (ls : List Raw) → lines (drop at s) ≡ l ∷ ls
    → desk_answer at (l ∷ ls) ≡ Found e n → DeskLine s at e n
unfolding answer_of seen desk_frame strict characters frame
found_line s at e n (open_ended cs) ls q h = let z : ◌≡◌ {A = ℕ} 0 1 = cc in absurd (omega arith)
found_line s at e n (full cs) ls q h = go (frame (full spelled)) refl h
  where
    spelled : List ℕ
    spelled = map small (without_CR cs)

    go : (o : Option (List ℕ)) → frame (full spelled) ≡ o
        → seen (at + length spelled) (at + length cs + 1) o ≡ Found e n → DeskLine s at e n
    go none b h = let z : ◌≡◌ {A = ℕ} 0 1 = cc in absurd (omega arith)
    go (some bs) b h =
        let f = lines_first (drop at s) cs ls q in
        let es : at + length spelled ≡ e = cc in
        let ns : at + length cs + 1 ≡ n = cc in
        let m = length-map (without_CR cs) small in
        let own_end : at + length (without_CR cs) ≡ e = omega arith in
        let p : part s at e ≡ without_CR cs = ap (part s at) (sym own_end) ∙ own_part s at cs f.0 f.1 in
        let r : drop n s ≡ f.0 = ap (λ (k : ℕ). drop k s) (sym ns) ∙ rest_behind s cs f.0 LF at f.1 in
        let has = frame_some_characters spelled bs b in
        let k : length s - at ≡ length cs + suc (length f.0) = long s cs f.0 LF at f.1 in
        let short = own_short cs in
        record {
          line = full cs;
          held = bs;
          first = rw r (q ∙ ap (λ (t : List Raw). full cs ∷ t) f.2);
          framed = b;
          stands = rw p has.1;
          past = ns;
          some_bytes = omega (arith, has.0);
          behind = omega arith;
          within = omega arith;
        }

pub desk_line : (s : List ℕ) (at e n : ℕ) → desk_answer at (lines (drop at s)) ≡ Found e n → DeskLine s at e n
desk_line s at e n h =
    let r = found_first desk_form s at e n h in
    found_line s at e n r.0 r.1 r.2 r.3
