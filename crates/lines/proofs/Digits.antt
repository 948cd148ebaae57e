-- Runs of digits: what `run` counts at a place of a text, and the lines of a text that starts with
-- a run. A digit is no LF, so a run stays inside one line; what ends the run tells whether that
-- line is one. Assumes nothing.
use Rattle.std.proofs.Common.{ℕ, suc, ◌≤◌, ◌<◌, ◌+◌, ◌*◌, ◌%◌, ◌≡◌, refl, ap, ◌∙◌, Bool, true, false, ◌&&◌}
use Rattle.std.proofs.Common.{List, [], ◌∷◌, ◌++◌, arith, length, leb, ltb, eqb, leb-true, leb-false, ne_eqb}
use Rattle.std.proofs.Common.{lt-ltb, ltb-true}
use Rattle.std.proofs.Math.Option.{Option, none, some}
use Rattle.lines.specs.Line.{choose, digit, Raw, full, open_ended, before, lines, pair, bytes, frame}
use Rattle.lines.specs.Line.{characters, LF}
use Rattle.lines.specs.code.Characters.{run}

-- two tests that hold together
pub both : (a b : Bool) → a && b ≡ true → (a ≡ true) × (b ≡ true)
both true b e = (refl, e)
both false b e = let z : ◌≡◌ {A = ℕ} 0 1 = cc in absurd (omega arith)

-- LF is no digit
pub digit_LF : digit LF ≡ 16
unfolding digit
digit_LF = refl

-- a digit is no LF
pub digit_no_LF : (c : ℕ) → digit c < 16 → eqb c LF ≡ false
digit_no_LF c h = ne_eqb c LF (λ e. let d : digit c ≡ 16 = ap digit e ∙ digit_LF in omega arith)

-- all of the characters are digits
pub data Digits : List ℕ → Type 0 where
  no_more : Digits []
  one_more : {c : ℕ} {cs : List ℕ} → digit c < 16 → Digits cs → Digits (c ∷ cs)

-- none of the characters is an LF: they stand in one line
pub data Inline : List ℕ → Type 0 where
  none_inline : Inline []
  inline : {c : ℕ} {cs : List ℕ} → eqb c LF ≡ false → Inline cs → Inline (c ∷ cs)

pub digits_inline : {cs : List ℕ} → Digits cs → Inline cs
digits_inline no_more = none_inline
digits_inline (one_more h t) = inline (digit_no_LF _ h) (digits_inline t)

-- a text is its run of digits and what ends the run
pub record Split (s : List ℕ) : Type 0 where
  pub digits : List ℕ
  pub rest : List ℕ
  pub whole : s ≡ digits ++ rest
  pub are_digits : Digits digits
  pub counted : length digits ≡ run s
  pub ends : (c : ℕ) (cs : List ℕ) → rest ≡ c ∷ cs → 16 ≤ digit c

nil_cons : (c : ℕ) (cs : List ℕ) → [] ≡ c ∷ cs → ⊥
nil_cons c cs e = let z : ◌≡◌ {A = ℕ} 0 1 = cc in omega arith

head_of : (c d : ℕ) (cs ds : List ℕ) → d ∷ ds ≡ c ∷ cs → d ≡ c
head_of c d cs ds e = cc

pub split : (s : List ℕ) → Split s
unfolding run
split [] = record {
  digits = [];
  rest = [];
  whole = refl;
  are_digits = no_more;
  counted = refl;
  ends = λ c cs e. absurd (nil_cons c cs e);
}
split (d ∷ ds) = go (leb 16 (digit d)) refl (split ds)
  where
    go : (b : Bool) → leb 16 (digit d) ≡ b → Split ds → Split (d ∷ ds)
    go true e r = record {
      digits = [];
      rest = d ∷ ds;
      whole = refl;
      are_digits = no_more;
      counted = simp e;
      ends = λ c cs q. rw (← head_of c d cs ds q) (leb-true 16 (digit d) e);
    }
    go false e r = record {
      digits = d ∷ r.digits;
      rest = r.rest;
      whole = ap (λ (l : List ℕ). d ∷ l) r.whole;
      are_digits = one_more (leb-false 16 (digit d) e) r.are_digits;
      counted = simp e (ap suc r.counted);
      ends = r.ends;
    }

-- characters with no LF among them and one behind them are a line
pub lines_full : (ds rest : List ℕ) → Inline ds → lines (ds ++ LF ∷ rest) ≡ full ds ∷ lines rest
unfolding lines before
lines_full [] rest none_inline = refl
lines_full (c ∷ cs) rest (inline h t) = simp (h, lines_full cs rest t)

-- where they end the text they are a line without its LF
pub lines_open : (c : ℕ) (ds : List ℕ) → Inline (c ∷ ds) → lines (c ∷ ds) ≡ open_ended (c ∷ ds) ∷ []
unfolding lines before
lines_open c [] (inline h t) = simp h
lines_open c (d ∷ ds) (inline h t) = simp (h, lines_open d ds t)

-- the first of some lines has these characters
abbrev pub Starts : List Raw → List ℕ → Type 0
Starts ls cs = (l : Raw) × (more : List Raw) × (ls ≡ l ∷ more) × (characters l ≡ cs)

starts_before : (c : ℕ) (ls : List Raw) (cs : List ℕ) → Starts ls cs → Starts (before c ls) (c ∷ cs)
unfolding before characters
starts_before c ls cs h = rw h.2 (go h.0 h.3)
  where
    go : (l : Raw) → characters l ≡ cs → Starts (before c (l ∷ h.1)) (c ∷ cs)
    go (full ds) e = (full (c ∷ ds), h.1, refl, ap (λ (l : List ℕ). c ∷ l) e)
    go (open_ended ds) e = (open_ended (c ∷ ds), h.1, refl, ap (λ (l : List ℕ). c ∷ l) e)

-- a character that is no LF stands at the start of its line
starts_at : (x : ℕ) (ls : List Raw) → (ys : List ℕ) × Starts (before x ls) (x ∷ ys)
unfolding before characters
starts_at x [] = ([], (open_ended (x ∷ []), [], refl, refl))
starts_at x (full cs ∷ ls) = (cs, (full (x ∷ cs), ls, refl, refl))
starts_at x (open_ended cs ∷ ls) = (cs, (open_ended (x ∷ cs), ls, refl, refl))

-- and where one more that is no LF follows, it stands in their line
pub lines_start : (ds : List ℕ) (x : ℕ) (rest : List ℕ) → Inline ds → eqb x LF ≡ false
    → (ys : List ℕ) × Starts (lines (ds ++ x ∷ rest)) (ds ++ x ∷ ys)
unfolding lines
lines_start [] x rest none_inline e = simp e (starts_at x (lines rest))
lines_start (c ∷ cs) x rest (inline h t) e =
    let r = lines_start cs x rest t e in
    (r.0, simp h (starts_before c (lines (cs ++ x ∷ rest)) (cs ++ x ∷ r.0) r.1))

-- a pair is a byte only where both are digits
pub pair_some : (h l : ℕ) (o : Option (List ℕ)) (bs : List ℕ) → pair h l o ≡ some bs
    → (h < 16) × (l < 16) × ((cs : List ℕ) × (o ≡ some cs) × (bs ≡ (h * 16 + l) ∷ cs))
unfolding pair
pair_some h l none bs e = let z : ◌≡◌ {A = ℕ} 0 1 = cc in absurd (omega arith)
pair_some h l (some cs) bs e = go (ltb h 16) (ltb l 16) refl refl e
  where
    go : (p q : Bool) → ltb h 16 ≡ p → ltb l 16 ≡ q → choose (p && q) (some ((h * 16 + l) ∷ cs)) none ≡ some bs
        → (h < 16) × (l < 16) × ((xs : List ℕ) × (some cs ≡ some xs) × (bs ≡ (h * 16 + l) ∷ xs))
    go true true e₁ e₂ e = (ltb-true h 16 e₁, ltb-true l 16 e₂, (cs, refl, cc))
    go true false e₁ e₂ e = let z : ◌≡◌ {A = ℕ} 0 1 = cc in absurd (omega arith)
    go false true e₁ e₂ e = let z : ◌≡◌ {A = ℕ} 0 1 = cc in absurd (omega arith)
    go false false e₁ e₂ e = let z : ◌≡◌ {A = ℕ} 0 1 = cc in absurd (omega arith)

-- what stands for bytes is all digits
pub bytes_digits : (cs bs : List ℕ) → bytes cs ≡ some bs → Digits cs
unfolding bytes
bytes_digits [] bs e = no_more
bytes_digits (h ∷ []) bs e = let z : ◌≡◌ {A = ℕ} 0 1 = cc in absurd (omega arith)
bytes_digits (h ∷ l ∷ cs) bs e =
    let r = pair_some (digit h) (digit l) (bytes cs) bs e in
    one_more r.0 (one_more r.1 (bytes_digits cs r.2.0 r.2.1))

pub framed_digits : (l : Raw) (bs : List ℕ) → frame l ≡ some bs → Digits (characters l)
unfolding frame characters
framed_digits (open_ended cs) bs e = let z : ◌≡◌ {A = ℕ} 0 1 = cc in absurd (omega arith)
framed_digits (full []) bs e = no_more
framed_digits (full (c ∷ cs)) bs e = bytes_digits (c ∷ cs) bs e

-- a run of digits with one that is none behind it
digits_inside : (ds : List ℕ) (x : ℕ) (ys : List ℕ) → Digits (ds ++ x ∷ ys) → digit x < 16
digits_inside [] x ys (one_more h t) = h
digits_inside (d ∷ ds) x ys (one_more h t) = digits_inside ds x ys t

-- a line in which a character is no digit is no line
pub frame_broken : (l : Raw) (ds : List ℕ) (x : ℕ) (ys : List ℕ) → characters l ≡ ds ++ x ∷ ys → 16 ≤ digit x
    → frame l ≡ none
frame_broken l ds x ys e h = go (frame l) refl
  where
    go : (o : Option (List ℕ)) → frame l ≡ o → o ≡ none
    go none q = refl
    go (some bs) q =
        let i = digits_inside ds x ys (rw e at (framed_digits l bs q)) in
        absurd (omega arith)

-- two digits make a byte
pair_even : (h l : ℕ) (bs : List ℕ) → h < 16 → l < 16 → pair h l (some bs) ≡ some ((h * 16 + l) ∷ bs)
unfolding pair
pair_even h l bs p q = simp (lt-ltb h 16 p, lt-ltb l 16 q)

-- an even run is bytes, an odd one is none
pub bytes_even : (ds : List ℕ) → Digits ds → length ds % 2 ≡ 0 → (bs : List ℕ) × (bytes ds ≡ some bs)
unfolding bytes
bytes_even [] no_more e = ([], refl)
bytes_even (h ∷ []) (one_more p no_more) e = let z : ◌≡◌ {A = ℕ} 0 1 = omega arith in absurd (omega arith)
bytes_even (h ∷ l ∷ cs) (one_more p (one_more q t)) e =
    let r = bytes_even cs t (omega arith) in
    ((digit h * 16 + digit l) ∷ r.0, rw r.1 (pair_even (digit h) (digit l) r.0 p q))

pub bytes_odd : (ds : List ℕ) → (length ds % 2 ≡ 0 → ⊥) → bytes ds ≡ none
unfolding bytes pair
bytes_odd [] h = absurd (h refl)
bytes_odd (a ∷ []) h = refl
bytes_odd (a ∷ b ∷ cs) h = rw (bytes_odd cs (λ e. h (omega arith)))
