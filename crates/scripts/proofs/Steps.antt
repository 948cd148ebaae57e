-- The answer at a cursor by what the line reader and the judging say there: no line, a refused line, or a
-- line that asks for a step. A found line is the first of the script's lines, and its characters stand for
-- the frame that is judged. Assumes nothing.
use Rattle.std.proofs.Common.{ℕ, ◌≤◌, ◌-◌, ◌/◌, ◌≡◌, refl, sym, ap, ◌∙◌, Bool, true, false, ◌&&◌, List, [], map}
use Rattle.std.proofs.Common.{arith, length, take, drop, get_or, length-drop, leb, eqb, leb-true}
use Rattle.std.proofs.Math.Option.{some}
use Rattle.lines.specs.Line.{choose, number, lines, bytes, characters}
use Rattle.lines.specs.Refusal.{number as number_of}
use Rattle.lines.specs.code.Characters.{part}
use Rattle.lines.specs.declared.Refusal.{Refusal}
use Rattle.lines.specs.declared.Line.{Line}
use Rattle.lines.specs.declared.Line.TheVariants.{Found, NoLine, End as NoneLeft}
use Rattle.lines.proofs.Digits.{both}
use Rattle.lines.proofs.Laws.{not_a_line, none_left}
use Rattle.lines.proofs.Refusals.{number_not_0}
use Rattle.desk_lines.specs.DeskLine.{small, desk_form, desk_answer}
use Rattle.desk_lines.proofs.Laws.{DeskLine, desk_line}
use Rattle.numbers.specs.code.Numbers.{read_bytes}
use Rattle.numbers.proofs.Laws.{read_length, desk_read}
use Rattle.scripts.specs.ScriptStep.{ScriptStep, Address, Refused, End}
use Rattle.scripts.specs.Script.{most, digits, well_formed, all_digits, in_range, asked, Asked, address}
use Rattle.scripts.specs.Script.{refused, digits_of, told, answer, left}
use Rattle.scripts.specs.code.Answers.{refusal}

-- what a frame that asks for a step is
pub record IsStep (bs : List ℕ) : Type 0 where
  pub asks : asked (some bs) ≡ address (digits bs)
  pub headed : 3 ≤ length bs
  pub few : length (digits bs) ≤ most
  pub fit : all_digits (digits bs) ≡ true

pub is_step : (bs : List ℕ) → 0 ≡ refusal (asked (some bs)) → IsStep bs
unfolding refusal asked well_formed in_range
is_step bs z = go (well_formed bs) (in_range (digits bs)) refl refl z
  where
    go : (w r : Bool) → well_formed bs ≡ w → in_range (digits bs) ≡ r
        → 0 ≡ refusal (choose w (choose r (address (digits bs)) (refused 3)) (refused 2)) → IsStep bs
    go true true w r z =
        let same : Bool = eqb (number (take 2 (drop 1 bs))) (length (digits bs)) in
        let a = both (eqb (get_or bs 0 0) 0x20) (leb 3 (length bs) && same) w in
        let b = both (leb 3 (length bs)) same a.1 in
        let d = both (leb (length (digits bs)) most) (all_digits (digits bs)) r in
        record {
          asks = simp (w, r);
          headed = leb-true 3 (length bs) b.0;
          few = leb-true (length (digits bs)) most d.0;
          fit = d.1;
        }
    go true false w r z = absurd (omega arith)
    go false r w q z = absurd (omega arith)

-- a refusal is told by its number
pub is_refused : (bs : List ℕ) (r : Refusal) → number_of r ≡ refusal (asked (some bs))
    → asked (some bs) ≡ refused (number_of r)
unfolding refusal
is_refused bs r e = go (asked (some bs)) e
  where
    go : (a : Asked) → number_of r ≡ refusal a → a ≡ refused (number_of r)
    go (address ds) e = absurd (number_not_0 r e)
    go (refused n) e = ap refused (sym e)

-- what is neither a line nor the end is no line
pub neither : (l : Line) → (l ≡ NoneLeft → ⊥) → ((e n : ℕ) → l ≡ Found e n → ⊥) → l ≡ NoLine
neither (Found e n) end line = absurd (line e n refl)
neither NoLine end line = refl
neither NoneLeft end line = absurd (end refl)

module _ (s : List ℕ) (at : ℕ) where
  -- no line stands at the cursor
  pub record NoStep (step : ScriptStep) : Type 0 where
    pub told : step ≡ answer at (lines (drop at s))
    pub bare : left (lines (drop at s)) ≡ []

  -- a line of these characters asks for a step, and the next line is from n on
  pub record StepAt (n : ℕ) (cs : List ℕ) : Type 0 where
    pub long : 3 ≤ length cs / 2
    pub few : length cs / 2 - 3 ≤ most
    pub counted : length (digits (read_bytes cs)) ≡ length cs / 2 - 3
    pub told : Address (length cs / 2 - 3) n ≡ answer at (lines (drop at s))
    pub stored : left (lines (drop at s)) ≡ digits (read_bytes cs)

  pub no_line : desk_answer at (lines (drop at s)) ≡ NoLine → NoStep (Refused 1)
  unfolding answer left told asked digits_of
  no_line q =
      let l = not_a_line desk_form s at q in
      record { told = rw (l.first, l.broken); bare = rw (l.first, l.broken) }

  pub script_ends : desk_answer at (lines (drop at s)) ≡ NoneLeft → NoStep End
  unfolding answer left
  script_ends q =
      let l = none_left desk_form s at q in
      record { told = rw l; bare = rw l }

  -- the line that the finder found
  module _ (e n : ℕ) (found : desk_answer at (lines (drop at s)) ≡ Found e n) where
    line : DeskLine s at e n
    line = desk_line s at e n found

    -- its characters
    module _ (cs : List ℕ) (own : cs ≡ part s at e) where
      stands : line.held ≡ read_bytes cs
      stands = sym (desk_read cs line.held (ap (λ (x : List ℕ). bytes (map small x)) own ∙ line.stands))

      answered : (a : Asked) → asked (some (read_bytes cs)) ≡ a → told n a ≡ answer at (lines (drop at s))
      unfolding answer characters
      answered a q = rw (line.first, line.framed, stands, q, line.past)

      leaves : (a : Asked) → asked (some (read_bytes cs)) ≡ a → left (lines (drop at s)) ≡ digits_of a
      unfolding left
      leaves a q = rw (line.first, line.framed, stands, q)

      pub refused_line : (r : Refusal) → number_of r ≡ refusal (asked (some (read_bytes cs))) → NoStep (Refused (number_of r))
      unfolding told digits_of
      refused_line r judged =
          let q = is_refused (read_bytes cs) r judged in
          record { told = answered (refused (number_of r)) q; bare = leaves (refused (number_of r)) q }

      pub step_line : 0 ≡ refusal (asked (some (read_bytes cs))) → StepAt n cs
      unfolding told digits_of
      step_line judged =
          let bs = read_bytes cs in
          let q = is_step bs judged in
          let k : length bs ≡ length cs / 2 = read_length cs in
          let d : length (digits bs) ≡ length cs / 2 - 3 = omega (arith, length-drop 3 bs) in
          record {
            long = omega arith;
            few = omega arith;
            counted = d;
            told = rw (← d) (answered (address (digits bs)) q.asks);
            stored = leaves (address (digits bs)) q.asks;
          }
