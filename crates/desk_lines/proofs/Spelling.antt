-- The strict spelling of a desk's line: a strict line is its own, a desk's line has that one and no other, and it says the same.
-- Assumes nothing.
use Rattle.std.specs.Prelude.{ℕ, ◌≤◌, ◌+◌, ◌≡◌, refl, Bool, true, false, ◌&&◌, List, [], ◌∷◌, map, length}
use Rattle.std.specs.Prelude.{leb, eqb}
use Rattle.std.proofs.Common.{sym, ◌∙◌, arith, leb-true, ne_eqb}
use Rattle.std.proofs.lemmas.List.{length-map}
use Rattle.std.proofs.Math.Option.{Option, none, some}
use Rattle.lines.specs.Line.{choose, LF, Raw, full, open_ended, frame, characters}
use Rattle.lines.proofs.Digits.{both, Digits, no_more, one_more, Inline, none_inline, inline, framed_digits}
use Rattle.lines.proofs.Written.{line_written}
use Rattle.desk_lines.specs.DeskLine.{CR, small, without_CR, strict, desk_frame}
use Rattle.desk_lines.specs.Respelled.{respelled_by, respelled_line}
use Rattle.desk_lines.proofs.Capitals.{small_digit}
use Rattle.desk_lines.proofs.Ends.{digits_kept}
use Rattle.desk_lines.proofs.Laws.{own_short}

-- strict digits stay
digits_stay : (cs : List ℕ) → Digits cs → map small cs ≡ cs
digits_stay [] no_more = refl
digits_stay (c ∷ cs) (one_more h t) = rw (small_digit c h, digits_stay cs t)

digits_small : (cs : List ℕ) → Digits cs → Digits (map small cs)
digits_small cs t = rw (digits_stay cs t) t

-- so a strict line is its own strict spelling, and a desk's line with the same bytes
pub strict_stays : (l : Raw) (bs : List ℕ) → frame l ≡ some bs → strict l ≡ l
unfolding strict characters
strict_stays (open_ended cs) bs e = refl
strict_stays (full cs) bs e =
    let t = framed_digits (full cs) bs e in
    rw (digits_kept cs (digits_small cs t), digits_stay cs t)

pub strict_taken : (l : Raw) (bs : List ℕ) → frame l ≡ some bs → desk_frame l ≡ some bs
unfolding desk_frame
strict_taken l bs e = rw (strict_stays l bs e) e

-- the strict spelling of a desk's line has its bytes, and no other line that is strict has them
pub spelling_says : (l : Raw) (bs : List ℕ) → desk_frame l ≡ some bs → frame (strict l) ≡ some bs
unfolding desk_frame
spelling_says l bs e = e

pub one_spelling : (l m : Raw) (bs : List ℕ) → desk_frame l ≡ some bs → frame m ≡ some bs → m ≡ strict l
one_spelling l m bs e q = line_written m bs q ∙ sym (line_written (strict l) bs (spelling_says l bs e))

-- a line respelled says what it said, and the strict reader reads it so
respelled_says : (l : Raw) (o : Option (List ℕ)) → desk_frame l ≡ o
    → (desk_frame (respelled_by o l) ≡ o) × (frame (respelled_by o l) ≡ o)
unfolding respelled_by
respelled_says l none e = (e, no_strict (frame l) refl)
  where
    no_strict : (p : Option (List ℕ)) → frame l ≡ p → p ≡ none
    no_strict none q = refl
    no_strict (some bs) q = sym (strict_taken l bs q) ∙ e
respelled_says l (some bs) e =
    let s = spelling_says l bs e in
    (strict_taken (strict l) bs s, s)

pub respelled_same : (l : Raw) → desk_frame (respelled_line l) ≡ desk_frame l
unfolding respelled_line
respelled_same l = (respelled_says l (desk_frame l) refl).0

pub respelled_strictly : (l : Raw) → frame (respelled_line l) ≡ desk_frame l
unfolding respelled_line
respelled_strictly l = (respelled_says l (desk_frame l) refl).1

-- it is no longer, and has no LF inside where there was none
pub record Within (l m : Raw) : Type 0 where
  pub no_longer : length (characters m) ≤ length (characters l)
  pub stays_inline : Inline (characters l) → Inline (characters m)

small_feed : (c : ℕ) → eqb c LF ≡ false → eqb (small c) LF ≡ false
unfolding small
small_feed c h = go (leb 65 c && leb c 70) refl
  where
    go : (b : Bool) → leb 65 c && leb c 70 ≡ b → eqb (choose b (c + 32) c) LF ≡ false
    go true e = let low = leb-true 65 c (both (leb 65 c) (leb c 70) e).0 in ne_eqb (c + 32) LF (λ q. omega arith)
    go false e = h

small_inline : (cs : List ℕ) → Inline cs → Inline (map small cs)
small_inline [] none_inline = none_inline
small_inline (c ∷ cs) (inline h t) = inline (small_feed c h) (small_inline cs t)

without_inline : (cs : List ℕ) → Inline cs → Inline (without_CR cs)
unfolding without_CR
without_inline [] none_inline = none_inline
without_inline (c ∷ []) (inline h t) = go (eqb c CR)
  where
    go : (b : Bool) → Inline (choose b [] (c ∷ []))
    go true = none_inline
    go false = inline h t
without_inline (c ∷ d ∷ cs) (inline h t) = inline h (without_inline (d ∷ cs) t)

respelled_within : (o : Option (List ℕ)) (l : Raw) → Within l (respelled_by o l)
unfolding respelled_by strict characters
respelled_within none l = record { no_longer = omega arith; stays_inline = λ t. t }
respelled_within (some bs) (open_ended cs) = record { no_longer = omega arith; stays_inline = λ t. t }
respelled_within (some bs) (full cs) = record {
  no_longer = omega (arith, length-map (without_CR cs) small, own_short cs);
  stays_inline = λ t. small_inline (without_CR cs) (without_inline cs t);
}

-- a line with its LF keeps it, and one without it stays
respelled_full_by : (o : Option (List ℕ)) (cs : List ℕ)
    → (ds : List ℕ) × (respelled_by o (full cs) ≡ full ds) × Within (full cs) (full ds)
unfolding respelled_by strict
respelled_full_by none cs = (cs, refl, respelled_within none (full cs))
respelled_full_by (some bs) cs = (map small (without_CR cs), refl, respelled_within (some bs) (full cs))

pub respelled_full : (cs : List ℕ)
    → (ds : List ℕ) × (respelled_line (full cs) ≡ full ds) × Within (full cs) (full ds)
unfolding respelled_line
respelled_full cs = respelled_full_by (desk_frame (full cs)) cs

pub respelled_open : (cs : List ℕ) → respelled_line (open_ended cs) ≡ open_ended cs
unfolding respelled_line respelled_by desk_frame strict frame
respelled_open cs = refl
