-- The line reading a line at a time. Where a line is due and none is found, the work stops with the answer's number; where one
-- is found, it stops with the number that the bytes meet, or goes on from where the next line begins. So behind some lines of
-- one kind that are read one more is read, and the column with it. Assumes nothing.
use Rattle.std.specs.Prelude.{ℕ, suc, ◌+◌, ◌-◌, ◌≤◌, ◌<◌, Bool, true, false, ◌&&◌, not, List, [], ◌∷◌, ◌++◌, Result, Err, IsErr, length, drop, leb, eqb, ◌≡◌, refl}
use Rattle.std.proofs.Common.{sym, ap, ◌∙◌, arith, append_assoc, append-nil, length-append, eq-eqb, ne_eqb}
use Rattle.std.proofs.lemmas.Bool.{not-true, not-false}
use Rattle.std.proofs.Math.Option.{some}
use Rattle.lines.specs.Line.{Raw, lines, bytes, characters, strict_form, answer}
use Rattle.lines.specs.code.Characters.{part}
use Rattle.lines.specs.declared.Line.{Line}
use Rattle.lines.specs.declared.Line.TheVariants.{Found, NoLine, End}
use Rattle.lines.specs.Refusal.{number, wanted}
use Rattle.lines.specs.declared.Refusal.{Refusal}
use Rattle.lines.specs.declared.Refusal.TheVariants.{NotALine, WrongFrame}
use Rattle.lines.specs.declared.Span.{Span}
use Rattle.lines.proofs.Laws.{IsLine, is_line, not_a_line, none_left, past}
use Rattle.numbers.specs.code.Numbers.{read_bytes}
use Rattle.numbers.proofs.Laws.{bytes_read}
use Rattle.graphs.specs.Parsed.{opening, frame_of, the_last, refusal, first_refusal}
use Rattle.opening.specs.code.Phases.{by_frame, line_read, Told, told_stop, told_after, lines_read}
use Rattle.opening.specs.code.Ends.{counts, opened, none_read, last_read}
use Rattle.lines.proofs.Refusals.{number_not_0}
use Rattle.opening.specs.Answers.{TrackOpened, Track, Fails, Lines, Goes, Stops}

-- an answer that is no found line: where a line is wanted, that is refused
abbrev pub NotFound : Line → Type 0
NotFound l = (e n : ℕ) → l ≡ Found e n → ⊥

pub no_line_refused : (l : Line) → NotFound l → {w : Result Span Refusal} → w ≡ wanted l → IsErr w
unfolding wanted
no_line_refused (Found e n) other want = absurd (other e n refl)
no_line_refused NoLine other want = rw want refl
no_line_refused End other want = rw want refl

-- a line of these characters, with the next line from `next` on
pub record Held (text : List ℕ) (at next : ℕ) (cs : List ℕ) : Type 0 where
  pub end : ℕ
  pub line : IsLine text at end next
  pub stands : (line).held ≡ read_bytes cs

pub held_line : (text : List ℕ) (at : ℕ) {l : Line} {e next : ℕ} {cs : List ℕ}
    → l ≡ answer at (lines (drop at text)) → l ≡ Found e next → cs ≡ part text at e → Held text at next cs
held_line text at {l} {e} {next} {cs} seen found chars =
    let i = is_line text at e next (sym seen ∙ found) in
    record { end = e; line = i; stands = sym (bytes_read cs i.held (ap bytes chars ∙ i.stands)) }

-- a line that is due
module _ {A : Type 0} (stops : ℕ → A) (meets : List ℕ → ℕ) (leads : List ℕ → ℕ → List Raw → A)
    (text : List ℕ) (at : ℕ) where
  abbrev here : A
  here = line_read stops meets leads at (lines (drop at text))

  no_line : (l : Line) → l ≡ answer at (lines (drop at text)) → {r : Refusal} → wanted l ≡ Err r
      → stops (number r) ≡ here
  unfolding wanted number line_read by_frame
  no_line (Found e n) q h = let z : ◌≡◌ {A = ℕ} 0 1 = cc in absurd (omega arith)
  no_line NoLine q {r} h =
      let b = not_a_line strict_form text at (sym q) in
      let is : ◌≡◌ {A = Refusal} NotALine r = cc in rw (← is, b.first, b.broken)
  no_line End q {r} h =
      let is : ◌≡◌ {A = Refusal} WrongFrame r = cc in rw (← is, none_left strict_form text at (sym q))

  none_stops : {l : Line} → l ≡ answer at (lines (drop at text)) → {w : Result Span Refusal} → w ≡ wanted l
      → {r : Refusal} → w ≡ Err r → stops (number r) ≡ here
  none_stops {l} q want e = no_line l q (sym want ∙ e)

  module _ {next : ℕ} {cs : List ℕ} (i : Held text at next cs) {x : ℕ} (met : x ≡ meets (read_bytes cs)) where
    abbrev framed : A
    framed = by_frame stops meets leads next (lines (drop next text)) (some (read_bytes cs))

    is_framed : framed ≡ here
    unfolding line_read characters
    is_framed = rw (i.line.first, i.line.framed, i.stands, past text at i.end next i.line)

    line_stops : (x ≡ 0 → ⊥) → stops x ≡ here
    unfolding by_frame
    line_stops h = let e : stops x ≡ framed = rw (← met) (simp (ne_eqb x 0 h)) in e ∙ is_framed

    line_leads : x ≡ 0 → leads (read_bytes cs) next (lines (drop next text)) ≡ here
    unfolding by_frame
    line_leads h =
        let e : leads (read_bytes cs) next (lines (drop next text)) ≡ framed =
        rw (← met) (simp (eq-eqb x 0 h)) in
        e ∙ is_framed

-- line 1
module _ (text : List ℕ) where
  abbrev first_met : List ℕ → ℕ
  first_met bs = first_refusal (frame_of bs)

  abbrev counted_on : List ℕ → ℕ → List Raw → TrackOpened
  counted_on bs next ls = counts next (frame_of bs)

  pub opened_none : {l : Line} → l ≡ answer 0 (lines text) → {w : Result Span Refusal} → w ≡ wanted l
      → {r : Refusal} → w ≡ Err r → Fails (number r) ≡ opened (lines text)
  unfolding opened
  opened_none q want e = none_stops Fails first_met counted_on text 0 q want e

  module _ {next : ℕ} {cs : List ℕ} (i : Held text 0 next cs) where
    pub opened_stops : {x : ℕ} → x ≡ first_refusal (frame_of (read_bytes cs)) → (x ≡ 0 → ⊥)
        → Fails x ≡ opened (lines text)
    unfolding opened
    opened_stops e h = line_stops Fails first_met counted_on text 0 i e h

    module _ {e n a s : ℕ} (opens : frame_of (read_bytes cs) ≡ opening e n a s) {b : Bool}
        (tested : b ≡ not (eqb e 1 && (leb n 4096 && (leb a 8192 && leb s 4096)))) where
      abbrev fit : Bool
      fit = eqb e 1 && (leb n 4096 && (leb a 8192 && leb s 4096))

      pub opened_outside : b ≡ true → Fails 3 ≡ opened (lines text)
      unfolding first_refusal
      opened_outside h =
          opened_stops (rw (opens, not-true fit (sym tested ∙ h))) (λ q. omega (arith, q))

      pub opened_inside : b ≡ false → Track n a s next ≡ opened (lines text)
      unfolding opened first_refusal counts
      opened_inside h =
          let met : 0 ≡ first_refusal (frame_of (read_bytes cs)) = rw (opens, not-false fit (sym tested ∙ h)) in
          let told : Track n a s next ≡ counts next (frame_of (read_bytes cs)) = rw opens in
          told ∙ line_leads Fails first_met counted_on text 0 i met refl

-- the last line, and what stands behind it
module _ (text : List ℕ) (at k : ℕ) where
  pub behind_end : answer at (lines (drop at text)) ≡ End → Goes at ≡ none_read k at (lines (drop at text))
  unfolding none_read
  behind_end e = rw (none_left strict_form text at e)

  pub behind_no_line : answer at (lines (drop at text)) ≡ NoLine → Stops 1 k ≡ none_read k at (lines (drop at text))
  unfolding none_read by_frame
  behind_no_line e = let b = not_a_line strict_form text at e in rw (b.first, b.broken)

  pub behind_line : {e m : ℕ} → answer at (lines (drop at text)) ≡ Found e m
      → Stops 2 k ≡ none_read k at (lines (drop at text))
  unfolding none_read by_frame
  behind_line {e} {m} h = let b = is_line text at e m h in rw (b.first, b.framed)

  abbrev halted : ℕ → Lines
  halted r = Stops r k

  abbrev last_met : List ℕ → ℕ
  last_met bs = refusal 0 0 the_last (frame_of bs)

  abbrev ended_on : List ℕ → ℕ → List Raw → Lines
  ended_on bs next ls = none_read (k + 1) next ls

  pub last_none : {l : Line} → l ≡ answer at (lines (drop at text)) → {w : Result Span Refusal} → w ≡ wanted l
      → {r : Refusal} → w ≡ Err r → Stops (number r) k ≡ last_read k at (lines (drop at text))
  unfolding last_read
  last_none q want e = none_stops halted last_met ended_on text at q want e

  module _ {next : ℕ} {cs : List ℕ} (i : Held text at next cs) where
    pub last_stops : 2 ≡ refusal 0 0 the_last (frame_of (read_bytes cs))
        → Stops 2 k ≡ last_read k at (lines (drop at text))
    unfolding last_read
    last_stops met = line_stops halted last_met ended_on text at i met (λ q. omega (arith, q))

    pub last_goes : 0 ≡ refusal 0 0 the_last (frame_of (read_bytes cs)) → {t : Lines}
        → t ≡ none_read (k + 1) next (lines (drop next text)) → t ≡ last_read k at (lines (drop at text))
    unfolding last_read
    last_goes met e = e ∙ line_leads halted last_met ended_on text at i met refl

-- lines of one kind, m of them from line k on, and the column that what they have said stands in
module _ {A : Type 0} (meets : List ℕ → ℕ) (says : List ℕ → A) (text : List ℕ) (m k from : ℕ)
    (column : List A → List ℕ) where
  abbrev all : Told A
  all = lines_read meets says m k from (lines (drop from text))

  -- the answer, and the column at the end
  abbrev pub Ends : List ℕ → Lines → Type 0
  Ends new r = (r ≡ all.answer) × (new ≡ column all.said)

  -- so many of them are read up to a cursor: all lines tell what these have said, and behind it what the others do
  pub record Sofar (new : List ℕ) (i at : ℕ) : Type 0 where
    pub so_said : List A
    pub counted : length so_said ≡ i
    pub holds : new ≡ column so_said
    pub ahead : all ≡ told_after so_said (lines_read meets says (m - i) (k + i) at (lines (drop at text)))

  pub sofar_none : {old : List ℕ} → old ≡ column [] → Sofar old 0 from
  sofar_none e = record {
    so_said = [];
    counted = refl;
    holds = e;
    ahead = let j : m - 0 ≡ m = omega arith in let l : k + 0 ≡ k = omega arith in rw (j, l);
  }

  module _ {new : List ℕ} {i at : ℕ} (s : Sofar new i at) where
    ends : {r : Lines}
        → lines_read meets says (m - i) (k + i) at (lines (drop at text)) ≡ record { answer = r; said = [] }
        → Ends new r
    ends e =
        let w = s.ahead ∙ ap (told_after s.so_said) e in
        let all_said = ap (λ (t : Told A). t.said) w ∙ append-nil s.so_said in
        (sym (ap (λ (t : Told A). t.answer) w), s.holds ∙ ap column (sym all_said))

    pub all_read : i ≤ m → m ≤ i → Ends new (Goes at)
    unfolding lines_read
    all_read h j = let z : m - i ≡ 0 = omega arith in ends (rw z)

    module _ (more : i < m) where
      abbrev halts : ℕ → Told A
      halts = told_stop (k + i)

      abbrev others : List ℕ → ℕ → List Raw → Told A
      others bs next ls = told_after (says bs ∷ []) (lines_read meets says (m - (i + 1)) (k + i + 1) next ls)

      one_more : lines_read meets says (m - i) (k + i) at (lines (drop at text))
          ≡ line_read halts meets others at (lines (drop at text))
      unfolding lines_read
      one_more = let j : m - i ≡ suc (m - (i + 1)) = omega arith in rw j

      pub none_ends : {l : Line} → l ≡ answer at (lines (drop at text)) → {w : Result Span Refusal} → w ≡ wanted l
          → {r : Refusal} → w ≡ Err r → {j : ℕ} → j ≡ k + i → Ends new (Stops (number r) j)
      none_ends q want e {j} n = rw n (ends (one_more ∙ sym (none_stops halts meets others text at q want e)))

      module _ {next : ℕ} {cs : List ℕ} (c : Held text at next cs) {x : ℕ} (met : x ≡ meets (read_bytes cs)) where
        pub line_ends : (r : Refusal) → x ≡ number r → {j : ℕ} → j ≡ k + i → Ends new (Stops (number r) j)
        line_ends r e {j} n =
            rw (n, ← e) (ends (one_more ∙ sym (line_stops halts meets others text at c met (λ z.
            number_not_0 r (sym e ∙ z)))))

        pub line_more : x ≡ 0 → {new' : List ℕ} → new' ≡ column (s.so_said ++ (says (read_bytes cs) ∷ []))
            → Sofar new' (i + 1) next
        line_more z {new'} e =
            let l : k + i + 1 ≡ k + (i + 1) = omega arith in
            let left = lines_read meets says (m - (i + 1)) (k + i + 1) next (lines (drop next text)) in
            let one = says (read_bytes cs) ∷ [] in
            record {
              so_said = s.so_said ++ one;
              counted = omega (arith, s.counted, length-append s.so_said one);
              holds = e;
              ahead = s.ahead
                  ∙ ap (told_after s.so_said) (one_more ∙ sym (line_leads halts meets others text at c met z))
                  ∙ ap (λ (xs : List A). record { answer = left.answer; said = xs })
                  (sym (append_assoc s.so_said one left.said))
                  ∙ ap (λ (j : ℕ). told_after (s.so_said ++ one)
                  (lines_read meets says (m - (i + 1)) j next (lines (drop next text)))) l;
            }
