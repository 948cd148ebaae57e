-- What a text says at a cursor. Where a line is wanted and there is none, the refusal's number is what is said; where there is
-- one, its characters are a part of the text that stands for bytes, and the frame that was read of it is theirs. Assumes nothing.
use Rattle.std.proofs.Common.{ℕ, ◌+◌, ◌≡◌, refl, sym, ap, ◌∙◌, List, [], ◌∷◌, map, length, drop, Bool}
use Rattle.std.proofs.Common.{true, false, not, eqb, Result, Err, IsErr, arith, ne_eqb}
use Rattle.std.proofs.lemmas.Bool.{not-true, not-false}
use Rattle.std.proofs.Math.Option.{Option, none, some}
use Rattle.lines.specs.Line.{Raw, lines, bytes, characters, seen, answer_of}
use Rattle.lines.specs.Refusal.{number, wanted}
use Rattle.lines.specs.code.Characters.{part}
use Rattle.lines.specs.declared.Line.{Line}
use Rattle.lines.specs.declared.Line.TheVariants.{Found, NoLine, End}
use Rattle.lines.specs.declared.Span.{Span}
use Rattle.lines.specs.declared.Refusal.{Refusal}
use Rattle.lines.specs.declared.Refusal.TheVariants.{NotALine, WrongFrame}
use Rattle.lines.proofs.Refusals.{counted}
use Rattle.desk_lines.specs.DeskLine.{small, desk_frame, desk_answer}
use Rattle.desk_lines.proofs.Laws.{DeskLine, desk_line}
use Rattle.numbers.specs.code.Numbers.{read_bytes}
use Rattle.numbers.proofs.Laws.{desk_read}
use Rattle.frames.specs.TableFrame.{frame_of, first_refusal}
use Rattle.frames.specs.declared.Frame.{Frame}
use Rattle.frames.specs.declared.Frame.TheVariants.{Opening, Definition, Term, Closing, Wrong}
use Rattle.refusals.specs.code.Said.{Goes, Stops, Table, Fails, heard, said, opens, opened_by, opened}

-- an answer other than a found line, and a frame other than line 1's
abbrev pub NotFound : Line → Type 0
NotFound l = (e n : ℕ) → l ≡ Found e n → ⊥

abbrev pub NotOpening : Frame → Type 0
NotOpening f = (ed dd ee : ℕ) → f ≡ Opening ed dd ee → ⊥

-- where a line is wanted and there is none, that is refused
pub no_line_refused : (l : Line) → NotFound l → {w : Result Span Refusal} → w ≡ wanted l → IsErr w
unfolding wanted
no_line_refused (Found e n) other want = absurd (other e n refl)
no_line_refused NoLine other want = rw want refl
no_line_refused End other want = rw want refl

-- and by its number: 1 where there is something else, and 2 where there is nothing
no_line : {A : Type 0} (told : ℕ → A) (of : List Raw → A) → told 2 ≡ of []
    → ((l : Raw) (ls : List Raw) → desk_frame l ≡ none → told 1 ≡ of (l ∷ ls))
    → (at : ℕ) (ls : List Raw) (r : Refusal) → Err r ≡ wanted (desk_answer at ls) → told (number r) ≡ of ls
unfolding wanted answer_of seen number
no_line told of nothing broken at [] r q =
    let same : r ≡ WrongFrame = cc in
    ap (λ x. told (number x)) same ∙ nothing
no_line told of nothing broken at (l ∷ ls) r q = go _ _ (desk_frame l) refl q
  where
    go : (e n : ℕ) (o : Option (List ℕ)) → desk_frame l ≡ o → Err r ≡ wanted (seen e n o) → told (number r) ≡ of (l ∷ ls)
    go e n none b q = let same : r ≡ NotALine = cc in ap (λ x. told (number x)) same ∙ broken l ls b
    go e n (some bs) b q = let z : ◌≡◌ {A = ℕ} 0 1 = cc in absurd (omega arith)

module _ (s : List ℕ) (at : ℕ) {l : Line} (seen : l ≡ desk_answer at (lines (drop at s))) {r : Refusal}
    (none : Err r ≡ wanted l) where
  pub said_none : (met : Frame → ℕ) → Stops (number r) ≡ said met at (lines (drop at s))
  unfolding said heard
  said_none met = no_line Stops (said met at) refl (λ l ls b. rw b) at _ r (none ∙ ap wanted seen)

  pub opened_none : Fails (number r) ≡ opened (lines (drop at s))
  unfolding opened opened_by
  opened_none = no_line Fails opened refl (λ l ls b. rw b) at _ r (none ∙ ap wanted seen)

-- where there is one: its frame by its bytes
pub record FrameAt (s : List ℕ) (at next : ℕ) (f : Frame) : Type 0 where
  pub line : Raw
  pub held : List ℕ
  pub first : lines (drop at s) ≡ line ∷ lines (drop next s)
  pub framed : desk_frame line ≡ some held
  pub past : at + length (characters line) + 1 ≡ next
  pub is : f ≡ frame_of held

pub frame_at : (s : List ℕ) (at : ℕ) {l : Line} → l ≡ desk_answer at (lines (drop at s)) → {e n : ℕ} → l ≡ Found e n
    → {cs : List ℕ} → cs ≡ part s at e → {f : Frame} → f ≡ frame_of (read_bytes cs) → FrameAt s at n f
frame_at s at finds {e} {n} found {cs} chars read =
    let i : DeskLine s at e n = desk_line s at e n (sym finds ∙ found) in
    record {
      line = i.line;
      held = i.held;
      first = i.first;
      framed = i.framed;
      past = i.past;
      is = read ∙ ap frame_of (desk_read cs i.held (ap (λ x. bytes (map small x)) chars ∙ i.stands));
    }

module _ {s : List ℕ} {at n : ℕ} {f : Frame} (i : FrameAt s at n f) (met : Frame → ℕ) where
  said_line : heard met n (some i.held) ≡ said met at (lines (drop at s))
  unfolding said characters
  said_line = rw (i.first, i.framed, i.past)

  pub said_stops : (r : Refusal) → number r ≡ met f → Stops (number r) ≡ said met at (lines (drop at s))
  unfolding heard
  said_stops r meets =
      let same : number r ≡ met (frame_of i.held) = meets ∙ ap met i.is in
      let some : eqb (number r) 0 ≡ false = ne_eqb _ 0 (λ q. omega (arith, counted r)) in
      rw (← same) (simp some) ∙ said_line

  pub said_goes : 0 ≡ met f → Goes f n ≡ said met at (lines (drop at s))
  unfolding heard
  said_goes meets =
      let same : 0 ≡ met (frame_of i.held) = meets ∙ ap met i.is in
      rw (← same, ← i.is) refl ∙ said_line

module _ {s : List ℕ} {n : ℕ} {f : Frame} (i : FrameAt s 0 n f) where
  opened_line : opens n f ≡ opened (lines s)
  unfolding opened opened_by characters
  opened_line =
      let p : length (characters i.line) + 1 ≡ n = omega (arith, i.past) in
      rw (i.first, i.framed, p, i.is)

  pub opened_other : NotOpening f → Fails 2 ≡ opened (lines s)
  unfolding opens
  opened_other h = go f h ∙ opened_line
    where
      go : (f : Frame) → NotOpening f → Fails 2 ≡ opens n f
      go (Opening ed dd ee) h = absurd (h ed dd ee refl)
      go (Definition k) h = refl
      go (Term k p) h = refl
      go (Closing t) h = refl
      go Wrong h = refl

  module _ {ed dd ee : ℕ} (o : f ≡ Opening ed dd ee) {x : Bool} (tested : x ≡ not (eqb (first_refusal (Opening ed dd ee)) 0)) where
    pub opened_outside : x ≡ true → Fails 3 ≡ opened (lines s)
    unfolding opens
    opened_outside h =
        let outside = not-true _ (sym tested ∙ h) in
        sym (rw (o, outside)) ∙ opened_line

    pub opened_inside : x ≡ false → Table dd ee n ≡ opened (lines s)
    unfolding opens
    opened_inside h =
        let inside = not-false _ (sym tested ∙ h) in
        sym (rw (o, inside)) ∙ opened_line
