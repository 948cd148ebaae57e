-- The loop over a script's lines: what the whole script comes to is what the lines from the cursor on come to,
-- behind the events so far. One law for the start, one for the way out and one for a turn. Assumes nothing.
use Rattle.std.proofs.Common.{ℕ, ◌+◌, ◌*◌, ◌≤◌, ◌<◌, ◌≡◌, refl, sym, ap, ◌∙◌, List, [], ◌∷◌, ◌++◌, map}
use Rattle.std.proofs.Common.{append_assoc, append-nil, arith, length, drop, replicate}
use Rattle.std.proofs.lemmas.List.{map-append}
use Rattle.std.proofs.lemmas.List.Edits.{sets}
use Rattle.std.proofs.Math.Option.{Option, none, some}
use Rattle.std.proofs.Math.Seq.{length-sets}
use Rattle.lines.specs.Line.{Raw, characters, seen, answer_of, lines, text, hex}
use Rattle.lines.specs.declared.Line.TheVariants.{Found}
use Rattle.desk_lines.specs.DeskLine.{strict, desk_frame, desk_answer}
use Rattle.desk_lines.proofs.Laws.{desk_line}
use Rattle.scripts.specs.Script.{Asked, address, refused, asked, left}
use Rattle.scripts.specs.Script as Script
use Rattle.rules.specs.declared.Event.{Event}
use Rattle.rules.specs.declared.Event.TheVariants.{Tau, Tick, Visible}
use Rattle.runs.specs.code.Doors as run
use Rattle.playing.specs.code.Playing as plays
use Rattle.runs.specs.Answer.{Answer, Accepted}
use Rattle.runs.specs.Answer as Answers
use Rattle.playing.specs.Played.{Played, Stepped, Refused, End}
use Rattle.spelling.specs.words.Puts.{Puts}
use Rattle.spelling.proofs.Putting.{puts_then}
use Rattle.spelling.proofs.Spelt.{text_append}
use Rattle.listing.specs.Listing.{script_room}
use Rattle.telling.specs.ListingFrame.{step_frame}
use Rattle.listing.specs.code.Told.{StepsPut}
use Rattle.listing.specs.code.Told.{Stopped, number_of, stops, in_front, by_played, stepped, from_words}

-- two lines that come to the same but for where the next one begins
record Alike (y z : plays.LinePlayed) : Type 0 where
  same_nodes : y.nodes ≡ z.nodes
  same_track : y.track ≡ z.track
  same_counters : y.counters ≡ z.counters
  goes : (n : ℕ) (rest : Stopped) → by_played n y rest y.played ≡ by_played n z rest z.played

-- what a line that is no step was
abbrev pub Other : Played → Type 0
Other r = (e : Event) (next : ℕ) → r ≡ Stepped e next → ⊥

pub other_end : {r : Played} → r ≡ End → Other r
other_end is e next same = let z : ◌≡◌ {A = ℕ} 0 1 = cc in absurd (omega arith)

pub other_refused : {r : Played} {n : ℕ} → r ≡ Refused n → Other r
other_refused is e next same = let z : ◌≡◌ {A = ℕ} 0 1 = cc in absurd (omega arith)

-- such a line stops
by_other : (n : ℕ) (z : plays.LinePlayed) (rest : Stopped) (r : Played) → Other r
    → by_played n z rest r ≡ stops (number_of r) n z
unfolding by_played number_of
by_other n z rest (Stepped e next) h = absurd (h e next refl)
by_other n z rest (Refused r) h = refl
by_other n z rest End h = refl

-- where a line stands enters only where the next one begins, and a step tells that
module _ (p x w g c : List ℕ) where
  answer_anywhere : (m k n : ℕ) (s : run.Stepped) (rest : Stopped) (a : Answer)
      → by_played n (plays.step_played p x w g c m s) rest (plays.of_answer m a)
      ≡ by_played n (plays.step_played p x w g c k s) rest (plays.of_answer k a)
  unfolding by_played plays.of_answer plays.step_played stops
  answer_anywhere m k n s rest (Accepted e) = refl
  answer_anywhere m k n s rest (Answers.Refused r) = refl

  asked_anywhere : (m k : ℕ) (a : Asked) (ds : List ℕ)
      → Alike (plays.by_line p x w g c (Script.told m a) ds) (plays.by_line p x w g c (Script.told k a) ds)
  unfolding Script.told plays.by_line plays.step_played
  asked_anywhere m k (address es) ds =
      let s = run.stepped p x (length es) ds w g c in
      record {
        same_nodes = refl;
        same_track = refl;
        same_counters = refl;
        goes = λ n rest. answer_anywhere m k n s rest s.answer;
      }
  asked_anywhere m k (refused r) ds =
      record { same_nodes = refl; same_track = refl; same_counters = refl; goes = λ n rest. refl }

  answer_next : (m : ℕ) (a : Answer) (e : Event) (next : ℕ) → plays.of_answer m a ≡ Stepped e next → m ≡ next
  unfolding plays.of_answer
  answer_next m (Accepted s) e next h = cc
  answer_next m (Answers.Refused r) e next h = let z : ◌≡◌ {A = ℕ} 0 1 = cc in absurd (omega arith)

  asked_next : (m : ℕ) (a : Asked) (ds : List ℕ) (e : Event) (next : ℕ)
      → (plays.by_line p x w g c (Script.told m a) ds).played ≡ Stepped e next → m ≡ next
  unfolding Script.told plays.by_line plays.step_played
  asked_next m (address es) ds e next h =
      answer_next m (run.stepped p x (length es) ds w g c).answer e next h
  asked_next m (refused r) ds e next h = let z : ◌≡◌ {A = ℕ} 0 1 = cc in absurd (omega arith)

-- some lines from `at` on
module _ (p x w g c : List ℕ) (at : ℕ) where
  -- the first of them, and what those behind it come to
  abbrev first : List Raw → List ℕ → plays.LinePlayed
  first ls ds = plays.played p x w g c at ls ds

  abbrev further : ℕ → List Raw → List ℕ → List Raw → Stopped
  further n ls ds more =
      stepped p x (n + 1) more (sets ds 0 (left ls)) (first ls ds).nodes (first ls ds).track
      (first ls ds).counters

  -- a line comes to the same wherever it stands
  played_anywhere : (l : Raw) (ls : List Raw) (ds : List ℕ)
      → Alike (first (l ∷ ls) ds) (plays.played p x w g c 0 (l ∷ ls) ds)
  unfolding plays.played Script.answer
  played_anywhere l ls ds =
      let n = length (characters l) in
      asked_anywhere p x w g c (at + n + 1) (0 + n + 1) (asked (desk_frame l)) (sets ds 0 (left (l ∷ ls)))

  -- so lines go by the first
  stepped_first : (n : ℕ) (l : Raw) (ls : List Raw) (ds : List ℕ)
      → stepped p x n (l ∷ ls) ds w g c
      ≡ by_played n (first (l ∷ ls) ds) (further n (l ∷ ls) ds ls) (first (l ∷ ls) ds).played
  unfolding stepped
  stepped_first n l ls ds =
      let a = played_anywhere l ls ds in
      sym (a.goes n _ ∙ rw (a.same_nodes, a.same_track, a.same_counters))

  -- they stop at one that is no step
  lines_stop : (n : ℕ) (ls : List Raw) (ds : List ℕ) → Other (first ls ds).played
      → stepped p x n ls ds w g c ≡ stops (number_of (first ls ds).played) n (first ls ds)
  unfolding stepped plays.played Script.answer plays.by_line number_of
  lines_stop n [] ds h = refl
  lines_stop n (l ∷ ls) ds h = stepped_first n l ls ds ∙ by_other n _ _ _ h

  -- a step is a line, as the line reader has it
  step_found : (ls : List Raw) (ds : List ℕ) (e : Event) (next : ℕ) → (first ls ds).played ≡ Stepped e next
      → (end : ℕ) × (desk_answer at ls ≡ Found end next)
  unfolding plays.played Script.answer Script.told plays.by_line answer_of seen asked
  step_found [] ds e next h = let z : ◌≡◌ {A = ℕ} 0 1 = cc in absurd (omega arith)
  step_found (l ∷ ls) ds e next h = go (desk_frame l) h
    where
      end : ℕ
      end = at + length (characters (strict l))

      behind : ℕ
      behind = at + length (characters l) + 1

      go : (o : Option (List ℕ))
          → (plays.by_line p x w g c (Script.told behind (asked o)) (sets ds 0 (left (l ∷ ls)))).played
          ≡ Stepped e next
          → (m : ℕ) × (seen end behind o ≡ Found m next)
      go none h = let z : ◌≡◌ {A = ℕ} 0 1 = cc in absurd (omega arith)
      go (some bs) h = (end, ap (Found end) (asked_next p x w g c behind (asked (some bs)) _ e next h))

  -- a step at the cursor of a script: the lines behind it stand from `next` on
  record Went (script : List ℕ) (n : ℕ) (ds : List ℕ) (e : Event) (next : ℕ) : Type 0 where
    on : at < next
    within : next ≤ length script
    then : stepped p x n (lines (drop at script)) ds w g c
        ≡ in_front e (further n (lines (drop at script)) ds (lines (drop next script)))

  lines_go : (script : List ℕ) (n : ℕ) (ds : List ℕ) (e : Event) (next : ℕ)
      → (first (lines (drop at script)) ds).played ≡ Stepped e next → Went script n ds e next
  unfolding by_played
  lines_go script n ds e next h =
      let found = step_found (lines (drop at script)) ds e next h in
      let line = desk_line script at found.0 next found.1 in
      let is = rw line.first at h in
      record {
        on = omega (arith, line.some_bytes, line.behind);
        within = line.within;
        then = rw line.first (stepped_first n _ (lines (drop next script)) ds ∙ ap (by_played n _ _) is);
      }

-- a step's line has at most seven characters
step_length : (e : Event) → length (text (step_frame e ∷ [])) ≤ 7
unfolding text hex step_frame
step_length Tau = omega arith
step_length Tick = omega arith
step_length (Visible e) = omega arith

-- one step's line more
steps_more : (done : List Event) (e : Event)
    → text (map step_frame done) ++ text (step_frame e ∷ []) ≡ text (map step_frame (done ++ e ∷ []))
steps_more done e = sym (rw map-append (text_append (map step_frame done) (step_frame e ∷ [])))

-- events in front of what follows
unfoldable pub after : List Event → Stopped → Stopped
after done r = record {
  events = done ++ r.events;
  number = r.number;
  line = r.line;
  nodes = r.nodes;
  track = r.track;
  counters = r.counters;
}

after_more : (done : List Event) (e : Event) (r : Stopped)
    → after done (in_front e r) ≡ after (done ++ e ∷ []) r
unfolding after in_front
after_more done e r = rw append_assoc

module _ (p x script w₀ g₀ c₀ out₀ : List ℕ) where
  -- what holds at each turn
  pub record Going (w g c out ds : List ℕ) (at line end : ℕ) : Type 0 where
    pub done : List Event
    pub work : from_words p x script w₀ g₀ c₀ ≡ after done (stepped p x line (lines (drop at script)) ds w g c)
    pub put : Puts 0 (text (map step_frame done)) out₀ out end
    pub counted : line ≤ at + 1
    pub within : at ≤ length script
    pub ended : end ≤ 7 * at

  pub going_starts : Going w₀ g₀ c₀ out₀ (replicate 1024 0) 0 1 0
  unfolding after text
  going_starts = record {
    done = [];
    work = refl;
    put = record { ends = refl; stands = refl };
    counted = omega arith;
    within = omega arith;
    ended = omega arith;
  }

module _ {p x script w₀ g₀ c₀ out₀ w g c out ds : List ℕ} {at line end : ℕ}
    (now : Going p x script w₀ g₀ c₀ out₀ w g c out ds at line end) where
  -- the slice keeps its length
  pub going_length : length out ≡ length out₀
  going_length = ap length now.put.stands ∙ length-sets out₀ 0 (text (map step_frame now.done))

  -- what the line at the cursor comes to, with the digits then
  abbrev here : plays.LinePlayed
  here = first p x w g c at (lines (drop at script)) ds

  abbrev pub Behind : Played → List ℕ → List ℕ → List ℕ → List ℕ → Type 0
  Behind r v h k es = (plays.with_played r v h k ≡ here) × (es ≡ sets ds 0 (left (lines (drop at script))))

  module _ {r : Played} {v h k es : List ℕ} (b : Behind r v h k es) where
    comes_to : r ≡ here.played
    comes_to = ap (λ (z : plays.LinePlayed). z.played) b.0

    words_are : (v ≡ here.nodes) × (h ≡ here.track) × (k ≡ here.counters)
    words_are = (
      ap (λ (z : plays.LinePlayed). z.nodes) b.0,
      ap (λ (z : plays.LinePlayed). z.track) b.0,
      ap (λ (z : plays.LinePlayed). z.counters) b.0,
    )

    -- a line that is no step ends the work
    pub going_stops : Other r → {m n to : ℕ} → (m ≡ number_of r) × (n ≡ line) × (to ≡ end)
        → length script ≤ script_room → StepsPut (from_words p x script w₀ g₀ c₀) v h k out₀ out m n to
    unfolding after stops
    going_stops o {to = to} s fits =
        let other : Other here.played = rw comes_to at o in
        let stop = lines_stop p x w g c at line (lines (drop at script)) ds other in
        let low : to ≤ 7 * script_room = omega (arith, s.2, now.ended, now.within) in
        let put : Puts 0 (text (map step_frame now.done)) out₀ out to = rw s.2 now.put in
        rw (now.work, stop) (
          s.0 ∙ ap number_of comes_to,
          (s.1, (words_are.0, (words_are.1, (words_are.2, (rw append-nil put, low))))),
        )

    module _ {e : Event} {next : ℕ} (is : r ≡ Stepped e next) where
      -- a step goes on
      went : Went p x w g c at script line ds e next
      went = lines_go p x w g c at script line ds e next (sym comes_to ∙ is)

      pub going_on : (at < next) × (next ≤ length script)
      going_on = (went.on, went.within)

      pub going_turn : {out' : List ℕ} {to : ℕ} → Puts end (text (step_frame e ∷ [])) out out' to
          → Going p x script w₀ g₀ c₀ out₀ v h k out' es next (line + 1) to
      going_turn q = record {
        done = now.done ++ e ∷ [];
        work = rw (words_are.0, words_are.1, words_are.2, b.1)
            (now.work ∙ ap (after now.done) went.then ∙ after_more now.done e _);
        put = rw (steps_more now.done e) at (puts_then now.put q);
        counted = omega (arith, now.counted, went.on);
        within = went.within;
        ended = omega (arith, now.ended, q.ends, step_length e, went.on);
      }
