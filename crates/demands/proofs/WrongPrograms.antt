-- The wrong programs that document 01 names ('What each door owes its caller') break the promises of the doors, whatever the
-- table and the run: a step that refuses everything, that has a single answer or that leaves its buffers alone, a save with one
-- fixed track text, and a script's line that does the script at its first line and plays along later. The first step of every
-- table is accepted, and labels the start node; each accepted step draws a reference, so the words behind it hold neither the
-- state before it nor any state further on. Invented counts contradict `counts_follow`. Assumes nothing.
use Rattle.std.proofs.Common.{ℕ, ◌<◌, ◌≤◌, ◌≡◌, refl, sym, ap, ◌∙◌, List, arith, length, drop}
use Rattle.std.proofs.lemmas.Bool.{false≢true}
use Rattle.lines.specs.Line.{lines}
use Rattle.columns.specs.words.Columns.{all_columns}
use Rattle.tables.specs.Table.{Sofar}
use Rattle.tables.specs.words.Columns.{TableOf}
use Rattle.terms.specs.Term.{Term, definitions_of}
use Rattle.rules.specs.declared.Event.{Event}
use Rattle.rules.specs.Track.{labelled, lookup}
use Rattle.rules.specs.Run.{State, start, after}
use Rattle.rules.specs.Run as Run
use Rattle.rules.proofs.Drawing.{accepted_draws}
use Rattle.plans.specs.words.Layout.{layout}
use Rattle.runs.specs.words.Held.{Table, addressed, told, behind, Words, Begins}
use Rattle.rules.specs.Addressed.{answered}
use Rattle.rules.specs.Derivation.{first_step}
use Rattle.runs.specs.Answer.{Answer, Accepted, Refused}
use Rattle.runs.specs.declared.Shown.{Shown}
use Rattle.runs.proofs.Once.{held_once}
use Rattle.playing.specs.words.Account.{first_behind}
use Rattle.playing.specs.Played.{Played}
use Rattle.graphs.specs.Graph.{graph_of, present}
use Rattle.graphs.specs.Saved.{saved}
use Rattle.graphs.specs.Renumbering.{Renumbering}
use Rattle.writing.specs.Answers.{Saved}
use Rattle.demands.specs.words.Words.{Planned, HoldsRun, Steps, SavesWords}
use Rattle.demands.specs.words.Bytes.{bytes_of}
use Rattle.demands.specs.Ahead.{Ahead, next, further}
use Rattle.demands.specs.words.Accepts.{Accepts, AcceptsLine}
use Rattle.demands.proofs.Derivations.{first_accepted}
use Rattle.demands.proofs.SavedBytes.{equal_bytes_exactly}

ahead_draws : (ts : List Term) (s : State) {t : State} → Ahead ts s t → s.fresh < t.fresh
ahead_draws ts s (next {t = t} a e h) = accepted_draws ts s t a e h
ahead_draws ts s (further {t = t} {u = u} a e k h) =
    omega (arith, ahead_draws ts s k, accepted_draws ts t u a e h)

-- runs of one table, by a plan that holds its definitions
module _ {p x : List ℕ} {t : Sofar} (table : Table (layout t) p x (definitions_of t)) where
  module _ {v v' : Words} {r : Answer} {s s' : State} {e : Event} (step : Accepts p x t v r v' s e s') where
    answered_so : answered (definitions_of t) s (addressed step.digits step.count) ≡ Run.accepted e s'
    unfolding answered
    answered_so = ap (answered (definitions_of t) s) step.named ∙ step.accepts

    event_told : r ≡ Accepted (record { event = e })
    unfolding told
    event_told = (step.promised _ (definitions_of t) s table step.held).0 ∙ ap told answered_so

    held_behind : HoldsRun p x t v' s'
    unfolding behind
    held_behind =
        let same : behind s (answered (definitions_of t) s (addressed step.digits step.count)) ≡ s' =
        ap (behind s) answered_so in
        rw (← same) (step.promised _ (definitions_of t) s table step.held).1

    draws : s.fresh < s'.fresh
    draws = accepted_draws (definitions_of t) s s' step.address e step.accepts

  -- one with a single answer: it would show one event only
  pub one_answer : {v v' w w' : Words} {r : Answer} {s s' u u' : State} {e f : Event} → Accepts p x t v r v' s e s'
      → Accepts p x t w r w' u f u'
      → e ≡ f
  one_answer {e = e} {f = f} step other =
      let q = sym (event_told step) ∙ event_told other in
      let same : ◌≡◌ {A = Shown} (record { event = e }) (record { event = f }) = cc in
      ap (λ (shown : Shown). shown.event) same

  -- one that leaves its buffers alone
  pub left_alone : {v : Words} {r : Answer} {s s' : State} {e : Event} → Accepts p x t v r v s e s' → ⊥
  left_alone {s = s} {s' = s'} step =
      let both = held_once _ p x (definitions_of t) table _ _ _ s s' step.held (held_behind step) in
      omega (arith, draws step, both.same_fresh)

  module _ {v v' : Words} {r : Played} {s s' : State} {e : Event} (line : AcceptsLine p x t v r v' s e s') where
    line_behind : first_behind (definitions_of t) s (lines (drop line.at line.text)) ≡ s'
    unfolding first_behind behind
    line_behind = ap (first_behind (definitions_of t) s) line.stands ∙ ap (behind s) line.accepts

    line_held : HoldsRun p x t v' s'
    line_held = rw (← line_behind) (line.promised line.whole _ (definitions_of t) s table line.held).1

    -- one that does the script at its first line and plays along later: its words would hold a state further on
    pub runs_ahead : {u : State} → Ahead (definitions_of t) s' u → HoldsRun p x t v' u → ⊥
    runs_ahead {u = u} on early =
        let both = held_once _ p x (definitions_of t) table _ _ _ s' u line_held early in
        omega (arith, ahead_draws (definitions_of t) s' on, both.same_fresh)

-- runs of one table, in the columns that its check left and by the plan that is laid out from them: its first step, from words
-- that a start has left
module _ {text ks ps os xs rs p x : List ℕ} {t : Sofar} (table : TableOf text (all_columns ks ps os xs rs) t)
    (planned : Planned p x t) (v : Words) (begins : Begins v) (ds : List ℕ) (v' : Words) where
  -- one that refuses everything
  pub refuses_all : (n : ℕ) → Steps p x ds 0 v (Refused n) v' → ⊥
  refuses_all n step =
      let q = (first_accepted table planned v begins ds _ v' step).0 in
      let z : ◌≡◌ {A = ℕ} 0 1 = cc in
      omega arith

  -- the state behind it
  abbrev behind_first : State
  behind_first = after start (first_step (definitions_of t))

  -- its start node is labelled, and before it no node is: no renumbering carries the one track onto the other
  first_marks : Renumbering (graph_of start) (graph_of behind_first) → ⊥
  unfolding after labelled lookup present
  first_marks (φ, ψ, carries) = false≢true (ap present (carries.places_back 0 refl))

  -- one with one fixed track text: it would save a run with no step and the run behind the first step as the same bytes
  pub one_text : (r : Answer) → Steps p x ds 0 v r v' → (slice after slice' after' : List ℕ) (u u' : Saved)
      → SavesWords ks os xs rs v slice u after → SavesWords ks os xs rs v' slice' u' after'
      → length (saved (graph_of start)) ≤ length slice → length (saved (graph_of behind_first)) ≤ length slice'
      → bytes_of u after ≡ bytes_of u' after' → ⊥
  one_text r step slice after slice' after' u u' save save' fits fits' same =
      let held = (first_accepted table planned v begins ds r v' step).1 in
      first_marks ((equal_bytes_exactly table v v' start behind_first (begins (layout t) p x (definitions_of t)) held slice
      after slice' after' u u' save save' fits fits').0 same)
