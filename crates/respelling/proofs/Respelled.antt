-- Texts whose lines are read alike get the same answer, as tables, as scripts, and as whole inputs respelled: so no converter is
-- needed in front of the programs. Rooms count the bytes as they stand, so each text has to be within its own; respelled it is
-- then too, since it is no longer. Assumes nothing.
use Rattle.std.specs.Prelude.{ℕ, ◌+◌, ◌≤◌, ◌≡◌, refl, List, [], ◌∷◌, map, length}
use Rattle.std.proofs.Common.{ap, ◌∙◌, arith, le-leb}
use Rattle.lines.specs.Line.{Raw, lines}
use Rattle.lines.specs.Judging.{Judged, accepted, refused}
use Rattle.lines.proofs.Judging.{judged_alike}
use Rattle.desk_lines.specs.DeskLine.{desk_frame}
use Rattle.desk_lines.specs.Respelled.{SaidAlike, respelled}
use Rattle.desk_lines.proofs.Respelling.{frames_same}
use Rattle.scripts.specs.Script.{asked}
use Rattle.inputs.specs.Cut.{table_text, script_text}
use Rattle.tables.specs.Table.{Sofar, text_room, table_lines, at_start, judged}
use Rattle.terms.specs.Term.{Term, definitions_of}
use Rattle.rules.specs.Run.{State, start, Answer}
use Rattle.rules.specs.Run as Run
use Rattle.playing.specs.LineAnswer.{line_answer}
use Rattle.listing.specs.Listing.{Played, goes_on, played, script_room, run_listing, table_listing, listing}
use Rattle.respelling.specs.Listed.{ListsAlike}
use Rattle.respelling.proofs.Cut.{table_respelled, script_respelled, table_shorter, script_shorter}

-- tables whose lines say the same get the same answer
pub tables_alike : (t u : List ℕ) → SaidAlike (lines t) (lines u) → length t ≤ text_room → length u ≤ text_room
    → judged t ≡ judged u
unfolding judged
tables_alike t u alike t_fits u_fits =
    simp (le-leb (length t) text_room t_fits, le-leb (length u) text_room u_fits)
    (judged_alike table_lines (lines t) (lines u) alike at_start 1)

-- and such scripts come to the same, from any state
goes_alike : (s : State) (n : ℕ) (f g : State → Played) → ((t : State) → f t ≡ g t) → (a : Answer)
    → goes_on s n f a ≡ goes_on s n g a
unfolding goes_on
goes_alike s n f g same (Run.accepted e t) = rw (same t)
goes_alike s n f g same (Run.refused r) = refl

pub scripts_alike : (ts : List Term) (ls ms : List Raw) → SaidAlike ls ms → (s : State) (n : ℕ)
    → played ts s n ls ≡ played ts s n ms
unfolding played
scripts_alike ts [] [] e s n = refl
scripts_alike ts [] (m ∷ ms) e s n = let z : ◌≡◌ {A = ℕ} 0 1 = cc in absurd (omega arith)
scripts_alike ts (l ∷ ls) [] e s n = let z : ◌≡◌ {A = ℕ} 0 1 = cc in absurd (omega arith)
scripts_alike ts (l ∷ ls) (m ∷ ms) e s n =
    let first : desk_frame l ≡ desk_frame m = cc in
    let rest : map desk_frame ls ≡ map desk_frame ms = cc in
    rw first
    (goes_alike s n _ _ (λ t. scripts_alike ts ls ms rest t (n + 1)) (line_answer ts s (asked (desk_frame m))))

-- a table within its room, and its script within its own, respelled
module _ (t : List ℕ) (table_fits : length (table_text t) ≤ text_room)
    (script_fits : length (script_text t) ≤ script_room) where
  table_same : judged (table_text (respelled t)) ≡ judged (table_text t)
  table_same =
      let shorter = table_shorter t in
      let alike = ap (map desk_frame) (table_respelled t) ∙ frames_same (lines (table_text t)) in
      tables_alike (table_text (respelled t)) (table_text t) alike (omega arith) table_fits

  script_same : (j : Judged Sofar) → table_listing j (script_text (respelled t)) ≡ table_listing j (script_text t)
  unfolding table_listing
  script_same (refused r n) = refl
  script_same (accepted a) =
      let shorter = script_shorter t in
      let alike = ap (map desk_frame) (script_respelled t) ∙ frames_same (lines (script_text t)) in
      let same =
      scripts_alike (definitions_of a) (lines (script_text (respelled t))) (lines (script_text t)) alike start 1 in
      simp (
        le-leb (length (script_text t)) script_room script_fits,
        le-leb (length (script_text (respelled t))) script_room (omega arith),
      )
      (ap (run_listing a.events) same)

-- the listing of an input is that of the input respelled
pub respelled_listing : (t : List ℕ) → ListsAlike t
unfolding listing
respelled_listing t table_fits script_fits =
    rw (table_same t table_fits script_fits) (script_same t table_fits script_fits (judged (table_text t)))
