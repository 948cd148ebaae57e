-- The text of a graph in columns is its opening line, the lines of nodes, arcs and meetings, and the last line,
-- put one behind another; its length is theirs. Where the slice has that length the answer is that the text was
-- written, and else it is the length alone. And an answer of code tells one outcome. Assumes nothing.
use Rattle.std.specs.Prelude.{ℕ, ◌+◌, ◌*◌, ◌≤◌, ◌<◌, min, List, [], ◌∷◌, ◌++◌, map, length, Result, Ok, Err, ◌≡◌}
use Rattle.std.proofs.Common.{ap, ◌∙◌, arith, le-leb}
use Rattle.std.proofs.lemmas.Bool.{lt-leb}
use Rattle.std.proofs.lemmas.List.Edits.{sets}
use Rattle.lines.specs.Line.{two, text}
use Rattle.spelling.specs.words.Puts.{Puts}
use Rattle.spelling.proofs.Putting.{puts_then}
use Rattle.spelling.proofs.Spelt.{text_append}
use Rattle.rules.specs.Run.{arc_room, meeting_room}
use Rattle.control.specs.words.Words.{reference_room, meetings_from}
use Rattle.columns.specs.words.Columns.{Columns}
use Rattle.control.specs.words.Views.{pairs}
use Rattle.graphs.specs.Graph.{Graph}
use Rattle.graphs.specs.Saved.{opening_frame, node_frame, pair_frame, arc_code, meeting_code, last_frame}
use Rattle.graphs.specs.Saved.{frames, graph_text}
use Rattle.graphs.proofs.Spelled.{nodes_length, text_length}
use Rattle.links.specs.declared.GraphCounts.{GraphCounts}
use Rattle.writing.specs.declared.TooShort.{TooShort}
use Rattle.writing.specs.Answers.{Written, Short, saved_told}
use Rattle.framing.specs.words.Told.{labels_told, graph_told}
use Rattle.writing.specs.words.Slice.{with_slice, written}
use Rattle.framing.proofs.Spelt.{pairs_count, nodes_count}

-- the text of a graph, a part behind another
parts : (g : Graph)
    → graph_text g
    ≡ text (opening_frame g ∷ []) ++ text (map node_frame g.labels) ++ text (map (pair_frame arc_code) g.arcs)
    ++ text (map (pair_frame meeting_code) g.meetings)
    ++ text (last_frame ∷ [])
unfolding frames
parts g =
    let opening = opening_frame g ∷ [] in
    let nodes = map node_frame g.labels in
    let arcs = map (pair_frame arc_code) g.arcs in
    let meetings = map (pair_frame meeting_code) g.meetings in
    text_append (opening ++ nodes ++ arcs ++ meetings) (last_frame ∷ [])
    ∙ ap (λ (l : List ℕ). l ++ text (last_frame ∷ [])) (text_append (opening ++ nodes ++ arcs) meetings)
    ∙ ap (λ (l : List ℕ). l ++ text meetings ++ text (last_frame ∷ [])) (text_append (opening ++ nodes) arcs)
    ∙ ap (λ (l : List ℕ). l ++ text arcs ++ text meetings ++ text (last_frame ∷ [])) (text_append opening nodes)

module _ (c : Columns) (ms g : List ℕ) (counts : GraphCounts) {n a m : ℕ} (nodes : n ≡ min counts.nodes reference_room)
    (arcs : a ≡ min counts.arcs arc_room)
    (meetings : m ≡ min counts.meetings meeting_room) where
  -- the length of the text
  pub size_told : (k : ℕ) → k ≡ length (text (map node_frame (labels_told c ms 0 n)))
      → k + 11 * a + 11 * m + 20 ≡ length (graph_text (graph_told c ms g counts))
  unfolding graph_told
  size_told k e =
      let lines_are = nodes_length (labels_told c ms 0 n) in
      rw (text_length (graph_told c ms g counts), pairs_count, pairs_count, ← nodes, ← arcs, ← meetings)
      (omega (arith, e, lines_are))

  -- the parts are the text
  pub text_put : {s t u v w x : List ℕ} {b d e f z : ℕ}
      → Puts 0 (text ((0x30 ∷ 1 ∷ two n ++ two a ++ two m) ∷ [])) s t b
      → Puts b (text (map node_frame (labels_told c ms 0 n))) t u d
      → Puts d (text (map (pair_frame arc_code) (pairs 0 g 0 a))) u v e
      → Puts e (text (map (pair_frame meeting_code) (pairs meetings_from g 0 m))) v w f
      → Puts f (text (last_frame ∷ [])) w x z
      → Puts 0 (graph_text (graph_told c ms g counts)) s x z
  unfolding graph_told opening_frame
  text_put p q r o l =
      rw (
        parts (graph_told c ms g counts),
        ← nodes,
        ← arcs,
        ← meetings,
        nodes_count c ms 0 n,
        pairs_count 0 g 0 a,
        pairs_count meetings_from g 0 m,
      )
      (puts_then (puts_then (puts_then (puts_then p q) r) o) l)

-- what writing comes to, by whether the slice has room for the text
module _ (t slice : List ℕ) where
  pub written_whole : length t ≤ length slice → written t slice ≡ with_slice (Written (length t)) (sets slice 0 t)
  unfolding written
  written_whole h = rw (le-leb (length t) (length slice) h)

  pub written_short : length slice < length t → written t slice ≡ with_slice (Short (length t)) slice
  unfolding written
  written_short h = rw (lt-leb (length t) (length slice) h)

module _ (t slice : List ℕ) (size : ℕ) (sized : size ≡ length t) where
  -- a text that fits is written
  pub fits : {after : List ℕ} {end : ℕ} → size ≤ length slice → Puts 0 t slice after end
      → with_slice (Written size) after ≡ written t slice
  fits h p = rw (written_whole t slice (omega arith), sized, p.stands)

  -- one that does not leaves the slice as it was
  pub falls_short : length slice < size → with_slice (Short size) slice ≡ written t slice
  falls_short h = rw (written_short t slice (omega arith), sized)

-- an answer of code tells one outcome
pub saved_told_once : (x y : Result ℕ TooShort) → saved_told x ≡ saved_told y → x ≡ y
unfolding saved_told
saved_told_once (Ok m) (Ok n) same = let length : m ≡ n = cc in ap (λ q. Ok q) length
saved_told_once (Ok m) (Err e) same = let z : ◌≡◌ {A = ℕ} 0 1 = cc in absurd (omega arith)
saved_told_once (Err e) (Ok m) same = let z : ◌≡◌ {A = ℕ} 0 1 = cc in absurd (omega arith)
saved_told_once (Err e) (Err f) same =
    let long : e.length ≡ f.length = cc in
    let short : e ≡ f = rw long in
    ap (λ q. Err q) short
