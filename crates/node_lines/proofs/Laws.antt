-- Lines where a node is due. Their bytes meet 2 where they do not form a node's frame, and then what their numbers meet, so bytes
-- that meet no refusal are a node's; the tests on the characters say the same. Behind some nodes' lines one more is read, and
-- its mark stands in the column; and the lines are document 01's. Assumes nothing.
use Rattle.std.proofs.Common.{ℕ, suc, ◌+◌, ◌/◌, ◌≤◌, ◌<◌, ◌≡◌, refl, sym, ap, ◌∙◌, Bool, true, false, List}
use Rattle.std.proofs.Common.{[], ◌∷◌, ◌++◌, arith, add-zero, length, drop, get_or, set, replicate}
use Rattle.std.proofs.Common.{length-drop, leb, lt-ltb, le-ltb, le-leb}
use Rattle.std.proofs.lemmas.Bool.{lt-leb}
use Rattle.std.proofs.lemmas.List.Edits.{sets}
use Rattle.lines.specs.Line.{lines, number_at}
use Rattle.numbers.specs.code.Numbers.{read_bytes, byte_at}
use Rattle.numbers.proofs.Laws.{read_length}
use Rattle.tables.proofs.Kept.{sets_snoc}
use Rattle.rules.specs.Track.{Label}
use Rattle.graphs.specs.Graph.{Graph}
use Rattle.graphs.specs.Parsed.{node, place_at, formed, Due, frame_of, a_node, in_range, unless, refusal, taken}
use Rattle.graphs.specs.Parsed.{nothing}
use Rattle.graphs.proofs.DueLines.{rest}
use Rattle.finding.specs.code.Found.{mark_of, marks_of}
use Rattle.finding.specs.words.Node.{label_at}
use Rattle.finding.proofs.FoundLaws.{marks_length}
use Rattle.opening.proofs.Dues.{fails, meets}
use Rattle.opening.proofs.Tested.{other_tag, other_count, right}
use Rattle.opening.proofs.Turns.{Held, Sofar, sofar_none, line_more}
use Rattle.opening.proofs.Work.{onward, lines_lead}
use Rattle.node_lines.specs.code.Nodes.{nodes_read}

-- a line's bytes
module _ (bs : List ℕ) where
  node_is : formed 0x31 (5 + get_or bs 4 0) bs ≡ true → frame_of bs ≡ node (number_at 1 bs) (place_at bs)
  unfolding frame_of
  node_is e = rw e

  module _ (d n : ℕ) where
    -- 2 where they are not a node's
    no_node : formed 0x31 (5 + get_or bs 4 0) bs ≡ false → refusal d n a_node (frame_of bs) ≡ 2
    unfolding refusal
    no_node e = meets bs (refusal d n a_node) 2 (fails e) (λ q. refl) (λ q. refl) (λ q. refl) (λ q. refl) refl

    -- and by their numbers where they are
    node_met : formed 0x31 (5 + get_or bs 4 0) bs ≡ true
        → refusal d n a_node (frame_of bs) ≡ unless (in_range d (place_at bs))
    unfolding refusal
    node_met e = rw (node_is e)

    -- what meets no refusal is a node's
    node_due : refusal d n a_node (frame_of bs) ≡ 0 → frame_of bs ≡ node (number_at 1 bs) (place_at bs)
    node_due z = go (formed 0x31 (5 + get_or bs 4 0) bs) refl
      where
        go : (b : Bool) → formed 0x31 (5 + get_or bs 4 0) bs ≡ b → frame_of bs ≡ node (number_at 1 bs) (place_at bs)
        go true e = node_is e
        go false e = absurd (omega (arith, no_node e, z))

-- the bytes of characters, where a node is due
module _ (cs : List ℕ) where
  abbrev read : List ℕ
  read = read_bytes cs

  module _ (d n : ℕ) {b : ℕ} (first : b ≡ byte_at cs 0) where
    pub node_tag : (b ≡ 0x31 → ⊥) → 2 ≡ refusal d n a_node (frame_of read)
    node_tag h = sym (no_node read d n (other_tag cs 0x31 (5 + get_or read 4 0) first h))

    module _ {p : ℕ} (size : p ≡ byte_at cs 4) where
      pub node_length : (length cs / 2 ≡ p + 5 → ⊥) → 2 ≡ refusal d n a_node (frame_of read)
      node_length h =
          sym (no_node read d n (other_count cs 0x31 (5 + get_or read 4 0)
          (λ q. h (omega (arith, read_length cs, size, q)))))

      module _ (tagged : b ≡ 0x31) (long : length cs / 2 ≡ p + 5) where
        size_is : length read ≡ 5 + get_or read 4 0
        size_is = omega (arith, read_length cs, size)

        path_is : length (drop 5 read) ≡ p
        path_is = omega (arith, length-drop 5 read, read_length cs)

        met : refusal d n a_node (frame_of read) ≡ unless (in_range d (place_at read))
        met = node_met read d n (right cs 0x31 (5 + get_or read 4 0) first tagged size_is)

        pub path_past : 64 < p → 3 ≡ refusal d n a_node (frame_of read)
        unfolding in_range
        path_past h = rw met (simp (lt-leb (length (drop 5 read)) 64 (omega (arith, path_is))))

        module _ (few : p ≤ 64) {k : ℕ} (inside : k ≡ byte_at cs 3) where
          in_room : leb (length (drop 5 read)) 64 ≡ true
          in_room = le-leb (length (drop 5 read)) 64 (omega (arith, path_is))

          pub definition_past : d ≤ k → 3 ≡ refusal d n a_node (frame_of read)
          unfolding in_range
          definition_past h = rw met (simp (in_room, sym inside, le-ltb k d h))

          pub node_fits : k < d → 0 ≡ refusal d n a_node (frame_of read)
          unfolding in_range
          node_fits h = rw met (simp (in_room, sym inside, lt-ltb k d h))

-- the nodes' lines, whose marks stand in front in a column
module _ (text : List ℕ) (d n : ℕ) (ks xs rs : List ℕ) (from : ℕ) (old : List ℕ) where
  abbrev pub NodesSofar : List ℕ → ℕ → ℕ → Type 0
  NodesSofar = Sofar (λ bs. refusal d n a_node (frame_of bs)) label_at text n 2 from
      (λ ls. sets old 0 (marks_of ks xs rs 0 ls))

  marks_snoc : (j : ℕ) (ls : List Label) (l : Label)
      → marks_of ks xs rs j (ls ++ (l ∷ []))
      ≡ marks_of ks xs rs j ls ++ (mark_of ks xs rs (j + length ls) l ∷ [])
  unfolding marks_of
  marks_snoc j [] l = rw (add-zero j)
  marks_snoc j (x ∷ ls) l =
      let s : j + suc (length ls) ≡ suc j + length ls = omega arith in
      rw s (ap (λ (ms : List ℕ). mark_of ks xs rs j x ∷ ms) (marks_snoc (suc j) ls l))

  pub nodes_none : NodesSofar old 0 from
  unfolding marks_of
  nodes_none = sofar_none _ _ _ _ _ _ _ refl

  pub node_more : {new : List ℕ} {k at : ℕ} → NodesSofar new k at → k < n → {next : ℕ} {cs : List ℕ}
      → (i : Held text at next cs) {r : ℕ} → r ≡ refusal d n a_node (frame_of (read_bytes cs)) → r ≡ 0 → {m : ℕ}
      → m ≡ mark_of ks xs rs k (label_at (read_bytes cs)) → NodesSofar (set new k m) (k + 1) next
  node_more {new} {k} {at} s more {next} {cs} i met z {m} marked =
      let bs = read_bytes cs in
      let ls = s.so_said in
      let mark : m ≡ mark_of ks xs rs (0 + length ls) (label_at bs) =
      marked ∙ ap (λ (j : ℕ). mark_of ks xs rs j (label_at bs)) (omega (arith, s.counted)) in
      let place : k ≡ 0 + length (marks_of ks xs rs 0 ls) = omega (arith, s.counted, marks_length ks xs rs 0 ls) in
      line_more _ _ _ _ _ _ _ s more i met z
      (ap (λ (w : List ℕ). set w k m) s.holds
      ∙ sets_snoc old 0 (marks_of ks xs rs 0 ls) m k place
      ∙ ap (λ (x : ℕ). sets old 0 (marks_of ks xs rs 0 ls ++ (x ∷ []))) mark
      ∙ ap (sets old 0) (sym (marks_snoc 0 ls (label_at bs))))

-- a graph of nodes alone
abbrev pub labelled : List Label → Graph
labelled ls = record { labels = ls; arcs = []; meetings = [] }

-- the nodes' lines are document 01's
pub nodes_lead : (text : List ℕ) (d n : ℕ) (ds : List Due) (from : ℕ)
    → rest d n (replicate n a_node ++ ds) nothing 2 (lines (drop from text))
    ≡ onward (λ next. rest d n ds (labelled (nodes_read d n text from).said) (n + 2) (lines (drop next text)))
    (nodes_read d n text from).answer
unfolding taken
nodes_lead text d n ds from =
    let t = nodes_read d n text from in
    lines_lead text d n a_node ds (λ bs. refusal d n a_node (frame_of bs)) label_at labelled (λ bs. refl)
    (λ bs z ls. rw (node_due bs d n z)) n 2 from []
    ∙ ap (λ (k : ℕ). onward (λ next. rest d n ds (labelled t.said) k (lines (drop next text))) t.answer)
    (omega arith)
