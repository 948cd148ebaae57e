-- All the lines: the parts follow each other, each from where the one before it ends. So what the whole text says is what is
-- said from there on with what was read, and the columns hold that. Assumes nothing.
use Rattle.std.specs.Prelude.{ℕ, ◌+◌, ◌≤◌, List, [], ◌∷◌, ◌++◌, length, drop, replicate, Result, Ok, Err, IsErrAnd, ◌≡◌, refl}
use Rattle.std.proofs.Common.{inl, inr, sym, ap, ◌∙◌, subst, append_assoc, arith}
use Rattle.std.proofs.lemmas.List.Edits.{sets}
use Rattle.lines.specs.Line.{lines}
use Rattle.lines.specs.Judging.{Judged, accepted, refused}
use Rattle.lines.specs.Refusal.{number}
use Rattle.lines.specs.declared.Refusal.{Refusal}
use Rattle.lines.specs.declared.RefusedAt.{RefusedAt}
use Rattle.rules.specs.Track.{Label, Pair}
use Rattle.rules.specs.Run.{node_room, arc_room, meeting_room}
use Rattle.control.specs.words.Words.{track_words, meetings_from, reference_room}
use Rattle.graphs.specs.Graph.{Graph}
use Rattle.graphs.specs.Parsed.{Due, a_node, an_arc, a_meeting, the_last, dues, nothing, parsed}
use Rattle.graphs.proofs.DueLines.{rest}
use Rattle.links.specs.words.Columns.{flat}
use Rattle.finding.specs.code.Found.{marks_of}
use Rattle.opening.specs.code.Phases.{Told}
use Rattle.opening.specs.code.Ends.{opened, last_read}
use Rattle.opening.specs.declared.TrackOpening.{TrackOpening}
use Rattle.opening.specs.Answers.{Track, Lines, Goes, opened_told, lines_told}
use Rattle.opening.proofs.Work.{onward, goes_on, stops_there, begun, first_leads, Fits, opened_fits, all_said}
use Rattle.opening.proofs.Work.{last_leads}
use Rattle.node_lines.specs.code.Nodes.{nodes_read}
use Rattle.node_lines.proofs.Laws.{labelled, nodes_lead}
use Rattle.pair_lines.specs.code.Pairs.{pairs_read}
use Rattle.pair_lines.proofs.Laws.{due_of, with_pairs, pairs_lead}
use Rattle.reading.specs.code.Outcome.{Held}
use Rattle.reading.specs.Answers.{Read, Accepted, Refused, read_told}
use Rattle.links.specs.declared.GraphCounts.{GraphCounts}

-- the counts that line 1 tells: within their rooms, and by them the work goes on
pub record Counted (text : List ℕ) (n a s next : ℕ) : Type 0 where
  pub nodes_fit : n ≤ node_room
  pub arcs_fit : a ≤ arc_room
  pub meetings_fit : s ≤ meeting_room
  pub work : (d : ℕ) → parsed d text ≡ rest d n (dues n a s) nothing 2 (lines (drop next text))

pub counts : (text : List ℕ) {x : Result TrackOpening Refusal} {o : TrackOpening} → opened_told x ≡ opened (lines text)
    → x ≡ Ok o → Counted text o.nodes o.arcs o.meetings o.next
unfolding Fits begun opened_told
counts text {o = o} e q =
    let told : opened (lines text) ≡ Track o.nodes o.arcs o.meetings o.next = sym e ∙ ap opened_told q in
    let fits : Fits (Track o.nodes o.arcs o.meetings o.next) = subst Fits told (opened_fits (lines text)) in
    record {
      nodes_fit = fits.0;
      arcs_fit = fits.1;
      meetings_fit = fits.2;
      work = λ d. first_leads text d ∙ ap (begun text d) told;
    }

-- lines that are read go on from where they end
pub goes : {x : Result ℕ RefusedAt} {next : ℕ} → x ≡ Ok next → lines_told x ≡ Goes next
unfolding lines_told
goes e = ap lines_told e

-- a refusal that is handed on
handed_on : (r : Result GraphCounts RefusedAt) (e : RefusedAt) → IsErrAnd r (λ x. x ≡ e)
    → read_told r ≡ Refused (number e.refusal) e.line
unfolding read_told
handed_on (Ok c) e h = absurd h
handed_on (Err x) e h = rw h

-- what is due behind the arcs, and behind the nodes
abbrev behind_arcs : ℕ → List Due
behind_arcs s = replicate s a_meeting ++ (the_last ∷ [])

abbrev behind_nodes : ℕ → ℕ → List Due
behind_nodes a s = replicate a an_arc ++ behind_arcs s

dues_parted : (n a s : ℕ) → dues n a s ≡ replicate n a_node ++ behind_nodes a s
unfolding dues
dues_parted n a s =
    append_assoc (replicate n a_node ++ replicate a an_arc) (replicate s a_meeting) (the_last ∷ [])
    ∙ append_assoc (replicate n a_node) (replicate a an_arc) (behind_arcs s)

-- the arcs' and the meetings' lines, in a track of so many nodes, arcs and meetings
abbrev arcs_read : ℕ → ℕ → List ℕ → ℕ → Told Pair
arcs_read n a = pairs_read 0x32 n a (n + 2)

abbrev meetings_read : ℕ → ℕ → ℕ → List ℕ → ℕ → Told Pair
meetings_read n a s = pairs_read 0x33 n s (n + a + 2)

-- what the whole text says, by each part in turn
module _ (text : List ℕ) (d : ℕ) {n a s next : ℕ} (c : Counted text n a s next) where
  -- the work on line k, from a cursor on
  abbrev ahead : List Due → Graph → ℕ → ℕ → Judged Graph
  ahead ws g k at = rest d n ws g k (lines (drop at text))

  abbrev nodes : Told Label
  nodes = nodes_read d n text next

  pub at_nodes : parsed d text
      ≡ onward (ahead (behind_nodes a s) (labelled nodes.said) (n + 2)) nodes.answer
  at_nodes =
      c.work d ∙ ap (λ (ws : List Due). ahead ws nothing 2 next) (dues_parted n a s)
      ∙ nodes_lead text d n (behind_nodes a s) next

  module _ {t : Lines} {m : ℕ} (nodes_told : t ≡ nodes.answer) (nodes_go : t ≡ Goes m) where
    abbrev arcs : Told Pair
    arcs = arcs_read n a text m

    abbrev with_meetings : List Pair → Graph
    with_meetings ps = record { labels = nodes.said; arcs = arcs.said; meetings = ps }

    pub at_arcs : parsed d text ≡ onward (ahead (behind_arcs s) (with_meetings []) (n + a + 2)) arcs.answer
    unfolding due_of with_pairs
    at_arcs =
        goes_on _ at_nodes (sym nodes_told ∙ nodes_go)
        ∙ pairs_lead text d n (behind_arcs s) m 0x32 (inl refl) (labelled nodes.said) a (n + 2)
        ∙ ap (λ (k : ℕ). onward (ahead (behind_arcs s) (with_meetings []) k) arcs.answer) (omega arith)

    module _ {t₂ : Lines} {m₂ : ℕ} (arcs_told : t₂ ≡ arcs.answer) (arcs_go : t₂ ≡ Goes m₂) where
      abbrev meetings : Told Pair
      meetings = meetings_read n a s text m₂

      pub at_meetings : parsed d text
          ≡ onward (ahead (the_last ∷ []) (with_meetings meetings.said) (n + a + 2 + s)) meetings.answer
      unfolding due_of with_pairs
      at_meetings =
          goes_on _ at_arcs (sym arcs_told ∙ arcs_go)
          ∙ pairs_lead text d n (the_last ∷ []) m₂ 0x33 (inr refl) (with_meetings []) s (n + a + 2)

      module _ {t₃ : Lines} {m₃ : ℕ} (meetings_told : t₃ ≡ meetings.answer) (meetings_go : t₃ ≡ Goes m₃) where
        pub at_last : parsed d text ≡ onward (λ next. accepted (with_meetings meetings.said))
            (last_read (n + a + 2 + s) m₃ (lines (drop m₃ text)))
        at_last =
            goes_on _ at_meetings (sym meetings_told ∙ meetings_go)
            ∙ last_leads text d n (with_meetings meetings.said) (n + a + 2 + s) m₃

        -- so many lines as there are counted
        pub as_counted : (length nodes.said ≡ n) × (length arcs.said ≡ a) × (length meetings.said ≡ s)
        as_counted = (
          all_said _ _ n 2 next _ m (sym nodes_told ∙ nodes_go),
          all_said _ _ a (n + 2) m _ m₂ (sym arcs_told ∙ arcs_go),
          all_said _ _ s (n + a + 2) m₂ _ m₃ (sym meetings_told ∙ meetings_go),
        )

module _ (text : List ℕ) (d : ℕ) (ks xs rs : List ℕ) where
  -- the answer is the text's, and the columns hold what it says
  abbrev pub Done : List ℕ → List ℕ → Read → Type 0
  Done ls gs r = Held ks xs rs (parsed d text) r ls gs

  -- a refusal
  refused_done : (ls gs : List ℕ) {k l : ℕ} {r : Read} → parsed d text ≡ refused k l → r ≡ Refused k l → Done ls gs r
  unfolding Held
  refused_done ls gs {r = r} p e = subst (λ (q : Judged Graph). Held ks xs rs q r ls gs) (sym p) e

  pub stopped_done : (ls gs : List ℕ) (on : ℕ → Judged Graph) {u : Lines} {x : Result ℕ RefusedAt}
      → parsed d text ≡ onward on u → lines_told x ≡ u → (e : RefusedAt) → x ≡ Err e → (r : Result GraphCounts RefusedAt)
      → IsErrAnd r (λ y. y ≡ e) → Done ls gs (read_told r)
  unfolding lines_told
  stopped_done ls gs on p told e q r h =
      refused_done ls gs (stops_there on p (sym told ∙ ap lines_told q)) (handed_on r e h)

  pub failed_done : (ls gs : List ℕ) {x : Result TrackOpening Refusal} → opened_told x ≡ opened (lines text)
      → (e : RefusedAt) → x ≡ Err e.refusal → e.line ≡ 1 → (r : Result GraphCounts RefusedAt)
      → IsErrAnd r (λ y. y ≡ e) → Done ls gs (read_told r)
  unfolding begun opened_told
  failed_done ls gs told e q first r h =
      refused_done ls gs (first_leads text d ∙ ap (begun text d) (sym told ∙ ap opened_told q) ∙ rw first)
      (handed_on r e h)

  -- all lines: the graph that they say stands in the columns
  pub all_done : {n a s next m m₂ m₃ m₄ : ℕ} (c : Counted text n a s next) {t t₂ t₃ t₄ : Lines}
      → t ≡ (nodes_read d n text next).answer → t ≡ Goes m
      → t₂ ≡ (arcs_read n a text m).answer → t₂ ≡ Goes m₂
      → t₃ ≡ (meetings_read n a s text m₂).answer → t₃ ≡ Goes m₃
      → t₄ ≡ last_read (n + a + 2 + s) m₃ (lines (drop m₃ text)) → t₄ ≡ Goes m₄
      → {zeros ls none arcs_in gs : List ℕ}
      → ls ≡ sets zeros 0 (marks_of ks xs rs 0 (nodes_read d n text next).said) → zeros ≡ replicate reference_room 0
      → arcs_in ≡ sets none 0 (flat (arcs_read n a text m).said) → none ≡ replicate track_words 0
      → gs ≡ sets arcs_in meetings_from (flat (meetings_read n a s text m₂).said)
      → Done ls gs (Accepted (record { nodes = n; arcs = a; meetings = s }))
  unfolding Held
  all_done {n} {a} {s} {next} {m} {m₂} c p₁ g₁ p₂ g₂ p₃ g₃ p₄ g₄ {ls = ls} {gs = gs} labels_in z arcs_in w all_in =
      let p = goes_on _ (at_last text d c p₁ g₁ p₂ g₂ p₃ g₃) (sym p₄ ∙ g₄) in
      let counted = as_counted text d c p₁ g₁ p₂ g₂ p₃ g₃ in
      subst (λ (q : Judged Graph). Held ks xs rs q (Accepted (record { nodes = n; arcs = a; meetings = s })) ls gs)
      (sym p) (
        rw (labels_in, z, all_in, arcs_in, w, counted.0, counted.1, counted.2),
        (
          omega (arith, counted.0, c.nodes_fit),
          omega (arith, counted.1, c.arcs_fit),
          omega (arith, counted.2, c.meetings_fit),
        ),
      )
