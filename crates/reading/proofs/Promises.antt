-- What reading promises, from what its parts come to. A graph that the lines say stands in the columns, where its pairs are
-- read back, so that the rules tested on the columns are the rules of the graph; then a column that is handed over where the
-- text is accepted is as it should be, and for the columns of a checked table all is as the document has it. Assumes nothing.
use Rattle.std.specs.Prelude.{ℕ, Bool, true, false, not, List, Result, Ok, Err, ◌≡◌, refl, is_ok}
use Rattle.std.proofs.Common.{sym, ap, ◌∙◌, arith}
use Rattle.std.proofs.lemmas.List.{length-replicate}
use Rattle.lines.specs.Line.{choose}
use Rattle.lines.specs.Judging.{Judged, accepted, refused}
use Rattle.control.specs.words.Words.{track_words}
use Rattle.terms.specs.Term.{definitions_of}
use Rattle.graphs.specs.Graph.{Graph}
use Rattle.graphs.specs.Shape as Shape
use Rattle.lines.specs.declared.RefusedAt.{RefusedAt}
use Rattle.lines.specs.Refusal.{number}
use Rattle.lines.proofs.Refusals.{refused_once}
use Rattle.links.specs.declared.GraphCounts.{GraphCounts}
use Rattle.links.specs.words.Columns.{counts_of}
use Rattle.links.proofs.Listed.{arcs_back, meetings_back}
use Rattle.finding.specs.code.Found.{marks_of}
use Rattle.finding.proofs.FoundLaws.{marks_length}
use Rattle.shapes.specs.code.Rules.{has_shape, shaped}
use Rattle.shapes.proofs.ShapeTested.{shape_told}
use Rattle.reading.specs.code.Outcome.{track_of, judged, outcome, TrackRead, with_graph, by_outcome, Held}
use Rattle.reading.specs.code.Outcome.{track_read, handed}
use Rattle.reading.specs.words.Kept.{Reads}
use Rattle.reading.specs.Answers.{Read, Accepted, Refused, read_told}
use Rattle.reading.proofs.RuleLaws.{outcome_told}
use Rattle.columns.specs.words.Columns.{Columns, read_columns}

module _ (ks ps xs rs : List ℕ) where
  -- a text judged by its lines and then by the rules: the answer, and the columns
  abbrev pub Answered : Judged Graph → List ℕ → List ℕ → Read → Type 0
  Answered p ls gs r = Held ks xs rs (judged ks ps xs rs p) r ls gs

  -- the answer that an accepted graph has
  answer_is : (g : Graph) (ls gs : List ℕ) {r : Read} → Held ks xs rs (accepted g) r ls gs → r ≡ Accepted (counts_of g)
  unfolding Held
  answer_is g ls gs h = ap (λ (q : TrackRead). q.answer) h.0

  -- lines that are refused
  pub lines_refused : (p : Judged Graph) (ls gs : List ℕ) {r : Read} → Held ks xs rs p r ls gs → {n k : ℕ}
      → r ≡ Refused n k → Answered p ls gs r
  unfolding judged
  lines_refused (accepted g) ls gs h q =
      let e = answer_is g ls gs h in let z : ◌≡◌ {A = ℕ} 0 1 = cc in absurd (omega arith)
  lines_refused (refused n k) ls gs h q = h

  -- where lines are accepted, the tests of the rules decide
  decided : (g : Graph) (ls gs : List ℕ) (r : Read) → Held ks xs rs (accepted g) r ls gs → (s : Bool) {v : Bool}
      → not s ≡ v
      → Held ks xs rs (choose s (accepted g) (refused 13 0)) (choose v (Refused 13 0) r) ls gs
  unfolding Held
  decided g ls gs r h true is = rw (← is) h
  decided g ls gs r h false is = rw (← is)

  pub rules_decide : (p : Judged Graph) (ls gs : List ℕ) {r : Read} → Held ks xs rs p r ls gs
      → {c : GraphCounts} → r ≡ Accepted c → {b : Bool}
      → b ≡ has_shape ks ps xs ls gs c.nodes c.arcs c.meetings → {v : Bool} → not b ≡ v
      → Answered p ls gs (choose v (Refused 13 0) (Accepted c))
  unfolding judged Held
  rules_decide (accepted g) ls gs h {c} q {b} tested is =
      let e = answer_is g ls gs h in
      let counted : counts_of g ≡ c = cc in
      let labels_are = ap (λ (t : TrackRead). t.labels) h.0 in
      let graph_is = ap (λ (t : TrackRead). t.graph) h.0 in
      let long = length-replicate {A = ℕ} track_words 0 in
      let shape : b ≡ shaped ks ps xs (marks_of ks xs rs 0 g.labels) g =
      tested ∙ rw (← counted, labels_are, graph_is)
      (shape_told ks ps xs (marks_of ks xs rs 0 g.labels) (track_of g) g (marks_length ks xs rs 0 g.labels)
      (arcs_back _ long g.arcs g.meetings h.1.1 h.1.2 _ refl)
      (meetings_back _ long g.arcs g.meetings h.1.1 h.1.2 _ refl) h.1) in
      decided g ls gs (Accepted c) (rw q at h) (shaped ks ps xs (marks_of ks xs rs 0 g.labels) g) (sym (ap not shape) ∙ is)
  rules_decide (refused n k) ls gs h q t is = let z : ◌≡◌ {A = ℕ} 0 1 = cc in absurd (omega arith)

-- a column is handed over where a text is accepted, and else stays
pub handed_new : (new old : List ℕ) (x : Result GraphCounts RefusedAt) → is_ok x ≡ true
    → handed (read_told x) new old ≡ new
unfolding handed read_told
handed_new new old (Ok c) e = refl
handed_new new old (Err r) e = let z : ◌≡◌ {A = ℕ} 0 1 = cc in absurd (omega arith)

pub handed_old : (new old : List ℕ) (x : Result GraphCounts RefusedAt) → is_ok x ≡ false
    → handed (read_told x) new old ≡ old
unfolding handed read_told
handed_old new old (Ok c) e = let z : ◌≡◌ {A = ℕ} 0 1 = cc in absurd (omega arith)
handed_old new old (Err r) e = refl

-- an answer of code tells one outcome
pub read_told_once : (x y : Result GraphCounts RefusedAt) → read_told x ≡ read_told y → x ≡ y
unfolding read_told
read_told_once (Ok b) (Ok c) same = let counts : b ≡ c = cc in ap (λ q. Ok q) counts
read_told_once (Ok c) (Err e) same = let z : ◌≡◌ {A = ℕ} 0 1 = cc in absurd (omega arith)
read_told_once (Err e) (Ok c) same = let z : ◌≡◌ {A = ℕ} 0 1 = cc in absurd (omega arith)
read_told_once (Err e) (Err f) same =
    let numbers : number e.refusal ≡ number f.refusal = cc in
    let line : e.line ≡ f.line = cc in
    ap (λ q. Err q) (refused_once e f numbers line)

-- so all is as it should be afterwards
module _ (ks xs rs : List ℕ) where
  pub handed_over : (p : Judged Graph) (labels graph ls gs : List ℕ) {r : Read} {labels' graph' : List ℕ}
      → Held ks xs rs p r ls gs → labels' ≡ handed r ls labels → graph' ≡ handed r gs graph
      → with_graph r labels' graph' ≡ by_outcome ks xs rs p labels graph
  unfolding Held handed by_outcome
  handed_over (accepted g) labels graph ls gs h e f =
      rw (e, f, ap (λ (q : TrackRead). q.answer) h.0)
      (ap (λ (q : TrackRead). with_graph (Accepted (counts_of g)) q.labels q.graph) h.0)
  handed_over (refused n k) labels graph ls gs h e f = rw (e, f, h)

-- what reading owes a table, from what it comes to whatever the columns hold
pub reads : (d : ℕ) (ks ps xs rs t labels graph : List ℕ) (r : Read) (labels' graph' : List ℕ)
    → with_graph r labels' graph' ≡ track_read ks ps xs rs d t labels graph
    → Reads d (read_columns ks ps xs rs) t labels graph r labels' graph'
reads d ks ps xs rs t labels graph r labels' graph' e text os s table many =
    let same : outcome ks ps xs rs d t ≡ Shape.read (definitions_of s) t =
    ap (λ (q : Columns). outcome q.kinds q.payloads q.after q.roots d t) table.columns_are
    ∙ rw many (outcome_told text s table.checked t) in
    e ∙ ap (λ (p : Judged Graph). by_outcome ks xs rs p labels graph) same
