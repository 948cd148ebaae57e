-- The terms of a checked table are trees in preorder. Line by line it holds that, whatever trees come for
-- the path lengths due, the terms so far and those trees behind them are complete definitions: a term's
-- line makes one tree of the trees due to it. At the last line nothing is due, so the terms are that
-- themselves. Assumes nothing.
use Rattle.std.proofs.Common.{ℕ, zero, suc, ◌+◌, ◌-◌, ◌≤◌, ◌<◌, ◌≡◌, refl, sym, ap, ap₂, ◌∙◌, Bool, true}
use Rattle.std.proofs.Common.{false, ◌&&◌, List, [], ◌∷◌, ◌++◌, append_assoc, append-nil, arith, add-zero}
use Rattle.std.proofs.Common.{add-suc, suc-add, zero-add, length, get_or, drop, replicate, length-append, leb}
use Rattle.std.proofs.Common.{eqb, leb-true}
use Rattle.std.proofs.Math.Option.{none, some}
use Rattle.std.proofs.Math.ListN.{get_elem?}
use Rattle.std.proofs.Math.Seq.{append_snoc}
use Rattle.lines.specs.Line.{choose, number, Raw, lines}
use Rattle.lines.specs.Judging.{Judged, accepted, refused, judged_from}
use Rattle.lines.proofs.Digits.{both}
use Rattle.lines.proofs.Judging.{accepted_whole, accepted_line}
use Rattle.kinds.specs.Kind as Kind
use Rattle.kinds.specs.Kind.{known, payload_bytes, subterms}
use Rattle.frames.specs.TableFrame.{limit, longest, refusal, first_refusal, closes, frame_of}
use Rattle.frames.specs.declared.Frame.{Frame}
use Rattle.frames.specs.declared.Frame.TheVariants.{Opening, Definition, Term as TermLine, Closing, Wrong}
use Rattle.frames.specs.declared.Seen.{Seen}
use Rattle.refusals.proofs.Fine.{FineTerm, fine_term, depth_fits, fine_definition, fine_closing}
use Rattle.tables.specs.Table.{Item, Sofar, next_due, seen, taken, unopened, at_start, within, closed, whole_at}
use Rattle.tables.specs.Table.{number_met, stage_behind, table_lines, judged, text_room}
use Rattle.tables.specs.words.Filled.{begins}
use Rattle.tables.proofs.Loop.{behind_accepts}
use Rattle.terms.specs.Term.{Leaf, call, SKIP, STOP, Operator, internal, external, sequence, parallel}
use Rattle.terms.specs.Term.{Term, leaf, prefix, binary, leaf_kind, leaf_payload, leaf_of}
use Rattle.terms.specs.Term.{operator_kind, operator_payload, operator_of, size, preorder, flat, starts}
use Rattle.terms.specs.Term.{grown, trees, definitions_of, Shallow, LeafWithin, OperatorWithin, Within}

abbrev item : ℕ → ℕ → ℕ → Item
item d k p = record { definition = d; kind = k; payload = p }

grown_leaf : (d : ℕ) (l : Leaf) (ts : List Term)
    → grown (subterms (leaf_kind l)) (item d (leaf_kind l) (leaf_payload l)) ts ≡ leaf l ∷ ts
unfolding subterms grown leaf_of leaf_kind leaf_payload
grown_leaf d (call n) ts = refl
grown_leaf d SKIP ts = refl
grown_leaf d STOP ts = refl

grown_binary : (d : ℕ) (o : Operator) (t u : Term) (ts : List Term)
    → grown (subterms (operator_kind o)) (item d (operator_kind o) (operator_payload o)) (t ∷ u ∷ ts)
    ≡ binary o t u ∷ ts
unfolding subterms grown operator_of operator_kind operator_payload
grown_binary d internal t u ts = refl
grown_binary d external t u ts = refl
grown_binary d sequence t u ts = refl
grown_binary d (parallel x) t u ts = refl

-- a tree is read back from its preorder
pub trees_back : (d : ℕ) (t : Term) (rest : List Item) → trees (preorder d t ++ rest) ≡ t ∷ trees rest
unfolding trees preorder subterms grown
trees_back d (leaf l) rest = grown_leaf d l (trees rest)
trees_back d (prefix e t) rest = rw (trees_back d t rest)
trees_back d (binary o t u) rest =
    rw (append_assoc (preorder d t), trees_back d t (preorder d u ++ rest), trees_back d u rest)
    (grown_binary d o t u (trees rest))

pub trees_flat : (d : ℕ) (ts : List Term) → trees (flat d ts) ≡ ts
unfolding trees flat
trees_flat d [] = refl
trees_flat d (t ∷ ts) =
    trees_back d t (flat (suc d) ts) ∙ ap (λ (us : List Term). t ∷ us) (trees_flat (suc d) ts)

-- how many terms a tree and definitions are
pub preorder_length : (d : ℕ) (t : Term) → length (preorder d t) ≡ size t
unfolding preorder size
preorder_length d (leaf l) = refl
preorder_length d (prefix e t) = ap suc (preorder_length d t)
preorder_length d (binary o t u) =
    ap suc (length-append (preorder d t) (preorder d u) ∙ ap₂ ◌+◌ (preorder_length d t) (preorder_length d u))

pub flat_length : (d : ℕ) (t : Term) (ts : List Term)
    → length (flat d (t ∷ ts)) ≡ size t + length (flat (suc d) ts)
unfolding flat
flat_length d t ts =
    length-append (preorder d t) (flat (suc d) ts)
    ∙ ap (λ (m : ℕ). m + length (flat (suc d) ts)) (preorder_length d t)

starts_length : (n : ℕ) (ts : List Term) → length (starts n ts) ≡ length ts
unfolding starts
starts_length n [] = refl
starts_length n (t ∷ ts) = ap suc (starts_length (n + size t) ts)

-- the subterms of a leaf, of a prefix and of an operator
pub leaf_subterms : (l : Leaf) → subterms (leaf_kind l) ≡ 0
unfolding subterms leaf_kind
leaf_subterms (call n) = refl
leaf_subterms SKIP = refl
leaf_subterms STOP = refl

pub prefix_subterms : subterms Kind.prefix ≡ 1
unfolding subterms
prefix_subterms = refl

pub operator_subterms : (o : Operator) → subterms (operator_kind o) ≡ 2
unfolding subterms operator_kind
operator_subterms internal = refl
operator_subterms external = refl
operator_subterms sequence = refl
operator_subterms (parallel x) = refl

-- what a term's line says, by its kind and payload, where they are known and in range
data Form (d e k p : ℕ) : Type 0 where
  is_leaf : (l : Leaf) → k ≡ leaf_kind l → p ≡ leaf_payload l → LeafWithin d l → Form d e k p
  is_prefix : k ≡ Kind.prefix → p < e → Form d e k p
  is_binary : (o : Operator) → k ≡ operator_kind o → p ≡ operator_payload o → OperatorWithin e o → Form d e k p

known_most : (k : ℕ) → known k ≡ true → k ≤ 8
unfolding known
known_most k h = leb-true k 8 (both (leb 1 k) (leb k 8) h).1

form : (k p : ℕ) (s : Seen) → known k ≡ true → p < limit s k → Form s.definitions s.events k p
unfolding known limit leaf_kind leaf_payload operator_kind operator_payload
form zero p s h r = let z : ◌≡◌ {A = ℕ} 0 1 = cc in absurd (omega arith)
form (suc zero) p s h r = is_leaf (call p) refl refl r
form (suc (suc zero)) p s h r = is_prefix refl r
form (suc (suc (suc zero))) p s h r = is_binary internal refl (omega arith) tt
form (suc (suc (suc (suc zero)))) p s h r = is_binary external refl (omega arith) tt
form (suc (suc (suc (suc (suc zero))))) p s h r = is_binary sequence refl (omega arith) tt
form (suc (suc (suc (suc (suc (suc zero)))))) p s h r = is_binary (parallel p) refl refl r
form (suc (suc (suc (suc (suc (suc (suc zero))))))) p s h r = is_leaf SKIP refl (omega arith) tt
form (suc (suc (suc (suc (suc (suc (suc (suc zero)))))))) p s h r = is_leaf STOP refl (omega arith) tt
form (suc (suc (suc (suc (suc (suc (suc (suc (suc k))))))))) p s h r =
    absurd (omega (arith, known_most (suc (suc (suc (suc (suc (suc (suc (suc (suc k))))))))) h))

-- a tree in range of d definitions and e events, whose own path has n digits
abbrev pub Fits : ℕ → ℕ → ℕ → Term → Type 0
Fits d e n t = Shallow n t × Within d e t

-- trees for the path lengths due, one each
abbrev Fit : ℕ → ℕ → List ℕ → List Term → Type 0
Fit d e [] [] = Unit {0}
Fit d e [] (t ∷ ts) = ⊥
Fit d e (n ∷ ns) [] = ⊥
Fit d e (n ∷ ns) (t ∷ ts) = Fits d e n t × Fit d e ns ts

fit_none : (d e : ℕ) (ns : List ℕ) → length ns ≡ 0 → Fit d e ns []
fit_none d e [] h = tt
fit_none d e (n ∷ ns) h = absurd (omega arith)

-- trees of definition j, one behind the other
due_items : ℕ → List Term → List Item
due_items j [] = []
due_items j (t ∷ ts) = preorder j t ++ due_items j ts

-- what a term's line makes of trees that come: one tree of those due to it, and the others
record Made (s : Seen) (j k p : ℕ) (ns : List ℕ) (us : List Term) : Type 0 where
  made : List Term
  fit : Fit s.definitions s.events (s.depth ∷ ns) made
  in_preorder : due_items j made ≡ item j k p ∷ due_items j us

module _ (s : Seen) (j k p : ℕ) (ns : List ℕ) where
  make : (us : List Term) → Form s.definitions s.events k p → FineTerm k p s
      → Fit s.definitions s.events (replicate (subterms k) (s.depth + 1) ++ ns) us → Made s j k p ns us
  unfolding due_items preorder subterms longest
  make us (is_leaf l ek ep w) g f = record {
    made = leaf l ∷ us;
    fit = ((depth_fits s k p g, w), rw (ek, leaf_subterms l) at f);
    in_preorder = rw (ek, ep);
  }
  make [] (is_prefix ek w) g f = absurd (rw ek at f)
  make (u ∷ us) (is_prefix ek w) g f =
      let deep : s.depth + 1 ≤ 64 = rw ek at g.short in
      let due : Fit s.definitions s.events ((s.depth + 1) ∷ ns) (u ∷ us) = rw ek at f in
      record {
        made = prefix p u ∷ us;
        fit = (((deep, due.0.0), (w, due.0.1)), due.1);
        in_preorder = rw ek;
      }
  make [] (is_binary o ek ep w) g f = absurd (rw (ek, operator_subterms o) at f)
  make (u ∷ []) (is_binary o ek ep w) g f = absurd (rw (ek, operator_subterms o) at f).1
  make (u ∷ v ∷ us) (is_binary o ek ep w) g f =
      let due : Fit s.definitions s.events ((s.depth + 1) ∷ (s.depth + 1) ∷ ns) (u ∷ v ∷ us) =
      rw (ek, operator_subterms o) at f in
      record {
        made = binary o u v ∷ us;
        fit = (((depth_fits s k p g, (due.0.0, due.1.0.0)), (w, (due.0.1, due.1.0.1))), due.1.1);
        in_preorder = rw (ek, ep, append_assoc (preorder j u));
      }

-- every definition's tree, from the empty path
abbrev pub Each : ℕ → ℕ → List Term → Type 0
Each d e [] = Unit {0}
Each d e (t ∷ ts) = Fits d e 0 t × Each d e ts

pub each_at : (d e : ℕ) (ts : List Term) → Each d e ts
    → (k : ℕ) (t : Term) → get_elem? ts k ≡ some t → Fits d e 0 t
each_at d e [] h k t q = let z : ◌≡◌ {A = ℕ} 0 1 = cc in absurd (omega arith)
each_at d e (u ∷ ts) h zero t q = let same : u ≡ t = cc in rw same at h.0
each_at d e (u ∷ ts) h (suc k) t q = each_at d e ts h.1 k t q

-- a list has a definition at exactly the numbers below its length
pub listed : (ts : List Term) (k : ℕ) → k < length ts → (t : Term) × (get_elem? ts k ≡ some t)
listed [] k h = absurd (omega arith)
listed (t ∷ ts) zero h = (t, refl)
listed (t ∷ ts) (suc k) h = listed ts k (omega arith)

pub listed_below : (ts : List Term) (k : ℕ) (t : Term) → get_elem? ts k ≡ some t → k < length ts
listed_below [] k t e = let z : ◌≡◌ {A = ℕ} 0 1 = cc in absurd (omega arith)
listed_below (u ∷ ts) zero t e = omega arith
listed_below (u ∷ ts) (suc k) t e = omega (arith, listed_below ts k t e)

-- one definition more behind the others
each_snoc : (d e : ℕ) (ts : List Term) (u : Term) → Each d e ts → Fits d e 0 u → Each d e (ts ++ (u ∷ []))
each_snoc d e [] u h f = (f, tt)
each_snoc d e (t ∷ ts) u h f = (h.0, each_snoc d e ts u h.1 f)

flat_snoc : (d : ℕ) (ts : List Term) (u : Term)
    → flat d (ts ++ (u ∷ [])) ≡ flat d ts ++ due_items (d + length ts) (u ∷ [])
unfolding flat due_items
flat_snoc d [] u = rw (add-zero d)
flat_snoc d (t ∷ ts) u =
    rw (flat_snoc (suc d) ts u, append_assoc (preorder d t), suc-add d (length ts), add-suc d (length ts))

starts_snoc : (n d : ℕ) (ts : List Term) (u : Term)
    → starts n (ts ++ (u ∷ [])) ≡ starts n ts ++ ((n + length (flat d ts)) ∷ [])
unfolding starts flat
starts_snoc n d [] u = rw (add-zero n)
starts_snoc n d (t ∷ ts) u =
    let m : ℕ = length (flat (suc d) ts) in
    let same : n + size t + m ≡ n + length (flat d (t ∷ ts)) = omega (arith, flat_length d t ts) in
    ap (λ (l : List ℕ). n ∷ l) (starts_snoc (n + size t) (suc d) ts u) ∙ rw same

-- complete definitions: the terms so far, and trees behind them
record Complete (s : Sofar) (us : List Term) : Type 0 where
  definitions : List Term
  all : flat 0 definitions ≡ s.terms ++ due_items (length s.roots - 1) us
  roots_are : starts 0 definitions ≡ s.roots
  each : Each s.definitions s.events definitions

complete_terms : (s : Sofar) (c : Complete s []) → flat 0 c.definitions ≡ s.terms
unfolding due_items
complete_terms s c = c.all ∙ append-nil s.terms

complete_many : (s : Sofar) (us : List Term) (c : Complete s us) → length c.definitions ≡ length s.roots
complete_many s us c = sym (starts_length 0 c.definitions) ∙ ap length c.roots_are

-- what holds line by line
record Grows (s : Sofar) : Type 0 where
  some_definitions : 0 < s.definitions
  few_definitions : s.definitions ≤ 64
  few_events : s.events ≤ 64
  begun_fit : length s.roots ≤ s.definitions
  few_terms : length s.terms ≤ 1024
  complete : (us : List Term) → Fit s.definitions s.events s.due us → Complete s us

first_due : (ns : List ℕ) → 0 < length ns → next_due ns ∷ drop 1 ns ≡ ns
unfolding next_due
first_due [] h = absurd (omega arith)
first_due (n ∷ ns) h = refl

module _ (s : Sofar) (grows : Grows s) where
  complete_definition : (n : ℕ) → Complete s [] → (us : List Term)
      → Fit s.definitions s.events (0 ∷ []) us
      → Complete (taken s (Definition n)) us
  unfolding taken
  complete_definition n c [] f = absurd f
  complete_definition n c (u ∷ []) f =
      let ts : List Term = c.definitions in
      let before : flat 0 ts ≡ s.terms = complete_terms s c in
      let own : 0 + length ts ≡ length (taken s (Definition n)).roots - 1 =
      simp length-append (omega (arith, complete_many s [] c)) in
      record {
        definitions = ts ++ (u ∷ []);
        all = flat_snoc 0 ts u ∙ ap₂ (λ (l : List Item) (j : ℕ). l ++ due_items j (u ∷ [])) before own;
        roots_are = starts_snoc 0 0 ts u
            ∙ ap₂ (λ (l : List ℕ) (j : ℕ). l ++ (j ∷ [])) c.roots_are (zero-add _ ∙ ap length before);
        each = each_snoc _ _ ts u c.each f.0;
      }
  complete_definition n c (u ∷ v ∷ us) f = absurd f.1

  grows_definition : (n : ℕ) → refusal (Definition n) (seen s) ≡ 0 → Grows (taken s (Definition n))
  unfolding taken seen
  grows_definition n e =
      let f = fine_definition (seen s) n e in
      record {
        some_definitions = grows.some_definitions;
        few_definitions = grows.few_definitions;
        few_events = grows.few_events;
        begun_fit = simp length-append (omega arith);
        few_terms = grows.few_terms;
        complete = complete_definition n (grows.complete [] (fit_none _ _ s.due f.2));
      }

  complete_term : (k p : ℕ) → known k ≡ true → FineTerm k p (seen s) → (us : List Term)
      → Fit s.definitions s.events (replicate (subterms k) (next_due s.due + 1) ++ drop 1 s.due) us
      → Complete (taken s (TermLine k p)) us
  unfolding taken seen
  complete_term k p h g us f =
      let j : ℕ = length s.roots - 1 in
      let m = make (seen s) j k p (drop 1 s.due) us (form k p (seen s) h g.in_range) g f in
      let c = grows.complete m.made (rw (first_due s.due g.wanted) at m.fit) in
      record {
        definitions = c.definitions;
        all = c.all ∙ ap (λ (l : List Item). s.terms ++ l) m.in_preorder
            ∙ sym (append_snoc s.terms (item j k p) (due_items j us));
        roots_are = c.roots_are;
        each = c.each;
      }

  grows_term : (k p : ℕ) → known k ≡ true → refusal (TermLine k p) (seen s) ≡ 0 → Grows (taken s (TermLine k p))
  unfolding taken seen
  grows_term k p h e =
      let g : FineTerm k p (seen s) = fine_term (seen s) k p e in
      record {
        some_definitions = grows.some_definitions;
        few_definitions = grows.few_definitions;
        few_events = grows.few_events;
        begun_fit = grows.begun_fit;
        few_terms = simp length-append (omega (arith, g.room));
        complete = complete_term k p h g;
      }

-- what a checked table is
pub record IsTable (s : Sofar) : Type 0 where
  pub all : flat 0 (definitions_of s) ≡ s.terms
  pub roots_are : starts 0 (definitions_of s) ≡ s.roots
  pub many : length (definitions_of s) ≡ s.definitions
  pub some_definitions : 0 < s.definitions
  pub few_definitions : s.definitions ≤ 64
  pub few_events : s.events ≤ 64
  pub few_terms : length s.terms ≤ 1024
  pub each : Each s.definitions s.events (definitions_of s)

is_table : (s : Sofar) → Grows s → (n : ℕ) → refusal (Closing n) (seen s) ≡ 0 → IsTable s
unfolding seen
is_table s grows n e =
    let f = fine_closing (seen s) n e in
    let c : Complete s [] = grows.complete [] (fit_none _ _ s.due f.1) in
    let all : flat 0 c.definitions ≡ s.terms = complete_terms s c in
    let same : definitions_of s ≡ c.definitions = ap trees (sym all) ∙ trees_flat 0 c.definitions in
    record {
      all = rw same all;
      roots_are = rw same c.roots_are;
      many = rw same (omega (arith, f.2, grows.begun_fit, complete_many s [] c));
      some_definitions = grows.some_definitions;
      few_definitions = grows.few_definitions;
      few_events = grows.few_events;
      few_terms = grows.few_terms;
      each = rw same c.each;
    }

-- a term's line has a known kind
abbrev Known : Frame → Type 0
Known Wrong = Unit {0}
Known (Opening ed dd ee) = Unit {0}
Known (Definition n) = Unit {0}
Known (TermLine k p) = known k ≡ true
Known (Closing t) = Unit {0}

frame_known : (bs : List ℕ) → Known (frame_of bs)
unfolding frame_of
frame_known bs =
    go (eqb (get_or bs 0 0) 0x12) (known (get_or bs 1 0)) (eqb (length bs) (2 + payload_bytes (get_or bs 1 0)))
    (eqb (get_or bs 0 0) 0x11 && eqb (length bs) 2) (eqb (get_or bs 0 0) 0x1f && eqb (length bs) 3)
    (eqb (get_or bs 0 0) 0x10 && eqb (length bs) 4) refl
  where
    go : (term k long definition closing opening : Bool) → known (get_or bs 1 0) ≡ k
        → Known (choose term (choose (k && long) (TermLine (get_or bs 1 0) (number (drop 2 bs))) Wrong)
        (choose definition (Definition (get_or bs 1 0)) (choose closing (Closing (number (drop 1 bs)))
        (choose opening (Opening (get_or bs 1 0) (get_or bs 2 0) (get_or bs 3 0)) Wrong))))
    go true true true d c o h = h
    go true true false d c o h = tt
    go true false l d c o h = tt
    go false k l true c o h = tt
    go false k l false true o h = tt
    go false k l false false true h = tt
    go false k l false false false h = tt

-- a line that meets no refusal goes on, or is the last
line_table : (f : Frame) (s : Sofar) (n : ℕ) (ls : List Raw) (t : Sofar) → Grows s → Known f
    → refusal f (seen s) ≡ 0
    → (Grows (taken s f) → judged_from table_lines (within (taken s f)) n ls ≡ accepted t → IsTable t)
    → judged_from table_lines (choose (closes f) (closed s) (within (taken s f))) n ls ≡ accepted t → IsTable t
unfolding refusal closes
line_table Wrong s n ls t g h e on q = let z : ◌≡◌ {A = ℕ} 2 0 = e in absurd (omega arith)
line_table (Opening ed dd ee) s n ls t g h e on q = let z : ◌≡◌ {A = ℕ} 2 0 = e in absurd (omega arith)
line_table (Definition m) s n ls t g h e on q = on (grows_definition s g m e) q
line_table (TermLine k p) s n ls t g h e on q = on (grows_term s g k p h e) q
line_table (Closing m) s n ls t g h e on q = rw (behind_accepts s t n ls q) at (is_table s g m e)

rest_table : (ls : List Raw) (s : Sofar) (n : ℕ) (t : Sofar) → Grows s
    → judged_from table_lines (within s) n ls ≡ accepted t → IsTable t
unfolding whole_at number_met stage_behind
rest_table [] s n t g q =
    let early : none ≡ some t = accepted_whole table_lines (within s) n q in
    let z : ◌≡◌ {A = ℕ} 0 1 = cc in absurd (omega arith)
rest_table (l ∷ ls) s n t g q =
    let a = accepted_line table_lines (within s) n l ls q in
    let f = frame_of a.bytes in
    line_table f s (n + 1) ls t g (frame_known a.bytes) a.none_met
    (λ g' q'. rest_table ls (taken s f) (n + 1) t g' q') a.then

-- line 1
no_refusal : (b : Bool) → ◌≡◌ {A = ℕ} (choose b 0 3) 0 → b ≡ true
no_refusal true e = refl
no_refusal false e = absurd (omega arith)

complete_none : (d e : ℕ) (us : List Term) → Fit d e [] us → Complete (begins d e) us
unfolding flat starts due_items
complete_none d e [] f = record { definitions = []; all = refl; roots_are = refl; each = tt }
complete_none d e (u ∷ us) f = absurd f

opening_grows : (f : Frame) → first_refusal f ≡ 0 → Grows (taken unopened f)
unfolding first_refusal taken
opening_grows Wrong e = let z : ◌≡◌ {A = ℕ} 2 0 = e in absurd (omega arith)
opening_grows (Definition n) e = let z : ◌≡◌ {A = ℕ} 2 0 = e in absurd (omega arith)
opening_grows (TermLine k p) e = let z : ◌≡◌ {A = ℕ} 2 0 = e in absurd (omega arith)
opening_grows (Closing n) e = let z : ◌≡◌ {A = ℕ} 2 0 = e in absurd (omega arith)
opening_grows (Opening ed dd ee) e =
    let a = both (eqb ed 1) _ (no_refusal _ e) in
    let b = both (leb 1 dd) _ a.1 in
    let c = both (leb dd 64) _ b.1 in
    record {
      some_definitions = leb-true 1 dd b.0;
      few_definitions = leb-true dd 64 c.0;
      few_events = leb-true ee 64 c.1;
      begun_fit = omega arith;
      few_terms = omega arith;
      complete = complete_none dd ee;
    }

first_table : (ls : List Raw) (t : Sofar) → judged_from table_lines at_start 1 ls ≡ accepted t → IsTable t
unfolding whole_at number_met stage_behind
first_table [] t q =
    let early : none ≡ some t = accepted_whole table_lines at_start 1 q in
    let z : ◌≡◌ {A = ℕ} 0 1 = cc in absurd (omega arith)
first_table (l ∷ ls) t q =
    let a = accepted_line table_lines at_start 1 l ls q in
    rest_table ls _ 2 t (opening_grows _ a.none_met) a.then

-- a text that is accepted fails no test
accepted_by : (b : Bool) (x : Judged Sofar) (n l : ℕ) (t : Sofar) → choose b x (refused n l) ≡ accepted t
    → x ≡ accepted t
accepted_by true x n l t e = e
accepted_by false x n l t e = let z : ◌≡◌ {A = ℕ} 0 1 = cc in absurd (omega arith)

pub checked_trees : (text : List ℕ) (s : Sofar) → judged text ≡ accepted s → IsTable s
unfolding judged
checked_trees text s q = first_table (lines text) s (accepted_by (leb (length text) text_room) _ 6 0 s q)
