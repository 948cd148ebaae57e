-- Renumberings. A renumbering carries the order of the walk, and with it each label, arc and meeting that is
-- listed, so two graphs that one carries to each other have one canonical graph. It goes back, and one behind
-- another is one; and where the walk reaches all labelled references and none meets itself, numbering them is
-- one. Assumes nothing.
use Rattle.std.proofs.Common.{ℕ, suc, ◌<◌, ◌≡◌, refl, sym, ap, ◌∙◌, Bool, true, false, List, [], ◌∷◌, map}
use Rattle.std.proofs.Common.{arith, length, eqb, eqb-true, ltb-true, le-ltb}
use Rattle.std.proofs.lemmas.Bool.{eqb-false}
use Rattle.rules.specs.Track.{lookup, Label}
use Rattle.graphs.specs.Graph.{joins, meets, Graph, labelled, present}
use Rattle.graphs.specs.Walk.{among, order}
use Rattle.graphs.specs.Saved.{row, rows, rows_up, numbered, canonical}
use Rattle.graphs.proofs.Walking.{Within, among_first, within_rest}
use Rattle.graphs.proofs.Ordered.{order_distinct, order_labelled}
use Rattle.graphs.proofs.References.{number_there, number_again}
use Rattle.graphs.proofs.Pairs.{agree}
use Rattle.graphs.proofs.Renaming.{Narrow, Carries, order_carried}
use Rattle.graphs.proofs.Canonical.{reference_of, number_of, canonical_labelled, canonical_meetings}
use Rattle.graphs.proofs.Canonical.{canonical_carries, meets_at}
use Rattle.graphs.specs.Renumbering.{Renumbers}

-- what is listed of mapped references of a domain is what is listed of them
module _ (D : ℕ → Type 0) (φ : ℕ → ℕ) where
  -- labels, where places are carried
  numbered_carried : (ls ks : List Label) → ((n : ℕ) → D n → lookup (φ n) ks ≡ lookup n ls)
      → (k : ℕ) (ns : List ℕ) → Within D ns → numbered ks k (map φ ns) ≡ numbered ls k ns
  unfolding numbered
  numbered_carried ls ks same k [] h = refl
  numbered_carried ls ks same k (n ∷ ns) h =
      rw (same n (h n (among_first n ns)), numbered_carried ls ks same (suc k) ns (within_rest D n ns h))

  -- rows, where the test is carried
  module _ (t u : ℕ → ℕ → Bool) (same : (n m : ℕ) → D n → D m → u (φ n) (φ m) ≡ t n m) where
    row_carried : (i n j : ℕ) (ms : List ℕ) → D n → Within D ms
        → row u i (φ n) j (map φ ms) ≡ row t i n j ms
    unfolding row
    row_carried i n j [] here h = refl
    row_carried i n j (m ∷ ms) here h =
        rw (same n m here (h m (among_first m ms)), row_carried i n (suc j) ms here (within_rest D m ms h))

    -- all rows, and those of each with those behind it
    rows_carried : (o : List ℕ) (i : ℕ) (ns : List ℕ) → Within D o → Within D ns
        → rows u (map φ o) i (map φ ns) ≡ rows t o i ns
    unfolding rows
    rows_carried o i [] g h = refl
    rows_carried o i (n ∷ ns) g h =
        let here = h n (among_first n ns) in
        rw (row_carried i n 0 o here g, rows_carried o (suc i) ns g (within_rest D n ns h))

    rows_up_carried : (i : ℕ) (ns : List ℕ) → Within D ns → rows_up u i (map φ ns) ≡ rows_up t i ns
    unfolding rows_up
    rows_up_carried i [] h = refl
    rows_up_carried i (n ∷ ns) h =
        let behind = within_rest D n ns h in
        rw (row_carried i n (suc i) ns (h n (among_first n ns)) behind, rows_up_carried (suc i) ns behind)

module _ (φ ψ : ℕ → ℕ) (g h : Graph) (r : Renumbers φ ψ g h) where
  -- labelled references are carried to labelled ones
  labelled_on : (n : ℕ) → labelled g n ≡ true → labelled h (φ n) ≡ true
  labelled_on n p = ap present (r.places n p) ∙ p

  labelled_back : (m : ℕ) → labelled h m ≡ true → labelled g (ψ m) ≡ true
  labelled_back m p = ap present (r.places_back m p) ∙ p

  -- a renumbering carries all labelled references
  pub renumbers_carries : Carries (λ n. labelled g n ≡ true) φ g h
  renumbers_carries = record {
    apart = λ n m p q e. sym (r.back n p) ∙ ap ψ e ∙ r.back m q;
    places = r.places;
    arcs = r.arcs;
    stays = λ n m p arc q. q;
    reaches = λ n m p arc q. (ψ m, labelled_back m q, r.forth m q);
    start = agree (labelled h 0) (labelled g 0)
        (λ p. sym (ap (λ k. labelled g k) (r.first_back p)) ∙ labelled_back 0 p)
        (λ p. sym (ap (λ k. labelled h k) (r.first p)) ∙ labelled_on 0 p);
    first = λ p. (p, r.first p);
  }

  module _ (few : Narrow g) (few' : Narrow h) where
    -- the orders correspond
    pub order_renumbered : order h ≡ map φ (order g)
    order_renumbered = order_carried (λ n. labelled g n ≡ true) φ g h renumbers_carries few few'

    -- and the canonical graphs are the same
    pub renumbered_canonical : canonical h ≡ canonical g
    unfolding canonical
    renumbered_canonical =
        let D : ℕ → Type 0 = λ n. labelled g n ≡ true in
        let o = order g in
        let here = order_labelled g in
        rw (
          order_renumbered,
          numbered_carried D φ g.labels h.labels r.places 0 o here,
          rows_carried D φ (joins g.arcs) (joins h.arcs) r.arcs o 0 o here here,
          rows_up_carried D φ (meets g.meetings) (meets h.meetings) r.meetings 0 o here,
        )

  -- a renumbering goes back
  pub renumbers_back : Renumbers ψ φ h g
  renumbers_back = record {
    back = r.forth;
    forth = r.back;
    places = r.places_back;
    places_back = r.places;
    arcs = λ n m p q.
        sym (r.arcs (ψ n) (ψ m) (labelled_back n p) (labelled_back m q)) ∙ rw (r.forth n p, r.forth m q);
    meetings = λ n m p q.
        sym (r.meetings (ψ n) (ψ m) (labelled_back n p) (labelled_back m q))
        ∙ rw (r.forth n p, r.forth m q);
    first = r.first_back;
    first_back = r.first;
  }

-- and one behind another is one
pub renumbers_then : (φ ψ χ ω : ℕ → ℕ) (g h k : Graph) → Renumbers φ ψ g h → Renumbers χ ω h k
    → Renumbers (λ n. χ (φ n)) (λ n. ψ (ω n)) g k
renumbers_then φ ψ χ ω g h k r s =
    let on = labelled_on φ ψ g h r in
    let back = labelled_back χ ω h k s in
    record {
      back = λ n p. ap ψ (s.back (φ n) (on n p)) ∙ r.back n p;
      forth = λ m p. ap χ (r.forth (ω m) (back m p)) ∙ s.forth m p;
      places = λ n p. s.places (φ n) (on n p) ∙ r.places n p;
      places_back = λ m p. r.places_back (ω m) (back m p) ∙ s.places_back m p;
      arcs = λ n m p q. s.arcs (φ n) (φ m) (on n p) (on m q) ∙ r.arcs n m p q;
      meetings = λ n m p q. s.meetings (φ n) (φ m) (on n p) (on m q) ∙ r.meetings n m p q;
      first = λ p. ap χ (r.first p) ∙ s.first (ap (λ n. labelled h n) (sym (r.first p)) ∙ on 0 p);
      first_back = λ p.
          ap ψ (s.first_back p) ∙ r.first_back (ap (λ n. labelled h n) (sym (s.first_back p)) ∙ back 0 p);
    }

-- the walk reaches all labelled references
abbrev pub Reaching : Graph → Type 0
Reaching g = (n : ℕ) → labelled g n ≡ true → among n (order g) ≡ true

-- no reference meets itself
abbrev pub Apart : Graph → Type 0
Apart g = (n : ℕ) → meets g.meetings n n ≡ false

module _ (g : Graph) (all : Reaching g) (apart : Apart g) where
  -- a labelled reference has its number, and a labelled number is one
  has_number : (n : ℕ) → labelled g n ≡ true
      → (number_of g n < length (order g)) × (reference_of g (number_of g n) ≡ n)
  has_number n p = number_there (order g) n (all n p)

  is_number : (k : ℕ) → labelled (canonical g) k ≡ true → k < length (order g)
  is_number k p = ltb-true k (length (order g)) (sym (canonical_labelled g k) ∙ p)

  -- two numbers meet where their references do, one and the same nowhere
  numbers_meet : (i j : ℕ) → i < length (order g) → j < length (order g)
      → meets (canonical g).meetings i j ≡ meets g.meetings (reference_of g i) (reference_of g j)
  numbers_meet i j p q = go (eqb i j) refl
    where
      go : (b : Bool) → eqb i j ≡ b
          → meets (canonical g).meetings i j ≡ meets g.meetings (reference_of g i) (reference_of g j)
      go true e =
          let is = eqb-true i j e in
          let alone = apart (reference_of g j) in
          rw (is, canonical_meetings g j j, le-ltb j j (omega arith)) (sym alone)
      go false e = meets_at g i j p q (eqb-false i j e)

  -- numbering is a renumbering
  pub canonical_renumbers : Renumbers (number_of g) (reference_of g) g (canonical g)
  canonical_renumbers =
      let carries = canonical_carries g in
      record {
        back = λ n p. (has_number n p).1;
        forth = λ k p. number_again (order g) (order_distinct g) k (is_number k p);
        places = λ n p.
            let (inside, is) = has_number n p in
            sym (carries.places (number_of g n) inside) ∙ ap (λ m. lookup m g.labels) is;
        places_back = λ k p. carries.places k (is_number k p);
        arcs = λ n m p q.
            let (at_n, is-n) = has_number n p in
            let (at-m, is_m) = has_number m q in
            sym (carries.arcs (number_of g n) (number_of g m) at_n at-m) ∙ rw (is-n, is_m);
        meetings = λ n m p q.
            let (at_n, is-n) = has_number n p in
            let (at-m, is_m) = has_number m q in
            numbers_meet (number_of g n) (number_of g m) at_n at-m ∙ rw (is-n, is_m);
        first = λ p.
            let (inside, is) = carries.first (sym carries.start ∙ p) in
            ap (number_of g) (sym is) ∙ number_again (order g) (order_distinct g) 0 inside;
        first_back = λ p. (carries.first p).1;
      }
