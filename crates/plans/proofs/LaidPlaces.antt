-- Where a tree's terms stand: all below one place by the tree's own paths, so that each subterm stands one
-- digit below its term, and each event below its prefix. In the layout of a checked table every definition
-- stands so. Assumes nothing.
use Rattle.std.proofs.Common.{ℕ, ◌+◌, ◌<◌, ◌≡◌, sym, ap, ◌∙◌, List, [], ◌∷◌, ◌++◌, append-nil, append_assoc}
use Rattle.std.proofs.Common.{arith, add-zero, add_assoc}
use Rattle.std.proofs.Math.Option.{some}
use Rattle.std.proofs.Math.ListN.{get_elem?}
use Rattle.lines.specs.Judging.{accepted}
use Rattle.frames.specs.TableFrame.{definition_room}
use Rattle.tables.specs.Table.{Sofar, judged}
use Rattle.tables.specs.words.Columns.{roots}
use Rattle.terms.specs.Term.{Term, prefix, size, definitions_of}
use Rattle.terms.proofs.Held.{size_some}
use Rattle.places.specs.Place.{Place, path_in, term_at, PrefixAt, event_path}
use Rattle.columns.specs.words.Columns.{Columns, look}
use Rattle.places.specs.code.Descent.{told, answer}
use Rattle.places.specs.declared.Literal.{Literal}
use Rattle.places.specs.declared.Literal.TheVariants.{Own, Event}
use Rattle.places.proofs.Sides.{Side, side_inside, side_at, path_root, prefix_inside}
use Rattle.places.proofs.Literals.{at_definition}
use Rattle.places.proofs.Laws.{Answers, own_answered, event_answered, checked_roots}
use Rattle.rules.specs.Process.{below}
use Rattle.plans.specs.words.Plan.{Layout}
use Rattle.plans.specs.words.Layout.{found, place_of, layout}

-- a tree's numbers stand at the paths below w in definition d
abbrev pub Sited : Layout → ℕ → ℕ → List ℕ → Term → Type 0
Sited l i d w t = (m : ℕ) → m < size t → l.place (i + m) ≡ record { definition = d; path = w ++ path_in t m }

module _ (l : Layout) (i d : ℕ) (w : List ℕ) where
  pub sited_root : (t : Term) → Sited l i d w t → l.place i ≡ record { definition = d; path = w }
  sited_root t s = rw (add-zero i, path_root t, append-nil w) at (s 0 (size_some t))

  pub sited_side : {T t : Term} {x k : ℕ} → Side T x k t → Sited l i d w T
      → Sited l (i + k) d (w ++ (x ∷ [])) t
  sited_side {t} {x} {k} side s m h =
      let inside = side_inside side in
      rw (add_assoc i k m, append_assoc w (x ∷ []) (path_in t m), ← (side_at m side h).0)
      (s (k + m) (omega arith))

-- a subterm stands one digit below its term
pub sited_below : {T t : Term} {x k : ℕ} (l : Layout) (i d : ℕ) (w : List ℕ) → Side T x k t → Sited l i d w T
    → l.place (i + k) ≡ below (l.place i) x
sited_below {T} {t} {x} {k} l i d w side s =
    sited_root l (i + k) d (w ++ (x ∷ [])) t (sited_side l i d w side s)
    ∙ ap (λ (q : Place). below q x) (sym (sited_root l i d w T s))

-- a tree's events stand one digit below their prefixes
abbrev pub Evented : Layout → ℕ → Term → Type 0
Evented l i t = (m : ℕ) → PrefixAt t m → l.event (i + m) ≡ below (l.place (i + m)) 1

pub evented_root : (l : Layout) (i e : ℕ) (t : Term) → Evented l i (prefix e t)
    → l.event i ≡ below (l.place i) 1
unfolding term_at
evented_root l i e t s = rw (add-zero i) at (s 0 tt)

pub evented_side : {T t : Term} {x k : ℕ} (l : Layout) (i : ℕ) → Side T x k t → Evented l i T
    → Evented l (i + k) t
evented_side {t} {x} {k} l i side s m p =
    rw (add_assoc i k m) (s (k + m) (rw (side_at m side (prefix_inside t m p)).1 p))

-- a literal's place is the one that it is answered with
answered_place : (c : Columns) (a : Literal) (k : ℕ) (w : List ℕ) → Answers c a k w
    → place_of c a ≡ record { definition = k; path = w }
unfolding place_of found answer told
answered_place c a k w h =
    let own = at_definition _ _ _ _ (rw h.1 at h.0) in
    rw (own, h.1)

module _ (text : List ℕ) (s : Sofar) (q : judged text ≡ accepted s) (k : ℕ) (t : Term)
    (e : get_elem? (definitions_of s) k ≡ some t) where
  -- a definition's tree stands in the layout of its table from the empty path on
  pub definition_sited : Sited (layout s) (look definition_room (roots s) k) k [] t
  unfolding layout
  definition_sited m h =
      answered_place _ (Own (look definition_room (roots s) k + m)) k (path_in t m)
      (own_answered _ (definitions_of s) (checked_roots text s q) k t e m h)

  -- and so do its events
  pub event_of_definition : (m : ℕ) → PrefixAt t m
      → (layout s).event (look definition_room (roots s) k + m)
      ≡ record { definition = k; path = event_path (path_in t m) }
  unfolding layout
  event_of_definition m p =
      answered_place _ (Event (look definition_room (roots s) k + m)) k (event_path (path_in t m))
      (event_answered _ (definitions_of s) (checked_roots text s q) k t e m p)

  pub definition_evented : Evented (layout s) (look definition_room (roots s) k) t
  definition_evented m p =
      event_of_definition m p
      ∙ ap (λ (v : Place). below v 1) (sym (definition_sited m (prefix_inside t m p)))
