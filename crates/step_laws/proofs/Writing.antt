-- What a part of a step writes, told apart from what control it leaves: labels, arcs, meetings and event nodes are
-- added behind those that were there, a labelled reference lasts, and only references that the part owns or draws
-- change. Parts follow one another. Assumes nothing.
use Rattle.std.proofs.Common.{ℕ, ◌+◌, ◌≤◌, ◌<◌, ◌≡◌, refl, sym, ap, subst, ◌∙◌, Bool, true, false, List, []}
use Rattle.std.proofs.Common.{◌∷◌, ◌++◌, append_assoc, arith, length, length-append, eqb}
use Rattle.std.proofs.Math.Option.{Option, none, some}
use Rattle.lines.specs.Line.{choose}
use Rattle.places.specs.Place.{Place}
use Rattle.rules.specs.Track.{Label, Pair, lookup}
use Rattle.plans.specs.words.Plan.{Layout}
use Rattle.control.proofs.Framed.{Same, Lasting}
use Rattle.control.specs.words.Views.{arcs_of, meetings_of, event_nodes, marked, first_of}
use Rattle.drawing.specs.declared.Tally.{Tally}

-- the words of a run, with how far it has come
pub record Words : Type 0 where
  pub tally : Tally
  pub nodes : List ℕ
  pub track : List ℕ

-- what is added to a track
pub record Added : Type 0 where
  pub labels : List Label
  pub arcs : List Pair
  pub meetings : List Pair
  pub met : List ℕ

abbrev pub nothing : Added
nothing = record { labels = []; arcs = []; meetings = []; met = [] }

abbrev pub followed : Added → Added → Added
followed a b = record {
  labels = a.labels ++ b.labels;
  arcs = a.arcs ++ b.arcs;
  meetings = a.meetings ++ b.meetings;
  met = a.met ++ b.met;
}

pub first_none : (v : Option Place) → first_of v none ≡ v
unfolding first_of
first_none none = refl
first_none (some v) = refl

pub first_assoc : (u v w : Option Place) → first_of (first_of u v) w ≡ first_of u (first_of v w)
unfolding first_of
first_assoc none v w = refl
first_assoc (some u) v w = refl

pub lookup_append : (n : ℕ) (ls ms : List Label) → lookup n (ls ++ ms) ≡ first_of (lookup n ls) (lookup n ms)
unfolding lookup first_of
lookup_append n [] ms = refl
lookup_append n (l ∷ ls) ms = go (eqb n l.reference) (lookup_append n ls ms)
  where
    go : (b : Bool) → lookup n (ls ++ ms) ≡ first_of (lookup n ls) (lookup n ms)
        → choose b (some l.place) (lookup n (ls ++ ms))
        ≡ first_of (choose b (some l.place) (lookup n ls)) (lookup n ms)
    go true h = refl
    go false h = h

module _ (l : Layout) where
  -- from words u to words v, adding a; `own` tells which of the references drawn before are its own
  pub record Writes (own : ℕ → ℕ) (u v : Words) (a : Added) : Type 0 where
    pub more : u.tally.fresh ≤ v.tally.fresh
    pub nodes_counted : v.tally.nodes ≡ u.tally.nodes + length a.labels
    pub arcs_counted : v.tally.arcs ≡ u.tally.arcs + length a.arcs
    pub meetings_counted : v.tally.meetings ≡ u.tally.meetings + length a.meetings
    pub met_counted : v.tally.met ≡ u.tally.met + length a.met
    pub labels_are : (j : ℕ) → marked l v.nodes j ≡ first_of (marked l u.nodes j) (lookup j a.labels)
    pub lasting : Lasting u.nodes v.nodes
    pub apart : (j : ℕ) → j < u.tally.fresh → own j ≡ 0 → Same u.nodes v.nodes j
    pub later : (j : ℕ) → v.tally.fresh ≤ j → Same u.nodes v.nodes j
    pub arcs_are : arcs_of v.track v.tally.arcs ≡ arcs_of u.track u.tally.arcs ++ a.arcs
    pub meetings_are :
        meetings_of v.track v.tally.meetings ≡ meetings_of u.track u.tally.meetings ++ a.meetings
    pub met_are : (i c : ℕ) → i + c ≡ u.tally.met
        → event_nodes v.track i (c + length a.met) ≡ event_nodes u.track i c ++ a.met
    pub long_nodes : length v.nodes ≡ length u.nodes
    pub long_track : length v.track ≡ length u.track

  -- a part behind a part
  pub behind : (own own' : ℕ → ℕ) (u v w : Words) (a b : Added)
      → ((j : ℕ) → j < u.tally.fresh → own j ≡ 0 → own' j ≡ 0)
      → Writes own u v a → Writes own' v w b → Writes own u w (followed a b)
  behind own own' u v w a b h x y = record {
    more = omega (arith, x.more, y.more);
    nodes_counted =
        omega (arith, x.nodes_counted, y.nodes_counted, length-append a.labels b.labels);
    arcs_counted = omega (arith, x.arcs_counted, y.arcs_counted, length-append a.arcs b.arcs);
    meetings_counted =
        omega (arith, x.meetings_counted, y.meetings_counted, length-append a.meetings b.meetings);
    met_counted = omega (arith, x.met_counted, y.met_counted, length-append a.met b.met);
    labels_are = λ j.
        y.labels_are j ∙ ap (λ v. first_of v (lookup j b.labels)) (x.labels_are j)
        ∙ first_assoc (marked l u.nodes j) (lookup j a.labels) (lookup j b.labels)
        ∙ ap (first_of (marked l u.nodes j)) (sym (lookup_append j a.labels b.labels));
    lasting = λ j e.
        let one = x.lasting j e in
        let two = y.lasting j (λ z. e (sym one.label_lasts ∙ z)) in
        record {
          label_lasts = two.label_lasts ∙ one.label_lasts;
          term_lasts = two.term_lasts ∙ one.term_lasts;
          frame_lasts = two.frame_lasts ∙ one.frame_lasts;
        };
    apart = λ j d e i f.
        y.apart j (omega (arith, d, x.more)) (h j d e) i f ∙ x.apart j d e i f;
    later = λ j d i f. y.later j d i f ∙ x.later j (omega (arith, d, y.more)) i f;
    arcs_are =
        y.arcs_are ∙ ap (λ gs. gs ++ b.arcs) x.arcs_are
        ∙ append_assoc (arcs_of u.track u.tally.arcs) a.arcs b.arcs;
    meetings_are =
        y.meetings_are ∙ ap (λ ms. ms ++ b.meetings) x.meetings_are
        ∙ append_assoc (meetings_of u.track u.tally.meetings) a.meetings b.meetings;
    met_are = λ i c e.
        subst (λ n. event_nodes w.track i n ≡ event_nodes u.track i c ++ (a.met ++ b.met))
        (omega (arith, length-append a.met b.met))
        (y.met_are i (c + length a.met) (omega (arith, e, x.met_counted))
        ∙ ap (λ ns. ns ++ b.met) (x.met_are i c e)
        ∙ append_assoc (event_nodes u.track i c) a.met b.met);
    long_nodes = y.long_nodes ∙ x.long_nodes;
    long_track = y.long_track ∙ x.long_track;
  }
