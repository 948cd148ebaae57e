-- What a step adds to a track. Document 01, 'Steps and addresses' (Track), and the report's FirstEval.
use Rattle.std.specs.Prelude.{ℕ, suc, Bool, List, [], ◌∷◌, ◌++◌, eqb}
use Rattle.std.proofs.Math.Option.{Option, none, some}
use Rattle.lines.specs.Line.{choose}
use Rattle.places.specs.Place.{Place}
use Rattle.rules.specs.declared.Event.{Event}
use Rattle.rules.specs.declared.Event.TheVariants.{Tau as τ, Tick as ✓, Visible as visible}
use Rattle.rules.specs.Process.{Process, Ω, below}

-- a reference with its place
pub record Label : Type 0 where
  pub reference : ℕ
  pub place : Place

-- the place that a reference has among labels
unfoldable pub lookup : ℕ → List Label → Option Place
lookup n [] = none
lookup n (m ∷ ms) = choose (eqb n m.reference) (some m.place) (lookup n ms)

-- an arc, or a meeting, between two references
pub record Pair : Type 0 where
  pub from : ℕ
  pub to : ℕ

abbrev pub pair : ℕ → ℕ → Pair
pair i j = record { from = i; to = j }

-- where a process stands: its current reference, the next fresh one, and the arcs made so far
pub record At : Type 0 where
  pub reference : ℕ
  pub fresh : ℕ
  pub arcs : List Pair

-- what a step gives: the event, the next process with its reference, the next fresh reference; the labels,
-- arcs and meetings that it adds, in the order made; and the event nodes of the step, the report's Δ
pub record Outcome : Type 0 where
  pub event : Event
  pub process : Process
  pub reference : ℕ
  pub fresh : ℕ
  pub labels : List Label
  pub arcs : List Pair
  pub meetings : List Pair
  pub met : List ℕ

-- the current reference is labelled and gets an arc to a fresh one, where the process goes on: G[m ↦n α]
unfoldable pub labelled : Event → Process → Place → At → Outcome
labelled e P w s = record {
  event = e;
  process = P;
  reference = s.fresh;
  fresh = suc s.fresh;
  labels = record { reference = s.reference; place = w } ∷ [];
  arcs = pair s.reference s.fresh ∷ [];
  meetings = [];
  met = [];
}

-- the event's node, and then the arrow's
unfoldable pub prefixed : ℕ → Process → Place → At → Outcome
prefixed e P w s = record {
  event = visible e;
  process = P;
  reference = suc s.fresh;
  fresh = suc (suc s.fresh);
  labels = record { reference = s.reference; place = below w 1 } ∷ record { reference = s.fresh; place = w } ∷ [];
  arcs = pair s.reference s.fresh ∷ pair s.fresh (suc s.fresh) ∷ [];
  meetings = [];
  met = s.reference ∷ [];
}

-- FirstEval: the first time that a side steps it gets an arc and a fresh reference; the operator's node is
-- labelled by the first of the two. `own` is this side's reference, `other` the other's
pub record Entered : Type 0 where
  pub reference : ℕ
  pub fresh : ℕ
  pub labels : List Label
  pub arcs : List Pair

unfoldable pub first_eval : Option ℕ → Option ℕ → Place → At → Entered
first_eval (some n) other w s = record { reference = n; fresh = s.fresh; labels = []; arcs = [] }
first_eval none (some o) w s = record {
  reference = s.fresh;
  fresh = suc s.fresh;
  labels = [];
  arcs = pair s.reference s.fresh ∷ [];
}
first_eval none none w s = record {
  reference = s.fresh;
  fresh = suc s.fresh;
  labels = record { reference = s.reference; place = w } ∷ [];
  arcs = pair s.reference s.fresh ∷ [];
}

-- where a side stands once it is entered
abbrev pub inside : Entered → At → At
inside i s = record { reference = i.reference; fresh = i.fresh; arcs = s.arcs ++ i.arcs }

-- what a side gives, with what entering it added in front; the event, process and reference are the operator's
unfoldable pub around : Entered → Outcome → Event → Process → ℕ → Outcome
around i r e P m = record {
  event = e;
  process = P;
  reference = m;
  fresh = r.fresh;
  labels = i.labels ++ r.labels;
  arcs = i.arcs ++ r.arcs;
  meetings = r.meetings;
  met = r.met;
}

-- where the operator stands again, once its left side has stepped, and the right side is entered
abbrev pub beside : At → Entered → Outcome → At
beside s i l = record { reference = s.reference; fresh = l.fresh; arcs = (s.arcs ++ i.arcs) ++ l.arcs }

abbrev pub right_eval : Option ℕ → Option ℕ → Place → At → Outcome → Entered
right_eval n₁ n₂ w s l =
    first_eval n₂ (some (first_eval n₁ n₂ w s).reference) w (beside s (first_eval n₁ n₂ w s) l)

abbrev pub right_inside : Option ℕ → Option ℕ → Place → At → Outcome → At
right_inside n₁ n₂ w s l = inside (right_eval n₁ n₂ w s l) (beside s (first_eval n₁ n₂ w s) l)

-- each of the one meets each of the other
unfoldable pub each_with : ℕ → List ℕ → List Pair
each_with x [] = []
each_with x (y ∷ ys) = pair x y ∷ each_with x ys

unfoldable pub meet : List ℕ → List ℕ → List Pair
meet [] ys = []
meet (x ∷ xs) ys = each_with x ys ++ meet xs ys

-- both sides' step of one event: the left's part first, and each event node of the left's meets each of the
-- right's
unfoldable pub jointly : Entered → Outcome → Entered → Outcome → ℕ → Process → ℕ → Outcome
jointly i l j r e P m = record {
  event = visible e;
  process = P;
  reference = m;
  fresh = r.fresh;
  labels = (i.labels ++ l.labels) ++ (j.labels ++ r.labels);
  arcs = (i.arcs ++ l.arcs) ++ (j.arcs ++ r.arcs);
  meetings = (l.meetings ++ r.meetings) ++ meet l.met r.met;
  met = l.met ++ r.met;
}

-- a sequence goes on in its left
unfoldable pub carried : Outcome → Process → Outcome
carried r P = record {
  event = r.event;
  process = P;
  reference = r.reference;
  fresh = r.fresh;
  labels = r.labels;
  arcs = r.arcs;
  meetings = r.meetings;
  met = r.met;
}

-- a sequence starts its right: the left's last reference is labelled with the sequence's place and gets an
-- arc to a fresh one
unfoldable pub started : Outcome → Process → Place → Outcome
started r Q w = record {
  event = τ;
  process = Q;
  reference = r.fresh;
  fresh = suc r.fresh;
  labels = r.labels ++ (record { reference = r.reference; place = w } ∷ []);
  arcs = r.arcs ++ (pair r.reference r.fresh ∷ []);
  meetings = r.meetings;
  met = [];
}

-- an arc leads to a side's last reference
unfoldable pub leads : Option ℕ → ℕ → Bool
leads none j = Bool.false
leads (some n) j = eqb n j

-- every node with an arc to either side's last reference gets a further arc to reference k
unfoldable pub parents : Option ℕ → Option ℕ → ℕ → List Pair → List Pair
parents m n k [] = []
parents m n k (a ∷ as') =
    choose (leads m a.to) (pair a.from k ∷ parents m n k as')
    (choose (leads n a.to) (pair a.from k ∷ parents m n k as') (parents m n k as'))

-- two ended sides end their parallel
unfoldable pub ended : Option ℕ → Option ℕ → At → Outcome
ended m n s = record {
  event = ✓;
  process = Ω;
  reference = s.fresh;
  fresh = suc s.fresh;
  labels = [];
  arcs = parents m n s.fresh s.arcs;
  meetings = [];
  met = [];
}
