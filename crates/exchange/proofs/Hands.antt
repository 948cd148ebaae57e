-- The two sides of a parallel as one: a law about a side is made once, over the hand that it is on. The rules
-- by 1 and by 2 are one rule, and what is asked of a process holds of the side that is stepped too. Assumes
-- nothing.
use Rattle.std.proofs.Common.{ℕ, ◌≤◌, ◌<◌, ◌≡◌, refl, Bool, List, ◌∷◌, arith}
use Rattle.std.proofs.Math.Option.{Option, none, some}
use Rattle.terms.specs.Term.{Term}
use Rattle.places.specs.Place.{Place}
use Rattle.rules.specs.declared.Event.{Event}
use Rattle.rules.specs.Process.{Digit, one, two, Address, Split, together, Process, split, sequence}
use Rattle.rules.specs.Track.{At, Outcome, first_eval, inside, around}
use Rattle.rules.specs.Tracking.{Shows, Tracks, synchronized_parallelism_1, synchronized_parallelism_2}
use Rattle.rules.proofs.Marked.{past, past_drawn, next_past, Unentered, BySide, Fit, side_fit}
use Rattle.rules.proofs.Holding.{held, side_held, split_held, unentered_held}
use Rattle.exchange.specs.Renamed.{renamed_side, renamed}
use Rattle.exchange.proofs.References.{SideUnder, Under, Held, stands_held, held_under}
use Rattle.exchange.proofs.Ends.{Ends, entered_ends}

pub data Hand : Type 0 where
  left : Hand
  right : Hand

abbrev pub opposite : Hand → Hand
opposite left = right
opposite right = left

abbrev pub digit : Hand → Digit
digit left = one
digit right = two

-- a split by one of its sides: its reference and the other's, its process and the other's
abbrev pub sided : Hand → Place → Split → Option ℕ → Option ℕ → Process → Process → Process
sided left w k m n P Q = split w k m n P Q
sided right w k m n P Q = split w k n m Q P

-- by the other side
pub turned : (h : Hand) (w : Place) (k : Split) (m n : Option ℕ) (P Q : Process)
    → sided (opposite h) w k n m Q P ≡ sided h w k m n P Q
turned left w k m n P Q = refl
turned right w k m n P Q = refl

-- with other references
pub sided_renamed : (φ : ℕ → ℕ) (h : Hand) (w : Place) (k : Split) (m n : Option ℕ) (P Q : Process)
    → renamed φ (sided h w k m n P Q) ≡ sided h w k (renamed_side φ m) (renamed_side φ n) (renamed φ P)
    (renamed φ Q)
unfolding renamed
sided_renamed φ left w k m n P Q = refl
sided_renamed φ right w k m n P Q = refl

-- what one side's step makes of its parallel
abbrev pub by_side : Hand → Place → ℕ → Option ℕ → Option ℕ → Process → At → Outcome → Event → Outcome
by_side h w x m n Q s r e =
    around (first_eval m n w s) r e (sided h w (together x) (some r.reference) n r.process Q)
    s.reference

module _ (ts : List Term) where
  -- the rules by 1 and by 2
  pub side_tracks : (h : Hand) {a : Address} (w : Place) (x : ℕ) (m n : Option ℕ) (P Q : Process) (s : At)
      (r : Outcome)
      (e : Event) → Tracks ts a P (inside (first_eval m n w s) s) r → Shows x r.event e
      → Tracks ts (digit h ∷ a) (sided h w (together x) m n P Q) s (by_side h w x m n Q s r e)
  side_tracks left w x m n P Q s r e t v = synchronized_parallelism_1 t v
  side_tracks right w x m n P Q s r e t v = synchronized_parallelism_2 t v

  -- there is no other by them
  pub side_tracked : (h : Hand) (a : Address) (w : Place) (x : ℕ) (m n : Option ℕ) (P Q : Process) (s : At)
      (o : Outcome)
      → Tracks ts (digit h ∷ a) (sided h w (together x) m n P Q) s o
      → (r : Outcome) × (e : Event) × Tracks ts a P (inside (first_eval m n w s) s) r × Shows x r.event e
      × (by_side h w x m n Q s r e ≡ o)
  side_tracked left a w x m n P Q s o (synchronized_parallelism_1 {r = r} {e = e} t v) = (r, e, t, v, refl)
  side_tracked right a w x m n P Q s o (synchronized_parallelism_2 {r = r} {e = e} t v) = (r, e, t, v, refl)

-- what an exchange asks of a process and where it stands: no reference is held twice or before it is drawn, and
-- both ends of every arc have been drawn
pub record Stands (P : Process) (s : At) : Type 0 where
  pub fit : Fit P
  pub holds : Held s.fresh s.reference P
  pub ends : Ends s.fresh s.arcs

-- so its references have been drawn
pub stands_below : {P : Process} {s : At} → Stands P s → s.reference < s.fresh
stands_below {P = P} {s = s} k =
    past_drawn s.reference s.fresh
    (let all : held s.reference s.reference P ≤ past s.reference s.fresh = k.holds
    s.reference in
    omega (arith, all, stands_held s.reference P))

-- all of them
pub stands_under : {P : Process} {s : At} → Stands P s → Under s.fresh P
stands_under {P = P} {s = s} k = held_under s.fresh s.reference P k.fit k.holds

-- entering a side
entered_held : (n : ℕ) (own other : Option ℕ) (w : Place) (s : At) (P : Process)
    → BySide own (Unentered P) (Fit P)
    → side_held n own P ≤ past n s.fresh
    → held n (first_eval own other w s).reference P ≤ past n (first_eval own other w s).fresh
unfolding first_eval side_held
entered_held n (some a) other w s P h k = k
entered_held n none (some b) w s P h k = omega (arith, unentered_held n s.fresh P h, next_past n s.fresh)
entered_held n none none w s P h k = omega (arith, unentered_held n s.fresh P h, next_past n s.fresh)

-- the side that is stepped, and what it is beside
module _ (w : Place) (k : Split) (m n : Option ℕ) (P Q : Process) (s : At) where
  side_fits : (h : Hand) → Fit (sided h w k m n P Q) → BySide m (Unentered P) (Fit P)
  side_fits left f = f.0
  side_fits right f = f.1

  side_few : (h : Hand) → Held s.fresh s.reference (sided h w k m n P Q) → (i : ℕ)
      → side_held i m P ≤ past i s.fresh
  side_few left f i =
      let all : held i s.reference (split w k m n P Q) ≤ past i s.fresh = f i in
      omega (arith, all, split_held i s.reference w k m n P Q)
  side_few right f i =
      let all : held i s.reference (split w k n m Q P) ≤ past i s.fresh = f i in
      omega (arith, all, split_held i s.reference w k n m Q P)

  -- what is kept of the process is kept of the side, once it is entered
  pub stands_side : (h : Hand) → Stands (sided h w k m n P Q) s → Stands P (inside (first_eval m n w s) s)
  stands_side h z = record {
    fit = side_fit m P (side_fits h z.fit);
    holds = λ i. entered_held i m n w s P (side_fits h z.fit) (side_few h z.holds i);
    ends = entered_ends m n w s (stands_below z) z.ends;
  }

  -- it stands by the other side too
  pub stands_turned : (h : Hand) → Stands (sided h w k m n P Q) s → Stands (sided (opposite h) w k n m Q P) s
  stands_turned left z = z
  stands_turned right z = z

  -- the other side's references have been drawn
  pub other_under : (h : Hand) → Stands (sided h w k m n P Q) s → SideUnder s.fresh n × Under s.fresh Q
  other_under left z = let u = stands_under z in (u.1, u.3)
  other_under right z = let u = stands_under z in (u.0, u.2)

-- a sequence's left
pub stands_left : (w : Place) (c : Bool) (P Q : Process) (s : At) → Stands (sequence w c P Q) s → Stands P s
unfolding held
stands_left w c P Q s z = record { fit = z.fit.0; holds = z.holds; ends = z.ends }
