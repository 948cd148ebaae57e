-- What the rules make of one side's step has the side's parts in it: its draws, labels, arcs, meetings and
-- event nodes behind those of entering the side, and no fewer cells; and a ✓ shows only a ✓. Assumes nothing.
use Rattle.std.proofs.Common.{ℕ, ◌≤◌, ◌≡◌, refl, subst, ◌∙◌, Bool, true, false, ◌++◌, arith}
use Rattle.std.proofs.Math.Option.{Option, none, some, some-injective, none-ne-some}
use Rattle.lines.specs.Line.{choose}
use Rattle.sets.specs.EventSet.{member}
use Rattle.places.specs.Place.{Place}
use Rattle.rules.specs.declared.Event.{Event}
use Rattle.rules.specs.declared.Event.TheVariants.{Tau as τ, Tick as ✓, Visible as visible}
use Rattle.rules.specs.Process.{Split, choice, together, Process, cells}
use Rattle.rules.specs.Track.{Entered, around}
use Rattle.rules.specs.Step.{Stepped, one_side, by_side}
use Rattle.step_laws.proofs.Opening.{Side, split_by, split_by_cells}

-- the parts of a side's outcome in its split's
pub record Parts (i : Entered) (y z : Stepped) : Type 0 where
  pub fresh_is : z.outcome.fresh ≡ y.outcome.fresh
  pub labels_are : z.outcome.labels ≡ i.labels ++ y.outcome.labels
  pub arcs_are : z.outcome.arcs ≡ i.arcs ++ y.outcome.arcs
  pub meetings_are : z.outcome.meetings ≡ y.outcome.meetings
  pub met_are : z.outcome.met ≡ y.outcome.met
  pub cells_more : cells y.outcome.process ≤ cells z.outcome.process
  pub ends : z.outcome.event ≡ ✓ → (y.outcome.event ≡ ✓) × (z.outcome.process ≡ y.outcome.process)

module _ (s : Side) (v : Place) (k : Split) (o : Option ℕ) (Q : Process) (i : Entered) (n : ℕ) (y : Stepped)
  where
    abbrev put : Option ℕ → Process → Process
    put q R = split_by s v k q o R Q

    abbrev as_stays : Event → Stepped
    as_stays e = record {
      outcome = around i y.outcome e (put (some y.outcome.reference) y.outcome.process) n;
      unused = y.unused;
    }

    abbrev as_drops : Event → Stepped
    as_drops e = record {
      outcome = around i y.outcome e y.outcome.process y.outcome.reference;
      unused = y.unused;
    }

    stays_parts : (e : Event) → (e ≡ ✓ → ⊥) → Parts i y (as_stays e)
    unfolding around
    stays_parts e h = record {
      fresh_is = refl;
      labels_are = refl;
      arcs_are = refl;
      meetings_are = refl;
      met_are = refl;
      cells_more =
          omega (arith, split_by_cells s v k (some y.outcome.reference) o y.outcome.process Q tt);
      ends = λ q. absurd (h q);
    }

    drops_parts : (e : Event) → y.outcome.event ≡ e → Parts i y (as_drops e)
    unfolding around
    drops_parts e h = record {
      fresh_is = refl;
      labels_are = refl;
      arcs_are = refl;
      meetings_are = refl;
      met_are = refl;
      cells_more = omega arith;
      ends = λ q. (h ∙ q, refl);
    }

    as_part : (z w : Stepped) → some w ≡ some z → Parts i y w → Parts i y z
    as_part z w e h = subst (Parts i y) (some-injective w z e) h

    unseen : (e : Event) → e ≡ τ → e ≡ ✓ → ⊥
    unseen e h q = let c : ◌≡◌ {A = ℕ} 0 1 = cc in omega arith

    loud : (e : Event) (m : ℕ) → e ≡ visible m → e ≡ ✓ → ⊥
    loud e m h q = let c : ◌≡◌ {A = ℕ} 0 1 = cc in omega arith

module _ (s : Side) (v : Place) (o : Option ℕ) (Q : Process) (i : Entered) (n : ℕ) (y : Stepped) where
  choice_parts : (z : Stepped) (e : Event) → y.outcome.event ≡ e
      → one_side choice e i (put s v choice o Q i n y) n y.outcome y.unused ≡ some z → Parts i y z
  unfolding one_side
  choice_parts z τ h g =
      as_part s v choice o Q i n y z (as_stays s v choice o Q i n y τ) g
      (stays_parts s v choice o Q i n y τ (unseen s v choice o Q i n y τ refl))
  choice_parts z ✓ h g =
      as_part s v choice o Q i n y z (as_drops s v choice o Q i n y ✓) g
      (drops_parts s v choice o Q i n y ✓ h)
  choice_parts z (visible m) h g =
      as_part s v choice o Q i n y z (as_drops s v choice o Q i n y (visible m)) g
      (drops_parts s v choice o Q i n y (visible m) h)

  parallel_parts : (f : ℕ) (z : Stepped) (e : Event) → y.outcome.event ≡ e
      → one_side (together f) e i (put s v (together f) o Q i n y) n y.outcome y.unused ≡ some z
      → Parts i y z
  unfolding one_side
  parallel_parts f z τ h g =
      as_part s v (together f) o Q i n y z (as_stays s v (together f) o Q i n y τ) g
      (stays_parts s v (together f) o Q i n y τ (unseen s v (together f) o Q i n y τ refl))
  parallel_parts f z ✓ h g =
      as_part s v (together f) o Q i n y z (as_stays s v (together f) o Q i n y τ) g
      (stays_parts s v (together f) o Q i n y τ (unseen s v (together f) o Q i n y τ refl))
  parallel_parts f z (visible m) h g = go (member m f) g
    where
      go : (t : Bool) → choose t none (some (as_stays s v (together f) o Q i n y (visible m))) ≡ some z
          → Parts i y z
      go true q = absurd (none-ne-some z q)
      go false q =
          as_part s v (together f) o Q i n y z (as_stays s v (together f) o Q i n y (visible m)) q
          (stays_parts s v (together f) o Q i n y (visible m)
          (loud s v (together f) o Q i n y (visible m) m refl))

-- by the operator
pub side_parts : (s : Side) (v : Place) (k : Split) (o : Option ℕ) (Q : Process) (i : Entered) (n : ℕ)
    (y z : Stepped)
    → by_side k i (λ q R. split_by s v k q o R Q) n (some y) ≡ some z → Parts i y z
unfolding by_side
side_parts s v choice o Q i n y z g = choice_parts s v o Q i n y z y.outcome.event refl g
side_parts s v (together f) o Q i n y z g = parallel_parts s v o Q i n y f z y.outcome.event refl g
