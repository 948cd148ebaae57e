-- A sequence that no step has touched is entered by going on at its left: the term there is one further, and
-- the sequence is one more around it. Nothing is added to the track. Assumes nothing.
use Rattle.std.proofs.Common.{ℕ, suc, ◌≤◌, ◌<◌, ◌≡◌, refl, sym, subst, ◌∙◌, List, ◌∷◌, append-nil, arith}
use Rattle.std.proofs.Common.{add-zero}
use Rattle.terms.specs.Term.{Term, external, parallel, binary}
use Rattle.terms.specs.Term as Term
use Rattle.places.specs.Place.{Place}
use Rattle.rules.specs.Process.{joined, untouched}
use Rattle.rules.proofs.Marked.{past, unentered_fit, untouched_unentered}
use Rattle.rules.proofs.Holding.{held}
use Rattle.plans.specs.words.Plan.{Layout, second, around, first_around, second_around, Planned}
use Rattle.control.specs.words.Words.{put, reference_room}
use Rattle.control.specs.words.Control.{label, term, frame, Rests, Follows, HoldsControl}
use Rattle.control.proofs.NodeLaws.{Whole, put_same, put_other, put_whole, put_length}
use Rattle.control.proofs.Framed.{Same, around_lasting, put_lasting}
use Rattle.control.proofs.Chains.{around_inside}
use Rattle.control.specs.words.Views.{marked}
use Rattle.step_laws.proofs.NodeViews.{marked_same}
use Rattle.step_laws.proofs.Writing.{Words, Writes, nothing, first_none}
use Rattle.step_laws.proofs.Going.{Sound, Ready}
use Rattle.rules.specs.Track.{lookup}

-- what a plan has around a term that it holds
pub planned_around : (l : Layout) (p x : List ℕ) (i o : ℕ) (t : Term) → Planned l p x i o t → around p i ≡ o
planned_around l p x i o (Term.leaf f) h = h.1
planned_around l p x i o (Term.prefix e t) h = h.1
planned_around l p x i o (binary q t u) h = h.1

-- the words with another term at reference n
abbrev pub onward : ℕ → ℕ → Words → Words
onward n t u = record { tally = u.tally; nodes = put 2 u.nodes n t; track = u.track }

module _ (l : Layout) (p x w : List ℕ) where
  -- an untouched term that rests is held
  pub rests_held : (n b : ℕ) (ks : List ℕ) (v : Place) (t : Term) → Rests l p x w n b ks (untouched v t)
      → HoldsControl l p x w n b (untouched v t) ks
  unfolding untouched joined
  rests_held n b ks v (Term.leaf f) r = r
  rests_held n b ks v (Term.prefix e t) r = r
  rests_held n b ks v (binary Term.internal t u) r = r
  rests_held n b ks v (binary external t u) r = r
  rests_held n b ks v (binary Term.sequence t u) r = r
  rests_held n b ks v (binary (parallel y) t u) r = r

-- only the term of reference n is another
module _ (l : Layout) (n t : ℕ) (u : Words) (bare : label u.nodes n ≡ 0) (drawn : n < u.tally.fresh)
  where
    elsewhere : (j : ℕ) → (j ≡ n → ⊥) → Same u.nodes (put 2 u.nodes n t) j
    elsewhere j h i k = put_other 2 u.nodes n t i j (λ e f. h (sym f)) (omega arith) k

    label_kept : (j : ℕ) → label (put 2 u.nodes n t) j ≡ label u.nodes j
    label_kept j = put_other 2 u.nodes n t 0 j (λ e f. omega arith) (omega arith) (omega arith)

    pub onward_writes : (own : ℕ → ℕ) → (own n ≡ 0 → ⊥) → Writes l own u (onward n t u) nothing
    unfolding lookup
    onward_writes own mine = record {
      more = omega arith;
      nodes_counted = omega arith;
      arcs_counted = omega arith;
      meetings_counted = omega arith;
      met_counted = omega arith;
      labels_are = λ j.
          marked_same l u.nodes (put 2 u.nodes n t) j (label_kept j)
          ∙ sym (first_none (marked l u.nodes j));
      lasting = put_lasting 2 u.nodes n t (omega arith) bare;
      apart = λ j h e. elsewhere j (λ f. mine (subst (λ m. own m ≡ 0) f e));
      later = λ j h. elsewhere j (λ f. omega (arith, h, f, drawn));
      arcs_are = sym (append-nil _);
      meetings_are = sym (append-nil _);
      met_are = λ i c h. rw (add-zero c) (sym (append-nil _));
      long_nodes = put_length 2 u.nodes n t;
      long_track = refl;
    }

    pub onward_sound : Sound u → Sound (onward n t u)
    onward_sound s = record {
      whole_nodes = put_whole 2 u.nodes n t s.whole_nodes;
      whole_track = s.whole_track;
      clean = λ j i h k. elsewhere j (λ f. omega (arith, h, f, drawn)) i k ∙ s.clean j i h k;
      up = s.up;
    }

module _ (l : Layout) (p x : List ℕ) where
  -- a sequence of number i, at reference n
  module _ (n b i : ℕ) (ks : List ℕ) (t s : Term) (u : Words) (fresh_fits : u.tally.fresh ≤ reference_room)
      (r : Rests l p x u.nodes n b ks (untouched (l.place i) (binary Term.sequence t s)))
      (is : term u.nodes n ≡ i) (low : i < 1024) (drawn : n < u.tally.fresh)
      (whole : Whole u.nodes)
      (planned : Planned l p x i (around p i) (binary Term.sequence t s)) where
    there : term (put 2 u.nodes n (suc i)) n ≡ suc i
    there = put_same 2 u.nodes n (suc i) (omega (arith, drawn, fresh_fits)) (omega arith) whole
        (omega (arith, low))

    frame_kept : frame (put 2 u.nodes n (suc i)) n ≡ frame u.nodes n
    frame_kept = put_other 2 u.nodes n (suc i) 3 n (λ e f. omega arith) (omega arith) (omega arith)

    -- its left goes on inside it
    pub left_rests : Rests l p x (put 2 u.nodes n (suc i)) n b (i ∷ ks) (untouched (l.place (suc i)) t)
    unfolding first_around
    left_rests =
        let w = put 2 u.nodes n (suc i) in
        let chain = around_lasting p u.nodes w (put_lasting 2 u.nodes n (suc i) (omega arith) r.bare)
        i (frame u.nodes n) b ks (rw (← is) r.stands.chain) in
        record {
          stands = record {
            within = r.stands.within;
            framed = rw frame_kept r.stands.framed;
            chain = rw (there, frame_kept)
                (around_inside p w (suc i) (frame u.nodes n) b i ks
                (planned_around l p x (suc i) (suc i) t planned.5) chain);
          };
          rests = put_other 2 u.nodes n (suc i) 1 n (λ e f. omega arith) (omega arith) (omega arith)
              ∙ r.rests;
          bare = label_kept l n (suc i) u r.bare drawn n ∙ r.bare;
          untouched_there = record {
            tree = t;
            is = rw there refl;
            planned = rw there (rw (planned_around l p x (suc i) (suc i) t planned.5) planned.5);
          };
        }

    -- what follows it, with its place
    pub sequence_follows : Follows l p x (put 2 u.nodes n (suc i)) i (l.place i)
        (untouched (l.place (second p i)) s)
    unfolding second_around
    sequence_follows = record {
      place_is = refl;
      right = record { tree = s; is = refl; planned = planned.6 };
    }

    pub left_ready : (count : ℕ) → Sound u → ((j : ℕ) → held j n
        (untouched (l.place i) (binary Term.sequence t s)) ≤ past j u.tally.fresh)
        → Ready l p x count n b (untouched (l.place (suc i)) t) (i ∷ ks) (onward n (suc i) u)
    unfolding held untouched joined
    left_ready count sound once = record {
      sound = onward_sound l n (suc i) u r.bare drawn sound;
      holds = rests_held l p x (put 2 u.nodes n (suc i)) n b (i ∷ ks) (l.place (suc i)) t left_rests;
      fit = unentered_fit (untouched (l.place (suc i)) t) (untouched_unentered (l.place (suc i)) t);
      once = λ j. rw planned.3 (once j);
    }
