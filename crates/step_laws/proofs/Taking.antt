-- The step that the words take is the step of the rules, by induction over how deep it may be gone: what
-- looks no further down steps at once; an untouched sequence goes on at its left; an untouched choice or
-- parallel is opened, and goes on as one that was entered before, with its label in front of what the step
-- adds; an entered one goes by the digit that it reads. Ω and ⊥ have no step. Assumes nothing.
use Rattle.std.proofs.Common.{ℕ, zero, suc, ◌+◌, ◌≤◌, max, ◌≡◌, refl, sym, ap, subst, ◌∙◌, true, false, List}
use Rattle.std.proofs.Common.{arith, length}
use Rattle.std.proofs.Math.Option.{Option, none, some}
use Rattle.terms.specs.Term.{call, SKIP, STOP, external, parallel, Term, binary, leaf_kind}
use Rattle.terms.specs.Term as Term
use Rattle.places.specs.Place.{Place}
use Rattle.rules.specs.Process.{Address, Split, choice, together, Process, leaf, prefix, internal, split}
use Rattle.rules.specs.Process.{sequence, Ω, ⊥', cells, joined, untouched}
use Rattle.rules.specs.Track.{Label, first_eval}
use Rattle.rules.specs.Step.{Stepped, step, at_Ω}
use Rattle.rules.proofs.Holding.{held}
use Rattle.plans.specs.words.Plan.{Layout, kind, around, Planned}
use Rattle.plans.specs.words.Plan as Plan
use Rattle.control.specs.words.Words.{reference_room}
use Rattle.control.specs.words.Control.{term, first, second_side, split_kind, Rests}
use Rattle.control.proofs.Chains.{Awaiting}
use Rattle.looking.specs.code.Looking.{digit_at, is_split}
use Rattle.weighing.proofs.Told.{wrapped}
use Rattle.weighing.proofs.TermTold.{untouched_on}
use Rattle.drawing.specs.code.Drawing.{one_node}
use Rattle.leaves.specs.code.Leaves as Leaves
use Rattle.stepping.specs.code.Take.{take}
use Rattle.step_laws.proofs.TrackLoops.{capped_below}
use Rattle.step_laws.proofs.Writing.{Words, behind}
use Rattle.step_laws.proofs.Going.{at_words, added, Fits}
use Rattle.step_laws.proofs.Parts.{one_label, Formed, untouched_formed}
use Rattle.step_laws.proofs.Settling.{Numbered, tells_told}
use Rattle.step_laws.proofs.LeavesGo.{Low, leaf_goes}
use Rattle.step_laws.proofs.Opening.{left, SomeSide, split_by_cells, ready_entry, open_to, open_writes}
use Rattle.step_laws.proofs.Opening.{open_entry, open_cells}
use Rattle.step_laws.proofs.Sideless.{leaf_sideless, entered_sideless}
use Rattle.step_laws.proofs.SplitStep.{split_step, split_steps, entered_as, front, fronted, front_of}
use Rattle.step_laws.proofs.SplitStep.{wrapped_fronted, split_fronted, first_front}
use Rattle.step_laws.proofs.Nesting.{needs, needs_some, none_wrapped, Given, Went, Takes, given_room}
use Rattle.step_laws.proofs.Nesting.{TakesBare, inside_sequences, at_sequence}
use Rattle.step_laws.proofs.SplitTaken.{opened_goes}

-- an untouched sequence
abbrev Waiting : Process → Type 0
Waiting (leaf v f) = ⊥
Waiting (prefix v e P) = ⊥
Waiting (internal v P Q) = ⊥
Waiting (split v k m n P Q) = ⊥
Waiting (sequence v false P Q) = Unit {0}
Waiting (sequence v true P Q) = ⊥
Waiting Ω = ⊥
Waiting ⊥' = ⊥

-- how many calls an entered split needs
needs_split : (v : Place) (k : Split) (m o : Option ℕ) (P Q : Process) → SomeSide m o
    → needs (split v k m o P Q) ≡ suc (max (needs P) (needs Q))
unfolding needs
needs_split v k none none P Q h = absurd h
needs_split v k none (some o) P Q h = refl
needs_split v k (some m) o P Q h = refl

module _ (l : Layout) (p x : List ℕ) (ts : List Term) (count : ℕ) (ds : List ℕ) (plan : Plan.HoldsTable l p x ts)
    (numbered : Numbered p) where
  -- what looks no further down
  low_taken : (deep n b : ℕ) (P : Process) (ks : List ℕ) (at size : ℕ) (u : Words) → Low P
      → Rests l p x u.nodes n b ks P
      → Formed l p x u.nodes (term u.nodes n) (around p (term u.nodes n)) P
      → take p count ds (suc deep) n b at size u.tally u.nodes u.track
      ≡ Leaves.leaf p n b at size (digit_at ds count at) u.tally u.nodes u.track
  unfolding take is_split leaf_kind
  low_taken deep n b (leaf v (call m)) ks at size u low r f = rw (r.rests, f.1)
  low_taken deep n b (leaf v SKIP) ks at size u low r f = rw (r.rests, f.1)
  low_taken deep n b (leaf v STOP) ks at size u low r f = rw (r.rests, f.1)
  low_taken deep n b (prefix v e P) ks at size u low r f = rw (r.rests, f.1)
  low_taken deep n b (internal v P Q) ks at size u low r f = rw (r.rests, f.1)
  low_taken deep n b (split v k m o P Q) ks at size u low r f = absurd low
  low_taken deep n b (sequence v c P Q) ks at size u low r f = absurd low
  low_taken deep n b Ω ks at size u low r f = absurd low
  low_taken deep n b ⊥' ks at size u low r f = absurd low

  module _ (deep n b : ℕ) (ks : List ℕ) (qs : List Awaiting) (at size : ℕ) (a : Address) (u : Words)
      (y : Stepped) where
    abbrev GivenSo : Process → Type 0
    GivenSo P = Given l p x ts count ds (suc deep) n b P ks qs at size a u y

    abbrev WentSo : Process → Type 0
    WentSo P = Went l p x ts count ds n b P u y
        (take p count ds (suc deep) n b at size u.tally u.nodes u.track)

    at_low : (P : Process) → Low P → Rests l p x u.nodes n b ks P → cells P ≡ 1 → GivenSo P → WentSo P
    at_low P low r single g =
        let form = untouched_formed l p x u.nodes _ _ P r.untouched_there in
        rw (low_taken deep n b P ks at size u low r form) (record {
          goes = leaf_goes l p x count ds ts n b ks qs u at size y plan numbered g.tells
              (g.sized ∙ ap (λ q. length ks + q) single) g.fits P a low g.calls g.ready g.from
              g.steps;
          keeps = leaf_sideless p n b at size (digit_at ds count at) u.tally u.nodes u.track
              g.sideless;
        })

    -- an untouched sequence, by its tree
    by_tree : Takes l p x ts count ds deep → (t : Term)
        → Planned l p x (term u.nodes n) (around p (term u.nodes n)) t
        → Waiting (untouched (l.place (term u.nodes n)) t)
        → Rests l p x u.nodes n b ks (untouched (l.place (term u.nodes n)) t)
        → GivenSo (untouched (l.place (term u.nodes n)) t)
        → WentSo (untouched (l.place (term u.nodes n)) t)
    unfolding untouched joined
    by_tree takes (Term.leaf f) planned h r g = absurd h
    by_tree takes (Term.prefix e t) planned h r g = absurd h
    by_tree takes (binary Term.internal t s) planned h r g = absurd h
    by_tree takes (binary external t s) planned h r g = absurd h
    by_tree takes (binary Term.sequence t s) planned h r g =
        at_sequence l p x ts count ds deep n b (term u.nodes n)
        ks qs at size a u y t s r refl planned g takes
    by_tree takes (binary (parallel z) t s) planned h r g = absurd h

    at_waiting : Takes l p x ts count ds deep → (P : Process) → Waiting P → Rests l p x u.nodes n b ks P
        → GivenSo P → WentSo P
    at_waiting takes P h r g =
        let there = r.untouched_there in
        subst (λ R. Waiting R → Rests l p x u.nodes n b ks R → GivenSo R → WentSo R) (sym there.is)
        (by_tree takes there.tree there.planned) h r g

    -- an entered split
    at_entered : Takes l p x ts count ds deep → (v : Place) (k : Split) (m o : Option ℕ) (P Q : Process)
        → SomeSide m o
        → GivenSo (split v k m o P Q) → WentSo (split v k m o P Q)
    at_entered takes v k m o P Q h g =
        let is_cells = split_by_cells left v k m o P Q h in
        let is_needs = needs_split v k m o P Q h in
        let as_entered = entered_as m o 0 v (at_words n u) h in
        let enough = g.enough in
        let small = g.small in
        let sized = g.sized in
        opened_goes l p x ts count ds numbered deep takes n b ks qs v m o P Q 0 at size u y g.fits k a
        (record {
          entry = ready_entry l p x count n b ks v k u left m o P Q h g.ready;
          sideless = g.sideless;
          tells = g.tells;
          calls = g.calls.0;
          other_calls = g.calls.1;
          enough = omega (arith, enough, is_needs);
          other_enough = omega (arith, enough, is_needs);
          small = omega (arith, small, is_needs, sized, is_cells);
          other_small = omega (arith, small, is_needs, sized, is_cells);
          sized = omega (arith, sized, is_cells);
          few = omega (arith, small);
        })
        g.from
        (rw (split_steps ts v k m o P Q (at_words n u) a, as_entered.0, as_entered.1) at g.steps)

    -- an untouched split
    open_taken : (v : Place) (k : Split) (P Q : Process) → Rests l p x u.nodes n b ks
        (split v k none none P Q)
        → kind p (term u.nodes n) ≡ split_kind k → size + 2 ≤ 65535
        → take p count ds (suc deep) n b at size u.tally u.nodes u.track
        ≡ take p count ds deep n b at (size + 2) (open_to n u).tally (open_to n u).nodes u.track
    unfolding take is_split split_kind
    open_taken v choice P Q r e few = rw (r.rests, e, capped_below (size + 2) (omega arith))
    open_taken v (together f) P Q r e few = rw (r.rests, e, capped_below (size + 2) (omega arith))

  -- the depth before the last
  abbrev Before : ℕ → Type 0
  Before zero = Unit {0}
  Before (suc deep) = Takes l p x ts count ds deep

  module _ (deep n b : ℕ) (ks : List ℕ) (qs : List Awaiting) (at size : ℕ) (a : Address) (u : Words)
      (y : Stepped)
      (v : Place) (k : Split) (P Q : Process)
      (g : Given l p x ts count ds (suc (suc deep)) n b (split v k none none P Q) ks qs at size a u y) where
    abbrev here : Process
    here = split v k none none P Q

    abbrev mark : Label
    mark = record { reference = n; place = v }

    abbrev opened : Words
    opened = open_to n u

    abbrev open_step : Option Stepped
    open_step = split_step ts v k none none P Q (first_eval none (some 0) v (at_words n u))
        (first_eval none (some 0) v (at_words n u)) (at_words n u) a

    opened_form : Formed l p x u.nodes (term u.nodes n) (around p (term u.nodes n)) here
    opened_form = untouched_formed l p x u.nodes _ _ here g.ready.holds.untouched_there

    -- its label comes in front of the step of what it is once it is open
    opened_not : at_Ω P ≡ false
    opened_not = let there = opened_form.3 in ap at_Ω there.is ∙ untouched_on _ there.tree

    opened_steps : fronted mark (wrapped qs open_step) ≡ some y
    opened_steps =
        let s = at_words n u in
        let i = first_eval none (some 0) v s in
        let first_is : step ts here s a ≡ fronted mark open_step =
        split_steps ts v k none none P Q s a
        ∙ ap (λ q. split_step ts v k none none P Q q q s a) (first_front 0 v s)
        ∙ split_fronted mark ts v k none none P Q i i s a opened_not in
        sym (ap (wrapped qs) first_is ∙ wrapped_fronted mark qs open_step) ∙ g.steps

    opened_fits : (z : Stepped) → Fits u (front mark z).outcome → Fits opened z.outcome
    unfolding one_node
    opened_fits z fits =
        let more : u.tally.nodes + suc (length z.outcome.labels) ≤ 4096 = fits.nodes_fit in
        record {
          fresh_fits = fits.fresh_fits;
          nodes_fit = rw (capped_below (u.tally.nodes + 1) (omega arith)) (omega arith);
          arcs_fit = fits.arcs_fit;
          meetings_fit = fits.meetings_fit;
          met_fit = fits.met_fit;
          cells_fit = fits.cells_fit;
        }

    module _ (takes : Takes l p x ts count ds deep) (z : Stepped) (steps : wrapped qs open_step ≡ some z)
        (fits : Fits u (front mark z).outcome) where
      bare_sides : (first u.nodes n ≡ 0) × (second_side u.nodes n ≡ 0)
      bare_sides = g.sideless.none_there n g.ready.holds.bare

      room : u.tally.fresh ≤ reference_room
      room = given_room l p x ts count ds (suc (suc deep)) n b here ks qs at size a u y g

      opened_went : Went l p x ts count ds n b here opened z
          (take p count ds (suc deep) n b at (size + 2) opened.tally opened.nodes u.track)
      unfolding needs cells one_node
      opened_went =
          let single = open_cells l p x count n b ks v k P Q u g.ready bare_sides room in
          let enough = g.enough in
          let small = g.small in
          let sized = g.sized in
          opened_goes l p x ts count ds numbered deep takes n b ks qs v none none P Q 0 at (size + 2) opened z
          (opened_fits z fits) k a
          (record {
            entry = open_entry l p x count n b ks v k P Q u g.ready bare_sides room;
            sideless = entered_sideless n (term u.nodes n) u.nodes g.sideless;
            tells = tells_told l p x u.nodes opened.nodes ks qs g.tells;
            calls = g.calls.0;
            other_calls = g.calls.1;
            enough = omega (arith, enough);
            other_enough = omega (arith, enough);
            small = omega (arith, small, single.0);
            other_small = omega (arith, small, single.1);
            sized = omega (arith, sized, single.0, single.1);
            few = omega (arith, small);
          })
          g.from steps

      open_went : Went l p x ts count ds n b here u (front mark z)
          (take p count ds (suc (suc deep)) n b at size u.tally u.nodes u.track)
      unfolding held
      open_went =
          let there = opened_went.goes.matches in
          let own : ℕ → ℕ = λ j. held j n here in
          let few : u.tally.nodes + suc (length z.outcome.labels) ≤ 4096 = fits.nodes_fit in
          rw (open_taken (suc deep) n b ks qs at size a u y v k P Q g.ready.holds opened_form.1
          (omega (arith, g.small))) (record {
            goes = record {
              matches = record {
                writes = behind l own own u opened _ (one_label n v) (added z.outcome) (λ j d e. e)
                    (open_writes l p x count n b ks v k P Q u g.ready bare_sides room own (λ j e. e)
                    (omega (arith, few)))
                    there.writes;
                fresh_is = there.fresh_is;
                event_is = there.event_is;
                reference_is = there.reference_is;
                at_is = there.at_is;
              };
              size_is = opened_went.goes.size_is;
              holds = opened_went.goes.holds;
            };
            keeps = opened_went.keeps;
          })

    at_open : Takes l p x ts count ds deep → Went l p x ts count ds n b here u y
        (take p count ds (suc (suc deep)) n b at size u.tally u.nodes u.track)
    at_open takes =
        let (z, is, same) = front_of mark (wrapped qs open_step) y opened_steps in
        subst (λ q. Went l p x ts count ds n b here u q
        (take p count ds (suc (suc deep)) n b at size u.tally u.nodes u.track)) (sym same)
        (open_went takes z is (subst (λ q. Fits u q.outcome) same g.fits))

  -- an untouched split goes two levels down
  at_untouched : (deep : ℕ) → Before deep → (n b : ℕ) (ks : List ℕ) (qs : List Awaiting) (at size : ℕ)
      (a : Address)
      (u : Words) (y : Stepped) (v : Place) (k : Split) (P Q : Process)
      → Given l p x ts count ds (suc deep) n b (split v k none none P Q) ks qs at size a u y
      → Went l p x ts count ds n b (split v k none none P Q) u y
      (take p count ds (suc deep) n b at size u.tally u.nodes u.track)
  unfolding needs
  at_untouched zero before n b ks qs at size a u y v k P Q g =
      let enough = g.enough in absurd (omega (arith, enough))
  at_untouched (suc deep) before n b ks qs at size a u y v k P Q g =
      at_open deep n b ks qs at size a u y v k P Q g before

  bare_takes : (deep : ℕ) → Takes l p x ts count ds deep → Before deep
      → TakesBare l p x ts count ds (suc deep)
  unfolding cells step
  bare_takes deep takes before n b (leaf v f) ks qs at size a u y bare g =
      at_low deep n b ks qs at size a u y (leaf v f) tt g.ready.holds refl g
  bare_takes deep takes before n b (prefix v e P) ks qs at size a u y bare g =
      at_low deep n b ks qs at size a u y (prefix v e P) tt g.ready.holds refl g
  bare_takes deep takes before n b (internal v P Q) ks qs at size a u y bare g =
      at_low deep n b ks qs at size a u y (internal v P Q) tt g.ready.holds refl g
  bare_takes deep takes before n b (split v k none none P Q) ks qs at size a u y bare g =
      at_untouched deep before n b ks qs at size a u y v k P Q g
  bare_takes deep takes before n b (split v k none (some o) P Q) ks qs at size a u y bare g =
      at_entered deep n b ks qs at size a u y takes v k none (some o) P Q tt g
  bare_takes deep takes before n b (split v k (some m) o P Q) ks qs at size a u y bare g =
      at_entered deep n b ks qs at size a u y takes v k (some m) o P Q tt g
  bare_takes deep takes before n b (sequence v false P Q) ks qs at size a u y bare g =
      at_waiting deep n b ks qs at size a u y takes (sequence v false P Q) tt g.ready.holds g
  bare_takes deep takes before n b (sequence v true P Q) ks qs at size a u y bare g = absurd bare
  bare_takes deep takes before n b Ω ks qs at size a u y bare g = absurd (none_wrapped qs y g.steps)
  bare_takes deep takes before n b ⊥' ks qs at size a u y bare g = absurd (none_wrapped qs y g.steps)

  both_takes : (deep : ℕ) → Takes l p x ts count ds deep × Before deep
  both_takes zero = (
    λ n b P ks qs at size a u y g. let enough = g.enough in absurd (omega (arith, enough, needs_some P)),
    tt,
  )
  both_takes (suc deep) =
      let (takes, before) = both_takes deep in (
        λ n b P. inside_sequences l p x ts count ds (suc deep) (bare_takes deep takes before) P n b,
        takes,
      )

  -- the step that the words take is the step of the rules
  pub takes : (deep : ℕ) → Takes l p x ts count ds deep
  takes deep = (both_takes deep).0
