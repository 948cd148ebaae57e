-- What is told of a run's status is what document 02's W2 says of its control, by its offers. Past the count of a table's
-- events nothing is offered, so a search through all that there may be finds the same. Assumes nothing.
use Rattle.std.proofs.Common.{ℕ, zero, suc, ◌≤◌, ◌<◌, ◌≡◌, refl, ap, ◌∙◌, Bool, true, false, ◌||◌, List}
use Rattle.std.proofs.Common.{arith, eqb, eqb-true}
use Rattle.std.proofs.lemmas.Bool.{eqb-false}
use Rattle.lines.specs.Judging.{accepted}
use Rattle.frames.specs.TableFrame.{event_room}
use Rattle.tables.specs.Table.{Sofar, judged}
use Rattle.terms.specs.Term.{definitions_of}
use Rattle.terms.proofs.Trees.{checked_trees}
use Rattle.rules.specs.declared.Status.{Status}
use Rattle.rules.specs.Process.{Process}
use Rattle.rules.specs.Step.{at_Ω}
use Rattle.rules.specs.Offers.{offers_event, offers_some, moves}
use Rattle.rules.specs.Offers as Report
use Rattle.rules.specs.Run.{State, Reached}
use Rattle.rules.proofs.Stuck.{among_offers}
use Rattle.rules.proofs.Ranged.{checked_among}
use Rattle.plans.specs.words.Plan.{Layout}
use Rattle.offers.specs.words.Told.{offer_of, Low, Controls}
use Rattle.offers.proofs.Runs.{run_offers, run_ended}
use Rattle.status.specs.code.Status.{some_of, standing, status}
use Rattle.status.specs.words.Told.{Covers, TellsStatus}

-- one of the first n events
some_told : (n : ℕ) (P : Process) → some_of n (λ k. offers_event k P) ≡ offers_some n P
unfolding some_of offers_some
some_told zero P = refl
some_told (suc n) P = ap (λ (b : Bool). offers_event n P || b) (some_told n P)

-- events are found among as many as cover them, or more
covered : (e n : ℕ) (test : ℕ → Bool) → ((k : ℕ) → test k ≡ true → k < e) → e ≤ n
    → some_of n test ≡ some_of e test
unfolding some_of
covered e zero test below h = let none : e ≡ 0 = omega arith in rw none
covered e (suc n) test below h = go (eqb e (suc n)) refl (covered e n test below) (test n) refl
  where
    go : (b : Bool) → eqb e (suc n) ≡ b → (e ≤ n → some_of n test ≡ some_of e test)
        → (c : Bool) → test n ≡ c → (test n || some_of n test) ≡ some_of e test
    go true q rest c s = rw (eqb-true e (suc n) q)
    go false q rest true s =
        let apart = eqb-false e (suc n) q in
        absurd (omega (arith, below n s))
    go false q rest false s =
        let apart = eqb-false e (suc n) q in
        rw s (rest (omega arith))

-- the status of a control by its offers
standing_told : (e : ℕ) (P : Process) → Covers e P
    → standing (at_Ω P) (offer_of P) ≡ Report.status e P
unfolding standing Report.status moves
standing_told e P h =
    let some = covered e event_room (λ k. offers_event k P) h.all_below h.in_room ∙ some_told e P in
    rw some

-- the events of a checked table cover what a run of it offers
pub run_covers : (text : List ℕ) (t : Sofar) → judged text ≡ accepted t → {s : State} → Reached (definitions_of t) s
    → Covers t.events s.process
run_covers text t q {s} reached = record {
  in_room = (checked_trees text t q).few_events;
  all_below = λ k. among_offers t.events k s.process (checked_among text t q reached);
}

module _ (p x w : List ℕ) where
  pub run_status : (l : Layout) → Low l → (n e : ℕ) (P : Process) → Controls l p x w n P → Covers e P
      → status p x w n ≡ Report.status e P
  unfolding status
  run_status l low n e P c h =
      rw (run_ended l p x w low n P c, run_offers l p x w low n P c) (standing_told e P h)

  -- the promises of a status
  pub promised : (n : ℕ) (r : Status) → r ≡ status p x w n → (r ≡ status p x w n) × TellsStatus p x w n r
  promised n r h = (h, λ l P e low c v. h ∙ run_status l low n e P c v)
