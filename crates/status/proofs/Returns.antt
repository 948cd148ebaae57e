-- What the status is at each test: one law a return, over plain variables. Assumes nothing.
use Rattle.std.proofs.Common.{ℕ, zero, suc, ◌^◌, ◌<◌, ◌≡◌, refl, Bool, true, false, ◌||◌, List, arith, eqb}
use Rattle.std.proofs.Common.{eqb-true}
use Rattle.std.proofs.lemmas.Bool.{eqb-false}
use Rattle.frames.specs.TableFrame.{event_room}
use Rattle.sets.specs.EventSet.{member}
use Rattle.sets.proofs.Members.{set_within}
use Rattle.rules.specs.declared.Status.TheVariants.{Live, Ended, Stuck}
use Rattle.rules.proofs.Offered.{or_right}
use Rattle.offering.specs.declared.Offered.{Offered}
use Rattle.offering.specs.code.Offering.{seen}
use Rattle.offers.specs.code.Following.{ended, offered}
use Rattle.status.specs.code.Status.{some_of, standing, status}

-- one of the first n events is found
some_found : (n k : ℕ) (test : ℕ → Bool) → k < n → test k ≡ true → some_of n test ≡ true
unfolding some_of
some_found zero k test h t = absurd (omega arith)
some_found (suc n) k test h t = go (eqb k n) refl (λ m. some_found n k test m t)
  where
    go : (b : Bool) → eqb k n ≡ b → (k < n → some_of n test ≡ true) → (test n || some_of n test) ≡ true
    go true e rest = rw (← eqb-true k n e, t)
    go false e rest =
        let apart = eqb-false k n e in
        or_right (test n) (some_of n test) (rest (omega arith))

none_found : (n : ℕ) (test : ℕ → Bool) → ((k : ℕ) → test k ≡ false) → some_of n test ≡ false
unfolding some_of
none_found zero test h = refl
none_found (suc n) test h = rw (h n) (none_found n test h)

-- the status, at Ω or by what an answer says
module _ (p x w : List ℕ) (n : ℕ) where
  pub status_ended : ended w n ≡ true → Ended ≡ status p x w n
  unfolding status standing
  status_ended h = rw h

  module _ (r : Offered) (told : seen r ≡ offered p x w n) (going : ended w n ≡ false) where
    pub status_plain : r.plain ≡ true → Live ≡ status p x w n
    unfolding status standing
    status_plain t = rw (← told, going, t)

    module _ (no_plain : r.plain ≡ false) where
      pub status_tick : r.tick ≡ true → Live ≡ status p x w n
      unfolding status standing
      status_tick t = rw (← told, going, no_plain, t)

      pub status_stuck : r.tick ≡ false → ((k : ℕ) → member k r.events ≡ false) → Stuck ≡ status p x w n
      unfolding status standing
      status_stuck t none =
          rw (← told, going, no_plain, t, none_found event_room (λ k. member k r.events) none)

      -- an answer's set has no event past the room
      pub status_event : r.tick ≡ false → r.events < 2 ^ event_room → (k : ℕ) → member k r.events ≡ true
          → Live ≡ status p x w n
      unfolding status standing
      status_event t fits k there =
          let below = (set_within r.events event_room).0 fits k there in
          rw (← told, going, no_plain, t, some_found event_room k (λ k. member k r.events) below there)
