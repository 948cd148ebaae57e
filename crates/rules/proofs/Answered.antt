-- What an address is answered: accepted exactly when it names a derivation whose result fits the rooms, with
-- that derivation's event, process and track; 7 exactly when it names none; and otherwise the lowest room that
-- the result passes. By what the step of an address is. Assumes nothing.
use Rattle.std.specs.Prelude.{ℕ, zero, suc, ◌≤◌, ◌≡◌, refl, Bool, true, false, List, [], ◌∷◌, ◌⊎◌, ◌↔◌}
use Rattle.std.specs.Prelude.{length, ltb}
use Rattle.std.proofs.Common.{sym, ap, ap₂, ◌∙◌, inl, inr, ⊎_elim, arith}
use Rattle.std.proofs.Math.Option.{Option, none, some}
use Rattle.lines.specs.Line.{choose}
use Rattle.terms.specs.Term.{Term}
use Rattle.rules.specs.declared.Event.{Event}
use Rattle.rules.specs.Process.{Address, cells}
use Rattle.rules.specs.Track.{Outcome}
use Rattle.rules.specs.Derivation.{Named}
use Rattle.rules.specs.Step.{Stepped, stepped, step}
use Rattle.rules.specs.Run.{State, stands, after, over_room, cell_room, node_room, arc_room}
use Rattle.rules.specs.Run.{meeting_room, accepted, refused, within_room, whole, answered, answer}
use Rattle.rules.proofs.Derived.{step_exactly}

-- the rooms' numbers
room_numbers : (s : State) → (over_room s ≡ 0) ⊎ (8 ≤ over_room s)
unfolding over_room
room_numbers s =
    go (ltb cell_room (cells s.process)) (ltb node_room (length s.labels))
    (ltb arc_room (length s.arcs)) (ltb meeting_room (length s.meetings))
  where
    go : (a b c d : Bool) → (◌≡◌ {A = ℕ} (choose a 8 (choose b 9 (choose c 10 (choose d 11 0)))) 0)
        ⊎ (8 ≤ choose a 8 (choose b 9 (choose c 10 (choose d 11 0))))
    go true b c d = inr (omega arith)
    go false true c d = inr (omega arith)
    go false false true d = inr (omega arith)
    go false false false true = inr (omega arith)
    go false false false false = inl refl

-- the digits that a step leaves
abbrev unused_of : Option Stepped → Address
unused_of none = []
unused_of (some x) = x.unused

module _ (ts : List Term) (s : State) (a : Address) where
  -- a derivation that the address names decides the answer
  pub answer_named : (r : Outcome) → Named ts s a r → answer ts s a ≡ within_room (over_room (after s r)) r.event (after s r)
  unfolding answer answered whole
  answer_named r d = rw ((step_exactly ts s.process (stands s) a r).1 d)

  -- the address names a derivation, or is answered 7 and names none
  pub named_or_not : ((r : Outcome) × Named ts s a r) ⊎ ((answer ts s a ≡ refused 7) × ((r : Outcome) → Named ts s a r → ⊥))
  unfolding answer answered whole
  named_or_not = go (step ts s.process (stands s) a) refl
    where
      none_named : (o : Option Stepped) → step ts s.process (stands s) a ≡ o
          → ((r : Outcome) → o ≡ stepped r [] → ⊥) → (r : Outcome) → Named ts s a r → ⊥
      none_named o e h r d = h r (sym e ∙ (step_exactly ts s.process (stands s) a r).1 d)

      by_unused : (r : Outcome) (u : Address) → step ts s.process (stands s) a ≡ stepped r u
          → ((r : Outcome) × Named ts s a r) ⊎ ((whole u r.event (after s r) ≡ refused 7) × ((r : Outcome) → Named ts s a r → ⊥))
      by_unused r [] e = inl (r, (step_exactly ts s.process (stands s) a r).0 e)
      by_unused r (d ∷ u) e =
          inr (
            refl,
            none_named (stepped r (d ∷ u)) e
                (λ t q. let left = ap unused_of q in let z : ◌≡◌ {A = ℕ} 0 1 = cc in omega arith),
          )

      go : (o : Option Stepped) → step ts s.process (stands s) a ≡ o
          → ((r : Outcome) × Named ts s a r) ⊎ ((answered s o ≡ refused 7) × ((r : Outcome) → Named ts s a r → ⊥))
      go none e = inr (refl, none_named none e (λ t q. let z : ◌≡◌ {A = ℕ} 0 1 = cc in omega arith))
      go (some x) e = by_unused x.outcome x.unused e

  -- which answer: an accepted one by no room passed, a refusal by the room's number
  within : (n : ℕ) (e : Event) (t : State) → n ≡ 0 → within_room n e t ≡ accepted e t
  unfolding within_room
  within n e t z = rw z

  passed : (n : ℕ) (e : Event) (t : State) → 8 ≤ n → within_room n e t ≡ refused n
  unfolding within_room
  passed zero e t l = absurd (omega arith)
  passed (suc n) e t l = refl

  -- An address is accepted exactly when the report's tracking rules have a derivation so named and its result
  -- fits the stated room; event, next process and track are those rules'.
  pub accepted_exactly : (e : Event) (t : State)
      → (answer ts s a ≡ accepted e t) ↔ ((r : Outcome) × Named ts s a r × (r.event ≡ e) × (after s r ≡ t) × (over_room t ≡ 0))
  accepted_exactly e t = (to, from)
    where
      to : answer ts s a ≡ accepted e t → (r : Outcome) × Named ts s a r × (r.event ≡ e) × (after s r ≡ t) × (over_room t ≡ 0)
      to h = ⊎_elim named (λ n. let q = n.0 in let z : ◌≡◌ {A = ℕ} 0 1 = cc in absurd (omega arith)) named_or_not
        where
          named : (r : Outcome) × Named ts s a r → (r : Outcome) × Named ts s a r × (r.event ≡ e) × (after s r ≡ t) × (over_room t ≡ 0)
          named d =
              let u = after s d.0 in
              let told = answer_named d.0 d.1 in
              ⊎_elim (λ z.
              let same : accepted d.0.event u ≡ accepted e t = sym (told ∙ within (over_room u) d.0.event u z) ∙ h in
              let there : u ≡ t = cc in
              (d.0, d.1, cc, there, ap over_room (sym there) ∙ z))
              (λ l.
              let other : refused (over_room u) ≡ accepted e t = sym (told ∙ passed (over_room u) d.0.event u l) ∙ h in
              let z : ◌≡◌ {A = ℕ} 0 1 = cc in absurd (omega arith))
              (room_numbers u)

      from : (r : Outcome) × Named ts s a r × (r.event ≡ e) × (after s r ≡ t) × (over_room t ≡ 0) → answer ts s a ≡ accepted e t
      from d =
          let z : over_room (after s d.0) ≡ 0 = ap over_room d.3 ∙ d.4 in
          answer_named d.0 d.1 ∙ within (over_room (after s d.0)) d.0.event (after s d.0) z
          ∙ ap₂ accepted d.2 d.3

  -- 7 exactly when there is no derivation
  pub seven_exactly : (answer ts s a ≡ refused 7) ↔ ((r : Outcome) → Named ts s a r → ⊥)
  seven_exactly = (to, from)
    where
      to : answer ts s a ≡ refused 7 → (r : Outcome) → Named ts s a r → ⊥
      to h r d =
          ⊎_elim (λ z.
          let other = sym (answer_named r d ∙ within (over_room (after s r)) r.event (after s r) z) ∙ h in
          let z : ◌≡◌ {A = ℕ} 0 1 = cc in omega arith)
          (λ l.
          let other : refused (over_room (after s r)) ≡ refused 7 =
          sym (answer_named r d ∙ passed (over_room (after s r)) r.event (after s r) l) ∙ h in
          let seven : over_room (after s r) ≡ 7 = cc in
          omega arith)
          (room_numbers (after s r))

      from : ((r : Outcome) → Named ts s a r → ⊥) → answer ts s a ≡ refused 7
      from h = ⊎_elim (λ d. absurd (h d.0 d.1)) (λ n. n.0) named_or_not

  -- else the lowest limit passed
  pub room_exactly : (n : ℕ) → 8 ≤ n → (answer ts s a ≡ refused n) ↔ ((r : Outcome) × Named ts s a r × (over_room (after s r) ≡ n))
  room_exactly n l = (to, from)
    where
      named : answer ts s a ≡ refused n → (r : Outcome) × Named ts s a r → (r : Outcome) × Named ts s a r × (over_room (after s r) ≡ n)
      named h d =
          let u = after s d.0 in
          ⊎_elim (λ z.
          let other = sym (answer_named d.0 d.1 ∙ within (over_room u) d.0.event u z) ∙ h in
          let z : ◌≡◌ {A = ℕ} 0 1 = cc in absurd (omega arith))
          (λ m.
          let same : refused (over_room u) ≡ refused n =
          sym (answer_named d.0 d.1 ∙ passed (over_room u) d.0.event u m) ∙ h in
          (d.0, d.1, cc))
          (room_numbers u)

      to : answer ts s a ≡ refused n → (r : Outcome) × Named ts s a r × (over_room (after s r) ≡ n)
      to h =
          ⊎_elim (named h) (λ m.
          let same : refused 7 ≡ refused n = sym m.0 ∙ h in
          let seven : 7 ≡ n = cc in
          absurd (omega arith))
          named_or_not

      from : (r : Outcome) × Named ts s a r × (over_room (after s r) ≡ n) → answer ts s a ≡ refused n
      from d =
          let u = after s d.0 in
          let k : 8 ≤ over_room u = rw d.2 l in
          answer_named d.0 d.1 ∙ passed (over_room u) d.0.event u k ∙ ap refused d.2
