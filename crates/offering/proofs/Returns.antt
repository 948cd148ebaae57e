-- What the definitions of the code are at each test: one law a return, over plain variables. An answer's
-- events are told by their members, so two offers are equal where each event is in both or in neither.
-- Assumes nothing.
use Rattle.std.proofs.Common.{ℕ, ◌%◌, ◌≡◌, ap, Bool, true, false, ◌&&◌, ◌||◌, eqb, ltb, eq-eqb, ne_eqb}
use mathlib.Core.Path.{fun_ext}
use Rattle.frames.specs.TableFrame.{event_room}
use Rattle.sets.specs.EventSet.{member}
use Rattle.sets.specs.Told.{SetOf, shown}
use Rattle.sets.proofs.Bits.{none_in_zero}
use Rattle.offering.specs.declared.Offered.{Offered}
use Rattle.offering.specs.code.Offering.{Offer, seen, unseen, own, settled, combined}

-- offers are equal where their parts are
pub same_offers :
    (a b c : Bool) (f g : ℕ → Bool) → ((k : ℕ) → f k ≡ g k)
    → ◌≡◌ {A = Offer} (record { tau = a; plain = b; tick = c; event = f })
    (record { tau = a; plain = b; tick = c; event = g })
same_offers a b c f g h =
    ap (λ (e : ℕ → Bool). record { tau = a; plain = b; tick = c; event = e }) (fun_ext h)

pub no_events : (a b : Bool) → seen (record { tau = a; plain = a; tick = b; events = 0 }) ≡ unseen a b
no_events a b = same_offers a a b _ _ none_in_zero

-- what a term offers by its own kind
module _ (k e : ℕ) where
  pub own_event : k ≡ 2 → (s : ℕ) → SetOf (λ n. ltb (e % 256) event_room && eqb n (e % 256)) s
      → seen (record { tau = false; plain = false; tick = false; events = s }) ≡ own k e
  unfolding own
  own_event h s told = rw (eq-eqb k 2 h) (same_offers false false false _ _ told)

  pub own_tick : (k ≡ 2 → ⊥) → k ≡ 7 → unseen false true ≡ own k e
  unfolding own
  own_tick n h = simp (ne_eqb k 2 n, eq-eqb k 7 h)

  pub own_stop : (k ≡ 2 → ⊥) → (k ≡ 7 → ⊥) → k ≡ 8
      → seen (record { tau = true; plain = false; tick = false; events = 0 }) ≡ own k e
  unfolding own
  own_stop n m h =
      rw (ne_eqb k 2 n, ne_eqb k 7 m, eq-eqb k 8 h) (same_offers true false false _ _ none_in_zero)

  pub own_tau : (k ≡ 2 → ⊥) → (k ≡ 7 → ⊥) → (k ≡ 8 → ⊥) → unseen true false ≡ own k e
  unfolding own
  own_tau n m o = simp (ne_eqb k 2 n, ne_eqb k 7 m, ne_eqb k 8 o)

module _ (k x : ℕ) (both : Bool) (l r : Offered) (s : ℕ) where
  pub combined_parallel : k ≡ 6 → SetOf (shown x l.events r.events) s
      → seen (record {
        tau = (l.tau || l.tick) || (r.tau || r.tick);
        plain = (l.plain || l.tick) || (r.plain || r.tick);
        tick = both;
        events = s;
      })
      ≡ combined k x both (seen l) (seen r)
  unfolding combined
  combined_parallel h told = rw (eq-eqb k 6 h) (same_offers _ _ _ _ _ told)

  pub combined_choice : (k ≡ 6 → ⊥) → SetOf (λ n. member n l.events || member n r.events) s
      → seen (record {
        tau = l.tau || r.tau;
        plain = l.plain || r.plain;
        tick = l.tick || r.tick;
        events = s;
      })
      ≡ combined k x both (seen l) (seen r)
  unfolding combined
  combined_choice n told = rw (ne_eqb k 6 n) (same_offers _ _ _ _ _ told)

module _ (o : Offered) where
  pub settled_nested : (b : Bool) → b ≡ true
      → seen (record { tau = o.tau || o.tick; plain = o.plain || o.tick; tick = false; events = o.events })
      ≡ settled b (seen o)
  unfolding settled
  settled_nested b h = rw h

  pub settled_bare : (b : Bool) → b ≡ false → seen o ≡ settled b (seen o)
  unfolding settled
  settled_bare b h = rw h
