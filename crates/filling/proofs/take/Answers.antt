-- `filling::take` meets its contract. In each arm the frame is the arm's variant, by which the
-- definition of each column computes; a frame that meets no refusal is within every room. Assumes nothing.
use Rattle.std.proofs.Common.{refl, inl, inr, arith}
use Rattle.filling.specs.code.Taking.{seen_then, waiting_then, roots_then, column_then}
use Rattle.filling.proofs.Rooms.{term_room_is, definition_room_is}
use Rattle.filling.proofs.take.Goals as goal

pub bounds-table-at : goal.bounds-table-at
bounds-table-at c = (term_room_is _ _ c.requires _ _ c.in-Term.is).terms_fit

pub bounds-table-at-in-Term : goal.bounds-table-at-in-Term
bounds-table-at-in-Term c = (term_room_is _ _ c.requires _ _ c.in-Term.is).terms_fit

pub overflow_sub-table : goal.overflow_sub-table
overflow_sub-table c = (term_room_is _ _ c.requires _ _ c.in-Term.is).begun

pub overflow_cast-table : goal.overflow_cast-table
overflow_cast-table c = omega (arith, term_room_is _ _ c.requires _ _ c.in-Term.is)

pub bounds-table-at-in-Term-2 : goal.bounds-table-at-in-Term-2
bounds-table-at-in-Term-2 c = (term_room_is _ _ c.requires _ _ c.in-Term.is).terms_fit

pub owe-requires : goal.owe-requires
owe-requires c =
    let room = term_room_is _ _ c.requires _ _ c.in-Term.is in
    (room.wanted, room.terms_fit, room.depth_fits, room.due_fits)

pub overflow_cast-table-in-Definition : goal.overflow_cast-table-in-Definition
overflow_cast-table-in-Definition c = omega (arith, c.requires.terms_fit)

pub offset_bounds-table-at-in-Definition : goal.offset_bounds-table-at-in-Definition
offset_bounds-table-at-in-Definition c = omega (arith, definition_room_is _ _ c.requires _ c.in-Definition.is)

pub bounds-table-at-in-Definition : goal.bounds-table-at-in-Definition
bounds-table-at-in-Definition c = definition_room_is _ _ c.requires _ c.in-Definition.is

pub begin-requires : goal.begin-requires
begin-requires c = definition_room_is _ _ c.requires _ c.in-Definition.is

pub returns-in-Term : goal.returns-in-Term
unfolding seen_then waiting_then roots_then column_then
returns-in-Term c =
    rw c.in-Term.is
    (record { value = c.owe.ensures.value; waiting_after = c.owe.ensures.waiting_after; kinds_after = refl; payloads_after = refl; owners_after = refl; roots_after = refl; after_kept = refl })

pub returns-in-Definition : goal.returns-in-Definition
unfolding seen_then waiting_then roots_then column_then
returns-in-Definition c =
    rw c.in-Definition.is
    (record { value = c.begin.ensures; waiting_after = refl; kinds_after = refl; payloads_after = refl; owners_after = refl; roots_after = refl; after_kept = refl })

pub returns-in-Opening : goal.returns-in-Opening
unfolding seen_then waiting_then roots_then column_then
returns-in-Opening c = elim c.in-Opening.is [
  | inl w ↦ rw w.3 (record { value = refl; waiting_after = refl; kinds_after = refl; payloads_after = refl; owners_after = refl; roots_after = refl; after_kept = refl })
  | inr (inl w) ↦ rw w.1 (record { value = refl; waiting_after = refl; kinds_after = refl; payloads_after = refl; owners_after = refl; roots_after = refl; after_kept = refl })
  | inr (inr w) ↦ rw w (record { value = refl; waiting_after = refl; kinds_after = refl; payloads_after = refl; owners_after = refl; roots_after = refl; after_kept = refl })
]
