-- `links::link_arc` meets its contract, a law for each return. Both ends that have marks are references, so
-- no sum passes a word. Assumes nothing.
use Rattle.std.proofs.Common.{arith, refl, sym, ◌∙◌}
use Rattle.links.proofs.WordLaws.{look_inside}
use Rattle.links.proofs.LinkLaws.{slot_most, side_told, none_told, bare_from, bare_to, no_side, side_taken, side_free}
use Rattle.links.proofs.link_arc.Goals as goal
use Rattle.links.proofs.link_arc.Goals.{then-mark-eq0-via-then-mark-eq0, then-mark-eq0-via-else-mark-eq0+then-other-eq0}

pub returns-then-mark-eq0 : goal.returns-then-mark-eq0
returns-then-mark-eq0 c =
    elim c.then-mark-eq0.branch [
      | then-mark-eq0-via-then-mark-eq0 w ↦
          let told = bare_from _ _ _ _ _ _ _ _ c.reference_word-mark.ensures c.reference_word-other.ensures
          w.if-mark-eq0.true in
          record { value = told.0; sides_after = told.1 }
      | then-mark-eq0-via-else-mark-eq0+then-other-eq0 w ↦
          let told = bare_to _ _ _ _ _ _ _ _ c.reference_word-mark.ensures c.reference_word-other.ensures
          w.if-other-eq0.true in
          record { value = told.0; sides_after = told.1 }
    ]

pub returns-in_default : goal.returns-in_default
returns-in_default c =
    let told = no_side _ _ _ _ _ _ _ _ c.reference_word-mark.ensures c.reference_word-other.ensures
    c.if-mark-eq0.false c.if-other-eq0.false _ refl (none_told _ (sym c.slot_of.ensures ∙ c.in_default.is)) in
    record { value = told.0; sides_after = told.1 }

pub overflow_mul-word : goal.overflow_mul-word
overflow_mul-word c = omega (arith, look_inside _ _ _ _ c.reference_word-mark.ensures c.if-mark-eq0.false)

pub overflow_add-word : goal.overflow_add-word
overflow_add-word c =
    omega (
      arith,
      look_inside _ _ _ _ c.reference_word-mark.ensures c.if-mark-eq0.false,
      slot_most _ _ _ _ _ (sym (side_told _ _ (sym c.slot_of.ensures ∙ c.in-Some.is)).0),
    )

pub returns-then-side_word-ne0 : goal.returns-then-side_word-ne0
returns-then-side_word-ne0 c =
    let (side, some_side) = side_told _ _ (sym c.slot_of.ensures ∙ c.in-Some.is) in
    let told = side_taken _ _ _ _ _ _ _ _ c.reference_word-mark.ensures c.reference_word-other.ensures
    c.if-mark-eq0.false c.if-other-eq0.false _ (sym side) (λ z. some_side (side ∙ z)) _
    c.side_word.ensures c.if-side_word-ne0.true in
    record { value = told.0; sides_after = told.1 }

pub overflow_add-to : goal.overflow_add-to
overflow_add-to c = omega (arith, look_inside _ _ _ _ c.reference_word-other.ensures c.if-other-eq0.false)

pub returns : goal.returns
returns c =
    let (side, some_side) = side_told _ _ (sym c.slot_of.ensures ∙ c.in-Some.is) in
    let told = side_free _ _ _ _ _ _ _ _ c.reference_word-mark.ensures c.reference_word-other.ensures
    c.if-mark-eq0.false c.if-other-eq0.false _ (sym side) (λ z. some_side (side ∙ z)) _
    c.side_word.ensures c.if-side_word-ne0.false _ c.put_side_word.ensures in
    record { value = told.0; sides_after = told.1 }
