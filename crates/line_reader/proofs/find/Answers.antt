-- `line_reader::find` meets its contract: each arm knows how the lines are spelled, and what its finder answers is what
-- `answer_by` has for that spelling. Assumes nothing.
use Rattle.std.proofs.Common.{◌≡◌, sym, ap, ◌∙◌, ℕ, List}
use Rattle.lines.specs.Line.{Raw}
use Rattle.lines.specs.declared.Line.{Line}
use Rattle.line_reader.specs.Spelling.{answer_by}
use Rattle.line_reader.specs.declared.Spelling.{Spelling}
use Rattle.line_reader.proofs.find.Goals as goal

-- what is answered by the spelling that is known is answered by the one that was passed
by_known : (p q : Spelling) → p ≡ q → (at : ℕ) (ls : List Raw) (r : Line)
    → r ≡ answer_by q at ls → r ≡ answer_by p at ls
by_known p q known at ls r answered = answered ∙ sym (ap (λ (s : Spelling). answer_by s at ls) known)

pub returns-in-Strict : goal.returns-in-Strict
returns-in-Strict c = by_known _ _ c.in-Strict.is _ _ _ c.find_line.ensures

pub returns-in-Desk : goal.returns-in-Desk
returns-in-Desk c = by_known _ _ c.in-Desk.is _ _ _ c.find_desk_line.ensures
