-- What the theorems about a table's runs take is what its check and its layout have promised: a caller who has called both
-- doors has every premise, with no further assumption. The promises are those that the two contracts state (`Learnt`, what a
-- caller is told). Assumes nothing.
use Rattle.std.proofs.Common.{ℕ, ◌≡◌, sym, ap, ap₂, ◌∙◌, List, []}
use contract.Lifetimes.{Lfts}
use denote.Triple.Clauses.{AtExit}
use borrow.Fn.Kinds.{Dens, ended_of, res_t}
use Rattle.columns.specs.words.Columns.{Columns, read_columns, with_owners}
use Rattle.columns.specs.words.Held.{held}
use Rattle.tables.specs.Table.{judged}
use Rattle.tables.specs.words.Columns.{Outcome}
use Rattle.std.specs.Prelude.{Result, Ok}
use Rattle.lines.specs.declared.RefusedAt.{RefusedAt}
use Rattle.tables.specs.Checked.{checked_told}
use Rattle.tables.specs.declared.TableCounts.{TableCounts}
use Rattle.tables.proofs.check.Kinds as checking
use Rattle.tables.proofs.check.Reads as check
use Rattle.tables.proofs.Whole.{outcome_accepts}
use Rattle.terms.proofs.Trees.{checked_trees}
use Rattle.plans.specs.code.Laid.{laid_out}
use Rattle.plans.proofs.lay_out.Kinds as laying
use Rattle.plans.proofs.lay_out.Reads as lay-out
use Rattle.demands.specs.words.Laid.{CheckedAndLaid}

-- a call of the check: what it was lent, its answer, and what was lent as it is afterwards
module _ (κ : Lfts 2) (lent : Dens κ checking.ps) (c : Result TableCounts RefusedAt) (left : AtExit (ended_of 2 checking.ps checking.r) κ) where
  -- the text that was judged, and the columns that the check has left
  abbrev text_judged : List ℕ
  text_judged = let (text, _) = lent in text.now

  abbrev columns_left : Columns
  columns_left =
      let (text, (table, _)) = left in
      held table.now

  -- a call of the layout
  module _ (κ' : Lfts 2) (lent' : Dens κ' laying.ps) (u : (res_t laying.r κ').Denot)
      (left' : AtExit (ended_of 2 laying.ps laying.r) κ') where
    -- how many terms it was lent, with their columns, and the plan that it has left
    abbrev terms_lent : ℕ
    terms_lent = let (terms, _) = lent' in terms

    abbrev columns_lent : Columns
    columns_lent =
        let (terms, (table, _)) = lent' in
        read_columns table.now.kinds table.now.payloads table.now.after table.now.roots

    abbrev plan_left : List ℕ
    plan_left = let (terms, (table, (plan, _))) = left' in plan.now

    -- where both doors have kept their promises, the check has accepted the text, and the layout was lent what the check has
    -- told and left, a caller has the table
    pub from_doors : check.Learnt κ lent c left → lay-out.Learnt κ' lent' u left' → (n : TableCounts) → c ≡ Ok n
        → terms_lent ≡ n.terms → columns_lent ≡ with_owners [] columns_left
        → CheckedAndLaid text_judged columns_left plan_left n
    unfolding checked_told
    from_doors checks lays n accepts same_terms same_columns =
        let told = sym (ap (λ (q : Outcome). q.answer) checks) ∙ ap checked_told accepts in
        let (t, is, counts, columns_are) = outcome_accepts _ (judged text_judged) n told in
        let columns_hold = ap (λ (q : Outcome). q.columns) checks ∙ columns_are in
        let laid_from : ℕ → Columns → List ℕ =
        λ m d. laid_out m d.kinds d.payloads d.after d.roots in
        record {
          table = t;
          columns_hold = record { checked = is; columns_are = columns_hold };
          planned = record {
            plan_is = lays ∙ ap₂ laid_from (same_terms ∙ ap (λ (m : TableCounts). m.terms) counts)
                (same_columns ∙ ap (with_owners []) columns_hold);
            sets_are = ap (λ (d : Columns). d.payloads) columns_hold;
          };
          definitions_are = ap (λ (m : TableCounts). m.definitions) counts ∙ sym (checked_trees text_judged t is).many;
        }
