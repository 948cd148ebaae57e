-- Words hold one run at most: two states that the same words hold have the same control, the same reference and next fresh
-- one, as many cells and labels, the same arcs and meetings in the same order, and the same place at each reference. The
-- control is told by words and plan, since the table has every definition that it calls; all else by the words alone. Assumes
-- nothing.
use Rattle.std.proofs.Common.{ℕ, ◌≡◌, sym, subst, ◌∙◌, List, [], arith, length}
use Rattle.terms.specs.Term.{Term}
use Rattle.rules.specs.Process.{Process, cells}
use Rattle.rules.specs.Run.{State}
use Rattle.rules.specs.Track.{lookup}
use Rattle.rules.proofs.Ranged.{Calls}
use Rattle.plans.specs.words.Plan.{Layout, HoldsTable}
use Rattle.control.proofs.Chains.{holds_within}
use Rattle.control.proofs.HeldOnce.{control_once}
use Rattle.offers.specs.words.Told.{Controls, starts, stands}
use Rattle.runs.specs.words.Held.{Table, Holds}
use Rattle.runs.proofs.Defined.{reached_calls}

-- states with the same control, the same counters and the same track
pub record Alike (s t : State) : Type 0 where
  pub same_process : s.process ≡ t.process
  pub same_reference : s.reference ≡ t.reference
  pub same_fresh : s.fresh ≡ t.fresh
  pub same_cells : cells s.process ≡ cells t.process
  pub same_count : length s.labels ≡ length t.labels
  pub same_places : (j : ℕ) → lookup j s.labels ≡ lookup j t.labels
  pub same_arcs : s.arcs ≡ t.arcs
  pub same_meetings : s.meetings ≡ t.meetings

-- the control at a reference, which is 0 at the start alone
controls_once : (l : Layout) (p x : List ℕ) (ts : List Term) → HoldsTable l p x ts → (w : List ℕ) (n : ℕ)
    (P Q : Process) → Controls l p x w n P → Controls l p x w n Q → Calls ts P → Calls ts Q → P ≡ Q
controls_once l p x ts table w n P Q (starts z e) (starts y d) a b = e ∙ sym d
controls_once l p x ts table w n P Q (starts z e) (stands k few) a b =
    absurd (omega (arith, holds_within l p x w n 0 Q [] k))
controls_once l p x ts table w n P Q (stands h few) (starts y d) a b =
    absurd (omega (arith, holds_within l p x w n 0 P [] h))
controls_once l p x ts table w n P Q (stands h few) (stands k less) a b = control_once l p x ts table w n 0 P Q h k a b

pub held_once : (l : Layout) (p x : List ℕ) (ts : List Term) → Table l p x ts → (w g c : List ℕ) (s t : State)
    → Holds l p x ts w g c s → Holds l p x ts w g c t → Alike s t
held_once l p x ts table w g c s t holds holds' =
    let h = holds.tells in
    let k = holds'.tells in
    let reference : s.reference ≡ t.reference = sym h.reference_is ∙ k.reference_is in
    record {
      same_process = controls_once l p x ts table.held w t.reference s.process t.process
          (subst (λ n. Controls l p x w n s.process) reference h.controls) k.controls
          (reached_calls l p x ts table s holds.reached) (reached_calls l p x ts table t holds'.reached);
      same_reference = reference;
      same_fresh = sym h.fresh_is ∙ k.fresh_is;
      same_cells = sym h.cells_are ∙ k.cells_are;
      same_count = sym h.nodes_are ∙ k.nodes_are;
      same_places = λ j. sym (h.labels_told j) ∙ k.labels_told j;
      same_arcs = sym h.arcs_told ∙ k.arcs_told;
      same_meetings = sym h.meetings_told ∙ k.meetings_told;
    }
