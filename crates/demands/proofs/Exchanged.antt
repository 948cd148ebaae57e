-- Two steps in either order, by the promises of steps and saves alone. What a step answers is document 01's, and the
-- words behind it hold the state behind it; so two accepted answers are two accepted addresses, and what their
-- exchange says of the states it says of the words. Assumes nothing.
use Rattle.std.specs.Prelude.{ℕ, ◌≤◌, ◌≡◌, refl, Bool, true, false, List, ◌⊎◌, length, ltb, eqb}
use Rattle.std.proofs.Common.{sym, ap, ◌∙◌, inl, inr, arith, eqb-true}
use Rattle.std.proofs.lemmas.Bool.{eqb-false}
use Rattle.std.proofs.Math.Option.{some}
use Rattle.lines.specs.Line.{choose}
use Rattle.tables.specs.Table.{Sofar}
use Rattle.terms.specs.Term.{Term, definitions_of}
use Rattle.rules.specs.declared.Event.{Event}
use Rattle.rules.specs.Process.{Address, cells}
use Rattle.rules.specs.Run.{State, cell_room, node_room, arc_room, meeting_room, over_room, accepted, answer}
use Rattle.rules.specs.Run as Run
use Rattle.plans.specs.words.Layout.{layout}
use Rattle.runs.specs.words.Held.{Table, addressed, told, behind, Words}
use Rattle.rules.specs.Addressed.{answered}
use Rattle.runs.proofs.Tabled.{checked_table}
use Rattle.runs.specs.Answer.{Answer, Accepted, Refused}
use Rattle.runs.specs.declared.Shown.{Shown}
use Rattle.exchange.specs.Opposite.{Opposite}
use Rattle.exchange.specs.Orders.{BothOrders}
use Rattle.exchange.proofs.Exchange.{exchange}
use Rattle.columns.specs.words.Columns.{all_columns}
use Rattle.tables.specs.words.Columns.{TableOf}
use Rattle.demands.specs.words.Words.{Planned, HoldsRun, Steps}
use Rattle.demands.proofs.SavedBytes.{save_leaves}
use Rattle.demands.specs.words.Behind.{SameBehind, BothRefused}

-- an accepted answer is document 01's acceptance
accepted_told : (o : Run.Answer) (e : Shown) → told o ≡ Accepted e → (f : Event) × (s : State) × (o ≡ accepted f s)
unfolding told
accepted_told (Run.accepted f s) e q = (f, s, refl)
accepted_told (Run.refused n) e q = let z : ◌≡◌ {A = ℕ} 0 1 = cc in absurd (omega arith)

-- the rooms' numbers
abbrev lowest : Bool → Bool → Bool → Bool → ℕ
lowest a b c d = choose a 8 (choose b 9 (choose c 10 (choose d 11 0)))

room_numbers : (s : State) → (over_room s ≡ 0 → ⊥) → (8 ≤ over_room s) × (over_room s ≤ 11)
unfolding over_room
room_numbers s =
    go (ltb cell_room (cells s.process)) (ltb node_room (length s.labels)) (ltb arc_room (length s.arcs))
    (ltb meeting_room (length s.meetings))
  where
    go : (a b c d : Bool) → (lowest a b c d ≡ 0 → ⊥) → (8 ≤ lowest a b c d) × (lowest a b c d ≤ 11)
    go true b c d h = (omega arith, omega arith)
    go false true c d h = (omega arith, omega arith)
    go false false true d h = (omega arith, omega arith)
    go false false false true h = (omega arith, omega arith)
    go false false false false h = absurd (h refl)

-- runs of one table, in the columns that its check left and by the plan that is laid out from them
module _ {text ks ps os xs rs p x : List ℕ} {t : Sofar} (table : TableOf text (all_columns ks ps os xs rs) t)
    (planned : Planned p x t) where
  abbrev ts : List Term
  ts = definitions_of t

  pub for_runs : Table (layout t) p x ts
  for_runs = rw (planned.plan_is, planned.sets_are) (checked_table text t table.checked)

  -- what a step by an address promises
  pub step_by : (v v' : Words) (s : State) (r : Answer) (ds : List ℕ) (count : ℕ) (a : Address) (o : Run.Answer)
      → HoldsRun p x t v s → Steps p x ds count v r v' → addressed ds count ≡ some a → answer ts s a ≡ o
      → (r ≡ told o) × HoldsRun p x t v' (behind s o)
  unfolding answered
  step_by v v' s r ds count a o held step named is =
      rw (← is, ap (answered ts s) (sym named)) (step _ ts s for_runs held)

  -- "a refused step leaves the run as the accepted steps made it"
  pub refused_stays : (v v' : Words) (s : State) (r : Answer) (ds : List ℕ) (count n : ℕ)
      → HoldsRun p x t v s → Steps p x ds count v r v' → r ≡ Refused n → HoldsRun p x t v' s
  unfolding told behind
  refused_stays v v' s r ds count n held step is =
      let (tells, holds) = step _ ts s for_runs held in
      go (answered ts s (addressed ds count)) (sym is ∙ tells) holds
    where
      go : (o : Run.Answer) → Refused n ≡ told o → HoldsRun p x t v' (behind s o) → HoldsRun p x t v' s
      go (Run.accepted e u) q h = let z : ◌≡◌ {A = ℕ} 0 1 = cc in absurd (omega arith)
      go (Run.refused m) q h = h

  -- "Take two addresses, both accepted in one state, that agree down to a parallel and there go to opposite sides,
  -- with no external choice and no joint step above it. If neither order meets a room limit, both orders are
  -- accepted, end in the same process apart from reference numbers, and save the same bytes."
  module _ (v v₁ v₂ v₁₂ v₂₁ : Words) (s : State) (held : HoldsRun p x t v s) (ds es : List ℕ) (count count' : ℕ)
      (a b : Address) (named : addressed ds count ≡ some a) (named' : addressed es count' ≡ some b)
      (opposite : Opposite a b s.process) (r₁ r₂ r₁₂ r₂₁ : Answer) (first : Steps p x ds count v r₁ v₁)
      (second : Steps p x es count' v r₂ v₂) (then_second : Steps p x es count' v₁ r₁₂ v₁₂)
      (then_first : Steps p x ds count v₂ r₂₁ v₂₁) where
    pub either_order : (e f : Shown) → r₁ ≡ Accepted e → r₂ ≡ Accepted f
        → BothRefused r₁₂ r₂₁
        ⊎ ((r₁₂ ≡ r₂) × (r₂₁ ≡ r₁) × SameBehind ks os xs rs p x t v₁₂ v₂₁)
    unfolding told behind
    either_order e f is is' =
        let (tells, holds) = step_by v v₁ s r₁ ds count a _ held first named refl in
        let (tells', holds') = step_by v v₂ s r₂ es count' b _ held second named' refl in
        let (ev, s₁, on) = accepted_told (answer ts s a) e (sym tells ∙ is) in
        let (ev', s₂, on') = accepted_told (answer ts s b) f (sym tells' ∙ is') in
        go ev ev' s₁ s₂ (rw on at tells) (rw on' at tells') (rw on at holds) (rw on' at holds')
        (exchange ts held.reached a b opposite ev ev' s₁ s₂ on on')
      where
        go : (ev ev' : Event) (s₁ s₂ : State) → r₁ ≡ told (accepted ev s₁) → r₂ ≡ told (accepted ev' s₂)
            → HoldsRun p x t v₁ s₁ → HoldsRun p x t v₂ s₂ → BothOrders ts a b s s₁ s₂ ev ev'
            → BothRefused r₁₂ r₂₁ ⊎ ((r₁₂ ≡ r₂) × (r₂₁ ≡ r₁) × SameBehind ks os xs rs p x t v₁₂ v₂₁)
        go ev ev' s₁ s₂ tells tells' holds holds' k = by_room (eqb (over_room k.first_then) 0) refl
          where
            by_room : (c : Bool) → eqb (over_room k.first_then) 0 ≡ c
                → BothRefused r₁₂ r₂₁ ⊎ ((r₁₂ ≡ r₂) × (r₂₁ ≡ r₁) × SameBehind ks os xs rs p x t v₁₂ v₂₁)
            by_room true z =
                let fits = eqb-true (over_room k.first_then) 0 z in
                let (on, on') = k.both_accepted fits in
                let (ends, there) = step_by v₁ v₁₂ s₁ r₁₂ es count' b _ holds then_second named' on in
                let (ends', there') = step_by v₂ v₂₁ s₂ r₂₁ ds count a _ holds' then_first named on' in
                let same = k.same_bytes fits in
                inr (
                  ends ∙ sym tells',
                  ends' ∙ sym tells,
                  record {
                    first_then = k.first_then;
                    second_then = k.second_then;
                    held = there;
                    held' = there';
                    φ = k.φ;
                    ψ = k.ψ;
                    back = k.back;
                    forth = k.forth;
                    process = k.process;
                    reference = k.reference;
                    same_length = ap length same;
                    same_bytes = λ slice after slice' after' r r' save save' long long'.
                        save_leaves table v₁₂ k.first_then there slice after r save long
                        ∙ same
                        ∙ sym (save_leaves table v₂₁ k.second_then there' slice' after' r' save'
                        (rw same at long'));
                  },
                )
            by_room false z =
                let over = eqb-false (over_room k.first_then) 0 z in
                let (on, on') = k.both_refused over in
                let (ends, there) = step_by v₁ v₁₂ s₁ r₁₂ es count' b _ holds then_second named' on in
                let (ends', there') = step_by v₂ v₂₁ s₂ r₂₁ ds count a _ holds' then_first named on' in
                let (low, high) = room_numbers k.first_then over in
                inl (over_room k.first_then, low, high, ends, ends')
