-- Document 01, 'Further runs', B and C, as instances of the exchange. The states before the exchanged steps are
-- reached by computation; that both orders save one text is the exchange's, and no text is worked out. Assumes
-- nothing.
use Rattle.std.proofs.Common.{ℕ, ◌≡◌, refl, sym, ◌∙◌, Bool, true, false, List, [], ◌∷◌, arith, eqb, eqb-true}
use Rattle.std.proofs.lemmas.Bool.{eqb-false}
use Rattle.std.proofs.Math.Option.{Option, none, some}
use Rattle.sets.specs.EventSet.{member}
use Rattle.terms.specs.Term.{SKIP, STOP, parallel, Term, leaf, prefix, binary}
use Rattle.rules.specs.declared.Event.{Event}
use Rattle.rules.specs.Process.{one, two, three, Address, joined, untouched, right_side, cells}
use Rattle.rules.specs.Track.{labelled, prefixed, first_eval, around, each_with, meet, jointly, carried}
use Rattle.rules.specs.Track.{started, leads, parents, ended}
use Rattle.rules.specs.Step.{one_side, by_side, same, both_sides, with_right, in_sequence, by_left, at_Ω}
use Rattle.rules.specs.Step.{then, step}
use Rattle.rules.specs.Run.{State, start, after, over_room, Answer, accepted, refused, within_room, whole}
use Rattle.rules.specs.Run.{answered, answer, Reached, begun, goes_on}
use Rattle.graphs.specs.Graph.{graph_of}
use Rattle.graphs.specs.Saved.{saved}
use Rattle.exchange.specs.Opposite.{Opposite, left_and_right}
use Rattle.exchange.specs.Orders.{BothOrders}
use Rattle.exchange.proofs.Exchange.{exchange}

-- the state behind some addresses, none where one of them is refused
unfoldable pub played : List Term → State → List Address → Option State
played ts s [] = some s
played ts s (a ∷ more) = go (answer ts s a) (λ t. played ts t more)
  where
    go : Answer → (State → Option State) → Option State
    go (refused n) on = none
    go (accepted e t) on = on t

-- two scripts of one table are accepted to their ends, and the same text is saved behind both
abbrev pub SaveOneText : List Term → List Address → List Address → Type 0
SaveOneText ts as' bs = (s : State) × (t : State) × (played ts start as' ≡ some s) × (played ts start bs ≡ some t)
    × (saved (graph_of s) ≡ saved (graph_of t))

-- what is accepted was not refused
not_refused : (e : Event) (s : State) (n : ℕ) → accepted e s ≡ refused n → ⊥
not_refused e s n q = let z : ◌≡◌ {A = ℕ} 0 1 = cc in omega arith

-- two steps that may be exchanged, and are accepted in both orders, save one text
one_text : (ts : List Term) {s : State} → Reached ts s → (a b : Address) → Opposite a b s.process
    → {e f e' f' : Event} {s₁ s₂ s₁₂ s₂₁ : State} → answer ts s a ≡ accepted e s₁ → answer ts s b ≡ accepted f s₂
    → answer ts s₁ b ≡ accepted f' s₁₂ → answer ts s₂ a ≡ accepted e' s₂₁
    → saved (graph_of s₁₂) ≡ saved (graph_of s₂₁)
one_text ts {s = s} p a b o {e = e} {f = f} {e' = e'} {f' = f'} {s₁ = s₁} {s₂ = s₂} {s₁₂ = s₁₂} {s₂₁ = s₂₁} h h' on on' =
    go (eqb (over_room k.first_then) 0) refl
  where
    k : BothOrders ts a b s s₁ s₂ e f
    k = exchange ts p a b o e f s₁ s₂ h h'

    go : (c : Bool) → eqb (over_room k.first_then) 0 ≡ c → saved (graph_of s₁₂) ≡ saved (graph_of s₂₁)
    go true z =
        let fits = eqb-true (over_room k.first_then) 0 z in
        let (is, is') = k.both_accepted fits in
        let first : s₁₂ ≡ k.first_then = let q = sym on ∙ is in cc in
        let second : s₂₁ ≡ k.second_then = let q = sym on' ∙ is' in cc in
        rw (first, second) (k.same_bytes fits)
    go false z =
        let (is, is') = k.both_refused (eqb-false (over_room k.first_then) 0 z) in
        absurd (not_refused f' s₁₂ _ (sym on ∙ is))

-- event k and then STOP
abbrev stopping : ℕ → Term
stopping k = prefix k (leaf STOP)

-- A's table
abbrev meeting_sides : List Term
meeting_sides = binary (parallel 1) (prefix 0 (leaf SKIP)) (stopping 0) ∷ []

-- C's table
abbrev free_sides : List Term
free_sides = binary (parallel 0) (stopping 0) (stopping 1) ∷ []

-- "B. A's last two lines exchanged: the same track text."
-- "C. (e0→STOP) ∥ (e1→STOP), empty set, 1 then 2 or 2 then 1"
pub orders_exchanged : SaveOneText meeting_sides ([] ∷ (three ∷ []) ∷ (one ∷ []) ∷ (two ∷ []) ∷ [])
    ([] ∷ (three ∷ []) ∷ (two ∷ []) ∷ (one ∷ []) ∷ [])
    × SaveOneText free_sides ([] ∷ (one ∷ []) ∷ (two ∷ []) ∷ []) ([] ∷ (two ∷ []) ∷ (one ∷ []) ∷ [])
unfolding
    played joined untouched right_side cells labelled prefixed first_eval around each_with meet jointly
    carried started leads parents ended member one_side by_side same both_sides with_right in_sequence
    by_left at_Ω then step after over_room within_room whole answered answer
orders_exchanged = (
  (
    _,
    _,
    refl,
    refl,
    one_text meeting_sides (goes_on (three ∷ []) _ (goes_on [] _ begun refl) refl) (one ∷ []) (two ∷ [])
        left_and_right refl refl refl refl,
  ),
  (
    _,
    _,
    refl,
    refl,
    one_text free_sides (goes_on [] _ begun refl) (one ∷ []) (two ∷ []) left_and_right refl refl refl refl,
  ),
)
