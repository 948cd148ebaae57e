-- How the words of a run hold a control. A part of control that has a reference of its own is told there: a term
-- that no step has touched, an entered choice or parallel with its sides, Ω or ⊥. The sequences around it are
-- told by its term, as far as the plan has them, and from there on by its frame: an earlier reference, of a call or
-- a choice inside a sequence, whose own term and frame tell the rest.
use Rattle.std.specs.Prelude.{ℕ, suc, ◌<◌, ◌≡◌, true, false, List, [], ◌∷◌, get_or, eqb}
use Rattle.std.proofs.Math.Option.{none, some}
use Rattle.lines.specs.Line.{choose}
use Rattle.kinds.specs.Kind as Kind
use Rattle.terms.specs.Term.{Term}
use Rattle.places.specs.Place.{Place}
use Rattle.rules.specs.Process.{Split, choice, together, Process, leaf, prefix, internal, split, sequence, Ω}
use Rattle.rules.specs.Process.{⊥', untouched, cells}
use Rattle.plans.specs.words.Plan.{Layout, kind, second, around, Planned}
use Rattle.control.specs.words.Words.{node}

-- the words of a reference
abbrev pub label : List ℕ → ℕ → ℕ
label = node 0

abbrev pub state : List ℕ → ℕ → ℕ
state = node 1

abbrev pub term : List ℕ → ℕ → ℕ
term = node 2

abbrev pub frame : List ℕ → ℕ → ℕ
frame = node 3

abbrev pub first : List ℕ → ℕ → ℕ
first = node 4

abbrev pub second_side : List ℕ → ℕ → ℕ
second_side = node 5

abbrev pub first_cells : List ℕ → ℕ → ℕ
first_cells = node 6

abbrev pub second_cells : List ℕ → ℕ → ℕ
second_cells = node 7

-- the states
abbrev pub resting : ℕ
resting = 0

abbrev pub entered : ℕ
entered = 1

abbrev pub at_end : ℕ
at_end = 2

abbrev pub dead : ℕ
dead = 3

-- of what stands at term t with frame f: one more than the innermost sequence around it, and the frame behind it
unfoldable pub innermost : List ℕ → List ℕ → ℕ → ℕ → ℕ
innermost p w t f = choose (eqb (around p t) 0) (around p (term w f)) (around p t)

unfoldable pub behind : List ℕ → List ℕ → ℕ → ℕ → ℕ
behind p w t f = choose (eqb (around p t) 0) (frame w f) f

-- the sequences around it up to frame b, innermost first
abbrev pub Around : List ℕ → List ℕ → ℕ → ℕ → ℕ → List ℕ → Type 0
Around p w t f b [] = (around p t ≡ 0) × (f ≡ b)
Around p w t f b (k ∷ ks) =
    (around p t ≡ 0 → (b < f) × (label w f ≡ 0 → ⊥)) × (innermost p w t f ≡ suc k)
    × Around p w k (behind p w t f) b ks

-- the frame of what is called, or chosen, inside term t at reference n: n where a sequence is around t, and else
-- the frame that t has
unfoldable pub beyond : List ℕ → ℕ → ℕ → ℕ → ℕ
beyond p t n f = choose (eqb (around p t) 0) f n

-- the frame that ends the sequences of a split's sides: its own reference for a parallel
unfoldable pub inside : List ℕ → Split → ℕ → ℕ → ℕ → ℕ
inside p choice t n f = beyond p t n f
inside p (together x) t n f = n

unfoldable pub split_kind : Split → ℕ
split_kind choice = Kind.external
split_kind (together x) = Kind.parallel

unfoldable pub split_set : Split → ℕ
split_set choice = 0
split_set (together x) = x

module _ (l : Layout) (p x w : List ℕ) where
  -- an untouched term's process, at number i, inside the sequence that o tells of
  pub record Untouched (i o : ℕ) (P : Process) : Type 0 where
    pub tree : Term
    pub is : P ≡ untouched (l.place i) tree
    pub planned : Planned l p x i o tree

  -- what stands at reference n, with sequences ks around it up to frame b
  pub record Stands (n b : ℕ) (ks : List ℕ) : Type 0 where
    pub within : b < n
    pub framed : frame w n < n
    pub chain : Around p w (term w n) (frame w n) b ks

  pub record Rests (n b : ℕ) (ks : List ℕ) (P : Process) : Type 0 where
    pub stands : Stands n b ks
    pub rests : state w n ≡ resting
    pub bare : label w n ≡ 0
    pub untouched_there : Untouched (term w n) (around p (term w n)) P

  -- an entered choice or parallel, of which both sides' cells are kept
  pub record Splits (n b : ℕ) (ks : List ℕ) (v : Place) (k : Split) (P Q : Process) : Type 0 where
    pub stands : Stands n b ks
    pub enters : state w n ≡ entered
    pub marked : label w n ≡ 0 → ⊥
    pub place_is : l.place (term w n) ≡ v
    pub kind_is : kind p (term w n) ≡ split_kind k
    pub set_is : get_or x (term w n) 0 ≡ split_set k
    pub left_cells : first_cells w n ≡ cells P
    pub right_cells : second_cells w n ≡ cells Q

  -- the sequence of number k, with its right side
  pub record Follows (k : ℕ) (v : Place) (Q : Process) : Type 0 where
    pub place_is : l.place k ≡ v
    pub right : Untouched (second p k) (around p k) Q

  -- reference n holds a process that has sequences ks around it up to frame b
  abbrev pub HoldsControl : ℕ → ℕ → Process → List ℕ → Type 0
  HoldsControl n b (leaf v f) ks = Rests n b ks (leaf v f)
  HoldsControl n b (prefix v e P) ks = Rests n b ks (prefix v e P)
  HoldsControl n b (internal v P Q) ks = Rests n b ks (internal v P Q)
  HoldsControl n b (split v k none none P Q) ks = Rests n b ks (split v k none none P Q)
  HoldsControl n b (split v k (some i) none P Q) ks =
      Splits n b ks v k P Q × (first w n ≡ i) × (second_side w n ≡ 0)
      × HoldsControl i (inside p k (term w n) n (frame w n)) P [] × Untouched (second p (term w n)) 0 Q
  HoldsControl n b (split v k none (some j) P Q) ks =
      Splits n b ks v k P Q × (first w n ≡ 0) × (second_side w n ≡ j)
      × Untouched (suc (term w n)) 0 P × HoldsControl j (inside p k (term w n) n (frame w n)) Q []
  HoldsControl n b (split v k (some i) (some j) P Q) ks =
      Splits n b ks v k P Q × (first w n ≡ i) × (second_side w n ≡ j)
      × HoldsControl i (inside p k (term w n) n (frame w n)) P [] × HoldsControl j (inside p k (term w n) n (frame w n)) Q []
  HoldsControl n b (sequence v false P Q) ks = Rests n b ks (sequence v false P Q)
  HoldsControl n b (sequence v true P Q) ks = (k : ℕ) × Follows k v Q × HoldsControl n b P (k ∷ ks)
  HoldsControl n b Ω ks = (b < n) × (state w n ≡ at_end) × (ks ≡ [])
  HoldsControl n b ⊥' ks = Stands n b ks × (state w n ≡ dead)
