-- Document 01, 'Places', and Definition 1 of the report: a place is a definition and a path. The left-hand
-- side has path 0. The right-hand side's root has the empty path. Subterms of a term at w are at w.1 and w.2;
-- a prefix's event is at w.1, its arrow at w, its continuation at w.2.
use Rattle.std.specs.Prelude.{ℕ, zero, suc, ◌+◌, ◌-◌, Bool, true, false, ◌&&◌, List, [], ◌∷◌, ◌++◌, ltb, eqb}
use Rattle.std.proofs.Math.Option.{Option, none, some}
use Rattle.lines.specs.Line.{choose}
use Rattle.terms.specs.Term.{Term, leaf, prefix, binary, size}

pub record Place : Type 0 where
  pub definition : ℕ
  pub path : List ℕ

-- the path of number n of a term and its subterms in preorder, from the term's own number 0
unfoldable pub path_in : Term → ℕ → List ℕ
path_in (leaf l) n = []
path_in (prefix e t) zero = []
path_in (prefix e t) (suc n) = 2 ∷ path_in t n
path_in (binary o t u) zero = []
path_in (binary o t u) (suc n) = choose (ltb n (size t)) (1 ∷ path_in t n) (2 ∷ path_in u (n - size t))

-- number n itself
unfoldable pub term_at : Term → ℕ → Term
term_at (leaf l) n = leaf l
term_at (prefix e t) zero = prefix e t
term_at (prefix e t) (suc n) = term_at t n
term_at (binary o t u) zero = binary o t u
term_at (binary o t u) (suc n) = choose (ltb n (size t)) (term_at t n) (term_at u (n - size t))

abbrev pub IsPrefix : Term → Type 0
IsPrefix (leaf l) = ⊥
IsPrefix (prefix e t) = Unit {0}
IsPrefix (binary o t u) = ⊥

-- number n is a prefix, which a number past the last is not
abbrev pub PrefixAt : Term → ℕ → Type 0
PrefixAt t n = IsPrefix (term_at t n)

-- the path of an event, below its prefix
abbrev pub event_path : List ℕ → List ℕ
event_path w = w ++ (1 ∷ [])

-- the path of a definition's left-hand side
abbrev pub left_path : List ℕ
left_path = 0 ∷ []

-- a literal of a right-hand side, by the number of its term: the term's own literal (a prefix's
-- arrow), or a prefix's event
pub data Literal : Type 0 where
  own : ℕ → Literal
  event : ℕ → Literal

-- a literal that is numbered from another start
unfoldable pub shifted : ℕ → Option Literal → Option Literal
shifted k none = none
shifted k (some (own n)) = some (own (k + n))
shifted k (some (event n)) = some (event (k + n))

-- the event below an arrow: the path ends there
unfoldable pub event_end : List ℕ → Option Literal
event_end [] = some (event 0)
event_end (x ∷ w) = none

-- which literal of a term stands at a path
unfoldable pub literal_at : Term → List ℕ → Option Literal
literal_at (leaf l) [] = some (own 0)
literal_at (leaf l) (x ∷ w) = none
literal_at (prefix e t) [] = some (own 0)
literal_at (prefix e t) (x ∷ w) =
    choose (eqb x 1) (event_end w) (choose (eqb x 2) (shifted 1 (literal_at t w)) none)
literal_at (binary o t u) [] = some (own 0)
literal_at (binary o t u) (x ∷ w) =
    choose (eqb x 1) (shifted 1 (literal_at t w))
    (choose (eqb x 2) (shifted (1 + size t) (literal_at u w)) none)

-- a path begins with another
unfoldable pub begins : List ℕ → List ℕ → Bool
begins [] p = true
begins (x ∷ q) [] = false
begins (x ∷ q) (y ∷ p) = eqb x y && begins q p

-- place v is at or under w.x: of the same definition, with a path that begins so
unfoldable pub under : Place → ℕ → Place → Bool
under w x v = eqb v.definition w.definition && begins (w.path ++ (x ∷ [])) v.path
