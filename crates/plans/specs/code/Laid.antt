-- The plan of a table, laid out from its columns a term at a time. A term's turn puts its own three words and
-- the word `around` of each of its subterms; a definition's root keeps the 0 that the plan began with.
use Rattle.std.specs.Prelude.{ℕ, zero, suc, ◌+◌, ◌*◌, ◌%◌, min, ◌||◌, List, get_or, set, replicate, ltb, eqb}
use Rattle.lines.specs.Line.{choose}
use Rattle.frames.specs.TableFrame.{term_room, definition_room}
use Rattle.kinds.specs.Kind as Kind
use Rattle.kinds.specs.Kind.{subterms}
use Rattle.columns.specs.words.Columns.{look}
use Rattle.plans.specs.words.Plan.{around}

-- word k of term t put; nothing where there is no such term
unfoldable pub put : ℕ → ℕ → ℕ → List ℕ → List ℕ
put k t v w = choose (ltb t term_room) (set w (4 * t + k) v) w

-- the operand of a term of kind k with payload p: a prefix's event, or the root that a call leads to
unfoldable pub operand_of : ℕ → ℕ → List ℕ → ℕ
operand_of k p rs =
    choose (eqb k Kind.prefix) (p % 65536) (choose (eqb k Kind.call) (look definition_room rs p) 0)

-- the second subterm of a term of kind k at number i: the term behind the first
unfoldable pub second_of : ℕ → ℕ → List ℕ → ℕ
second_of k i xs = choose (eqb (subterms k) 2) (look term_room xs (suc i)) 0

-- a term's own words, at number i: kind k, operand v and second subterm s
unfoldable pub own_words : ℕ → ℕ → ℕ → ℕ → List ℕ → List ℕ
own_words k v s i w = put 2 i s (put 1 i v (put 0 i k w))

-- what a term lets through to its subterms of the sequence around it: an external choice and a parallel
-- nothing, any other term all
unfoldable pub through : ℕ → ℕ → ℕ
through k o = choose (eqb k Kind.external || eqb k Kind.parallel) 0 o

-- the same for its first subterm, which stands in the left of the term itself where that is a sequence
unfoldable pub inward : ℕ → ℕ → ℕ → ℕ
inward k i o = choose (eqb k Kind.sequence) (suc i) (through k o)

-- the word `around` of n subterms: a of the first, at number j, and b of the second, at number s
unfoldable pub told : ℕ → ℕ → ℕ → ℕ → ℕ → List ℕ → List ℕ
told zero j a s b w = w
told (suc zero) j a s b w = put 3 j a w
told (suc (suc n)) j a s b w = put 3 s b (put 3 j a w)

-- a term's turn, by its kind, its operand, its second subterm and its number
unfoldable pub laid : ℕ → ℕ → ℕ → ℕ → List ℕ → List ℕ
laid k v s i w =
    told (subterms k) (suc i) (inward k i (around w i)) s (through k (around w i)) (own_words k v s i w)

-- the first n terms' turns, over a plan of zeros
unfoldable pub turns : ℕ → List ℕ → List ℕ → List ℕ → List ℕ → List ℕ
turns zero ks ps xs rs = replicate 4096 0
turns (suc i) ks ps xs rs =
    laid (get_or ks i 0) (operand_of (get_or ks i 0) (get_or ps i 0) rs) (second_of (get_or ks i 0) i xs) i
    (turns i ks ps xs rs)

-- the plan of a table of n terms, by the columns of kinds, payloads, terms behind and roots
unfoldable pub laid_out : ℕ → List ℕ → List ℕ → List ℕ → List ℕ → List ℕ
laid_out n = turns (min n term_room)
