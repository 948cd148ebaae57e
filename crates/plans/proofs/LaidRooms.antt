-- What a plan that is laid out and its layout have room for. Following terms downward takes at most a digit a
-- turn, so no path is longer than its room. A turn puts around a subterm 0, what stood around its term, or one
-- more than its own number, so no such word is over the terms' room; and the first definition's root is term 0.
-- Assumes nothing.
use Rattle.std.proofs.Common.{ℕ, zero, suc, ◌+◌, ◌*◌, ◌≤◌, ◌<◌, ◌≡◌, refl, Bool, true, false, ◌||◌, List}
use Rattle.std.proofs.Common.{[], ◌∷◌, arith, length, get_or, set, replicate, length-append, ltb, eqb}
use Rattle.std.proofs.Math.Option.{Option, none, some}
use Rattle.std.proofs.Math.ListN.{get_elem?}
use Rattle.lines.specs.Line.{choose}
use Rattle.lines.proofs.Choosing.{choose_most}
use Rattle.lines.specs.Judging.{accepted}
use Rattle.kinds.specs.Kind as Kind
use Rattle.kinds.specs.Kind.{subterms}
use Rattle.frames.specs.TableFrame.{term_room, path_room, definition_room}
use Rattle.tables.specs.Table.{Sofar, judged}
use Rattle.tables.specs.words.Columns.{kinds, owners, afters, roots}
use Rattle.terms.specs.Term.{Term, starts, definitions_of}
use Rattle.terms.proofs.Trees.{checked_trees}
use Rattle.places.specs.Place.{left_path}
use Rattle.columns.specs.words.Columns.{Columns, columns, look}
use Rattle.places.specs.code.Descent.{below, descended, digits, path_of, with_event, event_of, literal_path}
use Rattle.places.specs.declared.Literal.{Literal}
use Rattle.places.specs.declared.Literal.TheVariants.{Left, Own, Event}
use Rattle.plans.specs.words.Plan.{word, around}
use Rattle.plans.specs.code.Laid.{put, own_words, through, inward, told, laid, turns, laid_out}
use Rattle.plans.specs.words.Layout.{found, place_of, layout}
use Rattle.plans.proofs.LaidTurn.{at, put_other}
use Rattle.plans.proofs.LaidTable.{root_is}

-- a digit more in front of a path
below_short : (x f : ℕ) (o : Option (List ℕ)) → length (digits o) ≤ f → length (digits (below x o)) ≤ suc f
unfolding below digits
below_short x f none h = omega arith
below_short x f (some w) h = omega arith

descended_short : (f : ℕ) (ks xs : List ℕ) (i j : ℕ) → length (digits (descended f ks xs i j)) ≤ f
unfolding descended digits
descended_short zero ks xs i j = go (eqb i j)
  where
    go : (b : Bool) → length (digits (choose b (some []) none)) ≤ 0
    go true = omega arith
    go false = omega arith
descended_short (suc f) ks xs i j =
    go (eqb i j) (eqb (subterms (look term_room ks i)) 0) _ (below_short _ f _ (descended_short f ks xs _ j))
  where
    go : (b c : Bool) (o : Option (List ℕ)) → length (digits o) ≤ suc f
        → length (digits (choose b (some []) (choose c none o))) ≤ suc f
    go true c o h = omega arith
    go false true o h = omega arith
    go false false o h = h

found_short : (d f : ℕ) (o : Option (List ℕ)) → length (digits o) ≤ f → length (found d o).path ≤ f
unfolding found digits
found_short d f none h = h
found_short d f (some w) h = h

-- an event's digit more behind a path
event_short : (f : ℕ) (b : Bool) (o : Option (List ℕ)) → length (digits o) ≤ f
    → length (digits (choose b (with_event o) none)) ≤ suc f
unfolding with_event digits
event_short f true none h = omega arith
event_short f true (some w) h = omega (arith, length-append w (1 ∷ []))
event_short f false o h = omega arith

-- no literal's path is longer than there is room for
pub place_short : (c : Columns) (a : Literal) → length (place_of c a).path ≤ path_room
unfolding place_of literal_path path_of event_of digits
place_short c (Left d) = found_short _ path_room (some left_path) (omega arith)
place_short c (Own n) = found_short _ path_room _ (descended_short path_room _ _ _ n)
place_short c (Event n) =
    let is_prefix = eqb (look term_room c.kinds n) Kind.prefix in
    found_short _ path_room _ (event_short 63 is_prefix (path_of 63 c n) (descended_short 63 _ _ _ n))

pub layout_low : (s : Sofar) (i : ℕ) → length ((layout s).place i).path ≤ path_room
unfolding layout
layout_low s i = place_short (columns (kinds s) (owners s) (afters s) (roots s)) (Own i)

-- every fourth word is 0 or one more than the number of a term
abbrev Numbered : List ℕ → Type 0
Numbered w = (t : ℕ) → at w (4 * t + 3) ≤ term_room

set_most : (m : ℕ) (w : List ℕ) (p v q : ℕ) → v ≤ m → get_or w q 0 ≤ m → get_or (set w p v) q 0 ≤ m
set_most m [] p v q low old = old
set_most m (x ∷ w) zero v zero low old = low
set_most m (x ∷ w) zero v (suc q) low old = old
set_most m (x ∷ w) (suc p) v zero low old = old
set_most m (x ∷ w) (suc p) v (suc q) low old = set_most m w p v q low old

zeros_at : (n p : ℕ) → at (replicate n 0) p ≡ 0
zeros_at zero p = refl
zeros_at (suc n) zero = refl
zeros_at (suc n) (suc p) = zeros_at n p

around_most : (w : List ℕ) → Numbered w → (t : ℕ) → around w t ≤ term_room
unfolding word
around_most w h t = go (ltb t term_room)
  where
    go : (b : Bool) → choose b (at w (4 * t + 3)) 0 ≤ term_room
    go true = h t
    go false = omega arith

-- a word put around a term
put_numbered : (j v : ℕ) (w : List ℕ) → v ≤ term_room → Numbered w → Numbered (put 3 j v w)
unfolding put
put_numbered j v w low h t = go (ltb j term_room)
  where
    go : (b : Bool) → at (choose b (set w (4 * j + 3) v) w) (4 * t + 3) ≤ term_room
    go true = set_most term_room w (4 * j + 3) v (4 * t + 3) low (h t)
    go false = h t

told_numbered : (n j a s b : ℕ) (w : List ℕ) → a ≤ term_room → b ≤ term_room → Numbered w
    → Numbered (told n j a s b w)
unfolding told
told_numbered zero j a s b w first second h = h
told_numbered (suc zero) j a s b w first second h = put_numbered j a w first h
told_numbered (suc (suc n)) j a s b w first second h =
    put_numbered s b (put 3 j a w) second (put_numbered j a w first h)

-- a term's own words are none of these
own_numbered : (k v s i : ℕ) (w : List ℕ) → Numbered w → Numbered (own_words k v s i w)
unfolding own_words
own_numbered k v s i w h t =
    rw (
      put_other 2 i s (put 1 i v (put 0 i k w)) (4 * t + 3) (λ e. omega arith),
      put_other 1 i v (put 0 i k w) (4 * t + 3) (λ e. omega arith),
      put_other 0 i k w (4 * t + 3) (λ e. omega arith),
    ) (h t)

through_most : (k o : ℕ) → o ≤ term_room → through k o ≤ term_room
unfolding through
through_most k o low = choose_most term_room (eqb k Kind.external || eqb k Kind.parallel) 0 o (omega arith) low

inward_most : (k i o : ℕ) → suc i ≤ term_room → o ≤ term_room → inward k i o ≤ term_room
unfolding inward
inward_most k i o room low =
    choose_most term_room (eqb k Kind.sequence) (suc i) (through k o) room (through_most k o low)

laid_numbered : (k v s i : ℕ) (w : List ℕ) → suc i ≤ term_room → Numbered w → Numbered (laid k v s i w)
unfolding laid
laid_numbered k v s i w room h =
    let low = around_most w h i in
    told_numbered (subterms k) (suc i) _ s _ _ (inward_most k i _ room low) (through_most k _ low)
    (own_numbered k v s i w h)

module _ (ks ps xs rs : List ℕ) where
  turns_numbered : (n : ℕ) → n ≤ term_room → Numbered (turns n ks ps xs rs)
  unfolding turns
  turns_numbered zero room t = rw (zeros_at 4096 (4 * t + 3)) (omega arith)
  turns_numbered (suc i) room t = laid_numbered _ _ _ i _ room (turns_numbered i (omega arith)) t

  -- the sequences around terms are terms
  pub laid_out_numbered : (n t : ℕ) → around (laid_out n ks ps xs rs) t ≤ term_room
  unfolding laid_out
  laid_out_numbered n = around_most _ (turns_numbered _ (omega arith))

-- the first of some definitions begins at 0
first_start : (ts : List Term) (r : ℕ) → 0 < length ts
    → ((t : Term) → get_elem? ts 0 ≡ some t → r ≡ get_or (starts 0 ts) 0 0) → r ≡ 0
unfolding starts
first_start [] r many begins = absurd (omega arith)
first_start (t ∷ ts) r many begins = begins t refl

-- definition 00 of a checked table begins its plan
pub layout_first : (text : List ℕ) (s : Sofar) → judged text ≡ accepted s → (layout s).root 0 ≡ 0
unfolding layout
layout_first text s q =
    let table = checked_trees text s q in
    first_start (definitions_of s) (look definition_room (roots s) 0)
    (omega (arith, table.many, table.some_definitions)) (λ t e. root_is text s q 0 t e)
