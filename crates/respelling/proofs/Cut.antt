-- An input and the same input respelled are cut at the same line: the lines of the table's text and those of the script's are the
-- input's own, and a line respelled starts `1f` or `1F` exactly where it did. Assumes nothing.
use Rattle.std.proofs.Common.{ℕ, ◌≤◌, ◌+◌, ◌≡◌, refl, sym, ap, ap₂, ◌∙◌, Bool, true, false, ◌&&◌, ◌||◌, List}
use Rattle.std.proofs.Common.{[], ◌∷◌, ◌++◌, map, append-nil, append_assoc, arith, length, take, drop}
use Rattle.std.proofs.Common.{length-append, leb, eqb, leb-true, eqb-true, ne_eqb}
use Rattle.std.proofs.lemmas.Bool.{eqb-false}
use Rattle.std.proofs.Math.Option.{Option, none, some}
use Rattle.std.proofs.Math.Seq.{take-append_seam, take-append-add, drop-append_seam, drop-append-add}
use Rattle.lines.specs.Line.{choose, LF, Raw, full, open_ended, lines, characters}
use Rattle.lines.proofs.Digits.{both}
use Rattle.desk_lines.specs.DeskLine.{small, strict, desk_frame}
use Rattle.desk_lines.specs.Respelled.{respelled_by, respelled_line, joined, respelled}
use Rattle.desk_lines.proofs.Laws.{spelled}
use Rattle.desk_lines.proofs.Respelling.{Lines, no_lines, full_first, open_last, lines_of, joined_back, joined_lines}
use Rattle.desk_lines.proofs.Respelling.{lines_respelled, joined_shorter}
use Rattle.inputs.specs.Cut.{one, f, capital_f, starts_1f, extent, table_length, table_text, script_text}

-- ---- lines in two parts

-- lines through the first that starts `1f` or `1F`, and those behind it
unfoldable front : List Raw → List Raw
front [] = []
front (l ∷ ls) = choose (starts_1f (characters l)) (l ∷ []) (l ∷ front ls)

unfoldable back : List Raw → List Raw
back [] = []
back (l ∷ ls) = choose (starts_1f (characters l)) ls (back ls)

front_lines : (ls : List Raw) → Lines ls → Lines (front ls)
unfolding front
front_lines (open_ended [] ∷ ls) x5 = elim x5 [ ]
front_lines (open_ended (c ∷ cs) ∷ (_ ∷ _)) x9 = elim x9 [ ]
front_lines [] no_lines = no_lines
front_lines (full cs ∷ ls) (full_first t u) = go (starts_1f (characters (full cs))) (front_lines ls u)
  where
    go : (b : Bool) → Lines (front ls) → Lines (choose b (full cs ∷ []) (full cs ∷ front ls))
    go true u = full_first t no_lines
    go false u = full_first t u
front_lines (open_ended (c ∷ cs) ∷ []) (open_last t) = go (starts_1f (characters (open_ended (c ∷ cs))))
  where
    go : (b : Bool) → Lines (choose b (open_ended (c ∷ cs) ∷ []) (open_ended (c ∷ cs) ∷ []))
    go true = open_last t
    go false = open_last t

back_lines : (ls : List Raw) → Lines ls → Lines (back ls)
unfolding back
back_lines (open_ended [] ∷ ls) x5 = elim x5 [ ]
back_lines (open_ended (c ∷ cs) ∷ (_ ∷ _)) x9 = elim x9 [ ]
back_lines [] no_lines = no_lines
back_lines (full cs ∷ ls) (full_first t u) = go (starts_1f (characters (full cs))) (back_lines ls u)
  where
    go : (b : Bool) → Lines (back ls) → Lines (choose b ls (back ls))
    go true w = u
    go false w = w
back_lines (open_ended (c ∷ cs) ∷ []) (open_last t) = go (starts_1f (characters (open_ended (c ∷ cs))))
  where
    go : (b : Bool) → Lines (choose b [] [])
    go true = no_lines
    go false = no_lines

-- a line's own text, and how many bytes it is
text_of : Raw → List ℕ
text_of (full cs) = cs ++ LF ∷ []
text_of (open_ended cs) = cs

extent_is : (l : Raw) → length (text_of l) ≡ extent l
unfolding text_of extent
extent_is (full cs) = length-append cs (LF ∷ [])
extent_is (open_ended cs) = refl

joined_first : (l : Raw) (ls : List Raw) → joined (l ∷ ls) ≡ text_of l ++ joined ls
unfolding text_of joined
joined_first (full cs) ls = sym (append_assoc cs (LF ∷ []) (joined ls))
joined_first (open_ended cs) ls = refl

joined_one : (l : Raw) → joined (l ∷ []) ≡ text_of l
unfolding joined
joined_one l = joined_first l [] ∙ append-nil (text_of l)

-- so the cut of a joined text is the cut of its lines
module _ (l : Raw) (ls : List Raw) where
  take_first : take (extent l) (joined (l ∷ ls)) ≡ joined (l ∷ [])
  take_first = rw (← extent_is l, joined_first l ls, joined_one l) (take-append_seam (text_of l) (joined ls))

  drop_first : drop (extent l) (joined (l ∷ ls)) ≡ joined ls
  drop_first = rw (← extent_is l, joined_first l ls) (drop-append_seam (text_of l) (joined ls))

  take_further : (n : ℕ) → take (extent l + n) (joined (l ∷ ls)) ≡ text_of l ++ take n (joined ls)
  take_further n = rw (← extent_is l, joined_first l ls) (take-append-add (text_of l) (joined ls) n)

  drop_further : (n : ℕ) → drop (extent l + n) (joined (l ∷ ls)) ≡ drop n (joined ls)
  drop_further n = rw (← extent_is l, joined_first l ls) (drop-append-add (text_of l) (joined ls) n)

front_joined : (ls : List Raw) → take (table_length ls) (joined ls) ≡ joined (front ls)
unfolding front table_length joined
front_joined [] = refl
front_joined (l ∷ ls) = go (starts_1f (characters l)) (front_joined ls)
  where
    go : (b : Bool) → take (table_length ls) (joined ls) ≡ joined (front ls)
        → take (choose b (extent l) (extent l + table_length ls)) (joined (l ∷ ls))
        ≡ joined (choose b (l ∷ []) (l ∷ front ls))
    go true further = take_first l ls
    go false further =
        take_further l ls (table_length ls) ∙ ap (λ (t : List ℕ). text_of l ++ t) further ∙ sym (joined_first l (front ls))

back_joined : (ls : List Raw) → drop (table_length ls) (joined ls) ≡ joined (back ls)
unfolding back table_length joined
back_joined [] = refl
back_joined (l ∷ ls) = go (starts_1f (characters l)) (back_joined ls)
  where
    go : (b : Bool) → drop (table_length ls) (joined ls) ≡ joined (back ls)
        → drop (choose b (extent l) (extent l + table_length ls)) (joined (l ∷ ls)) ≡ joined (choose b ls (back ls))
    go true further = drop_first l ls
    go false further = drop_further l ls (table_length ls) ∙ further

-- the texts of an input's table and script, and their lines
module _ (t : List ℕ) where
  table_joined : table_text t ≡ joined (front (lines t))
  unfolding table_text
  table_joined =
      ap (take (table_length (lines t))) (sym (joined_back t)) ∙ front_joined (lines t)

  script_joined : script_text t ≡ joined (back (lines t))
  unfolding script_text
  script_joined =
      ap (drop (table_length (lines t))) (sym (joined_back t)) ∙ back_joined (lines t)

  table_lines : lines (table_text t) ≡ front (lines t)
  table_lines = ap lines table_joined ∙ joined_lines (front (lines t)) (front_lines (lines t) (lines_of t))

  script_lines : lines (script_text t) ≡ back (lines t)
  script_lines = ap lines script_joined ∙ joined_lines (back (lines t)) (back_lines (lines t) (lines_of t))

-- ---- how a line starts

-- one character in small letters is `1`, `f` or `F` where it was
small_one : (c : ℕ) → eqb (small c) one ≡ eqb c one
unfolding small
small_one c = go (leb 65 c && leb c 70) refl
  where
    go : (b : Bool) → leb 65 c && leb c 70 ≡ b → eqb (choose b (c + 32) c) one ≡ eqb c one
    go true e =
        let low = leb-true 65 c (both (leb 65 c) (leb c 70) e).0 in
        ne_eqb (c + 32) one (λ q. omega arith) ∙ sym (ne_eqb c one (λ q. omega arith))
    go false e = refl

ends_table : ℕ → Bool
ends_table c = eqb c f || eqb c capital_f

small_f : (c : ℕ) → ends_table (small c) ≡ ends_table c
unfolding small ends_table
small_f c = go (leb 65 c && leb c 70) (eqb c capital_f) refl refl
  where
    go : (b p : Bool) → leb 65 c && leb c 70 ≡ b → eqb c capital_f ≡ p
        → ends_table (choose b (c + 32) c) ≡ ends_table c
    go true true e q = rw (eqb-true c capital_f q)
    go true false e q =
        let low = leb-true 65 c (both (leb 65 c) (leb c 70) e).0 in
        let high = leb-true c 70 (both (leb 65 c) (leb c 70) e).1 in
        let other = eqb-false c capital_f q in
        let no_f = ne_eqb (c + 32) f (λ z. other (omega arith)) in
        let no_F = ne_eqb (c + 32) capital_f (λ z. omega arith) in
        let was_none = ne_eqb c f (λ z. omega arith) in
        simp (no_f, no_F, was_none, q)
    go false p e q = refl

starts_small : (own rs : List ℕ) → 2 ≤ length own → starts_1f (map small own) ≡ starts_1f (own ++ rs)
unfolding starts_1f ends_table
starts_small [] rs h = absurd (omega arith)
starts_small (c ∷ []) rs h = absurd (omega arith)
starts_small (c ∷ d ∷ own) rs h = ap₂ (λ (p q : Bool). choose p q false) (small_one c) (small_f d)

starts_same : (l : Raw) → starts_1f (characters (respelled_line l)) ≡ starts_1f (characters l)
unfolding respelled_line respelled_by strict characters
starts_same l = go (desk_frame l) refl l refl
  where
    go : (o : Option (List ℕ)) → desk_frame l ≡ o → (m : Raw) → l ≡ m
        → starts_1f (characters (respelled_by o m)) ≡ starts_1f (characters m)
    go none e m q = refl
    go (some bs) e (open_ended cs) q = refl
    go (some bs) e (full cs) q =
        let s = spelled cs bs (rw q at e) in
        ap (λ (k : Raw). starts_1f (characters k)) s.spelling
        ∙ starts_small s.own s.rs (omega (arith, s.counted, s.some_bytes)) ∙ ap starts_1f (sym s.whole)

-- ---- a text respelled

-- its parts are the parts of its lines, respelled
front_respelled : (ls : List Raw) → front (map respelled_line ls) ≡ map respelled_line (front ls)
unfolding front
front_respelled [] = refl
front_respelled (l ∷ ls) = rw (starts_same l, front_respelled ls) (go (starts_1f (characters l)))
  where
    rest : List Raw
    rest = map respelled_line (front ls)

    go : (b : Bool) → choose b (respelled_line l ∷ []) (respelled_line l ∷ rest)
        ≡ map respelled_line (choose b (l ∷ []) (l ∷ front ls))
    go true = refl
    go false = refl

back_respelled : (ls : List Raw) → back (map respelled_line ls) ≡ map respelled_line (back ls)
unfolding back
back_respelled [] = refl
back_respelled (l ∷ ls) = rw (starts_same l, back_respelled ls) (go (starts_1f (characters l)))
  where
    go : (b : Bool) → choose b (map respelled_line ls) (map respelled_line (back ls))
        ≡ map respelled_line (choose b ls (back ls))
    go true = refl
    go false = refl

module _ (t : List ℕ) where
  pub table_respelled : lines (table_text (respelled t)) ≡ map respelled_line (lines (table_text t))
  table_respelled =
      table_lines (respelled t) ∙ ap front (lines_respelled t) ∙ front_respelled (lines t)
      ∙ ap (map respelled_line) (sym (table_lines t))

  pub script_respelled : lines (script_text (respelled t)) ≡ map respelled_line (lines (script_text t))
  script_respelled =
      script_lines (respelled t) ∙ ap back (lines_respelled t) ∙ back_respelled (lines t)
      ∙ ap (map respelled_line) (sym (script_lines t))

-- and no longer
shorter : (u t : List ℕ) → lines u ≡ map respelled_line (lines t) → length u ≤ length t
shorter u t e =
    omega (arith, joined_shorter (lines t), ap length (joined_back t), ap length (sym (joined_back u) ∙ ap joined e))

module _ (t : List ℕ) where
  pub table_shorter : length (table_text (respelled t)) ≤ length (table_text t)
  table_shorter = shorter (table_text (respelled t)) (table_text t) (table_respelled t)

  pub script_shorter : length (script_text (respelled t)) ≤ length (script_text t)
  script_shorter = shorter (script_text (respelled t)) (script_text t) (script_respelled t)
