-- Numbers and lines put by their bytes: a number is its two bytes' characters, a line its bytes' and LF, and
-- lines are put one behind another. Assumes nothing.
use Rattle.std.proofs.Common.{ℕ, ◌/◌, ◌%◌, ◌≡◌, refl, sym, ap, ◌∙◌, List, [], ◌∷◌, ◌++◌, append_assoc}
use Rattle.lines.specs.Line.{hex, text, two, LF}
use Rattle.spelling.specs.words.Puts.{Puts}
use Rattle.spelling.proofs.Putting.{puts_then, Owed, owed_less}

-- a number's two bytes
pub number_spelt : {a b c : ℕ} {s t u : List ℕ} (n : ℕ) → Puts a (hex (n / 256 % 256 ∷ [])) s t b
    → Puts b (hex (n % 256 ∷ [])) t u c
    → Puts a (hex (two n)) s u c
unfolding hex two
number_spelt n p q = puts_then p q

-- a line of one byte
pub last_spelt : {a b c : ℕ} {s t u : List ℕ} (x : ℕ) → Puts a (hex (x ∷ [])) s t b → Puts b (LF ∷ []) t u c
    → Puts a (text ((x ∷ []) ∷ [])) s u c
unfolding hex text
last_spelt x p q = puts_then p q

-- the first of some lines, and the rest
text_first : (bs : List ℕ) (fs : List (List ℕ)) → text (bs ∷ fs) ≡ text (bs ∷ []) ++ text fs
unfolding text
text_first bs fs = sym (append_assoc (hex bs) (LF ∷ []) (text fs))

-- lines in two parts
pub text_append : (fs hs : List (List ℕ)) → text (fs ++ hs) ≡ text fs ++ text hs
unfolding text
text_append [] hs = refl
text_append (bs ∷ fs) hs =
    text_first bs (fs ++ hs) ∙ ap (λ (l : List ℕ). text (bs ∷ []) ++ l) (text_append fs hs)
    ∙ sym (append_assoc (text (bs ∷ [])) (text fs) (text hs))
    ∙ ap (λ (l : List ℕ). l ++ text hs) (sym (text_first bs fs))

-- a line less is owed
pub owed_line : {xs s t u : List ℕ} {a b e : ℕ} (bs : List ℕ) (fs : List (List ℕ)) → Owed xs a s (text (bs ∷ fs)) b t
    → Puts b (text (bs ∷ [])) t u e
    → Owed xs a s (text fs) e u
owed_line bs fs o p = owed_less (rw (text_first bs fs) at o) p
