-- Characters put into a slice, one run behind another, are put as one run. So what is to be put splits at any
-- cursor: what was put in front, and what is owed behind it, and nothing is owed at the end. Assumes nothing.
use Rattle.std.proofs.Common.{ℕ, suc, ◌+◌, ◌≡◌, refl, ◌∙◌, List, [], ◌∷◌, ◌++◌, arith, add-one, length, set}
use Rattle.std.proofs.Common.{length-append}
use Rattle.std.proofs.lemmas.List.Edits.{sets}
use Rattle.spelling.specs.words.Puts.{Puts}

-- characters behind others are one run with them
sets_behind : (s : List ℕ) (a : ℕ) (xs ys : List ℕ) → sets (sets s a xs) (a + length xs) ys ≡ sets s a (xs ++ ys)
sets_behind s a [] ys = let e : a + length {A = ℕ} [] ≡ a = omega arith in rw e
sets_behind s a (x ∷ xs) ys =
    let e : a + length (x ∷ xs) ≡ suc a + length xs = omega arith in
    rw e (sets_behind (set s a x) (suc a) xs ys)

-- so one put behind another is one put
pub puts_then : {a b c : ℕ} {xs ys s t u : List ℕ} → Puts a xs s t b → Puts b ys t u c → Puts a (xs ++ ys) s u c
puts_then {a} {b} {c} {xs} {ys} {s} p q = record {
  ends = omega (arith, p.ends, q.ends, length-append xs ys);
  stands = q.stands ∙ rw (p.ends, p.stands) (sets_behind s a xs ys);
}

-- two characters, one behind the other
pub puts_two : {s t u : List ℕ} {a x y : ℕ} → t ≡ set s a x → u ≡ set t (a + 1) y → Puts a (x ∷ y ∷ []) s u (a + 2)
puts_two {s} {t} {u} {a} {x} {y} p q = record { ends = refl; stands = q ∙ rw (p, add-one) refl }

-- what is owed of characters that are to be put from a on into s: those still to be put from b on into t
pub record Owed (xs : List ℕ) (a : ℕ) (s ys : List ℕ) (b : ℕ) (t : List ℕ) : Type 0 where
  pub lengths : b + length ys ≡ a + length xs
  pub same : sets t b ys ≡ sets s a xs

-- all of them, before the first
pub owed_all : {xs : List ℕ} {a : ℕ} {s : List ℕ} → Owed xs a s xs a s
owed_all = record { lengths = refl; same = refl }

-- less by what is put
pub owed_less : {xs s t u : List ℕ} {a b c : ℕ} {ys zs : List ℕ} → Owed xs a s (ys ++ zs) b t → Puts b ys t u c
    → Owed xs a s zs c u
owed_less {t = t} {b = b} {ys = ys} {zs = zs} o p = record {
  lengths = omega (arith, o.lengths, p.ends, length-append ys zs);
  same = rw (p.ends, p.stands) (sets_behind t b ys zs) ∙ o.same;
}

-- none, where all is put
pub owed_none : {xs s t : List ℕ} {a b : ℕ} → Owed xs a s [] b t → Puts a xs s t b
owed_none o = record { ends = omega (arith, o.lengths); stands = o.same }
