-- A run of digits ends where a search for a character that is no digit stops: at the first such character, or at the text's
-- end. Assumes nothing.
use Rattle.std.proofs.Common.{ℕ, ◌≡◌, suc, ◌+◌, ◌-◌, ◌≤◌, Bool, true, false, cond, not, List, map, length}
use Rattle.std.proofs.Common.{take, drop, leb, ltb, Option, Some, None, unwrap_or, refl, sym, ◌∙◌, arith}
use Rattle.std.proofs.Common.{length-drop, ltb-false}
use Rattle.std.specs.List.{position, position_or_len}
use Rattle.std.proofs.Math.Seq.{take-length}
use Rattle.std.proofs.lemmas.List.Recursion.{is_position_or_len}
use Rattle.std.proofs.lemmas.List.Sums.{prefix_len-le-length}
use Rattle.lines.specs.Line.{choose, digit}
use Rattle.lines.specs.code.Characters.{run}

-- the first that passes a test, or how many there are
place_or_length : (p : ℕ → Bool) (s : List ℕ) → unwrap_or (position p s) (length s) ≡ position_or_len p s
place_or_length p s = go (ltb (position_or_len p s) (length s)) refl
  where
    n : ℕ
    n = position_or_len p s

    go : (b : Bool) → ltb n (length s) ≡ b → unwrap_or (cond b (Some n) None) (length s) ≡ n
    go true e = refl
    go false e =
        let most : n ≤ length s = prefix_len-le-length (λ c. not (p c)) s in
        let least : length s ≤ n = ltb-false n (length s) e in
        omega arith

-- a run ends at the first character that is no digit, whatever the characters stand for
run_place : (f : ℕ → ℕ) (s : List ℕ) → run (map f s) ≡ position_or_len (λ c. leb 16 (digit (f c))) s
unfolding run
run_place f = is_position_or_len (λ cs. run (map f cs)) (λ c. leb 16 (digit (f c))) refl (λ c cs. go (leb 16 (digit (f c))) (run (map f cs)))
  where
    go : (b : Bool) (n : ℕ) → choose b 0 (suc n) ≡ cond b 0 (1 + n)
    go true n = refl
    go false n = omega arith

-- the same in a text from a place on, as a search of it tells
pub run_found : (f : ℕ → ℕ) (s : List ℕ) (from : ℕ) (o : Option ℕ)
    → o ≡ position (λ c. leb 16 (digit (f c))) (take (length s - from) (drop from s))
    → (unwrap_or o (length (take (length s - from) (drop from s))) ≡ run (map f (drop from s))) × (run (map f (drop from s)) ≤ length s - from)
run_found f s from o e =
    let rest = drop from s in
    let p : ℕ → Bool = λ c. leb 16 (digit (f c)) in
    let whole : take (length s - from) rest ≡ rest = rw (← length-drop from s) (take-length rest) in
    let most = prefix_len-le-length (λ c. not (p c)) rest in
    (rw (e, whole) (place_or_length p rest ∙ sym (run_place f rest)), rw (run_place f rest) (omega (arith, length-drop from s)))
