-- What a caller may rely on: the bytes that characters stand for, two by two, are as many as there are pairs, each is the one
-- that is read, and up to eight of them make the number that is read. Of a line's characters they are its bytes.
-- Assumes nothing.
use Rattle.std.proofs.Common.{ℕ, zero, suc, ◌+◌, ◌-◌, ◌*◌, ◌/◌, ◌%◌, ◌≤◌, ◌<◌, ◌≡◌, List, [], ◌∷◌, ◌++◌, map}
use Rattle.std.proofs.Common.{length, take, drop, get_or, refl, sym, ap, ◌∙◌, arith, zero-add, suc-add}
use Rattle.std.proofs.Math.ListN.{get_or-eq_default}
use Rattle.std.proofs.Math.Option.{some}
use Rattle.lines.specs.Line.{number, number_from, bytes, digit}
use Rattle.lines.proofs.Digits.{pair_some}
use Rattle.numbers.specs.code.Numbers.{read_bytes, byte_at, byte_of, number_of}
use Rattle.desk_lines.specs.DeskLine.{small}
use Rattle.numbers.proofs.Digits.{value_digit, value_small}

-- a byte for every two characters
pub read_length : (cs : List ℕ) → length (read_bytes cs) ≡ length cs / 2
unfolding read_bytes
read_length [] = refl
read_length (h ∷ []) = refl
read_length (h ∷ l ∷ cs) = let n = read_length cs in omega arith

-- the first k bytes are those of the first 2 k characters, and the bytes from number k on those of the rest
read_split : (cs : List ℕ) (k : ℕ)
    → (read_bytes (take (2 * k) cs) ≡ take k (read_bytes cs)) × (read_bytes (drop (2 * k) cs) ≡ drop k (read_bytes cs))
unfolding read_bytes
read_split cs zero = (refl, refl)
read_split [] (suc k) = let m : 2 * suc k ≡ suc (suc (2 * k)) = omega arith in rw m (refl, refl)
read_split (h ∷ []) (suc k) = let m : 2 * suc k ≡ suc (suc (2 * k)) = omega arith in rw m (refl, refl)
read_split (h ∷ l ∷ cs) (suc k) =
    let m : 2 * suc k ≡ suc (suc (2 * k)) = omega arith in
    let s = read_split cs k in
    rw m (ap (λ (bs : List ℕ). byte_of h l ∷ bs) s.0, s.1)

pub read_take : (cs : List ℕ) (k : ℕ) → read_bytes (take (2 * k) cs) ≡ take k (read_bytes cs)
read_take cs k = (read_split cs k).0

pub read_drop : (cs : List ℕ) (k : ℕ) → read_bytes (drop (2 * k) cs) ≡ drop k (read_bytes cs)
read_drop cs k = (read_split cs k).1

-- byte number k, where the characters have it and where they do not
pub byte_some : (cs : List ℕ) (k : ℕ) → k < length cs / 2
    → byte_of (get_or cs (2 * k) 0) (get_or cs (2 * k + 1) 0) ≡ byte_at cs k
unfolding read_bytes
byte_some [] k h = absurd (omega arith)
byte_some (a ∷ []) k h = absurd (omega arith)
byte_some (a ∷ b ∷ cs) zero h = refl
byte_some (a ∷ b ∷ cs) (suc k) h =
    let m : 2 * suc k ≡ suc (suc (2 * k)) = omega arith in
    let n : 2 * suc k + 1 ≡ suc (suc (2 * k + 1)) = omega arith in
    rw (n, m) (byte_some cs k (omega arith))

pub byte_none : (cs : List ℕ) (k : ℕ) → length cs / 2 ≤ k → 0 ≡ byte_at cs k
byte_none cs k h = sym (get_or-eq_default (read_bytes cs) 0 (omega (arith, read_length cs)))

-- the number of characters takes in their first two as one byte more
pub number_more : (n : ℕ) (all pair rest : List ℕ) → all ≡ pair ++ rest → length pair ≡ 2
    → number_of n all ≡ number_of (n % 72057594037927936 * 256 + byte_of (get_or pair 0 0) (get_or pair 1 0)) rest
unfolding number_of
number_more n all [] rest e h = absurd (omega arith)
number_more n all (x ∷ []) rest e h = absurd (omega arith)
number_more n all (x ∷ y ∷ []) rest e h = rw e
number_more n all (x ∷ y ∷ z ∷ pair) rest e h = absurd (omega arith)

-- and ends where no two are left
pub number_end : (n : ℕ) (cs : List ℕ) → length cs < 2 → number_of n cs ≡ n
unfolding number_of
number_end n [] h = refl
number_end n (x ∷ []) h = refl
number_end n (x ∷ y ∷ cs) h = absurd (omega arith)

-- the largest number that k more bytes can make of n
most : ℕ → ℕ → ℕ
most n zero = n
most n (suc k) = most (n * 256 + 255) k

most_mono : (k : ℕ) {m n : ℕ} → m ≤ n → most m k ≤ most n k
unfolding most
most_mono zero h = h
most_mono (suc k) h = most_mono k (omega arith)

most_above : (k n : ℕ) → n ≤ most n k
unfolding most
most_above zero n = omega arith
most_above (suc k) n = let r = most_above k (n * 256 + 255) in omega arith

most_longer : (k d n : ℕ) → most n k ≤ most n (k + d)
unfolding most
most_longer zero d n = simp zero-add (most_above d n)
most_longer (suc k) d n = simp suc-add (most_longer k d (n * 256 + 255))

-- a number of up to eight bytes is theirs
number_fits : (cs : List ℕ) (n : ℕ) → most n (length (read_bytes cs)) < 18446744073709551616
    → number_of n cs ≡ number_from n (read_bytes cs)
unfolding read_bytes number_of number_from most
number_fits [] n h = refl
number_fits (a ∷ []) n h = refl
number_fits (a ∷ b ∷ cs) n h =
    let left = length (read_bytes cs) in
    let next = n * 256 + byte_of a b in
    let above : n * 256 + 255 ≤ most (n * 256 + 255) left = most_above left (n * 256 + 255) in
    let read : n % 72057594037927936 * 256 + byte_of a b ≡ next = omega arith in
    let below : most next left ≤ most (n * 256 + 255) left = most_mono left (omega arith) in
    rw read (number_fits cs next (omega arith))

pub number_read : (cs : List ℕ) → length cs / 2 ≤ 8 → number_of 0 cs ≡ number (read_bytes cs)
unfolding most
number_read cs h =
    let n = length (read_bytes cs) in
    let d : n + (8 - n) ≡ 8 = omega (arith, read_length cs) in
    let m : most 0 n ≤ most 0 8 = rw d at (most_longer n (8 - n) 0) in
    number_fits cs 0 (omega arith)

-- the bytes of a line's characters are those that are read, where two digits are the byte that they stand for
byte_digits : (h l : ℕ) → digit h < 16 → digit l < 16 → byte_of h l ≡ digit h * 16 + digit l
byte_digits h l p q = rw (value_digit h p, value_digit l q) (omega arith)

pub bytes_read : (cs bs : List ℕ) → bytes cs ≡ some bs → read_bytes cs ≡ bs
unfolding bytes read_bytes
bytes_read [] bs e = cc
bytes_read (h ∷ []) bs e = let z : ◌≡◌ {A = ℕ} 0 1 = cc in absurd (omega arith)
bytes_read (h ∷ l ∷ cs) bs e =
    let r = pair_some (digit h) (digit l) (bytes cs) bs e in
    rw (r.2.2, byte_digits h l r.0 r.1, bytes_read cs r.2.0 r.2.1)

-- and so are those of a desk's line, whose capitals count as small letters do
read_small : (cs : List ℕ) → read_bytes (map small cs) ≡ read_bytes cs
unfolding read_bytes
read_small [] = refl
read_small (h ∷ []) = refl
read_small (h ∷ l ∷ cs) = rw (value_small h, value_small l, read_small cs)

pub desk_read : (cs bs : List ℕ) → bytes (map small cs) ≡ some bs → read_bytes cs ≡ bs
desk_read cs bs e = sym (read_small cs) ∙ bytes_read (map small cs) bs e
