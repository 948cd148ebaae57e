-- The references of a process: a map that fixes them all leaves the process as it is, and where no reference
-- is held that has not been drawn they all have been drawn. By induction over the process; what is unentered
-- has none. Assumes nothing.
use Rattle.std.proofs.Common.{ℕ, ◌≤◌, ◌<◌, ◌≡◌, refl, ap, Bool, arith}
use Rattle.std.proofs.Math.Option.{Option, none, some}
use Rattle.rules.specs.Process.{Process, leaf, prefix, internal, split, sequence, Ω, ⊥', cells}
use Rattle.rules.proofs.Marked.{one_same, past, past_drawn, Unentered, BySide, Fit}
use Rattle.rules.proofs.Holding.{held, side_held, split_held}
use Rattle.exchange.specs.Renamed.{renamed_side, renamed}

-- a side's reference, where it has one, is below b
abbrev pub SideUnder : ℕ → Option ℕ → Type 0
SideUnder b none = Unit {0}
SideUnder b (some n) = n < b

-- so are all of a process
abbrev pub Under : ℕ → Process → Type 0
Under b (leaf w l) = Unit {0}
Under b (prefix w e P) = Under b P
Under b (internal w P Q) = Under b P × Under b Q
Under b (split w k m n P Q) = SideUnder b m × SideUnder b n × Under b P × Under b Q
Under b (sequence w c P Q) = Under b P × Under b Q
Under b Ω = Unit {0}
Under b ⊥' = Unit {0}

-- a higher bound holds too
pub side_under_more : (b c : ℕ) (m : Option ℕ) → b ≤ c → SideUnder b m → SideUnder c m
side_under_more b c none l u = tt
side_under_more b c (some n) l u = omega (arith, l, u)

-- for a whole process
pub under_more : (b c : ℕ) (P : Process) → b ≤ c → Under b P → Under c P
under_more b c (leaf w l) h u = tt
under_more b c (prefix w e P) h u = under_more b c P h u
under_more b c (internal w P Q) h u = (under_more b c P h u.0, under_more b c Q h u.1)
under_more b c (split w k m n P Q) h u = (
  side_under_more b c m h u.0,
  side_under_more b c n h u.1,
  under_more b c P h u.2,
  under_more b c Q h u.3,
)
under_more b c (sequence w d P Q) h u = (under_more b c P h u.0, under_more b c Q h u.1)
under_more b c Ω h u = tt
under_more b c ⊥' h u = tt

-- what is unentered has no reference
pub unentered_under : (b : ℕ) (P : Process) → Unentered P → Under b P
unentered_under b (leaf w l) u = tt
unentered_under b (prefix w e P) u = unentered_under b P u
unentered_under b (internal w P Q) u = (unentered_under b P u.0, unentered_under b Q u.1)
unentered_under b (split w k none none P Q) u =
    (tt, tt, unentered_under b P u.0, unentered_under b Q u.1)
unentered_under b (split w k none (some n) P Q) u = absurd u
unentered_under b (split w k (some m) n P Q) u = absurd u
unentered_under b (sequence w c P Q) u = (unentered_under b P u.0, unentered_under b Q u.1)
unentered_under b Ω u = tt
unentered_under b ⊥' u = tt

-- a map that fixes what is below b
module _ (φ : ℕ → ℕ) (b : ℕ) (fixes : (n : ℕ) → n < b → φ n ≡ n) where
  pub side_fixed : (m : Option ℕ) → SideUnder b m → renamed_side φ m ≡ m
  unfolding renamed_side
  side_fixed none u = refl
  side_fixed (some n) u = ap some (fixes n u)

  -- leaves a process of such references as it is
  pub renamed_fixed : (P : Process) → Under b P → renamed φ P ≡ P
  unfolding renamed
  renamed_fixed (leaf w l) u = refl
  renamed_fixed (prefix w e P) u = ap (prefix w e) (renamed_fixed P u)
  renamed_fixed (internal w P Q) u = rw (renamed_fixed P u.0, renamed_fixed Q u.1)
  renamed_fixed (split w k m n P Q) u =
      rw (side_fixed m u.0, side_fixed n u.1, renamed_fixed P u.2, renamed_fixed Q u.3)
  renamed_fixed (sequence w c P Q) u = rw (renamed_fixed P u.0, renamed_fixed Q u.1)
  renamed_fixed Ω u = refl
  renamed_fixed ⊥' u = refl

-- one map behind another
module _ (φ ψ : ℕ → ℕ) (back : (n : ℕ) → φ (ψ n) ≡ n) where
  pub renamed_back : (P : Process) → renamed φ (renamed ψ P) ≡ P
  unfolding renamed renamed_side
  renamed_back (leaf w l) = refl
  renamed_back (prefix w e P) = ap (prefix w e) (renamed_back P)
  renamed_back (internal w P Q) = rw (renamed_back P, renamed_back Q)
  renamed_back (split w k none none P Q) = rw (renamed_back P, renamed_back Q)
  renamed_back (split w k none (some n) P Q) = rw (back n, renamed_back P, renamed_back Q)
  renamed_back (split w k (some m) none P Q) = rw (back m, renamed_back P, renamed_back Q)
  renamed_back (split w k (some m) (some n) P Q) = rw (back m, back n, renamed_back P, renamed_back Q)
  renamed_back (sequence w c P Q) = rw (renamed_back P, renamed_back Q)
  renamed_back Ω = refl
  renamed_back ⊥' = refl

-- cells do not depend on reference numbers
pub renamed_cells : (φ : ℕ → ℕ) (P : Process) → cells (renamed φ P) ≡ cells P
unfolding renamed renamed_side cells
renamed_cells φ (leaf w l) = refl
renamed_cells φ (prefix w e P) = refl
renamed_cells φ (internal w P Q) = refl
renamed_cells φ (split w k none none P Q) = refl
renamed_cells φ (split w k none (some n) P Q) = rw (renamed_cells φ P, renamed_cells φ Q)
renamed_cells φ (split w k (some m) none P Q) = rw (renamed_cells φ P, renamed_cells φ Q)
renamed_cells φ (split w k (some m) (some n) P Q) = rw (renamed_cells φ P, renamed_cells φ Q)
renamed_cells φ (sequence w Bool.true P Q) = rw (renamed_cells φ P)
renamed_cells φ (sequence w Bool.false P Q) = refl
renamed_cells φ Ω = refl
renamed_cells φ ⊥' = refl

-- who stands at m holds m
pub stands_held : (m : ℕ) (P : Process) → 1 ≤ held m m P
unfolding held
stands_held m (leaf w l) = omega (arith, one_same m m refl)
stands_held m (prefix w e P) = omega (arith, one_same m m refl)
stands_held m (internal w P Q) = omega (arith, one_same m m refl)
stands_held m (split w k a b P Q) = omega (arith, one_same m m refl, split_held m m w k a b P Q)
stands_held m (sequence w c P Q) = stands_held m P
stands_held m Ω = omega (arith, one_same m m refl)
stands_held m ⊥' = omega (arith, one_same m m refl)

-- a process that holds drawn references alone
abbrev pub Held : ℕ → ℕ → Process → Type 0
Held f m P = (n : ℕ) → held n m P ≤ past n f

-- a side that holds drawn references alone, where what is held by the process in it is known to be
side_held_under : (f : ℕ) (m : Option ℕ) (P : Process) → BySide m (Unentered P) (Fit P)
    → ((n : ℕ) → side_held n m P ≤ past n f) → ((m : ℕ) → Fit P → Held f m P → Under f P)
    → SideUnder f m × Under f P
unfolding side_held
side_held_under f none P h k inner = (tt, unentered_under f P h)
side_held_under f (some m) P h k inner =
    (past_drawn m f (omega (arith, k m, stands_held m P)), inner m h k)

-- has none but these
pub held_under : (f m : ℕ) (P : Process) → Fit P → Held f m P → Under f P
unfolding held
held_under f m (leaf w l) h k = tt
held_under f m (prefix w e P) h k = unentered_under f P h
held_under f m (internal w P Q) h k = (unentered_under f P h.0, unentered_under f Q h.1)
held_under f m (split w c a b P Q) h k =
    let left = side_held_under f a P h.0
    (λ n. let all : held n m (split w c a b P Q) ≤ past n f = k n in
    omega (arith, all, split_held n m w c a b P Q)) (λ m fit h. held_under f m P fit h) in
    let right = side_held_under f b Q h.1
    (λ n. let all : held n m (split w c a b P Q) ≤ past n f = k n in
    omega (arith, all, split_held n m w c a b P Q)) (λ m fit h. held_under f m Q fit h) in
    (left.0, right.0, left.1, right.1)
held_under f m (sequence w c P Q) h k = (held_under f m P h.0 k, unentered_under f Q h.1)
held_under f m Ω h k = tt
held_under f m ⊥' h k = tt
