-- What a caller of `next_step` may rely on: that what it tells is told of one answer, by which address a frame asks for a
-- step, and that every address can be asked for. The tests of `asked` are taken apart one way and met the other. Assumes
-- nothing.
use Rattle.std.proofs.Common.{ℕ, zero, suc, ◌≤◌, ◌<◌, ◌+◌, ◌*◌, ◌/◌, ◌%◌, ◌≡◌, refl, sym, ap, true, ◌&&◌, List, []}
use Rattle.std.proofs.Common.{◌∷◌, Option, Some, None, Result, Ok, Err, arith, length, drop, get_or, leb, le-leb}
use Rattle.std.proofs.Common.{leb-true, eq-eqb}
use Rattle.std.proofs.Math.Option.{some}
use Rattle.lines.specs.Line.{number_from}
use Rattle.lines.specs.declared.Refusal.{Refusal}
use Rattle.lines.proofs.Digits.{both}
use Rattle.lines.proofs.Refusals.{number_once}
use Rattle.scripts.specs.declared.Address.{Address as Found}
use Rattle.scripts.specs.ScriptStep.{ScriptStep, Address, Refused, End, step_told}
use Rattle.scripts.specs.Script.{most, digits, well_formed, all_digits, in_range, asked, address}
use Rattle.scripts.specs.code.Answers.{refusal}
use Rattle.scripts.proofs.Steps.{is_step}

-- what is asked for, where it is no refusal
found : ScriptStep → Result (Option Found) Refusal
found (Address n next) = Ok (Some (record { count = n; next = next }))
found (Refused r) = Ok None
found End = Ok None

pub step_told_once : (x y : Result (Option Found) Refusal) → step_told x ≡ step_told y → x ≡ y
unfolding step_told found
step_told_once (Ok (Some a)) (Ok (Some b)) same = ap found same
step_told_once (Ok (Some a)) (Ok None) same = cc
step_told_once (Ok (Some a)) (Err s) same = cc
step_told_once (Ok None) (Ok (Some b)) same = cc
step_told_once (Ok None) (Ok None) same = refl
step_told_once (Ok None) (Err s) same = cc
step_told_once (Err r) (Ok (Some b)) same = cc
step_told_once (Err r) (Ok None) same = cc
step_told_once (Err r) (Err s) same = ap Err (number_once r s cc)

-- each is 01 to 04
abbrev pub Each : List ℕ → Type 0
Each ds = (k : ℕ) → k < length ds → (1 ≤ get_or ds k 0) × (get_or ds k 0 ≤ 4)

-- at most 1,024 digits, each 01 to 04
pub record IsAddress (ds : List ℕ) : Type 0 where
  pub few : length ds ≤ most
  pub each : Each ds

each_digit : (ds : List ℕ) → all_digits ds ≡ true → Each ds
unfolding all_digits
each_digit [] e k h = absurd (omega arith)
each_digit (d ∷ ds) e zero h =
    let a = both (leb 1 d) (leb d 4 && all_digits ds) e in
    let b = both (leb d 4) (all_digits ds) a.1 in
    (leb-true 1 d a.0, leb-true d 4 b.0)
each_digit (d ∷ ds) e (suc k) h =
    let a = both (leb 1 d) (leb d 4 && all_digits ds) e in
    let b = both (leb d 4) (all_digits ds) a.1 in
    each_digit ds b.1 k (omega arith)

digits_all : (ds : List ℕ) → Each ds → all_digits ds ≡ true
unfolding all_digits
digits_all [] h = refl
digits_all (d ∷ ds) h =
    let first = h zero (omega arith) in
    simp (le-leb 1 d first.0, le-leb d 4 first.1, digits_all ds (λ k l. h (suc k) (omega arith)))

-- a frame that asks for a step asks by the digits behind `20 llll`, and they are an address
pub asked_address : (bs ds : List ℕ) → asked (some bs) ≡ address ds → (ds ≡ drop 3 bs) × IsAddress ds
unfolding refusal
asked_address bs ds e =
    let s = is_step bs (sym (ap refusal e)) in
    let q : ds ≡ drop 3 bs = cc in
    (q, rw q (record { few = s.few; each = each_digit (digits bs) s.fit }))

-- the frame of an address
written : List ℕ → List ℕ
written ds = 0x20 ∷ length ds / 256 ∷ length ds % 256 ∷ ds

written_well : (ds : List ℕ) → well_formed (written ds) ≡ true
unfolding written well_formed number_from
written_well ds =
    let long = le-leb 3 (suc (suc (suc (length ds)))) (omega arith) in
    let told = eq-eqb ((0 + length ds / 256) * 256 + length ds % 256) (length ds) (omega arith) in
    simp (long, told)

written_fits : (ds : List ℕ) → IsAddress ds → in_range ds ≡ true
unfolding in_range
written_fits ds a = simp (le-leb (length ds) most a.few, digits_all ds a.each)

-- every address is asked for by its frame
pub asked_written : (ds : List ℕ) → IsAddress ds
    → asked (some (0x20 ∷ length ds / 256 ∷ length ds % 256 ∷ ds)) ≡ address ds
unfolding asked written
asked_written ds a = simp (written_well ds, written_fits ds a)
