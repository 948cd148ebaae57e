-- `refusals::over_limit` meets its contract. Each kind's test is against its limit; a set's is the power that the shift
-- makes, and where that has no room in 64 bits every payload is below it. Assumes nothing.
use Rattle.std.proofs.Common.{ℕ, ◌≡◌, ◌*◌, ◌^◌, ◌%◌, ◌≤◌, ◌<◌, ◌∙◌, rules, arith, one-mul, pow_mono}
use Rattle.std.proofs.Common.{shl_exact}
use Rattle.std.proofs.lemmas.Bool.Decides.{nat_tests}
use Rattle.frames.specs.TableFrame.{limit}
use Rattle.refusals.proofs.over_limit.Goals as goal

pub returns-in-1 : goal.returns-in-1
unfolding limit
returns-in-1 c = search rules

pub returns-in-2 : goal.returns-in-2
unfolding limit
returns-in-2 c = search rules

shifted : (n : ℕ) → n < 64 → 1 * 2 ^ n % 2 ^ 64 ≡ 2 ^ n
shifted n h = shl_exact 1 n 64 (omega arith) (omega arith) ∙ one-mul (2 ^ n)

pub returns-then-s-lt-EVENT_ROOM : goal.returns-then-s-lt-EVENT_ROOM
unfolding limit
returns-then-s-lt-EVENT_ROOM c = rw (shifted _ c.if-s-lt-EVENT_ROOM.true, c.in-6.is)

pub returns-else-s-lt-EVENT_ROOM : goal.returns-else-s-lt-EVENT_ROOM
unfolding limit
returns-else-s-lt-EVENT_ROOM c =
    let over : 2 ^ 64 ≤ 2 ^ c.args.s.events = pow_mono c.if-s-lt-EVENT_ROOM.false in
    grind (arith, nat_tests)

pub returns-in_default : goal.returns-in_default
unfolding limit
returns-in_default c = grind (arith, nat_tests)
