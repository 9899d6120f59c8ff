-- `receiver::refusals::bad_points` meets its contract. Assumes nothing.
use Prim.Native.Nat.{◌%◌, ◌*◌, ◌^◌, ◌≤◌, ℕ}
use borrow.Author.Tests.{le-ltb, lt-ltb}
use lib.Pow.{pow_mono}
use mathlib.Core.Path.{◌≡◌}
use native.Mathlib.Nat.{mod-eq_of_lt}
use native.Mathlib.Omega.{arith}
use Rattle.receiver.proofs.refusals.bad_points.Goals as goal

shifted : (b : ℕ) → b ≤ 5 → (2 * 2 ^ b) % 2 ^ 64 ≡ 2 * 2 ^ b
shifted b h =
    let p : 2 ^ b ≤ 2 ^ 5 = pow_mono h in
    mod-eq_of_lt (omega arith)

pub returns-then-bits-lt1 : goal.returns-then-bits-lt1
returns-then-bits-lt1 c = rw (lt-ltb _ _ c.if-bits-lt1.true)

pub returns-then-bits-gt5 : goal.returns-then-bits-gt5
returns-then-bits-gt5 c = rw (le-ltb _ _ c.if-bits-lt1.false, lt-ltb _ _ c.if-bits-gt5.true)

pub returns-else-bits-gt5 : goal.returns-else-bits-gt5
returns-else-bits-gt5 c = rw (le-ltb _ _ c.if-bits-lt1.false, le-ltb _ _ c.if-bits-gt5.false, shifted _ c.if-bits-gt5.false)
