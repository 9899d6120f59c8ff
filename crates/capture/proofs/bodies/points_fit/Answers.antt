-- `capture::bodies::points_fit` meets its contract. Assumes nothing.
use mathlib.Core.Path.{◌≡◌}
use Prim.Native.Nat.{ℕ, ◌*◌, ◌%◌, ◌^◌, ◌≤◌}
use native.Mathlib.Omega.{arith}
use borrow.Author.Tests.{le-leb, lt-leb}
use lib.Pow.{pow_mono}
use Rattle.capture.specs.Bodies.{points_fit}
use Rattle.capture.proofs.bodies.points_fit.Goals as goal

few : (b : ℕ) → b ≤ 5 → 2 ^ b ≤ 32
few b h = pow_mono {i = b} {j = 5} h

shifted : (b : ℕ) → b ≤ 5 → (4 * 2 ^ b) % 2 ^ 32 ≡ 4 * 2 ^ b
shifted b h = omega (arith, few b h)

pub overflow_add-result : goal.overflow_add-result
overflow_add-result c = let h = few c.args.bits c.if-bits-gt5.false in omega (arith, h)

pub returns-then-bits-lt1 : goal.returns-then-bits-lt1
unfolding points_fit
returns-then-bits-lt1 c = rw (lt-leb 1 c.args.bits c.if-bits-lt1.true)

pub returns-then-bits-gt5 : goal.returns-then-bits-gt5
unfolding points_fit
returns-then-bits-gt5 c = let b = c.args.bits in rw (le-leb 1 b c.if-bits-lt1.false, lt-leb b 5 c.if-bits-gt5.true)

pub returns-else-bits-gt5 : goal.returns-else-bits-gt5
unfolding points_fit
returns-else-bits-gt5 c =
    let b = c.args.bits in
    let h = c.if-bits-gt5.false in
    rw (le-leb 1 b c.if-bits-lt1.false, le-leb b 5 h, shifted b h)
