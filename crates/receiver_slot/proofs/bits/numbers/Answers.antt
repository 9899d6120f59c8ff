-- `receiver_slot::bits::numbers` meets its contract. Assumes nothing.
use mathlib.Core.Path.{◌≡◌, refl}
use Prim.Native.Nat.{ℕ, ◌*◌, ◌%◌, ◌^◌, ◌≤◌}
use native.Mathlib.Nat.{one-mul, mod-eq_of_lt}
use native.Mathlib.Omega.{arith}
use borrow.Author.Rules.{rules}
use lib.Pow.{pow_mono}
use Rattle.receiver_slot.proofs.bits.numbers.Goals as goal

few : (bits : ℕ) → bits ≤ 5 → 2 ^ bits ≤ 32
few bits h = pow_mono {i = bits} {j = 5} h

shifted : (bits : ℕ) → bits ≤ 5 → (1 * 2 ^ bits) % 2 ^ 64 ≡ 2 ^ bits
shifted bits h = rw (one-mul (2 ^ bits)) (mod-eq_of_lt (omega (arith, few bits h)))

pub overflow_mul-result : goal.overflow_mul-result
overflow_mul-result c = rw (shifted c.args.bits c.requires) (let f = few c.args.bits c.requires in search rules)

pub returns : goal.returns
returns c = rw (shifted c.args.bits c.requires) (refl, omega (arith, few c.args.bits c.requires))
