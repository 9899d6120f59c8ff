-- `learn::ranged::labels` meets its contract. Assumes nothing.
use mathlib.Core.Path.{◌≡◌, refl}
use Prim.Native.Nat.{ℕ, ◌*◌, ◌%◌, ◌^◌}
use native.Mathlib.Nat.{one-mul, mod-eq_of_lt}
use native.Mathlib.Omega.{arith}
use Rattle.learn.specs.Sets.{Bits}
use Rattle.learn.proofs.Laws.{labels_few}
use Rattle.learn.proofs.ranged.labels.Goals as goal

shifted : (bits : ℕ) → Bits bits → (1 * 2 ^ bits) % 2 ^ 64 ≡ 2 ^ bits
shifted bits b = rw (one-mul (2 ^ bits)) (mod-eq_of_lt (omega (arith, labels_few bits b)))

pub returns : goal.returns
returns c =
    let f = labels_few c.args.bits c.requires in
    rw (shifted c.args.bits c.requires) (refl, f.0, f.1)
