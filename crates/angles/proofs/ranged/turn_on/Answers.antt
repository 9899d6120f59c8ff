-- `angles::ranged::turn_on` meets its contract. Assumes nothing.
use Rattle.std.proofs.Common.{ℕ, ◌+◌, ◌^◌, ◌<◌, ◌≤◌, ℤ, pos, ◌+ℤ◌, nat_abs, mod-lt, arith, lit<, w64, to_z, of_z}
use mir.Facts.{to_z_pos}
use Rattle.laws.proofs.Size.{Num, arg_le, plus, lit, at, fits, sfits_abs}
use Rattle.angles.proofs.Laws.{turn_sum, turn_rest}
use Rattle.angles.proofs.ranged.turn_on.Goals as goal

angle : (a : ℕ) → a < 2 ^ 32 → Num (to_z w64 a) (pos a) (2 ^ 32)
angle a h = record { is = to_z_pos w64 (omega (arith, h)); size = omega (arith, h) }

inner : (step : ℤ) (a : ℕ) → nat_abs step ≤ 2 ^ 60 → a < 2 ^ 32 → Num (to_z w64 (of_z w64 step) +ℤ to_z w64 a) (step +ℤ pos a) (2 ^ 60 + 2 ^ 32)
inner step a h k = plus (arg_le (2 ^ 60) (sfits_abs w64 step (omega (arith, h))) h) (angle a k)

outer : (step : ℤ) (a : ℕ) → nat_abs step ≤ 2 ^ 60 → a < 2 ^ 32 →
    Num (to_z w64 (of_z w64 (to_z w64 (of_z w64 step) +ℤ to_z w64 a)) +ℤ pos (2 ^ 61)) ((step +ℤ pos a) +ℤ pos (2 ^ 61)) (2 ^ 60 + 2 ^ 32 + 2 ^ 61)
outer step a h k = plus (at w64 (inner step a h k) tt) (lit (2 ^ 61))

pub overflow_add-v : goal.overflow_add-v
overflow_add-v c = fits w64 (inner c.args.step c.args.a c.requires c.ranges.a.fits) tt

pub overflow_add-v-2 : goal.overflow_add-v-2
overflow_add-v-2 c = fits w64 (outer c.args.step c.args.a c.requires c.ranges.a.fits) tt

pub overflow_cast-result : goal.overflow_cast-result
overflow_cast-result c =
    let n = at w64 (outer c.args.step c.args.a c.requires c.ranges.a.fits) tt in
    rw (n.is, turn_sum c.args.step c.args.a c.requires c.ranges.a.fits) (tt, omega (arith, n.size))

pub overflow_cast-result-2 : goal.overflow_cast-result-2
overflow_cast-result-2 c = record { fits = mod-lt _ (lit< tt) }

pub returns : goal.returns
returns c = rw (at w64 (outer c.args.step c.args.a c.requires c.ranges.a.fits) tt).is (turn_rest c.args.step c.args.a c.requires)
