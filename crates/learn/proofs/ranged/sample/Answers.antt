-- `learn::ranged::sample` meets its contract. Assumes nothing.
use Prim.Native.Nat.{◌^◌}
use native.Mathlib.Omega.{arith}
use lib.IntN.{ℤ, ◌+ℤ◌, ◌*ℤ◌}
use mir.Syntax.{w16, w64}
use mir.Val.{SFits, to_z, of_z}
use Rattle.laws.proofs.Size.{Num, arg, arg_le, at, fits, plus, times}
use Rattle.learn.specs.Learning.{sample_of}
use Rattle.learn.proofs.ranged.sample.Goals as goal

-- a 16-bit number in 64 bits
abbrev wide : ℤ → ℤ
wide z = to_z w64 (of_z w64 (to_z w16 (of_z w16 z)))

-- a square of a 16-bit number
squared : {z : ℤ} → SFits w16 z → Num (wide z *ℤ wide z) (z *ℤ z) (2 ^ 30)
squared h = times (at w64 (arg h) tt) (at w64 (arg h) tt)

-- |y|^2
squares : {x y : ℤ} → SFits w16 x → SFits w16 y →
    Num (to_z w64 (of_z w64 (wide x *ℤ wide x)) +ℤ to_z w64 (of_z w64 (wide y *ℤ wide y))) (x *ℤ x +ℤ y *ℤ y) (2 ^ 31)
squares h k = plus (at w64 (squared h) tt) (at w64 (squared k) tt)

pub overflow_cast-i : goal.overflow_cast-i
overflow_cast-i c = fits w64 (arg c.ranges.yi) tt

pub overflow_cast-q : goal.overflow_cast-q
overflow_cast-q c = fits w64 (arg c.ranges.yq) tt

pub overflow_mul-result : goal.overflow_mul-result
overflow_mul-result c = fits w64 (squared c.ranges.yi) tt

pub overflow_mul-result-2 : goal.overflow_mul-result-2
overflow_mul-result-2 c = fits w64 (squared c.ranges.yq) tt

pub overflow_add-result : goal.overflow_add-result
overflow_add-result c = fits w64 (squares c.ranges.yi c.ranges.yq) tt

pub overflow_add-result-2 : goal.overflow_add-result-2
overflow_add-result-2 c = fits w64 (plus (at w64 (squares c.ranges.yi c.ranges.yq) tt) (arg_le (2 ^ 33) c.ranges.best c.requires)) tt

pub returns : goal.returns
unfolding sample_of
returns c =
    let n = at w64 (plus (at w64 (squares c.ranges.yi c.ranges.yq) tt) (arg_le (2 ^ 33) c.ranges.best c.requires)) tt in
    (n.is, rw n.is (omega (arith, n.size)))
