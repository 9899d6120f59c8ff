-- `eq_train::ranged::conj_product` meets its contract: products of 16-bit numbers are far from the ends of an i64. Assumes nothing.
use mathlib.Core.Path.{refl}
use lib.IntN.{ℤ, ◌+ℤ◌, ◌-ℤ◌, ◌*ℤ◌}
use mir.Syntax.{w16, w64}
use mir.Val.{SFits, to_z, of_z}
use Rattle.laws.proofs.Size.{Num, arg, times, plus, less, at, fits}
use Rattle.eq_train.specs.Train.{conj_product}
use Rattle.eq_train.proofs.ranged.conj_product.Goals as goal

-- a 16-bit number in an i64
abbrev wide : ℤ → ℤ
wide z = to_z w64 (of_z w64 (to_z w16 (of_z w16 z)))

short : {z : ℤ} → SFits w16 z → Num (wide z) z 32768
short h = at w64 (arg h) tt

product : {a b : ℤ} → SFits w16 a → SFits w16 b → Num (wide a *ℤ wide b) (a *ℤ b) 1073741824
product h k = times (short h) (short k)

sum_of : {a b c d : ℤ} → SFits w16 a → SFits w16 b → SFits w16 c → SFits w16 d →
    Num (to_z w64 (of_z w64 (wide a *ℤ wide b)) +ℤ to_z w64 (of_z w64 (wide c *ℤ wide d))) (a *ℤ b +ℤ c *ℤ d) 2147483648
sum_of h k i j = plus (at w64 (product h k) tt) (at w64 (product i j) tt)

dif-of : {a b c d : ℤ} → SFits w16 a → SFits w16 b → SFits w16 c → SFits w16 d →
    Num (to_z w64 (of_z w64 (wide a *ℤ wide b)) -ℤ to_z w64 (of_z w64 (wide c *ℤ wide d))) (a *ℤ b -ℤ c *ℤ d) 2147483648
dif-of h k i j = less (at w64 (product h k) tt) (at w64 (product i j) tt)

pub overflow_cast-xr : goal.overflow_cast-xr
overflow_cast-xr c = fits w64 (arg c.ranges.ar) tt

pub overflow_cast-xi : goal.overflow_cast-xi
overflow_cast-xi c = fits w64 (arg c.ranges.ai) tt

pub overflow_cast-yr : goal.overflow_cast-yr
overflow_cast-yr c = fits w64 (arg c.ranges.br) tt

pub overflow_cast-yi : goal.overflow_cast-yi
overflow_cast-yi c = fits w64 (arg c.ranges.bi) tt

pub overflow_mul-result : goal.overflow_mul-result
overflow_mul-result c = fits w64 (product c.ranges.ar c.ranges.br) tt

pub overflow_mul-result-2 : goal.overflow_mul-result-2
overflow_mul-result-2 c = fits w64 (product c.ranges.ai c.ranges.bi) tt

pub overflow_add-result : goal.overflow_add-result
overflow_add-result c = fits w64 (sum_of c.ranges.ar c.ranges.br c.ranges.ai c.ranges.bi) tt

pub overflow_mul-result-3 : goal.overflow_mul-result-3
overflow_mul-result-3 c = fits w64 (product c.ranges.ar c.ranges.bi) tt

pub overflow_mul-result-4 : goal.overflow_mul-result-4
overflow_mul-result-4 c = fits w64 (product c.ranges.ai c.ranges.br) tt

pub overflow_sub-result : goal.overflow_sub-result
overflow_sub-result c = fits w64 (dif-of c.ranges.ar c.ranges.bi c.ranges.ai c.ranges.br) tt

pub returns : goal.returns
unfolding conj_product
returns c =
    let f = c.ranges in
    let re = at w64 (sum_of f.ar f.br f.ai f.bi) tt in
    let im = at w64 (dif-of f.ar f.bi f.ai f.br) tt in
    rw (re.is, im.is) (refl, re.size, im.size)
