-- `eq_fir::ranged::add_im` meets its contract, by the sizes of the sum and of the products. Assumes nothing.
use Prim.Native.Nat.{◌^◌}
use Rattle.laws.proofs.Size.{arg, arg_le, at, fits, plus, times}
use lib.IntN.{nat_abs}
use mathlib.Core.Path.{refl}
use mir.Syntax.{w64}
use native.Mathlib.Nat.{le_refl}
use Rattle.eq_fir.proofs.ranged.add_im.Goals as goal

pub overflow_cast-result : goal.overflow_cast-result
overflow_cast-result c = fits w64 (arg c.ranges.wr) tt

pub overflow_cast-result-2 : goal.overflow_cast-result-2
overflow_cast-result-2 c = fits w64 (arg c.ranges.xi) tt

pub overflow_mul-result : goal.overflow_mul-result
overflow_mul-result c = fits w64 (times (at w64 (arg c.ranges.wr) tt) (at w64 (arg c.ranges.xi) tt)) tt

pub overflow_cast-result-3 : goal.overflow_cast-result-3
overflow_cast-result-3 c = fits w64 (arg c.ranges.wi) tt

pub overflow_cast-result-4 : goal.overflow_cast-result-4
overflow_cast-result-4 c = fits w64 (arg c.ranges.xr) tt

pub overflow_mul-result-2 : goal.overflow_mul-result-2
overflow_mul-result-2 c = fits w64 (times (at w64 (arg c.ranges.wi) tt) (at w64 (arg c.ranges.xr) tt)) tt

pub overflow_add-result : goal.overflow_add-result
overflow_add-result c =
    let p = at w64 (times (at w64 (arg c.ranges.wr) tt) (at w64 (arg c.ranges.xi) tt)) tt in
    let q = at w64 (times (at w64 (arg c.ranges.wi) tt) (at w64 (arg c.ranges.xr) tt)) tt in
    fits w64 (plus p q) tt

pub overflow_add-result-2 : goal.overflow_add-result-2
overflow_add-result-2 c =
    let p = at w64 (times (at w64 (arg c.ranges.wr) tt) (at w64 (arg c.ranges.xi) tt)) tt in
    let q = at w64 (times (at w64 (arg c.ranges.wi) tt) (at w64 (arg c.ranges.xr) tt)) tt in
    fits w64 (plus (arg_le (2 ^ 40) c.ranges.a c.requires) (at w64 (plus p q) tt)) tt

pub returns : goal.returns
returns c =
    let p = at w64 (times (at w64 (arg c.ranges.wr) tt) (at w64 (arg c.ranges.xi) tt)) tt in
    let q = at w64 (times (at w64 (arg c.ranges.wi) tt) (at w64 (arg c.ranges.xr) tt)) tt in
    let d = at w64 (plus p q) tt in
    let s = at w64 (plus (arg_le (2 ^ 40) c.ranges.a c.requires) d) tt in
    let t = plus (arg_le (nat_abs c.args.a) c.ranges.a (le_refl (nat_abs c.args.a))) d in
    rw s.is (refl, t.size)
