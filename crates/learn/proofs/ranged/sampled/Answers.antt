-- `learn::ranged::sampled` meets its contract. Assumes nothing.
use mathlib.Core.Path.{◌≡◌}
use Prim.Native.Nat.{◌+◌, ◌^◌, ◌≤◌}
use native.Mathlib.Omega.{arith}
use lib.IntN.{ℤ, nat_abs, ◌+ℤ◌}
use mir.Facts.{to_z-of_z}
use mir.Syntax.{w64}
use mir.Val.{to_z, of_z}
use Rattle.laws.proofs.Size.{Num, at, fits, num, plus}
use Rattle.learn.specs.Learning.{sample_of, sampled_by}
use Rattle.learn.specs.Ranges.{LearnOk}
use Rattle.learn.specs.declared.Learn.{Learn}
use Rattle.learn.proofs.ranged.sampled.Goals as goal

pub sample-requires : goal.sample-requires
sample-requires c = rw (to_z-of_z c.ranges.best) c.requires.2

-- the noise with one more sample
more : (l : Learn) (z : ℤ) → LearnOk l → nat_abs z ≤ 2 ^ 34 → Num (to_z w64 (of_z w64 l.noise) +ℤ to_z w64 (of_z w64 z)) (l.noise +ℤ z) (2 ^ 60)
more l z ok h = let n = plus (at w64 (num l.noise (2 ^ 59 + 2 ^ 57) ok.noise) tt) (at w64 (num z (2 ^ 34) h) tt) in record { is = n.is; size = omega (arith, n.size) }

pub overflow_add-result : goal.overflow_add-result
overflow_add-result c =
    let p = c.sample in
    fits w64 (more c.args.l p.result c.requires.0 p.ensures.1) tt

pub returns : goal.returns
unfolding sampled_by
returns c =
    let p = c.sample in
    let e : p.result ≡ sample_of c.args.yi c.args.yq c.args.best =
    rw (to_z-of_z c.ranges.yi, to_z-of_z c.ranges.yq, to_z-of_z c.ranges.best) at p.ensures.0 in
    rw ((at w64 (more c.args.l p.result c.requires.0 p.ensures.1) tt).is, e)
