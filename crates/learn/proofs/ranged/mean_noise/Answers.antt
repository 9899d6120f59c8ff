-- `learn::ranged::mean_noise` meets its contract. Assumes nothing.
use mathlib.Core.Path.{refl}
use Prim.Native.Nat.{◌+◌, ◌^◌, ◌<◌}
use native.Mathlib.Omega.{arith}
use lib.Signed.{mag}
use mir.Syntax.{w64}
use Rattle.laws.proofs.Size.{back}
use Rattle.learn.specs.Learning.{mean_noise}
use Rattle.learn.proofs.Between.{mean_size}
use Rattle.learn.proofs.Laws.{divisor}
use Rattle.learn.proofs.ranged.mean_noise.Goals as goal

pub div_round-requires : goal.div_round-requires
div_round-requires c =
    let l = c.args.l in
    let h : mag l.noise < 2 ^ 63 = search in
    let s : l.samples < 2 ^ 32 = search in
    let d = divisor l.samples c.requires.1 s in
    rw (back w64 l.noise h, d.0) (omega (arith, c.requires.0.noise), d.1, d.2)

pub returns : goal.returns
unfolding mean_noise
returns c =
    let l = c.args.l in
    let h : mag l.noise < 2 ^ 63 = search in
    let s : l.samples < 2 ^ 32 = search in
    let q = c.div_round in
    let d = divisor l.samples c.requires.1 s in
    let e = rw (back w64 l.noise h, d.0) at q.ensures in
    rw (back w64 q.result q.type_inv, e) (refl, mean_size l.noise l.samples (2 ^ 59 + 2 ^ 57) c.requires.1 c.requires.0.noise)
