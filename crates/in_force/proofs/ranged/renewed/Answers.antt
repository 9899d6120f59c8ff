-- `in_force::ranged::renewed` meets its contract. Assumes nothing.
use mathlib.Core.Path.{◌≡◌}
use Prim.Native.Nat.{◌<◌, ◌^◌}
use lib.Signed.{mag}
use mir.Syntax.{w64}
use Rattle.demap.specs.Demap.{scale_of}
use Rattle.laws.proofs.Size.{back}
use Rattle.in_force.specs.InForce.{noise_after, renewed_of}
use Rattle.in_force.proofs.ranged.renewed.Goals as goal

pub returns : goal.returns
unfolding renewed_of
returns c =
    let f = c.args.f in
    let l = c.args.l in
    let n = c.noise_after-n0 in
    let s = c.scale-k in
    let p = c.all_pointed-learned in
    let h : mag f.n0 < 2 ^ 63 = search in
    let e : n.result ≡ noise_after l f.n0 = rw (back w64 f.n0 h) at n.ensures.0 in
    let k : s.result ≡ scale_of n.result = rw (back w64 n.result n.type_inv) at s.ensures in
    (rw (back w64 s.result s.type_inv, k, back w64 n.result n.type_inv, e, p.ensures.0), p.ensures.1)
