-- `sync_heads::ranged::head_of` meets its contract: what the CORDIC gave for a small correlation. Assumes nothing.
use Rattle.std.proofs.Common.{◌^◌, ◌<◌, arith, w64}
use Rattle.laws.proofs.Size.{back, fits}
use Rattle.sync_heads.proofs.Laws.{part, wide}
use Rattle.sync_heads.specs.Heads.{head_of}
use lib.Signed.{mag}
use Rattle.sync_heads.proofs.ranged.head_of.Goals as goal

pub overflow_cast-w : goal.overflow_cast-w
overflow_cast-w c = fits w64 (part c.args.w.corr.re c.requires.re) tt

pub overflow_cast-w-2 : goal.overflow_cast-w-2
overflow_cast-w-2 c = fits w64 (part c.args.w.corr.im c.requires.im) tt

pub cordic-p-requires : goal.cordic-p-requires
cordic-p-requires c =
    let m = wide c.args.w.corr.re c.requires.re in
    let n = wide c.args.w.corr.im c.requires.im in
    rw (m.is, n.is) (omega (arith, m.size, n.size))

pub returns : goal.returns
unfolding head_of
returns c =
    let r = c.cordic-p in
    let h : mag r.result.size < 2 ^ 63 = search in
    let e = rw ((wide c.args.w.corr.re c.requires.re).is, (wide c.args.w.corr.im c.requires.im).is) at r.ensures in
    rw (back w64 r.result.size h, e)
