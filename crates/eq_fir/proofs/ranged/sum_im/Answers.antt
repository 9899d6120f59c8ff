-- The sum of the products so far has at most 2^31 for each. Assumes nothing.
use Rattle.eq_fir.proofs.Laws.{Four, more_im, none_im, read}
use mathlib.Core.Path.{◌≡◌, refl}
use native.Mathlib.Omega.{arith}
use Rattle.eq_fir.proofs.ranged.sum_im.Goals as goal

pub loop-k-init : goal.loop-k-init
loop-k-init c = (omega arith, none_im c.args.taps.now c.args.line.now)

pub add_im-a-requires : goal.add_im-a-requires
add_im-a-requires c =
    rw (read c.loop-k.invariant.1 c.loop-k.invariant.0) (omega (arith, c.loop-k.invariant.1.small, c.loop-k.invariant.0))

pub loop-k-preserved : goal.loop-k-preserved
loop-k-preserved c =
    let o = c.args in
    let t = c.loop-k-test.true in
    let f : Four o.taps.now o.line.now c.loop-k.k =
    record { wr = record { sfits = c.add_im-arg-1.given }; wi = record { sfits = c.add_im-arg-in-loop-k-1.given }; xr = record { sfits = c.add_im-arg-in-loop-k-2-1.given }; xi = record { sfits = c.add_im-arg-in-loop-k-3-1.given } } in
    (omega (arith, t), more_im o.taps.now o.line.now c.loop-k.k _ c.add_im-a.result f c.loop-k.invariant.1 t c.add_im-a.ensures.0 c.add_im-a.ensures.1)

pub returns : goal.returns
returns c =
    let e : c.loop-k.k ≡ 11 = omega arith in
    rw (read c.loop-k.invariant.1 c.loop-k.invariant.0, ← e) (refl, omega (arith, c.loop-k.invariant.1.small, e))
