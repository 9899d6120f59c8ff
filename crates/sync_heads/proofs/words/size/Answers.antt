-- `sync_heads::words::size` meets its contract: the size of a small correlation. Assumes nothing.
use Rattle.fx.specs.Fx.{mag_approx}
use Rattle.laws.proofs.Size.{back, fits}
use Rattle.sync_heads.proofs.Laws.{part, wide}
use Rattle.std.proofs.Common.{◌≡◌, pos, refl, ◌∙◌, arith, w64, to_z, of_z}
use Rattle.sync_heads.proofs.words.size.Goals as goal

pub overflow_cast-c : goal.overflow_cast-c
overflow_cast-c c = fits w64 (part c.args.c.re c.requires.re) tt

pub overflow_cast-c-2 : goal.overflow_cast-c-2
overflow_cast-c-2 c = fits w64 (part c.args.c.im c.requires.im) tt

pub mag_approx-requires : goal.mag_approx-requires
mag_approx-requires c =
    let m = wide c.args.c.re c.requires.re in
    let n = wide c.args.c.im c.requires.im in
    rw (m.is, n.is) (omega (arith, m.size, n.size))

pub returns : goal.returns
unfolding mag_approx
returns c =
    let r = c.mag_approx in
    let m = wide c.args.c.re c.requires.re in
    let n = wide c.args.c.im c.requires.im in
    let e : to_z w64 (of_z w64 r.result) ≡ pos (mag_approx c.args.c.re c.args.c.im) = back w64 r.result r.type_inv ∙ rw (m.is, n.is) at r.ensures in
    rw e (refl, omega (arith, c.requires))
