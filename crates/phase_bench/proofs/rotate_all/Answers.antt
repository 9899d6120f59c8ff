-- `phase_bench::rotate_all` meets its contract. Assumes nothing.
use mathlib.Core.Path.{◌∙◌, ◌≡◌, refl}
use Prim.Native.Nat.{◌+◌, ◌*◌, ◌/◌}
use native.Mathlib.Omega.{arith}
use lib.IntN.{pos}
use lib.ListN.{get_or, set, length-set, length}
use mir.Facts.{to_z-of_z}
use mir.Syntax.{w8, w16}
use Rattle.laws.proofs.Size.{back, sfits_abs}
use Rattle.phase_bench.proofs.Laws.{rotate_more}
use Rattle.phase_bench.specs.Blocks.{turned, rotated_all}
use Rattle.phase_bench.proofs.rotate_all.Goals as goal

-- src/lib.rt:16:5
pub loop-k-init : goal.loop-k-init
unfolding rotated_all
loop-k-init c = (omega arith, refl, refl)

-- src/lib.rt:21:9
pub bounds-out-k-in-loop-k : goal.bounds-out-k-in-loop-k
bounds-out-k-in-loop-k c =
    let h = c.loop-k in
    rw (length-set h.out _ _) (omega (arith, h.invariant.2, c.loop-k-test.true, c.requires.1))

-- src/lib.rt:16:5
pub loop-k-preserved : goal.loop-k-preserved
loop-k-preserved c =
    let h = c.loop-k in
    let a = c.args in
    let r = c.rotated-x in
    let ei = to_z-of_z (sfits_abs w16 r.result.i (omega (arith, r.ensures.1))) in
    let eq = to_z-of_z (sfits_abs w16 r.result.q (omega (arith, r.ensures.2))) in
    let x = back w8 (get_or a.xs.now (2 * h.k) (pos 0)) c.rotated-arg-1.given in
    let y = back w8 (get_or a.xs.now (2 * h.k + 1) (pos 0)) c.rotated-arg-in-loop-k-1.given in
    rw (ei, eq) (
      omega (arith, c.loop-k-test.true),
      rotate_more a.xs.now a.table.now h.k (turned a.n a.out.now) (turned h.r h.out) r.result c.advanced-r.result h.invariant.1 (rw (x, y) at r.ensures.0) c.advanced-r.ensures,
      length-set (set h.out (2 * h.k) r.result.i) (2 * h.k + 1) r.result.q ∙ length-set h.out (2 * h.k) r.result.i ∙ h.invariant.2,
    )

-- src/lib.rt:9:1
pub returns : goal.returns
returns c =
    let h = c.loop-k in
    let a = c.args in
    let e : h.k ≡ length a.xs.now / 2 = omega (arith, h.invariant.0, c.loop-k-test) in
    rw e at h.invariant.1
