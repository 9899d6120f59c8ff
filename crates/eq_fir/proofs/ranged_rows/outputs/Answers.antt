-- The loop has written the numbers of k outputs. Assumes nothing.
use Prim.Native.Nat.{◌+◌, ◌*◌, ◌<◌, ◌^◌}
use Rattle.eq_fir.proofs.Windows.{outputs_i, outputs_q, outputs_step}
use Rattle.angles.specs.declared.Symbol.{Symbol}
use Rattle.eq_fir.specs.Rows.{outputs_by}
use Rattle.laws.proofs.Size.{back}
use Rattle.laws.specs.Ranges.{firsts}
use lib.IntN.{ℤ}
use lib.ListN.{length-set, set}
use lib.Signed.{mag}
use mathlib.Core.List.{List}
use mathlib.Core.Path.{◌∙◌, ◌≡◌, ap, refl}
use mir.Syntax.{w16}
use native.Mathlib.Omega.{arith}
use Rattle.eq_fir.proofs.ranged_rows.outputs.Goals as goal

pub loop-k-init : goal.loop-k-init
unfolding firsts
loop-k-init c = (omega arith, refl, refl)

pub bounds-out-k-in-loop-k : goal.bounds-out-k-in-loop-k
bounds-out-k-in-loop-k c =
    let L = c.loop-k in
    let t = c.loop-k-test.true in
    rw (length-set L.out _ _) (omega (arith, L.invariant.2, t, c.requires.3))

pub loop-k-preserved : goal.loop-k-preserved
loop-k-preserved c =
    let L = c.loop-k in
    let a = c.args in
    let t = c.loop-k-test.true in
    let z = c.output_at-z in
    let hi : mag z.result.i < 2 ^ 15 = search in
    let hq : mag z.result.q < 2 ^ 15 = search in
    let f = outputs_by a.rows.now a.l.now a.end in
    let i = ap (λ (y : Symbol). y.i) z.ensures ∙ outputs_i a.rows.now a.l.now a.end L.k in
    let q = ap (λ (y : Symbol). y.q) z.ensures ∙ outputs_q a.rows.now a.l.now a.end L.k in
    rw (back w16 z.result.i hi, back w16 z.result.q hq) (
      omega (arith, t),
      ap (λ (m : List ℤ). set (set m (2 * L.k) z.result.i) (2 * L.k + 1) z.result.q) L.invariant.1 ∙ outputs_step f a.out.now L.k z.result.i z.result.q i q (omega (arith, t, c.requires.3)),
      length-set (set L.out (2 * L.k) z.result.i) (2 * L.k + 1) z.result.q ∙ length-set L.out (2 * L.k) z.result.i ∙ L.invariant.2,
    )

pub returns : goal.returns
returns c =
    let L = c.loop-k in
    let e : L.k ≡ c.args.n = omega arith in
    rw e at L.invariant.1
