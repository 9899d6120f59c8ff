-- `eq_bench::filter_all` meets its contract. Assumes nothing.
use mathlib.Core.List.{List}
use mathlib.Core.Path.{ap, ◌≡◌, refl, ◌∙◌}
use Prim.Native.Nat.{◌<◌, ◌^◌, ◌+◌, ◌*◌, ◌/◌}
use native.Mathlib.Omega.{arith}
use lib.IntN.{ℤ, pos}
use lib.ListN.{get_or, length, set, length-set}
use lib.Signed.{mag}
use mir.Syntax.{w16}
use Rattle.laws.proofs.Size.{back}
use Rattle.eq_bench.proofs.Laws.{filter_more, line_long}
use Rattle.eq_bench.specs.Blocks.{filtered, filtered_by}
use Rattle.eq_bench.proofs.filter_all.Goals as goal

pub loop-k-init : goal.loop-k-init
unfolding filtered_by
loop-k-init c = (omega arith, refl, c.requires.1, refl)

pub output-z-requires : goal.output-z-requires
output-z-requires c =
    let h = c.loop-k in
    (c.requires.0, ap (λ (l : List ℤ). length l) c.shift.ensures ∙ line_long h.line _ _ h.invariant.2)

pub bounds-out-k-in-loop-k : goal.bounds-out-k-in-loop-k
bounds-out-k-in-loop-k c =
    let h = c.loop-k in
    rw (length-set h.out _ _) (omega (arith, h.invariant.3, c.loop-k-test.true, c.requires.2))

pub loop-k-preserved : goal.loop-k-preserved
loop-k-preserved c =
    let h = c.loop-k in
    let a = c.args in
    let z = c.output-z in
    let hi : mag z.result.i < 2 ^ 15 = search in
    let hq : mag z.result.q < 2 ^ 15 = search in
    let x = back w16 (get_or a.ys.now (2 * h.k) (pos 0)) c.shift-arg-in-loop-k-1.given in
    let y = back w16 (get_or a.ys.now (2 * h.k + 1) (pos 0)) c.shift-arg-in-loop-k-2-1.given in
    let e = rw (x, y) at c.shift.ensures in
    rw (back w16 z.result.i hi, back w16 z.result.q hq) (
      omega (arith, c.loop-k-test.true),
      filter_more a.rows.now a.ys.now h.k (filtered a.line.now a.out.now) (filtered h.line h.out) _ z.result h.invariant.1 e z.ensures,
      ap (λ (l : List ℤ). length l) e ∙ line_long h.line _ _ h.invariant.2,
      length-set (set h.out (2 * h.k) z.result.i) (2 * h.k + 1) z.result.q ∙ length-set h.out (2 * h.k) z.result.i ∙ h.invariant.3,
    )

pub returns : goal.returns
returns c =
    let h = c.loop-k in
    let a = c.args in
    let e : h.k ≡ length a.ys.now / 2 = omega (arith, h.invariant.0, c.loop-k-test) in
    rw e at h.invariant.1
