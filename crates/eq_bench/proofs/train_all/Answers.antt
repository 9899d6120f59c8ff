-- `eq_bench::train_all` meets its contract. Assumes nothing.
use mathlib.Core.List.{List}
use mathlib.Core.Path.{◌≡◌, ap, ◌∙◌}
use Prim.Native.Nat.{◌+◌, ◌*◌, ◌/◌}
use native.Mathlib.Omega.{arith}
use lib.IntN.{ℤ, pos}
use lib.ListN.{length, get_or}
use mir.Facts.{to_z-of_z}
use mir.Syntax.{w16}
use Rattle.eq_fir.specs.Fir.{no_line}
use Rattle.laws.proofs.Size.{back}
use Rattle.eq_bench.proofs.Laws.{none_trained, train_more, trainable, line_long}
use Rattle.eq_bench.proofs.train_all.Goals as goal

pub loop-k-init : goal.loop-k-init
unfolding no_line
loop-k-init c = (omega arith, none_trained _ _ _ c.new-s.result c.new-s.ensures)

pub shift-requires : goal.shift-requires
shift-requires c = c.loop-k.invariant.1.short.long

pub train-s-requires : goal.train-s-requires
train-s-requires c =
    let h = c.loop-k in (
      trainable _ _ _ h.k h.line h.s (omega (arith, c.requires, c.loop-k-test.true)) h.invariant.1,
      ap (λ (l : List ℤ). length l) c.shift.ensures ∙ line_long h.line _ _ h.invariant.1.short.long,
    )

pub loop-k-preserved : goal.loop-k-preserved
loop-k-preserved c =
    let h = c.loop-k in
    let l = c.loop-k-test.true in
    let gi = c.shift-arg-1.given in
    let gq = c.shift-arg-in-loop-k-1.given in
    let ys = c.args.ys.now in
    let x = back w16 (get_or ys (2 * h.k) (pos 0)) gi in
    let y = back w16 (get_or ys (2 * h.k + 1) (pos 0)) gq in
    let hi = to_z-of_z c.ranges.di in
    let hq = to_z-of_z c.ranges.dq in (
      omega (arith, l),
      train_more ys _ _ h.k h.line _ h.s c.train-s.result (record { sfits = gi }) (record { sfits = gq }) (rw hi c.ranges.di) (rw hq c.ranges.dq) (omega (arith, c.requires, l)) h.invariant.1 (rw (x, y) at c.shift.ensures) c.train-s.ensures,
    )

pub returns : goal.returns
returns c =
    let h = c.loop-k in
    let e : h.k ≡ length c.args.ys.now / 2 = omega (arith, h.invariant.0, c.loop-k-test) in
    rw (e, to_z-of_z c.ranges.di, to_z-of_z c.ranges.dq) at h.invariant.1.is
