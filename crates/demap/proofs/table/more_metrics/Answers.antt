-- `demap::table::more_metrics` meets its contract: a turn is one label more. Assumes nothing.
use mathlib.Core.Path.{◌≡◌}
use Prim.Native.Nat.{◌+◌, ◌*◌}
use native.Mathlib.Omega.{arith}
use lib.IntN.{pos}
use lib.ListN.{get_or, length-set}
use mir.Facts.{to_z-of_z}
use mir.Syntax.{w16, w64}
use mir.Val.{SFits, to_z, of_z}
use Rattle.laws.proofs.Size.{back}
use Rattle.demap.specs.Folds.{label_by_twice}
use Rattle.demap.proofs.Tables.{holds_more}
use Rattle.demap.proofs.table.more_metrics.Goals as goal

pub loop-i-init : goal.loop-i-init
loop-i-init c = (omega arith, c.requires.5, rw (to_z-of_z c.ranges.ti, to_z-of_z c.ranges.tq) c.requires.6)

pub loop-i-preserved : goal.loop-i-preserved
unfolding label_by_twice
loop-i-preserved c =
    let L = c.loop-i in
    let P = c.args.points.now in
    let f = label_by_twice (to_z w64 (of_z w64 c.args.ti)) (to_z w64 (of_z w64 c.args.tq)) P in
    let k1 : SFits w16 (get_or P (2 * L.i) (pos 0)) = record { sfits = c.by_twice-arg-1.given } in
    let k2 : SFits w16 (get_or P (2 * L.i + 1) (pos 0)) = record { sfits = c.by_twice-arg-in-loop-i-1.given } in
    let g = rw (to_z-of_z k1, to_z-of_z k2) at c.by_twice.ensures in
    let r = back w64 c.by_twice.result c.by_twice.type_inv in (
      omega arith,
      rw (length-set _ _ _) L.invariant.1,
      rw r (holds_more f L.i L.m c.by_twice.result (omega arith) g.0 g.1 L.invariant.2),
    )

pub returns : goal.returns
returns c =
    let e : c.loop-i.i ≡ c.args.n = omega arith in
    (c.loop-i.invariant.1, rw (e, to_z-of_z c.ranges.ti, to_z-of_z c.ranges.tq) at c.loop-i.invariant.2)
