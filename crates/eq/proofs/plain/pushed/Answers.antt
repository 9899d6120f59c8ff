use Prim.Native.Nat.{◌+◌, min}
use Rattle.eq.specs.Eq.{pushed_eq}
use mathlib.Core.Path.{◌≡◌}
use mir.Facts.{to_z-of_z}
use native.Mathlib.Omega.{arith}
use Rattle.eq.proofs.plain.pushed.Goals.{then-filled-lt11, else-filled-lt11}
use Rattle.eq.proofs.plain.pushed.Goals as goal

pub returns : goal.returns
unfolding pushed_eq
returns c =
    let g = rw (to_z-of_z c.ranges.i, to_z-of_z c.ranges.q) at c.shift.ensures in
    let n : min (c.args.e.filled + 1) 11 ≡ c.if-filled-lt11.result =
    elim c.if-filled-lt11.branch [
      | then-filled-lt11 w ↦ omega (arith, w.if-filled-lt11, w.result-is)
      | else-filled-lt11 w ↦ omega (arith, w.if-filled-lt11, w.result-is)
    ] in
    rw (n, g)
