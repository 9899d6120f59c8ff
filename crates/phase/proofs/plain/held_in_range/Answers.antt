-- `phase::plain::held_in_range` meets its contract. Assumes nothing.
use Prim.Native.Nat.{◌<◌, ◌^◌}
use lib.Signed.{mag}
use mir.Syntax.{w64}
use Rattle.laws.proofs.Size.{back}
use Rattle.phase.specs.Ranges.{held_in_range}
use Rattle.phase.proofs.plain.held_in_range.Goals as goal

pub returns : goal.returns
unfolding held_in_range
returns c =
    let x = c.args.x in
    let h : mag x.head.amp < 2 ^ 63 = search in
    rw (rw (back w64 x.head.amp h) at c.wide.ensures)
