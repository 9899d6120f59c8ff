-- The results of the parts, put together. Assumes nothing.
use Rattle.sync.specs.Sync.{window_after}
use Rattle.sync_block.proofs.Laws.{window_length}
use Rattle.sync_block.specs.Quiet.{roll_one}
use Rattle.sync_step.proofs.Laws.{counted_sum}
use mathlib.Core.Path.{◌≡◌}
use mir.Facts.{to_z-of_z}
use native.Mathlib.Omega.{arith}
use Rattle.sync_block.proofs.ranged.one.Goals as goal

pub returns : goal.returns
unfolding roll_one
returns c =
    let v : c.shift.new.win ≡ window_after c.args.win.now c.args.i c.args.q = rw (to_z-of_z c.ranges.i, to_z-of_z c.ranges.q) at c.shift.ensures in (
      rw (c.counted.ensures, c.leak-a.ensures, c.size.ensures, c.dots-b.ensures.0, v),
      rw c.counted.ensures (omega (arith, counted_sum c.args.y c.args.p c.leak-a.result, c.leak-a.type_inv)),
      rw v (window_length c.args.win.now c.args.i c.args.q c.requires.0),
    )
