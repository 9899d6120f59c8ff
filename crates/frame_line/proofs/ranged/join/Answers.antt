-- `frame_line::ranged::join` meets its contract. Assumes nothing.
use Rattle.frame_line.specs.Line.{joined}
use Rattle.frame_line.proofs.ranged.join.Goals as goal

pub returns : goal.returns
unfolding joined
returns c =
    rw (
      c.placed.ensures,
      c.placed-2.ensures,
      c.placed-3.ensures,
      c.placed-4.ensures,
      c.placed-5.ensures,
    )
