-- `receiver::starts::new_kept` meets its contract. Assumes nothing.
use Rattle.eq.specs.Eq.{new_eq, started_eq}
use Rattle.receiver.specs.Started.{new_kept}
use mir.Facts.{to_z-of_z}
use mir.Syntax.{w32}
use Rattle.receiver.proofs.starts.new_kept.Goals as goal

pub returns : goal.returns
unfolding new_kept new_eq started_eq
returns c = rw (c.no_points.ensures, c.new-e.ensures, to_z-of_z {w = w32} c.ranges.step)
