-- `demap_replay::told::bits8` meets its contract. Assumes nothing.
use Rattle.laws.proofs.Size.{arg, fits}
use mir.Facts.{to_z-of_z}
use mir.Syntax.{w16}
use Rattle.demap_replay.proofs.told.bits8.Goals as goal

pub overflow_cast-v : goal.overflow_cast-v
overflow_cast-v c = fits w16 (arg c.ranges.v) tt

pub returns : goal.returns
returns c = rw (c.to_bits.ensures, to_z-of_z (overflow_cast-v c.before), to_z-of_z c.ranges.v)
