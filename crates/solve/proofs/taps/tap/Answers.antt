-- `solve::taps::tap` meets its contract. Assumes nothing.
use Rattle.std.proofs.Common.{rules}
use Rattle.solve.specs.Taps.{tap_of}
use Rattle.solve.proofs.taps.tap.Goals as goal

pub returns : goal.returns
unfolding tap_of
returns c = search rules
