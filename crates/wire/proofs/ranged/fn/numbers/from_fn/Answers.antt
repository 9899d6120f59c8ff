-- The closure of `wire::ranged::numbers` meets its contract. Assumes nothing.
use Rattle.wire.specs.Wire.{number_at}
use Rattle.wire.proofs.ranged.fn.numbers.from_fn.Goals as goal

pub returns : goal.returns
unfolding number_at
returns c = c.word.ensures
