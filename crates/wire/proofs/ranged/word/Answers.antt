-- `wire::ranged::word` meets its contract. Assumes nothing.
use Rattle.std.proofs.Common.{◌∙◌, arith}
use Rattle.wire.specs.Wire.{word_at}
use Rattle.wire.proofs.ranged.word.Goals as goal

pub returns : goal.returns
unfolding word_at
returns c = c.from_le_bytes.ensures ∙ omega arith
