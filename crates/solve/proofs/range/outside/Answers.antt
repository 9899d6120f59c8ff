-- `solve::range::outside` meets its contract. Assumes nothing.
use Rattle.solve.specs.Answers.{outside_of}
use Rattle.solve.proofs.range.outside.Goals as goal

pub returns : goal.returns
unfolding outside_of
returns c = rw (c.any_wide-2.ensures, c.any_wide.ensures)
