-- `eq_calls::given::numbers_put` meets its contract. Assumes nothing.
use Rattle.eq_calls.specs.Given.{numbers_put}
use Rattle.eq_calls.proofs.given.numbers_put.Goals as goal

pub returns : goal.returns
unfolding numbers_put
returns c = rw (c.from_at.ensures, c.of_bits.ensures, c.of_bits-2.ensures, c.of_bits-3.ensures)
