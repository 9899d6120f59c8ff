-- `eq_calls::calls::load` meets its contract. Assumes nothing.
use Rattle.eq_calls.specs.Calls.{load_call}
use Rattle.eq_calls.proofs.calls.load.Goals as goal

pub returns : goal.returns
unfolding load_call
returns c = rw (c.answer.ensures, c.load.ensures, c.of_bits.ensures, c.parts.ensures)
