-- `eq_calls::calls::train` meets its contract. Assumes nothing.
use Rattle.laws.proofs.Size.{back}
use mir.Syntax.{w16}
use Rattle.eq_calls.specs.Calls.{train_call}
use Rattle.eq_calls.proofs.calls.train.Goals as goal

pub returns : goal.returns
unfolding train_call
returns c = rw (c.answer.ensures, c.train.ensures, back w16 c.of_bits-2.result c.of_bits-2.type_inv, back w16 c.of_bits.result c.of_bits.type_inv, c.of_bits-2.ensures, c.of_bits.ensures)
