-- `eq_calls::calls::push` meets its contract. Assumes nothing.
use Rattle.laws.proofs.Size.{back}
use mir.Syntax.{w16}
use Rattle.eq_calls.specs.Calls.{push_call}
use Rattle.eq_calls.proofs.calls.push.Goals as goal

pub returns : goal.returns
unfolding push_call
returns c = rw (c.symbol.ensures, c.push.ensures, back w16 c.of_bits-2.result c.of_bits-2.type_inv, back w16 c.of_bits.result c.of_bits.type_inv, c.of_bits-2.ensures, c.of_bits.ensures)
