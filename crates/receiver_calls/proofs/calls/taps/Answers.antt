-- `receiver_calls::calls::taps` meets its contract. Assumes nothing.
use Rattle.receiver_calls.specs.Calls.{taps_call}
use Rattle.receiver_calls.proofs.calls.taps.Goals as goal

pub returns : goal.returns
unfolding taps_call
returns c = rw (c.answered.ensures, c.load_taps.ensures, c.of_bits.ensures, c.parts-t.ensures)
