-- `receiver_state::told::waiting` meets its contract. Assumes nothing.
use Rattle.receiver_state.specs.Told.{waiting_told}
use Rattle.receiver_state.proofs.told.waiting.Goals as goal

pub returns : goal.returns
unfolding waiting_told
returns c = rw (c.word_number.ensures, c.slot_shown-y.ensures, c.meta-m.ensures, c.last_shown-x.ensures)
