-- `phase_replay::calls::gain` meets its contract. Assumes nothing.
use Rattle.phase_replay.specs.Calls.{gain_call}
use mir.Facts.{to_z-of_z}
use Rattle.phase_replay.proofs.calls.gain.Goals as goal

pub returns : goal.returns
unfolding gain_call
returns c = rw (c.whole.ensures, rw (to_z-of_z (record { sfits = c.of_bits.type_inv })) at c.gain_of.ensures, c.of_bits.ensures)
