-- `phase_replay::calls::nco_new` meets its contract. Assumes nothing.
use Rattle.phase_replay.specs.Calls.{new_call}
use mir.Facts.{to_z-of_z}
use Rattle.phase_replay.proofs.calls.nco_new.Goals as goal

pub returns : goal.returns
unfolding new_call
returns c = rw (c.nco.ensures, rw (to_z-of_z (record { sfits = c.of_bits.type_inv })) at c.new-n.ensures, c.of_bits.ensures)
