-- `receiver_slot::ranged::ended` meets its contract. Assumes nothing.
use Rattle.receiver_slot.specs.Steps.{ended_of}
use Rattle.receiver_slot.proofs.ranged.ended.Goals as goal

pub returns : goal.returns
unfolding ended_of
returns c =
    rw (
      c.meta-5.ensures,
      c.meta-4.ensures,
      c.meta-3.ensures,
      c.meta-2.ensures,
      c.meta.ensures,
    )
