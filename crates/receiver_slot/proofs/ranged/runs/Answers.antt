use Rattle.receiver_slot.specs.Steps.{runs_from}
use Rattle.receiver_slot.proofs.Aligned.{joined_few}
use Rattle.receiver_slot.proofs.ranged.runs.Goals as goal

pub tail-requires : goal.tail-requires
tail-requires c =
    rw c.joined_to-from.ensures (joined_few c.args.b c.args.at c.requires.1)

pub returns : goal.returns
unfolding runs_from
returns c = rw (c.tail.ensures, c.joined_to-from.ensures)
