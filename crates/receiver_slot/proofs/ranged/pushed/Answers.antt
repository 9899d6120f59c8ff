use Rattle.receiver_slot.proofs.ranged.pushed.Goals as goal

pub pushed-requires : goal.pushed-requires
pushed-requires c = rw c.corrected-c.ensures c.requires.5

pub returns : goal.returns
returns c = rw (c.pushed.ensures, c.corrected-c.ensures)
