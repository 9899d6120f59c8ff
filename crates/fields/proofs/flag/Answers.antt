-- `fields::flag` meets its contract. Assumes nothing.
use Rattle.fields.proofs.Laws.{flag_byte}
use Rattle.fields.proofs.flag.Goals as goal

pub returns : goal.returns
returns c = rw c.from.ensures (flag_byte c.args.b)
