-- `lines::counted` meets its contract. Assumes nothing.
use Rattle.lines.proofs.Laws.{then}
use Rattle.lines.proofs.counted.Goals as goal

pub returns : goal.returns
returns c = then c.text-a.ensures c.number_then.ensures.0
