-- `lines::written` meets its contract. Assumes nothing.
use Rattle.lines.specs.Lines.{soft_line}
use Rattle.lines.proofs.Laws.{then}
use Rattle.lines.proofs.written.Goals as goal

pub returns : goal.returns
unfolding soft_line
returns c =
    let j = rw c.from.ensures at c.number-c.ensures.0 in
    then (then (then c.text-a.ensures c.number_then-b.ensures.0) j) c.values.ensures
