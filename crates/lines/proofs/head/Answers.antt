-- `lines::head` meets its contract. Assumes nothing.
use Rattle.lines.specs.Lines.{head_line}
use Rattle.lines.proofs.Laws.{then}
use Rattle.lines.proofs.head.Goals as goal

pub returns : goal.returns
unfolding head_line
returns c =
    let t = c.text-a.ensures in
    let a = c.number_then-b.ensures.0 in
    let l = rw c.letter.ensures at c.text-c.ensures in
    then (then (then t a) l) c.slot.ensures
