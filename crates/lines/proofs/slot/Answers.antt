-- `lines::slot` meets its contract. Assumes nothing.
use Rattle.lines.specs.Lines.{slot_text}
use Rattle.lines.proofs.Laws.{then}
use Rattle.lines.proofs.slot.Goals as goal

pub returns-in-None : goal.returns-in-None
unfolding slot_text
returns-in-None c = rw c.in-None.is c.text.ensures

pub returns-in-Some : goal.returns-in-Some
unfolding slot_text
returns-in-Some c =
    let a = rw c.from.ensures at c.number_then-a.ensures.0 in
    let b = rw c.from-in-Some.ensures at c.number_then.ensures.0 in
    rw c.in-Some.is (then a b)
