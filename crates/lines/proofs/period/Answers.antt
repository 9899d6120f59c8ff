-- `lines::period` meets its contract. Assumes nothing.
use Rattle.std.specs.Prelude.{is_some}
use Rattle.lines.specs.Lines.{period_line}
use Rattle.lines.proofs.Laws.{then, bit_is}
use Rattle.lines.proofs.period.Goals as goal

pub returns : goal.returns
unfolding period_line
returns c =
    let t = c.text-a.ensures in
    let a = rw c.from.ensures at c.number_then-b.ensures.0 in
    let b = rw c.from-2.ensures at c.number_then-c.ensures.0 in
    let d = c.number_then-d.ensures.0 in
    let e = rw (c.from-3.ensures, c.is_some.ensures, bit_is (is_some c.args.p.offset)) at c.number_then.ensures.0 in
    then (then (then (then t a) b) d) e
