-- `lines::put::number_then` meets its contract. Assumes nothing.
use native.Mathlib.Omega.{arith}
use Rattle.lines.proofs.Laws.{then}
use Rattle.lines.proofs.put.number_then.Goals as goal

pub returns : goal.returns
returns c =
    let N = c.number-a in
    let B = c.byte in
    (then N.ensures.0 B.ensures, omega (arith, N.ensures.1, B.ensures.behind))
