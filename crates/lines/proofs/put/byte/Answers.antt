-- `lines::put::byte` meets its contract. Assumes nothing.
use mathlib.Core.Path.{refl}
use lib.ListN.{length-set}
use native.Mathlib.Omega.{arith}
use Rattle.lines.proofs.Laws.{one_written}
use Rattle.lines.proofs.put.byte.Goals as goal

pub returns : goal.returns
returns c =
    let o = c.args.out.now in
    let w = one_written o c.args.at c.args.b (omega arith) in
    record { fits = omega arith; is = w; behind = refl; long = length-set o c.args.at c.args.b }
