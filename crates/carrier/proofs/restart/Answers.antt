-- `carrier::restart` meets its contract: one case at each return. Assumes nothing.
use Prim.Native.Nat.{◌<◌, ◌^◌}
use lib.Signed.{mag}
use mir.Syntax.{w32}
use Rattle.laws.proofs.Size.{back}
use Rattle.laws.specs.Choice.{cases}
use Rattle.carrier.specs.Answers.{restart_answer}
use Rattle.carrier.proofs.restart.Goals as goal

pub returns-then-in_range : goal.returns-then-in_range
unfolding restart_answer
returns-then-in_range c =
    let n = c.args.n in
    let f : mag n.freq < 2 ^ 31 = search in
    rw (c.started.ensures, back w32 n.freq f, ← c.in_range.ensures) (search cases)

pub returns-else-in_range : goal.returns-else-in_range
unfolding restart_answer
returns-else-in_range c = rw (← c.in_range.ensures) (search cases)
