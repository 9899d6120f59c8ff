-- `receiver::plain::started` meets its contract. Assumes nothing.
use Rattle.laws.proofs.Size.{back}
use Rattle.receiver.specs.Started.{started}
use mir.Syntax.{w32}
use Rattle.receiver.proofs.plain.started.Goals as goal

pub returns : goal.returns
unfolding started
returns c =
    let k = c.args.k in
    rw (c.started-4.ensures, c.started-3.ensures, c.started-2.ensures, c.started.ensures, back w32 k.freq c.struct_told-1.given.1.0.1)
