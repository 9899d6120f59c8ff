-- `receiver::plain::kept_of` meets its contract. Assumes nothing.
use Rattle.laws.proofs.Size.{back}
use Rattle.receiver.specs.Started.{kept_of}
use mir.Syntax.{w32}
use Rattle.receiver.proofs.plain.kept_of.Goals as goal

pub returns : goal.returns
unfolding kept_of
returns c = rw (back w32 c.args.r.front.nco.freq c.struct_told-1.given.1.0.1)
