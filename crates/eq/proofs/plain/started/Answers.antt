use Rattle.eq_fir.specs.Fir.{no_line}
use Rattle.eq.specs.Eq.{started_eq}
use Rattle.eq.proofs.plain.started.Goals as goal

pub returns : goal.returns
unfolding started_eq no_line
returns c = rw c.new.ensures
