use Rattle.eq_fir.specs.Fir.{identity_taps}
use Rattle.eq.specs.Eq.{new_eq}
use Rattle.eq.proofs.new.Goals as goal

pub returns : goal.returns
unfolding new_eq identity_taps
returns c = c.started.ensures
