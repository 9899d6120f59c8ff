-- `frame_replay::told::eq_shown` meets its contract. Assumes nothing.
use Rattle.frame_replay.specs.Told.{eq_shown}
use Rattle.frame_replay.proofs.told.eq_shown.Goals as goal

pub returns : goal.returns
unfolding eq_shown
returns c = rw (c.sums_shown-d.ensures, c.flag-o.ensures, c.from_shown-c.ensures, c.of-b.ensures, c.of-a.ensures)
