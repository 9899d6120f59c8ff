-- `frame_replay::told::told` meets its contract. Assumes nothing.
use Rattle.frame_replay.specs.Told.{told_of}
use Rattle.frame_replay.proofs.told.told.Goals as goal

pub returns : goal.returns
unfolding told_of
returns c = rw (c.word_number.ensures, c.eq_shown-x.ensures, c.last_shown-l.ensures, c.slot_shown-s.ensures)
