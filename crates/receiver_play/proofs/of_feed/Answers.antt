-- `receiver_play::of_feed` meets its contract. Assumes nothing.
use Rattle.receiver_play.specs.Play.{played_of}
use Rattle.receiver_play.proofs.of_feed.Goals as goal

pub returns-in-Ok : goal.returns-in-Ok
unfolding played_of
returns-in-Ok c = rw c.in-Ok.is

pub returns-in-Err : goal.returns-in-Err
unfolding played_of
returns-in-Err c = rw (c.refused_at.ensures, c.in-Err.is)
