-- `receiver_calls::played` meets its contract. Assumes nothing.
use Rattle.receiver_calls.specs.Calls.{played_as, played_turn}
use Rattle.receiver_calls.proofs.played.Goals as goal

pub returns-in-Ok : goal.returns-in-Ok
unfolding played_turn played_as
returns-in-Ok c = rw (c.turned.ensures, c.played.ensures, c.with_played.ensures, c.in-Ok.is)

pub returns-in-Err : goal.returns-in-Err
unfolding played_turn played_as
returns-in-Err c = rw (c.turned-in-Err.ensures, c.played-in-Err.ensures, c.with_played-in-Err.ensures, c.number.ensures, c.no_events-e.ensures, c.no_runs.ensures, c.in-Err.is)
