-- `demap_replay::calls::figure` meets its contract. Assumes nothing.
use Rattle.demap_replay.specs.Calls.{figure_call}
use Rattle.demap_replay.proofs.calls.figure.Goals as goal

pub returns-in-Ok : goal.returns-in-Ok
unfolding figure_call
returns-in-Ok c = rw (c.figure.ensures, ← c.in-Ok.ensures)

pub returns-in-Err : goal.returns-in-Err
unfolding figure_call
returns-in-Err c = rw (c.single.ensures, c.number.ensures, ← c.in-Err.ensures)
