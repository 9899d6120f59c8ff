-- `receiver_bench::left_of` meets its contract. Assumes nothing.
use Rattle.receiver_bench.proofs.left_of.Goals as goal

pub returns-in-Ok : goal.returns-in-Ok
returns-in-Ok c = rw c.in-Ok.is

pub returns-in-Err : goal.returns-in-Err
returns-in-Err c = rw (c.number.ensures, c.in-Err.is)
