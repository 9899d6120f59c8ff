-- `receiver_calls::calls::event_at` meets its contract. Assumes nothing.
use native.Mathlib.Omega.{arith}
use Rattle.receiver_calls.proofs.Laws.{event_third}
use Rattle.receiver_calls.specs.Calls.{event_at}
use Rattle.receiver_calls.proofs.calls.event_at.Goals as goal

pub returns-in-0 : goal.returns-in-0
unfolding event_at
returns-in-0 c = rw c.in-0.is

pub returns-in-1 : goal.returns-in-1
unfolding event_at
returns-in-1 c = rw c.in-1.is

pub returns-in_default : goal.returns-in_default
unfolding event_at
returns-in_default c = event_third c.args.e c.args.n (omega arith)
