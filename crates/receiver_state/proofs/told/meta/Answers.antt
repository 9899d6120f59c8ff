-- `receiver_state::told::meta` meets its contract. Assumes nothing.
use native.Mathlib.Omega.{arith}
use Rattle.receiver_state.specs.Told.{meta_at_of}
use Rattle.receiver_state.proofs.Laws.{fifth_is}
use Rattle.receiver_state.proofs.told.meta.Goals as goal

pub returns-in-0 : goal.returns-in-0
unfolding meta_at_of
returns-in-0 c = rw c.in-0.is

pub returns-in-1 : goal.returns-in-1
unfolding meta_at_of
returns-in-1 c = rw c.in-1.is

pub returns-in-2 : goal.returns-in-2
unfolding meta_at_of
returns-in-2 c = rw c.in-2.is

pub returns-in-3 : goal.returns-in-3
unfolding meta_at_of
returns-in-3 c = rw c.in-3.is

pub returns-in_default : goal.returns-in_default
returns-in_default c = fifth_is c.args.w c.args.k (omega arith)
