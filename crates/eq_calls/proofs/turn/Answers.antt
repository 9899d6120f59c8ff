-- `eq_calls::turn` meets its contract. Assumes nothing.
use native.Mathlib.Omega.{arith}
use Rattle.eq_calls.specs.Turns.{turn_of}
use borrow.Author.Rules.{rules}
use Rattle.eq_calls.proofs.turn.Goals as goal

pub other-requires : goal.other-requires
other-requires c = omega arith

pub returns-in-0 : goal.returns-in-0
unfolding turn_of
returns-in-0 c = rw (c.in-0.is, c.same.ensures)

pub returns-in-1 : goal.returns-in-1
unfolding turn_of
returns-in-1 c = rw (c.in-1.is, c.new.ensures)

pub returns-in-2 : goal.returns-in-2
unfolding turn_of
returns-in-2 c = rw (c.in-2.is, c.restart.ensures)

pub returns-in-3 : goal.returns-in-3
unfolding turn_of
returns-in-3 c = rw (c.in-3.is, c.push.ensures)

pub returns-in-4 : goal.returns-in-4
unfolding turn_of
returns-in-4 c = rw c.in-4.is (search rules)

pub returns-in-5 : goal.returns-in-5
unfolding turn_of
returns-in-5 c = rw (c.in-5.is, c.open.ensures)

pub returns-in-6 : goal.returns-in-6
unfolding turn_of
returns-in-6 c = rw (c.in-6.is, c.train.ensures)

pub returns-in-7 : goal.returns-in-7
unfolding turn_of
returns-in-7 c = rw (c.in-7.is, c.close.ensures)

pub returns-in-8 : goal.returns-in-8
unfolding turn_of
returns-in-8 c = rw (c.in-8.is, c.load.ensures)

pub returns-in_default : goal.returns-in_default
returns-in_default c = c.other.ensures
