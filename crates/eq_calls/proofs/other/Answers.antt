-- `eq_calls::other` meets its contract. Assumes nothing.
use native.Mathlib.Omega.{arith}
use Rattle.eq_calls.specs.Turns.{turn_of}
use mathlib.Core.Path.{◌∙◌}
use Rattle.eq_calls.proofs.Laws.{turn_none}
use Rattle.eq_calls.proofs.other.Goals as goal

pub returns-in-9 : goal.returns-in-9
unfolding turn_of
returns-in-9 c = rw (c.in-9.is, c.line.ensures)

pub returns-in-10 : goal.returns-in-10
unfolding turn_of
returns-in-10 c = rw (c.in-10.is, c.taps.ensures)

pub returns-in-11 : goal.returns-in-11
unfolding turn_of
returns-in-11 c = rw (c.in-11.is, c.numbers.ensures)

pub returns-in-12 : goal.returns-in-12
unfolding turn_of
returns-in-12 c = rw (c.in-12.is, c.upper.ensures)

pub returns-in-13 : goal.returns-in-13
unfolding turn_of
returns-in-13 c = rw (c.in-13.is, c.right.ensures)

pub returns-in-14 : goal.returns-in-14
unfolding turn_of
returns-in-14 c = rw (c.in-14.is, c.keep.ensures)

pub returns-in-15 : goal.returns-in-15
unfolding turn_of
returns-in-15 c = rw (c.in-15.is, c.solve.ensures)

pub returns-in_default : goal.returns-in_default
returns-in_default c = c.same.ensures ∙ turn_none c.args.op c.args.p.now c.args.k (omega arith)
