-- `receiver_calls::free` meets its contract. Assumes nothing.
use native.Mathlib.Omega.{arith}
use Rattle.receiver_calls.proofs.Laws.{plain-none}
use Rattle.receiver_calls.specs.Turns.{plain_of}
use mathlib.Core.Path.{◌∙◌}
use Rattle.receiver_calls.proofs.free.Goals as goal

pub returns-in-0 : goal.returns-in-0
unfolding plain_of
returns-in-0 c = rw (c.in-0.is, c.words.ensures)

pub returns-in-1 : goal.returns-in-1
unfolding plain_of
returns-in-1 c = rw (c.in-1.is, c.points.ensures)

pub returns-in-2 : goal.returns-in-2
unfolding plain_of
returns-in-2 c = rw (c.in-2.is, c.taps.ensures)

pub returns-in-3 : goal.returns-in-3
unfolding plain_of
returns-in-3 c = rw (c.in-3.is, c.«open».ensures)

pub returns-in-4 : goal.returns-in-4
unfolding plain_of
returns-in-4 c = rw (c.in-4.is, c.end.ensures)

pub returns-in-5 : goal.returns-in-5
unfolding plain_of
returns-in-5 c = rw (c.in-5.is, c.event.ensures)

pub returns-in_default : goal.returns-in_default
returns-in_default c = c.plain.ensures ∙ plain-none c.args.n c.args.p.now c.args.k (omega arith)
