-- `lines::told` meets its contract. Assumes nothing.
use native.Mathlib.Omega.{arith}
use Rattle.lines.specs.Lines.{lost_line, event_line}
use Rattle.lines.proofs.Laws.{nothing}
use Rattle.lines.proofs.told.Goals as goal

pub returns-in-Nothing : goal.returns-in-Nothing
unfolding event_line
returns-in-Nothing c = let a = c.args in rw c.in-Nothing.is (nothing a.out.now a.at (omega arith))

pub returns-in-Head : goal.returns-in-Head
unfolding event_line
returns-in-Head c = rw c.in-Head.is c.head.ensures

pub returns-in-Period : goal.returns-in-Period
unfolding event_line
returns-in-Period c = rw c.in-Period.is c.period.ensures

pub returns-in-Lost : goal.returns-in-Lost
unfolding event_line lost_line
returns-in-Lost c = rw c.in-Lost.is c.counted.ensures
