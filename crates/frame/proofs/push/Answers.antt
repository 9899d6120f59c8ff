-- `frame::push` meets its contract. Assumes nothing.
use mathlib.Core.Path.{sym}
use Rattle.frame.specs.Answers.{push_answer}
use Rattle.frame.proofs.Laws.{push_ok}
use Rattle.frame.proofs.push.Goals as goal

pub pushed-requires : goal.pushed-requires
pushed-requires c = let a = c.args in push_ok a.b a.c a.f a.s (sym c.in-Ok.ensures)

pub returns-in-Ok : goal.returns-in-Ok
unfolding push_answer
returns-in-Ok c = rw (c.pushed.ensures, ← c.in-Ok.ensures)

pub returns-in-Err : goal.returns-in-Err
unfolding push_answer
returns-in-Err c = rw (← c.in-Err.ensures)
