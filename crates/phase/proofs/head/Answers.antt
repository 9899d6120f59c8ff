-- `phase::head` meets its contract. Assumes nothing.
use mathlib.Core.Path.{sym, ◌∙◌}
use Rattle.phase.proofs.Laws.{head_taken, phase_ok}
use Rattle.phase.specs.Answers.{head_answer}
use Rattle.phase.proofs.head.Goals as goal

pub due-requires : goal.due-requires
due-requires c =
    let a = c.args in
    let t = head_taken a.s a.h (sym c.head.ensures ∙ c.in-Ok.is) in
    (phase_ok a.s t.in_range, t.head)

pub returns-in-Ok : goal.returns-in-Ok
unfolding head_answer
returns-in-Ok c = rw (← c.head.ensures, c.in-Ok.is, c.begun.ensures, c.due.ensures)

pub returns-in-Err : goal.returns-in-Err
unfolding head_answer
returns-in-Err c = rw (← c.head.ensures, c.in-Err.is)
