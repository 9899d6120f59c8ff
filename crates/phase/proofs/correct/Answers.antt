-- `phase::correct` meets its contract. Assumes nothing.
use mathlib.Core.Path.{sym, ◌∙◌}
use lib.ListN.{length}
use Rattle.phase.proofs.Laws.{correct_taken}
use Rattle.phase.specs.Answers.{correct_answer}
use Rattle.phase.proofs.correct.Goals as goal

pub corrected-requires : goal.corrected-requires
corrected-requires c =
    let a = c.args in
    let t = correct_taken a.s a.j (length a.table.now) (length a.store.now) (sym c.correct.ensures ∙ c.in-Ok.is) in
    (t.whole, t.index, t.place, t.table, t.store)

pub returns-in-Ok : goal.returns-in-Ok
unfolding correct_answer
returns-in-Ok c = rw (← c.correct.ensures, c.in-Ok.is, c.corrected.ensures)

pub returns-in-Err : goal.returns-in-Err
unfolding correct_answer
returns-in-Err c = rw (← c.correct.ensures, c.in-Err.is)
