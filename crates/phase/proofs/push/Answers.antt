-- `phase::push` meets its contract. Assumes nothing.
use mathlib.Core.Path.{sym, refl, ◌∙◌}
use lib.ListN.{length}
use mir.Facts.{to_z-of_z}
use Rattle.phase.proofs.Laws.{push_taken}
use Rattle.phase.specs.Answers.{push_answer, push_store}
use Rattle.phase.proofs.push.Goals as goal

pub pushed-requires : goal.pushed-requires
pushed-requires c =
    let a = c.args in
    (push_taken a.s (length a.store.now) (sym c.push.ensures ∙ c.in-Ok.is)).long

pub returns-in-Ok : goal.returns-in-Ok
unfolding push_answer push_store
returns-in-Ok c =
    let g = rw (to_z-of_z c.ranges.i, to_z-of_z c.ranges.q) at c.pushed.ensures in
    rw (← c.push.ensures, c.in-Ok.is, g.0) (refl, g.1)

pub returns-in-Err : goal.returns-in-Err
unfolding push_answer push_store
returns-in-Err c = rw (← c.push.ensures, c.in-Err.is) (refl, refl)
