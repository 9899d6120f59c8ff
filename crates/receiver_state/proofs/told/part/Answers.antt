-- `receiver_state::told::part` meets its contract. Assumes nothing.
use native.Mathlib.Omega.{arith}
use Rattle.receiver_state.specs.Told.{part_told}
use Rattle.receiver_state.proofs.Laws.{told_none}
use mathlib.Core.Path.{◌∙◌}
use Rattle.receiver_state.proofs.told.part.Goals as goal

pub returns-in-0 : goal.returns-in-0
unfolding part_told
returns-in-0 c = rw (c.in-0.is, c.nco.ensures)

pub returns-in-1 : goal.returns-in-1
unfolding part_told
returns-in-1 c = rw (c.in-1.is, c.phase.ensures)

pub returns-in-2 : goal.returns-in-2
unfolding part_told
returns-in-2 c = rw (c.in-2.is, c.run.ensures)

pub returns-in-3 : goal.returns-in-3
unfolding part_told
returns-in-3 c = rw (c.in-3.is, c.heads.ensures)

pub returns-in-4 : goal.returns-in-4
unfolding part_told
returns-in-4 c = rw (c.in-4.is, c.window.ensures)

pub returns-in-5 : goal.returns-in-5
unfolding part_told
returns-in-5 c = rw (c.in-5.is, c.waiting.ensures)

pub returns-in-6 : goal.returns-in-6
unfolding part_told
returns-in-6 c = rw (c.in-6.is, c.points.ensures)

pub returns-in_default : goal.returns-in_default
returns-in_default c =
    let a = c.args in
    c.four.ensures ∙ told_none a.k a.p.now a.r (omega arith)
