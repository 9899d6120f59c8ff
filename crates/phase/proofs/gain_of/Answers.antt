-- `phase::gain_of` meets its contract. Assumes nothing.
use mathlib.Core.Path.{sym, ◌∙◌}
use mir.Facts.{to_z-of_z}
use Rattle.fx.proofs.Laws.{not_wide}
use Rattle.laws.specs.Choice.{cases}
use Rattle.phase.specs.Answers.{gain_answer}
use Rattle.phase.proofs.gain_of.Goals as goal

pub gain_of-requires : goal.gain_of-requires
gain_of-requires c =
    let e = to_z-of_z c.ranges.amp in
    rw e (not_wide c.args.amp (sym (rw e at c.wide.ensures) ∙ c.if-wide.false))

pub returns-then-wide : goal.returns-then-wide
unfolding gain_answer
returns-then-wide c = rw (← (rw (to_z-of_z c.ranges.amp) at c.wide.ensures)) (search cases)

pub returns-else-wide : goal.returns-else-wide
unfolding gain_answer
returns-else-wide c =
    let e = to_z-of_z c.ranges.amp in
    rw (to_z-of_z (record { sfits = c.gain_of.type_inv }), rw e at c.gain_of.ensures.0, ← (rw e at c.wide.ensures)) (search cases)
