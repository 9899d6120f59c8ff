-- `receiver::new` meets its contract. Assumes nothing.
use Rattle.receiver.specs.Answers.{new_acc, new_answer}
use Rattle.laws.specs.Choice.{cases}
use mathlib.Core.Path.{◌∙◌}
use mir.Facts.{to_z-of_z}
use mir.Syntax.{w32}
use Rattle.receiver.proofs.new.Goals as goal

pub returns-then-acc-ne9296 : goal.returns-then-acc-ne9296
unfolding new_answer new_acc
returns-then-acc-ne9296 c =
    let k = rw (to_z-of_z {w = w32} c.ranges.step) at c.new_kept.ensures in
    (rw (c.started-r.ensures, k) (search cases), search cases)

pub returns : goal.returns
unfolding new_answer new_acc
returns c =
    let k = rw (to_z-of_z {w = w32} c.ranges.step) at c.new_kept.ensures in
    (rw (c.started-r.ensures, k) (search cases), c.clear.ensures ∙ search cases)
