-- `sync_wire::parts::stage` meets its contract. Assumes nothing.
use Rattle.sync_wire.specs.Parts.{stage_by}
use Rattle.laws.specs.Choice.{cases, if_yes, if_no}
use mathlib.Core.Path.{sym, ◌∙◌, refl}
use Rattle.sync_wire.proofs.parts.stage.Goals as goal

pub returns-in-0 : goal.returns-in-0
unfolding stage_by
returns-in-0 c = search cases

pub returns-in-1 : goal.returns-in-1
unfolding stage_by
returns-in-1 c = rw c.in-1.is (sym (if_no _ _ _ refl ∙ if_yes _ _ _ refl))

pub returns-in_default : goal.returns-in_default
unfolding stage_by
returns-in_default c = search cases
