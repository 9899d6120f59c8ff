-- `slot_wire::word_of` meets its contract. Assumes nothing.
use Rattle.slot_wire.specs.Slots.{word_of}
use Rattle.laws.specs.Choice.{cases, if_yes, if_no}
use mathlib.Core.Path.{sym, ◌∙◌, refl}
use Rattle.slot_wire.proofs.word_of.Goals as goal

pub returns-in-0 : goal.returns-in-0
unfolding word_of
returns-in-0 c = search cases

pub returns-in-1 : goal.returns-in-1
unfolding word_of
returns-in-1 c = rw c.in-1.is (sym (if_no _ _ _ refl ∙ if_yes _ _ _ refl))

pub returns-in_default : goal.returns-in_default
unfolding word_of
returns-in_default c = search cases
