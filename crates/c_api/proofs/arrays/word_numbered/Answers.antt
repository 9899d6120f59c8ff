-- `c_api::arrays::word_numbered` meets its contract. Assumes nothing.
use mathlib.Core.Path.{sym, ◌∙◌, refl}
use Rattle.laws.specs.Choice.{cases, if_yes, if_no}
use Rattle.c_api.specs.Arrays.{word_numbered}
use Rattle.c_api.proofs.arrays.word_numbered.Goals as goal

pub returns-in-0 : goal.returns-in-0
unfolding word_numbered
returns-in-0 c = search cases

pub returns-in-1 : goal.returns-in-1
unfolding word_numbered
returns-in-1 c = rw c.in-1.is (sym (if_no _ _ _ refl ∙ if_yes _ _ _ refl))

pub returns-in_default : goal.returns-in_default
unfolding word_numbered
returns-in_default c = search cases
