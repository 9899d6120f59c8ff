-- `solve::system::matrix` meets its contract. Assumes nothing.
use Rattle.std.proofs.Common.{refl, ◌∙◌, arith, rules}
use Rattle.solve.proofs.Laws.{zeros, parts_turn, parts_ended}
use Rattle.solve.specs.System.{parts, matrix_of}
use Rattle.solve.proofs.system.matrix.Goals as goal

pub loop-k-init : goal.loop-k-init
unfolding parts zeros
loop-k-init c = (search rules, refl)

pub loop-k-preserved : goal.loop-k-preserved
loop-k-preserved c =
    (search rules, c.set_entry.ensures ∙ parts_turn _ 121 _ _ _ c.loop-k-test.true c.loop-k.invariant.1 c.sum_entry-v.ensures)

pub returns : goal.returns
unfolding matrix_of
returns c = c.loop-k.invariant.1 ∙ parts_ended _ 121 _ (omega arith)
