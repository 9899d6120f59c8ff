-- `solve::system::right_side` meets its contract. Assumes nothing.
use Rattle.std.proofs.Common.{refl, ◌∙◌, arith, rules}
use Rattle.solve.proofs.Laws.{zeros, parts_turn, parts_ended}
use Rattle.solve.specs.System.{parts, right_of}
use Rattle.solve.proofs.system.right_side.Goals as goal

pub loop-k-init : goal.loop-k-init
unfolding parts zeros
loop-k-init c = (search rules, refl)

pub loop-k-preserved : goal.loop-k-preserved
loop-k-preserved c =
    (search rules, c.set_entry.ensures ∙ parts_turn _ 11 _ _ _ c.loop-k-test.true c.loop-k.invariant.1 c.pair-v.ensures)

pub returns : goal.returns
unfolding right_of
returns c = c.loop-k.invariant.1 ∙ parts_ended _ 11 _ (omega arith)
