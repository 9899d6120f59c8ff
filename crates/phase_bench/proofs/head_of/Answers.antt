-- `phase_bench::head_of` meets its contract. Assumes nothing.
use borrow.Author.Rules.{rules}
use Rattle.phase_bench.specs.Slots.{head_of}
use Rattle.phase_bench.proofs.head_of.Goals as goal

pub returns : goal.returns
unfolding head_of
returns c = search rules
