-- `solve::system::pair` meets its contract: a narrow sum is a double, and `as` takes it. Assumes nothing.
use Rattle.std.proofs.Common.{◌+◌, ◌*◌}
use Rattle.solve.proofs.Laws.{sum_fits, sum_in_float}
use Rattle.solve.specs.System.{pair_of}
use Rattle.solve.proofs.system.pair.Goals as goal

pub int_to_float-result : goal.int_to_float-result
int_to_float-result g c = let h = c.requires.1.small _ in rw (sum_fits _ h) (sum_in_float _ h)

pub int_to_float-result-2 : goal.int_to_float-result-2
int_to_float-result-2 g c = let h = c.requires.1.small _ in rw (sum_fits _ h) (sum_in_float _ h)

pub returns : goal.returns
unfolding pair_of
returns g c = let small = c.requires.1.small in rw (sum_fits _ (small (2 * c.args.k)), sum_fits _ (small (2 * c.args.k + 1)))
