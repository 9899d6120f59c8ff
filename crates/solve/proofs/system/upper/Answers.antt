-- `solve::system::upper` meets its contract. Assumes nothing.
use Rattle.std.proofs.Common.{refl, arith, rules}
use Rattle.solve.proofs.Laws.{product_most, start_most}
use Rattle.sums.specs.Sums.{upper_at}
use Rattle.solve.proofs.system.upper.Goals as goal

pub overflow_mul-result-2 : goal.overflow_mul-result-2
overflow_mul-result-2 c = search (rules, product_most c.args.r (omega arith))

pub overflow_sub-result : goal.overflow_sub-result
overflow_sub-result c = omega (arith, product_most c.args.r (omega arith))

pub returns : goal.returns
unfolding upper_at
returns c = (refl, omega (arith, start_most c.args.r (omega arith)))
