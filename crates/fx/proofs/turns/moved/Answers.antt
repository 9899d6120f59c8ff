-- `fx::turns::moved` meets its contract. Assumes nothing.
use Rattle.std.proofs.Common.{◌+ℤ◌, ◌-ℤ◌, sym, arith, to_z-of_z, w64, SFits, rules}
use Rattle.laws.proofs.Size.{abs_add, sfits_abs, abs_sub}
use Rattle.laws.specs.Choice.{if_no, if_yes}
use Rattle.fx.proofs.turns.moved.Lts as lts
use Rattle.fx.proofs.turns.moved.Reads as reads
use Rattle.fx.proofs.turns.moved.Goals as goal

sum_fits : (c : (lts.Start reads.Pre reads.Post)) → SFits w64 (c.args.v +ℤ c.args.d)
sum_fits c = sfits_abs w64 (c.args.v +ℤ c.args.d) (omega (arith, abs_add c.args.v c.args.d))

difference-fits : (c : (lts.Start reads.Pre reads.Post)) → SFits w64 (c.args.v -ℤ c.args.d)
difference-fits c = sfits_abs w64 (c.args.v -ℤ c.args.d) (omega (arith, abs_sub c.args.v c.args.d))

pub overflow_add-result : goal.overflow_add-result
overflow_add-result c = let f = sum_fits c.before in search rules

pub overflow_sub-result : goal.overflow_sub-result
overflow_sub-result c = let f = difference-fits c.before in search rules

pub returns-then-plus : goal.returns-then-plus
returns-then-plus c =
    rw (to_z-of_z c.ranges.v, to_z-of_z c.ranges.d, to_z-of_z (sum_fits c.before)) (sym (if_yes _ _ _ c.if-plus.true))

pub returns-else-plus : goal.returns-else-plus
returns-else-plus c =
    rw (to_z-of_z c.ranges.v, to_z-of_z c.ranges.d, to_z-of_z (difference-fits c.before)) (sym (if_no _ _ _ c.if-plus.false))
