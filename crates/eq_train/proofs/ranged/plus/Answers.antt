-- `eq_train::ranged::plus` meets its contract. Assumes nothing.
use mir.Syntax.{w64}
use Rattle.laws.proofs.Size.{arg_le, plus, at, fits}
use Rattle.eq_train.proofs.ranged.plus.Goals as goal

pub overflow_add-result : goal.overflow_add-result
overflow_add-result c = fits w64 (plus (arg_le 18014398509481984 c.ranges.a c.requires.0) (arg_le 2147483648 c.ranges.b c.requires.1)) tt

pub returns : goal.returns
returns c = (at w64 (plus (arg_le 18014398509481984 c.ranges.a c.requires.0) (arg_le 2147483648 c.ranges.b c.requires.1)) tt).is
