-- `sync_corr::rows::added` meets its contract, by the sizes of the sum and of the factors. Assumes nothing.
use Prim.Native.Nat.{◌^◌}
use mir.Syntax.{w32}
use Rattle.laws.proofs.Size.{arg, arg_le, fits, plus, times, at}
use Rattle.sync_corr.proofs.rows.added.Goals as goal

pub overflow_cast-result : goal.overflow_cast-result
overflow_cast-result c = fits w32 (arg c.ranges.x) tt

pub overflow_cast-result-2 : goal.overflow_cast-result-2
overflow_cast-result-2 c = fits w32 (arg c.ranges.y) tt

pub overflow_mul-result : goal.overflow_mul-result
overflow_mul-result c = fits w32 (times (at w32 (arg c.ranges.x) tt) (at w32 (arg_le 1 c.ranges.y c.requires.1) tt)) tt

pub overflow_add-result : goal.overflow_add-result
overflow_add-result c =
    let product = at w32 (times (at w32 (arg c.ranges.x) tt) (at w32 (arg_le 1 c.ranges.y c.requires.1) tt)) tt in
    fits w32 (plus (arg_le (2 ^ 30) c.ranges.sum c.requires.0) product) tt

pub returns : goal.returns
returns c =
    let product = at w32 (times (at w32 (arg c.ranges.x) tt) (at w32 (arg_le 1 c.ranges.y c.requires.1) tt)) tt in
    (at w32 (plus (arg_le (2 ^ 30) c.ranges.sum c.requires.0) product) tt).is
