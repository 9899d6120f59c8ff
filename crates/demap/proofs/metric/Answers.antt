-- `demap::metric` meets its contract. Assumes nothing.
use mathlib.Core.Path.{◌∙◌}
use mir.Facts.{to_z-of_z}
use mir.Syntax.{w64}
use Rattle.laws.proofs.Size.{fits, at, arg, lit, times, back}
use Rattle.demap.proofs.Distances.{doubled, metric_twice}
use Rattle.demap.proofs.metric.Goals as goal

pub overflow_cast-yi : goal.overflow_cast-yi
overflow_cast-yi c = fits w64 (arg c.ranges.yi) tt

pub overflow_mul-yi : goal.overflow_mul-yi
overflow_mul-yi c = fits w64 (times (lit 2) (at w64 (arg c.ranges.yi) tt)) tt

pub overflow_cast-yq : goal.overflow_cast-yq
overflow_cast-yq c = fits w64 (arg c.ranges.yq) tt

pub overflow_mul-yq : goal.overflow_mul-yq
overflow_mul-yq c = fits w64 (times (lit 2) (at w64 (arg c.ranges.yq) tt)) tt

pub by_twice-requires : goal.by_twice-requires
by_twice-requires c =
    let a = doubled c.ranges.yi in
    let b = doubled c.ranges.yq in
    (rw a.is a.size, rw b.is b.size)

pub returns : goal.returns
returns c =
    let g = rw ((doubled c.ranges.yi).is, (doubled c.ranges.yq).is, to_z-of_z c.ranges.pi, to_z-of_z c.ranges.pq) at c.by_twice.ensures in
    back w64 c.by_twice.result c.by_twice.type_inv ∙ g.0 ∙ metric_twice c.args.yi c.args.yq c.args.pi c.args.pq
