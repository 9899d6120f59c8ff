use Rattle.eq.specs.Eq.{trained_eq, trains_eq}
use Rattle.laws.specs.Choice.{cases}
use borrow.Author.Rules.{rules}
use lib.Dec.{leb}
use mathlib.Core.Bool.{◌&&◌, true}
use mathlib.Core.Path.{◌≡◌}
use mir.Facts.{to_z-of_z}
use Rattle.eq.proofs.ranged.trained.Goals as goal

pub train-requires : goal.train-requires
unfolding trains_eq
train-requires c =
    let t : (c.args.e.opened && leb 11 c.args.e.filled) ≡ true = search in
    (c.requires.sums t, search rules)

pub returns-then-e : goal.returns-then-e
unfolding trained_eq trains_eq
returns-then-e c =
    let g = rw (to_z-of_z c.ranges.di, to_z-of_z c.ranges.dq) at c.train.ensures in
    rw (c.with_sums.ensures, g) (search cases)

pub returns-else-e : goal.returns-else-e
unfolding trained_eq trains_eq
returns-else-e c = search cases
