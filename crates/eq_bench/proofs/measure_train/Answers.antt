-- `eq_bench::measure_train` meets its contract. Assumes nothing.
use mathlib.Core.Path.{sym, ◌∙◌, ap}
use borrow.Author.Tests.{lt-leb, le-leb}
use mir.Facts.{to_z-of_z}
use Rattle.laws.specs.Choice.{if_yes, if_no}
use Rattle.eq_bench.specs.Blocks.{across_c, trained_c}
use Rattle.eq_bench.proofs.measure_train.Goals as goal

pub returns-then-ys-le4194304 : goal.returns-then-ys-le4194304
unfolding trained_c
returns-then-ys-le4194304 c =
    let e = rw (to_z-of_z c.ranges.di, to_z-of_z c.ranges.dq) at c.train_all.ensures in
    c.from.ensures ∙ ap across_c e ∙ sym (if_yes _ _ _ (le-leb _ _ c.if-ys-le4194304.true))

pub returns-else-ys-le4194304 : goal.returns-else-ys-le4194304
unfolding trained_c
returns-else-ys-le4194304 c = c.from-else-ys-le4194304.ensures ∙ ap across_c c.new.ensures ∙ sym (if_no _ _ _ (lt-leb _ _ c.if-ys-le4194304.false))
