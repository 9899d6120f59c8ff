-- `phase_bench::measure_rotate` meets its contract. Assumes nothing.
use mathlib.Core.Path.{◌∙◌, ap, sym}
use borrow.Author.Tests.{eqb-true, leb-true}
use lib.Dec.{eqb, leb}
use lib.ListN.{length}
use mir.Facts.{to_z-of_z}
use Rattle.laws.proofs.Tests.{and_both}
use Rattle.laws.specs.Choice.{if_yes, if_no}
use Rattle.phase_bench.specs.Blocks.{Turned, rotated_phase, rotated_out}
use Rattle.phase_bench.proofs.measure_rotate.Goals as goal

-- src/lib.rt:36:13
pub rotate_all-requires : goal.rotate_all-requires
rotate_all-requires c =
    let a = c.args in
    let t = and_both (eqb (length a.table.now) 1024) (leb (length a.xs.now) (length a.out.now)) c.if-table-xs.true in
    (eqb-true _ 1024 t.0, leb-true _ _ t.1)

-- src/lib.rt:30:1
pub returns-then-table-xs : goal.returns-then-table-xs
unfolding rotated_phase rotated_out
returns-then-table-xs c =
    let e = rw (c.started.ensures, to_z-of_z c.ranges.freq) at c.rotate_all.ensures in
    let t = c.if-table-xs.true in
    (ap (λ (x : Turned). x.nco.phase) e ∙ sym (if_yes _ _ _ t), ap (λ (x : Turned). x.out) e ∙ sym (if_yes _ _ _ t))

-- src/lib.rt:30:1
pub returns-else-table-xs : goal.returns-else-table-xs
unfolding rotated_phase rotated_out
returns-else-table-xs c = (sym (if_no _ _ _ c.if-table-xs.false), sym (if_no _ _ _ c.if-table-xs.false))
