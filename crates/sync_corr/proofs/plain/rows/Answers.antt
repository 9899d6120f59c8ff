-- `sync_corr::plain::rows` meets its contract: after j turns the first j entries stand. Assumes nothing.
use mathlib.Core.Path.{◌≡◌, refl, ◌∙◌}
use native.Mathlib.Numerals.{add-one}
use native.Mathlib.Omega.{arith}
use mir.Syntax.{w16}
use Rattle.laws.proofs.Size.{back}
use Rattle.sync_corr.specs.Rows.{rows_to, rows_of}
use Rattle.sync_corr.proofs.plain.rows.Goals as goal

pub loop-j-init : goal.loop-j-init
unfolding rows_to
loop-j-init c = (omega arith, refl)

pub loop-j-preserved : goal.loop-j-preserved
unfolding rows_to
loop-j-preserved c =
    (omega arith, rw (back w16 c.row_at.result c.row_at.type_inv, c.row_at.ensures, add-one c.loop-j.j, c.loop-j.invariant.1))

pub returns : goal.returns
unfolding rows_of
returns c = let e : c.loop-j.j ≡ 192 = omega arith in c.loop-j.invariant.1 ∙ rw e
