-- `demap::demap_block` meets its contract: where the test lets it through, what `block` gives. Assumes nothing.
use mathlib.Core.Path.{refl, sym}
use mir.Facts.{to_z-of_z}
use Rattle.std.proofs.lemmas.Result.{err_from_is_err_and}
use Rattle.demap.specs.Answers.{block_buffer}
use Rattle.demap.proofs.Accepted.{block_accepted}
use Rattle.demap.proofs.demap_block.Goals as goal

pub returns-in_err-block : goal.returns-in_err-block
unfolding block_buffer
returns-in_err-block c =
    let p = err_from_is_err_and c.from_residual.result c.from_residual.ensures.1 in
    let n = rw (to_z-of_z c.ranges.k) at c.in_err-block.ensures in
    rw (p.1, p.2, ← n) (refl, refl)

pub block-requires-2 : goal.block-requires-2
block-requires-2 c =
    let a = block_accepted _ _ _ _ _ (sym (rw (to_z-of_z c.ranges.k) at c.in_ok-block.ensures)) in
    (a.1.some, a.1.few, a.1.points, rw (to_z-of_z c.ranges.k) a.1.scale, a.0)

pub returns : goal.returns
unfolding block_buffer
returns c =
    let n = rw (to_z-of_z c.ranges.k) at c.in_ok-block.ensures in
    let g = rw (to_z-of_z c.ranges.k) at c.block-2.ensures in
    rw (← n) (refl, g)
