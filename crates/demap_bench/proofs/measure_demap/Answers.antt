-- `demap_bench::measure_demap` meets its contract. Assumes nothing.
use mir.Facts.{to_z-of_z}
use mathlib.Core.Path.{refl}
use Rattle.demap_bench.proofs.measure_demap.Goals as goal

pub returns : goal.returns
returns c =
    let g = rw (to_z-of_z c.ranges.k) at c.demap_block.ensures in
    rw (c.code.ensures, g.0) (refl, g.1)
