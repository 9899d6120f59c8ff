-- `demap_replay::told::place` meets its contract. Assumes nothing.
use Prim.Native.Nat.{◌+◌, ◌*◌}
use Rattle.demap_replay.specs.Told.{place_told}
use Rattle.laws.proofs.Size.{back}
use Rattle.learn.specs.Learning.{sum_at}
use borrow.Author.Rules.{rules}
use mir.Syntax.{w64}
use Rattle.demap_replay.proofs.told.place.Goals as goal

pub returns : goal.returns
unfolding place_told
returns c =
    let a = c.args in
    let l = a.l in
    let n = rw (back w64 l.noise (search rules)) at c.to_bits-3.ensures in
    let x = rw (back w64 (sum_at l.sum (2 * a.a)) c.si-1.given) at c.to_bits.ensures in
    let y = rw (back w64 (sum_at l.sum (2 * a.a + 1)) c.sq-1.given) at c.to_bits-2.ensures in
    rw (c.told.ensures, n, x, y)
