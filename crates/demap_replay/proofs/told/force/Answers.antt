-- `demap_replay::told::force` meets its contract. Assumes nothing.
use Rattle.demap_replay.specs.Told.{force_told}
use Rattle.laws.proofs.Size.{back}
use borrow.Author.Rules.{rules}
use mir.Syntax.{w64}
use Rattle.demap_replay.proofs.told.force.Goals as goal

pub returns : goal.returns
unfolding force_told
returns c =
    let f = c.args.f in
    let x = rw (back w64 f.n0 (search rules)) at c.to_bits.ensures in
    let y = rw (back w64 f.k (search rules)) at c.to_bits-2.ensures in
    rw (c.told.ensures, c.frame.ensures, c.known.ensures, x, y, c.flag-5.ensures, c.flag-4.ensures, c.flag-3.ensures, c.flag-2.ensures, c.flag.ensures)
