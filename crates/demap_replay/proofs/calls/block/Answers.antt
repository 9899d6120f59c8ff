-- `demap_replay::calls::block` meets its contract. Assumes nothing.
use Rattle.fields.proofs.Laws.{take_least, drop_least}
use Rattle.demap_replay.specs.Calls.{softs, block_call}
use Rattle.laws.proofs.Size.{back}
use borrow.Author.Rules.{rules}
use lib.Seq.{length-take-le}
use mathlib.Core.Path.{sym}
use mir.Syntax.{w64}
use Rattle.demap_replay.proofs.calls.block.Goals as goal

pub slice_bounds-demap_block-end : goal.slice_bounds-demap_block-end
slice_bounds-demap_block-end c = sym (length-take-le _ _ (search rules))

pub slice_bounds-demap_block-end-2 : goal.slice_bounds-demap_block-end-2
slice_bounds-demap_block-end-2 c = sym (length-take-le _ _ (search rules))

pub slice_bounds-demap_block-end-3 : goal.slice_bounds-demap_block-end-3
slice_bounds-demap_block-end-3 c = sym (length-take-le _ _ (search rules))

pub returns : goal.returns
unfolding block_call
returns c =
    let a = c.args in
    let n = c.least-c in
    let e = rw (back w64 c.of_bits-k.result c.of_bits-k.type_inv, c.of_bits-k.ensures, c.index-bits.ensures, n.ensures.0, c.least-b.ensures.0, c.least-a.ensures.0, take_least _ a.learned.now, take_least _ a.nominal.now, take_least _ softs) at c.demap_block-r.ensures in
    rw (c.soft.ensures, c.code.ensures, e.0, e.1, n.ensures.0, drop_least _ softs)
