-- `sync_replay::told::head_row` meets its contract. Assumes nothing.
use Rattle.sync_replay.specs.Told.{head_row}
use Rattle.std.proofs.Common.{to_z-of_z, w32, w64, SFits, rules}
use Rattle.sync_replay.proofs.told.head_row.Lts as lts
use Rattle.sync_replay.proofs.told.head_row.Tie as tie
use Rattle.sync_replay.proofs.told.head_row.Reads as reads
use Rattle.sync_replay.proofs.told.head_row.Goals as goal

amp-fits : (c : (lts.Start tie.the-claims reads.Pre reads.Post)) → SFits w64 c.args.h.amp
amp-fits c = search rules

pub returns : goal.returns
unfolding head_row
returns c =
    let re : SFits w32 c.args.h.corr.re = search rules in
    let im : SFits w32 c.args.h.corr.im = search rules in
    rw (rw (to_z-of_z (amp-fits c.before.before.before.before.before.before.before.before.before.before)) at c.to_bits-3.ensures, rw (to_z-of_z im) at c.to_bits-2.ensures, rw (to_z-of_z re) at c.to_bits.ensures, c.word_number.ensures, c.slot_shown-s.ensures)
