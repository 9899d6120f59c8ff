-- `sync_replay::told::answer` meets its contract. Assumes nothing.
use Rattle.sync_replay.proofs.Laws.{answer_whole}
use Rattle.std.proofs.Common.{to_z-of_z, w32, SFits, rules}
use Rattle.sync_replay.proofs.told.answer.Lts as lts
use Rattle.sync_replay.proofs.told.answer.Tie as tie
use Rattle.sync_replay.proofs.told.answer.Reads as reads
use Rattle.sync_replay.proofs.told.answer.Goals as goal

fits : (c : (lts.Start tie.the-claims reads.Pre reads.Post)) → SFits w32 c.args.last.both.f.re × (SFits w32 c.args.last.both.f.im) × (SFits w32 c.args.last.both.s.re) × (SFits w32 c.args.last.both.s.im)
fits c = (search rules, search rules, search rules, search rules)

pub returns : goal.returns
returns c =
    let u = fits c.before.before.before.before.before.before.before.before.before.before.before.before.before in
    rw (c.placed.ensures, c.placed-y.ensures, c.placed-x.ensures, rw (to_z-of_z u.3) at c.to_bits-4.ensures, rw (to_z-of_z u.2) at c.to_bits-3.ensures, rw (to_z-of_z u.1) at c.to_bits-2.ensures, rw (to_z-of_z u.0) at c.to_bits.ensures, c.refused-t.ensures)
    (answer_whole c.args.last c.args.es)
