-- `digest::of` meets its contract. Assumes nothing.
use Rattle.std.proofs.Common.{◌≡◌, length, arith}
use Rattle.digest.specs.Digest.{digest_by}
use Rattle.digest.proofs.Laws.{digest_none, digest_more}
use Rattle.digest.proofs.of.Goals as goal

pub loop-v-init : goal.loop-v-init
loop-v-init g c = digest_none g.T.Field.bits c.args.l.now

pub loop-v-preserved : goal.loop-v-preserved
loop-v-preserved g c = rw (c.mixed-d.ensures, c.to_bits.ensures) (digest_more g.T.Field.bits c.args.l.now c.loop-v.v-index c.loop-v.d c.v-item.result c.loop-v-test.true c.v-item.is c.loop-v.invariant)

pub returns : goal.returns
unfolding digest_by
returns g c = let e : c.loop-v.v-index ≡ length c.args.l.now = omega arith in (rw e at c.loop-v.invariant)
