-- `sync_replay::mixing::mixed_store` meets its contract. Assumes nothing.
use Rattle.std.proofs.Common.{◌≡◌, length, ◌∙◌, arith}
use Rattle.sync_replay.proofs.Laws.{mixed_more, mixed-none}
use Rattle.sync_replay.proofs.mixing.mixed_store.Goals as goal

pub loop-v-init : goal.loop-v-init
loop-v-init c = mixed-none _ _

pub loop-v-preserved : goal.loop-v-preserved
loop-v-preserved c = (rw c.from.ensures at c.mixed-r.ensures) ∙ mixed_more _ _ _ _ c.loop-v.invariant

pub returns : goal.returns
returns c = let e : c.loop-v.v-index ≡ length c.args.acc.now = omega arith in (rw e at c.loop-v.invariant)
