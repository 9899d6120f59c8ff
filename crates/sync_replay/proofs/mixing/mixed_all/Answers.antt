-- `sync_replay::mixing::mixed_all` meets its contract. Assumes nothing.
use Rattle.std.proofs.Common.{◌≡◌, ◌∙◌, arith}
use Rattle.sync_replay.proofs.Laws.{mixed_more, mixed-none}
use Rattle.sync_replay.proofs.mixing.mixed_all.Goals as goal

pub loop-v-init : goal.loop-v-init
loop-v-init c = mixed-none _ _

pub loop-v-preserved : goal.loop-v-preserved
loop-v-preserved c = c.mixed-r.ensures ∙ mixed_more _ _ _ _ c.loop-v.invariant

pub returns : goal.returns
returns c = let e : c.loop-v.v-index ≡ 40 = omega arith in (rw e at c.loop-v.invariant)
