use Rattle.laws.specs.Choice.{cases}
use Rattle.sync_step.specs.Step.{ended_of, with_lock}
use Rattle.sync_step.proofs.ends.ended.Goals as goal

pub returns-then-loses : goal.returns-then-loses
unfolding ended_of
returns-then-loses c = rw (c.lost.ensures, ← c.rule-v.ensures, ← c.loses.ensures) (search cases)

pub returns-else-loses : goal.returns-else-loses
unfolding ended_of with_lock
returns-else-loses c =
    rw (c.kept.ensures, c.then.ensures, c.stats.ensures, c.lock_after.ensures, ← c.rule-v.ensures, ← c.loses.ensures) (search cases)
