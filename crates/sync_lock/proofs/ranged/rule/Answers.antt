use Rattle.sync_lock.specs.Rule.{rule_of}
use Rattle.sync_lock.proofs.ranged.rule.Goals as goal

pub search-requires : goal.search-requires
search-requires c = rw c.in-Search.is at c.requires.0

pub held-requires : goal.held-requires
held-requires c = rw c.in-Locked.is at c.requires.0

pub returns-in-Search : goal.returns-in-Search
unfolding rule_of
returns-in-Search c = rw (c.in-Search.is, c.search.ensures, c.counts-c.ensures)

pub returns-in-Locked : goal.returns-in-Locked
unfolding rule_of
returns-in-Locked c = rw (c.in-Locked.is, c.held.ensures, c.counts-c.ensures)
