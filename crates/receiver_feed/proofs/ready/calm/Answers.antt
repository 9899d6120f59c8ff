-- `receiver_feed::ready::calm` meets its contract. Assumes nothing.
use Rattle.laws.specs.Choice.{cases}
use Rattle.receiver.specs.Symbol.{next_of}
use Rattle.receiver_feed.specs.Turns.{calm_of}
use Rattle.receiver_feed.proofs.Calm.{run_in}
use Rattle.sync_step.proofs.Laws.{run_ready}
use Rattle.receiver_bounds.proofs.Ready.{run-wide}
use mathlib.Core.Path.{sym, ◌∙◌}
use Rattle.receiver_feed.proofs.ready.calm.Goals as goal

pub reach-requires : goal.reach-requires
reach-requires c =
    let r = c.args.r in
    run_ready r.front.sync.run (run-wide r.front.sync.run (run_in r c.requires)) (sym c.past_end.ensures ∙ c.if-past_end.false)

pub returns-then-past_end : goal.returns-then-past_end
unfolding calm_of next_of
returns-then-past_end c = rw (c.requires, ← c.past_end.ensures) (search cases)

pub returns-else-past_end : goal.returns-else-past_end
unfolding calm_of next_of
returns-else-past_end c = rw (c.smaller.ensures, c.reach.ensures.0, c.requires, ← c.past_end.ensures) (search cases)
