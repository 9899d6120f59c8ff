-- `frame::refusals::full` meets its contract. Assumes nothing.
use Rattle.frame.specs.Answers.{full_back, trains_back}
use Rattle.frame.proofs.Laws.{sync_places, line_full}
use Rattle.frame.proofs.refusals.full.Goals as goal

pub returns : goal.returns
unfolding full_back trains_back
returns c = let b = c.args.b in rw (sync_places b.metas.first.j, line_full b.eq.filled)
