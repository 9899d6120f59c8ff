-- `carrier::head` meets its contract: what is accepted has a carrier in range. Assumes nothing.
use mathlib.Core.Path.{sym, ◌∙◌}
use Rattle.carrier.specs.Answers.{head_answer}
use Rattle.carrier.proofs.Laws.{head-accepts, nco_ok}
use Rattle.carrier.proofs.head.Goals as goal

pub heard-requires : goal.heard-requires
heard-requires c = nco_ok c.args.n (head-accepts c.args.n c.args.h (sym c.head.ensures ∙ c.in-Ok.is))

pub returns-in-Ok : goal.returns-in-Ok
unfolding head_answer
returns-in-Ok c = rw (← c.head.ensures, c.in-Ok.is, c.heard.ensures)

pub returns-in-Err : goal.returns-in-Err
unfolding head_answer
returns-in-Err c = rw (← c.head.ensures, c.in-Err.is)
