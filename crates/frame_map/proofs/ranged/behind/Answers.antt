-- `frame_map::ranged::behind` meets its contract. Assumes nothing.
use mathlib.Core.Path.{sym}
use Rattle.frame_map.proofs.Laws.{main_run, tmcc_run}
use Rattle.frame_map.proofs.ranged.behind.Goals as goal

pub returns-then-p-lt136 : goal.returns-then-p-lt136
returns-then-p-lt136 c = sym (main_run c.args.x c.requires c.if-p-lt136.true)

pub returns-else-p-lt136 : goal.returns-else-p-lt136
returns-else-p-lt136 c = sym (tmcc_run c.args.x c.requires c.if-p-lt136.false)
