-- `frame_map::part` meets its contract. Assumes nothing.
use mathlib.Core.Path.{sym}
use Rattle.frame_map.proofs.Laws.{part_past}
use Rattle.frame_map.proofs.part.Goals as goal

pub returns-then-j-lt9296 : goal.returns-then-j-lt9296
returns-then-j-lt9296 c = c.part.ensures

pub returns-else-j-lt9296 : goal.returns-else-j-lt9296
returns-else-j-lt9296 c = sym (part_past c.args.j c.if-j-lt9296.false)
