-- `frame_map::ranged::part` meets its contract. Assumes nothing.
use mathlib.Core.Path.{sym, ◌∙◌}
use Rattle.frame_map.proofs.Laws.{part_sync, part_pilot, part_behind}
use Rattle.frame_map.proofs.ranged.part.Goals as goal

pub returns-then-j-lt24 : goal.returns-then-j-lt24
returns-then-j-lt24 c = sym (part_sync c.args.j c.if-j-lt24.true)

pub returns-then-j-lt56 : goal.returns-then-j-lt56
returns-then-j-lt56 c = sym (part_pilot c.args.j c.if-j-lt24.false c.if-j-lt56.true)

pub returns-else-j-lt56 : goal.returns-else-j-lt56
returns-else-j-lt56 c = c.behind.ensures ∙ sym (part_behind c.args.j c.if-j-lt56.false)
