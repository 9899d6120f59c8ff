-- `in_force::default` meets its contract. Assumes nothing.
use mir.Syntax.{w64}
use Rattle.laws.proofs.Size.{back}
use Rattle.in_force.specs.InForce.{default_force}
use Rattle.in_force.proofs.default.Goals as goal

pub returns : goal.returns
unfolding default_force
returns c = rw (back w64 c.scale.result c.scale.type_inv, c.scale.ensures)
