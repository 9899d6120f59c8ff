-- `fx::ranged::cos_sin_round` meets its contract. Assumes nothing.
use Rattle.std.proofs.Common.{◌∙◌}
use Rattle.fx.specs.Fx.{round_index}
use Rattle.fx.proofs.ranged.cos_sin_round.Goals as goal

pub returns : goal.returns
unfolding round_index
returns c =
    let e = c.cos_sin_at.ensures in
    (e.0 ∙ rw c.wrapping_add_u32.ensures.value, e.1, e.2)
