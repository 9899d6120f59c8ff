-- `fx::turns::swung` meets its contract. Assumes nothing.
use Rattle.std.proofs.Common.{sym, ◌∙◌}
use Rattle.laws.proofs.Size.{wrapped}
use Rattle.laws.specs.Choice.{if_no, if_yes}
use Rattle.fx.proofs.turns.swung.Goals as goal

pub returns-then-plus : goal.returns-then-plus
returns-then-plus c = c.wrapping_add_u32.ensures.value ∙ sym (if_yes _ _ _ c.if-plus.true)

pub returns-else-plus : goal.returns-else-plus
returns-else-plus c =
    wrapped c.wrapping_sub_u32.result c.args.z c.args.a c.wrapping_sub_u32.type_inv c.ranges.a.fits c.wrapping_sub_u32.ensures.value
    ∙ sym (if_no _ _ _ c.if-plus.false)
