-- `fx::plain::sat16` meets its contract. Assumes nothing.
use Rattle.std.proofs.Common.{◌∙◌, arith, to_z-of_z, w16, w64, SFits}
use Rattle.fx.specs.Fx.{sat16_of}
use Rattle.fx.proofs.Laws.{clamped, in_bounds}
use Rattle.fx.proofs.plain.sat16.Goals as goal

pub overflow_cast-result : goal.overflow_cast-result
overflow_cast-result c =
    let e = c.clamp.ensures in
    let wide : SFits w64 c.clamp.result = record { sfits = c.clamp.type_inv } in
    rw (to_z-of_z wide) (record { sfits = omega (arith, in_bounds 32767 32767 c.clamp.result e.lower_bound e.upper_bound) })

pub returns : goal.returns
unfolding sat16_of
returns c =
    let e = c.clamp.ensures in
    let wide : SFits w64 c.clamp.result = record { sfits = c.clamp.type_inv } in
    let small : SFits w16 c.clamp.result = record { sfits = omega (arith, in_bounds 32767 32767 c.clamp.result e.lower_bound e.upper_bound) } in
    rw (to_z-of_z wide, to_z-of_z small) ((rw (to_z-of_z c.ranges.v) at e.value) ∙ clamped 32767 32767 c.args.v)
