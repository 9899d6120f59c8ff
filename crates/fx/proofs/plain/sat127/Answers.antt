-- `fx::plain::sat127` meets its contract. Assumes nothing.
use Rattle.std.proofs.Common.{◌∙◌, arith, to_z-of_z, w8, w64, SFits}
use Rattle.fx.specs.Fx.{sat127_of}
use Rattle.fx.proofs.Laws.{clamped, in_bounds}
use Rattle.fx.proofs.plain.sat127.Goals as goal

pub overflow_cast-result : goal.overflow_cast-result
overflow_cast-result c =
    let e = c.clamp.ensures in
    let wide : SFits w64 c.clamp.result = record { sfits = c.clamp.type_inv } in
    rw (to_z-of_z wide) (record { sfits = omega (arith, in_bounds 126 127 c.clamp.result e.lower_bound e.upper_bound) })

pub returns : goal.returns
unfolding sat127_of
returns c =
    let e = c.clamp.ensures in
    let wide : SFits w64 c.clamp.result = record { sfits = c.clamp.type_inv } in
    let small : SFits w8 c.clamp.result = record { sfits = omega (arith, in_bounds 126 127 c.clamp.result e.lower_bound e.upper_bound) } in
    rw (to_z-of_z wide, to_z-of_z small) ((rw (to_z-of_z c.ranges.v) at e.value) ∙ clamped 126 127 c.args.v)
