-- `angles::plain::turn_from` meets its contract. Assumes nothing.
use Rattle.std.proofs.Common.{refl, arith, to_z-of_z}
use Rattle.laws.proofs.Size.{wrapped, abs≤}
use Rattle.angles.proofs.Laws.{turn_size}
use Rattle.angles.specs.Angles.{turn_from}
use Rattle.angles.proofs.plain.turn_from.Goals as goal

pub returns : goal.returns
unfolding turn_from
returns c =
    let a = c.args in
    let w = c.wrapping_sub_u32-d in
    let e = rw (wrapped w.result a.b a.a w.type_inv c.ranges.a.fits w.ensures.value) at c.signed_angle.ensures in
    rw (to_z-of_z (record { sfits = c.signed_angle.type_inv }), e) (refl, omega (arith, abs≤ (turn_from a.a a.b), turn_size a.a a.b))
