-- `fx::signed_angle` meets its contract: the bits of an angle from 2^31 on are those of a number below 0. Assumes nothing.
use Rattle.std.proofs.Common.{◌≡◌, ℕ, suc, ◌-◌, ◌^◌, ◌<◌, Bool, true, false, ℤ, pos, negsuc, ◌-ℤ◌, refl, ◌∙◌, arith, to_z-of_z, w32, SFits}
use mir.Facts.{sfits_widen}
use mir.Val.{sel}
use lib.Dec.{ltb}
use Rattle.laws.proofs.Linear.{eq_ud, dif_ud}
use Rattle.laws.specs.Choice.{when◌then◌else◌}
use Rattle.fx.specs.Fx.{signed_angle}
use Rattle.fx.proofs.signed_angle.Goals as goal

-- what the cast chooses between
chosen : (t : Bool) (a b c : ℤ) → b ≡ c → sel t a b ≡ (when t then a else c)
unfolding when◌then◌else◌
chosen true a b c e = refl
chosen false a b c e = e

below : (a : ℕ) → a < 2 ^ 32 → negsuc (2 ^ 32 - suc a) ≡ pos a -ℤ pos (2 ^ 32)
below a h = eq_ud (negsuc (2 ^ 32 - suc a)) (pos a -ℤ pos (2 ^ 32)) (omega (arith, h, dif_ud (pos a) (pos (2 ^ 32))))

pub returns : goal.returns
unfolding signed_angle
returns c =
    let a = c.args.a in
    let f : SFits w32 c.cast_signed.result = record { sfits = c.cast_signed.type_inv } in
    rw (to_z-of_z f, to_z-of_z (sfits_widen {w = w32} tt f))
    (c.cast_signed.ensures ∙ chosen (ltb a (2 ^ 31)) (pos a) (negsuc (2 ^ 32 - suc a)) (pos a -ℤ pos (2 ^ 32)) (below a c.ranges.a.fits))
