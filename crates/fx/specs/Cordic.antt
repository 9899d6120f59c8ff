-- The CORDIC: document 01, "the 16 steps of `cordic`, its table of 16 angles and 39,797 (a full turn is 2^32)".
use Rattle.std.specs.Prelude.{ℕ, zero, suc, ◌+◌, ◌-◌, ◌%◌, ◌^◌, List, [], ◌∷◌, ℤ, pos, ◌+ℤ◌, ◌-ℤ◌, ◌*ℤ◌, neg_ℤ, int_lt, slice_index}
use Rattle.laws.specs.Choice.{when◌then◌else◌}
use Rattle.fx.specs.Fx.{floor_div, round_shift}
use Rattle.fx.specs.declared.Turn.{Turn}
use Rattle.fx.specs.declared.Polar.{Polar}

-- 2^32 times atan(2^-i) over a turn
unfoldable pub cordic_angles : List ℕ
cordic_angles =
    536870912
    ∷ 316933406
    ∷ 167458907
    ∷ 85004756
    ∷ 42667331
    ∷ 21354465
    ∷ 10679838
    ∷ 5340245
    ∷ 2670163
    ∷ 1335087
    ∷ 667544
    ∷ 333772
    ∷ 166886
    ∷ 83443
    ∷ 41722
    ∷ 20861
    ∷ []

-- (x, y) at angle 0, or turned by half a turn into the right half-plane
unfoldable pub right_half : ℤ → ℤ → Turn
right_half x y = when int_lt x (pos 0) then record { x = neg_ℤ x; y = neg_ℤ y; z = 2 ^ 31 } else record { x = x; y = y; z = 0 }

-- the start: eight bits up
unfoldable pub cordic_start : ℤ → ℤ → Turn
cordic_start re im = right_half (re *ℤ pos 256) (im *ℤ pos 256)

-- step i, whose angle is a: towards the axis, by the values before the step; y = 0 goes the way of negative y
unfoldable pub cordic_step : Turn → ℕ → ℕ → Turn
cordic_step t i a =
    let dx = floor_div t.y (2 ^ i) in
    let dy = floor_div t.x (2 ^ i) in
    when int_lt (pos 0) t.y
    then record { x = t.x +ℤ dx; y = t.y -ℤ dy; z = (t.z + a) % 2 ^ 32 }
    else record { x = t.x -ℤ dx; y = t.y +ℤ dy; z = (t.z + (2 ^ 32 - a)) % 2 ^ 32 }

-- the first n steps
unfoldable pub cordic_steps : ℕ → Turn → Turn
cordic_steps zero t = t
cordic_steps (suc i) t = cordic_step (cordic_steps i t) i (slice_index cordic_angles i)

-- the angle turned by, and x times 39,797 over 2^(16 + 8), rounded
unfoldable pub cordic_of : ℤ → ℤ → Polar
cordic_of re im = let t = cordic_steps 16 (cordic_start re im) in record { angle = t.z; size = round_shift (t.x *ℤ pos 39797) 24 }
