-- Angles, of which a full turn is 2^32 (document 01, "Arithmetic"), and symbols turned by them.
use Rattle.std.specs.Prelude.{ℕ, ◌+◌, ◌-◌, ◌%◌, ◌^◌, ℤ, pos, negsuc, ◌+ℤ◌, ◌-ℤ◌, ◌*ℤ◌}
use Rattle.fx.specs.Fx.{round_shift, signed_angle}
use Rattle.fx.specs.declared.CosSin.{CosSin}
use Rattle.fx.specs.declared.Parts.{Parts}

-- a whole number of 2^-32 turns as an angle: its remainder by a full turn
unfoldable pub angle_of : ℤ → ℕ
angle_of (pos n) = n % 2 ^ 32
angle_of (negsuc n) = 2 ^ 32 - 1 - n % 2 ^ 32

-- an angle turned on by a step
unfoldable pub turned_by : ℕ → ℤ → ℕ
turned_by a step = (a + angle_of step) % 2 ^ 32

-- the turn from angle a to angle b, as a signed number: half a turn is -2^31
unfoldable pub turn_from : ℕ → ℕ → ℤ
turn_from a b = signed_angle ((b + (2 ^ 32 - a)) % 2 ^ 32)

-- i + jq times cosine - j sine, rounded by s bits
unfoldable pub turned_back : CosSin → ℤ → ℤ → ℕ → Parts
turned_back p i q s = record { re = round_shift (i *ℤ p.cos +ℤ q *ℤ p.sin) s; im = round_shift (q *ℤ p.cos -ℤ i *ℤ p.sin) s }
