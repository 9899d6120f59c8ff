-- Document 01: "`cordic_scale` takes the least shift that brings both parts under 2^22 in size."
use Rattle.std.specs.Prelude.{ℕ, ◌^◌, Bool, ◌&&◌, ℤ, nat_lt, unsigned_abs}
use Rattle.laws.specs.Ranges.{first_from}
use Rattle.fx.specs.Fx.{floor_div}
use Rattle.fx.specs.declared.Parts.{Parts}

-- a shift by s brings both parts under 2^22 in size
unfoldable pub under_at : ℤ → ℤ → ℕ → Bool
under_at re im s = nat_lt (unsigned_abs (floor_div re (2 ^ s))) (2 ^ 22) && nat_lt (unsigned_abs (floor_div im (2 ^ s))) (2 ^ 22)

-- the least such shift; 39 does for every part of size at most 2^60
unfoldable pub least_shift : ℤ → ℤ → ℕ
least_shift re im = first_from (under_at re im) 39 0

unfoldable pub cordic_scale : ℤ → ℤ → Parts
cordic_scale re im = let s = least_shift re im in record { re = floor_div re (2 ^ s); im = floor_div im (2 ^ s) }
