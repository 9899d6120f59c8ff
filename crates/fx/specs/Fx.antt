-- Fixed-point arithmetic: document 01, "Arithmetic", first and last item, and the saturations of chain/fx.rs.
use Rattle.std.specs.Prelude.{ℕ, ◌+◌, ◌-◌, ◌*◌, ◌/◌, ◌%◌, ◌^◌, min, max, List, ℤ, pos, ◌+ℤ◌, ◌-ℤ◌, ◌==◌, int_lt, nat_lt, slice_index_or, unsigned_abs}
use Rattle.std.specs.Int.Signed.{shr_z}
use Rattle.laws.specs.Choice.{when◌then◌else◌, minus}
use Rattle.fx.specs.declared.CosSin.{CosSin}

-- the floor of z / m
abbrev pub floor_div : ℤ → ℕ → ℤ
floor_div z m = shr_z z m

-- the floor of a / b + 1/2, which is that of (2a + b) / 2b
abbrev pub half_up : ℤ → ℕ → ℤ
half_up a b = floor_div (a +ℤ a +ℤ pos b) (2 * b)

-- "v for s = 0, else the floor of v / 2^s + 1/2"
unfoldable pub round_shift : ℤ → ℕ → ℤ
round_shift v s = when s == 0 then v else half_up v (2 ^ s)

-- "floor of a/b + 1/2", for b above 0
unfoldable pub div_round : ℤ → ℤ → ℤ
div_round a b = half_up a (unsigned_abs b)

-- "the larger absolute value plus the floor of half the smaller"
unfoldable pub mag_approx : ℤ → ℤ → ℕ
mag_approx re im = max (unsigned_abs re) (unsigned_abs im) + min (unsigned_abs re) (unsigned_abs im) / 2

-- v brought into lo .. hi
abbrev pub clamp : ℤ → ℤ → ℤ → ℤ
clamp lo hi v = when int_lt v lo then lo else when int_lt hi v then hi else v

unfoldable pub sat16_of : ℤ → ℤ
sat16_of = clamp (minus (2 ^ 15)) (pos (2 ^ 15 - 1))

-- soft bits: -128 never occurs
unfoldable pub sat127_of : ℤ → ℤ
sat127_of = clamp (minus 127) (pos 127)

unfoldable pub sat32_of : ℤ → ℤ
sat32_of = clamp (minus (2 ^ 31)) (pos (2 ^ 31 - 1))

-- an angle, of which a full turn is 2^32, as a signed number: half a turn is -2^31
unfoldable pub signed_angle : ℕ → ℤ
signed_angle a = when nat_lt a (2 ^ 31) then pos a else pos a -ℤ pos (2 ^ 32)

-- the entry at or before an angle, and the nearest: "(angle + 2^21) mod 2^32, divided by 2^22"
unfoldable pub trunc_index : ℕ → ℕ
trunc_index angle = angle / 2 ^ 22

unfoldable pub round_index : ℕ → ℕ
round_index angle = (angle + 2 ^ 21) % 2 ^ 32 / 2 ^ 22

-- the table at entry i "indexes cosine; sine is 768 entries on, mod 1,024"
unfoldable pub cos_sin_at : List ℤ → ℕ → CosSin
cos_sin_at table i = record { cos = slice_index_or table i (pos 0); sin = slice_index_or table ((i + 768) % 1024) (pos 0) }
