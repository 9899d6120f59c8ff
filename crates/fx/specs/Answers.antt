-- What the entries of fx answer: document 01's refusal number where its table refuses, place "arithmetic" (6) or "carrier table" (3), else the value.
use Rattle.refusal.specs.declared.Refusal.{Refusal}
use Rattle.fx.specs.declared.Polar.{Polar}
use Rattle.refusal.specs.declared.Refusal.TheVariants.{Arithmetic, Table}
use Rattle.fx.specs.declared.CosSin.{CosSin}
use Rattle.fx.specs.declared.Parts.{Parts}
use Rattle.std.specs.Prelude.{ℕ, ◌^◌, Bool, ◌||◌, List, length, ℤ, pos, ◌==◌, int_lt, nat_le, nat_lt, unsigned_abs, Result, Ok, Err}
use Rattle.laws.specs.Choice.{when◌then◌else◌}
use Rattle.fx.specs.Fx.{round_shift, div_round, mag_approx, sat16_of, sat127_of, sat32_of, trunc_index, round_index, cos_sin_at}
use Rattle.fx.specs.Cordic.{cordic_of}
use Rattle.fx.specs.Scale.{cordic_scale}

-- "other whole-number argument wider than 32 bits of size over 2^60"
abbrev pub wide : ℤ → Bool
wide v = nat_lt (2 ^ 60) (unsigned_abs v)

-- "CORDIC input of size 2^22 or more"
abbrev pub outside : ℤ → Bool
outside v = nat_le (2 ^ 22) (unsigned_abs v)

-- "shift over 60"
unfoldable pub round_shift_answer : ℤ → ℕ → Result ℤ Refusal
round_shift_answer v s = when nat_lt 60 s || wide v then Err Arithmetic else Ok (round_shift v s)

-- "divisor under 1"
unfoldable pub div_round_answer : ℤ → ℤ → Result ℤ Refusal
div_round_answer a b = when int_lt b (pos 1) || (wide a || wide b) then Err Arithmetic else Ok (div_round a b)

unfoldable pub mag_approx_answer : ℤ → ℤ → Result ℤ Refusal
mag_approx_answer re im = when wide re || wide im then Err Arithmetic else Ok (pos (mag_approx re im))

unfoldable pub sat16_answer : ℤ → Result ℤ Refusal
sat16_answer v = when wide v then Err Arithmetic else Ok (sat16_of v)

unfoldable pub sat127_answer : ℤ → Result ℤ Refusal
sat127_answer v = when wide v then Err Arithmetic else Ok (sat127_of v)

unfoldable pub sat32_answer : ℤ → Result ℤ Refusal
sat32_answer v = when wide v then Err Arithmetic else Ok (sat32_of v)

unfoldable pub cordic_answer : ℤ → ℤ → Result Polar Refusal
cordic_answer re im = when outside re || outside im then Err Arithmetic else Ok (cordic_of re im)

unfoldable pub cordic_scale_answer : ℤ → ℤ → Result Parts Refusal
cordic_scale_answer re im = when wide re || wide im then Err Arithmetic else Ok (cordic_scale re im)

-- 3, the carrier table is "not 1,024 i16"
unfoldable pub cos_sin_trunc_answer : List ℤ → ℕ → Result CosSin Refusal
cos_sin_trunc_answer table angle = when length table == 1024 then Ok (cos_sin_at table (trunc_index angle)) else Err Table

unfoldable pub cos_sin_round_answer : List ℤ → ℕ → Result CosSin Refusal
cos_sin_round_answer table angle = when length table == 1024 then Ok (cos_sin_at table (round_index angle)) else Err Table
