-- The answers to calls, by the definitions of fx and the C boundary.
use Rattle.std.specs.Prelude.{ℕ, ◌%◌, ◌^◌, List, [], ◌∷◌, ◌++◌, ℤ, pos, get_or}
use Rattle.fx.specs.Fx.{signed_angle}
use Rattle.fx.specs.Answers.{round_shift_answer, div_round_answer, mag_approx_answer, sat16_answer, sat127_answer, sat32_answer, cordic_answer, cordic_scale_answer, cos_sin_trunc_answer, cos_sin_round_answer}
use Rattle.c_api.specs.Api.{two, number, polar_numbers, part_numbers, phasor_numbers}
use Rattle.c_api.specs.declared.Number.{Number}
use Rattle.c_api.specs.declared.Numbers.{Numbers}
use Rattle.wire.specs.Wire.{word_at, signed, bits, bytes_of}
use Rattle.wire.specs.Blocks.{replayed as replayed_by}

-- a single value is x; y is 0
abbrev pub alone : Number → Numbers
alone n = record { first = n.value; second = pos 0; refusal = n.refusal }

-- the functions in the order of their numbers; x and y are the fields as signed numbers, l and m their low halves
abbrev pub answers : List ℤ → ℤ → ℤ → ℕ → ℕ → List Numbers
answers table x y l m =
    alone (number (round_shift_answer x m))
    ∷ alone (number (sat16_answer x))
    ∷ alone (number (sat127_answer x))
    ∷ alone (number (sat32_answer x))
    ∷ alone (number (mag_approx_answer x y))
    ∷ polar_numbers (cordic_answer x y)
    ∷ part_numbers (cordic_scale_answer x y)
    ∷ two (signed_angle l) (pos 0)
    ∷ phasor_numbers (cos_sin_trunc_answer table l)
    ∷ phasor_numbers (cos_sin_round_answer table l)
    ∷ alone (number (div_round_answer x y))
    ∷ []

-- what is told where there is no such function: 255, which is no refusal's number
abbrev pub no_call : Numbers
no_call = record { first = pos 0; second = pos 0; refusal = 255 }

-- the answer of function op, or refusal 255 where there is no such function
unfoldable pub answer_of : List ℤ → ℕ → ℕ → ℕ → Numbers
answer_of table op a b = get_or (answers table (signed (2 ^ 63) a) (signed (2 ^ 63) b) (a % 2 ^ 32) (b % 2 ^ 32)) op no_call

-- an answer as 24 bytes: refusal, x, y
unfoldable pub encoded : Numbers → List ℕ
encoded n = bytes_of n.refusal ++ bytes_of (bits n.first) ++ bytes_of (bits n.second)

-- the answer to the call at the start of s: function, a, b
unfoldable pub answer_bytes : List ℤ → List ℕ → List ℕ
answer_bytes table s = encoded (answer_of table (word_at s 0) (word_at s 8) (word_at s 16))

-- the answers to the first n calls of s, each of 24 bytes, and what follows those calls; the table stays
abbrev pub same : List ℤ → List ℕ → List ℤ
same table s = table

abbrev pub replayed : List ℤ → ℕ → List ℕ → List ℕ
replayed table n s = replayed_by 24 answer_bytes same table n s
