-- Answers as 24 numbers: the refusal, the answer's numbers, and zeros behind them. A negative number is 2^64 more.
use Rattle.std.specs.Prelude.{ℕ, ◌+◌, ◌*◌, false, List, [], ◌∷◌, ◌++◌, ltb, ℤ, pos, get_or, replicate, Option, None, Some, Result, Ok, Err}
use Rattle.laws.specs.Choice.{when◌then◌else◌}
use Rattle.refusal.specs.Refusals.{number_of}
use Rattle.refusal.specs.declared.Refused.{Refused}
use Rattle.learn.specs.declared.Figured.{Figured}
use Rattle.learn.specs.declared.Learn.{Learn}
use Rattle.learn.specs.Learning.{sum_at, count_at}
use Rattle.in_force.specs.declared.InForce.{InForce}
use Rattle.wire.specs.Wire.{bits}
use Rattle.fields.specs.Fields.{flag_of}

-- nine numbers
unfoldable pub told : ℕ → List ℕ → List ℕ
told refusal v =
    (refusal ∷ get_or v 0 0 ∷ get_or v 1 0 ∷ get_or v 2 0 ∷ get_or v 3 0 ∷ get_or v 4 0 ∷ get_or v 5 0 ∷ get_or v 6 0 ∷ get_or v 7 0 ∷ get_or v 8 0 ∷ []) ++ replicate 14 0

-- two numbers
unfoldable pub single_told : ℕ → ℕ → ℕ → List ℕ
single_told refusal v w = told refusal (v ∷ w ∷ replicate 7 0)

-- ---- four soft values from o on
unfoldable pub soft_told : ℕ → ℕ → List ℤ → List ℕ
soft_told refusal o s =
    when ltb o 38
    then told refusal
    ((bits (get_or s o (pos 0)) ∷ bits (get_or s (o + 1) (pos 0)) ∷ bits (get_or s (o + 2) (pos 0)) ∷ bits (get_or s (o + 3) (pos 0)) ∷ []) ++ replicate 5 0)
    else single_told 255 0 0

-- ---- a noise figure: whether there is one, and it
unfoldable pub figure_told : Option ℤ → List ℕ
figure_told (Some v) = single_told 0 1 (bits v)
figure_told None = single_told 0 0 0

abbrev pub figured_told : Result Figured (Refused Learn) → List ℕ
figured_told (Ok figured) = figure_told figured.figure
figured_told (Err refused) = single_told (number_of refused.why) 0 0

-- ---- what is in force: five flags, noise figure, scale, whether there is a frame, its number
unfoldable pub known_of : Option ℕ → ℕ
known_of None = 0
known_of (Some n) = 1

unfoldable pub frame_of : Option ℕ → ℕ
frame_of None = 0
frame_of (Some n) = n

abbrev pub flag_at : InForce → ℕ → ℕ
flag_at f b = flag_of (get_or f.learned b false)

unfoldable pub force_told : InForce → List ℕ
force_told f =
    told 0 (flag_at f 0 ∷ flag_at f 1 ∷ flag_at f 2 ∷ flag_at f 3 ∷ flag_at f 4 ∷ bits f.n0 ∷ bits f.k ∷ known_of f.from ∷ frame_of f.from ∷ [])

-- ---- the label at place a: its sums and its count; and the sum and number of the noise samples
unfoldable pub place_told : Learn → ℕ → List ℕ
place_told l a =
    told 0 ((bits (sum_at l.sum (2 * a)) ∷ bits (sum_at l.sum (2 * a + 1)) ∷ count_at l.count a ∷ bits l.noise ∷ l.samples ∷ []) ++ replicate 4 0)

unfoldable pub label_told : Learn → ℕ → List ℕ
label_told l a = when ltb a 62 then place_told l a else single_told 255 0 0
