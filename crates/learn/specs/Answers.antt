-- What the entries answer, and the lent slice afterwards. A refusal "returns the number and the state received; lent memory is unchanged".
use Rattle.std.specs.Prelude.{ℕ, ◌^◌, Bool, not, ◌||◌, List, eqb, leb, ltb, ℤ, pos, length, Result, Ok, Err, Option, None, Some, ⊤}
use Rattle.std.specs.Int.Signed.{lt_z}
use Rattle.laws.specs.Choice.{when◌then◌else◌, minus}
use Rattle.refusal.specs.Refusals.{answered, written}
use Rattle.refusal.specs.declared.Refusal.{Refusal}
use Rattle.refusal.specs.declared.Refusal.TheVariants.{Points, Arithmetic, Counts}
use Rattle.refusal.specs.declared.Refused.{Refused}
use Rattle.learn.specs.declared.Learn.{Learn}
use Rattle.learn.specs.declared.Pointed.{Pointed}
use Rattle.learn.specs.declared.Figured.{Figured}
use Rattle.learn.specs.Sets.{bad_bits, place_of}
use Rattle.learn.specs.Learning.{count_at, piloted_at, sampled_by, set_learned, learned_slice, mean_noise}
use Rattle.learn.specs.Ranges.{learn_in_range}

-- ---- a pilot: 4, "bits outside 1..5"; 6, a number of the state out of range, or "pilot index over 31"; 8, the label's "learning count
-- 67,108,864, before any addition the call would make"
unfoldable pub pilot_refusal : Learn → ℕ → ℕ → Result ⊤ Refusal
pilot_refusal l bits t =
    when bad_bits bits
    then Err Points
    else when learn_in_range l
    then when ltb 31 t then Err Arithmetic else when leb 67108864 (count_at l.count (place_of bits t)) then Err Counts else Ok tt
    else Err Arithmetic

unfoldable pub pilot_answer : Learn → ℕ → ℕ → ℤ → ℤ → Result Learn (Refused Learn)
pilot_answer l bits t zi zq = answered (pilot_refusal l bits t) l (piloted_at l (place_of bits t) zi zq)

-- ---- a noise sample: 6, "noise `best` of size over 2^33"; 8, the number of samples
abbrev pub bad_best : ℤ → Bool
bad_best best = lt_z best (minus (2 ^ 33)) || lt_z (pos (2 ^ 33)) best

unfoldable pub noise_refusal : Learn → ℤ → Result ⊤ Refusal
noise_refusal l best =
    when learn_in_range l
    then when bad_best best then Err Arithmetic else when leb 67108864 l.samples then Err Counts else Ok tt
    else Err Arithmetic

unfoldable pub noise_answer : Learn → ℤ → ℤ → ℤ → Result Learn (Refused Learn)
noise_answer l yi yq best = answered (noise_refusal l best) l (sampled_by l yi yq best)

-- ---- a set's points: 4, the slice not of "124 i16", or bits; 6
unfoldable pub points_refusal : Learn → ℕ → ℕ → Result ⊤ Refusal
points_refusal l bits len = when not (eqb len 124) || bad_bits bits then Err Points else when learn_in_range l then Ok tt else Err Arithmetic

unfoldable pub points_answer : Learn → ℕ → List ℤ → Result Pointed (Refused Learn)
points_answer l bits learned = answered (points_refusal l bits (length learned)) l (record { learn = l; learned = set_learned l bits })

unfoldable pub points_slice : Learn → ℕ → List ℤ → List ℤ
points_slice l bits learned = written (points_refusal l bits (length learned)) learned (learned_slice l bits learned)

-- ---- the noise figure: 6; "no noise figure before a sample"
abbrev pub figured : Learn → Option ℤ → Result Figured (Refused Learn)
figured l f = Ok (record { learn = l; figure = f })

unfoldable pub figure_answer : Learn → Result Figured (Refused Learn)
figure_answer l =
    when learn_in_range l
    then when eqb l.samples 0 then figured l None else figured l (Some (mean_noise l))
    else Err (record { why = Arithmetic; state = l })
