-- What the solver answers: 9, "count 0 or over 4,194,304, or an entry of size over 2^53"; then 10, "a column's greatest squared magnitude is
-- under 1e-24"; else the taps.
use Rattle.std.specs.Prelude.{◌^◌, Bool, ◌||◌, List, ℤ, ◌==◌, nat_lt, unsigned_abs, Result, Err}
use Rattle.std.specs.List.{list_any}
use Rattle.std.specs.Result.{result_map_both}
use Rattle.refusal.specs.declared.Refusal.{Refusal}
use Rattle.laws.specs.Choice.{when◌then◌else◌}
use Rattle.solve_step.specs.Back.{solution_of}
use Rattle.solve.specs.System.{sums_system}
use Rattle.solve.specs.Taps.{taps_of}
use Rattle.sums.specs.declared.Sums.{Sums}

-- "of size over 2^53"
abbrev pub wide : ℤ → Bool
wide v = nat_lt (2 ^ 53) (unsigned_abs v)

-- some entry is
abbrev pub any_wide : List ℤ → Bool
any_wide l = list_any wide l

unfoldable pub outside_of : Sums → Bool
outside_of s = s.count == 0 || nat_lt 4194304 s.count || any_wide s.r || any_wide s.p

unfoldable pub solve_answer : Sums → Result (List ℤ) Refusal
solve_answer s = when outside_of s then Err Refusal.Sums else result_map_both taps_of (λ why. why) (solution_of (sums_system s))
