-- A block of filtered symbols, trainings on one line, a solve.
use Rattle.std.specs.Prelude.{ℕ, zero, suc, ◌+◌, ◌*◌, ◌/◌, ◌<◌, ◌≡◌, List, Bool, ◌&&◌, ℤ, pos, nat_abs, length, get_or, set, leb, Result, Ok, Err}
use Rattle.std.specs.List.{list_all}
use Rattle.refusal.specs.declared.Refusal.{Refusal}
use Rattle.refusal.specs.Refusals.{number_of}
use Rattle.std.specs.Int.{w16}
use Rattle.std.proofs.Common.{SFits}
use Rattle.laws.specs.Choice.{when◌then◌else◌}
use Rattle.eq_fir.specs.Fir.{line_after, no_line}
use Rattle.eq_fir.specs.Rows.{output_by}
use Rattle.eq_train.specs.Train.{nth, trained_sums}
use Rattle.solve.specs.Answers.{solve_answer}
use Rattle.solve.specs.Taps.{no_taps}
use Rattle.sums.specs.Sums.{empty_sums}
use Rattle.sums.specs.declared.Sums.{Sums}
use Rattle.eq_bench.specs.declared.CSums.{CSums}
use Rattle.eq_bench.specs.declared.CSolved.{CSolved}

-- a line, and the outputs so far
pub record Filtered : Type 0 where
  pub line : List ℤ
  pub out : List ℤ

abbrev pub filtered : List ℤ → List ℤ → Filtered
filtered line out = record { line = line; out = out }

-- symbol k of ys
unfoldable pub filtered_one : List ℤ → List ℤ → ℕ → Filtered → Filtered
filtered_one rows ys k t =
    let l = line_after t.line (get_or ys (2 * k) (pos 0)) (get_or ys (2 * k + 1) (pos 0)) in
    let z = output_by rows l in
    filtered l (set (set t.out (2 * k) z.i) (2 * k + 1) z.q)

-- the first n of them
unfoldable pub filtered_by : List ℤ → List ℤ → ℕ → Filtered → Filtered
filtered_by rows ys zero t = t
filtered_by rows ys (suc k) t = filtered_one rows ys k (filtered_by rows ys k t)

-- ---- all of it, from an empty line, where the rows are bytes
unfoldable pub in_byte : ℤ → Bool
in_byte v = leb (nat_abs v) 255

abbrev pub in_bytes : List ℤ → Bool
in_bytes rows = list_all in_byte rows

abbrev pub filters : List ℤ → List ℤ → List ℤ → Bool
filters rows ys out = in_bytes rows && leb (length ys) (length out)

unfoldable pub filtered_code : List ℤ → List ℤ → List ℤ → ℕ
filtered_code rows ys out = when filters rows ys out then 1 else 0

unfoldable pub filtered_out : List ℤ → List ℤ → List ℤ → List ℤ
filtered_out rows ys out = when filters rows ys out then (filtered_by rows ys (length ys / 2) (filtered no_line out)).out else out

-- ---- a solve
unfoldable pub sums_of : CSums → Sums
sums_of c = record { frame = c.frame; count = c.count; r = c.r; p = c.p }

-- the taps, or a refusal's number and zeros
abbrev pub told_solved : Result (List ℤ) Refusal → CSolved
told_solved (Ok taps) = record { refusal = 0; taps = taps }
told_solved (Err why) = record { refusal = number_of why; taps = no_taps }

unfoldable pub solved_of : CSums → CSolved
solved_of c = told_solved (solve_answer (sums_of c))

-- ---- a training on the line after each symbol
-- the line after the first n symbols of ys
unfoldable pub line_by : List ℤ → ℕ → List ℤ
line_by ys zero = no_line
line_by ys (suc k) = line_after (line_by ys k) (get_or ys (2 * k) (pos 0)) (get_or ys (2 * k + 1) (pos 0))

-- eleven symbols of 16 bits
pub record Short (line : List ℤ) : Type 0 where
  pub long : length line ≡ 22
  pub fits : (k : ℕ) → k < 22 → SFits w16 (nth line k)

-- n trainings with one reference
unfoldable pub trained_along : List ℤ → ℤ → ℤ → ℕ → Sums
trained_along ys di dq zero = empty_sums 0
trained_along ys di dq (suc k) = trained_sums (trained_along ys di dq k) (line_by ys (suc k)) di dq

unfoldable pub across_c : Sums → CSums
across_c s = record { frame = s.frame; count = s.count; r = s.r; p = s.p }

unfoldable pub trained_c : List ℤ → ℤ → ℤ → CSums
trained_c ys di dq = when leb (length ys / 2) 4194304 then across_c (trained_along ys di dq (length ys / 2)) else across_c (empty_sums 0)
