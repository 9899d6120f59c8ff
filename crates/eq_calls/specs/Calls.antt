-- What each call answers and leaves, by the definitions of eq and solve.
use Rattle.angles.specs.declared.Symbol.{Symbol}
use Rattle.std.specs.Prelude.{ℕ, List, Option, None, Some, Result, Ok, Err, is_some}
use Rattle.std.specs.Option.{unwrap_or}
use Rattle.refusal.specs.declared.Refused.{Refused}
use Rattle.refusal.specs.Refusals.{number_of}
use Rattle.sums.specs.Sums.{empty_sums}
use Rattle.eq.specs.declared.Closed.{Closed}
use Rattle.eq.specs.declared.Equaliser.{Equaliser}
use Rattle.eq.specs.declared.Pushed.{Pushed}
use Rattle.eq.specs.Eq.{new_eq, with_sums}
use Rattle.eq.specs.Answers.{restart_answer, push_answer, output_answer, open_answer, train_answer, close_answer, load_answer}
use Rattle.solve.specs.Answers.{solve_answer}
use Rattle.wire.specs.Wire.{bits}
use Rattle.fields.specs.Fields.{at, at32, signed16, flag_of, sixteens_of}
use Rattle.eq_calls.specs.declared.kept.Kept.{Kept}
use Rattle.eq_calls.specs.declared.kept.Turn.{Turn}
use Rattle.eq_calls.specs.Kept.{with_eq, with_solver, turned}
use Rattle.eq_calls.specs.Given.{wides_of, line_put, taps_put, numbers_put, upper_put, right_put}
use Rattle.eq_calls.specs.Told.{told_of, solved_told}

-- a refusal, or 0, and an equaliser
unfoldable pub plain : Kept → ℕ → Equaliser → Turn
plain k refusal e = turned (with_eq k e) (told_of (with_eq k e) refusal 0 0 0)

-- ---- the equaliser
unfoldable pub new_call : Kept → Turn
new_call k = plain k 0 new_eq

-- a refusal and the equaliser as it was, or an equaliser
unfoldable pub answer_call : Kept → Result Equaliser (Refused Equaliser) → Turn
answer_call k (Ok e) = plain k 0 e
answer_call k (Err x) = plain k (number_of x.why) x.state

unfoldable pub restart_call : Kept → Turn
restart_call k = answer_call k (restart_answer k.eq)

-- a symbol that there may be: 1 and its parts, or 0
unfoldable pub symbol_told : Kept → Option Symbol → List ℕ
symbol_told k None = told_of k 0 0 0 0
symbol_told k (Some z) = told_of k 0 1 (bits z.i) (bits z.q)

unfoldable pub symbol_call : Kept → Result Pushed (Refused Equaliser) → Turn
symbol_call k (Ok x) = turned (with_eq k x.eq) (symbol_told (with_eq k x.eq) x.out)
symbol_call k (Err x) = plain k (number_of x.why) x.state

unfoldable pub push_call : Kept → List ℕ → Turn
push_call k p = symbol_call k (push_answer k.eq (signed16 p 1) (signed16 p 2))

unfoldable pub output_call : Kept → Turn
output_call k = symbol_call k (output_answer k.eq)

unfoldable pub open_call : Kept → List ℕ → Turn
open_call k p = answer_call k (open_answer k.eq (at32 p 1))

unfoldable pub train_call : Kept → List ℕ → Turn
train_call k p = answer_call k (train_answer k.eq (signed16 p 1) (signed16 p 2))

-- the sums that it answers, or none, are those to solve from now on
unfoldable pub closed_call : Result Closed (Refused Equaliser) → Turn
closed_call (Ok x) =
    let n : Kept = record { eq = x.eq; sums = unwrap_or x.sums (empty_sums 0) } in
    turned n (told_of n 0 (flag_of (is_some x.sums)) 0 0)
closed_call (Err x) =
    let n : Kept = record { eq = x.state; sums = empty_sums 0 } in
    turned n (told_of n (number_of x.why) 0 0 0)

unfoldable pub close_call : Kept → Turn
close_call k = closed_call (close_answer k.eq)

unfoldable pub load_call : Kept → List ℕ → Turn
load_call k p = answer_call k (load_answer k.eq (sixteens_of p) (at32 p 1))

-- ---- an equaliser handed in
unfoldable pub line_call : Kept → List ℕ → Turn
line_call k p = plain k 0 (line_put k.eq (sixteens_of p))

unfoldable pub taps_call : Kept → List ℕ → Turn
taps_call k p = plain k 0 (taps_put k.eq (sixteens_of p))

unfoldable pub numbers_call : Kept → List ℕ → Turn
numbers_call k p = plain k 0 (numbers_put k.eq p)

unfoldable pub upper_call : Kept → List ℕ → Turn
upper_call k p = plain k 0 (with_sums k.eq k.eq.opened (upper_put k.eq.sums (at p 1) (wides_of p)))

unfoldable pub right_call : Kept → List ℕ → Turn
right_call k p = plain k 0 (with_sums k.eq k.eq.opened (right_put k.eq.sums (wides_of p)))

-- ---- the solver: the equaliser's sums, open or not, are those to solve from now on
unfoldable pub keep_call : Kept → Turn
keep_call k = plain (with_solver k k.eq.sums) 0 k.eq

unfoldable pub solve_call : Kept → Turn
solve_call k = turned k (solved_told (solve_answer k.sums))
