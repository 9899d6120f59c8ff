-- What the entries answer. A refusal "returns the number and the state received". 6, a number of the state out of range, is the only one but for
-- a training: 8, "training count 4,194,304 .. before any addition the call would make".
use Rattle.std.specs.Prelude.{ℕ, true, ◌&&◌, List, leb, ℤ, Some, Result, Ok, Err, ⊤}
use Rattle.laws.specs.Choice.{when◌then◌else◌}
use Rattle.refusal.specs.declared.Refusal.{Refusal}
use Rattle.refusal.specs.declared.Refusal.TheVariants.{Arithmetic, Counts}
use Rattle.refusal.specs.declared.Refused.{Refused}
use Rattle.refusal.specs.Refusals.{answered}
use Rattle.sums.specs.Sums.{empty_sums}
use Rattle.eq_fir.specs.Fir.{output_of}
use Rattle.eq.specs.declared.Equaliser.{Equaliser}
use Rattle.eq.specs.declared.Pushed.{Pushed}
use Rattle.eq.specs.declared.Closed.{Closed}
use Rattle.eq.specs.Eq.{started_eq, pushed_eq, output_at, with_sums, closed_eq, loaded_eq, trains_eq, trained_eq}
use Rattle.eq.specs.Ranges.{eq_in_range}

-- 6, a number out of range
unfoldable pub range_refusal : Equaliser → Result ⊤ Refusal
range_refusal e = when eq_in_range e then Ok tt else Err Arithmetic

-- .. and 8, a training that would be counted with the count full
unfoldable pub train_refusal : Equaliser → Result ⊤ Refusal
train_refusal e = when eq_in_range e then when trains_eq e && leb 4194304 e.sums.count then Err Counts else Ok tt else Err Arithmetic

unfoldable pub restart_answer : Equaliser → Result Equaliser (Refused Equaliser)
restart_answer e = answered (range_refusal e) e (started_eq e.taps e.from)

unfoldable pub push_answer : Equaliser → ℤ → ℤ → Result Pushed (Refused Equaliser)
push_answer e i q = let n = pushed_eq e i q in answered (range_refusal e) e (record { eq = n; out = output_at n })

unfoldable pub output_answer : Equaliser → Result Pushed (Refused Equaliser)
output_answer e = answered (range_refusal e) e (record { eq = e; out = Some (output_of e.taps e.line) })

unfoldable pub open_answer : Equaliser → ℕ → Result Equaliser (Refused Equaliser)
open_answer e frame = answered (range_refusal e) e (with_sums e true (empty_sums frame))

unfoldable pub train_answer : Equaliser → ℤ → ℤ → Result Equaliser (Refused Equaliser)
train_answer e di dq = answered (train_refusal e) e (trained_eq e di dq)

unfoldable pub close_answer : Equaliser → Result Closed (Refused Equaliser)
close_answer e = answered (range_refusal e) e (closed_eq e)

unfoldable pub load_answer : Equaliser → List ℤ → ℕ → Result Equaliser (Refused Equaliser)
load_answer e taps frame = answered (range_refusal e) e (loaded_eq e taps frame)

-- ---- the equaliser after a call, refused or not; where the answer is the equaliser alone, `state_after` gives it
abbrev pub eq_after_push : Result Pushed (Refused Equaliser) → Equaliser
eq_after_push (Ok pushed) = pushed.eq
eq_after_push (Err refused) = refused.state

abbrev pub eq_after_close : Result Closed (Refused Equaliser) → Equaliser
eq_after_close (Ok closed) = closed.eq
eq_after_close (Err refused) = refused.state
