-- What outputs and sums say of the calls since a start and since an opening.
use Rattle.std.specs.Prelude.{ℕ, suc, ◌≤◌, ◌<◌, Bool, ◌&&◌, List, [], ◌∷◌, ◌≡◌, ℤ, None, Some, Result, Ok, IsOk, IsOkAnd, is_ok}
use Rattle.laws.specs.Choice.{when◌then◌else◌}
use Rattle.eq_fir.specs.Fir.{output_of}
use Rattle.eq_train.specs.Sound.{Training, Holds}
use Rattle.refusal.specs.declared.Refused.{Refused}
use Rattle.sums.specs.declared.Sums.{Sums}
use Rattle.eq.specs.declared.Closed.{Closed}
use Rattle.eq.specs.declared.Equaliser.{Equaliser}
use Rattle.eq.specs.Eq.{pushed_eq, trains_eq}
use Rattle.eq.specs.Answers.{train_refusal, push_answer}
use Rattle.eq_range.specs.Calls.{Call, restarts, pushes, outputs, opens, trains, closes, loads, eq_of}

-- ---- since a start
abbrev pub NoRestart : List Call → Type 0
NoRestart [] = Unit {0}
NoRestart (restarts ∷ cs) = ⊥
NoRestart (pushes i q ∷ cs) = NoRestart cs
NoRestart (outputs ∷ cs) = NoRestart cs
NoRestart (opens frame ∷ cs) = NoRestart cs
NoRestart (trains di dq ∷ cs) = NoRestart cs
NoRestart (closes ∷ cs) = NoRestart cs
NoRestart (loads taps frame ∷ cs) = NoRestart cs

-- the symbols pushed
unfoldable pub symbols_in : List Call → ℕ
symbols_in [] = 0
symbols_in (restarts ∷ cs) = symbols_in cs
symbols_in (pushes i q ∷ cs) = suc (symbols_in cs)
symbols_in (outputs ∷ cs) = symbols_in cs
symbols_in (opens frame ∷ cs) = symbols_in cs
symbols_in (trains di dq ∷ cs) = symbols_in cs
symbols_in (closes ∷ cs) = symbols_in cs
symbols_in (loads taps frame ∷ cs) = symbols_in cs

-- what a push after n others since a start gives: nothing for the first five, then the filter's output for the line with this symbol
pub record Pushes (e : Equaliser) (n : ℕ) (i q : ℤ) : Type 0 where
  pub taken : IsOk (push_answer e i q)
  pub few : n < 5 → IsOkAnd (push_answer e i q) (λ x. x.out ≡ None)
  pub enough : 5 ≤ n → IsOkAnd (push_answer e i q) (λ x. x.out ≡ Some (output_of e.taps (pushed_eq e i q).line))

-- ---- since an opening
abbrev pub StaysOpen : List Call → Type 0
StaysOpen [] = Unit {0}
StaysOpen (restarts ∷ cs) = ⊥
StaysOpen (pushes i q ∷ cs) = StaysOpen cs
StaysOpen (outputs ∷ cs) = StaysOpen cs
StaysOpen (opens frame ∷ cs) = ⊥
StaysOpen (trains di dq ∷ cs) = StaysOpen cs
StaysOpen (closes ∷ cs) = ⊥
StaysOpen (loads taps frame ∷ cs) = StaysOpen cs

-- a training on e counts: sums are open, the line holds 11 symbols, and it is not refused
unfoldable pub counts : Equaliser → Bool
counts e = trains_eq e && is_ok (train_refusal e)

-- the trainings among calls on e that count, each with the line that it finds
unfoldable pub trainings_in : Equaliser → List Call → List Training
trainings_in e [] = []
trainings_in e (restarts ∷ cs) = trainings_in (eq_of e restarts) cs
trainings_in e (pushes i q ∷ cs) = trainings_in (eq_of e (pushes i q)) cs
trainings_in e (outputs ∷ cs) = trainings_in e cs
trainings_in e (opens frame ∷ cs) = trainings_in (eq_of e (opens frame)) cs
trainings_in e (trains di dq ∷ cs) =
    let ts = trainings_in (eq_of e (trains di dq)) cs in
    when counts e then record { line = e.line; di = di; dq = dq } ∷ ts else ts
trainings_in e (closes ∷ cs) = trainings_in (eq_of e closes) cs
trainings_in e (loads taps frame ∷ cs) = trainings_in (eq_of e (loads taps frame)) cs

-- what closing gives: sums of the frame, that hold exactly these trainings
pub record Gives (x : Result Closed (Refused Equaliser)) (frame : ℕ) (ts : List Training) : Type 0 where
  pub closed : Closed
  pub sums : Sums
  pub taken : x ≡ Ok closed
  pub ended : closed.sums ≡ Some sums
  pub of : sums.frame ≡ frame
  pub holds : Holds sums ts
