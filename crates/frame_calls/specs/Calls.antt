-- Calls one after another, from a new alignment on: its own entries, and the equaliser's on the field `eq`. Refused ones are among them.
use Rattle.std.specs.Prelude.{ℕ, List, [], ◌∷◌, ℤ, Option, None, Result, Ok, Err, ⊤}
use Rattle.phase.specs.declared.Corrected.{Corrected}
use Rattle.refusal.specs.Refusals.{state_after}
use Rattle.refusal.specs.declared.Refusal.{Refusal}
use Rattle.refusal.specs.declared.Refused.{Refused}
use Rattle.sums.specs.declared.Sums.{Sums}
use Rattle.eq.specs.declared.Closed.{Closed}
use Rattle.eq.specs.declared.Equaliser.{Equaliser}
use Rattle.eq.specs.Answers.{open_answer, close_answer, load_answer, eq_after_close}
use Rattle.frame.specs.declared.Back.{Back}
use Rattle.frame.specs.Answers.{restart_answer, push_answer, back_of}
use Rattle.frame_range.specs.Coherent.{Short}

-- a symbol with the two words of that call; a frame; taps and their frame
pub data Call : Type 0 where
  pushes : Corrected → List ℤ → List ℤ → Call
  restarts : Call
  opens : ℕ → Call
  closes : Call
  loads : List ℤ → ℕ → Call

unfoldable pub with_eq : Back → Equaliser → Back
with_eq b e = record { eq = e; metas = b.metas; last = b.last }

-- the alignment that a call on b answers
unfoldable pub after_call : Back → Call → Back
after_call b (pushes c f s) = back_of (push_answer b c f s)
after_call b restarts = state_after (restart_answer b)
after_call b (opens frame) = with_eq b (state_after (open_answer b.eq frame))
after_call b closes = with_eq b (eq_after_close (close_answer b.eq))
after_call b (loads taps frame) = with_eq b (state_after (load_answer b.eq taps frame))

-- whether an answer is a refusal, and which
abbrev pub test_of : {T S : Type 0} → Result T (Refused S) → Result ⊤ Refusal
test_of (Ok answer) = Ok tt
test_of (Err refused) = Err refused.why

-- the refusal that it answers, if any
unfoldable pub refusal_of : Back → Call → Result ⊤ Refusal
refusal_of b (pushes c f s) = test_of (push_answer b c f s)
refusal_of b restarts = test_of (restart_answer b)
refusal_of b (opens frame) = test_of (open_answer b.eq frame)
refusal_of b closes = test_of (close_answer b.eq)
refusal_of b (loads taps frame) = test_of (load_answer b.eq taps frame)

-- the sums that closing ends, if any were open
abbrev pub sums_ended : Result Closed (Refused Equaliser) → Option Sums
sums_ended (Ok closed) = closed.sums
sums_ended (Err refused) = None

-- .. and after several
unfoldable pub after_calls : Back → List Call → Back
after_calls b [] = b
after_calls b (c ∷ cs) = after_calls (after_call b c) cs

-- symbols are numbers of 16 bits
abbrev pub CallFits : Call → Type 0
CallFits (pushes c f s) = Short c
CallFits restarts = Unit {0}
CallFits (opens frame) = Unit {0}
CallFits closes = Unit {0}
CallFits (loads taps frame) = Unit {0}

abbrev pub CallsFit : List Call → Type 0
CallsFit [] = Unit {0}
CallsFit (c ∷ cs) = CallFits c × CallsFit cs
