-- Calls one after another, from a new equaliser on.
use Rattle.std.specs.Prelude.{ℕ, true, List, [], ◌∷◌, ◌≡◌, ◌≢◌, ℤ, Option, None, Some, Result, Ok, Err}
use Rattle.std.specs.Int.{w16}
use Rattle.std.proofs.Common.{SFits}
use Rattle.refusal.specs.declared.Refusal.{Refusal}
use Rattle.refusal.specs.declared.Refusal.TheVariants.{Arithmetic}
use Rattle.refusal.specs.declared.Refused.{Refused}
use Rattle.refusal.specs.Refusals.{state_after}
use Rattle.eq.specs.declared.Equaliser.{Equaliser}
use Rattle.eq.specs.Eq.{started_eq, new_eq, trains_eq}
use Rattle.eq.specs.Ranges.{eq_in_range}
use Rattle.eq.specs.Answers.{restart_answer, push_answer, output_answer, open_answer, train_answer, close_answer, load_answer, eq_after_push, eq_after_close}
use Rattle.eq_range.specs.Coherent.{Coherent}

-- the entries, with what they are given: a symbol, a frame, a reference, taps and their frame
pub data Call : Type 0 where
  restarts : Call
  pushes : ℤ → ℤ → Call
  outputs : Call
  opens : ℕ → Call
  trains : ℤ → ℤ → Call
  closes : Call
  loads : List ℤ → ℕ → Call

-- the refusal of an answer, if it is one
abbrev pub why_of : {T S : Type 0} → Result T (Refused S) → Option Refusal
why_of (Ok answer) = None
why_of (Err refused) = Some refused.why

-- the refusal that a call on e answers, if any
unfoldable pub refusal_of : Equaliser → Call → Option Refusal
refusal_of e restarts = why_of (restart_answer e)
refusal_of e (pushes i q) = why_of (push_answer e i q)
refusal_of e outputs = why_of (output_answer e)
refusal_of e (opens frame) = why_of (open_answer e frame)
refusal_of e (trains di dq) = why_of (train_answer e di dq)
refusal_of e closes = why_of (close_answer e)
refusal_of e (loads taps frame) = why_of (load_answer e taps frame)

-- the equaliser that a call on e answers
unfoldable pub eq_of : Equaliser → Call → Equaliser
eq_of e restarts = state_after (restart_answer e)
eq_of e (pushes i q) = eq_after_push (push_answer e i q)
eq_of e outputs = e
eq_of e (opens frame) = state_after (open_answer e frame)
eq_of e (trains di dq) = state_after (train_answer e di dq)
eq_of e closes = eq_after_close (close_answer e)
eq_of e (loads taps frame) = state_after (load_answer e taps frame)

-- .. and after several
unfoldable pub eq_after : Equaliser → List Call → Equaliser
eq_after e [] = e
eq_after e (c ∷ cs) = eq_after (eq_of e c) cs

-- symbols and references are numbers of 16 bits
abbrev pub CallFits : Call → Type 0
CallFits restarts = Unit {0}
CallFits (pushes i q) = SFits w16 i × SFits w16 q
CallFits outputs = Unit {0}
CallFits (opens frame) = Unit {0}
CallFits (trains di dq) = SFits w16 di × SFits w16 dq
CallFits closes = Unit {0}
CallFits (loads taps frame) = Unit {0}

abbrev pub CallsFit : List Call → Type 0
CallsFit [] = Unit {0}
CallsFit (c ∷ cs) = CallFits c × CallsFit cs

-- ---- what each call makes of a coherent equaliser
pub record Keeps : Type 0 where
  -- a start, with any taps
  pub started : (taps : List ℤ) (from : Option ℕ) → Coherent (started_eq taps from)
  -- an entry's answer, a refusal too
  pub answered : (e : Equaliser) (c : Call) → Coherent e → CallFits c → Coherent (eq_of e c)
  -- the ranges
  pub in_range : (e : Equaliser) → Coherent e → eq_in_range e ≡ true

-- ---- what is true of an equaliser that came from calls
pub record Sound (e : Equaliser) : Type 0 where
  pub coherent : Coherent e
  pub in_range : eq_in_range e ≡ true
  -- no call on it finds a number out of range: 6
  pub never_6 : (c : Call) → refusal_of e c ≢ Some Arithmetic
  -- a training is refused only if it would be counted and the count is full
  pub full : (di dq : ℤ) → refusal_of e (trains di dq) ≢ None → (trains_eq e ≡ true) × (e.sums.count ≡ 4194304)

-- .. that is, of a new one that any calls then leave
abbrev pub CallsKeep : Type 0
CallsKeep = (cs : List Call) → CallsFit cs → Sound (eq_after new_eq cs)
