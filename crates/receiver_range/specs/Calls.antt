-- Calls one after another, from a new receiver on.
use Rattle.std.specs.Prelude.{◌≡◌, true, List, [], ◌∷◌, ℕ, ◌^◌, ◌<◌, ℤ, length, get_or, pos}
use Rattle.std.specs.Int.{w8, w16}
use Rattle.std.proofs.Common.{SFits}
use Rattle.refusal.specs.Refusals.{state_after}
use Rattle.receiver.specs.declared.Receiver.{Receiver}
use Rattle.receiver.specs.Symbol.{Input, Lent}
use Rattle.receiver.specs.Ranges.{receiver_in_range}
use Rattle.receiver.specs.Answers.{code_in, receiver_left, receiver_ended, new_answer, symbol_answer, points_answer, taps_answer, open_answer, end_answer, restart_answer}
use Rattle.receiver_range.specs.Coherent.{CoherentReceiver}

-- a symbol with what is lent; a constellation; taps and their frame; sums opened and ended; a restart
pub data Call : Type 0 where
  symbol : Input → Lent → Call
  points : ℕ → List ℤ → ℤ → Call
  taps : List ℤ → ℕ → Call
  opens : ℕ → Call
  ends : Call
  restarts : ℕ → List ℕ → Call

-- the number of a call's refusal, 0 if it is accepted
unfoldable pub refusal_of : Receiver → Call → ℕ
refusal_of r (symbol x l) = code_in (symbol_answer r x l)
refusal_of r (points bits ps k) = code_in (points_answer r bits ps k)
refusal_of r (taps ts frame) = code_in (taps_answer r ts frame)
refusal_of r (opens frame) = code_in (open_answer r frame)
refusal_of r ends = code_in (end_answer r)
refusal_of r (restarts at acc) = code_in (restart_answer r at acc)

-- the receiver that a call on r answers, or hands back
unfoldable pub receiver_of : Receiver → Call → Receiver
receiver_of r (symbol x l) = receiver_left (symbol_answer r x l)
receiver_of r (points bits ps k) = state_after (points_answer r bits ps k)
receiver_of r (taps ts frame) = state_after (taps_answer r ts frame)
receiver_of r (opens frame) = state_after (open_answer r frame)
receiver_of r ends = receiver_ended (end_answer r)
receiver_of r (restarts at acc) = state_after (restart_answer r at acc)

-- .. and after several
unfoldable pub receiver_after : Receiver → List Call → Receiver
receiver_after r [] = r
receiver_after r (c ∷ cs) = receiver_after (receiver_of r c) cs

-- what the types of a symbol's call say: signed bytes, a table of 16 bits, accumulators of 32 bits, any at each call
pub record SymbolFits (x : Input) (l : Lent) : Type 0 where
  pub xi : SFits w8 x.xi
  pub xq : SFits w8 x.xq
  pub table : (k : ℕ) → k < length x.table → SFits w16 (get_or x.table k (pos 0))
  pub acc : (k : ℕ) → k < length l.acc → get_or l.acc k 0 < 2 ^ 32

abbrev pub CallFits : Call → Type 0
CallFits (symbol x l) = SymbolFits x l
CallFits (points bits ps k) = Unit {0}
CallFits (taps ts frame) = Unit {0}
CallFits (opens frame) = Unit {0}
CallFits ends = Unit {0}
CallFits (restarts at acc) = Unit {0}

abbrev pub CallsFit : List Call → Type 0
CallsFit [] = Unit {0}
CallsFit (c ∷ cs) = CallFits c × CallsFit cs

-- ---- what is true of a receiver that came from calls
pub record Sound (r : Receiver) : Type 0 where
  pub coherent : CoherentReceiver r
  pub in_range : receiver_in_range r ≡ true
  -- no call on it finds a number out of range
  pub never_6 : (c : Call) → refusal_of r c ≡ 6 → ⊥

-- .. that is, of any that `new` answers and any calls then leave
abbrev pub CallsKeep : Type 0
CallsKeep = (at : ℕ) (step : ℤ) (acc : List ℕ) (cs : List Call) → CallsFit cs → Sound (receiver_after (state_after (new_answer at step acc)) cs)
