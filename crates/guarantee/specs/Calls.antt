-- A list of a receiver's calls, and what each of them tells.
use Rattle.std.specs.Prelude.{ℕ, ◌<◌, false, List, [], ◌∷◌, ◌≡◌, eqb, ℤ, pos, length, get_or, replicate, Option, None}
use Rattle.std.specs.Int.{w8, w16}
use Rattle.std.proofs.Common.{SFits}
use Rattle.sync_step.specs.declared.Events.{Events}
use Rattle.sync_step.specs.Events.{no_events}
use Rattle.sums.specs.declared.Sums.{Sums}
use Rattle.refusal.specs.Refusals.{state_after}
use Rattle.receiver.specs.declared.Receiver.{Receiver}
use Rattle.receiver.specs.declared.Kept.{Kept}
use Rattle.receiver_slot.specs.declared.Runs.{Runs}
use Rattle.receiver.specs.Started.{started}
use Rattle.receiver.specs.Symbol.{Input, Lent}
use Rattle.receiver.specs.Answers.{code_in, receiver_left, events_told, runs_told, receiver_ended, sums_ended, no_runs, symbol_answer, symbol_lent, points_answer, taps_answer, open_answer, end_answer, restart_answer, restart_acc}

-- ---- calls
-- the accumulators and the slot store "as the calls before left them, or stores that give 1"
pub data Accumulators : Type 0 where
  own : Accumulators
  wrong : (acc : List ℕ) → eqb (length acc) 9296 ≡ false → Accumulators

pub data SlotStore : Type 0 where
  own : SlotStore
  wrong : (store : List ℤ) → eqb (length store) 18592 ≡ false → SlotStore

-- a call with all that it takes: a symbol (with both words, the carrier table and "the soft buffer .. another each time"); a constellation; taps and
-- their frame; sums opened for a frame, and ended; a restart at a position
pub data Call : Type 0 where
  symbol : Input → Accumulators → SlotStore → (soft : List ℤ) → Call
  points : ℕ → List ℤ → ℤ → Call
  taps : List ℤ → ℕ → Call
  opens : ℕ → Call
  ends : Call
  restarts : ℕ → Accumulators → Call

-- what the types of a call say: signed bytes, and a table of 16 bits
pub record InputFits (x : Input) : Type 0 where
  pub xi : SFits w8 x.xi
  pub xq : SFits w8 x.xq
  pub table : (k : ℕ) → k < length x.table → SFits w16 (get_or x.table k (pos 0))

abbrev pub CallFits : Call → Type 0
CallFits (symbol x a b soft) = InputFits x
CallFits (points bits ps k) = Unit {0}
CallFits (taps ts frame) = Unit {0}
CallFits (opens frame) = Unit {0}
CallFits ends = Unit {0}
CallFits (restarts at a) = Unit {0}

abbrev pub CallsFit : List Call → Type 0
CallsFit [] = Unit {0}
CallsFit (c ∷ cs) = CallFits c × CallsFit cs

-- ---- a receiver with its two stores; "nobody else writes the two stores meanwhile"
pub record System : Type 0 where
  pub receiver : Receiver
  pub acc : List ℕ
  pub store : List ℤ

-- a receiver that has just started, its accumulators at zero
unfoldable pub begins : ℕ → Kept → List ℤ → System
begins at k store = record { receiver = started at k; acc = replicate 9296 0; store = store }

unfoldable pub handed_acc : System → Accumulators → List ℕ
handed_acc s own = s.acc
handed_acc s (wrong acc e) = acc

unfoldable pub handed_store : System → SlotStore → List ℤ
handed_store s own = s.store
handed_store s (wrong store e) = store

unfoldable pub lent_to : System → Accumulators → SlotStore → List ℤ → Lent
lent_to s a b soft = record { acc = handed_acc s a; store = handed_store s b; soft = soft }

-- the own stores after a call that was given these and left those
unfoldable pub kept_acc : System → Accumulators → List ℕ → List ℕ
kept_acc s own left = left
kept_acc s (wrong acc e) left = s.acc

unfoldable pub kept_store : System → SlotStore → List ℤ → List ℤ
kept_store s own left = left
kept_store s (wrong store e) left = s.store

-- what a call leaves
unfoldable pub after_call : System → Call → System
after_call s (symbol x a b soft) =
    let l = lent_to s a b soft in
    let m = symbol_lent s.receiver x l in
    record { receiver = receiver_left (symbol_answer s.receiver x l); acc = kept_acc s a m.acc; store = kept_store s b m.store }
after_call s (points bits ps k) = record { receiver = state_after (points_answer s.receiver bits ps k); acc = s.acc; store = s.store }
after_call s (taps ts frame) = record { receiver = state_after (taps_answer s.receiver ts frame); acc = s.acc; store = s.store }
after_call s (opens frame) = record { receiver = state_after (open_answer s.receiver frame); acc = s.acc; store = s.store }
after_call s ends = record { receiver = receiver_ended (end_answer s.receiver); acc = s.acc; store = s.store }
after_call s (restarts at a) =
    let acc = handed_acc s a in
    record { receiver = state_after (restart_answer s.receiver at acc); acc = kept_acc s a (restart_acc s.receiver at acc); store = s.store }

unfoldable pub after_calls : System → List Call → System
after_calls s [] = s
after_calls s (c ∷ cs) = after_calls (after_call s c) cs

-- ---- what a call tells: "each refusal number, each answer with its events in order and all their fields, the soft buffers' bytes and the
-- accumulators"; "the receiver handed back and the slot store are not compared"
pub record Told : Type 0 where
  -- 0 for an accepted call
  pub refusal : ℕ
  pub events : Events
  pub runs : Runs
  -- those that an end gives back, if there were open ones
  pub sums : Option Sums
  -- the soft buffer that was lent, afterwards
  pub soft : List ℤ
  -- the accumulators that were lent, afterwards
  pub lent : List ℕ
  -- .. and the receiver's own
  pub acc : List ℕ

unfoldable pub plain : System → ℕ → Told
plain s n = record { refusal = n; events = no_events; runs = no_runs; sums = None; soft = []; lent = []; acc = s.acc }

unfoldable pub told_by : System → Call → Told
told_by s (symbol x a b soft) =
    let l = lent_to s a b soft in
    let r = symbol_answer s.receiver x l in
    let m = symbol_lent s.receiver x l in
    record {
      refusal = code_in r;
      events = events_told r;
      runs = runs_told r;
      sums = None;
      soft = m.soft;
      lent = m.acc;
      acc = kept_acc s a m.acc;
    }
told_by s (points bits ps k) = plain s (code_in (points_answer s.receiver bits ps k))
told_by s (taps ts frame) = plain s (code_in (taps_answer s.receiver ts frame))
told_by s (opens frame) = plain s (code_in (open_answer s.receiver frame))
told_by s ends =
    let r = end_answer s.receiver in
    record {
      refusal = code_in r;
      events = no_events;
      runs = no_runs;
      sums = sums_ended r;
      soft = [];
      lent = [];
      acc = s.acc;
    }
told_by s (restarts at a) =
    let acc = handed_acc s a in
    let left = restart_acc s.receiver at acc in
    record {
      refusal = code_in (restart_answer s.receiver at acc);
      events = no_events;
      runs = no_runs;
      sums = None;
      soft = [];
      lent = left;
      acc = kept_acc s a left;
    }

unfoldable pub told_all : System → List Call → List Told
told_all s [] = []
told_all s (c ∷ cs) = told_by s c ∷ told_all (after_call s c) cs
