-- Calls one after another, from a new sync on.
use Rattle.sync_heads.specs.declared.FrameHead.{FrameHead}
use Rattle.std.specs.Prelude.{◌≡◌, true, false, List, [], ◌∷◌, ℕ, ◌+◌, ◌*◌, ◌^◌, ◌≤◌, ◌<◌, ℤ, nat_abs, length, get_or, Option, None, Some, Result, Ok, Err}
use Rattle.sync_corr.specs.Correlate.{ones_of}
use Rattle.sync_heads.specs.Ranges.{record_in_range}
use Rattle.sync_step.specs.Step.{is_locked}
use Rattle.sync_step.specs.Ranges.{run_in_range}
use Rattle.sync.specs.declared.SlotSync.{SlotSync}
use Rattle.sync.specs.Sync.{started_sync}
use Rattle.sync.specs.Answers.{new_answer, accepted_push, push_answer, restart_answer, sync_left}
use Rattle.refusal.specs.Refusals.{state_after}
use Rattle.refusal.specs.declared.Refusal.{Refusal}
use Rattle.refusal.specs.declared.Refusal.TheVariants.{Arithmetic}
use Rattle.refusal.specs.declared.Refused.{Refused}
use Rattle.sync_range.specs.Coherent.{Bound, Short, corr_most, most_of, Coherent, Fresh}

-- a symbol's two parts, with the two words and the accumulators that are lent; or a restart at a position
pub data Call : Type 0 where
  push : ℤ → ℤ → List ℤ → List ℤ → List ℕ → Call
  restart : ℕ → List ℕ → Call

-- why an answer refuses
abbrev pub refused_for : {T S : Type 0} → Result T (Refused S) → Option Refusal
refused_for (Ok answer) = None
refused_for (Err refused) = Some refused.why

-- the refusal that a call on s answers
unfoldable pub refusal_of : SlotSync → Call → Option Refusal
refusal_of s (push i q f w acc) = refused_for (push_answer s i q f w acc)
refusal_of s (restart at acc) = refused_for (restart_answer s at acc)

-- the sync that a call on s answers; a refused one hands back s
unfoldable pub sync_of : SlotSync → Call → SlotSync
sync_of s (push i q f w acc) = sync_left (push_answer s i q f w acc)
sync_of s (restart at acc) = state_after (restart_answer s at acc)

-- .. and after several
unfoldable pub sync_after : SlotSync → List Call → SlotSync
sync_after s [] = s
sync_after s (c ∷ cs) = sync_after (sync_of s c) cs

-- what is asked of a symbol's call: a symbol within the bound, and accumulators of 32 bits, any at each call
pub record PushFits (b : Bound) (i q : ℤ) (acc : List ℕ) : Type 0 where
  pub first : nat_abs i ≤ b.part
  pub second : nat_abs q ≤ b.part
  pub both : nat_abs i + nat_abs q ≤ b.sum
  pub lent : (j : ℕ) → j < length acc → get_or acc j 0 < 2 ^ 32

abbrev pub CallFits : Bound → Call → Type 0
CallFits b (push i q f w acc) = PushFits b i q acc
CallFits b (restart at acc) = Unit {0}

abbrev pub CallsFit : Bound → List Call → Type 0
CallsFit b [] = Unit {0}
CallsFit b (c ∷ cs) = CallFits b c × CallsFit b cs

-- ---- what each call makes of a coherent sync
pub record Keeps (b : Bound) : Type 0 where
  -- a start, at any position and with any frame record in range
  pub started : (at : ℕ) (last : Option FrameHead) → record_in_range last ≡ true → Coherent b (started_sync at last)
  -- an accepted symbol
  pub pushed : (s : SlotSync) (i q : ℤ) (f w : List ℤ) (acc : List ℕ) → Coherent b s → PushFits b i q acc → ones_of f ≡ true → ones_of w ≡ true →
      length acc ≡ 9296 →
      s.run.base + s.run.t < 2 ^ 62 → Coherent b (accepted_push s i q f w acc).sync
  -- a restart, which keeps the frame record
  pub restarted : (s : SlotSync) (at : ℕ) → Coherent b s → Coherent b (started_sync at s.run.course.last)
  -- an entry's answer, a refusal too
  pub answered : (s : SlotSync) (c : Call) → Coherent b s → CallFits b c → Coherent b (sync_of s c)
  -- until it locks it is as it started, but for the figures of the period
  pub fresh : (s : SlotSync) → Coherent b s → is_locked s.run.lock ≡ false → Fresh s.run
  -- the ranges
  pub in_range : (s : SlotSync) → Short b → Coherent b s → run_in_range s.run ≡ true

-- ---- what is true of a sync that came from calls
pub record Sound (b : Bound) (s : SlotSync) : Type 0 where
  pub coherent : Coherent b s
  pub in_range : run_in_range s.run ≡ true
  -- no call on it finds a number out of range
  pub never_6 : (c : Call) → refusal_of s c ≡ Some Arithmetic → ⊥

-- .. that is, of any sync that `new` answers, refused or not, and any calls then leave
abbrev pub CallsKeep : Type 0
CallsKeep = (b : Bound) (at : ℕ) (acc : List ℕ) (cs : List Call) → Short b → CallsFit b cs → Sound b (sync_after (state_after (new_answer at acc)) cs)

-- ---- the figures of docs/RANGES.md, "Slot sync": correlation part, peak, sum
pub record Figures (b : Bound) (corr peak sum : ℕ) : Type 0 where
  pub corr_is : corr_most b ≡ corr
  pub peak_is : most_of b ≡ peak
  pub sum_is : 9296 * most_of b ≡ sum
