-- Symbols one after another on a new sync at position 0.
use Rattle.std.specs.Prelude.{ℕ, zero, suc, ◌+◌, ◌*◌, ◌/◌, List, ℤ, length, Result, Ok, Err}
use Rattle.refusal.specs.Refusals.{number_of}
use Rattle.refusal.specs.declared.Refused.{Refused}
use Rattle.sync_corr.specs.Correlate.{at}
use Rattle.sync.specs.declared.SlotSync.{SlotSync}
use Rattle.sync.specs.declared.Pushed.{Pushed}
use Rattle.sync.specs.Answers.{new_answer, new_acc, push_answer, push_acc}
use Rattle.sync_bench.specs.declared.Streamed.{Streamed}
use Rattle.sync_bench.specs.declared.Left.{Left}

-- a sync with its accumulators, the symbols taken, the last accumulator and refusal
pub record Flow : Type 0 where
  pub sync : SlotSync
  pub taken : ℕ
  pub level : ℕ
  pub refusal : ℕ
  pub acc : List ℕ

abbrev pub flow : SlotSync → ℕ → ℕ → ℕ → List ℕ → Flow
flow s k l n a = record { sync = s; taken = k; level = l; refusal = n; acc = a }

-- what a new sync leaves, refused or not
unfoldable pub begun_of : Result SlotSync (Refused SlotSync) → Left
begun_of (Ok s) = record { sync = s; level = 0; refusal = 0 }
begun_of (Err r) = record { sync = r.state; level = 0; refusal = number_of r.why }

unfoldable pub new_flow : List ℕ → Flow
new_flow acc =
    let b = begun_of (new_answer 0 acc) in
    flow b.sync 0 b.level b.refusal (new_acc acc)

abbrev pub streamed : Flow → Streamed
streamed x = record { taken = x.taken; level = x.level; refusal = x.refusal }

-- what a symbol leaves; one that is refused leaves the sync as it was, and tells no accumulator
unfoldable pub left_of : Result Pushed (Refused SlotSync) → Left
left_of (Ok p) = record { sync = p.sync; level = p.last.level; refusal = 0 }
left_of (Err r) = record { sync = r.state; level = 0; refusal = number_of r.why }

unfoldable pub push_one : List ℤ → List ℤ → List ℤ → ℕ → Flow → Flow
push_one sy f w k x =
    let a = left_of (push_answer x.sync (at sy (2 * k)) (at sy (2 * k + 1)) f w x.acc) in
    flow a.sync (suc k) a.level a.refusal (push_acc x.sync (at sy (2 * k)) (at sy (2 * k + 1)) f w x.acc)

unfoldable pub push_many : List ℤ → List ℤ → List ℤ → ℕ → Flow → Flow
push_many sy f w zero x = x
push_many sy f w (suc k) x = push_one sy f w k (push_many sy f w k x)

unfoldable pub pushed_stream : List ℤ → List ℤ → List ℤ → List ℕ → Streamed
pushed_stream sy f w acc = streamed (push_many sy f w (length sy / 2) (new_flow acc))

unfoldable pub pushed_acc : List ℤ → List ℤ → List ℤ → List ℕ → List ℕ
pushed_acc sy f w acc = (push_many sy f w (length sy / 2) (new_flow acc)).acc
