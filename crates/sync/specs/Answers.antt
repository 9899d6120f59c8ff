-- What the entries answer, and the accumulators afterwards. A refusal "returns the number and the state received; lent memory is unchanged".
use Rattle.std.specs.Prelude.{ℕ, ◌+◌, ◌^◌, ◌&&◌, List, eqb, leb, ltb, ℤ, length, replicate, None, Result, Ok, Err, ⊤}
use Rattle.laws.specs.Choice.{when◌then◌else◌}
use Rattle.refusal.specs.Refusals.{answered, written}
use Rattle.refusal.specs.declared.Refusal.{Refusal}
use Rattle.refusal.specs.declared.Refusal.TheVariants.{Stores, Words, Arithmetic, Position}
use Rattle.refusal.specs.declared.Refused.{Refused}
use Rattle.sync_corr.specs.Correlate.{ones_of}
use Rattle.sync_step.specs.declared.Run.{Run}
use Rattle.sync_step.specs.Step.{place_of}
use Rattle.sync_step.specs.Ranges.{run_in_range}
use Rattle.sync.specs.declared.SlotSync.{SlotSync}
use Rattle.sync.specs.declared.Pushed.{Pushed}
use Rattle.sync.specs.Sync.{window_after, started_sync, stored_of, kept_window, symbol_of}

-- ---- a new sync: refused where the accumulators are not 9,296, with the sync that starts there
unfoldable pub new_answer : ℕ → List ℕ → Result SlotSync (Refused SlotSync)
new_answer at acc = when eqb (length acc) 9296 then Ok (started_sync at None) else Err (record { why = Stores; state = started_sync at None })

unfoldable pub new_acc : List ℕ → List ℕ
new_acc acc = when eqb (length acc) 9296 then replicate (length acc) 0 else acc

-- ---- a symbol: accumulators not 9,296; a word entry not 1 or -1; a number of the state out of range; the symbol at 2^62 or more
unfoldable pub push_refusal : ℕ → List ℤ → List ℤ → Run → Result ⊤ Refusal
push_refusal len f w r =
    when eqb len 9296
    then when ones_of f && ones_of w
    then when run_in_range r then when leb (2 ^ 62) (r.base + r.t) then Err Position else Ok tt else Err Arithmetic
    else Err Words
    else Err Stores

unfoldable pub accepted_push : SlotSync → ℤ → ℤ → List ℤ → List ℤ → List ℕ → Pushed
accepted_push s i q f w acc =
    let x = symbol_of 9296 s i q f w acc in
    record {
      sync = record { win = kept_window x.stores (window_after s.win i q); run = x.run };
      last = x.last;
      events = x.events;
    }

unfoldable pub accepted_acc : SlotSync → ℤ → ℤ → List ℤ → List ℤ → List ℕ → List ℕ
accepted_acc s i q f w acc = stored_of (symbol_of 9296 s i q f w acc).stores (place_of 9296 s.run.t) acc

unfoldable pub push_answer : SlotSync → ℤ → ℤ → List ℤ → List ℤ → List ℕ → Result Pushed (Refused SlotSync)
push_answer s i q f w acc = answered (push_refusal (length acc) f w s.run) s (accepted_push s i q f w acc)

unfoldable pub push_acc : SlotSync → ℤ → ℤ → List ℤ → List ℤ → List ℕ → List ℕ
push_acc s i q f w acc = written (push_refusal (length acc) f w s.run) acc (accepted_acc s i q f w acc)

-- ---- a restart: accumulators not 9,296; a number of the state out of range; "a restart names a position below the next symbol's"
unfoldable pub restart_refusal : ℕ → ℕ → Run → Result ⊤ Refusal
restart_refusal len at r =
    when eqb len 9296 then when run_in_range r then when ltb at (r.base + r.t) then Err Position else Ok tt else Err Arithmetic else Err Stores

unfoldable pub restart_answer : SlotSync → ℕ → List ℕ → Result SlotSync (Refused SlotSync)
restart_answer s at acc = answered (restart_refusal (length acc) at s.run) s (started_sync at s.run.course.last)

unfoldable pub restart_acc : SlotSync → ℕ → List ℕ → List ℕ
restart_acc s at acc = written (restart_refusal (length acc) at s.run) acc (replicate (length acc) 0)

-- ---- the sync after a symbol's call, taken or refused
abbrev pub sync_left : Result Pushed (Refused SlotSync) → SlotSync
sync_left (Ok pushed) = pushed.sync
sync_left (Err refused) = refused.state
