-- What one symbol makes of a sync and its accumulators.
use Rattle.sync_heads.specs.declared.FrameHead.{FrameHead}
use Rattle.std.specs.Prelude.{ℕ, List, [], ◌∷◌, ◌++◌, ℤ, pos, length, get_or, set, replicate, drop, Option}
use Rattle.sync_corr.specs.Correlate.{both_of}
use Rattle.sync_step.specs.declared.Stores.{Stores}
use Rattle.sync_step.specs.declared.Stores.TheVariants.{Nothing, One, Zeros}
use Rattle.sync_step.specs.declared.Step.{Step}
use Rattle.sync_step.specs.Step.{started_of, place_of, step_of}
use Rattle.sync.specs.declared.SlotSync.{SlotSync}

-- the last 24 symbols, oldest first, I before Q
unfoldable pub window_after : List ℤ → ℤ → ℤ → List ℤ
window_after win i q = drop 2 win ++ (i ∷ q ∷ [])

-- 24 symbols of zero
unfoldable pub no_window : List ℤ
no_window = replicate 48 (pos 0)

-- a sync that starts at a position with this frame record
unfoldable pub started_sync : ℕ → Option FrameHead → SlotSync
started_sync at last = record { win = no_window; run = started_of at last }

-- the accumulators after a symbol at place p: "New and restarted syncs zero the accumulators."
unfoldable pub stored_of : Stores → ℕ → List ℕ → List ℕ
stored_of Nothing p acc = acc
stored_of (One a) p acc = set acc p a
stored_of Zeros p acc = replicate (length acc) 0

-- the window after a symbol: a restarted sync has none
unfoldable pub kept_window : Stores → List ℤ → List ℤ
kept_window Nothing win = win
kept_window (One a) win = win
kept_window Zeros win = no_window

-- a symbol with these words: the window that it completes is correlated with them, and the accumulator of that position is read
unfoldable pub symbol_of : ℕ → SlotSync → ℤ → ℤ → List ℤ → List ℤ → List ℕ → Step
symbol_of n s i q f w acc = step_of n s.run (both_of (window_after s.win i q) f w) (get_or acc (place_of n s.run.t) 0)
