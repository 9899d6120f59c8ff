-- An accepted symbol: "rotate; slot sync; each head to `Nco`, then `SlotPhase`; then the symbol 23 back to `SlotPhase`."
use Rattle.phase.specs.declared.WholeSlot.{WholeSlot}
use Rattle.std.specs.Prelude.{ℕ, ◌+◌, ◌^◌, Bool, false, ◌||◌, List, leb, ltb, ℤ, Option, None, Some}
use Rattle.laws.specs.Choice.{when◌then◌else◌}
use Rattle.angles.specs.declared.Symbol.{Symbol}
use Rattle.sync_step.specs.declared.Step.{Step}
use Rattle.sync_step.specs.Step.{place_of}
use Rattle.sync.specs.declared.SlotSync.{SlotSync}
use Rattle.sync.specs.Sync.{window_after, stored_of, kept_window, symbol_of}
use Rattle.carrier.specs.Carrier.{rotated_of, advanced_nco}
use Rattle.phase.specs.declared.Corrected.{Corrected}
use Rattle.phase.specs.Phase.{pushed_in, stored_in, symbol_at}
use Rattle.frame.specs.Stretch.{after_all}
use Rattle.frame.specs.declared.AlignedSymbol.{AlignedSymbol}
use Rattle.receiver.specs.declared.Receiver.{Receiver}
use Rattle.receiver.specs.declared.Listened.{Listened}
use Rattle.receiver_slot.specs.declared.Runs.{Runs}
use Rattle.receiver.specs.Started.{started, kept_of}
use Rattle.receiver.specs.Heads.{listened, loses_in}
use Rattle.receiver_slot.specs.Slot.{due_symbols, aligned_all, soft_all, written_on, waiting_before, runs_of, overfull}

-- a symbol (signed bytes), with the words and the carrier table that are lent with it
pub record Input : Type 0 where
  pub xi : ℤ
  pub xq : ℤ
  pub f : List ℤ
  pub s : List ℤ
  pub table : List ℤ

-- the stores that are lent: accumulators, slot store, soft buffer
pub record Lent : Type 0 where
  pub acc : List ℕ
  pub store : List ℤ
  pub soft : List ℤ

-- the position of the next symbol
unfoldable pub next_of : Receiver → ℕ
next_of r = r.front.sync.run.base + r.front.sync.run.t

-- the last symbol of a slot of n would
unfoldable pub slot_past : ℕ → Option WholeSlot → Bool
slot_past n None = false
slot_past n (Some w) = ltb (2 ^ 62) (w.head.at + n)

module _ (n : ℕ) (r : Receiver) (x : Input) (l : Lent) where
  -- "rotate"
  unfoldable pub rotated : Symbol
  rotated = rotated_of x.table r.front.nco.phase x.xi x.xq

  -- "slot sync"
  unfoldable pub synced : Step
  synced = symbol_of n r.front.sync rotated.i rotated.q x.f x.s l.acc

  -- the 24 symbols up to this one
  unfoldable pub window : List ℤ
  window = window_after r.front.sync.win rotated.i rotated.q

  unfoldable pub sync_left : SlotSync
  sync_left = record { win = kept_window synced.stores window; run = synced.run }

  -- "each head to `Nco`, then `SlotPhase`"; before that it "uses its phase, then advances it"
  unfoldable pub heads : Listened
  heads = listened n (record { nco = advanced_nco r.front.nco; phase = r.front.phase; due = None }) synced.events

  -- the symbols of the slot that a head completes; its store is read before this call's symbol is written
  unfoldable pub slot : List Corrected
  slot = due_symbols n heads.due x.table l.store

  unfoldable pub aligned : List AlignedSymbol
  aligned = aligned_all r.back slot x.f x.s

  -- "then the symbol 23 back to `SlotPhase`": the window's oldest, once 24 have come
  unfoldable pub back23 : Symbol
  back23 = symbol_at window 0

  unfoldable pub enough : Bool
  enough = leb 23 r.front.sync.run.t

  -- what is left if nothing is lost
  unfoldable pub left : Receiver
  left =
      record {
        front = record { nco = heads.nco; sync = sync_left; phase = when enough then pushed_in n heads.phase else heads.phase };
        back = after_all r.back slot x.f x.s;
        points = r.points;
      }

  -- a loss: the slot sync's last event but a period of zeros; it restarts at the next symbol's position
  unfoldable pub lost : Bool
  lost = loses_in synced.events

  unfoldable pub receiver_after : Receiver
  receiver_after = when lost then started (next_of r + 1) (kept_of left) else left

  -- ---- the lent stores afterwards; a restarted phase holds no slot, so nothing is written
  unfoldable pub acc_after : List ℕ
  acc_after = stored_of synced.stores (place_of n r.front.sync.run.t) l.acc

  unfoldable pub store_after : List ℤ
  store_after = when lost then l.store else when enough then stored_in n heads.phase back23.i back23.q l.store else l.store

  unfoldable pub soft_after : List ℤ
  soft_after = written_on (soft_all r.points aligned) l.soft

  unfoldable pub lent_after : Lent
  lent_after = record { acc = acc_after; store = store_after; soft = soft_after }

  -- ---- what is answered besides
  unfoldable pub runs : Runs
  runs = runs_of r.points (waiting_before r.back slot) aligned

  -- 7: the symbol "would stand at 2^62 or more", or a corrected symbol that it gives to the alignment, which no call's own state brings about
  unfoldable pub past : Bool
  past = leb (2 ^ 62) (next_of r) || slot_past n heads.due

  -- 8
  unfoldable pub full : Bool
  full = overfull r.back slot x.f x.s
