-- "A slot is corrected, as `SlotPhase::correct`, only if at least 9,296 symbols came between two heads; those past the 9,296th are ignored."
use Rattle.std.specs.Prelude.{ℕ, ◌+◌, ◌*◌, List, eqb, ltb, ℤ, pos, ◌+ℤ◌, ◌-ℤ◌, ◌*ℤ◌, get_or, set, Option, None, Some}
use Rattle.std.specs.Int.Signed.{lt_z}
use Rattle.laws.specs.Choice.{when◌then◌else◌}
use Rattle.fx.specs.Fx.{round_shift, div_round, sat16_of, round_index, cos_sin_at}
use Rattle.angles.specs.Angles.{turned_by, turn_from, turned_back}
use Rattle.angles.specs.declared.Symbol.{Symbol}
use Rattle.sync_heads.specs.declared.Head.{Head}
use Rattle.phase.specs.declared.Held.{Held}
use Rattle.phase.specs.declared.WholeSlot.{WholeSlot}
use Rattle.phase.specs.declared.Corrected.{Corrected}

-- ---- gain
-- `gain_of`: 4,555,500,750 over the magnitude, rounded; a magnitude below 64 counts as 64. 4,555,500,750 is 2^27 times 24 times the root of 2,
-- rounded: a sync symbol's amplitude becomes 2^10, with 17 fraction bits
unfoldable pub gain_of : ℤ → ℤ
gain_of amp = div_round (pos 4555500750) (when lt_z amp (pos 64) then pos 64 else amp)

-- ---- what is held
-- a head's slot begins
unfoldable pub begun_of : Head → Option Held
begun_of h = Some (record { head = h; count = 0 })

-- a symbol is counted up to the n-th: 9,296
unfoldable pub counted_in : ℕ → Held → Held
counted_in n x = when ltb x.count n then record { head = x.head; count = x.count + 1 } else x

unfoldable pub pushed_in : ℕ → Option Held → Option Held
pushed_in n None = None
pushed_in n (Some x) = Some (counted_in n x)

-- .. and written at its place: entries 2j and 2j + 1 for symbol j; all else stays
unfoldable pub stored_in : ℕ → Option Held → ℤ → ℤ → List ℤ → List ℤ
stored_in n None i q store = store
stored_in n (Some x) i q store = when ltb x.count n then set (set store (2 * x.count) i) (2 * x.count + 1) q else store

abbrev pub pushed_of : Option Held → Option Held
pushed_of s = pushed_in 9296 s

abbrev pub stored_of : Option Held → ℤ → ℤ → List ℤ → List ℤ
stored_of s i q store = stored_in 9296 s i q store

-- ---- the slot to correct
-- a difference over the slot as a step for each symbol, with 16 fraction bits: 14,784,741 is 2^37 / 9,296, rounded
unfoldable pub per_symbol : ℤ → ℤ
per_symbol d = round_shift (d *ℤ pos 14784741) 21

unfoldable pub whole_of : Head → Head → WholeSlot
whole_of a b =
    record {
      head = a;
      next = b;
      delta = per_symbol (turn_from a.theta b.theta);
      gain = gain_of a.amp;
      gamma = per_symbol (gain_of b.amp -ℤ gain_of a.amp);
    }

-- the slot that a head completes, if its n symbols came
unfoldable pub due_in : ℕ → Option Held → Head → Option WholeSlot
due_in n None h = None
due_in n (Some x) h = when eqb x.count n then Some (whole_of x.head h) else None

abbrev pub due_of : Option Held → Head → Option WholeSlot
due_of s h = due_in 9296 s h

-- ---- a corrected symbol
-- phase and gain at symbol j, between the two heads
unfoldable pub phase_at : ℕ → ℤ → ℕ → ℕ
phase_at theta delta j = turned_by theta (round_shift (delta *ℤ pos j) 16)

unfoldable pub gain_at : ℤ → ℤ → ℕ → ℤ
gain_at gain gamma j = gain +ℤ round_shift (gamma *ℤ pos j) 16

-- i + jq turned back by phi, then times the gain, saturated to 16 bits
unfoldable pub scaled_of : List ℤ → ℕ → ℤ → ℤ → ℤ → Symbol
scaled_of table phi gain i q =
    let u = turned_back (cos_sin_at table (round_index phi)) i q 15 in
    record { i = sat16_of (round_shift (u.re *ℤ gain) 17); q = sat16_of (round_shift (u.im *ℤ gain) 17) }

-- the symbol at place j of a store
unfoldable pub symbol_at : List ℤ → ℕ → Symbol
symbol_at store j = record { i = get_or store (2 * j) (pos 0); q = get_or store (2 * j + 1) (pos 0) }

unfoldable pub corrected_of : WholeSlot → List ℤ → List ℤ → ℕ → Corrected
corrected_of s table store j =
    let phi = phase_at s.head.theta s.delta j in
    let gain = gain_at s.gain s.gamma j in
    let r = symbol_at store j in
    record {
      at = s.head.at + j;
      word = s.head.word;
      slot = s.head.slot;
      j = j;
      r = r;
      phi = phi;
      gain = gain;
      y = scaled_of table phi gain r.i r.q;
    }
