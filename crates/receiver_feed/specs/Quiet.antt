-- How the code goes through symbols that tell nothing: window, figures, carrier phase, one accumulator and one place of the slot store change. That this is
-- what a symbol's call does is a law (proofs/Calm.antt).
use Rattle.phase.specs.declared.Held.{Held}
use Rattle.std.specs.Prelude.{ℕ, zero, suc, ◌+◌, ◌*◌, min, true, List, ◌≡◌, ltb, ℤ, pos, get_or, set, Option, None, Some}
use Rattle.laws.specs.Choice.{when◌then◌else◌}
use Rattle.angles.specs.Angles.{turned_by}
use Rattle.sync_lock.specs.declared.Tally.{Tally}
use Rattle.sync_step.specs.Step.{place_of}
use Rattle.sync_block.specs.Quiet.{passed_run, roll_one, rolled}
use Rattle.carrier.specs.Carrier.{rotated_of}
use Rattle.phase.specs.Phase.{symbol_at}
use Rattle.receiver_bounds.specs.Bounds.{all_within, tally_within}
use Rattle.receiver.specs.declared.Receiver.{Receiver}
use Rattle.receiver.specs.Symbol.{Lent}

-- what such a symbol moves
pub record Moving : Type 0 where
  pub win : List ℤ
  pub tally : Tally
  pub acc : List ℕ
  pub store : List ℤ
  pub phase : ℕ

abbrev pub moving : List ℤ → Tally → List ℕ → List ℤ → ℕ → Moving
moving w y a s p = record { win = w; tally = y; acc = a; store = s; phase = p }

-- a symbol at place c of the slot store; past the 9,296th it is ignored
unfoldable pub kept_at : ℕ → ℤ → ℤ → List ℤ → List ℤ
kept_at c i q store = when ltb c 9296 then set (set store (2 * c) i) (2 * c + 1) q else store

-- what the loop is lent: bytes, carrier table, the rows of the words, the carrier step
pub record Course : Type 0 where
  pub bytes : List ℤ
  pub table : List ℤ
  pub rows : List ℤ
  pub freq : ℤ

-- symbol i of the bytes, whose window stands at place p of the period; the one 23 back goes to place c
unfoldable pub move_one : Course → ℕ → ℕ → ℕ → Moving → Moving
move_one d i p c x =
    let z = rotated_of d.table x.phase (get_or d.bytes (2 * i) (pos 0)) (get_or d.bytes (2 * i + 1) (pos 0)) in
    let y = roll_one d.rows z.i z.q p (rolled x.win x.tally x.acc) in
    let w = symbol_at y.win 0 in
    moving y.win y.tally y.acc (kept_at c w.i w.q x.store) (turned_by x.phase d.freq)

-- the first k of them
unfoldable pub moves : Course → ℕ → ℕ → ℕ → ℕ → Moving → Moving
moves d i p c zero x = x
moves d i p c (suc k) x = move_one d (i + k) (p + k) (c + k) (moves d i p c k x)

-- the numbers that they change are in range
pub record Fits (x : Moving) : Type 0 where
  pub win : all_within 4096 x.win ≡ true
  pub tally : tally_within x.tally ≡ true

-- ---- a receiver goes through them
-- the next place of the slot store; none is 9,296
unfoldable pub place_in : Option Held → ℕ
place_in None = 9296
place_in (Some x) = x.count

-- k more symbols are counted, up to the 9,296th
unfoldable pub phase_on : ℕ → Option Held → Option Held
phase_on k None = None
phase_on k (Some x) = Some (record { head = x.head; count = min (x.count + k) 9296 })

unfoldable pub start_of : Receiver → List ℕ → List ℤ → Moving
start_of r acc store = moving r.front.sync.win r.front.sync.run.tally acc store r.front.nco.phase

unfoldable pub passed_by : Receiver → ℕ → Moving → Receiver
passed_by r k x =
    record {
      front = record {
        nco = record { phase = x.phase; freq = r.front.nco.freq; trail = r.front.nco.trail };
        sync = passed_run r.front.sync.run x.win k x.tally;
        phase = phase_on k r.front.phase;
      };
      back = r.back;
      points = r.points;
    }

unfoldable pub lent_by : List ℤ → Moving → Lent
lent_by soft x = record { acc = x.acc; store = x.store; soft = soft }

-- from symbol i on, with these bytes, table and rows
unfoldable pub course_of : Receiver → List ℤ → List ℤ → List ℤ → Course
course_of r bytes table rows = record { bytes = bytes; table = table; rows = rows; freq = r.front.nco.freq }

unfoldable pub moves_from : Receiver → List ℤ → List ℤ → List ℤ → List ℕ → List ℤ → ℕ → ℕ → Moving
moves_from r bytes table rows acc store i k =
    moves (course_of r bytes table rows) i (place_of 9296 r.front.sync.run.t) (place_in r.front.phase) k (start_of r acc store)
