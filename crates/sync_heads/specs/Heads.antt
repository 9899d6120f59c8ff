-- What a reading comes to.
use Rattle.sync_heads.specs.declared.SlotNumber.{SlotNumber}
use Rattle.std.specs.Prelude.{ℕ, Bool, true, false, int_lt, None, Some, Option}
use Rattle.laws.specs.Choice.{when◌then◌else◌}
use Rattle.fx.specs.Cordic.{cordic_of}
use Rattle.sync_corr.specs.declared.Corr.{Corr}
use Rattle.sync_heads.specs.Words.{margin_of, said_of}
use Rattle.sync_heads.specs.Frames.{next_slot, with_sign, fsync_course}
use Rattle.sync_heads.specs.declared.Reading.{Reading}
use Rattle.sync_heads.specs.declared.Parity.{Parity}
use Rattle.sync_heads.specs.declared.Stage.{Stage}
use Rattle.sync_heads.specs.declared.Stage.TheVariants.{Before, First, Known}
use Rattle.sync_heads.specs.declared.Course.{Course}
use Rattle.sync_heads.specs.declared.Word.{Word}
use Rattle.sync_heads.specs.declared.Word.TheVariants.{Ssync, Fsync, NotFsync}
use Rattle.sync_heads.specs.declared.Said.{Said}
use Rattle.sync_heads.specs.declared.Head.{Head}
use Rattle.sync_heads.specs.declared.Told.{Told}
use Rattle.sync_heads.specs.declared.Taken.{Taken}

-- a head as told: angle and size are the CORDIC's
unfoldable pub head_of : Said → ℕ → Option SlotNumber → Head
head_of w at slot =
    let p = cordic_of w.corr.re w.corr.im in
    record { at = at; word = w.word; corr = w.corr; theta = p.angle; amp = p.size; slot = slot; nco_phase = 0 }

unfoldable pub is_fsync : Word → Bool
is_fsync Ssync = false
is_fsync Fsync = true
is_fsync NotFsync = false

-- an Ssync head: the slot's number goes on
unfoldable pub ssync_of : Course → Reading → Told
ssync_of c r =
    let slot = next_slot c.slot in
    record { lost = false; course = with_sign c c.majority slot; head = Some (head_of (said_of true r.both r.both.s) r.at slot) }

-- an F head, read against the last Ssync head; the head that loses is not told
unfoldable pub fsync_of : ℕ → Course → Reading → Corr → Told
fsync_of n c r last =
    let w = said_of false r.both last in
    let m = fsync_course n (is_fsync w.word) c r.at in
    when m.lost
    then record { lost = true; course = m.course; head = None }
    else record { lost = false; course = m.course; head = Some (head_of w r.at m.course.slot) }

-- what a reading with Ssync, or with an F word, comes to; `odd` tells which heads carry Ssync
unfoldable pub ssync_taken : Bool → Course → Reading → Taken
ssync_taken odd c r =
    let t = ssync_of c r in
    record {
      lost = false;
      stage = Known (record { odd = odd; due = false; last = r.both.s });
      course = t.course;
      first = t.head;
      second = None;
    }

unfoldable pub fsync_taken : ℕ → Bool → Corr → Course → Reading → Taken
fsync_taken n odd last c r =
    let t = fsync_of n c r last in
    record {
      lost = t.lost;
      stage = Known (record { odd = odd; due = true; last = last });
      course = t.course;
      first = t.head;
      second = None;
    }

-- once the parity is known, they take turns
unfoldable pub known_of : ℕ → Parity → Course → Reading → Taken
known_of n p c r = when p.due then ssync_taken p.odd c r else fsync_taken n p.odd p.last c r

-- head zero, an Ssync head, is told with head one
unfoldable pub both_heads : ℕ → Reading → Course → Reading → Taken
both_heads n z c r =
    let a = ssync_of c z in
    let t = fsync_taken n false z.both.s a.course r in
    record { lost = t.lost; stage = t.stage; course = t.course; first = a.head; second = t.first }

-- head one: head zero carries Ssync unless its margin is the lesser, and then it "stays silent"
unfoldable pub first_of : ℕ → Reading → Course → Reading → Taken
first_of n z c r = when int_lt (margin_of z.both) (margin_of r.both) then ssync_taken true c r else both_heads n z c r

-- "head zero .. waits for head one"
unfoldable pub read_of : ℕ → Stage → Course → Reading → Taken
read_of n Before c r = record { lost = false; stage = First r; course = c; first = None; second = None }
read_of n (First z) c r = first_of n z c r
read_of n (Known p) c r = known_of n p c r
