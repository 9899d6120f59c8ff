-- Majority, marks, slot and frame numbers.
use Rattle.sync_heads.specs.Numbers.{slot_in, last_head}
use Rattle.sync_heads.specs.declared.FrameHead.{FrameHead}
use Rattle.sync_heads.specs.declared.SlotNumber.{SlotNumber}
use Rattle.std.specs.Prelude.{ℕ, ◌+◌, ◌-◌, ◌*◌, ◌/◌, ◌%◌, ◌^◌, min, max, Bool, true, false, ℤ, pos, ◌+ℤ◌, ◌-ℤ◌, ◌==◌, int_lt, nat_lt, Option, None, Some}
use Rattle.laws.specs.Choice.{when◌then◌else◌, minus}
use Rattle.sync_heads.specs.declared.Course.{Course}
use Rattle.sync_heads.specs.declared.Marked.{Marked}

-- a sign against a majority of size at least 2 marks a frame head
unfoldable pub marks_of : Bool → ℤ → Bool
marks_of positive m = when positive then int_lt m (minus 1) else int_lt (pos 1) m

-- "the majority of -8..8"
unfoldable pub swayed_of : Bool → ℤ → ℤ
swayed_of positive m =
    when positive
    then when int_lt m (pos 8) then m +ℤ pos 1 else pos 8
    else when int_lt (minus 8) m then m -ℤ pos 1 else minus 8

-- a frame has 120 slots
unfoldable pub next_slot : Option SlotNumber → Option SlotNumber
next_slot None = None
next_slot (Some s) = slot_in ((s.number + 1) % 120) s.frame

unfoldable pub unknown_slot : Option SlotNumber → Bool
unknown_slot None = true
unknown_slot (Some s) = false

-- a frame head is expected at slot 0
unfoldable pub frame_due : Option SlotNumber → Bool
frame_due None = false
frame_due (Some s) = s.number == 0

-- whole frames since the last frame head, to the nearest, at least 1 and at most 2^32 - 1; "a frame record later than the head counts as gap
-- 0, which `new_frame` raises to 1"
unfoldable pub gap_of : ℕ → ℕ → ℕ → ℕ
gap_of n at last = min (2 ^ 32 - 1) (max 1 ((at - last + 60 * n) / (120 * n)))

-- "Frame numbers are u32 and wrap."
unfoldable pub frame_of : ℕ → ℕ → Option FrameHead → ℕ
frame_of n at None = 0
frame_of n at (Some s) = (s.frame + gap_of n at s.at) % 2 ^ 32

-- a frame begins
unfoldable pub framed_of : ℕ → Course → ℕ → Course
framed_of n c at =
    let f = frame_of n at c.last in
    record { majority = c.majority; slot = slot_in 0 f; last = last_head at f; misses = c.misses; stray = c.stray; missed = c.missed }

-- "the two marker counters stay at 2^32 - 1"
unfoldable pub tick_of : ℕ → ℕ
tick_of k = min (2 ^ 32 - 1) (k + 1)

-- the course with other counts, or another majority and slot
abbrev pub with_misses : Course → ℕ → ℕ → Course
with_misses c misses missed = record { majority = c.majority; slot = c.slot; last = c.last; misses = misses; stray = c.stray; missed = missed }

abbrev pub with_stray : Course → ℕ → Course
with_stray c stray = record { majority = c.majority; slot = c.slot; last = c.last; misses = c.misses; stray = stray; missed = c.missed }

abbrev pub with_sign : Course → ℤ → Option SlotNumber → Course
with_sign c majority slot = record { majority = majority; slot = slot; last = c.last; misses = c.misses; stray = c.stray; missed = c.missed }

-- at an expected frame head: a mark ends the misses; the first miss begins a frame too; "two missed markers in a row lose"
unfoldable pub due_of : ℕ → Bool → Course → ℕ → Marked
due_of n marked c at =
    when marked
    then record { lost = false; course = framed_of n (with_misses c 0 c.missed) at }
    else when nat_lt c.misses 1
    then record { lost = false; course = framed_of n (with_misses c (c.misses + 1) (tick_of c.missed)) at }
    else record { lost = true; course = c }

-- where no frame head is expected: the first mark of all begins the numbers, any other is a stray
unfoldable pub elsewhere_of : ℕ → Bool → Course → ℕ → Course
elsewhere_of n marked c at =
    when marked then when unknown_slot c.slot then framed_of n c at else with_stray c (tick_of c.stray) else c

-- the course after an F head of this sign: the slot's number goes on, and the mark is judged by the majority before it
unfoldable pub fsync_course : ℕ → Bool → Course → ℕ → Marked
fsync_course n positive c at =
    let marked = marks_of positive c.majority in
    let slot = next_slot c.slot in
    let d = with_sign c (swayed_of positive c.majority) slot in
    when frame_due slot then due_of n marked d at else record { lost = false; course = elsewhere_of n marked d at }
