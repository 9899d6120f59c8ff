-- `sync_replay::given::course_at` meets its contract. Assumes nothing.
use Rattle.slot_wire.specs.Slots.{slot_of}
use Rattle.sync_replay.specs.Given.{course_of}
use Rattle.sync_replay.proofs.given.course_at.Goals as goal

pub returns : goal.returns
unfolding course_of slot_of
returns c = rw (c.course.ensures, c.record_at.ensures, c.slot-slot.ensures)
