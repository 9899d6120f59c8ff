-- `sync_heads::frames::fsync_course` meets its contract: what the calls gave. Assumes nothing.
use Rattle.laws.proofs.Size.{at, back, num}
use Rattle.laws.specs.Choice.{if_no, if_yes}
use Rattle.sync_heads.specs.Frames.{fsync_course, marks_of, next_slot, swayed_of, with_sign}
use Rattle.std.proofs.Common.{◌≡◌, sym, ◌∙◌, w32}
use Rattle.sync_heads.proofs.frames.fsync_course.Lts as lts
use Rattle.sync_heads.proofs.frames.fsync_course.Tie as tie
use Rattle.sync_heads.proofs.frames.fsync_course.Reads as reads
use Rattle.sync_heads.proofs.frames.fsync_course.Goals as goal

-- what the calls gave
marked : (c : (lts.After-marks tie.the-claims reads.Pre reads.Post)) → let s = c.args in c.marks-marked.result ≡ marks_of s.positive s.c.majority
marked c = rw (at w32 (num c.args.c.majority 8 c.requires.1.majority) tt).is at c.marks-marked.ensures

moved : (c : (lts.After-moved_on tie.the-claims reads.Pre reads.Post)) →
    let s = c.args in
    c.moved_on-n.result ≡ with_sign s.c (swayed_of s.positive s.c.majority) (next_slot s.c.slot)
moved c =
    let r = c.swayed in
    c.moved_on-n.ensures ∙ rw (back w32 r.result r.type_inv, r.ensures, (at w32 (num c.args.c.majority 8 c.requires.1.majority) tt).is, c.next_slot-slot.ensures)

pub next_slot-slot-requires : goal.next_slot-slot-requires
next_slot-slot-requires c = c.requires.1.slot

pub swayed-requires : goal.swayed-requires
swayed-requires c = rw (at w32 (num c.args.c.majority 8 c.requires.1.majority) tt).is c.requires.1.majority

pub due-requires : goal.due-requires
due-requires c = (c.requires.0, rw (moved c.before.before) c.requires.1.misses)

pub elsewhere-requires : goal.elsewhere-requires
elsewhere-requires c = c.requires.0

pub returns-then-begins : goal.returns-then-begins
unfolding fsync_course
returns-then-begins c =
    let t = sym c.begins.ensures ∙ c.if-begins.true in
    c.due.ensures ∙ rw (moved c.before.before.before, marked c.before.before.before.before.before.before.before, if_yes _ _ _ (rw c.next_slot-slot.ensures at t))

pub returns-else-begins : goal.returns-else-begins
unfolding fsync_course
returns-else-begins c =
    let t = sym c.begins.ensures ∙ c.if-begins.false in
    rw (c.elsewhere.ensures, moved c.before.before.before, marked c.before.before.before.before.before.before.before, if_no _ _ _ (rw c.next_slot-slot.ensures at t))
