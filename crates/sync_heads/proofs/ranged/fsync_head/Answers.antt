-- `sync_heads::ranged::fsync_head` meets its contract: what the calls gave. Assumes nothing.
use Rattle.laws.specs.Choice.{if_no, if_yes}
use Rattle.sync_heads.proofs.Laws.{said_small}
use Rattle.sync_heads.specs.Frames.{fsync_course}
use Rattle.sync_heads.specs.Heads.{fsync_of, is_fsync}
use Rattle.sync_heads.specs.Words.{said_of}
use Rattle.std.proofs.Common.{◌≡◌, false, ◌∙◌}
use Rattle.sync_heads.proofs.ranged.fsync_head.Goals as goal

pub said-w-requires : goal.said-w-requires
said-w-requires c = (c.requires.0.small, c.requires.2)

pub fsync_course-m-requires : goal.fsync_course-m-requires
fsync_course-m-requires c = (c.requires.0.at, c.requires.1)

pub head_of-requires : goal.head_of-requires
head_of-requires c = rw c.said-w.ensures (said_small false c.args.r.both c.args.last c.requires.0.small)

pub returns-then-m : goal.returns-then-m
unfolding fsync_of
returns-then-m c =
    let s = c.args in
    let e : c.fsync_course-m.result ≡ fsync_course 9296 (is_fsync (said_of false s.r.both s.last).word) s.c s.r.at =
    c.fsync_course-m.ensures ∙ rw (c.is_fsync.ensures, c.said-w.ensures)
    in
    rw (e, if_yes _ _ _ (rw e at c.if-m.true))

pub returns-else-m : goal.returns-else-m
unfolding fsync_of
returns-else-m c =
    let s = c.args in
    let e : c.fsync_course-m.result ≡ fsync_course 9296 (is_fsync (said_of false s.r.both s.last).word) s.c s.r.at =
    c.fsync_course-m.ensures ∙ rw (c.is_fsync.ensures, c.said-w.ensures)
    in
    rw (c.head_of.ensures, c.said-w.ensures, e, if_no _ _ _ (rw e at c.if-m.false))
