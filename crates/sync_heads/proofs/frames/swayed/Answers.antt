-- `sync_heads::frames::swayed` meets its contract: the majority is small, so that its neighbours fit. Assumes nothing.
use Rattle.laws.proofs.Size.{abs_add, abs_sub, sfits_abs}
use Rattle.laws.specs.Choice.{if_no, if_yes}
use Rattle.sync_heads.specs.Frames.{swayed_of}
use Rattle.std.proofs.Common.{pos, ◌+ℤ◌, ◌-ℤ◌, arith, to_z-of_z, w32}
use Rattle.sync_heads.proofs.frames.swayed.Goals as goal

pub overflow_add-result : goal.overflow_add-result
overflow_add-result c = rw (to_z-of_z c.ranges.majority) (sfits_abs w32 (c.args.majority +ℤ pos 1) (omega (arith, abs_add c.args.majority (pos 1), c.requires)))

pub overflow_sub-result : goal.overflow_sub-result
overflow_sub-result c = rw (to_z-of_z c.ranges.majority) (sfits_abs w32 (c.args.majority -ℤ pos 1) (omega (arith, abs_sub c.args.majority (pos 1), c.requires)))

pub returns-then-majority-lt8 : goal.returns-then-majority-lt8
unfolding swayed_of
returns-then-majority-lt8 c =
    let m = c.args.majority in
    let f = c.ranges.majority in
    let k = sfits_abs w32 (m +ℤ pos 1) (omega (arith, abs_add m (pos 1), c.requires)) in
    rw (to_z-of_z f, to_z-of_z k, if_yes _ _ _ c.if-positive.true, if_yes _ _ _ (rw (to_z-of_z f) at c.if-majority-lt8.true))

pub returns-else-majority-lt8 : goal.returns-else-majority-lt8
unfolding swayed_of
returns-else-majority-lt8 c =
    let f = c.ranges.majority in
    rw (if_yes _ _ _ c.if-positive.true, if_no _ _ _ (rw (to_z-of_z f) at c.if-majority-lt8.false))

pub returns-then-majority-gtminus8 : goal.returns-then-majority-gtminus8
unfolding swayed_of
returns-then-majority-gtminus8 c =
    let m = c.args.majority in
    let f = c.ranges.majority in
    let k = sfits_abs w32 (m -ℤ pos 1) (omega (arith, abs_sub m (pos 1), c.requires)) in
    rw (to_z-of_z f, to_z-of_z k, if_no _ _ _ c.if-positive.false, if_yes _ _ _ (rw (to_z-of_z f) at c.if-majority-gtminus8.true))

pub returns-else-majority-gtminus8 : goal.returns-else-majority-gtminus8
unfolding swayed_of
returns-else-majority-gtminus8 c =
    let f = c.ranges.majority in
    rw (if_no _ _ _ c.if-positive.false, if_no _ _ _ (rw (to_z-of_z f) at c.if-majority-gtminus8.false))
