use Prim.Native.Nat.{◌<◌, ◌≤◌}
use Rattle.laws.specs.Choice.{if_no, if_yes}
use Rattle.sync_block.specs.Reach.{loud_place}
use Rattle.sync_step.specs.Step.{is_locked, offset_of}
use borrow.Author.Rules.{rules}
use borrow.Author.Tests.{le-leb, lt-leb}
use lib.Dec.{leb}
use mathlib.Core.Bool.{◌&&◌, false}
use mathlib.Core.Path.{◌≡◌, sym}
use native.Mathlib.Omega.{arith}
use Rattle.sync_block.proofs.reach.loud_place.Goals as goal

pub returns-in-Search : goal.returns-in-Search
unfolding loud_place is_locked
returns-in-Search c =
    let e : is_locked c.args.k ≡ false = rw c.in-Search.is in
    (sym (if_no (is_locked c.args.k && leb c.args.p (offset_of c.args.k)) (offset_of c.args.k) 9295 (rw e)), omega arith, omega arith)

pub returns-then-p-offset : goal.returns-then-p-offset
unfolding loud_place is_locked offset_of
returns-then-p-offset c =
    let k = c.in-Locked in
    let a = c.args in
    let t : a.p ≤ k.offset = search rules in
    (rw k.is (sym (if_yes (leb a.p k.offset) k.offset 9295 (le-leb a.p k.offset t))), t, search rules)

pub returns-else-p-offset : goal.returns-else-p-offset
unfolding loud_place is_locked offset_of
returns-else-p-offset c =
    let k = c.in-Locked in
    let a = c.args in
    let t : k.offset < a.p = search rules in
    (rw k.is (sym (if_no (leb a.p k.offset) k.offset 9295 (lt-leb a.p k.offset t))), omega arith, omega arith)
