-- `demap_replay::told::soft` meets its contract. Assumes nothing.
use Prim.Native.Nat.{◌+◌}
use Rattle.demap_replay.specs.Told.{soft_told}
use Rattle.laws.proofs.Size.{back}
use Rattle.laws.specs.Choice.{if_yes, if_no}
use borrow.Author.Tests.{lt-ltb, le-ltb}
use lib.IntN.{pos}
use lib.ListN.{get_or}
use mathlib.Core.Path.{sym}
use mir.Syntax.{w8}
use Rattle.demap_replay.proofs.told.soft.Goals as goal

pub returns-then-o-lt38 : goal.returns-then-o-lt38
unfolding soft_told
returns-then-o-lt38 c =
    let s = c.args.s.now in
    let o = c.args.o in
    let p = rw (back w8 (get_or s o (pos 0)) c.a-1.given) at c.bits8.ensures in
    let q = rw (back w8 (get_or s (o + 1) (pos 0)) c.b-1.given) at c.bits8-then-o-lt38.ensures in
    let r = rw (back w8 (get_or s (o + 2) (pos 0)) c.c-1.given) at c.bits8-then-o-lt38-2.ensures in
    let t = rw (back w8 (get_or s (o + 3) (pos 0)) c.d-1.given) at c.bits8-then-o-lt38-3.ensures in
    rw (c.told.ensures, p, q, r, t) (sym (if_yes _ _ _ (lt-ltb _ _ c.if-o-lt38.true)))

pub returns-else-o-lt38 : goal.returns-else-o-lt38
unfolding soft_told
returns-else-o-lt38 c = rw c.single.ensures (sym (if_no _ _ _ (le-ltb _ _ c.if-o-lt38.false)))
