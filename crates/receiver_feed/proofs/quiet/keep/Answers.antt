-- `receiver_feed::quiet::keep` meets its contract. Assumes nothing.
use native.Mathlib.Omega.{arith}
use lib.ListN.{length-set}
use mir.Facts.{to_z-of_z}
use mir.Syntax.{w16}
use mathlib.Core.Path.{sym}
use borrow.Author.Tests.{lt-ltb, le-ltb}
use Rattle.laws.specs.Choice.{if_yes, if_no}
use Rattle.receiver_feed.specs.Quiet.{kept_at}
use Rattle.receiver_feed.proofs.quiet.keep.Goals as goal

pub bounds-store-c-then-c-lt9296 : goal.bounds-store-c-then-c-lt9296
bounds-store-c-then-c-lt9296 c = rw (length-set c.args.store.now _ _) (omega (arith, c.requires, c.if-c-lt9296.true))

pub returns-then-c-lt9296 : goal.returns-then-c-lt9296
unfolding kept_at
returns-then-c-lt9296 c = rw (to_z-of_z {w = w16} c.ranges.i, to_z-of_z {w = w16} c.ranges.q) (sym (if_yes _ _ _ (lt-ltb _ _ c.if-c-lt9296.true)))

pub returns-else-c-lt9296 : goal.returns-else-c-lt9296
unfolding kept_at
returns-else-c-lt9296 c = sym (if_no _ _ _ (le-ltb _ _ c.if-c-lt9296.false))
