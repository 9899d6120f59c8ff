-- `phase::ranged::pushed` meets its contract. Assumes nothing.
use Rattle.std.specs.Prelude.{Some}
use mathlib.Core.Path.{sym, ap}
use native.Mathlib.Omega.{arith}
use borrow.Author.Tests.{lt-ltb, le-ltb}
use lib.ListN.{length-set}
use mir.Facts.{to_z-of_z}
use Rattle.laws.specs.Choice.{cases, if_yes, if_no}
use Rattle.phase.specs.Phase.{pushed_in, stored_in, counted_in}
use Rattle.phase.proofs.ranged.pushed.Goals as goal

pub bounds-store-k-then-x-lt9296 : goal.bounds-store-k-then-x-lt9296
bounds-store-k-then-x-lt9296 c = rw (length-set c.args.store.now _ _) (omega (arith, c.requires, c.if-x-lt9296.true))

pub returns-in-None : goal.returns-in-None
unfolding pushed_in stored_in
returns-in-None c = search cases

pub returns-then-x-lt9296 : goal.returns-then-x-lt9296
unfolding pushed_in stored_in counted_in
returns-then-x-lt9296 c =
    let t = lt-ltb _ _ c.if-x-lt9296.true in
    rw (c.in-Some.is, to_z-of_z c.ranges.i, to_z-of_z c.ranges.q) (ap Some (sym (if_yes _ _ _ t)), sym (if_yes _ _ _ t))

pub returns-else-x-lt9296 : goal.returns-else-x-lt9296
unfolding pushed_in stored_in counted_in
returns-else-x-lt9296 c =
    let t = le-ltb _ _ c.if-x-lt9296.false in
    rw c.in-Some.is (ap Some (sym (if_no _ _ _ t)), sym (if_no _ _ _ t))
