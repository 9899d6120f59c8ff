-- `frame_line::ranged::gap` meets its contract. Assumes nothing.
use mathlib.Core.Bool.{true}
use mathlib.Core.Path.{◌≡◌}
use Prim.Native.Nat.{◌^◌}
use native.Mathlib.Omega.{arith}
use lib.Dec.{ltb}
use borrow.Author.Tests.{ltb-true}
use Rattle.frame_line.specs.Ranges.{last_in_range}
use Rattle.frame_line.specs.Line.{gap_at}
use Rattle.frame_line.proofs.ranged.gap.Goals as goal

pub overflow_add-result : goal.overflow_add-result
unfolding last_in_range
overflow_add-result c =
    let a = c.in-Some.a in
    let h : ltb a (2 ^ 62) ≡ true = rw c.in-Some.is at c.requires in
    record { fits = omega (arith, ltb-true a (2 ^ 62) h) }

pub returns-in-None : goal.returns-in-None
unfolding gap_at
returns-in-None c = rw c.in-None.is

pub returns-in-Some : goal.returns-in-Some
unfolding gap_at
returns-in-Some c = rw c.in-Some.is
