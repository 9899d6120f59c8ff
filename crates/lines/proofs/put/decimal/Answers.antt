-- `lines::put::decimal` meets its contract. Assumes nothing.
use mathlib.Core.Path.{◌≡◌, ◌∙◌}
use Prim.Native.Nat.{suc, ◌-◌}
use native.Mathlib.Omega.{arith}
use lib.ListN.{length-set}
use Rattle.lines.proofs.Digits.{digits_begin, digits_turn, digits_end, places_left, fewer_left}
use Rattle.lines.proofs.put.decimal.Goals as goal

pub loop-rest-init : goal.loop-rest-init
loop-rest-init c =
    let a = c.args in
    (length-set a.out.now 19 _ ∙ c.told-out, omega arith, omega arith, digits_begin a.n a.out.now c.told-out)

pub overflow_sub-i : goal.overflow_sub-i
overflow_sub-i c = places_left c.loop-rest.i c.loop-rest.rest c.loop-rest-test.true c.loop-rest.invariant.2

pub loop-rest-preserved : goal.loop-rest-preserved
loop-rest-preserved c =
    let l = c.loop-rest in
    let v = l.invariant in
    let p = places_left l.i l.rest c.loop-rest-test.true v.2 in
    let s : l.i ≡ suc (l.i - 1) = omega arith in (
      length-set l.out (l.i - 1) _ ∙ v.0,
      omega arith,
      fewer_left l.i (l.i - 1) l.rest s v.2,
      digits_turn l.i (l.i - 1) l.rest l.out _ s (omega arith) c.loop-rest-test.true v.3,
    )

pub returns : goal.returns
returns c = let l = c.loop-rest in (l.invariant.1, digits_end l.i l.rest l.out _ c.loop-rest-test.false l.invariant.3)
