-- `learn::ranged::place` meets its contract. Assumes nothing.
use mathlib.Core.Path.{refl}
use Prim.Native.Nat.{◌%◌, ◌<◌}
use native.Mathlib.Nat.{mod-lt}
use native.Mathlib.Omega.{arith}
use Rattle.learn.specs.Sets.{place_of}
use Rattle.learn.proofs.Laws.{place_below}
use Rattle.learn.proofs.ranged.place.Goals as goal

pub overflow_add-result : goal.overflow_add-result
overflow_add-result c =
    let m : c.args.t % c.labels-n.result < c.labels-n.result = mod-lt c.args.t (omega arith) in
    omega arith

pub returns : goal.returns
unfolding place_of
returns c =
    rw c.labels-n.ensures.0 (refl, place_below c.args.bits c.args.t c.requires)
