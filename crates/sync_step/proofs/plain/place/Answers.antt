use Prim.Native.Nat.{◌-◌}
use Rattle.sync_step.specs.Step.{place_of}
use mathlib.Core.Path.{refl}
use native.Mathlib.Nat.{mod-lt}
use native.Mathlib.Omega.{arith}
use Rattle.sync_step.proofs.plain.place.Goals as goal

pub returns-then-t-lt23 : goal.returns-then-t-lt23
unfolding place_of
returns-then-t-lt23 c = (omega arith, omega arith)

pub returns-else-t-lt23 : goal.returns-else-t-lt23
unfolding place_of
returns-else-t-lt23 c = (refl, mod-lt (c.args.t - 23) {m = 9296} (omega arith))
