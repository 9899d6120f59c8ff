use mathlib.Core.List.{◌++◌}
use mathlib.Core.Path.{◌≡◌}
use Prim.Native.Nat.{◌^◌, ◌<◌}
use lib.ListN.{length, drop}
use Rattle.lines.specs.Decimal.{decimal_of}
use Rattle.lines.proofs.Digits.{front}
use Rattle.lines.proofs.put.decimal.Given as goal

abbrev pub invariant-loop-rest : goal.invariant-loop-rest
invariant-loop-rest l = (length l.out ≡ 20) × (l.i < 20) × (l.rest < 10 ^ l.i) × (front l.i l.rest ++ drop l.i l.out ≡ decimal_of l.n)

abbrev pub decreases-loop-rest : goal.decreases-loop-rest
decreases-loop-rest l = l.rest
