use mathlib.Core.List.{◌++◌}
use mathlib.Core.Path.{◌≡◌}
use lib.ListN.{drop}
use Rattle.laws.specs.Ranges.{firsts}
use Rattle.capture.specs.Bytes.{byte_at}
use Rattle.capture.proofs.symbols.Given as goal

abbrev pub invariant-loop-i : goal.invariant-loop-i
invariant-loop-i l = l.out ≡ firsts (byte_at l.bytes) l.i ++ drop l.i l.initial.out
